-- One head more, or more bytes.
use Rattle.std.proofs.Common.{◌++◌, [], ap, subst, sym, Ok}
use Rattle.std.proofs.KnownBytes.{Consumes-kept, Consumes-nil, Consumes-trans}
use Rattle.otel_http_post.specs.Following.{HasHead, HasNone, IsWaiting, TakesHead}
use Rattle.otel_http_post.proofs.HeadLemmas.{informs_again, informs_came, informs_head, informs_none, informs_nothing}
use Rattle.otel_http_post.proofs.HeadLemmas.{stream_none}
use Rattle.otel_http_post.proofs.ResultLemmas.{match_error}
use Rattle.otel_http_post.proofs.head.read_head.Goals.{in-Informed, in-More+in_ok-fill-in-More+else-branch-eq0}
use Rattle.otel_http_post.proofs.head.read_head.Goals as goal

pub heads-init : goal.heads-init
heads-init g c = ([], Consumes-nil _, λ waits. informs_nothing c.args.inbox.now.client c.args.inbox.now.input.items)

pub returns-in-Found-clause-read : goal.returns-in-Found-clause-read
returns-in-Found-clause-read g c =
    let read = c.heads.invariant in
    let new = c.next_head.new.inbox in
    let takes = subst (TakesHead c.heads.inbox.client c.heads.inbox.input.items new.client new.input.items)
    c.in-Found.is c.in_ok-head.ensures.ok in (
      read.0,
      read.1,
      λ waits. informs_head c.args.inbox.now.client waits _ c.heads.inbox.client new.client
          c.heads.inbox.input.items new.input.items (read.2 waits) c.in-Found.head takes,
    )

pub returns-then-branch-eq0-clause-read : goal.returns-then-branch-eq0-clause-read
returns-then-branch-eq0-clause-read g c =
    let read = c.heads.invariant in
    let came = c.in_ok-fill-in-More.ensures.ok in (
      read.0 ++ came.0,
      Consumes-trans _ _ _ read.0 came.0 read.1 came.3,
      λ waits. c.in_ok-fill-in-More.ensures.end (ap Ok c.if-branch-eq0.true),
    )

pub heads-preserved : goal.heads-preserved
heads-preserved g c =
    let read = c.heads.invariant in
    let begun = c.args.inbox.now.client in
    let new = c.next_head.new.inbox in
    let step = TakesHead c.heads.inbox.client c.heads.inbox.input.items new.client new.input.items in
    elim c.match-branch-2.branch [
      | in-Informed w ↦
          let takes = subst step w.in-Informed.is c.in_ok-head.ensures.ok in
          rw (w.inbox-is, w.reader-is) (
            read.0,
            read.1,
            λ waits. informs_again begun waits _ c.heads.inbox.client new.client c.heads.inbox.input.items
                new.input.items (read.2 waits) takes,
          )
      | in-More+in_ok-fill-in-More+else-branch-eq0 w ↦
          let takes = subst step w.in-More.is c.in_ok-head.ensures.ok in
          let came = w.in_ok-fill-in-More.ensures.ok in
          rw (w.inbox-is, w.reader-is) (
            read.0 ++ came.0,
            Consumes-trans _ _ _ read.0 came.0 read.1 came.3,
            λ waits. informs_came begun waits c.args.inbox.now.input.items read.0 came.0 c.heads.inbox.client
                new.client _ c.heads.inbox.input.items new.input.items _
                (read.2 waits) takes w.fill.ensures.client came.2,
          )
    ]

pub returns-in_err-head-clause-read : goal.returns-in_err-head-clause-read
returns-in_err-head-clause-read g c =
    let read = c.heads.invariant in
    let begun = c.args.inbox.now.client in
    let stream = c.args.inbox.now.input.items ++ read.0 in
    let left = g.R.Read.remaining c.heads.reader in
    let old = c.heads.inbox in
    let new = c.next_head.new.inbox in
    let why = c.in_err-head.field-0.0 in (
      read.0,
      read.1,
      λ waits. match_error c.from_residual.result why (HasHead begun stream new.client new.input.items)
          (HasNone begun stream left) c.from_residual.ensures.1 (informs_none begun waits stream old.client
          old.client old.input.items old.input.items (read.2 waits) why left
          (c.in_err-head.ensures.err (subst IsWaiting (sym (read.2 waits).waits) waits))),
    )

pub returns-in_err-fill-in-More-clause-read : goal.returns-in_err-fill-in-More-clause-read
returns-in_err-fill-in-More-clause-read g c =
    let read = c.heads.invariant in
    let begun = c.args.inbox.now.client in
    let stream = c.args.inbox.now.input.items ++ read.0 in
    let left = g.R.Read.remaining c.fill.new.reader in
    let new = c.fill.new.self in
    let why = c.in_err-fill-in-More.field-0.0 in (
      read.0,
      Consumes-kept _ _ _ read.0 read.1 c.in_err-fill-in-More.ensures.err,
      λ waits. match_error c.from_residual-in_err-fill-in-More.result why
          (HasHead begun stream new.client new.input.items) (HasNone begun stream left)
          c.from_residual-in_err-fill-in-More.ensures.1
          (stream_none begun stream left why c.in_err-fill-in-More.ensures.failed),
    )
