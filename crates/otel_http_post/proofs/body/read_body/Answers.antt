-- One piece more, or more bytes.
use Rattle.std.proofs.Common.{[], ◌++◌, ap, refl, subst, Ok, arith}
use Rattle.std.proofs.KnownBytes.{Consumes-kept, Consumes-nil, Consumes-trans}
use Rattle.otel_http_post.specs.Following.{HasBody, LeavesBody, TakesPiece, is_nothing}
use Rattle.otel_http_post.proofs.BodyLemmas.{cut_ends, kept_came, kept_closed, kept_ended, kept_nothing, kept_piece}
use Rattle.otel_http_post.proofs.BodyLemmas.{kept_refused, not_true, nothing_comes, nothing_needed, stream_ends}
use Rattle.otel_http_post.proofs.ResultLemmas.{match_error}
use Rattle.otel_http_post.proofs.body.read_body.Goals.{in-Kept, in-More+in_ok-fill-in-More+else-branch-eq0}
use Rattle.otel_http_post.proofs.body.read_body.Goals as goal

pub pieces-init : goal.pieces-init
pieces-init g c =
    let none = c.new-body.ensures.items in (
      (
        [],
        Consumes-nil _,
        λ first begins. (
          kept_nothing c.args.inbox.now.client first c.args.inbox.now.input.items c.new-body.result.items none begins,
          λ nothing. refl,
        ),
      ),
      omega arith,
    )

pub returns-in-Ended-clause-read : goal.returns-in-Ended-clause-read
returns-in-Ended-clause-read g c =
    let read = c.pieces.invariant.0 in
    let begun = c.args.inbox.now.client in
    let old = c.pieces.inbox in
    let new = c.next_piece.new.inbox in
    let kept = c.next_piece.new.body.items in
    let takes = subst (TakesPiece old.client old.input.items c.pieces.body.items new.client new.input.items kept)
    c.in-Ended.is c.in_ok-next_piece.ensures.ok in (
      read.0,
      read.1,
      λ first begins. kept_ended begun first begins (c.args.inbox.now.input.items ++ read.0)
          (g.R.Read.remaining c.pieces.reader) c.args.limit old.client new.client old.input.items new.input.items
          c.pieces.body.items kept (read.2 first begins).0 takes
          (c.in_ok-next_piece.ensures.within c.pieces.invariant.1),
    )

pub returns-then-branch-eq0-clause-read : goal.returns-then-branch-eq0-clause-read
returns-then-branch-eq0-clause-read g c =
    let read = c.pieces.invariant.0 in
    let begun = c.args.inbox.now.client in
    let old = c.pieces.inbox in
    let new = c.next_piece.new.inbox in
    let filled = c.fill.new.self in
    let kept = c.next_piece.new.body.items in
    let takes = subst (TakesPiece old.client old.input.items c.pieces.body.items new.client new.input.items kept)
    c.in-More.is c.in_ok-next_piece.ensures.ok in
    let came = c.in_ok-fill-in-More.ensures.ok in
    let end = c.in_ok-end_of_stream-in-More.ensures in (
      read.0 ++ came.0,
      Consumes-trans _ _ _ read.0 came.0 read.1 came.3,
      λ first begins. kept_closed begun first begins (c.args.inbox.now.input.items ++ (read.0 ++ came.0))
          (g.R.Read.remaining c.fill.new.reader) c.args.limit filled.client c.end_of_stream.new.inbox.client
          filled.input.items c.end_of_stream.new.inbox.input.items kept
          (kept_came begun first c.args.inbox.now.input.items read.0 came.0 old.client new.client filled.client
          old.input.items new.input.items filled.input.items c.pieces.body.items kept (read.2 first begins).0 takes
          c.fill.ensures.client came.2) end.until_close end.nothing_left.0 end.nothing_left.1 end.closes
          (c.in_ok-fill-in-More.ensures.end (ap Ok c.if-branch-eq0.true))
          (c.in_ok-next_piece.ensures.within c.pieces.invariant.1),
    )

pub pieces-preserved : goal.pieces-preserved
pieces-preserved g c =
    let read = c.pieces.invariant.0 in
    let begun = c.args.inbox.now.client in
    let before = c.args.inbox.now.input.items in
    let old = c.pieces.inbox in
    let new = c.next_piece.new.inbox in
    let kept = c.next_piece.new.body.items in
    let step = TakesPiece old.client old.input.items c.pieces.body.items new.client new.input.items kept in
    let within = c.in_ok-next_piece.ensures.within c.pieces.invariant.1 in
    elim c.match-branch-2.branch [
      | in-Kept w ↦
          let takes = subst step w.in-Kept.is c.in_ok-next_piece.ensures.ok in
          rw (w.inbox-is, w.reader-is) (
            (
              read.0,
              read.1,
              λ first begins.
                  let h = (read.2 first begins).0 in (
                    kept_piece begun first (before ++ read.0) old.client new.client old.input.items new.input.items
                        c.pieces.body.items kept h takes,
                    λ nothing. absurd (nothing_comes begun first (before ++ read.0) old.client new.client
                        old.input.items new.input.items c.pieces.body.items kept h nothing takes),
                  ),
            ),
            within,
          )
      | in-More+in_ok-fill-in-More+else-branch-eq0 w ↦
          let takes = subst step w.in-More.is c.in_ok-next_piece.ensures.ok in
          let came = w.in_ok-fill-in-More.ensures.ok in
          rw (w.inbox-is, w.reader-is) (
            (
              read.0 ++ came.0,
              Consumes-trans _ _ _ read.0 came.0 read.1 came.3,
              λ first begins.
                  let h = (read.2 first begins).0 in (
                    kept_came begun first before read.0 came.0 old.client new.client w.fill.new.self.client
                        old.input.items new.input.items w.fill.new.self.input.items c.pieces.body.items kept h takes
                        w.fill.ensures.client came.2,
                    λ nothing. absurd (nothing_needed begun first (before ++ read.0) old.client new.client
                        old.input.items new.input.items c.pieces.body.items kept h nothing takes),
                  ),
            ),
            within,
          )
    ]

pub returns-in_err-next_piece-clause-read : goal.returns-in_err-next_piece-clause-read
returns-in_err-next_piece-clause-read g c =
    let read = c.pieces.invariant.0 in
    let begun = c.args.inbox.now.client in
    let stream = c.args.inbox.now.input.items ++ read.0 in
    let left = g.R.Read.remaining c.pieces.reader in
    let limit = c.args.limit in
    let old = c.pieces.inbox in
    let new = c.next_piece.new.inbox in
    let why = c.in_err-next_piece.field-0.0 in (
      read.0,
      read.1,
      λ first begins. match_error c.from_residual.result why
          (λ body. HasBody begun first stream left limit body.items new.client new.input.items)
          (LeavesBody first stream left limit) c.from_residual.ensures.1 (kept_refused begun first begins stream left
          limit old.client old.input.items c.pieces.body.items why (read.2 first begins).0
          c.in_err-next_piece.ensures.err),
    )

pub returns-in_err-fill-in-More-clause-read : goal.returns-in_err-fill-in-More-clause-read
returns-in_err-fill-in-More-clause-read g c =
    let read = c.pieces.invariant.0 in
    let begun = c.args.inbox.now.client in
    let stream = c.args.inbox.now.input.items ++ read.0 in
    let left = g.R.Read.remaining c.fill.new.reader in
    let limit = c.args.limit in
    let old = c.pieces.inbox in
    let between = c.next_piece.new.inbox in
    let new = c.fill.new.self in
    let kept = c.next_piece.new.body.items in
    let takes = subst (TakesPiece old.client old.input.items c.pieces.body.items between.client between.input.items
    kept) c.in-More.is c.in_ok-next_piece.ensures.ok in
    let why = c.in_err-fill-in-More.field-0.0 in (
      read.0,
      Consumes-kept _ _ _ read.0 read.1 c.in_err-fill-in-More.ensures.err,
      λ first begins. match_error c.from_residual-in_err-fill-in-More.result why
          (λ body. HasBody begun first stream left limit body.items new.client new.input.items)
          (LeavesBody first stream left limit) c.from_residual-in_err-fill-in-More.ensures.1 (
            stream_ends begun first begins stream left limit why c.in_err-fill-in-More.ensures.failed,
            not_true (is_nothing first) (λ nothing. nothing_needed begun first stream old.client between.client
                old.input.items between.input.items c.pieces.body.items kept (read.2 first begins).0 nothing takes),
          ),
    )

pub returns-in_err-end_of_stream-in-More-clause-read : goal.returns-in_err-end_of_stream-in-More-clause-read
returns-in_err-end_of_stream-in-More-clause-read g c =
    let read = c.pieces.invariant.0 in
    let came = c.in_ok-fill-in-More.ensures.ok in
    let begun = c.args.inbox.now.client in
    let stream = c.args.inbox.now.input.items ++ (read.0 ++ came.0) in
    let left = g.R.Read.remaining c.fill.new.reader in
    let limit = c.args.limit in
    let old = c.pieces.inbox in
    let between = c.next_piece.new.inbox in
    let new = c.end_of_stream.new.inbox in
    let kept = c.next_piece.new.body.items in
    let takes = subst (TakesPiece old.client old.input.items c.pieces.body.items between.client between.input.items
    kept) c.in-More.is c.in_ok-next_piece.ensures.ok in
    let why = c.in_err-end_of_stream-in-More.field-0.0 in (
      read.0 ++ came.0,
      Consumes-trans _ _ _ read.0 came.0 read.1 came.3,
      λ first begins. match_error c.from_residual-in_err-end_of_stream-in-More.result why
          (λ body. HasBody begun first stream left limit body.items new.client new.input.items)
          (LeavesBody first stream left limit) c.from_residual-in_err-end_of_stream-in-More.ensures.1 (
            cut_ends first stream left limit why c.in_err-end_of_stream-in-More.ensures.err
                (c.in_ok-fill-in-More.ensures.end (ap Ok c.if-branch-eq0.true)),
            not_true (is_nothing first) (λ nothing. nothing_needed begun first
                (c.args.inbox.now.input.items ++ read.0) old.client between.client old.input.items between.input.items
                c.pieces.body.items kept (read.2 first begins).0 nothing takes),
          ),
    )

pub returns-clause-read : goal.returns-clause-read
returns-clause-read g c =
    let read = c.pieces.invariant.0 in (
      read.0,
      read.1,
      λ first begins. (
        tt,
        not_true (is_nothing first) (λ nothing.
            let none = (read.2 first begins).1 nothing in
            let far = c.pieces-test.false in
            omega arith),
      ),
    )
