-- A piece of the body, or its end.
use Rattle.std.proofs.Common.{◌++◌, ◌∙◌, ℕ, List, ap, refl, slice_range, subst}
use Rattle.http1.specs.declared.conn.Event.TheVariants.{NeedMore, Data, End}
use Rattle.http1.specs.Client.{ClientReads}
use Rattle.otel_http_post.specs.Following.{RefusesKeeping, RefusesPiece}
use Rattle.otel_http_post.proofs.BodyLemmas.{keep_refused}
use Rattle.otel_http_post.proofs.EventLemmas.{takes_as}
use Rattle.otel_http_post.proofs.ResultLemmas.{if_err}
use Rattle.otel_http_post.proofs.body.next_piece.Goals.{in-NeedMore, in-Data+in_ok-keep-in-Data, in-End}
use Rattle.otel_http_post.proofs.body.next_piece.Goals as goal

pub returns-clause-ok : goal.returns-clause-ok
returns-clause-ok c =
    let takes = takes_as c.args.inbox.now.client c.read.new.self c.args.inbox.now.input.items
    c.advance.new.self.items c.read.new.headers c.in-Ok.read in
    let found = subst (λ (bs : List ℕ). ClientReads c.args.inbox.now.client bs c.read.new.headers c.read.new.self
    c.in-Ok.read) c.as_slice.ensures c.in-Ok.ensures.ok in
    elim c.match-read-2.branch [
      | in-NeedMore w ↦ rw (w.body-is, w.step-is) (
        c.read.new.headers,
        NeedMore,
        takes NeedMore found w.in-NeedMore.is c.advance.ensures.items,
        refl,
      )
      | in-Data+in_ok-keep-in-Data w ↦
          let span = w.in-Data.span in
          let piece = w.of.ensures ∙ ap (λ (bs : List ℕ). slice_range bs span.start span.end)
          w.as_slice-in-Data.ensures in
          rw (w.body-is, w.step-is) (
            c.read.new.headers,
            Data span,
            takes (Data span) found w.in-Data.is c.advance.ensures.items,
            w.in_ok-keep-in-Data.ensures.ok ∙ ap (λ (bs : List ℕ). c.args.body.now.items ++ bs) piece,
          )
      | in-End w ↦ rw (w.body-is, w.step-is) (
        c.read.new.headers,
        End w.in-End.field-0,
        takes (End w.in-End.field-0) found w.in-End.is c.advance.ensures.items,
        refl,
      )
    ]

pub returns-in_err-keep-in-Data-clause-err : goal.returns-in_err-keep-in-Data-clause-err
returns-in_err-keep-in-Data-clause-err c = λ decoder reading.
    let input = c.args.inbox.now.input.items in
    let span = c.in-Data.span in
    let limit = c.args.limit in
    let why = c.in_err-keep-in-Data.field-0.0 in
    let found = subst (λ (bs : List ℕ). ClientReads c.args.inbox.now.client bs c.read.new.headers c.read.new.self
    c.in-Ok.read) c.as_slice.ensures c.in-Ok.ensures.ok in
    let piece = c.of.ensures ∙ ap (λ (bs : List ℕ). slice_range bs span.start span.end) c.as_slice-in-Data.ensures in
    if_err c.from_residual.result why (RefusesPiece decoder input c.args.body.now.items limit)
    c.from_residual.ensures.1 (keep_refused c.args.inbox.now.client c.read.new.self decoder input
    c.args.body.now.items c.read.new.headers c.in-Ok.read span limit why reading found c.in-Data.is
    (subst (λ (bs : List ℕ). RefusesKeeping limit c.args.body.now.items bs why) piece
    c.in_err-keep-in-Data.ensures.err))
