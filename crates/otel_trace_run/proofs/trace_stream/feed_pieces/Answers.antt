-- One piece more.
use Rattle.std.specs.Prelude.{◌⊎◌}
use Rattle.otel_trace_run.specs.declared.run_end.RunEnd.TheVariants as ends
use Rattle.std.proofs.Common.{◌≡◌, ◌+◌, ◌∙◌, ℕ, List, [], true, false, length, Result, Err, ap, refl, subst, sym, rules}
use Rattle.std.specs.Str.Lines.{lines}
use Rattle.opentelemetry.proofs.Clauses.{always_on_err}
use Rattle.otel_trace_lines.specs.ReplyForm.{Form}
use Rattle.otel_trace_session.specs.Calls.{Calls, calls_of}
use Rattle.otel_trace_session.specs.Turns.{SessionState}
use Rattle.otel_trace_session.specs.declared.session.FeedError.{FeedError}
use Rattle.otel_trace_session.specs.declared.session.FeedError.TheVariants as feeds
use Rattle.otel_trace_session.specs.Pieces.{PlainPieces}
use Rattle.otel_trace_run.specs.Streams.{streams}
use Rattle.otel_trace_run.specs.TraceRuns.{FeedsPiece}
use Rattle.otel_trace_run.proofs.BadLines.{IsFound}
use Rattle.otel_trace_run.proofs.TraceEnds.{begun_whole, fed_bad}
use Rattle.otel_trace_run.proofs.TraceStream.{HasTraced, begun_breaking, begun_failing, begun_reading, begun_turning, traced_all, traced_bad, traced_more, traced_none, traced_why}
use Rattle.otel_trace_run.proofs.trace_stream.feed_pieces.Goals as goal

-- what feeding a piece did, in the form that the stream began with
piece_fed : {P S G T : Type 0} (calls : Calls P S G) (form now : Form) (old new : SessionState P S G) (bytes lines : List ℕ) (fed : Result T FeedError) (Written : List ℕ → Type 0)
    → now ≡ form → bytes ≡ lines → FeedsPiece calls now old bytes fed Written new → FeedsPiece calls form old lines fed Written new
piece_fed calls form now old new bytes lines fed Written same are h =
    subst (λ (f : Form). FeedsPiece calls f old lines fed Written new) same (subst (λ (bs : List ℕ). FeedsPiece calls now old bs fed Written new) are h)

pub loop-init : goal.loop-init
loop-init g c =
    let calls = calls_of g.P.SpanProcessor g.P.Timed g.P.CountsLeftSpans g.P.KeepsBatches g.S.ShouldSample g.G.GivesIds in
    let form = g.F.ReplyForm.form c.args.form.now in
    let begun = c.args.session.now in
    let empty : c.new-pieces.result.rest ≡ [] = ap (λ (p : PlainPieces). p.rest) c.new-pieces.ensures in (
      refl,
      subst (λ (rest : List ℕ). HasTraced calls form begun begun
          (streams (g.R.Read.remaining c.args.input.now) (g.R.Read.remaining c.args.input.now) (g.W.Write.contents c.args.output.now) (g.W.Write.contents c.args.output.now)) rest 0)
          (sym empty) (traced_none calls form begun (g.R.Read.remaining c.args.input.now) (g.W.Write.contents c.args.output.now)),
    )

pub returns-in_err-goes_on-clause-err : goal.returns-in_err-goes_on-clause-err
returns-in_err-goes_on-clause-err g c =
    let calls = calls_of g.P.SpanProcessor g.P.Timed g.P.CountsLeftSpans g.P.KeepsBatches g.S.ShouldSample g.G.GivesIds in
    let form = g.F.ReplyForm.form c.args.form.now in
    always_on_err c.from_residual.result
    (begun_whole calls form (c.args.session.now) _ _ _ (begun_reading calls form (c.args.session.now)
    (c.loop.session) _ _ _ _ _ c.loop.pieces.rest c.loop.before c.read_on.new.self c.loop.invariant.1 c.in_err-goes_on.ensures.err))

pub returns-in_err-feed_piece-clause-err : goal.returns-in_err-feed_piece-clause-err
returns-in_err-feed_piece-clause-err g c =
    let calls = calls_of g.P.SpanProcessor g.P.Timed g.P.CountsLeftSpans g.P.KeepsBatches g.S.ShouldSample g.G.GivesIds in
    let form = g.F.ReplyForm.form c.args.form.now in
    let h = c.in_err-feed_piece.ensures.err in
    let next = c.feed_piece.new.session in
    let piece = piece_fed calls form _ (c.loop.session) next _ _ h.0 _ c.loop.invariant.0 c.lines.ensures h.1 in
    always_on_err c.from_residual-in_err-feed_piece.result
    (begun_breaking calls form (c.args.session.now)
    (c.loop.session) next _ _ _ _ _ _ c.loop.pieces.rest c.loop.before c.in_ok-goes_on.goes_on c.read_on.new.self h.0 c.loop.invariant.1 c.in_ok-goes_on.ensures.ok piece)

pub returns-in-Err-Line-clause-ok : goal.returns-in-Err-Line-clause-ok
returns-in-Err-Line-clause-ok g c =
    let calls = calls_of g.P.SpanProcessor g.P.Timed g.P.CountsLeftSpans g.P.KeepsBatches g.S.ShouldSample g.G.GivesIds in
    let form = g.F.ReplyForm.form c.args.form.now in
    let begun = c.args.session.now in
    let fed = c.in_ok-feed_piece.field-0 in
    let next = c.feed_piece.new.session in
    let piece = piece_fed calls form _ (c.loop.session) next _ _ fed _ c.loop.invariant.0 c.lines.ensures c.in_ok-feed_piece.ensures.ok in
    let bad : fed ≡ Err (feeds.Line c.in-Err-Line.line) = search rules in
    let s = streams (g.R.Read.remaining c.args.input.now) (g.R.Read.remaining c.read_on.new.reader) (g.W.Write.contents c.args.output.now) (g.W.Write.contents c.feed_piece.new.output) in
    let reason = c.reason_at-reason.result in
    let ended = c.bad_line_after.result in
    let found : IsFound c.read_on.new.self.lines c.in-Err-Line.line reason =
    subst (λ (text : List ℕ). IsFound text c.in-Err-Line.line reason) c.lines-in-Err-Line.ensures
    (subst (λ (n : ℕ). IsFound c.lines-in-Err-Line.result.now n reason) c.in-Err-Line.line-is (c.reason_at-reason.ensures.some, c.reason_at-reason.ensures.none)) in
    fed_bad calls form begun next s (c.loop.before + c.in-Err-Line.line) reason ended (subst (λ (n : ℕ). (ended ≡ ends.Failed) ⊎ (ended ≡ ends.BadLine (c.loop.before + n) reason)) c.in-Err-Line.line-is c.bad_line_after.ensures)
    (traced_bad calls form begun
    (c.loop.session) next _ _ _ _ _ _ c.loop.pieces.rest c.loop.before c.in-Err-Line.line c.in_ok-goes_on.goes_on c.read_on.new.self fed c.loop.invariant.1 c.in_ok-goes_on.ensures.ok bad piece)
    (traced_why calls form begun
    (c.loop.session) next _ _ _ _ _ _ c.loop.pieces.rest c.loop.before c.in-Err-Line.line c.in_ok-goes_on.goes_on c.read_on.new.self fed reason c.loop.invariant.1 c.in_ok-goes_on.ensures.ok bad piece found)
    (begun_failing calls form begun
    (c.loop.session) next _ _ _ _ _ _ c.loop.pieces.rest c.loop.before c.in_ok-goes_on.goes_on c.read_on.new.self fed c.loop.invariant.1 c.in_ok-goes_on.ensures.ok piece)

pub returns-in-Err-Memory : goal.returns-in-Err-Memory
returns-in-Err-Memory g c =
    let calls = calls_of g.P.SpanProcessor g.P.Timed g.P.CountsLeftSpans g.P.KeepsBatches g.S.ShouldSample g.G.GivesIds in
    let form = g.F.ReplyForm.form c.args.form.now in
    let fed = c.in_ok-feed_piece.field-0 in
    let next = c.feed_piece.new.session in
    let piece = piece_fed calls form _ (c.loop.session) next _ _ fed _ c.loop.invariant.0 c.lines.ensures c.in_ok-feed_piece.ensures.ok in
    record {
      ok = begun_failing calls form (c.args.session.now)
          (c.loop.session) next _ _ _ _ _ _ c.loop.pieces.rest c.loop.before c.in_ok-goes_on.goes_on c.read_on.new.self fed c.loop.invariant.1 c.in_ok-goes_on.ensures.ok piece;
      err = tt;
      form = c.feed_piece.ensures.form ∙ c.loop.invariant.0;
    }

pub returns-then-not-goes_on-clause-ok : goal.returns-then-not-goes_on-clause-ok
returns-then-not-goes_on-clause-ok g c =
    let calls = calls_of g.P.SpanProcessor g.P.Timed g.P.CountsLeftSpans g.P.KeepsBatches g.S.ShouldSample g.G.GivesIds in
    let form = g.F.ReplyForm.form c.args.form.now in
    let fed = c.in_ok-feed_piece.field-0 in
    let next = c.feed_piece.new.session in
    let last : c.in_ok-goes_on.goes_on ≡ false = search rules in
    let piece = piece_fed calls form _ (c.loop.session) next _ _ fed _ c.loop.invariant.0 c.lines.ensures c.in_ok-feed_piece.ensures.ok in
    traced_all calls form (c.args.session.now)
    (c.loop.session) next _ _ _ _ _ _ c.loop.pieces.rest c.loop.before c.in_ok-goes_on.goes_on c.read_on.new.self fed _ c.loop.invariant.1 c.in_ok-goes_on.ensures.ok last c.in-Ok.is piece

pub returns-in-None-clause-ok : goal.returns-in-None-clause-ok
returns-in-None-clause-ok g c =
    let calls = calls_of g.P.SpanProcessor g.P.Timed g.P.CountsLeftSpans g.P.KeepsBatches g.S.ShouldSample g.G.GivesIds in
    let form = g.F.ReplyForm.form c.args.form.now in
    let fed = c.in_ok-feed_piece.field-0 in
    let next = c.feed_piece.new.session in
    let piece = piece_fed calls form _ (c.loop.session) next _ _ fed _ c.loop.invariant.0 c.lines.ensures c.in_ok-feed_piece.ensures.ok in
    begun_failing calls form (c.args.session.now)
    (c.loop.session) next _ _ _ _ _ _ c.loop.pieces.rest c.loop.before c.in_ok-goes_on.goes_on c.read_on.new.self fed c.loop.invariant.1 c.in_ok-goes_on.ensures.ok piece

pub loop-preserved : goal.loop-preserved
loop-preserved g c =
    let calls = calls_of g.P.SpanProcessor g.P.Timed g.P.CountsLeftSpans g.P.KeepsBatches g.S.ShouldSample g.G.GivesIds in
    let form = g.F.ReplyForm.form c.args.form.now in
    let fed = c.in_ok-feed_piece.field-0 in
    let next = c.feed_piece.new.session in
    let more : c.in_ok-goes_on.goes_on ≡ true = search rules in
    let piece = piece_fed calls form _ (c.loop.session) next _ _ fed _ c.loop.invariant.0 c.lines.ensures c.in_ok-feed_piece.ensures.ok in
    let counted : c.in-Some.count ≡ c.loop.before + length (lines c.read_on.new.self.lines) = c.in-Some.ensures ∙ ap (λ (bs : List ℕ). c.loop.before + length (lines bs)) c.lines-in-loop.ensures in (
      c.feed_piece.ensures.form ∙ c.loop.invariant.0,
      traced_more calls form (c.args.session.now)
          (c.loop.session) next _ _ _ _ _ _ c.loop.pieces.rest c.loop.before c.in-Some.count c.in_ok-goes_on.goes_on c.read_on.new.self fed _ c.loop.invariant.1 c.in_ok-goes_on.ensures.ok more c.in-Ok.is piece counted,
    )

pub returns-clause-ok : goal.returns-clause-ok
returns-clause-ok g c =
    let calls = calls_of g.P.SpanProcessor g.P.Timed g.P.CountsLeftSpans g.P.KeepsBatches g.S.ShouldSample g.G.GivesIds in
    let form = g.F.ReplyForm.form c.args.form.now in
    begun_turning calls form (c.args.session.now)
    (c.loop.session) _ _ _ _ c.loop.pieces.rest c.loop.before c.loop.invariant.1
