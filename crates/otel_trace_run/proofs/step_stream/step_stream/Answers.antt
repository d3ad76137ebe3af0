-- One piece more.
use Rattle.std.proofs.Common.{◌≡◌, ◌+◌, ◌∙◌, ℕ, List, [], true, false, length, None, Some, ap, subst, sym, rules}
use Rattle.std.specs.Str.Lines.{lines}
use Rattle.otel_trace_steps.specs.StepAnswers.{AnswersLines, BeginsAnswers}
use Rattle.otel_trace_session.specs.Pieces.{PlainPieces}
use Rattle.otel_trace_run.specs.StepRuns.{StepsSome, StepsTo}
use Rattle.otel_trace_run.specs.Streams.{streams}
use Rattle.otel_trace_run.proofs.StepStream.{HasStepped, begun_answering, begun_counting, begun_reading, begun_turning, ends_bad, stepped_all, stepped_bad, stepped_more, stepped_none}
use Rattle.otel_trace_run.proofs.step_stream.step_stream.Goals as goal

pub loop-init : goal.loop-init
loop-init g c =
    let empty : c.new-pieces.result.rest ≡ [] = ap (λ (p : PlainPieces). p.rest) c.new-pieces.ensures in
    subst (λ (rest : List ℕ). HasStepped c.args.machine.now c.args.machine.now
    (streams (g.R.Read.remaining c.args.input.now) (g.R.Read.remaining c.args.input.now) (g.W.Write.contents c.args.output.now) (g.W.Write.contents c.args.output.now)) rest 0)
    (sym empty) (stepped_none c.args.machine.now (g.R.Read.remaining c.args.input.now) (g.W.Write.contents c.args.output.now))

pub returns-in_default : goal.returns-in_default
returns-in_default g c =
    begun_reading c.args.machine.now c.loop.machine _ _ _ _ _ c.loop.pieces.rest c.loop.before c.read_on.new.self c.loop.invariant c.in_default.ensures.err

pub returns-in-Ok-Some : goal.returns-in-Ok-Some
returns-in-Ok-Some g c =
    let line = c.in-Ok-Some.line in
    let next = c.answer_piece.new.machine in
    let h = rw c.in-Ok-Some.field-0-is at c.in-Ok-Some.ensures.ok in
    let answered = subst (λ (bs : List ℕ). AnswersLines c.loop.machine bs (Some line) h.0 next) c.lines.ensures h.1 in
    let s = streams (g.R.Read.remaining c.args.input.now) (g.R.Read.remaining c.read_on.new.reader) (g.W.Write.contents c.args.output.now) (g.W.Write.contents c.answer_piece.new.output) in
    ends_bad (StepsTo c.args.machine.now next s) (StepsSome c.args.machine.now s) s (c.loop.before + line) c.bad_line_after.result c.bad_line_after.ensures
    (stepped_bad c.args.machine.now c.loop.machine next _ _ _ _ _ _ c.loop.pieces.rest c.loop.before line c.in-Ok.goes_on c.read_on.new.self h.0 c.loop.invariant c.in-Ok.ensures.ok answered h.2)
    (begun_counting c.args.machine.now c.loop.machine next _ _ _ _ _ _ c.loop.pieces.rest c.loop.before c.in-Ok.goes_on c.read_on.new.self (Some line) h.0 c.loop.invariant c.in-Ok.ensures.ok answered h.2)

pub returns-in-Err : goal.returns-in-Err
returns-in-Err g c =
    let h = c.in-Err.ensures.err in
    begun_answering c.args.machine.now c.loop.machine _ _ _ _ _ _ c.loop.pieces.rest c.loop.before c.in-Ok.goes_on c.read_on.new.self h.0 c.loop.invariant c.in-Ok.ensures.ok
    (subst (λ (bs : List ℕ). BeginsAnswers c.loop.machine bs h.0) c.lines.ensures h.1) h.2

pub returns-then-not-goes_on : goal.returns-then-not-goes_on
returns-then-not-goes_on g c =
    let next = c.answer_piece.new.machine in
    let last : c.in-Ok.goes_on ≡ false = search rules in
    let h = rw c.in-Ok-None.field-0-is at c.in-Ok-None.ensures.ok in
    stepped_all c.args.machine.now c.loop.machine next _ _ _ _ _ _ c.loop.pieces.rest c.loop.before c.in-Ok.goes_on c.read_on.new.self h.0 c.loop.invariant c.in-Ok.ensures.ok last
    (subst (λ (bs : List ℕ). AnswersLines c.loop.machine bs None h.0 next) c.lines.ensures h.1) h.2

pub returns-in-None : goal.returns-in-None
returns-in-None g c =
    let next = c.answer_piece.new.machine in
    let h = rw c.in-Ok-None.field-0-is at c.in-Ok-None.ensures.ok in
    begun_counting c.args.machine.now c.loop.machine next _ _ _ _ _ _ c.loop.pieces.rest c.loop.before c.in-Ok.goes_on c.read_on.new.self None h.0 c.loop.invariant c.in-Ok.ensures.ok
    (subst (λ (bs : List ℕ). AnswersLines c.loop.machine bs None h.0 next) c.lines.ensures h.1) h.2

pub loop-preserved : goal.loop-preserved
loop-preserved g c =
    let next = c.answer_piece.new.machine in
    let more : c.in-Ok.goes_on ≡ true = search rules in
    let h = rw c.in-Ok-None.field-0-is at c.in-Ok-None.ensures.ok in
    let counted : c.in-Some.count ≡ c.loop.before + length (lines c.read_on.new.self.lines) = c.in-Some.ensures ∙ ap (λ (bs : List ℕ). c.loop.before + length (lines bs)) c.lines-in-loop.ensures in
    stepped_more c.args.machine.now c.loop.machine next _ _ _ _ _ _ c.loop.pieces.rest c.loop.before c.in-Some.count c.in-Ok.goes_on c.read_on.new.self h.0 c.loop.invariant c.in-Ok.ensures.ok more
    (subst (λ (bs : List ℕ). AnswersLines c.loop.machine bs None h.0 next) c.lines.ensures h.1) h.2 counted

pub returns : goal.returns
returns g c = begun_turning c.args.machine.now c.loop.machine _ c.loop.pieces.rest c.loop.before c.loop.invariant
