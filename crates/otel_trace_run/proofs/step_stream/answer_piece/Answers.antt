-- What answers the lines was written, or a beginning of it.
use Rattle.std.proofs.Common.{subst}
use Rattle.opentelemetry.proofs.Clauses.{always_on_err}
use Rattle.otel_export.specs.Streams.{AppendsBeginning}
use Rattle.otel_export.proofs.StreamLemmas.{appends_all}
use Rattle.otel_trace_run.proofs.StepStream.{answered_begins}
use Rattle.otel_trace_run.proofs.step_stream.answer_piece.Goals as goal

pub returns-in_err-write_whole-clause-err : goal.returns-in_err-write_whole-clause-err
returns-in_err-write_whole-clause-err g c =
    let answered = c.answer_lines-answered.ensures in
    let now = c.answer_lines-answered.new.out.items in
    always_on_err c.from_residual.result (
      now,
      answered_begins c.answer_lines-answered.result c.args.machine.now c.answer_lines-answered.new.machine c.args.text.now c.clear.new.self.items now c.clear.ensures.items answered.answered answered.err,
      subst (AppendsBeginning _ _) c.deref.ensures.value c.in_err-write_whole.ensures.err,
    )

pub returns-in_err-answered-clause-err : goal.returns-in_err-answered-clause-err
returns-in_err-answered-clause-err g c =
    let answered = c.answer_lines-answered.ensures in
    let now = c.answer_lines-answered.new.out.items in
    always_on_err c.from_residual-in_err-answered.result (
      now,
      answered_begins c.answer_lines-answered.result c.args.machine.now c.answer_lines-answered.new.machine c.args.text.now c.clear.new.self.items now c.clear.ensures.items answered.answered answered.err,
      subst (AppendsBeginning _ _) c.deref.ensures.value (appends_all _ _ c.deref.result.now c.in_ok-write_whole.ensures.ok),
    )
