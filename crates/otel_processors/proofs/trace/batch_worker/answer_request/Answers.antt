use Rattle.std.proofs.Common.{[], ◌∷◌, refl, arith}
use Rattle.otel_batch.specs.MachineState.{counts, slot_at}
use Rattle.otel_batch.specs.MachineRun.{Run}
use Rattle.otel_batch.specs.declared.machine.step.Step.TheVariants as step
use Rattle.otel_batch.proofs.Soundness.{slot_waits-one}
use Rattle.otel_processors.proofs.AnsweredRequestLemmas.{collects, is_answered_at}
use Rattle.otel_processors.proofs.trace.batch_worker.answer_request.Goals as goal

pub unreachable-requires : goal.unreachable-requires
unreachable-requires g c =
    let waits = slot_waits-one (slot_at (counts c.args.machine.now) 0) (omega (arith, c.requires)) in
    let worked = c.work_off_messages.ensures.0 in
    let answered = is_answered_at g.E.SpanExporter c.args.machine.now worked.outcomes c.work_off_messages.new.machine
    waits.0 c.is_sound.ensures waits.1 worked.works in
    let collected = collects (counts c.work_off_messages.new.machine) c.step.result (counts c.step.new.self) answered
    c.step.ensures.permitted in
    c.in_default.not-Collected collected.0 collected.1

pub returns : goal.returns
returns g c =
    let worked = c.work_off_messages.ensures.0 in
    let run : Run g.E.SpanExporter c.work_off_messages.new.machine (step.Collect 0 ∷ []) (c.step.result ∷ [])
    c.step.new.self = (c.step.new.self, assumption c.step.ensures, refl) in
    record {
      outcomes = worked.outcomes;
      answered = c.work_off_messages.new.machine;
      works = worked.works;
      collects = rw c.in-Collected.is at run;
    }
