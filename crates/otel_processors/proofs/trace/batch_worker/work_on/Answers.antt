use Rattle.std.proofs.Common.{◌∙◌, [], Some, ap, refl, replicate, sym}
use Rattle.std.specs.Result.{result_err}
use Rattle.otel_batch.specs.MachineRun.{IsStep, counted_up}
use Rattle.otel_batch.specs.declared.machine.step.Step.TheVariants as step
use Rattle.otel_processors.proofs.Failing.{failures_of_one}
use Rattle.otel_processors.proofs.trace.batch_worker.work_on.Goals as goal

pub pull_batch-requires : goal.pull_batch-requires
pull_batch-requires g c = c.requires ∙ ap Some c.in-Pull.is

pub returns-in-Pull : goal.returns-in-Pull
returns-in-Pull g c =
    let pulls = c.pull_batch.ensures.0 in
    rw c.in-Pull.is (
      replicate pulls.more step.Pull,
      pulls.pulled,
      pulls.outcomes,
      pulls.goes,
      sym (pulls.finishes_none (result_err c.args.answer)),
      c.pull_batch.ensures.1,
    )

pub returns-in_default : goal.returns-in_default
returns-in_default g c =
    let outcome = c.step-outcome.result in
    let stepped : IsStep g.E.SpanExporter c.args.machine.now c.args.step outcome c.step-outcome.new.self =
    assumption c.step-outcome.ensures in (
      [],
      outcome,
      [],
      (c.requires, c.step-outcome.new.self, stepped, refl),
      c.answer_after.ensures,
      c.count_failure.ensures ∙ (rw c.is_failed_export.ensures (ap (λ n. counted_up c.args.failed.now n)
          (sym (failures_of_one outcome)))),
    )
