use Rattle.std.proofs.Common.{◌∙◌, [], ◌∷◌, ◌++◌, None, ap, refl, sym}
use Rattle.otel_batch.specs.MachineRun.{counted_up}
use Rattle.otel_batch.specs.WorkedOff.{last_error, next_of_worker}
use Rattle.otel_processors.specs.EagerExports.{failures_in}
use Rattle.otel_processors.proofs.Failing.{counted_on, counted_since, failures-append}
use Rattle.otel_processors.proofs.SteppingLemmas.{goes_joined, last_joined}
use Rattle.otel_processors.proofs.Worker.{goes_lessens}
use Rattle.otel_processors.proofs.trace.batch_worker.work_off_messages.Goals as goal

pub loop-step-init : goal.loop-step-init
loop-step-init g c = record { so_far = ([], [], refl, refl, refl) }

pub loop-step-preserved : goal.loop-step-preserved
loop-step-preserved g c =
    let so_far = c.loop-step.invariant.so_far in
    let more = c.work_on-answer.ensures in
    record {
      so_far = (
        so_far.0 ++ c.in-Some.step ∷ more.0,
        so_far.1 ++ more.1 ∷ more.2,
        goes_joined g.E.SpanExporter next_of_worker c.args.machine.now so_far.0 so_far.1 c.loop-step.machine
            (c.in-Some.step ∷ more.0) (more.1 ∷ more.2) c.work_on-answer.new.machine so_far.2 more.3,
        more.4 ∙ (ap (λ e. last_error e (more.1 ∷ more.2)) so_far.3
            ∙ sym (last_joined None so_far.1 (more.1 ∷ more.2))),
        more.5 ∙ (ap (λ n. counted_up n (failures_in (more.1 ∷ more.2))) so_far.4
            ∙ (counted_on 0 (failures_in so_far.1) (failures_in (more.1 ∷ more.2))
            ∙ ap (λ n. counted_up 0 n) (sym (failures-append so_far.1 (more.1 ∷ more.2))))),
      );
    }

pub loop-step-smaller : goal.loop-step-smaller
loop-step-smaller g c =
    let more = c.work_on-answer.ensures in
    goes_lessens g.E.SpanExporter c.loop-step.machine c.in-Some.step more.0 more.1 more.2 c.work_on-answer.new.machine
    more.3

pub returns : goal.returns
returns g c =
    let so_far = c.loop-step.invariant.so_far in (
      record {
        outcomes = so_far.1;
        works = record {
          steps = so_far.0;
          goes = so_far.2;
          over = sym c.worker_step_of.ensures ∙ c.in_default.is;
        };
        answers = so_far.3;
      },
      c.saturating_add.ensures ∙ rw so_far.4 (counted_since c.args.failed.now (failures_in so_far.1)),
    )
