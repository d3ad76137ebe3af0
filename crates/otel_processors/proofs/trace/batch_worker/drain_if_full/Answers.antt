use Rattle.std.proofs.Common.{◌≡◌, ◌∙◌, refl, sym, true, false}
use Rattle.otel_batch.specs.DrainAnswers.{finds_no_memory}
use Rattle.otel_batch.specs.Drains.{has_full_batch}
use Rattle.otel_batch.specs.MachineRun.{IsStep}
use Rattle.otel_batch.specs.declared.machine.step.Outcome.TheVariants as outcome
use Rattle.otel_batch.specs.declared.machine.step.Step.TheVariants as step
use Rattle.otel_processors.specs.EagerExports.{LeavesAtRest, failures_in}
use Rattle.otel_processors.proofs.Eager.{largest_left, none_full, ticks_leave}
use Rattle.otel_processors.proofs.Emptying.{tick_empties}
use Rattle.otel_processors.proofs.trace.batch_worker.drain_if_full.Goals as goal

-- the timer's step
ticked : (g : _) (c : goal.After-drop g) →
    IsStep g.E.SpanExporter c.args.machine.now step.Tick outcome.Ticked c.drain_by_tick.ensures.drains.0.ticked
ticked g c = let drain = c.drain_by_tick.ensures.drains.0 in rw drain.ticks.2 drain.ticks.1

left : (g : _) (c : goal.After-drop g) →
    LeavesAtRest g.E.SpanExporter c.args.machine.now c.drain_by_tick.new.machine
left g c =
    let drain = c.drain_by_tick.ensures.drains.0 in
    ticks_leave g.E.SpanExporter c.args.machine.now drain.ticked drain.works.outcomes c.drain_by_tick.new.machine
    c.requires.0 (ticked g c) drain.works.works c.drain_by_tick.ensures.rest c.drain_by_tick.ensures.told
    c.drain_by_tick.ensures.closed

pub returns-then-not-has_full_batch-clause-drains : goal.returns-then-not-has_full_batch-clause-drains
returns-then-not-has_full_batch-clause-drains g c =
    let none : has_full_batch c.args.machine.now ≡ false =
    sym c.has_full_batch.ensures ∙ c.if-not-has_full_batch.true in
    (0, record { refused = false; drains = rw none (refl, refl, refl); below = λ some found. none }, refl)

pub returns-clause-drains : goal.returns-clause-drains
returns-clause-drains g c =
    let full : has_full_batch c.args.machine.now ≡ true =
    sym c.has_full_batch.ensures ∙ c.if-not-has_full_batch.false in
    let drains = c.drain_by_tick.ensures.drains in
    let outcomes = drains.0.works.outcomes in (
      failures_in outcomes,
      record {
        refused = finds_no_memory outcomes;
        drains = rw full (record {
          answer = c.drain_by_tick.result;
          drain = drains.0;
          refusal = refl;
          failures = refl;
        });
        below = λ some found. none_full c.drain_by_tick.new.machine
            (largest_left g.E.SpanExporter c.args.machine.now c.drain_by_tick.new.machine (left g c) some)
            (tick_empties g.E.SpanExporter c.args.machine.now drains.0.ticked outcomes
            c.drain_by_tick.new.machine c.requires.0 (ticked g c).sound (ticked g c).permitted drains.0.works.works
            c.drain_by_tick.ensures.rest found);
      },
      drains.1,
    )

pub returns-clause-leaves : goal.returns-clause-leaves
returns-clause-leaves g c = left g c
