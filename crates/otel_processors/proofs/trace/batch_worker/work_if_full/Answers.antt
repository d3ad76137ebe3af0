use Rattle.std.proofs.Common.{◌≡◌, ◌∙◌, refl, sym, true, false}
use Rattle.otel_batch.specs.Drains.{has_full_batch}
use Rattle.otel_processors.specs.EagerExports.{failures_in}
use Rattle.otel_processors.proofs.Eager.{works_leave}
use Rattle.otel_processors.proofs.trace.batch_worker.work_if_full.Goals as goal

pub returns-then-not-has_full_batch-clause-works : goal.returns-then-not-has_full_batch-clause-works
returns-then-not-has_full_batch-clause-works g c =
    let none : has_full_batch c.args.machine.now ≡ false =
    sym c.has_full_batch.ensures ∙ c.if-not-has_full_batch.true in
    (0, rw none (refl, refl), refl)

pub returns-clause-works : goal.returns-clause-works
returns-clause-works g c =
    let full : has_full_batch c.args.machine.now ≡ true =
    sym c.has_full_batch.ensures ∙ c.if-not-has_full_batch.false in
    let works = c.run_worker.ensures.works in (
      failures_in works.0.outcomes,
      rw full (record { answer = c.run_worker.result; works = works.0; failures = refl }),
      works.1,
    )

pub returns-clause-leaves : goal.returns-clause-leaves
returns-clause-leaves g c =
    let worked = c.run_worker.ensures in
    works_leave g.E.SpanExporter c.args.machine.now worked.works.0.outcomes c.run_worker.new.machine c.is_sound.ensures
    c.requires.0 worked.works.0.works worked.rest worked.told worked.closed
