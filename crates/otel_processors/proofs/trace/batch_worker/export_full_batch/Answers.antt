use Rattle.std.proofs.Common.{◌∙◌, ◌+◌, refl}
use Rattle.otel_processors.proofs.Eager.{largest_left}
use Rattle.otel_processors.proofs.Failing.{counted_both}
use Rattle.otel_processors.proofs.trace.batch_worker.export_full_batch.Goals as goal

pub returns-clause-exports : goal.returns-clause-exports
returns-clause-exports g c =
    let worked = c.work_if_full-failed.ensures.works in
    let drained = c.drain_if_full.ensures.drains in
    let idle = c.work_if_full-failed.new.machine in (
      worked.0 + drained.0,
      record {
        refused = drained.1.refused;
        exports = record {
          failed_working = worked.0;
          idle = idle;
          works = worked.1;
          failed_draining = drained.0;
          drains = drained.1.drains;
          failures = refl;
        };
        below = λ some found. drained.1.below
            (largest_left g.E.SpanExporter c.args.machine.now idle c.work_if_full-failed.ensures.leaves some) found;
      },
      c.saturating_add.ensures ∙ rw (worked.2, drained.2) (counted_both worked.0 drained.0),
    )
