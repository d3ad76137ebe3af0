use Rattle.std.proofs.Common.{◌≡◌, ◌∙◌, ◌+◌, refl, sym, true, false, nat_le}
use Rattle.std.specs.Duration.{as_nanos}
use Rattle.otel_processors.proofs.trace.batch_span_processor.BatchSpanProcessor.work_in_time.Goals as goal

pub returns-in_default-clause-works : goal.returns-in_default-clause-works
returns-in_default-clause-works g c = rw (← c.self.view_is, c.in_default.is) (record {
  worked = c.run_worker-worked.result;
  idle = _;
  works = record { works = c.run_worker-worked.ensures.works.0; rest = refl };
  tells = (refl, refl);
})

pub returns-then-not-is_due-clause-works : goal.returns-then-not-is_due-clause-works
returns-then-not-is_due-clause-works g c =
    let due : nat_le (c.in-Some.last.0 + as_nanos c.self.inside.scheduled_delay) c.args.now.0 ≡ false =
    sym c.is_due.ensures ∙ c.if-not-is_due.true in
    rw (← c.self.view_is, c.in-Some.is) (record {
      worked = c.run_worker-worked.result;
      idle = _;
      works = record { works = c.run_worker-worked.ensures.works.0; rest = refl };
      tells = rw due (refl, refl);
    })

pub returns-clause-works : goal.returns-clause-works
returns-clause-works g c =
    let due : nat_le (c.in-Some.last.0 + as_nanos c.self.inside.scheduled_delay) c.args.now.0 ≡ true =
    sym c.is_due.ensures ∙ c.if-not-is_due.false in
    rw (← c.self.view_is, c.in-Some.is) (record {
      worked = c.run_worker-worked.result;
      idle = _;
      works = record { works = c.run_worker-worked.ensures.works.0; rest = refl };
      tells = rw due (record { drains = c.drain_by_tick.ensures.drains.0; rest = refl });
    })
