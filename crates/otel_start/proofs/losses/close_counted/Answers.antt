use Rattle.std.proofs.Common.{◌≡◌, Ok, OnOk, arith, refl, subst}
use Rattle.otel_start.proofs.losses.close_counted.Goals as goal

pub returns : goal.returns
returns g c = record {
  answer = c.force_flush-flushed.result;
  flushed = c.force_flush-flushed.new.self;
  flushes = c.force_flush-flushed.ensures;
  closed = c.close-report.result;
  closes = c.close-report.ensures;
  failure = λ is. subst
      (λ answer. OnOk answer ((c.force_flush-flushed.result ≡ Ok tt) × (c.close-report.result.report.result ≡ Ok tt))) is
      c.first_failure.ensures;
  lost = refl;
  failed_exports = c.failed_exports-failed_exports.ensures;
  dropped = c.dropped_count-dropped.ensures;
  left = λ none. let sum = c.saturating_add.ensures in (omega (arith, sum, none), omega (arith, sum, none));
}
