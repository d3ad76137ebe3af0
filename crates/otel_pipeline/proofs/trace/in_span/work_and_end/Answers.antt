use Rattle.std.proofs.Common.{IsOk, refl, subst}
use Rattle.otel_pipeline.specs.Ending.{EndIsInfallible}
use Rattle.otel_pipeline.specs.InSpan.{EndsOrDrops}
use Rattle.otel_pipeline.specs.SpanHistory.{PlainSpan}
use Rattle.otel_pipeline.proofs.trace.in_span.work_and_end.Goals as goal

pub returns : goal.returns
returns g c = record {
  held = c.hold-held.result;
  holds = c.hold-held.ensures;
  left = record {
    held = c.work-answer.new.arg2;
    at = record { provider = c.work-answer.new.arg4; clock = c.work-answer.new.arg5 };
  };
  works = record {
    given_span = _;
    given_cx = _;
    given_provider = _;
    given_clock = _;
    left_span = _;
    left_provider = _;
    left_clock = _;
    met = c.work-answer.ensures;
    cx_is = refl;
    gives = (refl, refl, refl);
    leaves = (refl, refl, refl);
  };
  end = c.now.result.0;
  told = c.now.ensures;
  free = subst
      (λ (span : PlainSpan). EndIsInfallible span c.work-answer.new.arg4 → IsOk c.end_or_drop-ended.result)
      c.release.ensures c.end_or_drop-ended.ensures.free;
  ends = subst
      (λ (span : PlainSpan). EndsOrDrops g.P.SpanProcessor c.work-answer.new.arg4 span c.now.result.0
      c.end_or_drop-ended.result c.end_or_drop-ended.new.provider) c.release.ensures c.end_or_drop-ended.ensures.ends;
}
