use Rattle.std.proofs.Common.{Bool, refl, subst}
use Rattle.otel_scope.specs.declared.current.Current.{Current}
use Rattle.otel_scope.proofs.scope.work_inside.Goals as goal

pub returns-clause-works : goal.returns-clause-works
returns-clause-works g c = record {
  entered = c.enter-outer.new.self;
  left = c.work-answer.new.arg2;
  starts = c.enter-outer.ensures.enters;
  works = record { shown = _; shows = refl; left = _; met = c.work-answer.ensures; leaves = refl };
  ends = subst
      (λ (failed : Bool). g.S.HoldsSpans.leaves c.work-answer.new.arg2 (g.S.HoldsSpans.current c.args.scope.now) failed
      c.leave.new.self) c.is_err.ensures.value
      (subst (λ (outer : Current). g.S.HoldsSpans.leaves c.work-answer.new.arg2 outer c.is_err.result c.leave.new.self)
      c.enter-outer.ensures.outer c.leave.ensures.leaves);
}
