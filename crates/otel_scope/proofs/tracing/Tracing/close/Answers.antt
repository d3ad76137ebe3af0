use Rattle.std.proofs.Common.{false, refl, subst}
use Rattle.otel_scope.specs.Tracings.{Leaves}
use Rattle.otel_scope.specs.declared.current.Current.{Current}
use Rattle.otel_scope.proofs.tracing.Tracing.close.Goals as goal

pub returns : goal.returns
returns g c = record {
  left = c.leave.new.self;
  leaves = subst
      (λ (outer : Current). Leaves g.P.SpanProcessor g.C.Now.tells c.args.self outer false c.leave.new.self)
      c.root.ensures c.leave.ensures.leaves;
  closes = record { where_shut = c.close.ensures.shut; where_open = c.close.ensures.open };
  lost = refl;
  tracer = refl;
  clock = refl;
  propagator = refl;
}
