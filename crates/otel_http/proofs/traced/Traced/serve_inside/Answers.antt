use Rattle.std.proofs.Common.{◌∙◌, refl}
use Rattle.otel_http.proofs.traced.Traced.serve_inside.Goals as goal

pub returns : goal.returns
returns g c = rw (← c.self.view_is) (record {
  entered = c.enter-outer.new.self;
  starts = c.enter-outer.ensures.enters;
  left = c.ask.new.scope;
  serves_once = c.ask.ensures;
  told = c.tell_response-told.result;
  said = c.tell_response-told.new.scope;
  tells = c.tell_response-told.ensures.tells;
  ends = rw (c.enter-outer.ensures.outer, c.as_u16.ensures.value) at c.leave.ensures.leaves;
  restores = c.leave.ensures.restores ∙ c.enter-outer.ensures.outer;
  rest = rw
      (c.counted_unless-self-inside.ensures, c.counted_unless-self-inside-2.ensures, c.is_some.ensures, c.is_ok.ensures.value, c.current.ensures)
      refl;
})
