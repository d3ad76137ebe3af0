use Rattle.std.proofs.Common.{◌∙◌, refl, subst}
use Rattle.otel_scope.specs.Working.{Becomes}
use Rattle.otel_scope.specs.declared.current.Current.{Current}
use Rattle.otel_http.proofs.ServingLemmas.{put_back}
use Rattle.otel_http.proofs.traced.Traced.serve_in.Goals as goal

pub returns : goal.returns
returns g c = rw (← c.self.view_is) (record {
  asked = c.server_builder-asked.result;
  asks = c.server_builder-asked.ensures;
  placed = c.replace_context-outside.new.self;
  places = c.replace_context-outside.ensures.placed;
  done = record {
    service = c.self-2.inside.service;
    scope = c.self-2.inside.scope;
    is_https = c.self-2.inside.is_https;
    keeps_query = c.self-2.inside.keeps_query;
    untraced = c.self-2.inside.untraced;
    unfinished = c.self-2.inside.unfinished;
  };
  inside = rw (← c.self-2.view_is) at c.serve_inside.ensures;
  back = subst
      (λ (here : Current). Becomes g.S.HoldsSpans.current g.S.HoldsSpans.with_current here c.self-2.inside.scope
      c.replace_context-inside.new.self)
      (put_back (g.S.HoldsSpans.current c.self.inside.scope) (g.S.HoldsSpans.current c.self-2.inside.scope)
      c.args.cx c.replace_context-outside.result
      ((rw (← c.self-2.view_is) at c.serve_inside.ensures.restores) ∙ c.replace_context-outside.ensures.placed.is)
      c.replace_context-outside.ensures.given) c.replace_context-inside.ensures.placed;
  rest = refl;
})
