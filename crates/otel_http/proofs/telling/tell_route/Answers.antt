use Rattle.std.proofs.Common.{◌∷◌, ◌++◌, codes}
use Rattle.otel_pipeline.specs.SpanHistory.{set_attribute, update_name}
use Rattle.otel_http.specs.Conventions.{method_name, space}
use Rattle.otel_http.specs.Servers.{text_attribute}
use Rattle.otel_http.proofs.TellingLemmas.{tells_two}
use Rattle.otel_http.proofs.telling.tell_route.Goals as goal

pub returns : goal.returns
returns g c = tells_two g.S.HoldsSpans
    (set_attribute (text_attribute (codes "http.route") c.args.route.now))
    (update_name (method_name c.args.method.now ++ space ∷ c.args.route.now)) c.args.scope.now c.edit.new.self
    c.edit-2.new.self c.edit-2.result (rw c.in_ok-attribute.ensures at c.in_ok-edit.ensures.ok)
    (rw c.in_ok-name.ensures at c.edit-2.ensures.ok) c.edit-2.ensures.err
