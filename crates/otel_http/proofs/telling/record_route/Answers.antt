use Rattle.otel_http.specs.Conventions.{route_edits}
use Rattle.otel_http.proofs.TellingLemmas.{each_stays}
use Rattle.otel_http.proofs.telling.record_route.Goals as goal

pub returns-clause-stays : goal.returns-clause-stays
returns-clause-stays g c = each_stays g.S.HoldsSpans (route_edits c.args.method.now c.args.route.now)
    c.args.scope.now c.tell_route.result c.tell_route.new.scope c.tell_route.ensures
