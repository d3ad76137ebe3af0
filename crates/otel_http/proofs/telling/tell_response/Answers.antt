use Rattle.otel_http.specs.RequestSpans.{attribute_edits}
use Rattle.otel_http.proofs.TellingLemmas.{each_stays}
use Rattle.otel_http.proofs.telling.tell_response.Goals as goal

pub returns-clause-stays : goal.returns-clause-stays
returns-clause-stays g c = each_stays g.S.HoldsSpans (attribute_edits c.args.first_error c.args.status)
    c.args.scope.now c.tell_attributes.result c.tell_attributes.new.scope c.tell_attributes.ensures
