use Rattle.std.proofs.Common.{◌++◌}
use Rattle.otel_http.specs.RequestSpans.{attribute_edits, status_edits}
use Rattle.otel_http.specs.declared.client.TheConstants.{FIRST_ERROR}
use Rattle.otel_http.proofs.TellingLemmas.{each_stays}
use Rattle.otel_http.proofs.telling.record_response.Goals as goal

pub returns-clause-stays : goal.returns-clause-stays
returns-clause-stays g c = each_stays g.S.HoldsSpans
    (status_edits FIRST_ERROR c.args.status ++ attribute_edits FIRST_ERROR c.args.status) c.args.scope.now
    c.tell_reply.result c.tell_reply.new.scope c.tell_reply.ensures
