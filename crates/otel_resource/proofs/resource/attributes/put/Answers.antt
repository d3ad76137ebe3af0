use Rattle.otel_resource.proofs.AttributeLemmas.{by_key-insert}
use Rattle.otel_resource.proofs.resource.attributes.put.Goals as goal

pub returns-clause-ok : goal.returns-clause-ok
returns-clause-ok c = by_key-insert c.args.attributes.now c.insert.new.self c.args.key c.args.value c.in_ok-insert.ensures.updates
