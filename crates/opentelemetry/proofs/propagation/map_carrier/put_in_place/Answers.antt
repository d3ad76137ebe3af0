use Rattle.std.proofs.Common.{rules}
use Rattle.opentelemetry.proofs.TextMapLemmas.{text_map-insert, AllLowerNames-same_keys, IsLowerName-found}
use Rattle.opentelemetry.proofs.propagation.map_carrier.put_in_place.Goals as goal

pub returns-in-Some-clause-put : goal.returns-in-Some-clause-put
returns-in-Some-clause-put c =
    text_map-insert c.args.texts.now (c.get_mut.follows.lender c.args.text) c.args.name.now c.args.text
    ((c.get_mut.follows.holds c.args.text).3 (search rules))

pub returns-in-Some-clause-found : goal.returns-in-Some-clause-found
returns-in-Some-clause-found c low = IsLowerName-found c.args.texts.now.entries c.args.name.now low (search rules)

pub returns-in-Some-clause-lower : goal.returns-in-Some-clause-lower
returns-in-Some-clause-lower c = AllLowerNames-same_keys c.args.texts.now.entries (c.get_mut.follows.lender c.args.text).entries (c.get_mut.follows.holds c.args.text).1
