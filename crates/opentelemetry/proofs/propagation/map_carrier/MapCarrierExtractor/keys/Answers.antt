use Rattle.std.proofs.Common.{◌∙◌}
use Rattle.opentelemetry.proofs.TextMapLemmas.{keys_complete, no_names}
use Rattle.opentelemetry.proofs.propagation.map_carrier.MapCarrierExtractor.keys.Goals as goal

pub returns-clause-complete : goal.returns-clause-complete
returns-clause-complete c = λ name there. keys_complete c.args.self.now name there

pub returns-clause-free : goal.returns-clause-free
returns-clause-free c = λ none. c.names_of.ensures.free (no_names _ (c.self.view_is ∙ none))
