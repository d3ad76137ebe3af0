use Rattle.std.proofs.Common.{is_some, lit<, rules}
use borrow.Author.Tests.{tests}
use Rattle.std.proofs.lemmas.Iterator.Search.{all_from_yields_List}
use Rattle.std.proofs.lemmas.Iterator.Splits.{YieldsList-from_str_split}
use Rattle.otel_propagation.specs.StrictBaggage.{strict_pair}
use Rattle.otel_propagation.proofs.propagation.strict_baggage.pairs.are_properties.Goals as goal

pub returns : goal.returns
returns c =
    all_from_yields_List (λ text. is_some (strict_pair text)) _ _ c.all.result c.all.ensures.ran
    (YieldsList-from_str_split 59 c.args.properties.now (lit< tt) c.split.ensures.text c.split.ensures.has_more c.split.ensures.pattern) (λ x b q k. search (rules, tests))
