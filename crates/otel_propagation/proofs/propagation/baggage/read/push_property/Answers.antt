use Rattle.std.proofs.Common.{◌≡◌, Some, ◌&&◌, string_bytes, is_none, sym, ap, ◌∙◌}
use Rattle.std.proofs.Math.Bool.{and-false}
use Rattle.std.specs.Option.{option_map}
use Rattle.std.specs.Str.{trim}
use Rattle.std.specs.Cow.{cow_str_bytes}
use Rattle.otel_propagation.specs.BaggageHeader.{said_by}
use Rattle.otel_propagation.proofs.BaggagePieceLemmas.{property_added}
use Rattle.otel_propagation.proofs.propagation.baggage.read.push_property.Goals as goal

-- what the property says
text_said : (c : goal.Joined-said-3) → said_by c.args.property.now ≡ Some c.trim.result.now
text_said c =
    sym c.in_ok-said.ensures ∙ ap (option_map (λ s. trim (cow_str_bytes s))) c.in-Some.is ∙ ap Some (ap trim (sym c.as_str.ensures.value) ∙ sym c.trim.ensures.trim)

pub returns-clause-text : goal.returns-clause-text
returns-clause-text c =
    property_added c.args.is_first (string_bytes c.args.metadata.now) _ _ _ c.trim.result.now (text_said c) c.in_ok-push_unless_first.ensures c.in_ok-push_str.ensures.bytes

pub returns-clause-first : goal.returns-clause-first
returns-clause-first c = sym (ap (λ s. c.args.is_first && is_none s) (text_said c) ∙ and-false c.args.is_first)
