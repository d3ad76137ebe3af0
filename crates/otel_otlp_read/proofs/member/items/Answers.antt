-- An array is seen as the list of its items.
use Rattle.std.proofs.Common.{◌∙◌, Some, ap, map, sym}
use Rattle.json.specs.Find.{as_array}
use Rattle.json.specs.Value.{value_view}
use Rattle.json.proofs.Trees.{view-Array}
use Rattle.std.specs.Option.{option_map}
use Rattle.otel_otlp_read.specs.Members.{listed}
use Rattle.otel_otlp_read.proofs.Items.{listed_view}
use Rattle.otel_otlp_read.proofs.member.items.Goals as goal

pub returns-in-Array : goal.returns-in-Array
returns-in-Array c =
    let items = c.in-Array.items in
    ap (λ vs. Some (map value_view vs)) c.as_slice.ensures.value
    ∙ ap Some (sym (listed_view (map value_view items.items)))
    ∙ ap (λ j. option_map listed (as_array j)) (sym (view-Array items))
    ∙ ap (λ v. option_map listed (as_array (value_view v))) (sym c.in-Array.is)
