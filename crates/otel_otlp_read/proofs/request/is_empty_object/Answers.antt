-- An object is seen as the list of its members.
use Rattle.std.proofs.Common.{◌∙◌, ap, eqb, length, sym}
use Rattle.json.specs.Value.{value_view}
use Rattle.json.proofs.Trees.{view-Object}
use Rattle.otel_otlp_read.specs.Requests.{is_empty_object}
use Rattle.otel_otlp_read.proofs.Items.{empty_view}
use Rattle.otel_otlp_read.proofs.request.is_empty_object.Goals as goal

pub returns-in-Object : goal.returns-in-Object
returns-in-Object c =
    let members = c.in-Object.members in
    c.is_empty.ensures
    ∙ ap (λ ms. eqb (length ms) 0) c.as_slice.ensures.value
    ∙ empty_view members.items
    ∙ ap is_empty_object (sym (view-Object members))
    ∙ ap (λ v. is_empty_object (value_view v)) (sym c.in-Object.is)
