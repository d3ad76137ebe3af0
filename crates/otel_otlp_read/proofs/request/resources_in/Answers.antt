-- Those of a list, or the one that stands alone.
use Rattle.std.proofs.Common.{◌≡◌, ◌∙◌, Ok, ap, codes, sym}
use Rattle.json.specs.Value.{value_view}
use Rattle.otel_otlp_read.specs.declared.fault.Fault.TheVariants as faults
use Rattle.otel_otlp_read.specs.Members.{list_of}
use Rattle.otel_otlp_read.proofs.RequestChoices.{resource_alone, resources_listed}
use Rattle.otel_otlp_read.proofs.Turns.{gives_by}
use Rattle.otel_otlp_read.proofs.request.resources_in.Goals as goal

pub returns-then-has : goal.returns-then-has
returns-then-has c =
    let j = value_view c.args.request.now in
    gives_by _ c.list.result (list_of (codes "resourceSpans") faults.ResourceSpansType j) _
    (resources_listed j (sym c.has.ensures ∙ c.if-has.true)) c.list.ensures

pub returns-else-has : goal.returns-else-has
returns-else-has c =
    resource_alone (value_view c.args.request.now) (sym c.has.ensures ∙ c.if-has.false)
    ∙ ap Ok (sym c.alone_in.ensures)
