-- Whose resources a request says.
use Rattle.std.proofs.Common.{◌≡◌, Bool, true, false, cond, codes, Ok, ap}
use Rattle.json.specs.Json.{Json}
use Rattle.otel_otlp_read.specs.declared.fault.Fault.TheVariants as faults
use Rattle.otel_otlp_read.specs.Members.{list_of}
use Rattle.otel_otlp_read.specs.Requests.{alone_in, has, resources_in}

pub resources_listed : (j : Json) → has (codes "resourceSpans") j ≡ true
    → resources_in j ≡ list_of (codes "resourceSpans") faults.ResourceSpansType j
unfolding resources_in
resources_listed j e =
    ap (λ t. cond t (list_of (codes "resourceSpans") faults.ResourceSpansType j) (Ok (alone_in j))) e

pub resource_alone : (j : Json) → has (codes "resourceSpans") j ≡ false → resources_in j ≡ Ok (alone_in j)
unfolding resources_in
resource_alone j e =
    ap (λ t. cond t (list_of (codes "resourceSpans") faults.ResourceSpansType j) (Ok (alone_in j))) e
