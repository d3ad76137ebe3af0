-- The attributes so far, and those that are left, are all.
use Rattle.std.proofs.Common.{◌≡◌, ◌+◌, ℕ, List, drop, map}
use Rattle.json.specs.Json.{Json}
use Rattle.json.specs.Value.{value_view}
use Rattle.otel_otlp_read.specs.declared.left_out.ItemList.TheVariants.{ResourceAttributes}
use Rattle.otel_otlp_read.specs.Kept.{and_kept, kept_from}
use Rattle.otel_otlp_read.specs.Resources.{pair_in}
use Rattle.otel_otlp_read.proofs.resource.each_pair.Given as goal

abbrev pub invariant-loop-place : goal.invariant-loop-place
invariant-loop-place l =
    let from = λ (n : ℕ) (js : List Json). kept_from pair_in (ResourceAttributes l.resource) n js in
    and_kept l.read (from (l.place + 1) (map value_view (drop l.place l.items))) ≡ from 1 (map value_view l.items)
