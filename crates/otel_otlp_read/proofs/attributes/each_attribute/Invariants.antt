-- The attributes so far, and those that are left, are all.
use Rattle.std.proofs.Common.{◌≡◌, ◌+◌, ℕ, List, drop, map}
use Rattle.json.specs.Json.{Json}
use Rattle.json.specs.Value.{value_view}
use Rattle.otel_otlp_read.specs.Kept.{and_kept, kept_from}
use Rattle.otel_otlp_read.specs.SpanLists.{attribute_line}
use Rattle.otel_otlp_read.proofs.attributes.each_attribute.Given as goal

abbrev pub invariant-loop-place : goal.invariant-loop-place
invariant-loop-place l =
    let from = λ (n : ℕ) (js : List Json). kept_from attribute_line l.list n js in
    and_kept l.read (from (l.place + 1) (map value_view (drop l.place l.items))) ≡ from 1 (map value_view l.items)
