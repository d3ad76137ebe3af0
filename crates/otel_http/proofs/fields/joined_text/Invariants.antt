use Rattle.std.proofs.Common.{◌≡◌, ◌++◌, string_bytes, length, nat_eq, map, true}
use Rattle.std.specs.List.{list_all}
use Rattle.http_header.specs.HeaderMap.{get_all}
use Rattle.otel_http.specs.Fields.{is_visible, joined}
use Rattle.otel_http.proofs.fields.joined_text.Given as goal

abbrev pub invariant-loop-value : goal.invariant-loop-value
invariant-loop-value l =
    (string_bytes l.text ≡ joined (map (λ value. value.now) l.yielded))
    × (l.is_first ≡ nat_eq (length (map (λ value. value.now) l.yielded)) 0)
    × (list_all is_visible (map (λ value. value.now) l.yielded) ≡ true)
    × (map (λ value. value.now) l.yielded ++ l.value-iterator ≡ get_all l.headers l.name)
