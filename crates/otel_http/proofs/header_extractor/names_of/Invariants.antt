use Rattle.std.proofs.Common.{◌≡◌, ◌++◌, map, filter, is_some}
use Rattle.http_header.specs.HeaderMap.{keys}
use Rattle.otel_http.specs.Headers.{header_texts}
use Rattle.otel_http.proofs.header_extractor.names_of.Given as goal

abbrev pub invariant-loop-name : goal.invariant-loop-name
invariant-loop-name l =
    (map (λ name. name.now) l.names.items
    ≡ filter (λ name. is_some (header_texts l.headers name)) (map (λ name. name.now) l.yielded))
    × (map (λ name. name.now) l.yielded ++ l.name-iterator ≡ keys l.headers)
