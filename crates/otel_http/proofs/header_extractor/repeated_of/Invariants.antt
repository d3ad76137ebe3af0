use Rattle.std.proofs.Common.{◌≡◌, ◌++◌, map}
use Rattle.http_header.specs.HeaderMap.{keys}
use Rattle.otel_http.proofs.HeadersLemmas.{AreRepeatedSoFar}
use Rattle.otel_http.proofs.header_extractor.repeated_of.Given as goal

abbrev pub invariant-loop-name : goal.invariant-loop-name
invariant-loop-name l =
    AreRepeatedSoFar l.headers (map (λ name. name.now) l.yielded) l.repeated.items
    × (map (λ name. name.now) l.yielded ++ l.name-iterator ≡ keys l.headers)
