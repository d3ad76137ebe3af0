-- The headers so far.
use Rattle.std.proofs.Common.{◌≡◌, take, map}
use Rattle.std.specs.String.{string_bytes}
use Rattle.std.specs.Prelude.{◌∷◌, codes}
use Rattle.http1.specs.Head.{pairs}
use Rattle.otel_http_post.proofs.post.header_list.Given as goal

abbrev pub invariant-loop-pair : goal.invariant-loop-pair
invariant-loop-pair l =
    pairs l.list.items ≡ (codes "host", l.fn.endpoint.host) ∷ (codes "content-type", l.fn.content_type)
    ∷ map (λ pair. (string_bytes pair.0, string_bytes pair.1)) (take l.pair-index l.pair-items)
