-- The texts so far are the bytes before the rest, and each has its length.
use Rattle.std.proofs.Common.{◌≡◌, ◌++◌, length, map, string_bytes, take}
use Rattle.std.specs.List.{flat_map}
use Rattle.otel_embed.proofs.values.texts_of.Given as goal

abbrev pub invariant-loop-length : goal.invariant-loop-length
invariant-loop-length l =
    let texts = map string_bytes l.texts.items in
    (flat_map (λ text. text) texts ++ l.rest ≡ l.bytes) × (map length texts ≡ take l.length-index l.lengths)
