-- The truth values so far.
use Rattle.std.proofs.Common.{◌≡◌, map, take}
use Rattle.otel_embed.specs.HostValues.{truth_of}
use Rattle.otel_embed.proofs.values.truths_of.Given as goal

abbrev pub invariant-loop-byte : goal.invariant-loop-byte
invariant-loop-byte l = l.truths.items ≡ map truth_of (take l.byte-index l.bytes)
