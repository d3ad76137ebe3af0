-- Of the batches so far.
use Rattle.std.proofs.Common.{◌≡◌, length, map, take}
use Rattle.otel_embed.proofs.numbers.sizes_of.Given as goal

abbrev pub invariant-loop-batch : goal.invariant-loop-batch
invariant-loop-batch l = l.sizes.items ≡ map length (map (λ batch. batch.items) (take l.batch-index l.batches))
