-- Of the batches so far.
use Rattle.std.proofs.Common.{◌≡◌, ◌-◌, ◌^◌, length, map, min, sum_by, take}
use Rattle.otel_embed.proofs.numbers.spans_in.Given as goal

abbrev pub invariant-loop-batch : goal.invariant-loop-batch
invariant-loop-batch l = l.count ≡ min (sum_by length (map (λ batch. batch.items) (take l.batch-index l.batches))) (2 ^ 64 - 1)
