-- The batches so far are written.
use Rattle.std.proofs.Common.{◌≡◌, ◌++◌, map, take}
use Rattle.otel_lines.specs.Form.{bytes_in}
use Rattle.otel_lines.proofs.form.push_batches.Given as goal

abbrev pub invariant-loop-batch : goal.invariant-loop-batch
invariant-loop-batch g l =
    l.out.items ≡ l.fn.out.items
    ++ bytes_in g.F.BatchForm.form l.resource (map (λ batch. batch.items) (take l.batch-index l.batches))
