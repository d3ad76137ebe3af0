-- The name is that of the attributes that are left.
use Rattle.std.proofs.Common.{◌≡◌, length}
use Rattle.otel_otlp_read.specs.Resources.{service_in}
use Rattle.otel_otlp_read.proofs.resource.service_in.Given as goal

abbrev pub invariant-loop-pair : goal.invariant-loop-pair
invariant-loop-pair l = service_in l.left ≡ service_in l.fn.pairs

abbrev pub decreases-loop-pair : goal.decreases-loop-pair
decreases-loop-pair l = length l.left
