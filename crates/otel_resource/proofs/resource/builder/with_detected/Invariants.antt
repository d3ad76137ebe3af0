use Rattle.std.proofs.Common.{◌≡◌, List, take}
use Rattle.std.specs.List.{AllZip}
use Rattle.otel_resource.specs.Resource.{PlainResource, merge, of_attributes, all_attributes}
use Rattle.otel_resource.proofs.resource.builder.with_detected.Given as goal

abbrev pub invariant-loop-detector : goal.invariant-loop-detector
invariant-loop-detector g l =
    (seen : List PlainResource) × AllZip g.D.ResourceDetector.detects (take l.detector-index l.detectors) seen × (l.builder ≡ merge l.fn.builder (of_attributes (all_attributes seen)))
