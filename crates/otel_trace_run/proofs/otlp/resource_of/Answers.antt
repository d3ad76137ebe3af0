-- What the builder begins with is what it builds.
use Rattle.std.proofs.Common.{map, string_bytes, subst, sym}
use Rattle.otel_resource.specs.DetectedResource.{IsDetected, PlainResourceStrings}
use Rattle.otel_resource.specs.Resource.{PlainResource}
use Rattle.otel_trace_run.specs.Program.{strings_given}
use Rattle.otel_trace_run.proofs.otlp.resource_of.Goals as goal

pub returns : goal.returns
returns c =
    let strings = strings_given (map string_bytes c.args.given.now) in
    subst (λ (r : PlainResource). IsDetected strings r) (sym c.build.ensures)
    (subst (λ (s : PlainResourceStrings). IsDetected s c.in_ok-described.described) c.in_ok-strings.ensures
    c.in_ok-described.ensures)
