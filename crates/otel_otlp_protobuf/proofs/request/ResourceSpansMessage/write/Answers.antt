-- One member after another.
use Rattle.std.proofs.Common.{ap}
use Rattle.std.specs.Option.{option_copied}
use Rattle.otel_otlp.specs.ScopeRuns.{scope_runs}
use Rattle.otel_otlp_protobuf.proofs.Steps.{known_text, last, many_fields}
use Rattle.otel_otlp_protobuf.specs.NamedRequest.{resource_members, run_members}
use Rattle.otel_otlp_protobuf.specs.Said.{message_fields}
use Rattle.otel_protobuf.proofs.Taking.{and_fields, as_fields}
use Rattle.otel_protobuf.specs.Wire.{nested, unless_empty}
use Rattle.otel_otlp_protobuf.proofs.request.ResourceSpansMessage.write.Goals as goal

pub returns : goal.returns
returns c =
    let resource = c.args.self.now.row in
    and_fields (nested 1 (message_fields (resource_members resource))) _ c.nested.ensures
    (and_fields _ _ (as_fields (many_fields 2 run_members (scope_runs c.args.self.now.batch.now)) c.runs.ensures)
    (last (unless_empty 3 resource.schema_url)
    (as_fields (ap (unless_empty 3)
    (known_text (option_copied c.schema_url.result) resource.schema_url c.schema_url.ensures))
    c.optional.ensures)))
