-- The text is JSON, or none.
use Rattle.std.proofs.Common.{refl}
use Rattle.json.specs.Value.{value_view}
use Rattle.otel_otlp_read.specs.Requests.{read_request}
use Rattle.otel_otlp_read.proofs.Documents.{no_json, read_json}
use Rattle.otel_otlp_read.proofs.Turns.{gives_by}
use Rattle.otel_otlp_read.proofs.document.read_document.Goals as goal

pub returns-in-Ok : goal.returns-in-Ok
returns-in-Ok c =
    let is = c.in-Ok.ensures.ok in
    gives_by _ c.read_request.result (read_request (value_view c.in-Ok.request)) _
    (read_json c.args.text.now (value_view c.in-Ok.request) is.0 is.1) c.read_request.ensures

pub returns-in-Err-Invalid : goal.returns-in-Err-Invalid
returns-in-Err-Invalid c =
    let invalid = rw c.in-Err-Invalid.field-0-is at c.in-Err-Invalid.ensures.invalid in
    no_json c.args.text.now (invalid refl)
