use Rattle.std.proofs.Common.{◌∙◌, ap, sym}
use Rattle.otel_trace_session.specs.OpenSpans.{records}
use Rattle.otel_trace_session.proofs.NamedLemmas.{named-get}
use Rattle.otel_trace_session.proofs.span_maps.has_recording.Goals as goal

pub returns-in-Some : goal.returns-in-Some
returns-in-Some c = c.is_recording.ensures ∙ sym (ap records (named-get c.args.running.now c.args.name.now ∙ sym c.in-Some.ensures.value))

pub returns-in-None : goal.returns-in-None
returns-in-None c = sym (ap records (named-get c.args.running.now c.args.name.now ∙ sym c.in-None.ensures.value))
