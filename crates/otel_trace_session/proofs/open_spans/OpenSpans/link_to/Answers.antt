use Rattle.std.proofs.Common.{◌≡◌, ◌∙◌, ap, sym, rules, Some, []}
use Rattle.std.specs.Option.{option_map}
use Rattle.opentelemetry.specs.Plain.{PlainLink, PlainSpanContext}
use Rattle.otel_pipeline.specs.SpanEdits.{new_link}
use Rattle.otel_trace_session.specs.OpenSpans.{named}
use Rattle.otel_trace_session.proofs.HeldLemmas.{map_context}
use Rattle.otel_trace_session.proofs.open_spans.OpenSpans.link_to.Goals as goal

-- the link to a span context
abbrev link_of : PlainSpanContext → PlainLink
link_of context = new_link context []

pub returns-in_default : goal.returns-in_default
returns-in_default c = ap (option_map link_of) c.in_default.ensures ∙ sym (map_context link_of (named c.args.self.now c.args.target.now))

pub returns : goal.returns
returns c =
    let link_is : c.new-2.result ≡ link_of c.in-Some.found.now = search rules in
    ap Some link_is ∙ ap (option_map link_of) c.in-Some.ensures ∙ sym (map_context link_of (named c.args.self.now c.args.target.now))
