use Rattle.std.proofs.Common.{◌∙◌, ap, sym, Some}
use Rattle.std.specs.Option.{option_map}
use Rattle.otel_trace_session.specs.Headers.{child_cx}
use Rattle.otel_trace_session.specs.OpenSpans.{named}
use Rattle.otel_trace_session.proofs.HeldLemmas.{map_context}
use Rattle.otel_trace_session.proofs.open_spans.OpenSpans.context_of.Goals as goal

pub returns-in_default : goal.returns-in_default
returns-in_default c = ap (option_map child_cx) c.in_default.ensures ∙ sym (map_context child_cx (named c.args.self.now c.args.span.now))

pub returns : goal.returns
returns c =
    ap Some c.in_ok-child_context.ensures ∙ ap (option_map child_cx) c.in-Some.ensures ∙ sym (map_context child_cx (named c.args.self.now c.args.span.now))
