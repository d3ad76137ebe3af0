-- One trace more, which those after it go with.
use Rattle.std.proofs.Common.{◌<◌, ◌++◌, ◌∙◌, All, ap, length, map, subst}
use Rattle.std.proofs.lemmas.List.Elements.{All-head, All-rest}
use Rattle.otel_picture.specs.HtmlRows.{trace_tokens, traces_tokens}
use Rattle.otel_picture.specs.Layouts.{svg_layout}
use Rattle.otel_picture.specs.PlainSheets.{PlainSheet, sheet_of}
use Rattle.otel_picture.specs.Traces.{plain_trace}
use Rattle.otel_picture.specs.declared.layout.Layout.{Layout}
use Rattle.otel_picture.specs.declared.rows.Mark.{Mark}
use Rattle.otel_picture.specs.declared.trace.Trace.{Trace}
use Rattle.otel_picture.proofs.Joined.{taken}
use Rattle.otel_picture.proofs.html_data.push_json_traces.Goals as goal

pub of-requires-clause-there : goal.of-requires-clause-there
of-requires-clause-there c =
    All-head (λ (trace : Trace). All (λ (mark : Mark). mark.place < length c.args.spans.now) trace.family.marks.items)
    c.in-Some.trace.now c.in-Some.rest.now
    (subst (All (λ (trace : Trace). All (λ (mark : Mark). mark.place < length c.args.spans.now)
    trace.family.marks.items)) c.in-Some.ensures.cases.0 c.loop-trace.invariant.there)

pub loop-trace-preserved : goal.loop-trace-preserved
loop-trace-preserved c =
    let spans = c.args.spans.now in
    let cut = c.in-Some.ensures.cases.0 in
    let trace = plain_trace c.in-Some.trace.now in
    record {
      before = c.in_ok-push_json_trace.ensures.before ∙ c.loop-trace.invariant.before;
      written = taken c.loop-trace.out.tokens c.push_json_trace.new.out.tokens
          (trace_tokens (sheet_of svg_layout spans trace)) (traces_tokens spans (map plain_trace c.in-Some.rest.now))
          (traces_tokens spans (map plain_trace c.loop-trace.left.now)) _
          (c.in_ok-push_json_trace.ensures.written
          ∙ ap (λ (sheet : PlainSheet). c.loop-trace.out.tokens ++ trace_tokens sheet)
          (c.of.ensures ∙ ap (λ (layout : Layout). sheet_of layout spans trace) c.svg.ensures))
          (ap (λ ts. traces_tokens spans (map plain_trace ts)) cut) c.loop-trace.invariant.written;
      there = All-rest (λ (trace : Trace). All (λ (mark : Mark). mark.place < length spans) trace.family.marks.items)
          c.in-Some.trace.now c.in-Some.rest.now c.loop-trace.left.now cut c.loop-trace.invariant.there;
    }
