-- One trace more, which those after it go with.
use Rattle.std.proofs.Common.{◌<◌, ◌∙◌, All, ap, length, map, subst, sym}
use Rattle.std.proofs.lemmas.List.Elements.{All-head, All-rest}
use Rattle.otel_picture.specs.Layouts.{svg_layout}
use Rattle.otel_picture.specs.PlainSheets.{PlainSheet, sheet_of}
use Rattle.otel_picture.specs.SvgTexts.{last_line, line_after_trace}
use Rattle.otel_picture.specs.Traces.{plain_trace}
use Rattle.otel_picture.specs.declared.layout.Layout.{Layout}
use Rattle.otel_picture.specs.declared.rows.Mark.{Mark}
use Rattle.otel_picture.specs.declared.trace.Trace.{Trace}
use Rattle.otel_picture.proofs.svg.last_line.Goals as goal

pub of-requires-clause-there : goal.of-requires-clause-there
of-requires-clause-there c =
    All-head (λ (trace : Trace). All (λ (mark : Mark). mark.place < length c.args.spans.now) trace.family.marks.items)
    c.in-Some.trace.now c.in-Some.rest.now
    (subst (All (λ (trace : Trace). All (λ (mark : Mark). mark.place < length c.args.spans.now)
    trace.family.marks.items)) c.in-Some.ensures.cases.0 c.loop-trace.invariant.there)

pub loop-trace-preserved : goal.loop-trace-preserved
loop-trace-preserved c =
    let spans = c.args.spans.now in
    let cut = c.in-Some.ensures.cases.0 in
    let trace = plain_trace c.in-Some.trace.now in
    record {
      line = ap (λ n. last_line spans n (map plain_trace c.in-Some.rest.now))
          (c.line_after_trace-line.ensures ∙ ap (λ (s : PlainSheet). line_after_trace s c.loop-trace.line)
          (c.of.ensures ∙ ap (λ (layout : Layout). sheet_of layout spans trace) c.svg.ensures))
          ∙ sym (ap (λ ts. last_line spans c.loop-trace.line (map plain_trace ts)) cut) ∙ c.loop-trace.invariant.line;
      there = All-rest (λ (trace : Trace). All (λ (mark : Mark). mark.place < length spans) trace.family.marks.items)
          c.in-Some.trace.now c.in-Some.rest.now c.loop-trace.left.now cut c.loop-trace.invariant.there;
    }
