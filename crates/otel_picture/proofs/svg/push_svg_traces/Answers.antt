-- One trace more, which those after it go with.
use Rattle.std.proofs.Common.{◌<◌, ◌++◌, ◌∙◌, All, ap, length, map, string_bytes, subst}
use Rattle.std.proofs.lemmas.List.Elements.{All-head, All-rest}
use Rattle.otel_picture.specs.Layouts.{svg_layout}
use Rattle.otel_picture.specs.PlainSheets.{PlainSheet, sheet_of}
use Rattle.otel_picture.specs.SvgTexts.{line_after_trace, svg_trace, svg_traces}
use Rattle.otel_picture.specs.Traces.{plain_trace}
use Rattle.otel_picture.specs.declared.layout.Layout.{Layout}
use Rattle.otel_picture.specs.declared.rows.Mark.{Mark}
use Rattle.otel_picture.specs.declared.trace.Trace.{Trace}
use Rattle.otel_picture.proofs.Joined.{taken}
use Rattle.otel_picture.proofs.svg.push_svg_traces.Goals as goal

pub of-sheet-requires-clause-there : goal.of-sheet-requires-clause-there
of-sheet-requires-clause-there c =
    All-head (λ (trace : Trace). All (λ (mark : Mark). mark.place < length c.args.spans.now) trace.family.marks.items)
    c.in-Some.trace.now c.in-Some.rest.now
    (subst (All (λ (trace : Trace). All (λ (mark : Mark). mark.place < length c.args.spans.now)
    trace.family.marks.items)) c.in-Some.ensures.cases.0 c.loop-trace.invariant.there)

pub loop-trace-preserved : goal.loop-trace-preserved
loop-trace-preserved c =
    let spans = c.args.spans.now in
    let cut = c.in-Some.ensures.cases.0 in
    let trace = plain_trace c.in-Some.trace.now in
    let sheet = sheet_of svg_layout spans trace in
    let is = c.of-sheet.ensures ∙ ap (λ (layout : Layout). sheet_of layout spans trace) c.svg.ensures in
    record {
      text = ap (λ n. string_bytes c.push_svg_trace.new.out ++ svg_traces spans n (map plain_trace c.in-Some.rest.now))
          (c.line_after_trace-line.ensures ∙ ap (λ (s : PlainSheet). line_after_trace s c.loop-trace.line) is)
          ∙ taken (string_bytes c.loop-trace.out) (string_bytes c.push_svg_trace.new.out)
          (svg_trace sheet c.loop-trace.line)
          (svg_traces spans (line_after_trace sheet c.loop-trace.line) (map plain_trace c.in-Some.rest.now))
          (svg_traces spans c.loop-trace.line (map plain_trace c.loop-trace.left.now)) _
          (c.in_ok-push_svg_trace.ensures
          ∙ ap (λ (s : PlainSheet). string_bytes c.loop-trace.out ++ svg_trace s c.loop-trace.line) is)
          (ap (λ ts. svg_traces spans c.loop-trace.line (map plain_trace ts)) cut)
          c.loop-trace.invariant.text;
      there = All-rest (λ (trace : Trace). All (λ (mark : Mark). mark.place < length spans) trace.family.marks.items)
          c.in-Some.trace.now c.in-Some.rest.now c.loop-trace.left.now cut c.loop-trace.invariant.there;
    }
