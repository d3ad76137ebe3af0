-- One trace more, which those after it go with.
use Rattle.std.proofs.Common.{false, ◌<◌, ◌++◌, ◌∙◌, All, ap, length, map, string_bytes, subst}
use Rattle.std.proofs.lemmas.List.Elements.{All-head, All-rest}
use Rattle.otel_picture.specs.RowTexts.{apart_text, traces_text}
use Rattle.otel_picture.specs.PlainSheets.{sheet_of}
use Rattle.otel_picture.specs.Traces.{plain_trace}
use Rattle.otel_picture.specs.declared.rows.Mark.{Mark}
use Rattle.otel_picture.specs.declared.trace.Trace.{Trace}
use Rattle.otel_picture.proofs.Joined.{taken}
use Rattle.otel_picture.proofs.write_text.push_traces.Goals as goal

pub of-requires-clause-there : goal.of-requires-clause-there
of-requires-clause-there c =
    All-head (λ (trace : Trace). All (λ (mark : Mark). mark.place < length c.args.spans.now) trace.family.marks.items)
    c.in-Some.trace.now c.in-Some.rest.now
    (subst (All (λ (trace : Trace). All (λ (mark : Mark). mark.place < length c.args.spans.now)
    trace.family.marks.items)) c.in-Some.ensures.cases.0 c.loop-trace.invariant.there)

pub loop-trace-preserved : goal.loop-trace-preserved
loop-trace-preserved c =
    let layout = c.args.layout in
    let spans = c.args.spans.now in
    let cut = c.in-Some.ensures.cases.0 in
    record {
      text = taken (string_bytes c.loop-trace.text) (string_bytes c.push_apart.new.text)
          (apart_text c.loop-trace.is_first (sheet_of layout spans (plain_trace c.in-Some.trace.now)))
          (traces_text layout spans false (map plain_trace c.in-Some.rest.now))
          (traces_text layout spans c.loop-trace.is_first (map plain_trace c.loop-trace.left.now)) _
          (c.in_ok-push_apart.ensures
          ∙ ap (λ sheet. string_bytes c.loop-trace.text ++ apart_text c.loop-trace.is_first sheet) c.of.ensures)
          (ap (λ ts. traces_text layout spans c.loop-trace.is_first (map plain_trace ts)) cut)
          c.loop-trace.invariant.text;
      there = All-rest (λ (trace : Trace). All (λ (mark : Mark). mark.place < length spans) trace.family.marks.items)
          c.in-Some.trace.now c.in-Some.rest.now c.loop-trace.left.now cut c.loop-trace.invariant.there;
    }
