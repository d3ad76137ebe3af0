-- The spans of a trace are there.
use Rattle.std.proofs.Common.{◌<◌, All, length}
use Rattle.std.proofs.lemmas.List.Elements.{All-from_recursion}
use Rattle.otel_picture.specs.Families.{trace_ids}
use Rattle.otel_picture.specs.declared.rows.Mark.{Mark}
use Rattle.otel_picture.specs.declared.trace.Trace.{Trace}
use Rattle.otel_picture.proofs.Zipped.{are_there}
use Rattle.otel_picture.proofs.traces.Traces.of.Goals as goal

pub invariant_of-result : goal.invariant_of-result
invariant_of-result c =
    let spans = c.args.spans.now in
    let traces = c.in_ok-traces.traces.items in
    record {
      there = All-from_recursion (λ (trace : Trace). All (λ (mark : Mark). mark.place < length spans)
          trace.family.marks.items) traces (are_there spans (trace_ids spans) traces c.in_ok-traces.ensures);
    }
