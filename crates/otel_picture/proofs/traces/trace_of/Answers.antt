-- The trace of these places.
use Rattle.std.proofs.Common.{◌<◌, length, refl}
use Rattle.std.proofs.lemmas.List.Elements.{All-map, All-same}
use Rattle.otel_picture.specs.Families.{mark_of, marks_at, span_at}
use Rattle.otel_picture.specs.declared.rows.Mark.{Mark}
use Rattle.otel_picture.proofs.traces.trace_of.Goals as goal

pub returns : goal.returns
returns c =
    let spans = c.args.spans.now in
    let places = c.args.group.now.places.items in
    let marks = rw c.deref.ensures.value at c.in_ok-family.ensures in
    record {
      id = refl;
      marks = marks;
      there = All-same (λ (mark : Mark). mark.place < length spans) c.in_ok-family.family.marks.items
          (marks_at spans places) marks
          (All-map (λ (mark : Mark). mark.place < length spans) (λ place. mark_of place (span_at spans place)) places
          c.requires);
      rows = c.in_ok-rows.ensures;
    }
