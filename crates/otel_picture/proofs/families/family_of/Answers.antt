-- Parents are of the picture.
use Rattle.std.proofs.Common.{arith, ap, length}
use Rattle.std.proofs.lemmas.List.{length-map}
use Rattle.otel_picture.specs.Families.{parent_in}
use Rattle.otel_picture.proofs.Places.{known_of}
use Rattle.otel_picture.proofs.families.family_of.Goals as goal

pub invariant_of-result : goal.invariant_of-result
invariant_of-result c =
    let marks = c.in_ok-marks.marks in
    let is = rw c.deref-2.ensures.value at c.in_ok-parents.ensures in
    record {
      alike = omega (
        arith,
        c.in_ok-parents.parents.ok.0,
        marks.ok.0,
        ap length is,
        length-map marks.items (parent_in marks.items),
      );
      known = known_of marks.items c.in_ok-parents.parents.items is;
      of_marks = is;
      repeated = rw c.deref-3.ensures.value at c.in_ok-repeats.ensures;
    }
