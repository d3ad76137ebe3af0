-- One span more, whose id is new or is not.
use Rattle.std.proofs.Common.{◌≡◌, ◌<◌, ◌+◌, ◌++◌, ◌∷◌, ◌∙◌, [], arith, get_or, length, subst, sym, take}
use Rattle.std.proofs.lemmas.List.{length-take-le, take_more}
use Rattle.otel_picture.proofs.Finding.{AreFirst, first_more, first_same}
use Rattle.otel_picture.proofs.families.first_of_ids.Goals as goal
use Rattle.otel_picture.proofs.families.first_of_ids.Goals.{then-not-contains_key+in_ok-insert, else-not-contains_key}

pub loop-span-preserved : goal.loop-span-preserved
loop-span-preserved c =
    let marks = c.args.marks.now in
    let span = c.loop-span.span in
    let mark = get_or marks span c.index-marks-span.result in
    let there : span < length marks = omega (arith, c.loop-span-test.true) in
    let more : take (span + 1) marks ≡ take span marks ++ mark ∷ [] =
    take_more marks span c.index-marks-span.result there in
    let count = length-take-le span marks (omega (arith, there)) in
    elim c.if-not-contains_key.branch [
      | then-not-contains_key+in_ok-insert w ↦ rw w.spans-is (subst (AreFirst w.insert.new.self) (sym more)
          (first_more c.loop-span.spans w.insert.new.self (take span marks) mark span c.loop-span.invariant (sym count)
          (sym c.contains_key.ensures ∙ w.if-not-contains_key.true) w.in_ok-insert.ensures.updates))
      | else-not-contains_key w ↦ rw w.spans-is (subst (AreFirst c.loop-span.spans) (sym more)
          (first_same c.loop-span.spans (take span marks) mark c.loop-span.invariant
          (sym c.contains_key.ensures ∙ w.if-not-contains_key.false)))
    ]
