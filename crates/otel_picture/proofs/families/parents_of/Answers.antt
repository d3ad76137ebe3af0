-- One parent more.
use Rattle.std.proofs.Common.{◌<◌, ◌==◌, ◌++◌, ◌∷◌, ◌∙◌, [], None, ap, arith, if◌then◌else◌, length, map, sym, take}
use Rattle.std.proofs.lemmas.List.{map-append, take_more}
use Rattle.otel_picture.specs.Families.{parent_in}
use Rattle.otel_picture.proofs.families.parents_of.Goals as goal

pub loop-mark-preserved : goal.loop-mark-preserved
loop-mark-preserved c =
    let marks = c.args.marks.now in
    let mark = c.mark-item.result in
    let at = c.loop-mark.mark-index in
    let there : at < length marks = omega (arith, c.loop-mark-test.true) in
    let of = c.parent_of.ensures ∙ ap (λ o. if mark.parent == 0 then None else o) (c.requires mark.parent) in
    c.in_ok-push.ensures.items ∙ ap (λ xs. xs ++ c.parent_of.result ∷ []) c.loop-mark.invariant
    ∙ ap (λ o. map (parent_in marks) (take at marks) ++ o ∷ []) of
    ∙ sym (ap (map (parent_in marks)) (take_more marks at mark there ∙ ap (λ m. take at marks ++ m ∷ []) (sym c.mark-item.is))
    ∙ map-append (parent_in marks) (take at marks) (mark ∷ []))
