-- Tellings that follow one another.
use Rattle.std.proofs.Common.{◌≡◌, ◌∙◌, ap, sym, subst, List, [], ◌++◌, Option, Some, None, append_assoc, append-nil}
use Rattle.otel_export.specs.Telling.{Tells}

-- one telling after another is the telling of both
pub tells_append : {D : Type 0} (a : Option (List D)) (xs : List D) (b : Option (List D)) (ys : List D)
    (c : Option (List D)) → Tells a xs b → Tells b ys c → Tells a (xs ++ ys) c
tells_append a xs b ys None h k = tt
tells_append a xs None ys (Some z) h k = absurd (let e : None ≡ Some z = k in cc)
tells_append None xs (Some y) ys (Some z) h k = absurd (let e : None ≡ Some y = h in cc)
tells_append {D} (Some x) xs (Some y) ys (Some z) h k =
    let e : x ++ xs ≡ y = cc in
    ap (λ (l : List D). Some l) (sym (append_assoc x xs ys) ∙ ap (λ (l : List D). l ++ ys) e) ∙ k

-- a telling that stays tells nothing more
pub tells_same : {D : Type 0} (a b : Option (List D)) → b ≡ a → Tells a [] b
tells_same {D} None b e = subst (λ (o : Option (List D)). Tells None [] o) (sym e) tt
tells_same {D} (Some x) b e =
    subst (λ (o : Option (List D)). Tells (Some x) [] o) (sym e) (ap (λ (l : List D). Some l) (append-nil x))
