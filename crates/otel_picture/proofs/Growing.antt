-- A text that grows by what each item becomes.
use Rattle.std.proofs.Common.{◌≡◌, ◌++◌, ◌∷◌, [], ◌∙◌, ℕ, List, append_assoc, append-nil, sym, ap, flat_map}
use Rattle.std.proofs.lemmas.List.Concat.{flat_map-append}

pub one_more : (f : ℕ → List ℕ) (start whole more items : List ℕ) (item : ℕ) → whole ≡ start ++ flat_map f items
    → more ≡ whole ++ f item → more ≡ start ++ flat_map f (items ++ item ∷ [])
one_more f start whole more items item e g =
    g ∙ ap (λ (w : List ℕ). w ++ f item) e ∙ append_assoc start (flat_map f items) (f item)
    ∙ ap (λ (w : List ℕ). start ++ w)
    (sym (flat_map-append f items (item ∷ []) ∙ ap (λ (w : List ℕ). flat_map f items ++ w) (append-nil (f item))))
