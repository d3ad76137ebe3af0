-- Texts that grow by one piece after another.
use Rattle.std.proofs.Common.{◌≡◌, ◌<◌, ◌+◌, ◌++◌, ◌∷◌, [], ◌∙◌, ℕ, List, ap, append-nil, append_assoc, flat_map, get_or}
use Rattle.std.proofs.Common.{length, sym, take}
use Rattle.std.proofs.lemmas.List.{take_more}
use Rattle.std.proofs.lemmas.List.Concat.{flat_map-append}

pub then_more : (start middle end a b : List ℕ) → middle ≡ start ++ a → end ≡ middle ++ b → end ≡ start ++ (a ++ b)
then_more start middle end a b e f = f ∙ ap (λ (t : List ℕ). t ++ b) e ∙ append_assoc start a b

-- what is left, after its first piece was taken
pub taken : {Y : Type 0} (old new piece rest left whole : List Y) → new ≡ old ++ piece → left ≡ piece ++ rest
    → old ++ left ≡ whole → new ++ rest ≡ whole
taken {Y} old new piece rest left whole e f g =
    ap (λ (t : List Y). t ++ rest) e ∙ append_assoc old piece rest ∙ ap (λ (t : List Y). old ++ t) (sym f) ∙ g

-- what each item becomes, with one item more
pub one_item : {X Y : Type 0} (f : X → List Y) (start whole more : List Y) (xs : List X) (i : ℕ) (x : X)
    → i < length xs → x ≡ get_or xs i x → whole ≡ start ++ flat_map f (take i xs) → more ≡ whole ++ f x
    → more ≡ start ++ flat_map f (take (i + 1) xs)
one_item {X} {Y} f start whole more xs i x l read e m =
    m ∙ ap (λ (t : List Y). t ++ f x) e ∙ append_assoc start (flat_map f (take i xs)) (f x)
    ∙ ap (λ (t : List Y). start ++ t)
    (sym (ap (flat_map f) (take_more xs i x l) ∙ flat_map-append f (take i xs) (get_or xs i x ∷ [])
    ∙ ap (λ (t : List Y). flat_map f (take i xs) ++ t) (append-nil (f (get_or xs i x)) ∙ ap f (sym read))))
