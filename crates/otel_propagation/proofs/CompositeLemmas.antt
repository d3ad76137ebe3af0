-- What names add to a list: where they stand in it already, and where the next one is theirs.
use Rattle.std.proofs.Common.{◌≡◌, ◌≢◌, ℕ, ◌+◌, ◌<◌, true, false, ◌||◌, List, [], ◌∷◌, ◌++◌, length, get_or, map, take, drop, refl, sym, ap, ◌∙◌, arith, ⊎_elim, add-one, append_assoc, append-nil, length-drop}
use Rattle.std.specs.List.{list_any}
use Rattle.std.specs.Str.{bytes_eq}
use Rattle.std.proofs.Math.Seq.{drop-cons, take-suc}
use Rattle.std.proofs.lemmas.Bool.{cases_Bool, cond-true, cond-false}
use Rattle.std.proofs.lemmas.List.{append_cancel_left, map_push, take-append-drop}
use Rattle.otel_propagation.specs.Composite.{joined_onto, with_name}

-- whether a name is one of those of a list
pub any_named : {X : Type 0} (name_of : X → List ℕ) (name : List ℕ) (others : List X)
    → list_any (λ other. bytes_eq other name) (map name_of others) ≡ list_any (λ other. bytes_eq (name_of other) name) others
any_named name_of name [] = refl
any_named name_of name (other ∷ others) = ap (λ b. bytes_eq (name_of other) name || b) (any_named name_of name others)

-- a name that is there adds nothing
pub known : (given : List (List ℕ)) (name : List ℕ) → list_any (λ other. bytes_eq other name) given ≡ true → with_name given name ≡ given
known given name is = cond-true _ _ _ is

-- a new name stands after the others
pub new : (given : List (List ℕ)) (name : List ℕ) → list_any (λ other. bytes_eq other name) given ≡ false → with_name given name ≡ given ++ name ∷ []
new given name is = cond-false _ _ _ is

-- a list that has a name stays as it is, and one that has not gets it at its end
pub known_of : {X : Type 0} (name_of : X → List ℕ) (others : List X) (name : List ℕ) → list_any (λ other. bytes_eq (name_of other) name) others ≡ true
    → map name_of others ≡ with_name (map name_of others) name
known_of name_of others name is = sym (known (map name_of others) name (any_named name_of name others ∙ is))

pub new_of : {X : Type 0} (name_of : X → List ℕ) (others : List X) (name : List ℕ) (other : X) → list_any (λ other. bytes_eq (name_of other) name) others ≡ false
    → name_of other ≡ name → map name_of (others ++ other ∷ []) ≡ with_name (map name_of others) name
new_of name_of others name other absent is =
    map_push name_of others other ∙ ap (λ n. map name_of others ++ n ∷ []) is ∙ sym (new (map name_of others) name (any_named name_of name others ∙ absent))

-- where the next name is the new one, one more stands before the rest
pub next_is_new : (list : List (List ℕ)) (given : ℕ) (name : List ℕ) → list_any (λ other. bytes_eq other name) (take given list) ≡ false
    → given < length list → get_or list given [] ≡ name → take (given + 1) list ≡ with_name (take given list) name
next_is_new list given name is inside next =
    ap (λ n. take n list) (add-one given) ∙ take-suc list given [] inside ∙ ap (λ n. take given list ++ n ∷ []) next ∙ sym (new (take given list) name is)

-- a list goes on with a new name only where that is the next one
pub next_is_another : (list : List (List ℕ)) (given : ℕ) (name : List ℕ) → list_any (λ other. bytes_eq other name) (take given list) ≡ false
    → (given < length list → get_or list given [] ≢ name) → (more : List (List ℕ)) → list ≢ with_name (take given list) name ++ more
next_is_another list given name is another more goes_on =
    let after = append_cancel_left (take given list) (drop given list) (name ∷ more)
    (take-append-drop given list ∙ goes_on ∙ ap (λ l. l ++ more) (new (take given list) name is) ∙ append_assoc (take given list) (name ∷ []) more) in
    let inside : given < length list = omega (arith, sym (length-drop given list) ∙ ap length after) in
    another inside (ap (λ l. get_or l 0 []) (sym (drop-cons list given [] inside) ∙ after))

-- a name puts at most itself after
adds : (given : List (List ℕ)) (name : List ℕ) → (more : List (List ℕ)) × (with_name given name ≡ given ++ more)
adds given name = ⊎_elim
    (λ is. ([], known given name is ∙ sym (append-nil given)))
    (λ is. (name ∷ [], new given name is))
    (cases_Bool (list_any (λ other. bytes_eq other name) given))

-- names are only put after those that are given
pub goes_on : (given names : List (List ℕ)) → (more : List (List ℕ)) × (joined_onto given names ≡ given ++ more)
goes_on given [] = ([], sym (append-nil given))
goes_on given (name ∷ names) =
    let (first, is) = adds given name in
    let (more, also) = goes_on (with_name given name) names in
    (first ++ more, also ∙ ap (λ l. l ++ more) is ∙ append_assoc given first more)

-- a list that does not go on with a name does not go on with that name and others
pub others_stay_away : (list front names all : List (List ℕ)) (name : List ℕ) → joined_onto front (name ∷ names) ≡ all
    → ((more : List (List ℕ)) → list ≢ with_name front name ++ more) → (more : List (List ℕ)) → list ≢ all ++ more
others_stay_away list front names all name is away more same =
    let (after, also) = goes_on (with_name front name) names in
    away (after ++ more) (same ∙ ap (λ l. l ++ more) (sym is ∙ also) ∙ append_assoc (with_name front name) after more)
