-- What the next name adds to the propagators and to the names that are unknown.
use Rattle.std.proofs.Common.{◌≡◌, Bool, All, List, [], ◌∷◌, ◌++◌, Option, filter_map, map, sym, ap, subst, ◌∙◌, append_assoc}
use Rattle.std.specs.List.{filter}
use Rattle.std.proofs.lemmas.List.Elements.{All-tail, filter-append, filter_map-append}

-- what holds of all items holds of those that are left
pub items_left : {N : Type 0} (P : N → Type 0) (items rest : List N) (n : N) → items ≡ n ∷ rest → All P items → All P rest
items_left P items rest n next all = All-tail P n rest (subst (All P) next all)

-- what the next name gives comes after what those before it give
pub known_after : {X N P : Type 0} (of : X → Option P) (name_of : N → X) (done after : List P) (items rest : List N) (n : N)
    → items ≡ n ∷ rest → after ≡ done ++ filter_map of (name_of n ∷ [])
    → after ++ filter_map of (map name_of rest) ≡ done ++ filter_map of (map name_of items)
known_after of name_of done after items rest n next is =
    ap (λ l. l ++ filter_map of (map name_of rest)) is
    ∙ append_assoc done (filter_map of (name_of n ∷ [])) (filter_map of (map name_of rest))
    ∙ ap (λ l. done ++ l) (sym (filter_map-append of (name_of n ∷ []) (map name_of rest)))
    ∙ ap (λ l. done ++ filter_map of (map name_of l)) (sym next)

-- the next name, where it is unknown, comes after those before it
pub unknown_after : {X N : Type 0} (passes : X → Bool) (name_of : N → X) (done after : List X) (items rest : List N) (n : N)
    → items ≡ n ∷ rest → after ≡ done ++ filter passes (name_of n ∷ [])
    → after ++ filter passes (map name_of rest) ≡ done ++ filter passes (map name_of items)
unknown_after passes name_of done after items rest n next is =
    ap (λ l. l ++ filter passes (map name_of rest)) is
    ∙ append_assoc done (filter passes (name_of n ∷ [])) (filter passes (map name_of rest))
    ∙ ap (λ l. done ++ l) (sym (filter-append passes (name_of n ∷ []) (map name_of rest)))
    ∙ ap (λ l. done ++ filter passes (map name_of l)) (sym next)
