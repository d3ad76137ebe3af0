-- Names that a text puts after others, each once.
use Rattle.std.proofs.Common.{◌≡◌, ℕ, Bool, List, [], ◌∷◌, ◌++◌, map, refl, sym, ap, ◌∙◌, ⊎_elim, append-nil}
use Rattle.std.specs.Borrow.{Bor}
use Rattle.std.specs.List.{filter}
use Rattle.std.specs.Str.{trim}
use Rattle.std.proofs.lemmas.Bool.{cases_Bool, cond-true, cond-false}
use Rattle.std.proofs.lemmas.List.{map_push}
use Rattle.std.proofs.lemmas.List.Elements.{filter-append}
use Rattle.otel_propagation.specs.Composite.{joined_onto, with_name}
use Rattle.otel_propagation.specs.NamedPropagators.{names_where, with_name_where}

joined_more : (given names : List (List ℕ)) (name : List ℕ) → joined_onto given (names ++ name ∷ []) ≡ with_name (joined_onto given names) name
joined_more given [] name = refl
joined_more given (first ∷ names) name = joined_more (with_name given first) names name

-- one name more
where_more : (test : List ℕ → Bool) (members : List (List ℕ)) (name : List ℕ)
    → with_name_where test (names_where test members) name ≡ names_where test (members ++ name ∷ [])
where_more test members name =
    let parts = filter-append test members (name ∷ []) in
    ⊎_elim
    (λ passes. cond-true _ _ _ passes ∙ sym (joined_more [] (filter test members) name)
    ∙ ap (λ l. joined_onto [] (filter test members ++ l)) (sym (cond-true _ _ _ passes)) ∙ ap (joined_onto []) (sym parts))
    (λ fails. cond-false _ _ _ fails ∙ ap (joined_onto []) (sym (append-nil (filter test members)))
    ∙ ap (λ l. joined_onto [] (filter test members ++ l)) (sym (cond-false _ _ _ fails)) ∙ ap (joined_onto []) (sym parts))
    (cases_Bool (test name))

-- one member more
pub member_more : (test : List ℕ → Bool) (members : List (Bor (List ℕ))) (member : Bor (List ℕ)) (name : List ℕ) (given new : List (List ℕ)) → name ≡ trim member.now
    → given ≡ names_where test (map trim (map (λ x. x.now) members)) → new ≡ with_name_where test given name
    → new ≡ names_where test (map trim (map (λ x. x.now) (members ++ member ∷ [])))
member_more test members member name given new trimmed before is =
    let trims : List (Bor (List ℕ)) → List (List ℕ) = λ ms. map trim (map (λ x. x.now) ms) in
    is ∙ ap (λ l. with_name_where test l name) before ∙ ap (with_name_where test (names_where test (trims members))) trimmed
    ∙ where_more test (trims members) (trim member.now)
    ∙ ap (names_where test) (sym (ap (map trim) (map_push (λ x. x.now) members member) ∙ map_push trim (map (λ x. x.now) members) member.now))
