use Rattle.std.proofs.Common.{◌≡◌, ◌≤◌, ◌<◌, Bool, true, false, List, ℕ, [], length, take, get_or, sym, ap, subst, ◌∙◌, arith}
use Rattle.std.specs.Borrow.{Bor}
use Rattle.std.specs.List.{list_any}
use Rattle.std.specs.Str.{bytes_eq}
use Rattle.std.proofs.lemmas.Bool.{both_ways}
use Rattle.std.proofs.lemmas.List.{take-map, get_or-map, length-map}
use Rattle.std.proofs.lemmas.Slice.Eq.{bytes_eq-Decides}
use Rattle.otel_propagation.specs.Composite.{names_of}
use Rattle.otel_propagation.proofs.CompositeLemmas.{any_named, known, next_is_new, next_is_another}
use Rattle.otel_propagation.proofs.propagation.composite.name_added.Goals as goal

-- whether the name is among the first ones, as the slice answers it
among : (list : List (Bor (List ℕ))) (given : ℕ) (name : List ℕ) (is : Bool) → list_any (λ other. bytes_eq other.now name) (take given list) ≡ is
    → list_any (λ other. bytes_eq other name) (take given (names_of list)) ≡ is
among list given name is found =
    ap (list_any (λ other. bytes_eq other name)) (take-map (λ other. other.now) given list) ∙ any_named (λ other. other.now) name (take given list) ∙ found

-- the next name, as the slice answers it
next_name : (list : List (Bor (List ℕ))) (given : ℕ) (next : Bor (List ℕ)) → given < length list → ((d : Bor (List ℕ)) → next ≡ get_or list given d)
    → get_or (names_of list) given [] ≡ next.now
next_name list given next inside is = get_or-map (λ other. other.now) list given next [] inside ∙ ap (λ other. other.now) (sym (is next))

within : (list : List (Bor (List ℕ))) (given : ℕ) → given < length list → given < length (names_of list)
within list given inside = subst (λ n. given < n) (sym (length-map list (λ other. other.now))) inside

outside : (list : List (Bor (List ℕ))) (given : ℕ) → length list ≤ given → given < length (names_of list) → ⊥
outside list given over inside = omega (arith, over, inside, length-map list (λ other. other.now))

pub returns-then-contains : goal.returns-then-contains
returns-then-contains c = (
  c.requires,
  sym (known (take c.args.given (names_of c.args.list.now)) c.args.name.now
      (among c.args.list.now c.args.given c.args.name.now true (sym c.contains.ensures.value ∙ c.if-contains.true))),
)

pub returns-then-eq : goal.returns-then-eq
returns-then-eq c =
    let inside = c.in-Some.ensures.lookup.3.0 in (
      omega (arith, inside),
      next_is_new (names_of c.args.list.now) c.args.given c.args.name.now
          (among c.args.list.now c.args.given c.args.name.now false (sym c.contains.ensures.value ∙ c.if-contains.false))
          (within c.args.list.now c.args.given inside)
          (next_name c.args.list.now c.args.given c.in-Some.next.now inside c.in-Some.ensures.lookup.3.1
          ∙ (bytes_eq-Decides c.in-Some.next.now.now c.args.name.now).0 (sym c.eq.ensures ∙ c.if-eq.true)),
    )

pub returns-else-eq : goal.returns-else-eq
returns-else-eq c =
    let inside = c.in-Some.ensures.lookup.3.0 in
    next_is_another (names_of c.args.list.now) c.args.given c.args.name.now
    (among c.args.list.now c.args.given c.args.name.now false (sym c.contains.ensures.value ∙ c.if-contains.false))
    (λ _ is. both_ways (bytes_eq c.in-Some.next.now.now c.args.name.now) (sym c.eq.ensures ∙ c.if-eq.false)
    ((bytes_eq-Decides c.in-Some.next.now.now c.args.name.now).1 (sym (next_name c.args.list.now c.args.given c.in-Some.next.now inside c.in-Some.ensures.lookup.3.1) ∙ is)))

pub returns-in_default : goal.returns-in_default
returns-in_default c = next_is_another (names_of c.args.list.now) c.args.given c.args.name.now
    (among c.args.list.now c.args.given c.args.name.now false (sym c.contains.ensures.value ∙ c.if-contains.false))
    (λ inside _. outside c.args.list.now c.args.given c.in_default.ensures.lookup.3 inside)
