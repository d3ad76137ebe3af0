-- Spans that are sorted, the last one first.
use Rattle.std.proofs.Common.{◌≡◌, ◌<◌, ◌≤◌, inl, inr, zero, suc, ◌+◌, ◌==◌, ◌++◌, ◌∷◌, [], ◌∙◌, ℕ, Bool, true, false, List, Option}
use Rattle.std.proofs.Common.{All, Contains, Some, None, ap, arith, get_or, is_lt, length, nat_cmp, nat_lt, refl, subst, sym}
use Rattle.std.specs.Cmp.{IsStrictWeakOrder}
use Rattle.std.specs.List.{AllByRecursion, filter}
use Rattle.std.specs.List.Sorted.{IsPermutation}
use Rattle.std.specs.Ordering.{ordering_then}
use Rattle.std.proofs.lemmas.Bool.{cases_lt, eq-eqb, eqb-true, false≢true}
use Rattle.std.proofs.lemmas.List.Elements.{All-from_recursion, All-push, All-weaker, Contains-append_left, Contains-push}
use Rattle.std.proofs.lemmas.List.{get_or_past}
use Rattle.std.specs.Global.{Vec}
use Rattle.std.proofs.lemmas.List.Elements.{recursion_from_All}
use Rattle.std.proofs.lemmas.List.Kept.{AllPairs-filter}
use Rattle.std.proofs.lemmas.List.Sorted.{All-permutation, Contains-permutation, sorted_far}
use Rattle.otel_picture.specs.Orders.{comes_before, start_at}
use Rattle.otel_picture.specs.Parents.{parent_of}
use Rattle.otel_picture.specs.Turns.{AreChildren, AreInTurn, AreRoots, AreSplit, AreTops, is_child, is_marked, is_span}
use Rattle.otel_picture.specs.declared.rows.Mark.{Mark}
use Rattle.otel_picture.proofs.Ordering.{compared, not_before, not_both, true_or_false}

-- spans in order of export
pub record AreBelow (bound : ℕ) (spans : List ℕ) : Type 0 where
  pub each : All (λ span. span < bound) spans
  pub whole : (span : ℕ) → span < bound → Contains spans span

pub one_below : (bound : ℕ) (spans new : List ℕ) → new ≡ spans ++ bound ∷ [] → AreBelow bound spans
    → AreBelow (bound + 1) new
one_below bound spans new e before = subst (AreBelow (bound + 1)) (sym e) (record {
  each = All-push (λ span. span < bound + 1) spans bound
      (All-weaker (λ span. span < bound) (λ span. span < bound + 1) (λ span l. omega (arith, l)) spans before.each)
      (omega arith);
  whole = λ span l. elim (cases_lt span bound) [
    | inl under ↦ Contains-append_left spans (bound ∷ []) span (before.whole span under)
    | inr over ↦
        let same : bound ≡ span = omega (arith, l, over) in
        subst (λ k. Contains (spans ++ bound ∷ []) k) same (Contains-push spans bound)
  ];
})

last_first_order : (marks : List Mark) → IsStrictWeakOrder (λ one other. comes_before marks other one)
last_first_order marks = record {
  one_way = λ one other e. not_both marks other one e;
  chain = λ one other last e f. not_before marks last other one f e;
}

-- spans whose keys are sorted, the last one first
pub sorted_spans : (marks : List Mark) (count : ℕ) (spans sorted : List ℕ) → AreBelow count spans
    → IsPermutation spans sorted
    → ((k d : ℕ) → 0 ≤ k → k + 1 < length sorted
    → is_lt (ordering_then (nat_cmp (start_at marks (get_or sorted k d)) (start_at marks (get_or sorted (k + 1) d)))
    (nat_cmp (get_or sorted k d) (get_or sorted (k + 1) d))) ≡ false)
    → AreInTurn marks (λ span. span < count) sorted
sorted_spans marks count spans sorted all moved adjacent = record {
  each = All-permutation (λ span. span < count) spans sorted moved all.each;
  whole = λ span l. Contains-permutation spans sorted span moved (all.whole span l);
  last_first = λ i j d l m. sorted_far (λ one other. comes_before marks other one) (last_first_order marks) sorted
      (λ k e least low. sym (compared (nat_lt (start_at marks (get_or sorted k e)) (start_at marks (get_or sorted (k + 1) e)))
      (start_at marks (get_or sorted k e) == start_at marks (get_or sorted (k + 1) e))
      (nat_lt (get_or sorted k e) (get_or sorted (k + 1) e)) (get_or sorted k e == get_or sorted (k + 1) e))
      ∙ adjacent k e least low) i j d (omega (arith, l)) m;
}

-- those that pass a test
in_filter : (p : ℕ → Bool) (spans : List ℕ) (span : ℕ) → Contains spans span → p span ≡ true
    → Contains (filter p spans) span
in_filter p [] span there passes = absurd (omega (arith, there.1))
in_filter p (one ∷ spans) span (zero, l, e) passes = rw (ap p e ∙ passes) (0, omega arith, e)
in_filter p (one ∷ spans) span (suc k, l, e) passes =
    let rest = in_filter p spans span (k, omega (arith, l), e) passes in
    elim (true_or_false (p one)) [
      | inl held ↦ rw held (suc rest.0, omega (arith, rest.1), rest.2)
      | inr free ↦ rw free rest
    ]

all_pass : (P Q : ℕ → Type 0) (p : ℕ → Bool) (spans : List ℕ) → ((span : ℕ) → P span → p span ≡ true → Q span)
    → AllByRecursion P spans → AllByRecursion Q (filter p spans)
all_pass P Q p [] give all = tt
all_pass P Q p (one ∷ spans) give all = elim (true_or_false (p one)) [
  | inl held ↦ rw held (give one all.0 held, all_pass P Q p spans give all.1)
  | inr free ↦ rw free (all_pass P Q p spans give all.1)
]

pub some_in_turn : (marks : List Mark) (P Q : ℕ → Type 0) (p : ℕ → Bool) (spans : List ℕ)
    → ((span : ℕ) → P span → p span ≡ true → Q span) → ((span : ℕ) → Q span → P span × (p span ≡ true))
    → AreInTurn marks P spans → AreInTurn marks Q (filter p spans)
some_in_turn marks P Q p spans give take all = record {
  each = All-from_recursion Q (filter p spans) (all_pass P Q p spans give (recursion_from_All P spans all.each));
  whole = λ span q. in_filter p spans span (all.whole span (take span q).0) (take span q).1;
  last_first = AllPairs-filter (λ one other. comes_before marks one other ≡ false) p spans all.last_first;
}

pub roots_in_turn : (marks : List Mark) (parents : List (Option ℕ)) (count : ℕ) (tops : List Bool)
    (spans roots : List ℕ) → count ≡ length parents → AreTops marks parents tops
    → AreInTurn marks (λ span. span < count) spans → roots ≡ filter (λ span. get_or tops span false) spans
    → AreRoots marks parents roots
roots_in_turn marks parents count tops spans roots e are all is = record {
  tops = tops;
  are = are;
  in_turn = subst (λ xs. AreInTurn marks (λ span. (span < length parents) × (is_marked tops span ≡ true)) xs) (sym is)
      (some_in_turn marks (λ span. span < count) (λ span. (span < length parents) × (is_marked tops span ≡ true))
      (λ span. get_or tops span false) spans (λ span l p. (omega (arith, l, e), p))
      (λ span q. (omega (arith, q.0, e), q.1)) all);
}

is_span_of : (span : ℕ) (parent : Option ℕ) → is_span span parent ≡ true → parent ≡ Some span
is_span_of span None h = absurd (false≢true h)
is_span_of span (Some parent) h = ap (λ n. Some n) (eqb-true parent span h)

pub there_of : (parents : List (Option ℕ)) (span parent : ℕ) → parent_of parents span ≡ Some parent → span < length parents
there_of parents span parent e = elim (cases_lt span (length parents)) [
  | inl low ↦ low
  | inr high ↦ let no : None ≡ Some parent = sym (get_or_past parents span None high) ∙ e in absurd cc
]

pub children_in_turn : (marks : List Mark) (parents : List (Option ℕ)) (count : ℕ) (spans : List ℕ)
    (children : List (Vec ℕ)) → count ≡ length parents → AreInTurn marks (λ span. span < count) spans
    → AreSplit parents spans children → AreChildren marks parents children
children_in_turn marks parents count spans children e all split = record {
  alike = split.alike;
  each = λ parent list l. subst (λ xs. AreInTurn marks (λ span. parent_of parents span ≡ Some parent) xs)
      (sym (split.each parent list l))
      (some_in_turn marks (λ span. span < count) (λ span. parent_of parents span ≡ Some parent)
      (is_child parents parent) spans (λ span m p. is_span_of parent (parent_of parents span) p)
      (λ span q. (
        omega (arith, there_of parents span parent q, e),
        ap (is_span parent) q ∙ eq-eqb parent parent refl,
      )) all);
}

-- the children that were read
pub children_read : (marks : List Mark) (parents : List (Option ℕ)) (children : List (Vec ℕ)) (parent : ℕ) (list : Vec ℕ)
    → AreChildren marks parents children → parent < length parents → list ≡ get_or children parent list
    → AreInTurn marks (λ span. parent_of parents span ≡ Some parent) list.items
children_read marks parents children parent list are l read =
    subst (λ (one : Vec ℕ). AreInTurn marks (λ span. parent_of parents span ≡ Some parent) one.items) (sym read)
    (are.each parent list l)

pub children_there : (marks : List Mark) (parents : List (Option ℕ)) (parent : ℕ) (spans : List ℕ)
    → AreInTurn marks (λ span. parent_of parents span ≡ Some parent) spans → All (λ span. span < length parents) spans
children_there marks parents parent spans are =
    All-weaker (λ span. parent_of parents span ≡ Some parent) (λ span. span < length parents)
    (λ span e. there_of parents span parent e) spans are.each
