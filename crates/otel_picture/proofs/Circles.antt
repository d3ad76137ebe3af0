-- Circles of parents: a walk up that never ends goes round one.
use Rattle.std.proofs.Common.{◌≡◌, ◌<◌, ◌≤◌, ◌+◌, ◌-◌, ◌==◌, ◌⊎◌, ◌∙◌, inl, inr, ℕ, zero, suc, false, Option, Some}
use Rattle.std.proofs.Common.{true, None, List, length, sym, subst, ap, refl, arith, if◌then◌else◌, option_and_then, add-one}
use Rattle.std.proofs.lemmas.Bool.{cases_eq, cases_lt, eq-eqb, false≢true, ne_eqb}
use Rattle.otel_picture.specs.Orders.{IsHead, comes_before}
use Rattle.otel_picture.specs.Parents.{AreKnown, HasAncestors, ancestor, parent_of}
use Rattle.otel_picture.specs.declared.rows.Mark.{Mark}
use Rattle.otel_picture.proofs.Ordering.{before_total, not_before, not_both, not_itself}

-- more steps up, from where some lead
pub ancestor_more : (parents : List (Option ℕ)) (more steps span above : ℕ) → ancestor parents steps span ≡ Some above
    → ancestor parents (more + steps) span ≡ ancestor parents more above
ancestor_more parents zero steps span above e =
    let same : 0 + steps ≡ steps = omega arith in ap (λ n. ancestor parents n span) same ∙ e
ancestor_more parents (suc more) steps span above e =
    let same : suc more + steps ≡ suc (more + steps) = omega arith in
    ap (λ n. ancestor parents n span) same
    ∙ ap (λ (o : Option ℕ). option_and_then (parent_of parents) o) (ancestor_more parents more steps span above e)

-- a step up ends a walk of one more
pub middle : (parents : List (Option ℕ)) (steps span above : ℕ) (so_far : Option ℕ) → ancestor parents steps span ≡ so_far
    → option_and_then (parent_of parents) so_far ≡ Some above
    → (below : ℕ) × (ancestor parents steps span ≡ Some below) × (parent_of parents below ≡ Some above)
middle parents steps span above None e h = let no : None ≡ Some above = h in absurd cc
middle parents steps span above (Some below) e h = (below, e, h)

one_above : (parents : List (Option ℕ)) (count span above : ℕ) → parent_of parents span ≡ Some above
    → HasAncestors parents count span → (rest : ℕ) × (count ≡ suc rest) × HasAncestors parents rest above
one_above parents zero span above e h = let no : None ≡ Some above = sym h ∙ e in absurd cc
one_above parents (suc rest) span above e h =
    let same : h.0 ≡ above = let s : Some h.0 ≡ Some above = sym h.1 ∙ e in cc in
    (rest, refl, subst (HasAncestors parents rest) same h.2)

-- a span with so many ancestors has the rest of them above what some steps lead to
fewer_above : (parents : List (Option ℕ)) (steps count span above : ℕ) → ancestor parents steps span ≡ Some above
    → HasAncestors parents count span → (rest : ℕ) × (count ≡ rest + steps) × HasAncestors parents rest above
fewer_above parents zero count span above e h =
    let same : span ≡ above = cc in (count, omega arith, subst (HasAncestors parents count) same h)
fewer_above parents (suc steps) count span above e h =
    let walk = middle parents steps span above _ refl e in
    let before = fewer_above parents steps count span walk.0 walk.1 h in
    let after = one_above parents before.0 walk.0 above walk.2 before.2 in
    (after.0, omega (arith, before.1, after.1), after.2)

same_count : (parents : List (Option ℕ)) (one two span : ℕ) → HasAncestors parents one span
    → HasAncestors parents two span → one ≡ two
same_count parents zero zero span h k = refl
same_count parents zero (suc two) span h k = let no : None ≡ Some k.0 = sym h ∙ k.1 in cc
same_count parents (suc one) zero span h k = let no : None ≡ Some h.0 = sym k ∙ h.1 in cc
same_count parents (suc one) (suc two) span h k =
    let same : k.0 ≡ h.0 = let e : Some k.0 ≡ Some h.0 = sym k.1 ∙ h.1 in cc in
    ap (λ n. suc n) (same_count parents one two h.0 h.2 (subst (HasAncestors parents two) same k.2))

-- a span of a circle has no last ancestor
pub none_round : (parents : List (Option ℕ)) (steps count span : ℕ) → ancestor parents (suc steps) span ≡ Some span
    → HasAncestors parents count span → ⊥
none_round parents steps count span e h =
    let fewer = fewer_above parents (suc steps) count span span e h in
    omega (arith, fewer.1, same_count parents count fewer.0 span h fewer.2)

-- where a value is among the first ones, if it is there
find_value : (f : ℕ → ℕ) (value count : ℕ)
    → ((k : ℕ) × (k < count) × (f k ≡ value)) ⊎ ((k : ℕ) → k < count → f k ≡ value → ⊥)
find_value f value zero = inr (λ k l e. omega (arith, l))
find_value f value (suc count) = elim (cases_eq (f count) value) [
  | inl here ↦ inl (count, omega arith, here)
  | inr other ↦ elim (find_value f value count) [
    | inl there ↦ inl (there.0, omega (arith, there.1), there.2)
    | inr none ↦ inr (λ k l e. elim (cases_lt k count) [
      | inl low ↦ none k low e
      | inr high ↦
          let same : k ≡ count = omega (arith, l, high) in other (subst (λ n. f n ≡ value) same e)
    ])
  ]
]

-- the greatest value in the place of another
abbrev moved : (ℕ → ℕ) → ℕ → ℕ → ℕ → ℕ
moved f greatest value k = if f k == greatest then value else f k

moved_below : (f : ℕ → ℕ) (count value k : ℕ) → f k < suc count → value < suc count → (f k ≡ value → ⊥)
    → moved f count value k < count
moved_below f count value k low under other = elim (cases_eq (f k) count) [
  | inl same ↦
      let less : value < count = omega (arith, under, same, other) in
      rw (eq-eqb (f k) count same) less
  | inr different ↦ rw (ne_eqb (f k) count different) (omega (arith, low, different))
]

moved_apart : (f : ℕ → ℕ) (count value i j : ℕ) → (f i ≡ value → ⊥) → (f j ≡ value → ⊥)
    → moved f count value i ≡ moved f count value j → f i ≡ f j
moved_apart f count value i j no_i no_j e = elim (cases_eq (f i) count) [
  | inl one ↦ elim (cases_eq (f j) count) [
    | inl two ↦ one ∙ sym two
    | inr two ↦ absurd (no_j (sym (rw (eq-eqb (f i) count one, ne_eqb (f j) count two) at e)))
  ]
  | inr one ↦ elim (cases_eq (f j) count) [
    | inl two ↦ absurd (no_i (rw (ne_eqb (f i) count one, eq-eqb (f j) count two) at e))
    | inr two ↦ rw (ne_eqb (f i) count one, ne_eqb (f j) count two) at e
  ]
]

-- of one value more than there are numbers for them, two are the same
two_same : (count : ℕ) (f : ℕ → ℕ) → ((k : ℕ) → k ≤ count → f k < count)
    → (i j : ℕ) × (i < j) × (j ≤ count) × (f i ≡ f j)
two_same zero f below = absurd (omega (arith, below 0 (omega arith)))
two_same (suc count) f below = elim (find_value f (f (suc count)) (suc count)) [
  | inl there ↦ (there.0, suc count, there.1, omega arith, there.2)
  | inr none ↦
      let found = two_same count (moved f count (f (suc count)))
      (λ k l. moved_below f count (f (suc count)) k (below k (omega (arith, l))) (below (suc count) (omega arith))
      (none k (omega (arith, l)))) in (
        found.0,
        found.1,
        found.2,
        omega (arith, found.3),
        moved_apart f count (f (suc count)) found.0 found.1 (none found.0 (omega (arith, found.2, found.3)))
            (none found.1 (omega (arith, found.3))) found.4,
      )
]

-- what is above a span of a circle is of it
pub round_above : (parents : List (Option ℕ)) (round steps span above : ℕ) → ancestor parents round span ≡ Some span
    → ancestor parents steps span ≡ Some above → ancestor parents round above ≡ Some above
round_above parents round steps span above circle e =
    let same : round + steps ≡ steps + round = omega arith in
    sym (ancestor_more parents round steps span above e) ∙ ap (λ n. ancestor parents n span) same
    ∙ ancestor_more parents steps round span span circle ∙ e

-- a walk that does not end goes round after as many steps as there are spans
pub goes_round : (parents : List (Option ℕ)) (count span last : ℕ)
    → ((steps : ℕ) → (above : ℕ) × (ancestor parents steps span ≡ Some above) × (above < count))
    → ancestor parents count span ≡ Some last
    → (steps : ℕ) × (steps < count) × (ancestor parents (suc steps) last ≡ Some last)
goes_round parents count span last walk e =
    let twice = two_same count (λ k. (walk k).0) (λ k l. (walk k).2) in
    let i = twice.0 in
    let j = twice.1 in
    let back : suc (j - i - 1) + i ≡ j = omega (arith, twice.2) in
    let on : count - i + i ≡ count = omega (arith, twice.2, twice.3) in
    let circle : ancestor parents (suc (j - i - 1)) (walk i).0 ≡ Some (walk i).0 =
    sym (ancestor_more parents (suc (j - i - 1)) i span (walk i).0 (walk i).1)
    ∙ ap (λ n. ancestor parents n span) back ∙ (walk j).1 ∙ ap (λ n. Some n) (sym twice.4) in
    let up : ancestor parents (count - i) (walk i).0 ≡ Some last =
    sym (ancestor_more parents (count - i) i span (walk i).0 (walk i).1)
    ∙ ap (λ n. ancestor parents n span) on ∙ e in (
      j - i - 1,
      omega (arith, twice.2, twice.3),
      round_above parents (suc (j - i - 1)) (count - i) (walk i).0 last circle up,
    )

-- what is above a span of a circle is so by less than a round
within_round : (parents : List (Option ℕ)) (most steps count span above : ℕ) → count ≤ most
    → ancestor parents (suc steps) span ≡ Some span → ancestor parents count span ≡ Some above
    → (near : ℕ) × (near ≤ steps) × (ancestor parents near span ≡ Some above)
within_round parents zero steps count span above l circle e = (count, omega (arith, l), e)
within_round parents (suc most) steps count span above l circle e = elim (cases_lt steps count) [
  | inl more ↦
      let rest : count ≡ count - suc steps + suc steps = omega (arith, more) in
      within_round parents most steps (count - suc steps) span above (omega (arith, l, more)) circle
      (sym (ancestor_more parents (count - suc steps) (suc steps) span span circle)
      ∙ ap (λ n. ancestor parents n span) (sym rest) ∙ e)
  | inr less ↦ (count, less, e)
]

-- no span so few steps up comes before one
abbrev pub IsFirstOf : List Mark → List (Option ℕ) → ℕ → ℕ → ℕ → Type 0
IsFirstOf marks parents steps span head = (count other : ℕ) → count ≤ steps
    → ancestor parents count span ≡ Some other → comes_before marks other head ≡ false

-- the first one of a whole round is the circle's
pub first_round : (marks : List Mark) (parents : List (Option ℕ)) (steps count high span head : ℕ) → steps < count
    → ancestor parents (suc steps) span ≡ Some span → ancestor parents high span ≡ Some head
    → IsFirstOf marks parents count span head → IsHead marks parents head
first_round marks parents steps count high span head l circle walk first = record {
  steps = steps;
  circle = round_above parents (suc steps) high span head circle walk;
  first = λ more other e.
      let near = within_round parents (more + high) steps (more + high) span other (omega arith) circle
      (ancestor_more parents more high span head walk ∙ e) in
      first near.0 other (omega (arith, near.1, l)) near.2;
}

-- one step more
pub step_more : (parents : List (Option ℕ)) (steps span above parent : ℕ) → ancestor parents steps span ≡ Some above
    → parent_of parents above ≡ Some parent → ancestor parents (steps + 1) span ≡ Some parent
step_more parents steps span above parent walk e = rw (add-one, walk) e

first_by : (marks : List Mark) (parents : List (Option ℕ)) (steps span above head new : ℕ)
    → ancestor parents (steps + 1) span ≡ Some above → comes_before marks head new ≡ false
    → comes_before marks above new ≡ false
    → IsFirstOf marks parents steps span head → IsFirstOf marks parents (steps + 1) span new
first_by marks parents steps span above head new walk kept last first = λ count other l e.
    elim (cases_lt count (steps + 1)) [
      | inl low ↦ not_before marks other head new (first count other (omega (arith, low)) e) kept
      | inr high ↦
          let same : count ≡ steps + 1 = omega (arith, l, high) in
          let is : other ≡ above =
          let s : Some other ≡ Some above = sym e ∙ ap (λ n. ancestor parents n span) same ∙ walk in cc in
          ap (λ n. comes_before marks n new) is ∙ last
    ]

-- the first one so far stays, or gives way to the next
pub first_stays : (marks : List Mark) (parents : List (Option ℕ)) (steps span above head : ℕ)
    → ancestor parents (steps + 1) span ≡ Some above → comes_before marks above head ≡ false
    → IsFirstOf marks parents steps span head → IsFirstOf marks parents (steps + 1) span head
first_stays marks parents steps span above head walk last first =
    first_by marks parents steps span above head head walk (not_itself marks head) last first

pub first_moves : (marks : List Mark) (parents : List (Option ℕ)) (steps span above head : ℕ)
    → ancestor parents (steps + 1) span ≡ Some above → comes_before marks above head ≡ true
    → IsFirstOf marks parents steps span head → IsFirstOf marks parents (steps + 1) span above
first_moves marks parents steps span above head walk before first =
    first_by marks parents steps span above head above walk (not_both marks above head before) (not_itself marks above)
    first

pub first_alone : (marks : List Mark) (parents : List (Option ℕ)) (span : ℕ) → IsFirstOf marks parents 0 span span
first_alone marks parents span = λ count other l e.
    let none : count ≡ 0 = omega (arith, l) in
    let is : span ≡ other =
    let s : Some span ≡ Some other = sym (ap (λ n. ancestor parents n span) none) ∙ e in cc in
    ap (λ n. comes_before marks n span) (sym is) ∙ not_itself marks span

-- a way on round a circle leads back
pub way_back : (parents : List (Option ℕ)) (round steps span above : ℕ) → ancestor parents (suc round) span ≡ Some span
    → ancestor parents steps span ≡ Some above → (back : ℕ) × (ancestor parents back above ≡ Some span)
way_back parents round steps span above circle e =
    let near = within_round parents steps round steps span above (omega arith) circle e in
    let back : suc round - near.0 + near.0 ≡ suc round = omega (arith, near.1) in (
      suc round - near.0,
      sym (ancestor_more parents (suc round - near.0) near.0 span above near.2)
          ∙ ap (λ n. ancestor parents n span) back ∙ circle,
    )

pub one_head : (marks : List Mark) (parents : List (Option ℕ)) (steps head other : ℕ) → IsHead marks parents head
    → ancestor parents steps head ≡ Some other → IsHead marks parents other → other ≡ head
one_head marks parents steps head other first e also = elim (cases_eq other head) [
  | inl same ↦ same
  | inr different ↦
      let back = way_back parents first.steps steps head other first.circle e in
      absurd (false≢true (sym (also.first back.0 head back.1)
      ∙ before_total marks other head different (first.first steps other e)))
]

-- a span without a parent is of no circle, nor under one
top_ends : (parents : List (Option ℕ)) (steps span : ℕ) → parent_of parents span ≡ None
    → ancestor parents (suc steps) span ≡ None
top_ends parents zero span e = e
top_ends parents (suc steps) span e =
    ap (λ (o : Option ℕ). option_and_then (parent_of parents) o) (top_ends parents steps span e)

-- round a circle each span has a parent
pub has_parent : (parents : List (Option ℕ)) (round steps span above : ℕ)
    → ancestor parents (suc round) span ≡ Some span → ancestor parents steps span ≡ Some above
    → parent_of parents above ≡ None → ⊥
has_parent parents round steps span above circle e none =
    let no : Some above ≡ None =
    sym (round_above parents (suc round) steps span above circle e) ∙ top_ends parents round above none in
    absurd cc

parent_by : (parents : List (Option ℕ)) (span : ℕ) (parent : Option ℕ) → parent_of parents span ≡ parent
    → (parent_of parents span ≡ None → ⊥) → (above : ℕ) × (parent_of parents span ≡ Some above)
parent_by parents span None e some = absurd (some e)
parent_by parents span (Some above) e some = (above, e)

-- a walk round a circle goes on
pub walks_round : (parents : List (Option ℕ)) (round span : ℕ) → AreKnown parents → span < length parents
    → ancestor parents (suc round) span ≡ Some span → (steps : ℕ)
    → (above : ℕ) × (ancestor parents steps span ≡ Some above) × (above < length parents)
walks_round parents round span known there circle zero = (span, refl, there)
walks_round parents round span known there circle (suc steps) =
    let so_far = walks_round parents round span known there circle steps in
    let next = parent_by parents so_far.0 _ refl (has_parent parents round steps span so_far.0 circle so_far.1) in (
      next.0,
      ap (λ (o : Option ℕ). option_and_then (parent_of parents) o) so_far.1 ∙ next.1,
      known so_far.0 next.0 next.1,
    )

-- a circle has no more spans than there are
pub short_round : (parents : List (Option ℕ)) (round span : ℕ) → AreKnown parents → span < length parents
    → ancestor parents (suc round) span ≡ Some span
    → (steps : ℕ) × (steps < length parents) × (ancestor parents (suc steps) span ≡ Some span)
short_round parents round span known there circle =
    let walk = walks_round parents round span known there circle in
    let last = walk (length parents) in
    let around = goes_round parents (length parents) span last.0 walk last.1 in
    let back = way_back parents round (length parents) span last.0 circle last.1 in
    (around.0, around.1, round_above parents (suc around.0) back.0 last.0 span around.2 back.1)
