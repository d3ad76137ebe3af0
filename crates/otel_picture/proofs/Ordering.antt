-- A row put in keeps siblings in order.
use Rattle.std.proofs.Common.{◌≡◌, ◌<◌, ◌≤◌, ◌⊎◌, inl, inr, ℕ, zero, suc, Bool, true, false, Option, Some, None, List}
use Rattle.std.proofs.Common.{[], ◌∷◌, ◌+◌, ◌==◌, ◌&&◌, ◌||◌, ◌∙◌, get_or, length, sym, ap, refl, arith, insert, take, drop}
use Rattle.std.proofs.Common.{is_lt, nat_lt, if◌then◌else◌}
use Rattle.std.specs.List.{AllByRecursion}
use Rattle.std.specs.Ordering.{ordering_then}
use Rattle.std.specs.declared.cmp.Ordering.TheVariants.{Less, Equal, Greater}
use Rattle.std.proofs.lemmas.Bool.{cases_eq, cases_lt, eq-eqb, false≢true, le-ltb, lt-ltb, ne_eqb}
use Rattle.std.proofs.lemmas.List.Sums.{sum_by-cons}
use Rattle.otel_picture.specs.Orders.{AreInOrder, Precedes, comes_before, start_at}
use Rattle.otel_picture.specs.Parents.{parent_of}
use Rattle.otel_picture.specs.Rows.{IsRoot, IsUnder, StandUnder, nearest_above, rows_of}
use Rattle.otel_picture.specs.declared.rows.Mark.{Mark}
use Rattle.otel_picture.specs.declared.rows.Row.{Row}

-- comes_before over numbers
abbrev is_first : (s t a b : ℕ) → Bool
is_first s t a b = nat_lt s t || ((s == t) && nat_lt a b)

pub true_or_false : (b : Bool) → (b ≡ true) ⊎ (b ≡ false)
true_or_false true = inl refl
true_or_false false = inr refl

first_total : (s t a b : ℕ) → (a ≡ b → ⊥) → is_first s t a b ≡ false → is_first t s b a ≡ true
first_total s t a b ne h = elim (cases_lt s t) [
  | inl low ↦ absurd (false≢true (sym h ∙ rw (lt-ltb s t low) refl))
  | inr high ↦ elim (cases_eq s t) [
    | inl same ↦ elim (cases_lt a b) [
      | inl under ↦ absurd (false≢true (sym h ∙ rw (le-ltb s t high, eq-eqb s t same, lt-ltb a b under) refl))
      | inr over ↦ rw (le-ltb t s (omega (arith, same)), eq-eqb t s (sym same), lt-ltb b a (omega (arith, ne))) refl
    ]
    | inr other ↦ rw (lt-ltb t s (omega (arith, other))) refl
  ]
]

pub before_total : (marks : List Mark) (span other : ℕ) → (span ≡ other → ⊥) → comes_before marks span other ≡ false
    → comes_before marks other span ≡ true
before_total marks span other ne h = first_total (start_at marks span) (start_at marks other) span other ne h

-- of two that come first, one after the other, the first comes before the last
below_or_same : (s t a b : ℕ) → is_first s t a b ≡ true → (s < t) ⊎ ((s ≡ t) × (a < b))
below_or_same s t a b h = elim (cases_lt s t) [
  | inl low ↦ inl low
  | inr high ↦ elim (cases_eq s t) [
    | inl same ↦ elim (cases_lt a b) [
      | inl under ↦ inr (same, under)
      | inr over ↦ absurd (false≢true (sym (rw (le-ltb s t high, eq-eqb s t same, le-ltb a b over) refl) ∙ h))
    ]
    | inr other ↦ absurd (false≢true (sym (rw (le-ltb s t high, ne_eqb s t other) refl) ∙ h))
  ]
]

first_of : (s t a b : ℕ) → (s < t) ⊎ ((s ≡ t) × (a < b)) → is_first s t a b ≡ true
first_of s t a b (inl low) = rw (lt-ltb s t low) refl
first_of s t a b (inr same) =
    rw (le-ltb s t (omega (arith, same.0)), eq-eqb s t same.0, lt-ltb a b same.1) refl

between : (s t u a b d : ℕ) → (s < t) ⊎ ((s ≡ t) × (a < b)) → (t < u) ⊎ ((t ≡ u) × (b < d))
    → (s < u) ⊎ ((s ≡ u) × (a < d))
between s t u a b d (inl l) (inl m) = inl (omega (arith, l, m))
between s t u a b d (inl l) (inr m) = inl (omega (arith, l, m.0))
between s t u a b d (inr l) (inl m) = inl (omega (arith, l.0, m))
between s t u a b d (inr l) (inr m) = inr (l.0 ∙ m.0, omega (arith, l.1, m.1))

pub before_trans : (marks : List Mark) (span other last : ℕ) → comes_before marks span other ≡ true
    → comes_before marks other last ≡ true → comes_before marks span last ≡ true
before_trans marks span other last h k =
    first_of (start_at marks span) (start_at marks last) span last
    (between (start_at marks span) (start_at marks other) (start_at marks last) span other last
    (below_or_same (start_at marks span) (start_at marks other) span other h)
    (below_or_same (start_at marks other) (start_at marks last) other last k))

-- what does not come before one that does not come before a third does not come before that
pub not_before : (marks : List Mark) (span other last : ℕ) → comes_before marks span other ≡ false
    → comes_before marks other last ≡ false → comes_before marks span last ≡ false
not_before marks span other last h k = elim (true_or_false (comes_before marks span last)) [
  | inr isnt ↦ isnt
  | inl both ↦ elim (cases_eq other last) [
    | inl same ↦ absurd (false≢true (sym h ∙ ap (λ n. comes_before marks span n) same ∙ both))
    | inr different ↦ absurd (false≢true (sym h
        ∙ before_trans marks span last other both (before_total marks other last different k)))
  ]
]

pub not_itself : (marks : List Mark) (span : ℕ) → comes_before marks span span ≡ false
not_itself marks span =
    rw (
      le-ltb (start_at marks span) (start_at marks span) (omega arith),
      eq-eqb (start_at marks span) (start_at marks span) refl,
      le-ltb span span (omega arith),
    ) refl

pub not_both : (marks : List Mark) (span other : ℕ) → comes_before marks span other ≡ true
    → comes_before marks other span ≡ false
not_both marks span other h = elim (true_or_false (comes_before marks other span)) [
  | inr isnt ↦ isnt
  | inl both ↦ absurd (false≢true (sym (not_itself marks span) ∙ before_trans marks span other span h both))
]

-- all of a list in which one was put
all_put : {X : Type 0} (P : X → Type 0) (xs : List X) (at : ℕ) (x : X) → P x → AllByRecursion P xs
    → AllByRecursion P (insert xs at x)
all_put P xs zero x p h = (p, h)
all_put P [] (suc at) x p h = (p, tt)
all_put P (y ∷ xs) (suc at) x p h = (h.0, all_put P xs at x p h.1)

-- a row put in before its later siblings, and after the others
pub put_in_order : (marks : List Mark) (parents : List (Option ℕ)) (rows : List Row) (at : ℕ) (row : Row)
    → AllByRecursion (λ r. Precedes marks parents r row) (take at rows)
    → AllByRecursion (Precedes marks parents row) (drop at rows)
    → AreInOrder marks parents rows → AreInOrder marks parents (insert rows at row)
put_in_order marks parents rows zero row before after h = (after, h)
put_in_order marks parents [] (suc at) row before after h = (tt, tt)
put_in_order marks parents (r ∷ rows) (suc at) row before after h =
    (all_put (Precedes marks parents r) rows at row before.0 h.0, put_in_order marks parents rows at row before.1 after h.1)

pub one_here : (parent : ℕ) (r : Row) (rows : List Row) → r.span ≡ parent
    → rows_of parent (r ∷ rows) ≡ 1 + rows_of parent rows
one_here parent r rows e =
    sum_by-cons (λ (x : Row). if x.span == parent then 1 else 0) r rows
    ∙ ap (λ (b : Bool). (if b then 1 else 0) + rows_of parent rows) (eq-eqb r.span parent e)

-- a parent's row above
counted_above : (level parent : ℕ) (before : List Row) (q : Row) → nearest_above level before ≡ Some q
    → q.span ≡ parent → 0 < rows_of parent before
counted_above level parent [] q h e = let no : None ≡ Some q = h in absurd cc
counted_above level parent (r ∷ before) q h e = elim (cases_lt r.level level) [
  | inl low ↦
      let same : r ≡ q = let s : Some r ≡ Some q = sym (rw (lt-ltb r.level level low) refl) ∙ h in cc in
      let here : r.span ≡ parent = ap (λ (x : Row). x.span) same ∙ e in
      omega (arith, one_here parent r before here)
  | inr high ↦ omega (
    arith,
    sum_by-cons (λ (x : Row). if x.span == parent then 1 else 0) r before,
    counted_above level parent before q (rw (le-ltb r.level level high) at h) e,
  )
]

pub counted_at : (parent : ℕ) (rows : List Row) (at : ℕ) (d : Row) → at < length rows → (get_or rows at d).span ≡ parent
    → 0 < rows_of parent rows
counted_at parent [] at d l e = absurd (omega arith)
counted_at parent (r ∷ rows) zero d l e = omega (
  arith,
  one_here parent r rows e,
)
counted_at parent (r ∷ rows) (suc at) d l e = omega (
  arith,
  sum_by-cons (λ (x : Row). if x.span == parent then 1 else 0) r rows,
  counted_at parent rows at d (omega arith) e,
)

-- no child's row is before its parent's, nor is it that
none_here : (marks : List Mark) (parents : List (Option ℕ)) (before rows : List Row) (at : ℕ) (r row d : Row)
    (parent : ℕ) → IsRoot marks parents r ⊎ IsUnder parents before r
    → rows_of parent before + rows_of parent (r ∷ rows) ≤ 1
    → at < length (r ∷ rows) → (get_or (r ∷ rows) at d).span ≡ parent → parent_of parents row.span ≡ Some parent
    → 0 < row.level → Precedes marks parents r row
none_here marks parents before rows at r row d parent (inl root) once l e of deep (inl roots) =
    absurd (omega (arith, deep, roots.1))
none_here marks parents before rows at r row d parent (inl root) once l e of deep (inr both) =
    absurd (omega (arith, both.0, root.level))
none_here marks parents before rows at r row d parent (inr under) once l e of deep (inl roots) =
    absurd (omega (arith, deep, roots.1))
none_here marks parents before rows at r row d parent (inr under) once l e of deep (inr both) =
    let same : under.parent.span ≡ parent =
    let s : Some under.parent.span ≡ Some parent = sym under.known ∙ both.2 ∙ of in cc in
    absurd (omega (
      arith,
      once,
      counted_above r.level parent before under.parent under.is_nearest same,
      counted_at parent (r ∷ rows) at d l e,
    ))

pub none_above : (marks : List Mark) (parents : List (Option ℕ)) (before rows : List Row) (at : ℕ) (row d : Row)
    (parent : ℕ) → StandUnder marks parents before rows → rows_of parent before + rows_of parent rows ≤ 1
    → at < length rows → (get_or rows at d).span ≡ parent → parent_of parents row.span ≡ Some parent → 0 < row.level
    → AllByRecursion (λ r. Precedes marks parents r row) (take (suc at) rows)
none_above marks parents before [] at row d parent h once l e of deep = absurd (omega arith)
none_above marks parents before (r ∷ rows) zero row d parent h once l e of deep =
    (none_here marks parents before rows zero r row d parent h.0 once l e of deep, tt)
none_above marks parents before (r ∷ rows) (suc at) row d parent h once l e of deep = (
  none_here marks parents before rows (suc at) r row d parent h.0 once l e of deep,
  none_above marks parents (r ∷ before) rows at row d parent h.1
      (omega (
        arith,
        once,
        sum_by-cons (λ (x : Row). if x.span == parent then 1 else 0) r rows,
        sum_by-cons (λ (x : Row). if x.span == parent then 1 else 0) r before,
      ))
      (omega arith) e of deep,
)

-- a root that is not later than a span comes before it
not_later : (marks : List Mark) (span : ℕ) (r : Row) → (span ≡ r.span → ⊥)
    → (r.level == 0) && comes_before marks span r.span ≡ false → r.level ≡ 0 → comes_before marks r.span span ≡ true
not_later marks span r ne h root =
    before_total marks span r.span ne (rw (eq-eqb r.level 0 root) at h)

-- the roots in front of the place of a root come before it
pub roots_before : (marks : List Mark) (parents : List (Option ℕ)) (rows : List Row) (row : Row) → row.level ≡ 0
    → AllByRecursion (λ r. (row.span ≡ r.span → ⊥) × ((r.level == 0) && comes_before marks row.span r.span ≡ false)) rows
    → AllByRecursion (λ r. Precedes marks parents r row) rows
roots_before marks parents [] row none h = tt
roots_before marks parents (r ∷ rows) row none h = (
  λ siblings. elim siblings [
    | inl roots ↦ not_later marks row.span r h.0.0 h.0.1 roots.0
    | inr both ↦ absurd (omega (arith, none, both.1))
  ],
  roots_before marks parents rows row none h.1,
)

-- and those after it come later
later_rest : (marks : List Mark) (parents : List (Option ℕ)) (rows : List Row) (first row : Row) → row.level ≡ 0
    → first.level ≡ 0 → comes_before marks row.span first.span ≡ true
    → AllByRecursion (Precedes marks parents first) rows → AllByRecursion (Precedes marks parents row) rows
later_rest marks parents [] first row none top h k = tt
later_rest marks parents (r ∷ rows) first row none top h k = (
  λ siblings. elim siblings [
    | inl roots ↦ before_trans marks row.span first.span r.span h (k.0 (inl (top, roots.1)))
    | inr both ↦ absurd (omega (arith, none, both.0))
  ],
  later_rest marks parents rows first row none top h k.1,
)

pub roots_after : (marks : List Mark) (parents : List (Option ℕ)) (rows : List Row) (at : ℕ) (row : Row)
    → row.level ≡ 0
    → (at < length rows → ((get_or rows at row).level ≡ 0)
    × (comes_before marks row.span (get_or rows at row).span ≡ true))
    → AreInOrder marks parents rows → AllByRecursion (Precedes marks parents row) (drop at rows)
roots_after marks parents [] zero row none h k = tt
roots_after marks parents [] (suc at) row none h k = tt
roots_after marks parents (r ∷ rows) zero row none h k =
    let first = h (omega arith) in
    (λ siblings. first.1, later_rest marks parents rows r row none first.0 first.1 k.0)
roots_after marks parents (r ∷ rows) (suc at) row none h k =
    roots_after marks parents rows at row none (λ l. h (omega (arith, l))) k.1

-- how two keys of two numbers compare
pub compared : (l e m f : Bool) → is_lt (ordering_then (if l then Less else (if e then Equal else Greater))
    (if m then Less else (if f then Equal else Greater))) ≡ (l || (e && m))
compared true e m f = refl
compared false true true f = refl
compared false true false true = refl
compared false true false false = refl
compared false false m f = refl
