-- A row put in keeps each row after its parent's, the nearest above of a lower level.
use Rattle.std.proofs.Common.{◌≡◌, ◌<◌, ◌≤◌, ◌⊎◌, inl, inr, ℕ, zero, suc, Bool, true, false, Option, Some, None, List}
use Rattle.std.proofs.Common.{[], ◌∷◌, ◌++◌, ◌∙◌, if◌then◌else◌, get_or, length, sym, ap, refl, arith, insert, nat_lt}
use Rattle.std.proofs.Common.{Contains}
use Rattle.std.proofs.lemmas.Bool.{cases_lt, le-ltb, lt-ltb}
use Rattle.otel_picture.specs.Parents.{parent_of}
use Rattle.otel_picture.specs.Rows.{IsRoot, StandUnder, nearest_above}
use Rattle.otel_picture.specs.declared.rows.Mark.{Mark}
use Rattle.otel_picture.specs.declared.rows.Row.{Row}

-- a row is the nearest above, by whether it is of a lower level
is_nearest : (level : ℕ) (p q : Row) (ys : List Row) (held : Bool) → nat_lt p.level level ≡ held → held ≡ true
    → nearest_above level (p ∷ ys) ≡ Some q → p ≡ q
is_nearest level p q ys true e t h = let same : Some p ≡ Some q = sym (rw e refl) ∙ h in cc
is_nearest level p q ys false e t h = let no : false ≡ true = t in absurd cc

-- a row that was put in after another, one level under it, is skipped where that is not
skip_one : (level : ℕ) (p row : Row) (ys : List Row) (q : Row) → row.level ≡ suc p.level → level ≡ suc q.level
    → (p.level < level) ⊎ (level ≤ p.level)
    → nearest_above level (p ∷ ys) ≡ Some q → nearest_above level (row ∷ p ∷ ys) ≡ Some q
skip_one level p row ys q under of (inl low) h =
    let same : p ≡ q = is_nearest level p q ys _ refl (lt-ltb p.level level low) h in
    let lower : p.level ≡ q.level = ap (λ (r : Row). r.level) same in
    rw (le-ltb row.level level (omega (arith, under, of, lower))) h
skip_one level p row ys q under of (inr high) h = rw (le-ltb row.level level (omega (arith, under))) h

nearest_skip : (level : ℕ) (xs : List Row) (p row : Row) (ys : List Row) (q : Row) → row.level ≡ suc p.level
    → level ≡ suc q.level → nearest_above level (xs ++ p ∷ ys) ≡ Some q
    → nearest_above level (xs ++ row ∷ p ∷ ys) ≡ Some q
nearest_skip level [] p row ys q under of h = skip_one level p row ys q under of (cases_lt p.level level) h
nearest_skip level (x ∷ xs) p row ys q under of h = elim (cases_lt x.level level) [
  | inl low ↦ rw (lt-ltb x.level level low) (rw (lt-ltb x.level level low) at h)
  | inr high ↦ rw (le-ltb x.level level high)
      (nearest_skip level xs p row ys q under of (rw (le-ltb x.level level high) at h))
]

-- behind a row without a level nothing is looked at
nearest_stops : (level : ℕ) (xs : List Row) (root row : Row) (ys : List Row) → root.level ≡ 0 → 0 < level
    → nearest_above level (xs ++ root ∷ row ∷ ys) ≡ nearest_above level (xs ++ root ∷ ys)
nearest_stops level [] root row ys none some =
    let low : nat_lt root.level level ≡ true = lt-ltb root.level level (omega (arith, none)) in rw low refl
nearest_stops level (x ∷ xs) root row ys none some =
    ap (λ (o : Option Row). if nat_lt x.level level then Some x else o) (nearest_stops level xs root row ys none some)

-- the rows after a row that was put in under another
stand_skip : (marks : List Mark) (parents : List (Option ℕ)) (xs : List Row) (p row : Row) (ys rows : List Row)
    → row.level ≡ suc p.level → StandUnder marks parents (xs ++ p ∷ ys) rows
    → StandUnder marks parents (xs ++ row ∷ p ∷ ys) rows
stand_skip marks parents xs p row ys [] under h = tt
stand_skip marks parents xs p row ys (z ∷ rows) under h = (
  elim h.0 [
    | inl root ↦ inl root
    | inr below ↦ inr (record {
      parent = below.parent;
      known = below.known;
      level = below.level;
      is_nearest = nearest_skip z.level xs p row ys below.parent under below.level below.is_nearest;
    })
  ],
  stand_skip marks parents (z ∷ xs) p row ys rows under h.1,
)

pub insert_under : (marks : List Mark) (parents : List (Option ℕ)) (before rows : List Row) (at : ℕ) (row : Row)
    → at < length rows → parent_of parents row.span ≡ Some (get_or rows at row).span
    → row.level ≡ suc (get_or rows at row).level
    → StandUnder marks parents before rows → StandUnder marks parents before (insert rows (suc at) row)
insert_under marks parents before [] at row l known level h = absurd (omega arith)
insert_under marks parents before (r ∷ rows) zero row l known level h = (
  h.0,
  (
    inr (record {
      parent = r;
      known = known;
      level = level;
      is_nearest = rw (lt-ltb r.level row.level (omega (arith, level))) refl;
    }),
    stand_skip marks parents [] r row before rows level h.1,
  ),
)
insert_under marks parents before (r ∷ rows) (suc at) row l known level h =
    (h.0, insert_under marks parents (r ∷ before) rows at row (omega arith) known level h.1)

-- the rows after a root's that was put in before another
stand_behind : (marks : List Mark) (parents : List (Option ℕ)) (xs : List Row) (root row : Row) (ys rows : List Row)
    → root.level ≡ 0 → StandUnder marks parents (xs ++ root ∷ ys) rows
    → StandUnder marks parents (xs ++ root ∷ row ∷ ys) rows
stand_behind marks parents xs root row ys [] none h = tt
stand_behind marks parents xs root row ys (z ∷ rows) none h = (
  elim h.0 [
    | inl top ↦ inl top
    | inr below ↦ inr (record {
      parent = below.parent;
      known = below.known;
      level = below.level;
      is_nearest = nearest_stops z.level xs root row ys none (omega (arith, below.level)) ∙ below.is_nearest;
    })
  ],
  stand_behind marks parents (z ∷ xs) root row ys rows none h.1,
)

next_root : (marks : List Mark) (parents : List (Option ℕ)) (before rows : List Row) (row : Row)
    → (0 < length rows → (get_or rows 0 row).level ≡ 0)
    → StandUnder marks parents before rows → StandUnder marks parents (row ∷ before) rows
next_root marks parents before [] row none h = tt
next_root marks parents before (r ∷ rows) row none h =
    let top : r.level ≡ 0 = none (omega arith) in (
      elim h.0 [
        | inl root ↦ inl root
        | inr below ↦ absurd (omega (arith, top, below.level))
      ],
      stand_behind marks parents [] r row before rows top h.1,
    )

pub insert_root : (marks : List Mark) (parents : List (Option ℕ)) (before rows : List Row) (at : ℕ) (row : Row)
    → IsRoot marks parents row → (at < length rows → (get_or rows at row).level ≡ 0)
    → StandUnder marks parents before rows → StandUnder marks parents before (insert rows at row)
insert_root marks parents before rows zero row root none h = (inl root, next_root marks parents before rows row none h)
insert_root marks parents before [] (suc at) row root none h = (inl root, tt)
insert_root marks parents before (r ∷ rows) (suc at) row root none h =
    (h.0, insert_root marks parents (r ∷ before) rows at row root (λ l. none (omega (arith, l))) h.1)

pub nearest_contains : (level : ℕ) (before : List Row) (q : Row) → nearest_above level before ≡ Some q
    → Contains before q
nearest_contains level [] q h = let no : None ≡ Some q = h in absurd cc
nearest_contains level (r ∷ before) q h = elim (cases_lt r.level level) [
  | inl low ↦ let same : Some r ≡ Some q = sym (rw (lt-ltb r.level level low) refl) ∙ h in (0, omega arith, cc)
  | inr high ↦
      let there = nearest_contains level before q (rw (le-ltb r.level level high) at h) in
      (suc there.0, omega (arith, there.1), there.2)
]
