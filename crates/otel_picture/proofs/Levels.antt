-- A row's level is the number of its ancestors: that of its parent's row, and one more.
use Rattle.std.proofs.Common.{◌≡◌, ◌<◌, ◌⊎◌, inl, inr, ℕ, zero, suc, Option, Some, None, List, [], ◌∷◌, All, Contains}
use Rattle.std.proofs.Common.{get_or, length, sym, ◌∙◌, subst, ap, refl, arith}
use Rattle.std.specs.List.{AllByRecursion}
use Rattle.std.proofs.lemmas.List.Elements.{All-from_recursion}
use Rattle.otel_picture.specs.Parents.{HasAncestors, parent_of}
use Rattle.otel_picture.specs.Orders.{IsHead}
use Rattle.otel_picture.specs.Rows.{IsRoot, IsUnder, StandUnder}
use Rattle.otel_picture.specs.declared.rows.Mark.{Mark}
use Rattle.otel_picture.specs.declared.rows.Row.{Row}
use Rattle.otel_picture.proofs.Circles.{none_round}
use Rattle.otel_picture.proofs.Under.{nearest_contains}

abbrev Counts : List (Option ℕ) → Row → Type 0
Counts parents row = (count : ℕ) → HasAncestors parents count row.span → row.level ≡ count

counts_under : (parents : List (Option ℕ)) (before : List Row) (row : Row)
    → ((r : Row) → Contains before r → Counts parents r) → IsUnder parents before row → Counts parents row
counts_under parents before row f under zero h =
    let no : None ≡ Some under.parent.span = sym h ∙ under.known in cc
counts_under parents before row f under (suc count) h =
    let same : h.0 ≡ under.parent.span = let e = sym h.1 ∙ under.known in cc in
    under.level ∙ ap (λ n. suc n)
    (f under.parent (nearest_contains row.level before under.parent under.is_nearest) count (subst (λ p. HasAncestors parents count p) same h.2))

-- a root has no ancestors, or no number of them
none_over : (marks : List Mark) (parents : List (Option ℕ)) (span : ℕ)
    → (parent_of parents span ≡ None) ⊎ IsHead marks parents span → (count : ℕ) → HasAncestors parents count span
    → 0 ≡ count
none_over marks parents span (inl top) zero h = refl
none_over marks parents span (inl top) (suc count) h = let no : None ≡ Some h.0 = sym top ∙ h.1 in cc
none_over marks parents span (inr head) count h = absurd (none_round parents head.steps count span head.circle h)

counts_row : (marks : List Mark) (parents : List (Option ℕ)) (before : List Row) (row : Row)
    → ((r : Row) → Contains before r → Counts parents r)
    → IsRoot marks parents row ⊎ IsUnder parents before row → Counts parents row
counts_row marks parents before row f (inl root) =
    λ count h. root.level ∙ none_over marks parents row.span root.top count h
counts_row marks parents before row f (inr under) = counts_under parents before row f under

counts_at : (parents : List (Option ℕ)) (before : List Row) (row r : Row)
    → ((r : Row) → Contains before r → Counts parents r) → Counts parents row
    → (k : ℕ) → k < length (row ∷ before) → get_or (row ∷ before) k r ≡ r → Counts parents r
counts_at parents before row r f here zero l e = subst (Counts parents) e here
counts_at parents before row r f here (suc k) l e = f r (k, omega arith, e)

counts_all : (marks : List Mark) (parents : List (Option ℕ)) (before rows : List Row)
    → ((r : Row) → Contains before r → Counts parents r) → StandUnder marks parents before rows
    → AllByRecursion (Counts parents) rows
counts_all marks parents before [] f h = tt
counts_all marks parents before (row ∷ rows) f h =
    let here = counts_row marks parents before row f h.0 in (
      here,
      counts_all marks parents (row ∷ before) rows
          (λ r at. counts_at parents before row r f here at.0 at.1 at.2) h.1,
    )

pub levels_right : (marks : List Mark) (parents : List (Option ℕ)) (rows : List Row) → StandUnder marks parents [] rows
    → All (λ row. (count : ℕ) → HasAncestors parents count row.span → row.level ≡ count) rows
levels_right marks parents rows h =
    All-from_recursion (Counts parents) rows (counts_all marks parents [] rows (λ r at. absurd (omega (arith, at.1))) h)
