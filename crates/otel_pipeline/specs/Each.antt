-- Each processor of a list is asked in its turn.
use Rattle.std.specs.Prelude.{◌≡◌, ℕ, ◌+◌, List, [], ◌∷◌, Result, Ok, Err}

-- place by place: the processor before, its answer, the processor after
abbrev pub Each : {P R : Type 0} → (P → R → P → Type 0) → List P → List R → List P → Type 0
Each G [] [] [] = Unit {0}
Each G [] [] (q ∷ qs) = ⊥
Each G [] (r ∷ rs) qs = ⊥
Each G (p ∷ ps) [] qs = ⊥
Each G (p ∷ ps) (r ∷ rs) [] = ⊥
Each G (p ∷ ps) (r ∷ rs) (q ∷ qs) = G p r q × Each G ps rs qs

-- how many of the answers are errors
abbrev pub error_count : {T E : Type 0} → List (Result T E) → ℕ
error_count [] = 0
error_count (Ok _ ∷ rs) = error_count rs
error_count (Err _ ∷ rs) = error_count rs + 1

-- each was asked, also after one refused: n of the answers are errors
abbrev pub AsksAll : {P T E : Type 0} → (P → Result T E → P → Type 0) → List P → List P → ℕ → Type 0
AsksAll {P} {T} {E} G ps qs n = (rs : List (Result T E)) × (error_count rs ≡ n) × Each G ps rs qs

-- Ok, or the first error among the answers
abbrev pub first_failure : {E : Type 0} → List (Result (Unit {0}) E) → Result (Unit {0}) E
first_failure [] = Ok tt
first_failure (Ok _ ∷ rs) = first_failure rs
first_failure (Err error ∷ rs) = Err error

-- each was asked, also after one refused: the first of their errors is answered, Ok where there is none
abbrev pub AsksFirst : {P E : Type 0} → (P → Result (Unit {0}) E → P → Type 0) → List P → List P
    → Result (Unit {0}) E → Type 0
AsksFirst {P} {E} G ps qs answer =
    (rs : List (Result (Unit {0}) E)) × (first_failure rs ≡ answer) × Each G ps rs qs
