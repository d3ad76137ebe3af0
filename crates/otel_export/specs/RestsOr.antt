-- A call with a default body, which an implementation need not write.
use Rattle.std.specs.Prelude.{◌≡◌, ◌⊎◌, Result, Ok}

-- the call did nothing and answers Ok, or it did what its relation says
abbrev pub RestsOr : {X E : Type 0} → (X → Result (Unit {0}) E → X → Type 0) → X → Result (Unit {0}) E → X → Type 0
RestsOr gives old answer new = ((answer ≡ Ok tt) × (new ≡ old)) ⊎ gives old answer new
