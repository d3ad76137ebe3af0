-- What a writer of a stream holds, once bytes were written to it.
use Rattle.std.specs.Prelude.{◌≡◌, ℕ, List, ◌++◌, Option}
use Rattle.std.specs.Io.KnownBytes.{Appends}

-- known bytes grow by a beginning of these
abbrev pub AppendsBeginning : Option (List ℕ) → Option (List ℕ) → List ℕ → Type 0
AppendsBeginning before after bytes =
    (written : List ℕ) × (left : List ℕ) × (bytes ≡ written ++ left) × Appends before after written
