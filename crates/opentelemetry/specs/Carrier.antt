-- What carries headers: a finite map from names to texts.
use Rattle.std.specs.Prelude.{◌≡◌, ◌≢◌, ◌⊎◌, ℕ, List, [], ◌∷◌, Option, Some, Result}
use Rattle.std.specs.Str.{str_to_ascii_lowercase}
use Rattle.std.specs.declared.alloc.AllocError.{AllocError}
use Rattle.opentelemetry.specs.Plain.{PlainContext}

-- the texts that a carrier has, by name
abbrev pub Texts : Type 0
Texts = List ℕ → Option (List ℕ)

-- what the injection of a context says: the context, what the carrier had, the answer, and what the carrier has then
abbrev pub Injection : Type 1
Injection = PlainContext → Texts → Result (Unit {0}) AllocError → Texts → Type 0

-- the names differ in more than ASCII case
abbrev pub IsOtherName : List ℕ → List ℕ → Type 0
IsOtherName a b = str_to_ascii_lowercase a ≢ str_to_ascii_lowercase b

-- a name was given a text, and the names that differ from it in more than ASCII case are as before
pub record SetsText (old new : Texts) (name text : List ℕ) : Type 0 where
  pub set : new name ≡ Some text
  pub others : (other : List ℕ) → IsOtherName other name → new other ≡ old other

-- every name has the text that it had
abbrev pub SameTexts : Texts → Texts → Type 0
SameTexts old new = (name : List ℕ) → new name ≡ old name

-- one of the names differs from this one in ASCII case at most
abbrev pub HasName : List ℕ → List (List ℕ) → Type 0
HasName name [] = ⊥
HasName name (other ∷ more) = (str_to_ascii_lowercase other ≡ str_to_ascii_lowercase name) ⊎ HasName name more
