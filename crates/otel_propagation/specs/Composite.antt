-- Two propagators as one: what they inject and extract one after the other, and their fields as one list.
use Rattle.std.specs.Prelude.{◌⊎◌, ℕ, List, [], ◌∷◌, ◌++◌, Ok, map, IsErr, if◌then◌else◌}
use Rattle.std.specs.Borrow.{Bor}
use Rattle.std.specs.List.{list_any}
use Rattle.std.specs.Str.{bytes_eq}
use Rattle.opentelemetry.specs.Carrier.{Injection, Texts}
use Rattle.opentelemetry.specs.Plain.{PlainContext}

-- the second one injects into what the first one leaves; where that is refused it is not asked
abbrev pub InjectsBoth : Injection → Injection → Injection
InjectsBoth these those cx old result new =
    ((between : Texts) × these cx old (Ok tt) between × those cx between result new)
    ⊎ (IsErr result × these cx old result new)

-- what a propagator extracts
abbrev pub Extraction : Type 1
Extraction = PlainContext → Texts → PlainContext → Type 0

-- the second one extracts into the context that the first one finds
abbrev pub ExtractsBoth : Extraction → Extraction → Extraction
ExtractsBoth these those cx texts found = (between : PlainContext) × these cx texts between × those between texts found

-- where a propagator wants no memory to extract
abbrev pub Infallible : Type 1
Infallible = PlainContext → Texts → Type 0

-- the first one wants none, nor the second one in whatever context the first one finds
abbrev pub BothAreInfallible : Extraction → Infallible → Infallible → Infallible
BothAreInfallible these first second cx texts =
    first cx texts × ((between : PlainContext) → these cx texts between → second between texts)

-- the texts of a list of names
abbrev pub names_of : List (Bor (List ℕ)) → List (List ℕ)
names_of names = map (λ name. name.now) names

-- a name after those that are given, unless it is one of them
abbrev pub with_name : List (List ℕ) → List ℕ → List (List ℕ)
with_name given name = if list_any (λ other. bytes_eq other name) given then given else given ++ name ∷ []

-- names after those that are given, each once
abbrev pub joined_onto : List (List ℕ) → List (List ℕ) → List (List ℕ)
joined_onto given [] = given
joined_onto given (name ∷ more) = joined_onto (with_name given name) more

-- two lists of names as one, each name once, at its first place
abbrev pub joined : List (List ℕ) → List (List ℕ) → List (List ℕ)
joined these those = joined_onto (joined_onto [] these) those
