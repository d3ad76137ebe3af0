-- A list of propagators as one: the first one and, after it, the others as one, as two are one.
use Rattle.std.specs.Prelude.{◌≡◌, ℕ, List, [], ◌∷◌, Ok}
use Rattle.opentelemetry.specs.Carrier.{Injection}
use Rattle.opentelemetry.specs.PlainContexts.{SharesNothing}
use Rattle.otel_propagation.specs.Composite.{Extraction, ExtractsBoth, Infallible, BothAreInfallible, InjectsBoth}
use Rattle.otel_propagation.specs.Composite.{joined_onto}

-- nothing is injected, which is never refused
abbrev pub InjectsNothing : Injection
InjectsNothing cx old result new = (result ≡ Ok tt) × (new ≡ old)

-- each injects into what those before it leave; where one is refused, those after it are not asked
abbrev pub InjectsEach : {P : Type 0} → (P → Injection) → List P → Injection
InjectsEach injects [] = InjectsNothing
InjectsEach injects (p ∷ more) = InjectsBoth (injects p) (InjectsEach injects more)

-- the context as it was
abbrev pub ExtractsNothing : Extraction
ExtractsNothing cx texts found = found ≡ cx

-- each extracts into the context that those before it find
abbrev pub ExtractsEach : {P : Type 0} → (P → Extraction) → List P → Extraction
ExtractsEach extracts [] = ExtractsNothing
ExtractsEach extracts (p ∷ more) = ExtractsBoth (extracts p) (ExtractsEach extracts more)

-- no memory is wanted to extract into a context that need not be kept
abbrev pub IsAlwaysInfallible : Infallible
IsAlwaysInfallible cx texts = Unit {0}

-- none of a list wants any, in whatever context those before it find
abbrev pub EachIsInfallible : {P : Type 0} → (P → Extraction) → (P → Infallible) → List P → Infallible
EachIsInfallible extracts infallible [] = IsAlwaysInfallible
EachIsInfallible extracts infallible (p ∷ more) =
    BothAreInfallible (extracts p) (infallible p) (EachIsInfallible extracts infallible more)

-- a list wants none; where it is empty, there is nothing that a copy of the context would share
abbrev pub ListIsInfallible : {P : Type 0} → (P → Extraction) → (P → Infallible) → List P → Infallible
ListIsInfallible extracts infallible [] cx texts = SharesNothing cx
ListIsInfallible extracts infallible (p ∷ more) cx texts = EachIsInfallible extracts infallible (p ∷ more) cx texts

-- the fields of each after those that are given, each name once, at its first place
abbrev pub fields_onto : {P : Type 0} → (P → List (List ℕ)) → List (List ℕ) → List P → List (List ℕ)
fields_onto fields given [] = given
fields_onto fields given (p ∷ more) = fields_onto fields (joined_onto given (fields p)) more
