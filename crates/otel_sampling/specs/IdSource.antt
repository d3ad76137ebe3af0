-- Which ids a source gives, and the source afterwards.
use Rattle.std.specs.Prelude.{◌≡◌, ℕ, List}
use Rattle.otel_sampling.specs.declared.trace.id_generator.IdSourceOf.{IdSourceOf}
use Rattle.otel_sampling.specs.declared.trace.id_generator.IdSourceOf.TheVariants as kinds

-- the generator of the SDK gives the next id of its state, that of X-Ray the next one of its own, a custom one what
-- custom_gives says, and a source stays of its kind
abbrev pub SourceGives : {C : Type 0} → (random xray : List ℕ → ℕ × List ℕ) → (C → ℕ → C → Type 0)
    → IdSourceOf C → ℕ → IdSourceOf C → Type 0
SourceGives random xray custom_gives (kinds.Random old) id (kinds.Random new) = (id, new) ≡ random old
SourceGives random xray custom_gives (kinds.Xray old) id (kinds.Xray new) = (id, new) ≡ xray old
SourceGives random xray custom_gives (kinds.Custom old) id (kinds.Custom new) = custom_gives old id new
SourceGives random xray custom_gives _ id _ = ⊥
