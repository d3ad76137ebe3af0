-- The texts that answer steps.
use Rattle.std.proofs.Common.{◌≡◌, ℕ, ◌<◌, List, [], ◌∷◌, ◌++◌, length, map, Result, Ok, Err, OnOk, is_ok, refl, ap, ◌∙◌, arith}
use Rattle.std.specs.Prelude.{if◌then◌else◌}
use Rattle.std.specs.List.{flat_map}
use Rattle.std.proofs.lemmas.List.Folds.{flat_map-map}
use Rattle.otel_export.specs.PlainSpanData.{PlainSpanData}
use Rattle.otel_trace_steps.specs.StepTexts.{names_text, told_text}

-- batches that are shown, where there are some
some_told : (batches : List (List PlainSpanData)) → 0 < length batches → told_text batches ≡ flat_map (λ spans. 32 ∷ names_text spans) batches
some_told [] some = absurd (omega arith)
some_told (batch ∷ more) some = refl

-- the same of what holds them
pub told_of : {X : Type 0} (items : X → List PlainSpanData) (batches : List X) → 0 < length (map items batches) → told_text (map items batches) ≡ flat_map (λ batch. 32 ∷ names_text (items batch)) batches
told_of items batches some = some_told (map items batches) some ∙ flat_map-map (λ spans. 32 ∷ names_text spans) items batches

-- a text grew where the call found memory
pub grown_if_ok : {T E : Type 0} (r : Result T E) (old more new : List ℕ) → new ≡ (if is_ok r then old ++ more else old) → OnOk r (new ≡ old ++ more)
grown_if_ok (Ok x) old more new e = e
grown_if_ok (Err x) old more new e = tt

-- a text that was put together anew, and its line's end
pub line_of : (cleared shown longer now more : List ℕ) → cleared ≡ [] → shown ≡ cleared ++ more → longer ≡ shown ++ 10 ∷ [] → now ≡ longer → now ≡ more ++ 10 ∷ []
line_of cleared shown longer now more a b c d = d ∙ c ∙ ap (λ t. t ++ 10 ∷ []) (b ∙ ap (λ t. t ++ more) a)
