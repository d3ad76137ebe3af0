-- Lines that are cut at their line feeds are the texts again.
use Rattle.std.proofs.Common.{◌≡◌, ◌≢◌, ◌==◌, ℕ, false, cond, List, [], ◌∷◌, ◌++◌, ap, arith, map, refl, ◌∙◌}
use Rattle.std.proofs.Common.{append_assoc}
use Rattle.std.specs.List.{onto_first, slice_split}
use Rattle.std.proofs.lemmas.Bool.Decides.{nat_tests}
use Rattle.otel_resource.specs.Resource.{PlainResource}
use Rattle.otel_export.specs.PlainSpanData.{PlainSpanData}
use Rattle.otel_otlp.specs.Otlp.{otlp_lines, otlp_text}
use Rattle.otel_otlp.proofs.NoFeed.{NoFeed}
use Rattle.otel_otlp.proofs.Unbroken.{text_no_feed}

no_feed : (b : ℕ) → b ≢ 10 → (b == 10) ≡ false
no_feed b h = grind (arith, nat_tests)

-- a text in front of a line feed is a part
first_part : (text after : List ℕ) → NoFeed text
    → slice_split (λ b. b == 10) (text ++ 10 ∷ after) ≡ text ∷ slice_split (λ b. b == 10) after
first_part [] after h = refl
first_part (b ∷ text) after h =
    ap (λ t. cond t ([] ∷ slice_split (λ b. b == 10) (text ++ 10 ∷ after))
    (onto_first b (slice_split (λ b. b == 10) (text ++ 10 ∷ after)))) (no_feed b h.0)
    ∙ ap (onto_first b) (first_part text after h.1)

pub lines_cut : (resource : PlainResource) (batches : List (List PlainSpanData))
    → slice_split (λ b. b == 10) (otlp_lines resource batches) ≡ map (otlp_text resource) batches ++ [] ∷ []
lines_cut resource [] = refl
lines_cut resource (batch ∷ batches) =
    let line = otlp_text resource batch in
    ap (slice_split (λ b. b == 10)) (append_assoc line (10 ∷ []) (otlp_lines resource batches))
    ∙ first_part line (otlp_lines resource batches) (text_no_feed resource batch)
    ∙ ap (λ parts. line ∷ parts) (lines_cut resource batches)
