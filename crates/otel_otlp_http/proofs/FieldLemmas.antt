-- One field more of a response in protobuf, or of the partial success in it.
use Rattle.std.proofs.Common.{◌≡◌, ℕ, List, ◌∷◌, Option, Some, None, ap, refl}
use Rattle.std.specs.Prelude.{option_and_then, option_map}
use Rattle.otel_protobuf.specs.Reading.{Raw}
use Rattle.otel_otlp_http.specs.ProtobufSuccess.{count_after, counts, response_after, responses}

pub counts_more : (before : ℕ) (f : ℕ × Raw) (others : Option (List (ℕ × Raw)))
    → option_map (counts before) (option_map (λ fs. f ∷ fs) others)
    ≡ option_map (counts (count_after before f)) others
counts_more before f None = refl
counts_more before f (Some fs) = refl

pub responses_more : (before count : ℕ) (f : ℕ × Raw) (others : Option (List (ℕ × Raw)))
    → response_after before f ≡ Some count
    → option_and_then (responses before) (option_map (λ fs. f ∷ fs) others)
    ≡ option_and_then (responses count) others
responses_more before count f None e = refl
responses_more before count f (Some fs) e = ap (option_and_then (λ n. responses n fs)) e

pub responses_none : (before : ℕ) (f : ℕ × Raw) (others : Option (List (ℕ × Raw))) → response_after before f ≡ None
    → option_and_then (responses before) (option_map (λ fs. f ∷ fs) others) ≡ None
responses_none before f None e = refl
responses_none before f (Some fs) e = ap (option_and_then (λ n. responses n fs)) e
