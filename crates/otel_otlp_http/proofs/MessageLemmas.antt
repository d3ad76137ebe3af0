-- One field more of a message.
use Rattle.std.proofs.Common.{◌≡◌, ℕ, List, ◌∷◌, Option, Some, None, refl}
use Rattle.std.specs.Prelude.{option_map}
use Rattle.otel_protobuf.specs.Reading.{Raw}
use Rattle.otel_otlp_http.specs.Messages.{bytes_after, last_bytes}

pub bytes_more : (wanted : ℕ) (before : List ℕ) (f : ℕ × Raw) (others : Option (List (ℕ × Raw)))
    → option_map (last_bytes wanted before) (option_map (λ fs. f ∷ fs) others)
    ≡ option_map (last_bytes wanted (bytes_after wanted before f)) others
bytes_more wanted before f None = refl
bytes_more wanted before f (Some fs) = refl
