-- A text that grows by what a character is shown as.
use Rattle.std.proofs.Common.{◌≡◌, ◌++◌, ◌∷◌, [], ◌∙◌, ℕ, List, append-nil, sym, ap, flat_map}
use Rattle.std.proofs.lemmas.List.Concat.{flat_map-append}
use Rattle.otel_otlp_http.specs.Reasons.{shown_char}

pub one_shown : (whole more items : List ℕ) (item : ℕ) → whole ≡ flat_map shown_char items
    → more ≡ whole ++ shown_char item → more ≡ flat_map shown_char (items ++ item ∷ [])
one_shown whole more items item e g =
    g ∙ ap (λ (w : List ℕ). w ++ shown_char item) e
    ∙ sym (flat_map-append shown_char items (item ∷ [])
    ∙ ap (λ (w : List ℕ). flat_map shown_char items ++ w) (append-nil (shown_char item)))
