-- A text that is JSON, or none.
use Rattle.std.proofs.Common.{◌≡◌, Bool, true, false, cond, ℕ, List, Some, None, Err, refl, sym, ap, ◌∙◌}
use Rattle.std.specs.Prelude.{◌&&◌, ◌↔◌, IsSome, IsTrue, is_some}
use Rattle.std.proofs.lemmas.Str.{IsUtf8-from_is_utf8, is_utf8-from_IsUtf8}
use Rattle.std.specs.Str.{IsUtf8, is_utf8}
use Rattle.json.specs.Json.{Json, document}
use Rattle.otel_otlp_read.specs.declared.fault.Fault.TheVariants.{NotJson}
use Rattle.otel_otlp_read.specs.Inputs.{is_json, read_document, read_parsed}
use Rattle.otel_otlp_read.specs.Requests.{read_request}

pub read_json : (text : List ℕ) (j : Json) → IsUtf8 text → document text ≡ Some j → read_document text ≡ read_request j
unfolding read_document
read_json text j utf8 is =
    ap (λ t. cond t (read_parsed (document text)) (Err NotJson)) (is_utf8-from_IsUtf8 text utf8) ∙ ap read_parsed is

by_test : (text : List ℕ) (t : Bool) → is_utf8 text ≡ t → (IsUtf8 text → document text ≡ None)
    → cond t (read_parsed (document text)) (Err NotJson) ≡ Err NotJson
by_test text true e none = ap read_parsed (none (IsUtf8-from_is_utf8 text e))
by_test text false e none = refl

pub no_json : (text : List ℕ) → (IsUtf8 text → document text ≡ None) → read_document text ≡ Err NotJson
unfolding read_document
no_json text none = by_test text (is_utf8 text) refl none

-- what a check of a text says
same_tests : (a b : Bool) → (a ≡ true → b ≡ true) → (b ≡ true → a ≡ true) → a ≡ b
same_tests true b there back = sym (there refl)
same_tests false true there back = back refl
same_tests false false there back = refl

pub valid_is : (text : List ℕ) (valid : Bool) → IsUtf8 text → (IsTrue valid ↔ IsSome (document text))
    → valid ≡ is_json text
valid_is text valid utf8 h =
    same_tests valid (is_some (document text)) h.0 h.1
    ∙ sym (ap (λ t. t && is_some (document text)) (is_utf8-from_IsUtf8 text utf8))

pub no_text : (text : List ℕ) → (IsUtf8 text → ⊥) → false ≡ is_json text
no_text text none = by (is_utf8 text) refl
  where
    by : (t : Bool) → is_utf8 text ≡ t → false ≡ (t && is_some (document text))
    by true e = absurd (none (IsUtf8-from_is_utf8 text e))
    by false e = refl
