-- What is read of headers.
use Rattle.std.specs.Prelude.{◌≡◌, ℕ, ◌≢◌, ◌≤◌, List, All, length, option_map, string_bytes}
use Rattle.http_header.specs.HeaderMap.{get_all}
use Rattle.otel_http.specs.Fields.{fields_text}
use Rattle.otel_http.specs.Headers.{Headers}
use Rattle.otel_http.specs.declared.header_extractor.Repeated.{Repeated}

-- what a name says is known
abbrev pub IsSaid : Headers → Repeated → Type 0
IsSaid headers field =
    option_map (λ text. string_bytes text) field.text ≡ fields_text field.name.now (get_all headers field.name.now)

-- what is known of the names that have several fields: a name that is none of them has one at most
pub record AreRepeated (headers : Headers) (repeated : List Repeated) : Type 0 where
  pub said : All (IsSaid headers) repeated
  pub complete : (name : List ℕ) → All (λ field. field.name.now ≢ name) repeated
      → length (get_all headers name) ≤ 1
