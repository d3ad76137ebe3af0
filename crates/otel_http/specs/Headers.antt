-- Header maps as carriers of texts.
use Rattle.std.specs.Prelude.{ℕ, List, filter, is_some}
use Rattle.http_header.specs.FieldValue.{FieldValue}
use Rattle.http_header.specs.HeaderMap.{Entries, get_all, keys}
use Rattle.http_header.specs.Token.{lowercase}
use Rattle.opentelemetry.specs.Carrier.{Texts}
use Rattle.otel_http.specs.Fields.{fields_text}

-- a header map: names in lower case, each with its values in order
abbrev pub Headers : Type 0
Headers = Entries FieldValue

-- the texts that headers carry, by name in any case
abbrev pub header_texts : Headers → Texts
header_texts headers name = fields_text (lowercase name) (get_all headers (lowercase name))

-- the names that carry a text
abbrev pub text_names : Headers → List (List ℕ)
text_names headers = filter (λ name. is_some (header_texts headers name)) (keys headers)
