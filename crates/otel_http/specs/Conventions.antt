-- The attributes of spans of HTTP (OpenTelemetry semantic conventions, "HTTP spans", stable).
use Rattle.std.specs.Prelude.{◌≡◌, ℕ, Bool, ◌||◌, List, [], ◌∷◌, ◌++◌, codes, map, nat_le, bytes_eq}
use Rattle.std.specs.Prelude.{Option, None, Some, if◌then◌else◌, option_to_list, unwrap_or}
use Rattle.http.specs.declared.request.Parts.{Parts}
use Rattle.http.specs.Method.{idempotent_methods, is_among}
use Rattle.http.specs.StatusCode.{code_digits}
use Rattle.http_uri.specs.Uri.{uri_path, uri_query, uri_scheme}
use Rattle.otel_pipeline.specs.SpanEdits.{Edit, set_attribute, update_name}
use Rattle.opentelemetry.specs.Plain.{PlainKeyValue}
use Rattle.otel_http.specs.Servers.{IsFullUrl, NamesServer, number_attribute, scheme_port, text_attribute}

-- whether the conventions know a method
abbrev pub is_known_method : List ℕ → Bool
is_known_method method =
    is_among idempotent_methods method
    || (bytes_eq method (codes "POST") || (bytes_eq method (codes "PATCH") || bytes_eq method (codes "CONNECT")))

-- a method as an attribute, and as the name of a span; others than the known ones do not make new names
abbrev pub method_value : List ℕ → List ℕ
method_value method = if is_known_method method then method else codes "_OTHER"

abbrev pub method_name : List ℕ → List ℕ
method_name method = if is_known_method method then method else codes "HTTP"

-- a method that the conventions do not know, as it came
abbrev pub original_method : List ℕ → Option (List ℕ)
original_method method = if is_known_method method then None else Some method

-- the query of a head, where it is asked for
abbrev pub query_of : Bool → Parts → Option (List ℕ)
query_of keeps_query head = if keeps_query then uri_query head.uri else None

-- an attribute with a text, if there is one
abbrev pub attribute_if : List ℕ → Option (List ℕ) → List PlainKeyValue
attribute_if key value = map (text_attribute key) (option_to_list value)

-- what a span has of the method of its request
abbrev pub method_attributes : List ℕ → List PlainKeyValue
method_attributes method =
    text_attribute (codes "http.request.method") (method_value method)
    ∷ attribute_if (codes "http.request.method_original") (original_method method)

-- what the span of a request that is served has of the head, but for who serves it: where the target names no scheme,
-- the one that is given
abbrev pub target_attributes : List ℕ → Bool → Parts → List PlainKeyValue
target_attributes scheme keeps_query head =
    text_attribute (codes "url.scheme") (unwrap_or (uri_scheme head.uri) scheme)
    ∷ text_attribute (codes "url.path") (uri_path head.uri)
    ∷ attribute_if (codes "url.query") (query_of keeps_query head)

-- what the span of a request that is served has from its start
pub record HasServerAttributes (scheme : List ℕ) (keeps_query : Bool) (head : Parts) (attributes : List PlainKeyValue)
    : Type 0 where
  pub server : List PlainKeyValue
  pub is_server : NamesServer head None server
  pub are : attributes
      ≡ method_attributes head.method ++ target_attributes scheme keeps_query head ++ server

-- what the span of a request to another service has from its start; where the target has a scheme, a port that it does
-- not name is that of the scheme
pub record HasClientAttributes (head : Parts) (attributes : List PlainKeyValue) : Type 0 where
  pub url : Option (List ℕ)
  pub is_url : IsFullUrl head.uri url
  pub server : List PlainKeyValue
  pub is_server : NamesServer head (scheme_port (uri_scheme head.uri)) server
  pub are : attributes ≡ method_attributes head.method ++ attribute_if (codes "url.full") url ++ server

-- what a span has of its response, whose statuses from this one on are errors
abbrev pub response_attributes : ℕ → ℕ → List PlainKeyValue
response_attributes first_error status =
    number_attribute (codes "http.response.status_code") status
    ∷ (if nat_le first_error status then text_attribute (codes "error.type") (code_digits status) ∷ [] else [])

-- a space
abbrev pub space : ℕ
space = 32

-- what a span is told of its route: the attribute, and a name with it
abbrev pub route_edits : List ℕ → List ℕ → List Edit
route_edits method route =
    set_attribute (text_attribute (codes "http.route") route) ∷ update_name (method_name method ++ space ∷ route) ∷ []
