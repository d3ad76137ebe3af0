-- Who serves a request, and the URL by which it was asked for (OpenTelemetry semantic conventions, "HTTP spans").
use Rattle.std.specs.Prelude.{◌≡◌, ◌⊎◌, ℕ, List, [], ◌∷◌, ◌++◌, codes, bytes_eq, decimal, Option, None, Some}
use Rattle.std.specs.Option.{option_or}
use Rattle.std.specs.Prelude.{MatchOption, if◌then◌else◌, option_map, pos, unwrap_or}
use Rattle.http.specs.declared.request.Parts.{Parts}
use Rattle.http_header.specs.FieldValue.{FieldValue}
use Rattle.http_header.specs.HeaderMap.{get}
use Rattle.http_uri.specs.declared.uri.Uri.{Uri}
use Rattle.http_uri.specs.ByteClasses.{colon, left_bracket, right_bracket, split_once_back, split_once_front}
use Rattle.http_uri.specs.Grammar.{IsAuthority, authority_host}
use Rattle.http_uri.specs.Port.{IsPortNumberOf}
use Rattle.http_uri.specs.Uri.{uri_authority, uri_path, uri_scheme}
use Rattle.opentelemetry.specs.Plain.{PlainKeyValue, integer, text}

-- an attribute with a text
abbrev pub text_attribute : List ℕ → List ℕ → PlainKeyValue
text_attribute key value = record { key = key; value = text value }

-- an attribute with a number
abbrev pub number_attribute : List ℕ → ℕ → PlainKeyValue
number_attribute key number = record { key = key; value = integer (pos number) }

-- a host as an address: one of IPv6 stands without its brackets
abbrev pub host_address : List ℕ → List ℕ
host_address host = unwrap_or (option_map (split_once_front right_bracket) (split_once_back left_bracket host)) host

-- the port of a scheme, where the conventions know one
abbrev pub scheme_port : Option (List ℕ) → Option ℕ
scheme_port None = None
scheme_port (Some scheme) =
    if bytes_eq scheme (codes "http") then Some 80
    else (if bytes_eq scheme (codes "https") then Some 443 else None)

-- an attribute with a port, if there is one
abbrev pub port_if : Option ℕ → List PlainKeyValue
port_if None = []
port_if (Some port) = number_attribute (codes "server.port") port ∷ []

-- what a span has of an authority: the address of its host, and its port; where it names none, the other one, if any
abbrev pub IsServerIn : List ℕ → Option ℕ → List PlainKeyValue → Type 0
IsServerIn authority other attributes = (port : Option ℕ) × IsPortNumberOf authority port
    × (attributes ≡ text_attribute (codes "server.address") (host_address (authority_host authority))
    ∷ port_if (option_or port other))

-- what a span has of a value of `Host`: nothing where that is no authority
abbrev pub IsServerOfHost : FieldValue → Option ℕ → List PlainKeyValue → Type 0
IsServerOfHost value other attributes =
    (IsAuthority value.bytes × IsServerIn value.bytes other attributes)
    ⊎ ((¬ (IsAuthority value.bytes)) × (attributes ≡ []))

-- what a span has of the server of a request: that of its target, and of `Host` where the target names none (RFC 9112,
-- section 3.2.2)
abbrev pub NamesServer : Parts → Option ℕ → List PlainKeyValue → Type 0
NamesServer head other attributes = MatchOption (uri_authority head.uri)
    (MatchOption (get head.headers (codes "host")) (attributes ≡ [])
    (λ value. IsServerOfHost value other attributes))
    (λ authority. IsServerIn authority other attributes)

-- a port after a host
abbrev pub port_text : Option ℕ → List ℕ
port_text None = []
port_text (Some port) = colon ∷ decimal port

-- the URL of these parts
abbrev pub url_text : List ℕ → List ℕ → Option ℕ → List ℕ → List ℕ
url_text scheme host port path = scheme ++ codes "://" ++ host ++ port_text port ++ path

-- the URL of a target in absolute form, without what may be secret in it: credentials, and the query
abbrev pub IsUrlOf : Option (List ℕ) → Option (List ℕ) → List ℕ → Option (List ℕ) → Type 0
IsUrlOf None authority path url = url ≡ None
IsUrlOf (Some scheme) None path url = url ≡ None
IsUrlOf (Some scheme) (Some authority) path url = (port : Option ℕ) × IsPortNumberOf authority port
    × (url ≡ Some (url_text scheme (authority_host authority) port path))

abbrev pub IsFullUrl : Uri → Option (List ℕ) → Type 0
IsFullUrl uri url = IsUrlOf (uri_scheme uri) (uri_authority uri) (uri_path uri) url
