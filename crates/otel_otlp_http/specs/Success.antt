-- What the body of a success says of the spans: how many were rejected (OTLP 1.7, "Partial Success").
use Rattle.std.specs.Prelude.{◌≡◌, ◌≢◌, ◌⊎◌, ℕ, List, [], ◌∷◌, Option, Some, None, codes}
use Rattle.std.specs.Str.{IsUtf8}
use Rattle.json.specs.Find.{get}
use Rattle.json.specs.Json.{Json, null, boolean, number, string, array, object, document}
use Rattle.otel_http_post.specs.Count.{count_in}
use Rattle.otel_otlp_protobuf.specs.declared.encoding.Encoding.{Encoding}
use Rattle.otel_otlp_protobuf.specs.declared.encoding.Encoding.TheVariants as encodings
use Rattle.otel_otlp_http.specs.ProtobufSuccess.{rejected_in}

-- a count: a text of digits, as 64 bits are written in JSON, or a number; where there is none it is 0
abbrev pub count_of : Option Json → Option ℕ
count_of None = Some 0
count_of (Some null) = Some 0
count_of (Some (string digits)) = count_in digits
count_of (Some (number digits)) = count_in digits
count_of (Some (boolean b)) = None
count_of (Some (array xs)) = None
count_of (Some (object fields)) = None

-- the count of a partial success, which is an object; where there is none, no span was rejected
abbrev pub rejected_of : Option Json → Option ℕ
rejected_of None = Some 0
rejected_of (Some null) = Some 0
rejected_of (Some (object fields)) = count_of (get (codes "rejectedSpans") (object fields))
rejected_of (Some (boolean b)) = None
rejected_of (Some (number digits)) = None
rejected_of (Some (string text)) = None
rejected_of (Some (array xs)) = None

-- the count of a response, which is an object
abbrev pub rejected_in_json : Json → Option ℕ
rejected_in_json (object fields) = rejected_of (get (codes "partialSuccess") (object fields))
rejected_in_json null = None
rejected_in_json (boolean b) = None
rejected_in_json (number digits) = None
rejected_in_json (string text) = None
rejected_in_json (array xs) = None

-- what a text says: the count of its document, or no count where it is none
abbrev pub SaysJson : List ℕ → Option ℕ → Type 0
SaysJson body count =
    ((response : Json) × (document body ≡ Some response) × (count ≡ rejected_in_json response))
    ⊎ ((count ≡ None) × (IsUtf8 body → document body ≡ None))

-- what a body says in its encoding
abbrev pub Says : Encoding → List ℕ → Option ℕ → Type 0
Says encodings.Protobuf body count = count ≡ rejected_in body
Says encodings.Json body count = SaysJson body count

-- an empty body says that no span was rejected
abbrev pub Rejects : Encoding → List ℕ → Option ℕ → Type 0
Rejects encoding [] count = count ≡ Some 0
Rejects encoding (b ∷ bs) count = Says encoding (b ∷ bs) count

-- what takes memory to be read: JSON, if there is any
abbrev pub NeedsMemory : Encoding → List ℕ → Type 0
NeedsMemory encodings.Protobuf body = ⊥
NeedsMemory encodings.Json body = body ≢ []
