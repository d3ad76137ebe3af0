-- The text of a request with its body.
use Rattle.std.specs.Prelude.{◌≡◌, ℕ, List, [], ◌∷◌, ◌++◌, length, codes}
use Rattle.http1.specs.declared.client.Client.{Client}
use Rattle.http1.specs.declared.conn.BodySize.TheVariants.{Known}
use Rattle.http1.specs.declared.conn.Limits.{Limits}
use Rattle.http1.specs.declared.fields.ContentLength.TheVariants as Length
use Rattle.http1.specs.declared.fields.KnownFields.{KnownFields}
use Rattle.http1.specs.declared.fields.TransferEncoding.TheVariants as Coding
use Rattle.http1.specs.Client.{after_end, after_request, new_client, with_writing, writing}
use Rattle.http1.specs.Conn.{after_data, length_header}
use Rattle.http1.specs.Fields.{Header}
use Rattle.http1.specs.Head.{request_text}
use Rattle.otel_http_post.specs.Endpoint.{PlainEndpoint}

-- the headers of a request, but for the length of its body
abbrev pub post_headers : PlainEndpoint → List ℕ → List Header
post_headers endpoint content_type =
    (codes "host", endpoint.host) ∷ (codes "content-type", content_type) ∷ endpoint.headers

-- a request: its head, whose last header is the length of its body, and the body
abbrev pub post_text : PlainEndpoint → List ℕ → List ℕ → List ℕ
post_text endpoint content_type body =
    request_text (codes "POST") endpoint.path 1
    (post_headers endpoint content_type ++ length_header (length body) ∷ []) ++ body

-- how much of a head, of the extensions of chunks and of trailers is read
abbrev pub limits : Limits
limits = record { max_head_len = 16384; max_extensions_len = 16384; max_trailers_len = 16384 }

-- a client that has sent the head of a request with a body of so many bytes, the body, and its end
abbrev pub asked_by : Client → ℕ → Client
asked_by begun len = after_end (with_writing begun (after_data (writing begun) len))

abbrev pub asked_client : List Header → ℕ → Client
asked_client headers len = asked_by (after_request (new_client limits) (codes "POST") (Known len) headers) len

-- a client that has sent one request and read nothing
abbrev pub HasAsked : Client → Type 0
HasAsked client = (headers : List Header) × (len : ℕ) × (client ≡ asked_client headers len)

-- no header says how long the body is
pub record LeavesLength (known : KnownFields) : Type 0 where
  pub framing : known.framing_fields ≡ 0
  pub length : known.content_length ≡ Length.Absent
  pub codings : known.transfer_encoding ≡ Coding.Absent
