-- The request of a batch (OTLP 1.7, "OTLP/HTTP").
use Rattle.std.specs.Prelude.{ℕ, List, length}
use Rattle.http1.specs.declared.client.Client.{Client}
use Rattle.otel_resource.specs.Resource.{PlainResource}
use Rattle.otel_export.specs.PlainSpanData.{PlainSpanData}
use Rattle.otel_otlp.specs.Otlp.{otlp_text}
use Rattle.otel_otlp_protobuf.specs.Encodings.{content_type}
use Rattle.otel_otlp_protobuf.specs.NamedRequest.{request_bytes}
use Rattle.otel_http_post.specs.Endpoint.{PlainEndpoint}
use Rattle.otel_http_post.specs.declared.error.PostError.{PostError}
use Rattle.otel_http_post.specs.Refusal.{RefusesPost}
use Rattle.otel_http_post.specs.Request.{asked_client, post_headers, post_text}
use Rattle.otel_otlp_protobuf.specs.declared.encoding.Encoding.{Encoding}
use Rattle.otel_otlp_protobuf.specs.declared.encoding.Encoding.TheVariants as encodings

-- the body of a batch: its request in protobuf, or in JSON
abbrev pub body_bytes : Encoding → PlainResource → List PlainSpanData → List ℕ
body_bytes encodings.Protobuf resource batch = request_bytes resource batch
body_bytes encodings.Json resource batch = otlp_text resource batch

-- the text of the request: a post to the endpoint, with this body
abbrev pub batch_request : PlainEndpoint → Encoding → PlainResource → List PlainSpanData → List ℕ
batch_request endpoint encoding resource batch =
    post_text endpoint (content_type encoding) (body_bytes encoding resource batch)

-- the client that has sent it
abbrev pub batch_client : PlainEndpoint → Encoding → PlainResource → List PlainSpanData → Client
batch_client endpoint encoding resource batch =
    asked_client (post_headers endpoint (content_type encoding)) (length (body_bytes encoding resource batch))

-- why there is no request of a batch: the endpoint makes none with such a body, or there was no memory
abbrev pub Unmakes : PlainEndpoint → Encoding → PlainResource → List PlainSpanData → PostError → Type 0
Unmakes endpoint encoding resource batch error =
    RefusesPost endpoint (content_type encoding) (length (body_bytes encoding resource batch)) error
