-- The encodings of the protocol (OTLP 1.7).
use Rattle.std.specs.Prelude.{ℕ, List, codes}
use Rattle.otel_otlp_protobuf.specs.declared.encoding.Encoding.{Encoding}
use Rattle.otel_otlp_protobuf.specs.declared.encoding.Encoding.TheVariants as encodings

-- how a body names its own ("OTLP/HTTP")
abbrev pub content_type : Encoding → List ℕ
content_type encodings.Protobuf = codes "application/x-protobuf"
content_type encodings.Json = codes "application/json"
