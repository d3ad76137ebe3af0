-- How a message stands among other bytes.
use Rattle.std.specs.Prelude.{ℕ, List}
use Rattle.otel_otlp_protobuf.specs.declared.write.Framing.{Framing}
use Rattle.otel_otlp_protobuf.specs.declared.write.Framing.TheVariants as framings
use Rattle.otel_protobuf.specs.Wire.{after_length}

abbrev pub framed : Framing → List ℕ → List ℕ
framed framings.Alone bs = bs
framed framings.AfterLength bs = after_length bs
