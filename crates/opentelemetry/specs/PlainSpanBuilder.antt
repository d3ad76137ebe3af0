-- What contracts see of a span's builder. The kind is the enum itself, which lies nowhere in memory.
use Rattle.std.specs.Prelude.{ℕ, List, Option, None}
use Rattle.opentelemetry.specs.Plain.{PlainKeyValue, PlainEvent, PlainLink}
use Rattle.opentelemetry.specs.declared.trace.span_kind.SpanKind.{SpanKind}

-- what a span is to start with; what is none is left to the tracer
pub record PlainSpanBuilder : Type 0 where
  pub name : List ℕ
  pub span_kind : Option SpanKind
  pub start_time : Option ℕ
  pub attributes : Option (List PlainKeyValue)
  pub events : Option (List PlainEvent)
  pub links : Option (List PlainLink)

-- a name and nothing else
abbrev pub named_builder : List ℕ → PlainSpanBuilder
named_builder name = record {
  name = name;
  span_kind = None;
  start_time = None;
  attributes = None;
  events = None;
  links = None;
}
