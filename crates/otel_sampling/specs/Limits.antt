-- The limits of a span that nobody chose (OpenTelemetry specification, "Span Limits").
use Rattle.std.specs.Prelude.{None}
use Rattle.otel_sampling.specs.declared.trace.span_limit.SpanLimits.{SpanLimits}

-- 128 of each, and texts of any length
abbrev pub default_limits : SpanLimits
default_limits = record {
  max_events_per_span = 128;
  max_attributes_per_span = 128;
  max_links_per_span = 128;
  max_attributes_per_event = 128;
  max_attributes_per_link = 128;
  max_attribute_value_length = None;
}
