-- The data of a span in a block of its own, which is a list of one.
use Rattle.std.specs.Prelude.{List, [], ◌∷◌, false}
use Rattle.opentelemetry.specs.Plain.{unset, scope_named}
use Rattle.opentelemetry.specs.declared.trace.span_kind.SpanKind.TheVariants as kind
use Rattle.otel_export.specs.PlainSpanData.{PlainSpanData}

-- the data of which nothing was recorded
abbrev pub blank_data : PlainSpanData
blank_data = record {
  span_context = record { trace_id = 0; span_id = 0; trace_flags = 0; is_remote = false; trace_state = [] };
  parent_span_id = 0;
  parent_span_is_remote = false;
  span_kind = kind.Internal;
  name = [];
  start_time = 0;
  end_time = 0;
  attributes = [];
  dropped_attributes_count = 0;
  events = record { events = []; dropped_count = 0 };
  links = record { links = []; dropped_count = 0 };
  status = unset;
  instrumentation_scope = scope_named [];
}

-- the only data in a list of one
abbrev pub only_data : List PlainSpanData → PlainSpanData
only_data [] = blank_data
only_data (span ∷ _) = span
