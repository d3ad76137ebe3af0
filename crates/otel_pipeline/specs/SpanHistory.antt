-- A span: its history is how it started and the edits since; its data is that of whole lists and whole values, each
-- cut once.
use Rattle.std.specs.Prelude.{◌≡◌, ℕ, Bool, List, [], ◌∷◌, ◌++◌, Option, Some, None, map}
use Rattle.std.specs.List.{flat_map}
use Rattle.opentelemetry.specs.Plain.{PlainKeyValue, PlainSpanContext, PlainEvent, PlainLink, PlainScope, unset}
use Rattle.opentelemetry.specs.Order.{greatest_status}
use Rattle.opentelemetry.specs.declared.trace.span_kind.SpanKind.{SpanKind}
use Rattle.otel_sampling.specs.declared.trace.span_limit.SpanLimits.{SpanLimits}
use Rattle.otel_export.specs.PlainSpanData.{PlainSpanData, PlainSpanEvents, PlainSpanLinks, cut_at, left_out}
pub use Rattle.otel_pipeline.specs.SpanEdits.{Edit, set_attribute, add_event, add_link, set_status, update_name}
pub use Rattle.otel_pipeline.specs.SpanEdits.{attribute_in, event_in, link_in, name_in, status_in, statuses_set}
pub use Rattle.otel_pipeline.specs.SpanEdits.{attributes_within, event_within, grown_by, grown_within, left_out_by}
pub use Rattle.otel_pipeline.specs.SpanEdits.{left_out_with, link_within}
pub use Rattle.otel_pipeline.specs.ValueLength.{attribute_within, value_within}
pub use Rattle.otel_pipeline.specs.SpanEdits.{KeepsNoMore, edited_data, edited_each, edited_if, keeps_no_event, set_each}

-- how a span started; attributes, events and links are those that it was given at once
pub record SpanStart : Type 0 where
  pub span_context : PlainSpanContext
  pub parent_span_id : ℕ
  pub parent_span_is_remote : Bool
  pub span_kind : SpanKind
  pub name : List ℕ
  pub start_time : ℕ
  pub attributes : List PlainKeyValue
  pub events : List PlainEvent
  pub links : List PlainLink
  pub instrumentation_scope : PlainScope
  pub limits : SpanLimits

-- the last of a first name and others
abbrev pub last_name : List ℕ → List (List ℕ) → List ℕ
last_name first [] = first
last_name first (name ∷ more) = last_name name more

-- what is kept of a whole list of events
abbrev pub events_within : SpanLimits → List PlainEvent → PlainSpanEvents
events_within limits events = record {
  events = map (event_within limits) (cut_at limits.max_events_per_span events);
  dropped_count = left_out limits.max_events_per_span events;
}

-- what is kept of a whole list of links
abbrev pub links_within : SpanLimits → List PlainLink → PlainSpanLinks
links_within limits links = record {
  links = map (link_within limits) (cut_at limits.max_links_per_span links);
  dropped_count = left_out limits.max_links_per_span links;
}

-- the data of a span with this start and these edits, ended at a moment: whole lists and values, each cut once, the
-- last name and the greatest status
abbrev pub data_of : SpanStart → List Edit → ℕ → PlainSpanData
data_of start edits moment = record {
  span_context = start.span_context;
  parent_span_id = start.parent_span_id;
  parent_span_is_remote = start.parent_span_is_remote;
  span_kind = start.span_kind;
  name = last_name start.name (flat_map name_in edits);
  start_time = start.start_time;
  end_time = moment;
  attributes = attributes_within start.limits start.limits.max_attributes_per_span
      (start.attributes ++ flat_map attribute_in edits);
  dropped_attributes_count =
      left_out start.limits.max_attributes_per_span (start.attributes ++ flat_map attribute_in edits);
  events = events_within start.limits (start.events ++ flat_map event_in edits);
  links = links_within start.limits (start.links ++ flat_map link_in edits);
  status = greatest_status unset (statuses_set edits);
  instrumentation_scope = start.instrumentation_scope;
}

-- what contracts see of a span: who it is, its limits, and its data so far while it records
pub record PlainSpan : Type 0 where
  pub span_context : PlainSpanContext
  pub limits : SpanLimits
  pub recorded : Option PlainSpanData

-- the same, one by one
abbrev pub plain_span : PlainSpanContext → SpanLimits → Option PlainSpanData → PlainSpan
plain_span context limits recorded = record { span_context = context; limits = limits; recorded = recorded }

-- the recording span of a start and edits; until its end it ends when it started
abbrev pub recording : SpanStart → List Edit → PlainSpan
recording start edits = record {
  span_context = start.span_context;
  limits = start.limits;
  recorded = Some (data_of start edits start.start_time);
}

-- a span that does not record: it never did, or it has ended
abbrev pub not_recording : PlainSpanContext → SpanLimits → PlainSpan
not_recording context limits = record { span_context = context; limits = limits; recorded = None }

-- a span after one edit
abbrev pub edited : Edit → PlainSpan → PlainSpan
edited edit span = record span { recorded = edited_if span.limits edit span.recorded }

-- a span after a list of edits
abbrev pub after : List Edit → PlainSpan → PlainSpan
after [] span = span
after (edit ∷ edits) span = after edits (edited edit span)

-- a span changed by edits alone
abbrev pub IsEdited : PlainSpan → PlainSpan → Type 0
IsEdited old new = (edits : List Edit) × (new ≡ after edits old)

-- a span after its end, which no edit reaches any more
abbrev pub ended : PlainSpan → PlainSpan
ended span = record span { recorded = None }

-- its data as its end delivers it
abbrev pub ended_at : ℕ → PlainSpanData → PlainSpanData
ended_at moment recorded = record recorded { end_time = moment }

-- the history of a span: a start and the edits since, or over
pub data SpanHistory : Type 0 where
  begun : SpanStart → List Edit → SpanHistory
  over : PlainSpanContext → SpanLimits → SpanHistory

-- the span that has this history
abbrev pub span_of : SpanHistory → PlainSpan
span_of (begun start edits) = recording start edits
span_of (over context limits) = not_recording context limits

-- a span is what some history says: what its start and the edits since made, or over
pub record HasHistory (span : PlainSpan) : Type 0 where
  pub history : SpanHistory
  pub is : span ≡ span_of history
