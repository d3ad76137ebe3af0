-- Edits of a span, as its history has them, and what each does to what the span has recorded.
use Rattle.std.specs.Prelude.{ℕ, ◌+◌, ◌-◌, ◌^◌, ◌≤◌, List, [], ◌∷◌, ◌++◌, Option, Some, None, nat_lt, nat_le, Bool, true, if◌then◌else◌}
use Rattle.std.specs.Prelude.{length, map, min, string_bytes}
use Rattle.std.specs.List.{flat_map}
use Rattle.opentelemetry.specs.Plain.{PlainKeyValue, PlainSpanContext, PlainEvent, PlainLink, PlainStatus}
use Rattle.opentelemetry.specs.PlainValues.{plain_status}
use Rattle.opentelemetry.specs.Order.{greater_status}
use Rattle.otel_sampling.specs.declared.trace.span_limit.SpanLimits.{SpanLimits}
use Rattle.otel_export.specs.PlainSpanData.{PlainSpanData, cut_at, left_out}
use Rattle.otel_pipeline.specs.ValueLength.{attribute_within}
use Rattle.otel_pipeline.specs.declared.trace.span_edit.SpanEdit.{SpanEdit}
use Rattle.otel_pipeline.specs.declared.trace.span_edit.SpanEdit.TheVariants as edits

-- what may be done to a span while it records
pub data Edit : Type 0 where
  set_attribute : PlainKeyValue → Edit
  add_event : PlainEvent → Edit
  add_link : PlainLink → Edit
  set_status : PlainStatus → Edit
  update_name : List ℕ → Edit

-- an event and a link as they are handed to a span, with all of their attributes
abbrev pub new_event : List ℕ → ℕ → List PlainKeyValue → PlainEvent
new_event name timestamp attributes =
    record { name = name; timestamp = timestamp; attributes = attributes; dropped_attributes_count = 0 }

abbrev pub new_link : PlainSpanContext → List PlainKeyValue → PlainLink
new_link context attributes =
    record { span_context = context; attributes = attributes; dropped_attributes_count = 0 }

-- the attribute that an edit sets, where it sets one
abbrev pub attribute_in : Edit → List PlainKeyValue
attribute_in (set_attribute attribute) = attribute ∷ []
attribute_in _ = []

-- the event that it adds
abbrev pub event_in : Edit → List PlainEvent
event_in (add_event event) = event ∷ []
event_in _ = []

-- the link that it adds
abbrev pub link_in : Edit → List PlainLink
link_in (add_link link) = link ∷ []
link_in _ = []

-- the status that it sets
abbrev pub status_in : Edit → List PlainStatus
status_in (set_status status) = status ∷ []
status_in _ = []

-- the name that it gives
abbrev pub name_in : Edit → List (List ℕ)
name_in (update_name name) = name ∷ []
name_in _ = []

-- the statuses that a list of edits sets, in order
abbrev pub statuses_set : List Edit → List PlainStatus
statuses_set edits = flat_map status_in edits

-- an edit without where its texts lie
abbrev pub plain_edit : SpanEdit → Edit
plain_edit (edits.SetAttribute attribute) = set_attribute attribute
plain_edit (edits.AddEvent event) = add_event event
plain_edit (edits.AddLink link) = add_link link
plain_edit (edits.SetStatus status) = set_status (plain_status status)
plain_edit (edits.UpdateName name) = update_name (string_bytes name)

-- what is kept of a list of attributes under a limit: the first ones, and of each what its values' length allows
abbrev pub attributes_within : SpanLimits → ℕ → List PlainKeyValue → List PlainKeyValue
attributes_within limits count attributes = map (attribute_within limits) (cut_at count attributes)

-- an event whose own attributes are cut at the limit; its count is how many were cut
abbrev pub event_within : SpanLimits → PlainEvent → PlainEvent
event_within limits event = record event {
  attributes = attributes_within limits limits.max_attributes_per_event event.attributes;
  dropped_attributes_count = left_out limits.max_attributes_per_event event.attributes;
}

-- the same of a link
abbrev pub link_within : SpanLimits → PlainLink → PlainLink
link_within limits link = record link {
  attributes = attributes_within limits limits.max_attributes_per_link link.attributes;
  dropped_attributes_count = left_out limits.max_attributes_per_link link.attributes;
}

-- a list under a limit with one item more
abbrev pub grown_within : {X : Type 0} → ℕ → List X → X → List X
grown_within limit xs x = if nat_lt (length xs) limit then xs ++ x ∷ [] else xs

-- how many the limit has left out then
abbrev pub left_out_with : {X : Type 0} → ℕ → List X → ℕ → ℕ
left_out_with limit xs n = if nat_lt (length xs) limit then n else min (n + 1) (2 ^ 32 - 1)

-- a list of attributes with others after it, as far as there is room for them under the limit
abbrev pub grown_by : SpanLimits → List PlainKeyValue → List PlainKeyValue → List PlainKeyValue
grown_by limits xs added = xs ++ attributes_within limits (limits.max_attributes_per_span - length xs) added

-- how many the limit has left out then
abbrev pub left_out_by : {X : Type 0} → ℕ → List X → List X → ℕ → ℕ
left_out_by limit xs added n = min (n + (length added - (limit - length xs))) (2 ^ 32 - 1)

-- the data after one edit: over the limit the new item is only counted, and the greater status stays
abbrev pub edited_data : SpanLimits → Edit → PlainSpanData → PlainSpanData
edited_data limits (set_attribute attribute) recorded = record recorded {
  attributes = grown_within limits.max_attributes_per_span recorded.attributes (attribute_within limits attribute);
  dropped_attributes_count =
      left_out_with limits.max_attributes_per_span recorded.attributes recorded.dropped_attributes_count;
}
edited_data limits (add_event event) recorded = record recorded {
  events = record {
    events = grown_within limits.max_events_per_span recorded.events.events (event_within limits event);
    dropped_count =
        left_out_with limits.max_events_per_span recorded.events.events recorded.events.dropped_count;
  };
}
edited_data limits (add_link link) recorded = record recorded {
  links = record {
    links = grown_within limits.max_links_per_span recorded.links.links (link_within limits link);
    dropped_count = left_out_with limits.max_links_per_span recorded.links.links recorded.links.dropped_count;
  };
}
edited_data limits (set_status status) recorded = record recorded { status = greater_status recorded.status status }
edited_data limits (update_name name) recorded = record recorded { name = name }

-- an edit that adds nothing to what is kept, and so takes no memory
abbrev pub KeepsNoMore : SpanLimits → Edit → PlainSpanData → Type 0
KeepsNoMore limits (set_attribute _) recorded = limits.max_attributes_per_span ≤ length recorded.attributes
KeepsNoMore limits (add_event _) recorded = limits.max_events_per_span ≤ length recorded.events.events
KeepsNoMore limits (add_link _) recorded = limits.max_links_per_span ≤ length recorded.links.links
KeepsNoMore limits (set_status _) recorded = Unit {0}
KeepsNoMore limits (update_name _) recorded = Unit {0}

-- whether an event would not be kept, but counted at most: nothing is recorded, or as many events as the limit allows
abbrev pub keeps_no_event : SpanLimits → Option PlainSpanData → Bool
keeps_no_event limits None = true
keeps_no_event limits (Some recorded) = nat_le limits.max_events_per_span (length recorded.events.events)

-- nothing happens where nothing is recorded
abbrev pub edited_if : SpanLimits → Edit → Option PlainSpanData → Option PlainSpanData
edited_if limits edit None = None
edited_if limits edit (Some recorded) = Some (edited_data limits edit recorded)

-- what edits make one after the other of what is recorded
abbrev pub edited_each : SpanLimits → List Edit → Option PlainSpanData → Option PlainSpanData
edited_each limits [] recorded = recorded
edited_each limits (edit ∷ edits) recorded = edited_each limits edits (edited_if limits edit recorded)

-- what is recorded where a list of attributes is set at once
abbrev pub set_each : SpanLimits → List PlainKeyValue → Option PlainSpanData → Option PlainSpanData
set_each limits added None = None
set_each limits added (Some recorded) = Some (record recorded {
  attributes = grown_by limits recorded.attributes added;
  dropped_attributes_count = left_out_by limits.max_attributes_per_span recorded.attributes added
      recorded.dropped_attributes_count;
})
