-- Whether the data of two spans is the same, part by part. Each test is true exactly at equal values.
use Rattle.std.specs.Prelude.{◌≡◌, Bool, ◌&&◌, ◌==◌}
use Rattle.std.specs.Bool.{Decides, beq}
use Rattle.std.specs.Cmp.Lexicographic.{pointwise, pointwise_decides}
use Rattle.std.proofs.Common.{ap}
use Rattle.std.proofs.lemmas.Bool.Decides.{Decides-eqb, Decides-like, Decides-and}
use Rattle.opentelemetry.specs.Same.{same_text, same_text_decides, same_truth_decides, same_span_context}
use Rattle.opentelemetry.specs.Same.{same_span_context_decides, same_status, same_status_decides}
use Rattle.opentelemetry.specs.SameBuilder.{same_kind, same_kind_decides}
use Rattle.opentelemetry.specs.SameParts.{same_attributes, same_attributes_decides, same_event, same_event_decides}
use Rattle.opentelemetry.specs.SameParts.{same_link, same_link_decides, same_scope, same_scope_decides}
use Rattle.otel_export.specs.PlainSpanData.{PlainSpanEvents, PlainSpanLinks, PlainSpanData}

-- whether the events of two spans are the same
abbrev pub same_span_events : PlainSpanEvents → PlainSpanEvents → Bool
same_span_events a b = pointwise same_event a.events b.events && (a.dropped_count == b.dropped_count)

pub same_span_events_decides : (a b : PlainSpanEvents) → Decides (same_span_events a b) (a ≡ b)
same_span_events_decides a b =
    Decides-like (same_span_events a b)
    (λ e. λ i. record { events = e.0 i; dropped_count = e.1 i })
    (λ e. (ap (λ x. x.events) e, ap (λ x. x.dropped_count) e))
    (Decides-and _ _ (pointwise_decides same_event_decides a.events b.events)
    (Decides-eqb a.dropped_count b.dropped_count))

-- whether the links of two spans are the same
abbrev pub same_span_links : PlainSpanLinks → PlainSpanLinks → Bool
same_span_links a b = pointwise same_link a.links b.links && (a.dropped_count == b.dropped_count)

pub same_span_links_decides : (a b : PlainSpanLinks) → Decides (same_span_links a b) (a ≡ b)
same_span_links_decides a b =
    Decides-like (same_span_links a b)
    (λ e. λ i. record { links = e.0 i; dropped_count = e.1 i })
    (λ e. (ap (λ x. x.links) e, ap (λ x. x.dropped_count) e))
    (Decides-and _ _ (pointwise_decides same_link_decides a.links b.links)
    (Decides-eqb a.dropped_count b.dropped_count))

-- whether two spans are the same one: where they stand, of what kind they are, under which name and scope
abbrev pub same_identity : PlainSpanData → PlainSpanData → Bool
same_identity a b = same_span_context a.span_context b.span_context
    && ((a.parent_span_id == b.parent_span_id)
    && (beq a.parent_span_is_remote b.parent_span_is_remote
    && (same_kind a.span_kind b.span_kind
    && (same_text a.name b.name
    && same_scope a.instrumentation_scope b.instrumentation_scope))))

-- whether the same was recorded of two spans: when, and with which attributes, events, links and status
abbrev pub same_recording : PlainSpanData → PlainSpanData → Bool
same_recording a b = (a.start_time == b.start_time)
    && ((a.end_time == b.end_time)
    && (same_attributes a.attributes b.attributes
    && ((a.dropped_attributes_count == b.dropped_attributes_count)
    && (same_span_events a.events b.events
    && (same_span_links a.links b.links
    && same_status a.status b.status)))))

-- whether the data of two spans is the same
abbrev pub same_span_data : PlainSpanData → PlainSpanData → Bool
same_span_data a b = same_identity a b && same_recording a b

pub same_span_data_decides : (a b : PlainSpanData) → Decides (same_span_data a b) (a ≡ b)
same_span_data_decides a b =
    Decides-like (same_span_data a b)
    (λ e. λ i. record {
      span_context = e.0.0 i;
      parent_span_id = e.0.1.0 i;
      parent_span_is_remote = e.0.1.1.0 i;
      span_kind = e.0.1.1.1.0 i;
      name = e.0.1.1.1.1.0 i;
      instrumentation_scope = e.0.1.1.1.1.1 i;
      start_time = e.1.0 i;
      end_time = e.1.1.0 i;
      attributes = e.1.1.1.0 i;
      dropped_attributes_count = e.1.1.1.1.0 i;
      events = e.1.1.1.1.1.0 i;
      links = e.1.1.1.1.1.1.0 i;
      status = e.1.1.1.1.1.1.1 i;
    })
    (λ e. (
      (
        ap (λ x. x.span_context) e,
        (
          ap (λ x. x.parent_span_id) e,
          (
            ap (λ x. x.parent_span_is_remote) e,
            (
              ap (λ x. x.span_kind) e,
              (
                ap (λ x. x.name) e,
                ap (λ x. x.instrumentation_scope) e,
              ),
            ),
          ),
        ),
      ),
      (
        ap (λ x. x.start_time) e,
        (
          ap (λ x. x.end_time) e,
          (
            ap (λ x. x.attributes) e,
            (
              ap (λ x. x.dropped_attributes_count) e,
              (
                ap (λ x. x.events) e,
                (
                  ap (λ x. x.links) e,
                  ap (λ x. x.status) e,
                ),
              ),
            ),
          ),
        ),
      ),
    ))
    (Decides-and _ _
    (Decides-and _ _ (same_span_context_decides a.span_context b.span_context)
    (Decides-and _ _ (Decides-eqb a.parent_span_id b.parent_span_id)
    (Decides-and _ _ (same_truth_decides a.parent_span_is_remote b.parent_span_is_remote)
    (Decides-and _ _ (same_kind_decides a.span_kind b.span_kind)
    (Decides-and _ _ (same_text_decides a.name b.name)
    (same_scope_decides a.instrumentation_scope b.instrumentation_scope))))))
    (Decides-and _ _ (Decides-eqb a.start_time b.start_time)
    (Decides-and _ _ (Decides-eqb a.end_time b.end_time)
    (Decides-and _ _ (same_attributes_decides a.attributes b.attributes)
    (Decides-and _ _ (Decides-eqb a.dropped_attributes_count b.dropped_attributes_count)
    (Decides-and _ _ (same_span_events_decides a.events b.events)
    (Decides-and _ _ (same_span_links_decides a.links b.links)
    (same_status_decides a.status b.status))))))))
