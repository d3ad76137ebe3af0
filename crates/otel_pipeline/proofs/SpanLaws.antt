-- What a span keeps as it goes is what its history's whole lists give, cut once.
use Rattle.std.proofs.Common.{◌≡◌, ℕ, ◌+◌, ◌-◌, ◌^◌, ◌<◌, ◌≤◌, Bool, true, false, cond, min, map, List, [], ◌∷◌, ◌++◌, Option, Some, None, Result, Ok, Err, OnOk, OnErr, refl, sym, ◌∙◌, ap, subst, length, take, arith, append_assoc, append-nil, length-append, nat_lt}
use native.Mathlib.Decide.{dec_lt}
use Rattle.std.proofs.lemmas.Bool.Decides.{nat_tests}
use Rattle.std.specs.List.{flat_map}
use Rattle.std.specs.List.Sorted.{IsPermutation}
use Rattle.std.proofs.lemmas.List.{length-take-le, take-append-le, take_all, length-map, map-append}
use Rattle.std.proofs.lemmas.Grind.{flat_map-append}
use Rattle.opentelemetry.specs.Plain.{PlainKeyValue, PlainSpanContext, PlainEvent, PlainLink, PlainStatus, unset}
use Rattle.opentelemetry.specs.Order.{greater_status, greatest_status}
use Rattle.opentelemetry.proofs.StatusLaws.{greatest_in_any_order}
use Rattle.otel_sampling.specs.declared.trace.span_limit.SpanLimits.{SpanLimits}
use Rattle.otel_export.specs.PlainSpanData.{PlainSpanData, PlainSpanEvents, PlainSpanLinks, cut_at, left_out}
use Rattle.otel_pipeline.specs.SpanHistory.{PlainSpan, SpanStart, Edit, set_attribute, add_event, add_link, set_status, update_name, attribute_in, event_in, link_in, status_in, name_in, last_name, attribute_within, attributes_within, event_within, link_within, events_within, links_within, data_of, recording, grown_within, left_out_with, edited, edited_if, after, IsEdited, ended, not_recording, statuses_set, SpanHistory, begun, over, span_of, HasHistory}

-- below the limit
short : {X : Type 0} (limit : ℕ) (xs : List X) (x : X) → length xs < limit → (grown_within limit (cut_at limit xs) x ≡ cut_at limit (xs ++ x ∷ [])) × (left_out_with limit (cut_at limit xs) (left_out limit xs) ≡ left_out limit (xs ++ x ∷ []))
short limit xs x h =
    let same : take limit xs ≡ xs = take_all limit xs (omega arith) in
    let all : take limit (xs ++ x ∷ []) ≡ xs ++ x ∷ [] = take_all limit (xs ++ x ∷ []) (omega (arith, length-append xs (x ∷ []))) in
    let below : nat_lt (length xs) limit ≡ true = grind (arith, nat_tests) in
    (rw (all, same, below) refl, rw (same, below, length-append) (omega arith))

-- at the limit
long : {X : Type 0} (limit : ℕ) (xs : List X) (x : X) → limit ≤ length xs → (grown_within limit (cut_at limit xs) x ≡ cut_at limit (xs ++ x ∷ [])) × (left_out_with limit (cut_at limit xs) (left_out limit xs) ≡ left_out limit (xs ++ x ∷ []))
long limit xs x h =
    let size : length (take limit xs) ≡ limit = length-take-le limit xs h in
    let above : nat_lt limit limit ≡ false = grind (arith, nat_tests) in
    (rw (size, above, take-append-le) refl, rw (size, above, length-append) (omega arith))

-- cutting as it goes keeps what cutting once keeps
pub grown_within-cut_at : {X : Type 0} (limit : ℕ) (xs : List X) (x : X) → grown_within limit (cut_at limit xs) x ≡ cut_at limit (xs ++ x ∷ [])
grown_within-cut_at limit xs x = elim (dec_lt (length xs) limit) [ Prim.yes h ↦ (short limit xs x h).0 | Prim.no h ↦ (long limit xs x (omega arith)).0 ]

-- and counts what cutting once counts
pub left_out_with-cut_at : {X : Type 0} (limit : ℕ) (xs : List X) (x : X) → left_out_with limit (cut_at limit xs) (left_out limit xs) ≡ left_out limit (xs ++ x ∷ [])
left_out_with-cut_at limit xs x = elim (dec_lt (length xs) limit) [ Prim.yes h ↦ (short limit xs x h).1 | Prim.no h ↦ (long limit xs x (omega arith)).1 ]

-- what a list keeps that grows or does not, of which each item is cut by itself
grown_map : {X : Type 0} (f : X → X) (b : Bool) (ys : List X) (x : X) → cond b (map f ys ++ f x ∷ []) (map f ys) ≡ map f (cond b (ys ++ x ∷ []) ys)
grown_map f true ys x = sym (map-append f ys (x ∷ []))
grown_map f false ys x = refl

-- cutting as it goes, where each item is cut by itself
mapped_within : {X : Type 0} (f : X → X) (limit : ℕ) (xs : List X) (x : X) → grown_within limit (map f (cut_at limit xs)) (f x) ≡ map f (cut_at limit (xs ++ x ∷ []))
mapped_within {X} f limit xs x =
    let ys : List X = cut_at limit xs in
    ap (λ (n : ℕ). cond (nat_lt n limit) (map f ys ++ f x ∷ []) (map f ys)) (length-map ys f)
    ∙ grown_map f (nat_lt (length ys) limit) ys x ∙ ap (map f) (grown_within-cut_at limit xs x)

mapped_left_out : {X : Type 0} (f : X → X) (limit : ℕ) (xs : List X) (x : X) → left_out_with limit (map f (cut_at limit xs)) (left_out limit xs) ≡ left_out limit (xs ++ x ∷ [])
mapped_left_out f limit xs x =
    ap (λ (n : ℕ). cond (nat_lt n limit) (left_out limit xs) (min (left_out limit xs + 1) (2 ^ 32 - 1))) (length-map (cut_at limit xs) f)
    ∙ left_out_with-cut_at limit xs x

-- what one more edit brings to a list
brings : {X : Type 0} (f : Edit → List X) (first : List X) (edits : List Edit) (edit : Edit) (xs : List X) → f edit ≡ xs → (first ++ flat_map f edits) ++ xs ≡ first ++ flat_map f (edits ++ edit ∷ [])
brings {X} f first edits edit xs e =
    append_assoc first (flat_map f edits) xs
    ∙ ap (λ (l : List X). first ++ l) (ap (λ (l : List X). flat_map f edits ++ l) (sym e ∙ sym (append-nil (f edit))) ∙ sym (flat_map-append f edits (edit ∷ [])))

-- one that brings nothing
brings_none : {X : Type 0} (f : Edit → List X) (first : List X) (edits : List Edit) (edit : Edit) → f edit ≡ [] → first ++ flat_map f edits ≡ first ++ flat_map f (edits ++ edit ∷ [])
brings_none f first edits edit e = sym (append-nil (first ++ flat_map f edits)) ∙ brings f first edits edit [] e

greatest-push : (first status : PlainStatus) (statuses : List PlainStatus) → greater_status (greatest_status first statuses) status ≡ greatest_status first (statuses ++ status ∷ [])
greatest-push first status [] = refl
greatest-push first status (s ∷ statuses) = greatest-push (greater_status first s) status statuses

last-push : (first name : List ℕ) (names : List (List ℕ)) → name ≡ last_name first (names ++ name ∷ [])
last-push first name [] = refl
last-push first name (n ∷ names) = last-push n name names

-- a recording span by the parts of its data that edits change
made : SpanStart → List ℕ → List PlainKeyValue → ℕ → PlainSpanEvents → PlainSpanLinks → PlainStatus → PlainSpan
made start name attributes dropped events links status = record (recording start []) {
  recorded = Some (record (data_of start [] start.start_time) {
    name = name;
    attributes = attributes;
    dropped_attributes_count = dropped;
    events = events;
    links = links;
    status = status;
  });
}

made_same : (start : SpanStart) {n m : List ℕ} {a b : List PlainKeyValue} {d k : ℕ} {e f : PlainSpanEvents} {l r : PlainSpanLinks} {s t : PlainStatus}
    → n ≡ m → a ≡ b → d ≡ k → e ≡ f → l ≡ r → s ≡ t → made start n a d e l s ≡ made start m b k f r t
made_same start p q u v w x = cc

-- edits that bring nothing to a part leave it
same_name : (start : SpanStart) (edits : List Edit) (edit : Edit) → name_in edit ≡ [] → last_name start.name (flat_map name_in edits) ≡ last_name start.name (flat_map name_in (edits ++ edit ∷ []))
same_name start edits edit e = ap (last_name start.name) (brings_none name_in [] edits edit e)

same_status : (edits : List Edit) (edit : Edit) → status_in edit ≡ [] → greatest_status unset (flat_map status_in edits) ≡ greatest_status unset (flat_map status_in (edits ++ edit ∷ []))
same_status edits edit e = ap (greatest_status unset) (brings_none status_in [] edits edit e)

attributes_stay : (start : SpanStart) (edits : List Edit) (edit : Edit) → attribute_in edit ≡ [] → (attributes_within start.limits start.limits.max_attributes_per_span (start.attributes ++ flat_map attribute_in edits) ≡ attributes_within start.limits start.limits.max_attributes_per_span (start.attributes ++ flat_map attribute_in (edits ++ edit ∷ [])))
    × (left_out start.limits.max_attributes_per_span (start.attributes ++ flat_map attribute_in edits) ≡ left_out start.limits.max_attributes_per_span (start.attributes ++ flat_map attribute_in (edits ++ edit ∷ [])))
attributes_stay start edits edit e =
    let same = brings_none attribute_in start.attributes edits edit e in
    (ap (attributes_within start.limits start.limits.max_attributes_per_span) same, ap (left_out start.limits.max_attributes_per_span) same)

same_events : (start : SpanStart) (edits : List Edit) (edit : Edit) → event_in edit ≡ [] → events_within start.limits (start.events ++ flat_map event_in edits) ≡ events_within start.limits (start.events ++ flat_map event_in (edits ++ edit ∷ []))
same_events start edits edit e = ap (events_within start.limits) (brings_none event_in start.events edits edit e)

same_links : (start : SpanStart) (edits : List Edit) (edit : Edit) → link_in edit ≡ [] → links_within start.limits (start.links ++ flat_map link_in edits) ≡ links_within start.limits (start.links ++ flat_map link_in (edits ++ edit ∷ []))
same_links start edits edit e = ap (links_within start.limits) (brings_none link_in start.links edits edit e)

-- one event more
more_events : (limits : SpanLimits) (events : List PlainEvent) (event : PlainEvent) (all : List PlainEvent) → events ++ event ∷ [] ≡ all
    → record {
      events = grown_within limits.max_events_per_span (events_within limits events).events (event_within limits event);
      dropped_count = left_out_with limits.max_events_per_span (events_within limits events).events (events_within limits events).dropped_count;
    } ≡ events_within limits all
more_events limits events event all e =
    let kept = mapped_within (event_within limits) limits.max_events_per_span events event in
    let counted = mapped_left_out (event_within limits) limits.max_events_per_span events event in
    events_same kept counted ∙ ap (events_within limits) e
  where
    events_same : {a b : List PlainEvent} {m n : ℕ} → a ≡ b → m ≡ n → ◌≡◌ {A = PlainSpanEvents} (record { events = a; dropped_count = m }) (record { events = b; dropped_count = n })
    events_same p q = cc

-- one link more
more_links : (limits : SpanLimits) (links : List PlainLink) (link : PlainLink) (all : List PlainLink) → links ++ link ∷ [] ≡ all
    → record {
      links = grown_within limits.max_links_per_span (links_within limits links).links (link_within limits link);
      dropped_count = left_out_with limits.max_links_per_span (links_within limits links).links (links_within limits links).dropped_count;
    } ≡ links_within limits all
more_links limits links link all e =
    let kept = mapped_within (link_within limits) limits.max_links_per_span links link in
    let counted = mapped_left_out (link_within limits) limits.max_links_per_span links link in
    links_same kept counted ∙ ap (links_within limits) e
  where
    links_same : {a b : List PlainLink} {m n : ℕ} → a ≡ b → m ≡ n → ◌≡◌ {A = PlainSpanLinks} (record { links = a; dropped_count = m }) (record { links = b; dropped_count = n })
    links_same p q = cc

-- a span by its parts
abbrev span_with : PlainSpanContext → SpanLimits → Option PlainSpanData → PlainSpan
span_with context limits recorded = record { span_context = context; limits = limits; recorded = recorded }

-- one more edit of a span is that edit at the end of its history
pub edited-recording : (start : SpanStart) (edits : List Edit) (edit : Edit) → edited edit (recording start edits) ≡ recording start (edits ++ edit ∷ [])
unfolding made
edited-recording start edits (set_attribute attribute) =
    let limit : ℕ = start.limits.max_attributes_per_span in
    let whole : List PlainKeyValue = start.attributes ++ flat_map attribute_in edits in
    let e : Edit = set_attribute attribute in
    let grown = brings attribute_in start.attributes edits e (attribute ∷ []) refl in
    made_same start (same_name start edits e refl)
    (mapped_within (attribute_within start.limits) limit whole attribute ∙ ap (attributes_within start.limits limit) grown)
    (mapped_left_out (attribute_within start.limits) limit whole attribute ∙ ap (left_out limit) grown)
    (same_events start edits e refl) (same_links start edits e refl) (same_status edits e refl)
edited-recording start edits (add_event event) =
    let e : Edit = add_event event in
    let same = attributes_stay start edits e refl in
    made_same start (same_name start edits e refl) same.0 same.1
    (more_events start.limits (start.events ++ flat_map event_in edits) event _ (brings event_in start.events edits e (event ∷ []) refl))
    (same_links start edits e refl) (same_status edits e refl)
edited-recording start edits (add_link link) =
    let e : Edit = add_link link in
    let same = attributes_stay start edits e refl in
    made_same start (same_name start edits e refl) same.0 same.1 (same_events start edits e refl)
    (more_links start.limits (start.links ++ flat_map link_in edits) link _ (brings link_in start.links edits e (link ∷ []) refl))
    (same_status edits e refl)
edited-recording start edits (set_status status) =
    let e : Edit = set_status status in
    let same = attributes_stay start edits e refl in
    made_same start (same_name start edits e refl) same.0 same.1 (same_events start edits e refl) (same_links start edits e refl)
    (greatest-push unset status (flat_map status_in edits) ∙ ap (greatest_status unset) (brings status_in [] edits e (status ∷ []) refl))
edited-recording start edits (update_name name) =
    let e : Edit = update_name name in
    let same = attributes_stay start edits e refl in
    made_same start (last-push start.name name (flat_map name_in edits) ∙ ap (last_name start.name) (brings name_in [] edits e (name ∷ []) refl))
    same.0 same.1 (same_events start edits e refl) (same_links start edits e refl) (same_status edits e refl)

-- more edits of a span are those edits at the end of its history
pub after-recording : (start : SpanStart) (edits more : List Edit) → after more (recording start edits) ≡ recording start (edits ++ more)
after-recording start edits [] = ap (recording start) (sym (append-nil edits))
after-recording start edits (edit ∷ more) = ap (after more) (edited-recording start edits edit) ∙ after-recording start (edits ++ edit ∷ []) more ∙ ap (recording start) (append_assoc edits (edit ∷ []) more)

-- edits after edits are edits
pub after-append : (edits more : List Edit) (span : PlainSpan) → after (edits ++ more) span ≡ after more (after edits span)
after-append [] more span = refl
after-append (edit ∷ edits) more span = after-append edits more (edited edit span)

pub edited_again : (u v w : PlainSpan) → IsEdited u v → IsEdited v w → IsEdited u w
edited_again u v w (edits, h) (more, k) = (edits ++ more, k ∙ ap (after more) h ∙ sym (after-append edits more u))

-- a call that edits what a span recorded, or refuses and changes nothing
pub edited_by_result : {T E : Type 0} (answer : Result T E) (edit : Edit) (context : PlainSpanContext) (limits : SpanLimits) (before now : Option PlainSpanData) (old : PlainSpan)
    → record { span_context = context; limits = limits; recorded = before } ≡ old
    → OnOk answer (now ≡ edited_if limits edit before) → OnErr answer (now ≡ before)
    → IsEdited old (record { span_context = context; limits = limits; recorded = now })
edited_by_result (Ok _) edit context limits before now old e h k =
    (edit ∷ [], ap (λ (o : Option PlainSpanData). span_with context limits o) h ∙ ap (edited edit) e)
edited_by_result (Err _) edit context limits before now old e h k = ([], ap (λ (o : Option PlainSpanData). span_with context limits o) k ∙ e)

-- no edit reaches a span that has ended
pub over_stays : (edits : List Edit) (span now : PlainSpan) → now ≡ ended span → after edits now ≡ now
over_stays edits span now e = ap (after edits) e ∙ stays edits span.span_context span.limits ∙ sym e
  where
    stays : (edits : List Edit) (context : PlainSpanContext) (limits : SpanLimits) → after edits (not_recording context limits) ≡ not_recording context limits
    stays [] context limits = refl
    stays (edit ∷ edits) context limits = stays edits context limits

-- what a span recorded is the data of its history
pub recorded_is : (span : PlainSpan) (start : SpanStart) (edits : List Edit) (recorded : Option PlainSpanData) → recorded ≡ span.recorded → span ≡ after edits (recording start []) → recorded ≡ Some (data_of start edits start.start_time)
recorded_is span start edits recorded e h = e ∙ ap (λ (s : PlainSpan). s.recorded) (h ∙ after-recording start [] edits)

-- and its status is the greatest that was set, in any order
pub status_is : (span : PlainSpan) (start : SpanStart) (edits : List Edit) (statuses : List PlainStatus) (recorded : PlainSpanData) → Some recorded ≡ span.recorded → span ≡ after edits (recording start [])
    → IsPermutation (statuses_set edits) statuses → recorded.status ≡ greatest_status unset statuses
status_is span start edits statuses recorded e h p =
    let whole : Some recorded ≡ Some (data_of start edits start.start_time) = recorded_is span start edits (Some recorded) e h in
    let same : recorded ≡ data_of start edits start.start_time = cc in
    ap (λ (d : PlainSpanData). d.status) same ∙ greatest_in_any_order unset (statuses_set edits) statuses p

-- a span with a history has one after an edit
pub edited_history : (edit : Edit) (span : PlainSpan) (history : SpanHistory) → span ≡ span_of history → HasHistory (edited edit span)
edited_history edit span (begun start edits) is = record { history = begun start (edits ++ edit ∷ []); is = ap (edited edit) is ∙ edited-recording start edits edit }
edited_history edit span (over context limits) is = record { history = over context limits; is = ap (edited edit) is }

-- and after a call that edits what it recorded, or refuses and changes nothing
pub keeps_history : {T E : Type 0} (answer : Result T E) (edit : Edit) (context : PlainSpanContext) (limits : SpanLimits) (before now : Option PlainSpanData)
    → HasHistory (record { span_context = context; limits = limits; recorded = before })
    → OnOk answer (now ≡ edited_if limits edit before) → OnErr answer (now ≡ before)
    → HasHistory (record { span_context = context; limits = limits; recorded = now })
keeps_history (Ok _) edit context limits before now has e h =
    subst (λ (o : Option PlainSpanData). HasHistory (span_with context limits o)) (sym e) (edited_history edit (span_with context limits before) has.history has.is)
keeps_history (Err _) edit context limits before now has e h = subst (λ (o : Option PlainSpanData). HasHistory (span_with context limits o)) (sym h) has

-- one that does not record is over
pub over_history : (context : PlainSpanContext) (limits : SpanLimits) (recorded : Option PlainSpanData) → recorded ≡ None → HasHistory (record { span_context = context; limits = limits; recorded = recorded })
over_history context limits recorded e = record { history = over context limits; is = ap (span_with context limits) e }
