-- Attributes that are set one after the other are added at once, as far as there is room.
use Rattle.std.proofs.Common.{◌≡◌, ℕ, suc, ◌+◌, ◌-◌, ◌^◌, ◌<◌, ◌≤◌, true, false, min, map, List, [], ◌∷◌, ◌++◌, Option, Some, None, Result, Ok, Err, OnOk, OnErr, refl, sym, ◌∙◌, ap, subst, length, take, arith, append_assoc, append-nil, length-append, nat_lt}
use native.Mathlib.Decide.{dec_lt}
use Rattle.std.proofs.lemmas.Bool.Decides.{nat_tests}
use Rattle.std.proofs.lemmas.List.{take_all}
use Rattle.opentelemetry.specs.Plain.{PlainKeyValue, PlainSpanContext}
use Rattle.otel_sampling.specs.declared.trace.span_limit.SpanLimits.{SpanLimits}
use Rattle.otel_export.specs.PlainSpanData.{PlainSpanData}
use Rattle.otel_pipeline.specs.SpanHistory.{PlainSpan, Edit, set_attribute, attribute_within, grown_by, left_out_by, edited_each, edited_if, after, IsEdited, HasHistory, plain_span, SpanHistory, begun, over, span_of, data_of, set_each}
use Rattle.otel_pipeline.proofs.SpanLaws.{edited_history}

-- data of other attributes, and of another count of those that were dropped
abbrev with_attributes : PlainSpanData → List PlainKeyValue → ℕ → PlainSpanData
with_attributes given attributes dropped = record given { attributes = attributes; dropped_attributes_count = dropped }

same_data : (given : PlainSpanData) {xs ys : List PlainKeyValue} {m n : ℕ} → xs ≡ ys → m ≡ n → Some (with_attributes given xs m) ≡ Some (with_attributes given ys n)
same_data given p q = cc

-- the first of a list finds room
grown_once : (limits : SpanLimits) (xs : List PlainKeyValue) (a : PlainKeyValue) (more : List PlainKeyValue) → length xs < limits.max_attributes_per_span
    → grown_by limits (xs ++ attribute_within limits a ∷ []) more ≡ grown_by limits xs (a ∷ more)
grown_once limits xs a more h =
    let limit : ℕ = limits.max_attributes_per_span in
    let left : ℕ = limit - length (xs ++ attribute_within limits a ∷ []) in
    let room : limit - length xs ≡ suc left = omega (arith, length-append xs (attribute_within limits a ∷ [])) in
    let first : take (limit - length xs) (a ∷ more) ≡ a ∷ take left more = ap (λ n. take n (a ∷ more)) room in
    append_assoc xs (attribute_within limits a ∷ []) (map (attribute_within limits) (take left more))
    ∙ sym (ap (λ (kept : List PlainKeyValue). xs ++ map (attribute_within limits) kept) first)

counted_once : {X : Type 0} (limit : ℕ) (xs : List X) (x a : X) (more : List X) (n : ℕ) → length xs < limit
    → left_out_by limit (xs ++ x ∷ []) more n ≡ left_out_by limit xs (a ∷ more) n
counted_once limit xs x a more n h = rw length-append (omega arith)

-- nothing finds room
full_by : (limits : SpanLimits) (xs added : List PlainKeyValue) → limits.max_attributes_per_span ≤ length xs → grown_by limits xs added ≡ xs
full_by limits xs added h =
    let none : limits.max_attributes_per_span - length xs ≡ 0 = omega arith in
    ap (λ n. xs ++ map (attribute_within limits) (take n added)) none ∙ append-nil xs

counted_full : {X : Type 0} (limit : ℕ) (xs : List X) (a : X) (more : List X) (n : ℕ) → limit ≤ length xs
    → left_out_by limit xs more (min (n + 1) (2 ^ 32 - 1)) ≡ left_out_by limit xs (a ∷ more) n
counted_full limit xs a more n h = omega arith

-- one is set
set_below : (limits : SpanLimits) (a : PlainKeyValue) (given : PlainSpanData) → length given.attributes < limits.max_attributes_per_span
    → edited_if limits (set_attribute a) (Some given) ≡ Some (with_attributes given (given.attributes ++ attribute_within limits a ∷ []) given.dropped_attributes_count)
set_below limits a given h =
    let below : nat_lt (length given.attributes) limits.max_attributes_per_span ≡ true = grind (arith, nat_tests) in
    rw below refl

set_above : (limits : SpanLimits) (a : PlainKeyValue) (given : PlainSpanData) → limits.max_attributes_per_span ≤ length given.attributes
    → edited_if limits (set_attribute a) (Some given) ≡ Some (with_attributes given given.attributes (min (given.dropped_attributes_count + 1) (2 ^ 32 - 1)))
set_above limits a given h =
    let above : nat_lt (length given.attributes) limits.max_attributes_per_span ≡ false = grind (arith, nat_tests) in
    rw above refl

-- all are set
pub all_set : (limits : SpanLimits) (added : List PlainKeyValue) (given : PlainSpanData) → given.dropped_attributes_count < 2 ^ 32
    → edited_each limits (map set_attribute added) (Some given)
    ≡ Some (with_attributes given (grown_by limits given.attributes added) (left_out_by limits.max_attributes_per_span given.attributes added given.dropped_attributes_count))
all_set limits [] given small =
    same_data given {m = given.dropped_attributes_count} (sym (ap (λ (kept : List PlainKeyValue). given.attributes ++ map (attribute_within limits) kept) (take_all (limits.max_attributes_per_span - length given.attributes) [] (omega arith)) ∙ append-nil given.attributes)) (omega arith)
all_set limits (a ∷ more) given small = elim (dec_lt (length given.attributes) limits.max_attributes_per_span) [
  | Prim.yes h ↦ ap (edited_each limits (map set_attribute more)) (set_below limits a given h)
      ∙ all_set limits more (with_attributes given (given.attributes ++ attribute_within limits a ∷ []) given.dropped_attributes_count) small
      ∙ same_data given (grown_once limits given.attributes a more h) (counted_once limits.max_attributes_per_span given.attributes (attribute_within limits a) a more given.dropped_attributes_count h)
  | Prim.no h ↦ ap (edited_each limits (map set_attribute more)) (set_above limits a given (omega arith))
      ∙ all_set limits more (with_attributes given given.attributes (min (given.dropped_attributes_count + 1) (2 ^ 32 - 1))) (omega arith)
      ∙ same_data given (full_by limits given.attributes more (omega arith) ∙ sym (full_by limits given.attributes (a ∷ more) (omega arith))) (counted_full limits.max_attributes_per_span given.attributes a more given.dropped_attributes_count (omega arith))
]

-- nothing is recorded of edits where nothing was
none_each : (limits : SpanLimits) (edits : List Edit) → edited_each limits edits None ≡ None
none_each limits [] = refl
none_each limits (edit ∷ edits) = none_each limits edits

-- a span of such a history is edited so
set_by_history : (added : List PlainKeyValue) (context : PlainSpanContext) (limits : SpanLimits) (recorded : Option PlainSpanData) (history : SpanHistory)
    → plain_span context limits recorded ≡ span_of history → set_each limits added recorded ≡ edited_each limits (map set_attribute added) recorded
set_by_history added context limits recorded (begun start edits) is =
    let whole : Option PlainSpanData = Some (data_of start edits start.start_time) in
    subst (λ (o : Option PlainSpanData). set_each limits added o ≡ edited_each limits (map set_attribute added) o) {x = whole} (sym (ap (λ (s : PlainSpan). s.recorded) is))
    (sym (all_set limits added (data_of start edits start.start_time) (omega arith)))
set_by_history added context limits recorded (over gone its) is =
    subst (λ (o : Option PlainSpanData). set_each limits added o ≡ edited_each limits (map set_attribute added) o) {x = None} (sym (ap (λ (s : PlainSpan). s.recorded) is))
    (sym (none_each limits (map set_attribute added)))

-- edits of a span are edits of what it has recorded
after_each : (edits : List Edit) (context : PlainSpanContext) (limits : SpanLimits) (recorded : Option PlainSpanData)
    → after edits (plain_span context limits recorded) ≡ plain_span context limits (edited_each limits edits recorded)
after_each [] context limits recorded = refl
after_each (edit ∷ edits) context limits recorded = after_each edits context limits (edited_if limits edit recorded)

-- a span after such a call
set_span : (added : List PlainKeyValue) (context : PlainSpanContext) (limits : SpanLimits) (before now : Option PlainSpanData) (old : PlainSpan)
    → HasHistory (plain_span context limits before) → plain_span context limits before ≡ old → now ≡ set_each limits added before
    → plain_span context limits now ≡ after (map set_attribute added) old
set_span added context limits before now old has e h =
    ap (plain_span context limits) (h ∙ set_by_history added context limits before has.history has.is)
    ∙ sym (after_each (map set_attribute added) context limits before) ∙ ap (after (map set_attribute added)) e

-- it is what the edits make of it, where the call is Ok
pub set_on_ok : {T E : Type 0} (answer : Result T E) (added : List PlainKeyValue) (context : PlainSpanContext) (limits : SpanLimits) (before now : Option PlainSpanData) (old : PlainSpan)
    → HasHistory (plain_span context limits before) → plain_span context limits before ≡ old → OnOk answer (now ≡ set_each limits added before)
    → OnOk answer (plain_span context limits now ≡ after (map set_attribute added) old)
set_on_ok (Ok _) added context limits before now old has e h = set_span added context limits before now old has e h
set_on_ok (Err _) added context limits before now old has e h = tt

-- it is edited, or it stayed
pub edited_by_set : {T E : Type 0} (answer : Result T E) (added : List PlainKeyValue) (context : PlainSpanContext) (limits : SpanLimits) (before now : Option PlainSpanData) (old : PlainSpan)
    → HasHistory (plain_span context limits before) → plain_span context limits before ≡ old → OnOk answer (now ≡ set_each limits added before) → OnErr answer (now ≡ before)
    → IsEdited old (plain_span context limits now)
edited_by_set (Ok _) added context limits before now old has e h k = (map set_attribute added, set_span added context limits before now old has e h)
edited_by_set (Err _) added context limits before now old has e h k = ([], ap (plain_span context limits) k ∙ e)

-- a span with a history keeps one after edits
each_history : (edits : List Edit) (context : PlainSpanContext) (limits : SpanLimits) (recorded : Option PlainSpanData)
    → HasHistory (plain_span context limits recorded) → HasHistory (plain_span context limits (edited_each limits edits recorded))
each_history [] context limits recorded has = has
each_history (edit ∷ edits) context limits recorded has =
    each_history edits context limits (edited_if limits edit recorded) (edited_history edit (plain_span context limits recorded) has.history has.is)

pub keeps_history_by_set : {T E : Type 0} (answer : Result T E) (added : List PlainKeyValue) (context : PlainSpanContext) (limits : SpanLimits) (before now : Option PlainSpanData)
    → HasHistory (plain_span context limits before) → OnOk answer (now ≡ set_each limits added before) → OnErr answer (now ≡ before)
    → HasHistory (plain_span context limits now)
keeps_history_by_set (Ok _) added context limits before now has e h =
    subst (λ (o : Option PlainSpanData). HasHistory (plain_span context limits o)) (sym (e ∙ set_by_history added context limits before has.history has.is))
    (each_history (map set_attribute added) context limits before has)
keeps_history_by_set (Err _) added context limits before now has e h = subst (λ (o : Option PlainSpanData). HasHistory (plain_span context limits o)) (sym h) has
