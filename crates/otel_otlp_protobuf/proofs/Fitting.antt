-- A request fits the widths of its fields, where its spans do.
use Rattle.std.proofs.Common.{ℕ, ◌^◌, ◌<◌, arith, Bool, true, false, cond, eqb, leb, List, [], ◌∷◌, ◌++◌, map}
use Rattle.std.specs.Bool.{passes, ⊤}
use Rattle.std.specs.Float.{Float, binary64}
use Rattle.std.specs.List.{flat_map, AllByRecursion}
use Rattle.std.specs.FinMap.{entries}
use Rattle.std.specs.Prelude.{to_bits}
use lib.Ieee.Bits.{to_bits-lt}
use Rattle.opentelemetry.specs.Plain.{PlainEvent, PlainKeyValue, PlainLink, PlainScope}
use Rattle.opentelemetry.specs.Plain.{PlainValue, boolean, booleans, integers, texts, double, doubles}
use Rattle.opentelemetry.specs.Plain as plain
use Rattle.otel_resource.specs.Resource.{PlainResource}
use Rattle.otel_export.specs.PlainSpanData.{PlainSpanData}
use Rattle.otel_otlp.proofs.RunsFit.{RunFits, batch_runs_fit, scope_fits}
use Rattle.otel_otlp.specs.Fits.{AttributeFits, EventFits, FloatFits, LinkFits, PairFits, ResourceFits, SpanFits}
use Rattle.otel_otlp.specs.Fits.{ValueFits}
use Rattle.otel_otlp.specs.OtlpSpan.{flags_of}
use Rattle.otel_otlp.specs.ScopeRuns.{run_scope, scope_runs}
use Rattle.otel_otlp_protobuf.specs.NamedRequest.{request_members, resource_members, run_members}
use Rattle.otel_otlp_protobuf.specs.NamedRequest.{scope_members}
use Rattle.otel_otlp_protobuf.specs.NamedSpan.{event_members, link_members, span_members}
use Rattle.otel_otlp_protobuf.specs.NamedValues.{attribute_members, float_members, integer_members, pair_members}
use Rattle.otel_otlp_protobuf.specs.NamedValues.{text_members, truth_members, value_members}
use Rattle.otel_otlp_protobuf.specs.Said.{Said, truth, integer, chosen_text, float, text, number, moment, flags}
use Rattle.otel_otlp_protobuf.specs.Said.{trace_id, span_id, parent_id, message, messages, Members, no_members, member}
use Rattle.otel_otlp_protobuf.specs.Said.{Items, no_items, item}
use Rattle.otel_otlp_protobuf.specs.Said.{Member, Numbered, in_order, items_fields, items_of, members_fields, members_of}
use Rattle.otel_otlp_protobuf.specs.Said.{message_fields, numbered_fields, put, said_fields}
use Rattle.std.specs.Int.{to_be_bytes, w64}
use Rattle.otel_protobuf.specs.Wire.{Field, FieldsFit, Wire, WireFits, fields_of, unless_empty, unless_zero}
use Rattle.otel_protobuf.specs.Wire as wire

-- moments and flags are of 64 and 32 bits, and so are the bits of a float of 64
abbrev mutual
  pub SaidFits : Said → Type 0
  SaidFits (truth b) = ⊤
  SaidFits (integer n) = ⊤
  SaidFits (chosen_text bs) = ⊤
  SaidFits (float x) = to_bits binary64 x < 2 ^ 64
  SaidFits (text bs) = ⊤
  SaidFits (number n) = ⊤
  SaidFits (moment n) = n < 2 ^ 64
  SaidFits (flags n) = n < 2 ^ 32
  SaidFits (trace_id n) = ⊤
  SaidFits (span_id n) = ⊤
  SaidFits (parent_id n) = ⊤
  SaidFits (message ms) = MembersFit ms
  SaidFits (messages is) = ItemsFit is

  pub MembersFit : Members → Type 0
  MembersFit no_members = ⊤
  MembersFit (member name n said ms) = SaidFits said × MembersFit ms

  pub ItemsFit : Items → Type 0
  ItemsFit no_items = ⊤
  ItemsFit (item ms is) = MembersFit ms × ItemsFit is

-- the fields of each member fit
abbrev NumberedFit : List Numbered → Type 0
NumberedFit [] = ⊤
NumberedFit (m ∷ ms) = FieldsFit (fields_of m.1) × NumberedFit ms

joined_fit : (a b : List Field) → FieldsFit (fields_of a) → FieldsFit (fields_of b) → FieldsFit (fields_of (a ++ b))
joined_fit [] b h k = k
joined_fit (f ∷ fs) b h k = (h.0, joined_fit fs b h.1 k)

put_fits_at : (m n : Numbered) (ns rest : List Numbered) (before : Bool) → FieldsFit (fields_of m.1)
    → FieldsFit (fields_of n.1) → NumberedFit ns → NumberedFit rest
    → NumberedFit (cond before (m ∷ n ∷ ns) (n ∷ rest))
put_fits_at m n ns rest true h k all more = (h, (k, all))
put_fits_at m n ns rest false h k all more = (k, more)

put_fits : (m : Numbered) (ns : List Numbered) → FieldsFit (fields_of m.1) → NumberedFit ns → NumberedFit (put m ns)
put_fits m [] h all = (h, tt)
put_fits m (n ∷ ns) h all = put_fits_at m n ns (put m ns) (leb m.0 n.0) h all.0 all.1 (put_fits m ns h all.1)

order_fits : (ms : List Numbered) → NumberedFit ms → NumberedFit (in_order ms)
order_fits [] all = tt
order_fits (m ∷ ms) all = put_fits m (in_order ms) all.0 (order_fits ms all.1)

parts_fit : (ms : List Numbered) → NumberedFit ms → FieldsFit (fields_of (flat_map (λ m. m.1) ms))
parts_fit [] all = tt
parts_fit (m ∷ ms) all = joined_fit m.1 (flat_map (λ n. n.1) ms) all.0 (parts_fit ms all.1)

ordered_fit : (ms : List Numbered) → NumberedFit ms → FieldsFit (fields_of (numbered_fields ms))
ordered_fit ms all = parts_fit (in_order ms) (order_fits ms all)

-- what is left out where it has its default fits where it fits
left_out_fits : (n : ℕ) (held : Wire) (is_default : Bool) → WireFits held
    → FieldsFit (fields_of (cond is_default [] ((n, held) ∷ [])))
left_out_fits n held true h = tt
left_out_fits n held false h = (h, tt)

text_fits : (n : ℕ) (bs : List ℕ) → FieldsFit (fields_of (unless_empty n bs))
text_fits n [] = tt
text_fits n (b ∷ bs) = (tt, tt)

mutual
  said_fit : (n : ℕ) (said : Said) → SaidFits said → FieldsFit (fields_of (said_fields n said))
  said_fit n (truth b) h = (tt, tt)
  said_fit n (integer z) h = (tt, tt)
  said_fit n (chosen_text bs) h = (tt, tt)
  said_fit n (float x) h = (h, tt)
  said_fit n (text bs) h = text_fits n bs
  said_fit n (number m) h = left_out_fits n (wire.varint m) (eqb m 0) tt
  said_fit n (moment m) h = left_out_fits n (wire.fixed64 m) (eqb m 0) h
  said_fit n (flags m) h = left_out_fits n (wire.fixed32 m) (eqb m 0) h
  said_fit n (trace_id m) h = (tt, tt)
  said_fit n (span_id m) h = (tt, tt)
  said_fit n (parent_id m) h = left_out_fits n (wire.bytes (to_be_bytes w64 m)) (eqb m 0) tt
  said_fit n (message ms) h = (ordered_fit (members_fields ms) (members_fit ms h), tt)
  said_fit n (messages is) h = items_fit n is h

  members_fit : (ms : Members) → MembersFit ms → NumberedFit (members_fields ms)
  members_fit no_members h = tt
  members_fit (member name n said ms) h = (said_fit n said h.0, members_fit ms h.1)

  items_fit : (n : ℕ) (is : Items) → ItemsFit is → FieldsFit (fields_of (items_fields n is))
  items_fit n no_items h = tt
  items_fit n (item ms is) h = (ordered_fit (members_fields ms) (members_fit ms h.0), items_fit n is h.1)

message_fits : (ms : List Member) → MembersFit (members_of ms) → FieldsFit (fields_of (message_fields ms))
message_fits ms h = ordered_fit (members_fields (members_of ms)) (members_fit (members_of ms) h)

-- lists of messages
abbrev Fit : List Member → Type 0
Fit ms = MembersFit (members_of ms)

each_fits : {X : Type 0} (members : X → List Member) (P : X → Type 0) → ((x : X) → P x → Fit (members x))
    → (xs : List X) → AllByRecursion P xs → ItemsFit (items_of (map members xs))
each_fits members P fit [] all = tt
each_fits members P fit (x ∷ xs) all = (fit x all.0, each_fits members P fit xs all.1)

each_always : {X : Type 0} (members : X → List Member) → ((x : X) → Fit (members x)) → (xs : List X)
    → ItemsFit (items_of (map members xs))
each_always members fit [] = tt
each_always members fit (x ∷ xs) = (fit x, each_always members fit xs)

bits_fit : (x : Float) → FloatFits x → to_bits binary64 x < 2 ^ 64
bits_fit x h = omega (arith, to_bits-lt binary64 x (passes _ h))

value_fits : (value : PlainValue) → ValueFits value → Fit (value_members value)
value_fits (boolean b) h = (tt, tt)
value_fits (plain.integer n) h = (tt, tt)
value_fits (plain.text bytes) h = (tt, tt)
value_fits (booleans truths) h = ((each_always truth_members (λ b. (tt, tt)) truths, tt), tt)
value_fits (integers numbers) h = ((each_always integer_members (λ n. (tt, tt)) numbers, tt), tt)
value_fits (texts many) h = ((each_always text_members (λ bytes. (tt, tt)) many, tt), tt)
value_fits (double x) h = (bits_fit x h, tt)
value_fits (doubles xs) h = ((each_fits float_members FloatFits (λ x fits. (bits_fit x fits, tt)) xs h, tt), tt)

pair_fits : (pair : List ℕ × PlainValue) → PairFits pair → Fit (pair_members pair)
pair_fits pair h = (tt, (value_fits pair.1 h, tt))

attributes_fit : (attributes : List PlainKeyValue) → AllByRecursion AttributeFits attributes
    → ItemsFit (items_of (map attribute_members attributes))
attributes_fit = each_fits attribute_members AttributeFits (λ a. pair_fits (a.key, a.value))

flags_fit : (trace_flags : ℕ) (is_remote : Bool) → trace_flags < 2 ^ 8 → flags_of trace_flags is_remote < 2 ^ 32
flags_fit trace_flags true h = omega arith
flags_fit trace_flags false h = omega arith

event_fits : (event : PlainEvent) → EventFits event → Fit (event_members event)
event_fits event h = (h.timestamp, (tt, (attributes_fit event.attributes h.attributes, (tt, tt))))

link_fits : (link : PlainLink) → LinkFits link → Fit (link_members link)
link_fits link h =
    let fit = flags_fit link.span_context.trace_flags link.span_context.is_remote h.span_context.trace_flags in
    (tt, (tt, (tt, (attributes_fit link.attributes h.attributes, (tt, (fit, tt))))))

span_fits : (span : PlainSpanData) → SpanFits span → Fit (span_members span)
span_fits span h =
    let fit = flags_fit span.span_context.trace_flags span.parent_span_is_remote h.span_context.trace_flags in
    let events = each_fits event_members EventFits event_fits span.events.events h.events in
    let links = each_fits link_members LinkFits link_fits span.links.links h.links in (
      tt,
      (
        tt,
        (
          tt,
          (
            tt,
            (
              fit,
              (
                tt,
                (
                  tt,
                  (
                    h.start_time,
                    (
                      h.end_time,
                      (
                        attributes_fit span.attributes h.attributes,
                        (
                          tt,
                          (
                            events,
                            (tt, (links, (tt, ((tt, (tt, tt)), tt)))),
                          ),
                        ),
                      ),
                    ),
                  ),
                ),
              ),
            ),
          ),
        ),
      ),
    )

scope_fit : (scope : PlainScope) → AllByRecursion AttributeFits scope.attributes → Fit (scope_members scope)
scope_fit scope h = (tt, (tt, (attributes_fit scope.attributes h, (tt, tt))))

run_fits : (run : List PlainSpanData) → RunFits run → Fit (run_members run)
run_fits run h = (
  scope_fit (run_scope run) (scope_fits run h),
  (each_fits span_members SpanFits span_fits run h.fits, (tt, tt)),
)

resource_fits : (resource : PlainResource) → ResourceFits resource → Fit (resource_members resource)
resource_fits resource h = (each_fits pair_members PairFits pair_fits (entries resource.attributes) h, (tt, tt))

pub request_fits : (resource : PlainResource) (batch : List PlainSpanData) → ResourceFits resource
    → AllByRecursion SpanFits batch → FieldsFit (fields_of (message_fields (request_members resource batch)))
request_fits resource batch fits h =
    let runs = each_fits run_members RunFits run_fits (scope_runs batch) (batch_runs_fit batch h) in
    message_fits (request_members resource batch) (((resource_fits resource fits, (runs, (tt, tt))), tt), tt)
