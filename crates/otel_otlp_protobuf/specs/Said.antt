-- What a message of the OpenTelemetry protocol says, apart from how it is written: members, each with its name in JSON and
-- its number on protobuf's wire. JSON and bytes are both printed from it.
use Rattle.std.specs.Prelude.{ℕ, ℤ, ◌==◌, Bool, List, [], ◌∷◌, nat_le, if◌then◌else◌, to_bits}
use Rattle.std.specs.Float.{Float, binary64}
use Rattle.std.specs.Fmt.{decimal, signed_decimal}
use Rattle.std.specs.Int.{cast_unsigned, to_be_bytes, w64, w128}
use Rattle.std.specs.List.{flat_map}
use Rattle.json.specs.Json.{Json}
use Rattle.json.specs.Json as json
use Rattle.opentelemetry.specs.Hex.{hex_text}
use Rattle.otel_otlp.specs.OtlpSpan.{parent_text}
use Rattle.otel_otlp.specs.OtlpValues.{float_json}
use Rattle.otel_protobuf.specs.Wire.{Field, fields_of, one, unless_empty, unless_zero}
use Rattle.otel_protobuf.specs.Wire as wire

mutual
  -- What a member says. Each is left out on the wire where it has its default, but for what is one of several choices
  -- and for messages
  pub data Said : Type 0 where
    -- one of several choices: a truth, an integer of 64 bits, a text, a float
    truth : Bool → Said
    integer : ℤ → Said
    chosen_text : List ℕ → Said
    float : Float → Said
    -- a text, a number, a moment, and flags
    text : List ℕ → Said
    number : ℕ → Said
    moment : ℕ → Said
    flags : ℕ → Said
    -- the id of a trace and of a span, and that of a parent, which is 0 where there is none
    trace_id : ℕ → Said
    span_id : ℕ → Said
    parent_id : ℕ → Said
    -- a message, and messages of one number
    message : Members → Said
    messages : Items → Said

  pub data Members : Type 0 where
    no_members : Members
    member : List ℕ → ℕ → Said → Members → Members

  pub data Items : Type 0 where
    no_items : Items
    item : Members → Items → Items

-- a member: its name, its number, and what it says
abbrev pub Member : Type 0
Member = List ℕ × ℕ × Said

abbrev pub members_of : List Member → Members
members_of [] = no_members
members_of (m ∷ ms) = member m.0 m.1 m.2 (members_of ms)

abbrev pub items_of : List (List Member) → Items
items_of [] = no_items
items_of (m ∷ ms) = item (members_of m) (items_of ms)

-- in JSON, members stand in their order, also those with their default
abbrev mutual
  pub said_json : Said → Json
  said_json (truth b) = json.boolean b
  said_json (integer n) = json.string (signed_decimal n)
  said_json (chosen_text bs) = json.string bs
  said_json (float x) = float_json x
  said_json (text bs) = json.string bs
  said_json (number n) = json.number (decimal n)
  said_json (moment n) = json.string (decimal n)
  said_json (flags n) = json.number (decimal n)
  said_json (trace_id n) = json.string (hex_text 32 n)
  said_json (span_id n) = json.string (hex_text 16 n)
  said_json (parent_id n) = json.string (parent_text n)
  said_json (message ms) = json.object (members_json ms)
  said_json (messages is) = json.array (items_json is)

  pub members_json : Members → json.Members
  members_json no_members = json.no_members
  members_json (member name n said ms) = json.member name (said_json said) (members_json ms)

  pub items_json : Items → json.Items
  items_json no_items = json.no_items
  items_json (item ms is) = json.item (json.object (members_json ms)) (items_json is)

abbrev pub truth_number : Bool → ℕ
truth_number b = if b then 1 else 0

-- fields under the number of their member
abbrev pub Numbered : Type 0
Numbered = ℕ × List Field

-- a member before the first one of a greater number
abbrev pub put : Numbered → List Numbered → List Numbered
put m [] = m ∷ []
put m (n ∷ ns) = if nat_le m.0 n.0 then m ∷ n ∷ ns else n ∷ put m ns

-- members by their numbers
abbrev pub in_order : List Numbered → List Numbered
in_order [] = []
in_order (m ∷ ms) = put m (in_order ms)

abbrev pub numbered_fields : List Numbered → List Field
numbered_fields ms = flat_map (λ m. m.1) (in_order ms)

-- on the wire, members stand by their numbers, and defaults are left out; a float stands as its bits
abbrev mutual
  pub said_fields : ℕ → Said → List Field
  said_fields n (truth b) = one n (wire.varint (truth_number b))
  said_fields n (integer z) = one n (wire.varint (cast_unsigned w64 z))
  said_fields n (chosen_text bs) = one n (wire.bytes bs)
  said_fields n (float x) = one n (wire.fixed64 (to_bits binary64 x))
  said_fields n (text bs) = unless_empty n bs
  said_fields n (number m) = unless_zero n wire.varint m
  said_fields n (moment m) = unless_zero n wire.fixed64 m
  said_fields n (flags m) = unless_zero n wire.fixed32 m
  said_fields n (trace_id m) = one n (wire.bytes (to_be_bytes w128 m))
  said_fields n (span_id m) = one n (wire.bytes (to_be_bytes w64 m))
  said_fields n (parent_id m) = if m == 0 then [] else one n (wire.bytes (to_be_bytes w64 m))
  said_fields n (message ms) = one n (wire.message (fields_of (numbered_fields (members_fields ms))))
  said_fields n (messages is) = items_fields n is

  pub members_fields : Members → List Numbered
  members_fields no_members = []
  members_fields (member name n said ms) = (n, said_fields n said) ∷ members_fields ms

  pub items_fields : ℕ → Items → List Field
  items_fields n no_items = []
  items_fields n (item ms is) =
      (n, wire.message (fields_of (numbered_fields (members_fields ms)))) ∷ items_fields n is

-- a message in JSON
abbrev pub object_json : List Member → Json
object_json ms = json.object (members_json (members_of ms))

-- a message on the wire
abbrev pub message_fields : List Member → List Field
message_fields ms = numbered_fields (members_fields (members_of ms))
