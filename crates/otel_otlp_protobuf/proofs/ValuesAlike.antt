-- Values and attributes of which the fields are read alike say the same.
use Rattle.std.proofs.Common.{◌≡◌, ℕ, ℤ, Bool, List, [], ◌∷◌, codes, map, refl, ap, subst, arith}
use Rattle.std.specs.Float.{Float, binary64}
use Rattle.std.specs.Int.{cast_unsigned, w64}
use Rattle.std.specs.List.{AllByRecursion}
use Rattle.std.specs.Prelude.{FitsSigned, to_bits, ⊤}
use Rattle.json.specs.Json as json
use Rattle.opentelemetry.specs.Plain.{PlainKeyValue, PlainValue, boolean, booleans, integers, texts, double, doubles}
use Rattle.opentelemetry.specs.Plain as plain
use Rattle.otel_otlp.proofs.ValuesAlike.{anything}
use Rattle.otel_otlp.specs.Fits.{AttributeFits, FloatFits, PairFits, ValueFits}
use Rattle.otel_otlp_protobuf.proofs.MembersAlike.{Alike, Row, Tells, chosen_tells, float_tells, in_order_alike}
use Rattle.otel_otlp_protobuf.proofs.MembersAlike.{integer_tells, many_tell, message_tells, row, text_tells, truth_tells}
use Rattle.otel_otlp_protobuf.proofs.ReadAlike.{Both, one_alike}
use Rattle.otel_otlp_protobuf.specs.NamedValues.{array_items, array_members, attribute_members, float_members}
use Rattle.otel_otlp_protobuf.specs.NamedValues.{integer_members}
use Rattle.otel_otlp_protobuf.specs.NamedValues.{list_members, many, pair_members, text_members, truth_members, value_members}
use Rattle.otel_otlp_protobuf.specs.Said.{Member, items_of, members_of, message, message_fields, messages, object_json}
use Rattle.otel_otlp_protobuf.specs.Said.{text, truth_number}
use Rattle.otel_protobuf.specs.Wire.{Field, Wire, fields_of, one}
use Rattle.otel_protobuf.specs.Wire as wire

-- a value has one member: its number, and what its field holds
abbrev value_number : PlainValue → ℕ
value_number (boolean b) = 2
value_number (plain.integer z) = 3
value_number (plain.text bs) = 1
value_number (booleans bs) = 5
value_number (integers zs) = 5
value_number (texts ts) = 5
value_number (double x) = 4
value_number (doubles xs) = 5

abbrev list_wire : PlainValue → Wire
list_wire value = wire.message (fields_of (message_fields (array_members value)))

abbrev value_wire : PlainValue → Wire
value_wire (boolean b) = wire.varint (truth_number b)
value_wire (plain.integer z) = wire.varint (cast_unsigned w64 z)
value_wire (plain.text bs) = wire.bytes bs
value_wire (booleans bs) = list_wire (booleans bs)
value_wire (integers zs) = list_wire (integers zs)
value_wire (texts ts) = list_wire (texts ts)
value_wire (double x) = wire.fixed64 (to_bits binary64 x)
value_wire (doubles xs) = list_wire (doubles xs)

value_field : (v : PlainValue) → message_fields (value_members v) ≡ one (value_number v) (value_wire v)
value_field (boolean b) = refl
value_field (plain.integer z) = refl
value_field (plain.text bs) = refl
value_field (booleans bs) = refl
value_field (integers zs) = refl
value_field (texts ts) = refl
value_field (double x) = refl
value_field (doubles xs) = refl

-- so values of the same bytes are of one kind
same_number : (v w : PlainValue) → Both (message_fields (value_members v)) (message_fields (value_members w))
    → value_number v ≡ value_number w
same_number v w h =
    let right = subst (λ (fs : List Field). Both (message_fields (value_members v)) fs) (value_field w) h in
    let both = subst (λ (fs : List Field). Both fs (one (value_number w) (value_wire w))) (value_field v) right in
    (one_alike (value_number v) (value_number w) (value_wire v) (value_wire w) both).0

truths_alike : (a b : Bool) → ⊤ → ⊤ → Alike (truth_members a) (truth_members b)
truths_alike a b p q h = ap (λ t. object_json (truth_members t)) (truth_tells 2 a b h)

integers_alike : (a b : ℤ) → FitsSigned w64 a → FitsSigned w64 b → Alike (integer_members a) (integer_members b)
integers_alike a b p q h = ap (λ z. object_json (integer_members z)) (integer_tells 3 a b p q h)

texts_alike : (a b : List ℕ) → ⊤ → ⊤ → Alike (text_members a) (text_members b)
texts_alike a b p q h = ap (λ bs. object_json (text_members bs)) (chosen_tells 1 a b h)

floats_alike : (a b : Float) → FloatFits a → FloatFits b → Alike (float_members a) (float_members b)
floats_alike a b p q h = ap (λ x. object_json (float_members x)) (float_tells 4 a b p q h)

-- lists
lists_alike : (v w : PlainValue)
    → Tells (row (codes "values") 1 (messages (items_of (array_items v))) (messages (items_of (array_items w))))
    → Alike (list_members v) (list_members w)
lists_alike v w tells =
    let values = row (codes "values") 1 (messages (items_of (array_items v))) (messages (items_of (array_items w))) in
    let arrays : Alike (array_members v) (array_members w) = in_order_alike (values ∷ []) refl (tells, tt) in
    λ h. ap (λ j. json.object (json.member (codes "arrayValue") j json.no_members))
    (message_tells (codes "arrayValue") 5 (array_members v) (array_members w) arrays h)

-- the values of a list, which are of one kind or of two
values_tell : {X : Type 0} (members : X → List Member) (P : X → Type 0)
    → ((x y : X) → P x → P y → Alike (members x) (members y)) → (xs ys : List X) → AllByRecursion P xs
    → AllByRecursion P ys
    → Tells (row (codes "values") 1 (messages (items_of (map members xs))) (messages (items_of (map members ys))))
values_tell members P alike xs ys p q = many_tell (codes "values") 1 members members P P alike xs ys p q

two_kinds_tell : {X Y : Type 0} (one : X → PlainValue) (two : Y → PlainValue)
    → ((x : X) (y : Y) → value_number (one x) ≡ value_number (two y) → ⊥) → (xs : List X) (ys : List Y)
    → Tells (row (codes "values") 1 (messages (items_of (map (λ x. value_members (one x)) xs)))
    (messages (items_of (map (λ y. value_members (two y)) ys))))
two_kinds_tell one two apart xs ys =
    many_tell (codes "values") 1 (λ x. value_members (one x)) (λ y. value_members (two y)) (λ x. ⊤) (λ y. ⊤)
    (λ x y _ _ both. absurd (apart x y (same_number (one x) (two y) both))) xs ys (anything xs) (anything ys)

value_alike : (v w : PlainValue) → ValueFits v → ValueFits w → Alike (value_members v) (value_members w)
value_alike (boolean a) (boolean b) p q h = truths_alike a b tt tt h
value_alike (plain.integer a) (plain.integer b) p q h = integers_alike a b p q h
value_alike (plain.text a) (plain.text b) p q h = texts_alike a b tt tt h
value_alike (booleans a) (booleans b) p q h =
    lists_alike (booleans a) (booleans b)
    (values_tell truth_members (λ x. ⊤) truths_alike a b (anything a) (anything b)) h
value_alike (integers a) (integers b) p q h =
    lists_alike (integers a) (integers b) (values_tell integer_members (FitsSigned w64) integers_alike a b p q) h
value_alike (texts a) (texts b) p q h =
    lists_alike (texts a) (texts b)
    (values_tell text_members (λ x. ⊤) texts_alike a b (anything a) (anything b)) h
value_alike (double a) (double b) p q h = floats_alike a b p q h
value_alike (doubles a) (doubles b) p q h =
    lists_alike (doubles a) (doubles b) (values_tell float_members FloatFits floats_alike a b p q) h
value_alike (booleans a) (integers b) p q h =
    lists_alike (booleans a) (integers b) (two_kinds_tell (λ x. boolean x) (λ y. plain.integer y) (λ x y e. omega arith) a b) h
value_alike (booleans a) (texts b) p q h =
    lists_alike (booleans a) (texts b) (two_kinds_tell (λ x. boolean x) (λ y. plain.text y) (λ x y e. omega arith) a b) h
value_alike (integers a) (booleans b) p q h =
    lists_alike (integers a) (booleans b) (two_kinds_tell (λ x. plain.integer x) (λ y. boolean y) (λ x y e. omega arith) a b) h
value_alike (integers a) (texts b) p q h =
    lists_alike (integers a) (texts b) (two_kinds_tell (λ x. plain.integer x) (λ y. plain.text y) (λ x y e. omega arith) a b) h
value_alike (texts a) (booleans b) p q h =
    lists_alike (texts a) (booleans b) (two_kinds_tell (λ x. plain.text x) (λ y. boolean y) (λ x y e. omega arith) a b) h
value_alike (texts a) (integers b) p q h =
    lists_alike (texts a) (integers b) (two_kinds_tell (λ x. plain.text x) (λ y. plain.integer y) (λ x y e. omega arith) a b) h
value_alike (booleans a) (doubles b) p q h =
    lists_alike (booleans a) (doubles b) (two_kinds_tell (λ x. boolean x) (λ y. double y) (λ x y e. omega arith) a b) h
value_alike (doubles a) (booleans b) p q h =
    lists_alike (doubles a) (booleans b) (two_kinds_tell (λ x. double x) (λ y. boolean y) (λ x y e. omega arith) a b) h
value_alike (integers a) (doubles b) p q h =
    lists_alike (integers a) (doubles b) (two_kinds_tell (λ x. plain.integer x) (λ y. double y) (λ x y e. omega arith) a b) h
value_alike (doubles a) (integers b) p q h =
    lists_alike (doubles a) (integers b) (two_kinds_tell (λ x. double x) (λ y. plain.integer y) (λ x y e. omega arith) a b) h
value_alike (texts a) (doubles b) p q h =
    lists_alike (texts a) (doubles b) (two_kinds_tell (λ x. plain.text x) (λ y. double y) (λ x y e. omega arith) a b) h
value_alike (doubles a) (texts b) p q h =
    lists_alike (doubles a) (texts b) (two_kinds_tell (λ x. double x) (λ y. plain.text y) (λ x y e. omega arith) a b) h
value_alike v w p q h = absurd (omega (arith, same_number v w h))

-- keys and values
pub pair_alike : (a b : List ℕ × PlainValue) → PairFits a → PairFits b → Alike (pair_members a) (pair_members b)
pair_alike a b p q =
    let key = row (codes "key") 1 (text a.0) (text b.0) in
    let value =
    row (codes "value") 2 (message (members_of (value_members a.1))) (message (members_of (value_members b.1))) in
    in_order_alike (key ∷ value ∷ []) refl (
      text_tells key.name 1 a.0 b.0,
      (message_tells value.name 2 (value_members a.1) (value_members b.1) (value_alike a.1 b.1 p q), tt),
    )

attribute_alike : (a b : PlainKeyValue) → AttributeFits a → AttributeFits b
    → Alike (attribute_members a) (attribute_members b)
attribute_alike a b p q = pair_alike (a.key, a.value) (b.key, b.value) p q

-- attributes, under the number that they have in their message
abbrev pub attributes_row : ℕ → List PlainKeyValue → List PlainKeyValue → Row
attributes_row n xs ys = row (codes "attributes") n (many attribute_members xs) (many attribute_members ys)

pub attributes_tell : (n : ℕ) (xs ys : List PlainKeyValue) → AllByRecursion AttributeFits xs
    → AllByRecursion AttributeFits ys → Tells (attributes_row n xs ys)
attributes_tell n xs ys p q =
    many_tell (codes "attributes") n attribute_members attribute_members AttributeFits AttributeFits attribute_alike xs ys
    p q
