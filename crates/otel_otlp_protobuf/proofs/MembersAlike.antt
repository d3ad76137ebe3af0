-- Members of the same numbers, of which the fields are read alike, say the same.
use Rattle.std.proofs.Common.{◌≡◌, ◌<◌, ◌≤◌, ◌^◌, ℕ, ℤ, Bool, true, false, cond, eqb, ltb, List, [], ◌∷◌, ◌++◌, map}
use Rattle.std.proofs.Common.{⊎_elim, refl, sym, ap, ◌∙◌, arith}
use Rattle.std.specs.Prelude.{◌&&◌, FitsSigned, to_bits}
use Rattle.std.proofs.lemmas.Bool.{eqb-true}
use Rattle.std.proofs.lemmas.Int.{to_z-of_z}
use Rattle.std.specs.Bool.{passes}
use Rattle.std.specs.Float.{Float, binary64}
use Rattle.std.specs.Fmt.{decimal}
use Rattle.std.specs.Int.{cast_signed, cast_unsigned, to_be_bytes, w64, w128}
use Rattle.std.specs.List.{AllByRecursion}
use borrow.Author.Tests.{ltb-true}
use lib.Ieee.{of_bits}
use lib.Ieee.Bits.{of_bits-to_bits}
use Rattle.json.specs.Json as json
use Rattle.opentelemetry.specs.Hex.{hex_text}
use Rattle.otel_otlp.proofs.Fitting.{all_joined}
use Rattle.otel_otlp.specs.Fits.{FloatFits}
use Rattle.otel_otlp.specs.OtlpSpan.{parent_text}
use Rattle.otel_otlp_protobuf.proofs.IdBytes.{same_16_bytes, same_8_bytes}
use Rattle.otel_otlp_protobuf.proofs.ReadAlike.{AreAbove, AreOf, Both, SameRaw, bytes_alike, maybe_alike, one_alike}
use Rattle.otel_otlp_protobuf.proofs.ReadAlike.{same_messages, split, texts_alike}
use Rattle.otel_otlp_protobuf.specs.Said.{Said, truth, integer, chosen_text, float, text, number, moment, flags, trace_id}
use Rattle.otel_otlp_protobuf.specs.Said.{span_id, parent_id, message, messages, Items, no_items, item, Member}
use Rattle.otel_otlp_protobuf.specs.Said.{items_fields, items_json, items_of, members_json, members_of, message_fields}
use Rattle.otel_otlp_protobuf.specs.Said.{object_json, said_fields, said_json, truth_number}
use Rattle.otel_protobuf.specs.Reading.{AreReadAs, Raw}
use Rattle.otel_protobuf.specs.Wire.{Field, Wire, fields_of, one, unless_empty, unless_zero}
use Rattle.otel_protobuf.specs.Wire as wire

-- a member, as two messages have it
pub record Row : Type 0 where
  pub name : List ℕ
  pub number : ℕ
  pub left : Said
  pub right : Said

abbrev pub row : List ℕ → ℕ → Said → Said → Row
row name n left right = record { name = name; number = n; left = left; right = right }

-- its fields in each of the two
abbrev pub left_fields : List Row → List Field
left_fields [] = []
left_fields (r ∷ rs) = said_fields r.number r.left ++ left_fields rs

abbrev pub right_fields : List Row → List Field
right_fields [] = []
right_fields (r ∷ rs) = said_fields r.number r.right ++ right_fields rs

-- and the members
abbrev pub left_members : List Row → List Member
left_members [] = []
left_members (r ∷ rs) = (r.name, r.number, r.left) ∷ left_members rs

abbrev pub right_members : List Row → List Member
right_members [] = []
right_members (r ∷ rs) = (r.name, r.number, r.right) ∷ right_members rs

-- the numbers rise, from above this one
abbrev pub are_rising : ℕ → List Row → Bool
are_rising n [] = true
are_rising n (r ∷ rs) = ltb n r.number && are_rising r.number rs

both_true : (a b : Bool) → (a && b) ≡ true → (a ≡ true) × (b ≡ true)
both_true true b e = (refl, e)
both_true false b e = absurd cc

-- the fields of a member have its number
maybe_of : (n : ℕ) (w : Wire) (none : Bool) → AreOf n (cond none [] (one n w))
maybe_of n w true = tt
maybe_of n w false = (refl, tt)

text_of : (n : ℕ) (bs : List ℕ) → AreOf n (unless_empty n bs)
text_of n [] = tt
text_of n (b ∷ bs) = (refl, tt)

items_have : (n : ℕ) (is : Items) → AreOf n (items_fields n is)
items_have n no_items = tt
items_have n (item ms is) = (refl, items_have n is)

said_of : (n : ℕ) (said : Said) → AreOf n (said_fields n said)
said_of n (truth b) = (refl, tt)
said_of n (integer z) = (refl, tt)
said_of n (chosen_text bs) = (refl, tt)
said_of n (float x) = (refl, tt)
said_of n (text bs) = text_of n bs
said_of n (number m) = maybe_of n (wire.varint m) (eqb m 0)
said_of n (moment m) = maybe_of n (wire.fixed64 m) (eqb m 0)
said_of n (flags m) = maybe_of n (wire.fixed32 m) (eqb m 0)
said_of n (trace_id m) = (refl, tt)
said_of n (span_id m) = (refl, tt)
said_of n (parent_id m) = maybe_of n (wire.bytes (to_be_bytes w64 m)) (eqb m 0)
said_of n (message ms) = (refl, tt)
said_of n (messages is) = items_have n is

-- so those of the others are above it
raised : (n m : ℕ) (fs : List Field) → n < m → AreOf m fs → AreAbove n fs
raised n m [] l h = tt
raised n m (f ∷ fs) l h = (omega (arith, h.0), raised n m fs l h.1)

left_above : (k n : ℕ) (rows : List Row) → k ≤ n → are_rising n rows ≡ true → AreAbove k (left_fields rows)
left_above k n [] l e = tt
left_above k n (r ∷ rs) l e =
    let parts = both_true (ltb n r.number) (are_rising r.number rs) e in
    let less : n < r.number = ltb-true n r.number parts.0 in
    all_joined (λ f. k < f.0) (said_fields r.number r.left) (left_fields rs)
    (raised k r.number (said_fields r.number r.left) (omega arith) (said_of r.number r.left))
    (left_above k r.number rs (omega arith) parts.1)

right_above : (k n : ℕ) (rows : List Row) → k ≤ n → are_rising n rows ≡ true → AreAbove k (right_fields rows)
right_above k n [] l e = tt
right_above k n (r ∷ rs) l e =
    let parts = both_true (ltb n r.number) (are_rising r.number rs) e in
    let less : n < r.number = ltb-true n r.number parts.0 in
    all_joined (λ f. k < f.0) (said_fields r.number r.right) (right_fields rs)
    (raised k r.number (said_fields r.number r.right) (omega arith) (said_of r.number r.right))
    (right_above k r.number rs (omega arith) parts.1)

-- a member of which the fields are read alike says the same
abbrev pub SaysSame : Row → Type 0
SaysSame r = said_json r.left ≡ said_json r.right

abbrev pub Tells : Row → Type 0
Tells r = Both (said_fields r.number r.left) (said_fields r.number r.right) → SaysSame r

pub rows_alike : (n : ℕ) (rows : List Row) → are_rising n rows ≡ true → AllByRecursion Tells rows
    → Both (left_fields rows) (right_fields rows) → AllByRecursion SaysSame rows
rows_alike n [] e tells h = tt
rows_alike n (r ∷ rs) e tells h =
    let parts = both_true (ltb n r.number) (are_rising r.number rs) e in
    let cut =
    split r.number (said_fields r.number r.left) (said_fields r.number r.right) (left_fields rs) (right_fields rs)
    (said_of r.number r.left) (said_of r.number r.right) (left_above r.number r.number rs (omega arith) parts.1)
    (right_above r.number r.number rs (omega arith) parts.1) h in
    (tells.0 cut.0, rows_alike r.number rs parts.1 tells.1 cut.1)

pub rows_json : (rows : List Row) → AllByRecursion SaysSame rows
    → members_json (members_of (left_members rows)) ≡ members_json (members_of (right_members rows))
rows_json [] h = refl
rows_json (r ∷ rs) h =
    let others = rows_json rs h.1 in
    λ i. json.member r.name (h.0 i) (others i)

-- messages of which the fields are read alike say the same
abbrev pub Alike : List Member → List Member → Type 0
Alike ms ns = Both (message_fields ms) (message_fields ns) → object_json ms ≡ object_json ns

-- members that stand in the order of their numbers
pub in_order_alike : (rows : List Row) → are_rising 0 rows ≡ true → AllByRecursion Tells rows
    → Both (left_fields rows) (right_fields rows) → object_json (left_members rows) ≡ object_json (right_members rows)
in_order_alike rows e tells h = ap json.object (rows_json rows (rows_alike 0 rows e tells h))

-- one of several choices
truth_by_number : (a b : Bool) → truth_number a ≡ truth_number b → a ≡ b
truth_by_number true true e = refl
truth_by_number true false e = absurd (omega arith)
truth_by_number false true e = absurd (omega arith)
truth_by_number false false e = refl

varints_alike : (m n : ℕ) → SameRaw (wire.varint m) (wire.varint n) → m ≡ n
varints_alike m n h = cc (h.left, h.right)

eights_alike : (m n : ℕ) → SameRaw (wire.fixed64 m) (wire.fixed64 n) → m ≡ n
eights_alike m n h = cc (h.left, h.right)

pub truth_tells : (n : ℕ) (a b : Bool) → Both (said_fields n (truth a)) (said_fields n (truth b)) → a ≡ b
truth_tells n a b h =
    let same = one_alike n n (wire.varint (truth_number a)) (wire.varint (truth_number b)) h in
    truth_by_number a b (varints_alike (truth_number a) (truth_number b) same.1)

pub integer_tells : (n : ℕ) (a b : ℤ) → FitsSigned w64 a → FitsSigned w64 b
    → Both (said_fields n (integer a)) (said_fields n (integer b)) → a ≡ b
integer_tells n a b f g h =
    let same = one_alike n n (wire.varint (cast_unsigned w64 a)) (wire.varint (cast_unsigned w64 b)) h in
    sym (to_z-of_z w64 a f)
    ∙ ap (cast_signed w64) (varints_alike (cast_unsigned w64 a) (cast_unsigned w64 b) same.1)
    ∙ to_z-of_z w64 b g

pub chosen_tells : (n : ℕ) (a b : List ℕ) → Both (said_fields n (chosen_text a)) (said_fields n (chosen_text b)) → a ≡ b
chosen_tells n a b h = bytes_alike a b (one_alike n n (wire.bytes a) (wire.bytes b) h).1

-- the bits are of one float
pub float_tells : (n : ℕ) (a b : Float) → FloatFits a → FloatFits b
    → Both (said_fields n (float a)) (said_fields n (float b)) → a ≡ b
float_tells n a b f g h =
    let same = (one_alike n n (wire.fixed64 (to_bits binary64 a)) (wire.fixed64 (to_bits binary64 b)) h).1 in
    sym (of_bits-to_bits binary64 a (passes _ f))
    ∙ ap (of_bits binary64) (eights_alike (to_bits binary64 a) (to_bits binary64 b) same)
    ∙ of_bits-to_bits binary64 b (passes _ g)

-- a text, and numbers that may be left out
pub text_tells : (name : List ℕ) (n : ℕ) (a b : List ℕ) → Tells (row name n (text a) (text b))
text_tells name n a b h = ap json.string (texts_alike n a b h)

left_out_tells : (n : ℕ) (hold : ℕ → Wire) (a b : ℕ) → (SameRaw (hold a) (hold b) → a ≡ b)
    → Both (unless_zero n hold a) (unless_zero n hold b) → a ≡ b
left_out_tells n hold a b same h =
    ⊎_elim (λ none. eqb-true a 0 none.0 ∙ sym (eqb-true b 0 none.1)) same
    (maybe_alike n (hold a) (hold b) (eqb a 0) (eqb b 0) h)

pub number_tells : (name : List ℕ) (n a b : ℕ) → Tells (row name n (number a) (number b))
number_tells name n a b h =
    ap (λ m. json.number (decimal m)) (left_out_tells n wire.varint a b (varints_alike a b) h)

pub moment_tells : (name : List ℕ) (n a b : ℕ) → Tells (row name n (moment a) (moment b))
moment_tells name n a b h =
    ap (λ m. json.string (decimal m)) (left_out_tells n wire.fixed64 a b (eights_alike a b) h)

pub flags_tell : (name : List ℕ) (n a b : ℕ) → Tells (row name n (flags a) (flags b))
flags_tell name n a b h =
    ap (λ m. json.number (decimal m)) (left_out_tells n wire.fixed32 a b (λ same. cc (same.left, same.right)) h)

-- ids
pub trace_id_tells : (name : List ℕ) (n a b : ℕ) → a < 2 ^ 128 → b < 2 ^ 128
    → Tells (row name n (trace_id a) (trace_id b))
trace_id_tells name n a b p q h =
    let same = one_alike n n (wire.bytes (to_be_bytes w128 a)) (wire.bytes (to_be_bytes w128 b)) h in
    ap (λ m. json.string (hex_text 32 m))
    (same_16_bytes a b p q (bytes_alike (to_be_bytes w128 a) (to_be_bytes w128 b) same.1))

span_ids_alike : (a b : ℕ) → a < 2 ^ 64 → b < 2 ^ 64
    → SameRaw (wire.bytes (to_be_bytes w64 a)) (wire.bytes (to_be_bytes w64 b)) → a ≡ b
span_ids_alike a b p q same = same_8_bytes a b p q (bytes_alike (to_be_bytes w64 a) (to_be_bytes w64 b) same)

pub span_id_tells : (name : List ℕ) (n a b : ℕ) → a < 2 ^ 64 → b < 2 ^ 64 → Tells (row name n (span_id a) (span_id b))
span_id_tells name n a b p q h =
    let same = one_alike n n (wire.bytes (to_be_bytes w64 a)) (wire.bytes (to_be_bytes w64 b)) h in
    ap (λ m. json.string (hex_text 16 m)) (span_ids_alike a b p q same.1)

pub parent_id_tells : (name : List ℕ) (n a b : ℕ) → a < 2 ^ 64 → b < 2 ^ 64
    → Tells (row name n (parent_id a) (parent_id b))
parent_id_tells name n a b p q h =
    ap (λ m. json.string (parent_text m))
    (left_out_tells n (λ m. wire.bytes (to_be_bytes w64 m)) a b (span_ids_alike a b p q) h)

-- a message, and messages of one number
pub message_tells : (name : List ℕ) (n : ℕ) (ms ns : List Member) → Alike ms ns
    → Tells (row name n (message (members_of ms)) (message (members_of ns)))
message_tells name n ms ns alike h =
    let held = λ (members : List Member). wire.message (fields_of (message_fields members)) in
    alike (same_messages (message_fields ms) (message_fields ns) (one_alike n n (held ms) (held ns) h).1)

many_at : {X Y : Type 0} (n : ℕ) (members : X → List Member) (others : Y → List Member) (P : X → Type 0)
    (Q : Y → Type 0)
    → ((x : X) (y : Y) → P x → Q y → Alike (members x) (others y))
    → (xs : List X) (ys : List Y) → AllByRecursion P xs → AllByRecursion Q ys → (raws : List (ℕ × Raw))
    → AreReadAs (fields_of (items_fields n (items_of (map members xs)))) raws
    → AreReadAs (fields_of (items_fields n (items_of (map others ys)))) raws
    → items_json (items_of (map members xs)) ≡ items_json (items_of (map others ys))
many_at n members others P Q alike [] [] p q raws h k = refl
many_at n members others P Q alike [] (y ∷ ys) p q [] h k = absurd k
many_at n members others P Q alike [] (y ∷ ys) p q (r ∷ rs) h k = absurd cc
many_at n members others P Q alike (x ∷ xs) [] p q [] h k = absurd h
many_at n members others P Q alike (x ∷ xs) [] p q (r ∷ rs) h k = absurd cc
many_at n members others P Q alike (x ∷ xs) (y ∷ ys) p q [] h k = absurd h
many_at n members others P Q alike (x ∷ xs) (y ∷ ys) p q (r ∷ rs) h k =
    let first =
    alike x y p.0 q.0 (same_messages (message_fields (members x)) (message_fields (others y))
    (record { raw = r.1; left = h.1; right = k.1 })) in
    let rest = many_at n members others P Q alike xs ys p.1 q.1 rs h.2 k.2 in
    λ i. json.item (first i) (rest i)

pub many_tell : {X Y : Type 0} (name : List ℕ) (n : ℕ) (members : X → List Member) (others : Y → List Member)
    (P : X → Type 0) (Q : Y → Type 0) → ((x : X) (y : Y) → P x → Q y → Alike (members x) (others y))
    → (xs : List X) (ys : List Y) → AllByRecursion P xs → AllByRecursion Q ys
    → Tells (row name n (messages (items_of (map members xs))) (messages (items_of (map others ys))))
many_tell name n members others P Q alike xs ys p q h =
    ap json.array (many_at n members others P Q alike xs ys p q h.raws h.left h.right)
