-- What is written reads back as the message.
use Rattle.std.proofs.Common.{◌≡◌, ℕ, zero, suc, ◌+◌, ◌*◌, ◌/◌, ◌%◌, ◌^◌, ◌<◌, ◌≤◌}
use Rattle.std.proofs.Common.{List, [], ◌∷◌, ◌++◌, length, take, drop, Some, ap, refl, ◌∙◌, arith}
use Rattle.std.proofs.Common.{append_assoc, length-append, lit<}
use Rattle.std.proofs.Math.Seq.{take-append_seam, drop-append_seam}
use Rattle.std.proofs.lemmas.Bool.{le-leb}
use Rattle.std.specs.Int.{w32, w64, to_le_bytes, from_le_bytes}
use Rattle.std.specs.Option.{option_map}
use Rattle.std.proofs.lemmas.Nat.{from_le_bytes-to_le_bytes_4, from_le_bytes-to_le_bytes_8}
use Rattle.otel_protobuf.specs.Wire.{Wire, varint, fixed64, bytes, message, fixed32, Fields, no_fields, field}
use Rattle.otel_protobuf.specs.Wire.{wire_bytes, fields_bytes, wire_type, key_bytes, after_length, varint_bytes}
use Rattle.otel_protobuf.specs.Wire.{WireFits, FieldsFit}
use Rattle.otel_protobuf.specs.Reading.{Raw, number, eight, four, sized, Read, read_some, read_raw, read_field, read_fields}
use Rattle.otel_protobuf.specs.Reading.{IsReadAs, AreReadAs, ReadsAs, read_varint}
use Rattle.otel_protobuf.proofs.Varints.{has_byte, reads_varint}

-- bytes, and others after them
abbrev read_of : {X : Type 0} → X → List ℕ → Read X
read_of x rest = Some (x, rest)

cut_at_seam : (bs rest : List ℕ)
    → ◌≡◌ {A = Read (List ℕ)} (Some (take (length bs) (bs ++ rest), drop (length bs) (bs ++ rest))) (Some (bs, rest))
cut_at_seam bs rest =
    ap (λ (xs : List ℕ). read_of xs (drop (length bs) (bs ++ rest))) (take-append_seam bs rest)
    ∙ ap (λ (ys : List ℕ). read_of bs ys) (drop-append_seam bs rest)

reads_some : (bs rest : List ℕ) → read_some (length bs) (bs ++ rest) ≡ Some (bs, rest)
reads_some bs rest =
    let room : length bs ≤ length (bs ++ rest) = omega (arith, length-append bs rest) in
    rw (le-leb (length bs) (length (bs ++ rest)) room) (cut_at_seam bs rest)

-- what has a length, and others after it
reads_sized : (bs rest : List ℕ) → read_raw read_varint 2 (after_length bs ++ rest) ≡ Some (sized bs, rest)
reads_sized bs rest =
    ap (read_raw read_varint 2) (append_assoc (varint_bytes (length bs)) bs rest)
    ∙ rw (reads_varint (length bs) (bs ++ rest)) (rw (reads_some bs rest) refl)

-- numbers of a width, and others after them
reads_eight : (n : ℕ) (rest : List ℕ) → n < 2 ^ 64 → read_raw read_varint 1 (to_le_bytes w64 n ++ rest) ≡ Some (eight n, rest)
reads_eight n rest h =
    ap (option_map (λ r. (eight (from_le_bytes w64 r.0), r.1))) (reads_some (to_le_bytes w64 n) rest)
    ∙ ap (λ m. read_of (eight m) rest) (from_le_bytes-to_le_bytes_8 n h)

reads_four : (n : ℕ) (rest : List ℕ) → n < 2 ^ 32 → read_raw read_varint 5 (to_le_bytes w32 n ++ rest) ≡ Some (four n, rest)
reads_four n rest h =
    ap (option_map (λ r. (four (from_le_bytes w32 r.0), r.1))) (reads_some (to_le_bytes w32 n) rest)
    ∙ ap (λ m. read_of (four m) rest) (from_le_bytes-to_le_bytes_4 n h)

-- a field's number and its wire type
number_of_key : (n kind : ℕ) → kind < 8 → (8 * n + kind) / 8 ≡ n
number_of_key n kind h = omega arith

kind_of_key : (n kind : ℕ) → kind < 8 → (8 * n + kind) % 8 ≡ kind
kind_of_key n kind h = omega arith

kind_fits : (wire : Wire) → wire_type wire < 8
kind_fits (varint n) = lit< tt
kind_fits (fixed64 n) = lit< tt
kind_fits (bytes bs) = lit< tt
kind_fits (message fs) = lit< tt
kind_fits (fixed32 n) = lit< tt

reads_field : (n : ℕ) (wire : Wire) (raw : Raw) (rest : List ℕ)
    → read_raw read_varint (wire_type wire) (wire_bytes wire ++ rest) ≡ Some (raw, rest)
    → read_field read_varint (key_bytes n (wire_type wire) ++ (wire_bytes wire ++ rest)) ≡ Some ((n, raw), rest)
reads_field n wire raw rest h =
    rw (reads_varint (8 * n + wire_type wire) (wire_bytes wire ++ rest))
    (rw (number_of_key n (wire_type wire) (kind_fits wire), kind_of_key n (wire_type wire) (kind_fits wire), h) refl)

-- the first field, and then the others
reads_first : (more : ℕ) (bs : List ℕ) (r : ℕ × Raw) (rest : List ℕ) (rs : List (ℕ × Raw)) → 0 < length bs
    → length bs ≤ suc more → read_field read_varint bs ≡ Some (r, rest) → read_fields read_varint more rest ≡ Some rs
    → read_fields read_varint (suc more) bs ≡ Some (r ∷ rs)
unfolding read_fields
reads_first more [] r rest rs h l one others = absurd (omega arith)
reads_first more (b ∷ bs) r rest rs h l one others = rw one (rw others refl)

-- so many steps read the fields
abbrev ReadsWithin : ℕ → Fields → Type 0
ReadsWithin more fs = (raws : List (ℕ × Raw)) × (read_fields read_varint more (fields_bytes fs) ≡ Some raws) × AreReadAs fs raws

-- what a field holds, whatever comes after it
abbrev ReadsWire : Wire → List ℕ → Type 0
ReadsWire wire rest =
    (raw : Raw) × (read_raw read_varint (wire_type wire) (wire_bytes wire ++ rest) ≡ Some (raw, rest)) × IsReadAs wire raw

reads_none : (more : ℕ) → ReadsWithin more no_fields
unfolding read_fields
reads_none zero = ([], refl, refl)
reads_none (suc more) = ([], refl, refl)

-- a key has a byte, so one step fewer is enough for what comes after it
key_has_byte : (n : ℕ) (wire : Wire) (rest : List ℕ)
    → length rest < length (key_bytes n (wire_type wire) ++ (wire_bytes wire ++ rest))
key_has_byte n wire rest =
    let key = key_bytes n (wire_type wire) in
    let some : 0 < length key = has_byte (8 * n + wire_type wire) in
    omega (arith, length-append key (wire_bytes wire ++ rest), length-append (wire_bytes wire) rest)

with_first : (n : ℕ) (wire : Wire) (fs : Fields) (more : ℕ) → length (fields_bytes (field n wire fs)) ≤ more
    → ReadsWire wire (fields_bytes fs) → ((fewer : ℕ) → length (fields_bytes fs) ≤ fewer → ReadsWithin fewer fs)
    → ReadsWithin more (field n wire fs)
with_first n wire fs zero l value others =
    let some = key_has_byte n wire (fields_bytes fs) in absurd (omega arith)
with_first n wire fs (suc more) l value others =
    let some = key_has_byte n wire (fields_bytes fs) in
    let rest = others more (omega arith) in (
      (n, value.0) ∷ rest.0,
      reads_first more (fields_bytes (field n wire fs)) (n, value.0) (fields_bytes fs) rest.0 (omega arith) l
          (reads_field n wire value.0 (fields_bytes fs) value.1) rest.1,
      (refl, value.2, rest.2),
    )

mutual
  reads_wire : (wire : Wire) (rest : List ℕ) → WireFits wire → ReadsWire wire rest
  reads_wire (varint n) rest h = (number n, rw (reads_varint n rest) refl, refl)
  reads_wire (fixed64 n) rest h = (eight n, reads_eight n rest h, refl)
  reads_wire (bytes bs) rest h = (sized bs, reads_sized bs rest, refl)
  reads_wire (message fs) rest h =
      let bs = fields_bytes fs in
      (sized bs, reads_sized bs rest, (bs, refl, reads_all fs (length bs) (omega arith) h))
  reads_wire (fixed32 n) rest h = (four n, reads_four n rest h, refl)

  reads_all : (fs : Fields) (more : ℕ) → length (fields_bytes fs) ≤ more → FieldsFit fs → ReadsWithin more fs
  reads_all no_fields more l h = reads_none more
  reads_all (field n wire fs) more l h =
      with_first n wire fs more l (reads_wire wire (fields_bytes fs) h.0) (λ fewer k. reads_all fs fewer k h.1)

-- a message that fits reads back
pub reads_message : (fs : Fields) → FieldsFit fs → ReadsAs (fields_bytes fs) fs
reads_message fs h = reads_all fs (length (fields_bytes fs)) (omega arith) h
