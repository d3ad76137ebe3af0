-- Reading a message, apart from how it is written: its fields one level deep, and then, where a field is known to hold a
-- message, that one's.
use Rattle.std.specs.Prelude.{◌≡◌, ℕ, zero, suc, ◌+◌, ◌-◌, ◌*◌, ◌/◌, ◌%◌, ◌^◌, nat_lt, nat_le, List, [], ◌∷◌, length, take, drop}
use Rattle.std.specs.Prelude.{Option, Some, None, option_map, option_and_then, if◌then◌else◌}
use Rattle.std.specs.Int.{w32, w64, from_le_bytes}
use Rattle.otel_protobuf.specs.Wire.{Wire, varint, fixed64, bytes, message, fixed32, Fields, no_fields, field}

-- what a field holds by the wire alone, which has one word for bytes, texts and messages
pub data Raw : Type 0 where
  number : ℕ → Raw
  eight : ℕ → Raw
  four : ℕ → Raw
  sized : List ℕ → Raw

-- what was read, and the bytes after it
abbrev pub Read : Type 0 → Type 0
Read X = Option (X × List ℕ)

-- bytes from 128 on have seven bits of the number, and more of it comes after them
abbrev pub read_varint : List ℕ → Read ℕ
read_varint [] = None
read_varint (b ∷ bs) =
    if nat_lt b 128 then Some (b, bs) else option_map (λ r. (b - 128 + 128 * r.0, r.1)) (read_varint bs)

-- a number, where it fits 64 bits
abbrev pub fitting : ℕ → List ℕ → Read ℕ
fitting n rest = if nat_lt n (2 ^ 64) then Some (n, rest) else None

-- the same of a number of 64 bits, in at most so many bytes
abbrev pub read_short : ℕ → List ℕ → Read ℕ
read_short zero bs = None
read_short (suc more) [] = None
read_short (suc more) (b ∷ bs) =
    if nat_lt b 128 then Some (b, bs)
    else option_and_then (λ r. fitting (b - 128 + 128 * r.0) r.1) (read_short more bs)

-- such a number, which has ten bytes at most, as programs read it
abbrev pub read_64 : List ℕ → Read ℕ
read_64 = read_short 10

-- so many bytes
abbrev pub read_some : ℕ → List ℕ → Read (List ℕ)
read_some n bs = if nat_le n (length bs) then Some (take n bs, drop n bs) else None

module _ (read_number : List ℕ → Read ℕ) where
  -- what a field of this wire type holds; the types of groups are not read
  abbrev pub read_raw : ℕ → List ℕ → Read Raw
  read_raw zero bs = option_map (λ r. (number r.0, r.1)) (read_number bs)
  read_raw (suc zero) bs = option_map (λ r. (eight (from_le_bytes w64 r.0), r.1)) (read_some 8 bs)
  read_raw (suc (suc zero)) bs =
      option_and_then (λ length. option_map (λ r. (sized r.0, r.1)) (read_some length.0 length.1)) (read_number bs)
  read_raw (suc (suc (suc (suc (suc zero))))) bs =
      option_map (λ r. (four (from_le_bytes w32 r.0), r.1)) (read_some 4 bs)
  read_raw kind bs = None

  -- a field: its number and its wire type, which are one number, and what it holds
  abbrev pub read_field : List ℕ → Read (ℕ × Raw)
  read_field bs =
      option_and_then (λ key. option_map (λ r. ((key.0 / 8, r.0), r.1)) (read_raw (key.0 % 8) key.1))
      (read_number bs)

  -- at most so many fields, until no byte is left
  unfoldable pub read_fields : ℕ → List ℕ → Option (List (ℕ × Raw))
  read_fields more [] = Some []
  read_fields zero (b ∷ bs) = None
  read_fields (suc more) (b ∷ bs) =
      option_and_then (λ r. option_map (λ fs. r.0 ∷ fs) (read_fields more r.1)) (read_field (b ∷ bs))

  -- the fields of a message, of which each takes a byte at least
  abbrev pub fields_in : List ℕ → Option (List (ℕ × Raw))
  fields_in bs = read_fields (length bs) bs

-- the fields of the tree are those that were read; where the tree has a message, its bytes are read again
abbrev mutual
  pub IsReadAs : Wire → Raw → Type 0
  IsReadAs (varint n) raw = raw ≡ number n
  IsReadAs (fixed64 n) raw = raw ≡ eight n
  IsReadAs (bytes bs) raw = raw ≡ sized bs
  IsReadAs (message fs) raw =
      (bs : List ℕ) × (raw ≡ sized bs)
      × ((raws : List (ℕ × Raw)) × (fields_in read_varint bs ≡ Some raws) × AreReadAs fs raws)
  IsReadAs (fixed32 n) raw = raw ≡ four n

  pub AreReadAs : Fields → List (ℕ × Raw) → Type 0
  AreReadAs no_fields raws = raws ≡ []
  AreReadAs (field n wire fs) [] = ⊥
  AreReadAs (field n wire fs) (r ∷ rs) = (r.0 ≡ n) × IsReadAs wire r.1 × AreReadAs fs rs

-- the bytes read as this message
abbrev pub ReadsAs : List ℕ → Fields → Type 0
ReadsAs bs fs = (raws : List (ℕ × Raw)) × (fields_in read_varint bs ≡ Some raws) × AreReadAs fs raws
