-- Messages as protobuf writes them (Protocol Buffers, "Encoding"): numbered fields, one after the other. A message within
-- a message stands as its bytes, after their length.
use Rattle.std.specs.Prelude.{ℕ, zero, suc, ◌+◌, ◌*◌, ◌/◌, ◌%◌, ◌^◌, ◌<◌, ◌==◌, nat_lt, if◌then◌else◌, ⊤}
use Rattle.std.specs.Prelude.{List, [], ◌∷◌, ◌++◌, length, map}
use Rattle.std.specs.Int.{w32, w64, to_le_bytes}

mutual
  -- what a field holds
  pub data Wire : Type 0 where
    varint : ℕ → Wire
    fixed64 : ℕ → Wire
    bytes : List ℕ → Wire
    message : Fields → Wire
    fixed32 : ℕ → Wire

  -- the fields of a message, in the order in which they are written
  pub data Fields : Type 0 where
    no_fields : Fields
    field : ℕ → Wire → Fields → Fields

-- a field: its number, and what it holds
abbrev pub Field : Type 0
Field = ℕ × Wire

-- the fields of a message
abbrev pub fields_of : List Field → Fields
fields_of [] = no_fields
fields_of (f ∷ fs) = field f.0 f.1 (fields_of fs)

-- a number by seven bits a byte, the lowest first; 128 is added to each byte but the last. The first argument is at
-- least the number, and ends the recursion
unfoldable pub varint_digits : ℕ → ℕ → List ℕ
varint_digits zero n = n ∷ []
varint_digits (suc more) n =
    if nat_lt n 128 then n ∷ [] else (128 + n % 128) ∷ varint_digits more (n / 128)

unfoldable pub varint_bytes : ℕ → List ℕ
varint_bytes n = varint_digits n n

-- the number of each wire type
abbrev pub wire_type : Wire → ℕ
wire_type (varint n) = 0
wire_type (fixed64 n) = 1
wire_type (bytes bs) = 2
wire_type (message fs) = 2
wire_type (fixed32 n) = 5

-- what stands before a field
abbrev pub key_bytes : ℕ → ℕ → List ℕ
key_bytes number kind = varint_bytes (8 * number + kind)

-- what has a length stands after it
abbrev pub after_length : List ℕ → List ℕ
after_length bs = varint_bytes (length bs) ++ bs

abbrev mutual
  pub wire_bytes : Wire → List ℕ
  wire_bytes (varint n) = varint_bytes n
  wire_bytes (fixed64 n) = to_le_bytes w64 n
  wire_bytes (bytes bs) = after_length bs
  wire_bytes (message fs) = after_length (fields_bytes fs)
  wire_bytes (fixed32 n) = to_le_bytes w32 n

  pub fields_bytes : Fields → List ℕ
  fields_bytes no_fields = []
  fields_bytes (field number wire fs) = key_bytes number (wire_type wire) ++ (wire_bytes wire ++ fields_bytes fs)

-- what is of so many bytes fits these
abbrev mutual
  pub WireFits : Wire → Type 0
  WireFits (varint n) = ⊤
  WireFits (fixed64 n) = n < 2 ^ 64
  WireFits (bytes bs) = ⊤
  WireFits (message fs) = FieldsFit fs
  WireFits (fixed32 n) = n < 2 ^ 32

  pub FieldsFit : Fields → Type 0
  FieldsFit no_fields = ⊤
  FieldsFit (field number wire fs) = WireFits wire × FieldsFit fs

-- the bytes of a message
abbrev pub message_bytes : List Field → List ℕ
message_bytes fs = fields_bytes (fields_of fs)

-- a field of its own
abbrev pub one : ℕ → Wire → List Field
one number wire = (number, wire) ∷ []

-- a number, or nothing where it is 0, which is the default
abbrev pub unless_zero : ℕ → (ℕ → Wire) → ℕ → List Field
unless_zero number wire n = if n == 0 then [] else one number (wire n)

-- bytes, or nothing where there are none, which is the default
abbrev pub unless_empty : ℕ → List ℕ → List Field
unless_empty number [] = []
unless_empty number (b ∷ bs) = one number (bytes (b ∷ bs))

-- a message within another one, also where it is empty
abbrev pub nested : ℕ → List Field → List Field
nested number fs = one number (message (fields_of fs))

-- messages of one number, in order
abbrev pub repeated : {X : Type 0} → ℕ → (X → List Field) → List X → List Field
repeated number fields xs = map (λ x. (number, message (fields_of (fields x)))) xs
