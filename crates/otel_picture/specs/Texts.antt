-- Texts of pictures.
use Rattle.std.specs.Prelude.{◌≡◌, ◌≢◌, ℕ, ◌/◌, ◌%◌, ◌==◌, ◌&&◌, ◌||◌, ◌++◌, ◌⊎◌, Bool, List, All, codes, encode_utf8}
use Rattle.std.specs.Prelude.{if◌then◌else◌, nat_le, nat_lt, not}
use Rattle.std.specs.Prelude.{◌-◌, length, zero, suc, [], ◌∷◌, true, false, unwrap_or}
use Rattle.std.specs.Fmt.{radix_digits}
use Rattle.std.specs.List.{flat_map}
use Rattle.std.specs.Str.{chars}
use Rattle.unicode_width.specs.Width.{char_width}
use Rattle.otel_picture.specs.declared.texts.Room.{Room}

-- a control character of the first or the second block
abbrev pub is_control : ℕ → Bool
is_control c = nat_lt c 32 || (nat_le 127 c && nat_lt c 160)

-- a character that shows nothing, or that changes where others stand: of a direction, without a width, the end of a
-- line or of a paragraph
abbrev pub is_hidden : ℕ → Bool
is_hidden c =
    (c == 1564) || (c == 6158) || (nat_le 8203 c && nat_le c 8207) || (nat_le 8232 c && nat_le c 8238)
    || (nat_le 8288 c && nat_le c 8303) || (c == 65279)

-- its number in base 16
abbrev pub numbered_char : ℕ → List ℕ
numbered_char c = codes "\\u{" ++ (radix_digits 16 false c ++ codes "}")

-- a character as the text form shows it: a control character by its number in two digits of base 16
abbrev pub shown_char : ℕ → List ℕ
shown_char c =
    if is_control c then codes "\\x" ++ (radix_digits 16 false (c / 16) ++ radix_digits 16 false (c % 16)) else
    (if is_hidden c then numbered_char c else encode_utf8 c)

abbrev pub shown_text : List ℕ → List ℕ
shown_text text = flat_map shown_char (chars text)

-- a character of ASCII so many times
abbrev pub times : ℕ → ℕ → List ℕ
times zero c = []
times (suc count) c = times count c ++ c ∷ []

-- the columns that a character takes in a terminal
abbrev pub char_columns : ℕ → ℕ
char_columns c = unwrap_or (char_width false c) 0

-- what is left of a room after one more character. One that finds no place shuts it to those after it
abbrev pub room_after : Room → ℕ → Room
room_after room c =
    if room.is_open && nat_le (char_columns c) room.left
    then record { left = room.left - char_columns c; is_open = true }
    else record { left = room.left; is_open = false }

-- what characters leave of a room
abbrev pub room_left : Room → List ℕ → Room
room_left room [] = room
room_left room (c ∷ cs) = room_left (room_after room c) cs

-- those of the characters that find place
abbrev pub fitting_text : Room → List ℕ → List ℕ
fitting_text room [] = []
fitting_text room (c ∷ cs) =
    (if (room_after room c).is_open then encode_utf8 c else []) ++ fitting_text (room_after room c) cs

-- a room of so many columns
abbrev pub room_of : ℕ → Room
room_of columns = record { left = columns; is_open = true }

-- a text cut to so many columns, before an ellipsis where it takes more
abbrev pub cut_text : ℕ → List ℕ → List ℕ
cut_text columns text =
    if (room_left (room_of columns) (chars text)).is_open then text
    else fitting_text (room_of (columns - 1)) (chars text) ++ encode_utf8 8230

-- the columns that a text leaves that is cut so
abbrev pub columns_left : ℕ → List ℕ → ℕ
columns_left columns text =
    if (room_left (room_of columns) (chars text)).is_open then (room_left (room_of columns) (chars text)).left
    else (room_left (room_of (columns - 1)) (chars text)).left

-- a text in a room of so many columns: cut, and with blanks after it
abbrev pub in_room : ℕ → List ℕ → List ℕ
in_room columns text = cut_text columns text ++ times (columns_left columns text) 32

-- a text of ASCII at the right of a room, if it finds place there
abbrev pub at_right : ℕ → List ℕ → List ℕ
at_right columns text = times (columns - length text) 32 ++ text

-- a character that XML 1.0 can have (section 2.2)
abbrev pub is_xml_char : ℕ → Bool
is_xml_char c = (nat_le 32 c && not (c == 65534) && not (c == 65535)) || (c == 9) || (c == 10) || (c == 13)

-- a character as the SVG form writes it: a mark as its entity, one that cannot be as the replacement character
abbrev pub escaped_char : ℕ → List ℕ
escaped_char c =
    if c == 60 then codes "&lt;" else
    (if c == 62 then codes "&gt;" else
    (if c == 38 then codes "&amp;" else
    (if c == 34 then codes "&quot;" else
    (if is_hidden c then numbered_char c else
    (if is_xml_char c then encode_utf8 c else encode_utf8 65533)))))

abbrev pub escaped_text : List ℕ → List ℕ
escaped_text = flat_map escaped_char

-- an entity
abbrev pub IsEntity : List ℕ → Type 0
IsEntity bytes = (bytes ≡ codes "&lt;") ⊎ (bytes ≡ codes "&gt;") ⊎ (bytes ≡ codes "&amp;") ⊎ (bytes ≡ codes "&quot;")

-- a byte that begins nothing in XML: none of `<`, `>`, `&` and `"`
pub record IsPlainByte (byte : ℕ) : Type 0 where
  pub no_less : byte ≢ 60
  pub no_greater : byte ≢ 62
  pub no_ampersand : byte ≢ 38
  pub no_quote : byte ≢ 34

-- what a character may become: an entity, or bytes without marks
abbrev pub IsPiece : List ℕ → Type 0
IsPiece bytes = IsEntity bytes ⊎ All IsPlainByte bytes
