-- What escapes write: an entity, or bytes that begin nothing.
use Rattle.std.proofs.Common.{◌≡◌, ◌<◌, ◌≤◌, ◌+◌, ◌/◌, ◌%◌, ◌==◌, ◌∷◌, ◌++◌, inl, inr, ℕ, zero, suc, Bool, List, true, false, [], All, length, get_or}
use Rattle.std.proofs.Common.{encode_utf8, if◌then◌else◌, refl, sym, arith, append-nil}
use Rattle.std.specs.Fmt.{digit_glyph, digits, digits_onto}
use Rattle.std.proofs.lemmas.Bool.{cases_eq, cases_lt, eq-eqb, le-ltb, lt-ltb, ne_eqb}
use Rattle.std.proofs.lemmas.List.{get_or_default}
use Rattle.std.proofs.lemmas.List.Elements.{All-append, All-cons, All-nil}
use Rattle.std.proofs.lemmas.Str.{encode_ascii, inside_one}
use Rattle.otel_picture.specs.Texts.{IsPiece, IsPlainByte, escaped_char, is_hidden, is_xml_char, numbered_char}

plain_byte : (c : ℕ) → (c ≡ 60 → ⊥) → (c ≡ 62 → ⊥) → (c ≡ 38 → ⊥) → (c ≡ 34 → ⊥) → IsPlainByte c
plain_byte c a b d e = record { no_less = a; no_greater = b; no_ampersand = d; no_quote = e }

high_byte : (c : ℕ) → 128 ≤ c → IsPlainByte c
high_byte c h = plain_byte c (λ e. omega arith) (λ e. omega arith) (λ e. omega arith) (λ e. omega arith)

high_bytes : (c k : ℕ) → 128 ≤ c → k < length (encode_utf8 c) → 128 ≤ get_or (encode_utf8 c) k 0
high_bytes c k big below = elim (cases_lt (get_or (encode_utf8 c) k 0) 128) [
  | inl low ↦ absurd (omega (arith, inside_one c [] (encode_utf8 c) k (sym (append-nil _)) below low))
  | inr h ↦ h
]

plain_char : (c : ℕ) → IsPlainByte c → All IsPlainByte (encode_utf8 c)
plain_char c p = elim (cases_lt c 128) [
  | inl small ↦ rw (encode_ascii c small) (All-cons IsPlainByte c [] p (All-nil IsPlainByte))
  | inr big ↦ λ k d below. rw (get_or_default (encode_utf8 c) k d 0 below) (high_byte _ (high_bytes c k big below))
]

-- the digits of a number
plain_glyph : (n : ℕ) → n < 16 → IsPlainByte (digit_glyph false n)
plain_glyph n l = elim (cases_lt n 10) [
  | inl low ↦ rw (lt-ltb n 10 low)
      (plain_byte (48 + n) (λ e. omega arith) (λ e. omega arith) (λ e. omega arith) (λ e. omega arith))
  | inr high ↦ rw (le-ltb n 10 high)
      (plain_byte (87 + n) (λ e. omega arith) (λ e. omega arith) (λ e. omega arith) (λ e. omega arith))
]

plain_either : (held : Bool) (one other : List ℕ) → All IsPlainByte one → All IsPlainByte other
    → All IsPlainByte (if held then one else other)
plain_either true one other h k = h
plain_either false one other h k = k

plain_digits : (count n : ℕ) (rest : List ℕ) → All IsPlainByte rest → All IsPlainByte (digits_onto count 16 false n rest)
plain_digits zero n rest h = h
plain_digits (suc count) n rest h =
    let glyph : ℕ = digit_glyph false (n % 16) in
    let more = All-cons IsPlainByte glyph rest (plain_glyph (n % 16) (omega arith)) h in
    plain_either (n / 16 == 0) (glyph ∷ rest) (digits_onto count 16 false (n / 16) (glyph ∷ rest)) more
    (plain_digits count (n / 16) (glyph ∷ rest) more)

plain_or_replaced : (c : ℕ) (held : Bool) → IsPlainByte c
    → All IsPlainByte (if held then encode_utf8 c else encode_utf8 65533)
plain_or_replaced c true p = plain_char c p
plain_or_replaced c false p = plain_char 65533 (high_byte 65533 (omega arith))

mark_byte : (c : ℕ) → 62 < c → IsPlainByte c
mark_byte c h = plain_byte c (λ e. omega arith) (λ e. omega arith) (λ e. omega arith) (λ e. omega arith)

plain_number : (c : ℕ) → All IsPlainByte (numbered_char c)
unfolding digits
plain_number c =
    let last = All-cons IsPlainByte 125 [] (mark_byte 125 (omega arith)) (All-nil IsPlainByte) in
    let number = All-append IsPlainByte (digits_onto 64 16 false c []) (125 ∷ []) (plain_digits 64 c [] (All-nil IsPlainByte))
    last in
    let written : List ℕ = digits_onto 64 16 false c [] ++ 125 ∷ [] in
    All-cons IsPlainByte 92 (117 ∷ 123 ∷ written) (mark_byte 92 (omega arith))
    (All-cons IsPlainByte 117 (123 ∷ written) (mark_byte 117 (omega arith))
    (All-cons IsPlainByte 123 written (mark_byte 123 (omega arith)) number))

plain_or_numbered : (c : ℕ) (hidden : Bool) → IsPlainByte c
    → All IsPlainByte (if hidden then numbered_char c else (if is_xml_char c then encode_utf8 c else encode_utf8 65533))
plain_or_numbered c true p = plain_number c
plain_or_numbered c false p = plain_or_replaced c (is_xml_char c) p

pub escaped_pieces : (c : ℕ) → IsPiece (escaped_char c)
escaped_pieces c = elim (cases_eq c 60) [
  | inl e ↦ rw (eq-eqb c 60 e) (inl (inl refl))
  | inr a ↦ rw (ne_eqb c 60 a) (elim (cases_eq c 62) [
    | inl e ↦ rw (eq-eqb c 62 e) (inl (inr (inl refl)))
    | inr b ↦ rw (ne_eqb c 62 b) (elim (cases_eq c 38) [
      | inl e ↦ rw (eq-eqb c 38 e) (inl (inr (inr (inl refl))))
      | inr d ↦ rw (ne_eqb c 38 d) (elim (cases_eq c 34) [
        | inl e ↦ rw (eq-eqb c 34 e) (inl (inr (inr (inr refl))))
        | inr f ↦ rw (ne_eqb c 34 f) (inr (plain_or_numbered c (is_hidden c) (plain_byte c a b d f)))
      ])
    ])
  ])
]
