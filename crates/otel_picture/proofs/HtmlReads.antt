-- The JSON of the file is read as it would be without its escapes, and has no byte that begins a mark.
use Rattle.std.proofs.Common.{◌≡◌, ◌≢◌, ◌∙◌, ◌&&◌, ℕ, Bool, true, false, cond, List, [], ◌∷◌, ◌++◌, ap}
use Rattle.std.proofs.Common.{append_assoc, refl, subst, sym, All, inl, inr, arith}
use Rattle.std.proofs.lemmas.Bool.{cases_eq, eq-eqb, ne_eqb}
use Rattle.std.proofs.lemmas.List.Concat.{flat_map-append}
use Rattle.std.proofs.lemmas.List.Elements.{All-append, All-from_recursion, All-nil}
use Rattle.json.specs.Lex.{Lexeme, between, colon, comma, fresh, in_word, lex, punctuate, token, tokens}
use Rattle.json.specs.Print.{ArePrintableOrBad, IsPrintableOrBad, begins, ends, print, print_from, quoted, separator}
use Rattle.json.specs.Print.{token_text}
use Rattle.json.specs.Token.{Token, bad, begin_array, begin_object, boolean, end_array, end_object, key, null, number}
use Rattle.json.specs.Token.{string}
use Rattle.json.specs.Word.{ends_word, word}
use Rattle.json.proofs.Numbered.{ArePrintableOrBad-tokens}
use Rattle.json.proofs.Printed.Numbers.{in_word-ended, lex-number}
use Rattle.otel_picture.specs.HtmlTexts.{safe_byte, safe_bytes}
use Rattle.otel_picture.proofs.HtmlBytes.{plain_quoted, safe_quoted}
use Rattle.otel_picture.proofs.HtmlNumbers.{number_stands}

-- after a value stands a comma, a closing bracket or nothing
plain_ends : (ts : List Token) → ends_word (print_from true ts) ≡ true
unfolding print_from
plain_ends [] = refl
plain_ends (begin_object ∷ ts) = refl
plain_ends (end_object ∷ ts) = refl
plain_ends (begin_array ∷ ts) = refl
plain_ends (end_array ∷ ts) = refl
plain_ends (key s ∷ ts) = refl
plain_ends (string s ∷ ts) = refl
plain_ends (number s ∷ ts) = refl
plain_ends (boolean b ∷ ts) = refl
plain_ends (null ∷ ts) = refl
plain_ends (bad ∷ ts) = refl

safe_ends : (ts : List Token) → ends_word (safe_bytes (print_from true ts)) ≡ true
unfolding print_from
safe_ends [] = refl
safe_ends (begin_object ∷ ts) = refl
safe_ends (end_object ∷ ts) = refl
safe_ends (begin_array ∷ ts) = refl
safe_ends (end_array ∷ ts) = refl
safe_ends (key s ∷ ts) = refl
safe_ends (string s ∷ ts) = refl
safe_ends (number s ∷ ts) = refl
safe_ends (boolean b ∷ ts) = refl
safe_ends (null ∷ ts) = refl
safe_ends (bad ∷ ts) = refl

-- two texts that the lexer reads alike, after a value
record Alike (is_ended : Bool) (r s : List ℕ) : Type 0 where
  same : lex between r ≡ lex between s
  first_ends : is_ended ≡ true → ends_word r ≡ true
  second_ends : is_ended ≡ true → ends_word s ≡ true

literal : (bytes : List ℕ) (t : Token) (r s : List ℕ) → lex between r ≡ lex between s
    → lex between (bytes ++ r) ≡ token t ∷ lex between r → lex between (bytes ++ s) ≡ token t ∷ lex between s
    → lex between (bytes ++ r) ≡ lex between (bytes ++ s)
literal bytes t r s e h k = h ∙ ap (λ (l : List Lexeme). token t ∷ l) e ∙ sym k

true_read : (r : List ℕ) → ends_word r ≡ true
    → lex between (token_text (boolean true) ++ r) ≡ token (boolean true) ∷ lex between r
unfolding lex word
true_read r h =
    ap (λ b. token (cond b (boolean true) bad) ∷ lex in_word r) h
    ∙ ap (λ (l : List Lexeme). token (boolean true) ∷ l) (in_word-ended r h)

false_read : (r : List ℕ) → ends_word r ≡ true
    → lex between (token_text (boolean false) ++ r) ≡ token (boolean false) ∷ lex between r
unfolding lex word
false_read r h =
    ap (λ b. token (cond b (boolean false) bad) ∷ lex in_word r) h
    ∙ ap (λ (l : List Lexeme). token (boolean false) ∷ l) (in_word-ended r h)

null_read : (r : List ℕ) → ends_word r ≡ true
    → lex between (token_text null ++ r) ≡ token null ∷ lex between r
unfolding lex word
null_read r h =
    ap (λ b. token (cond b null bad) ∷ lex in_word r) h
    ∙ ap (λ (l : List Lexeme). token null ∷ l) (in_word-ended r h)

token_alike : (t : Token) (r s : List ℕ) → IsPrintableOrBad t → Alike (ends t) r s
    → lex between (safe_bytes (token_text t) ++ r) ≡ lex between (token_text t ++ s)
unfolding lex
token_alike begin_object r s h a = ap (λ (l : List Lexeme). token begin_object ∷ l) a.same
token_alike end_object r s h a = ap (λ (l : List Lexeme). token end_object ∷ l) a.same
token_alike begin_array r s h a = ap (λ (l : List Lexeme). token begin_array ∷ l) a.same
token_alike end_array r s h a = ap (λ (l : List Lexeme). token end_array ∷ l) a.same
token_alike (key k) r s h a =
    ap (λ (l : List ℕ). lex between (l ++ r)) (flat_map-append safe_byte (quoted k) (58 ∷ []))
    ∙ ap (lex between) (append_assoc (safe_bytes (quoted k)) (58 ∷ []) r) ∙ safe_quoted k (58 ∷ r)
    ∙ ap (λ (l : List Lexeme). token (string k) ∷ colon ∷ l) a.same
    ∙ sym (ap (lex between) (append_assoc (quoted k) (58 ∷ []) s) ∙ plain_quoted k (58 ∷ s))
token_alike (string k) r s h a =
    safe_quoted k r ∙ ap (λ (l : List Lexeme). token (string k) ∷ l) a.same ∙ sym (plain_quoted k s)
token_alike (number n) r s h a =
    ap (λ (l : List ℕ). lex between (l ++ r)) (number_stands n h)
    ∙ literal n (number n) r s a.same (lex-number n r h (a.first_ends refl)) (lex-number n s h (a.second_ends refl))
token_alike (boolean true) r s h a =
    literal (token_text (boolean true)) (boolean true) r s a.same (true_read r (a.first_ends refl))
    (true_read s (a.second_ends refl))
token_alike (boolean false) r s h a =
    literal (token_text (boolean false)) (boolean false) r s a.same (false_read r (a.first_ends refl))
    (false_read s (a.second_ends refl))
token_alike null r s h a =
    literal (token_text null) null r s a.same (null_read r (a.first_ends refl)) (null_read s (a.second_ends refl))
token_alike bad r s h a = a.same

separator_alike : (b : Bool) (r s : List ℕ) → lex between r ≡ lex between s
    → lex between (safe_bytes (cond b (44 ∷ []) []) ++ r) ≡ lex between (cond b (44 ∷ []) [] ++ s)
unfolding lex
separator_alike true r s e = ap (λ (l : List Lexeme). comma ∷ l) e
separator_alike false r s e = e

-- three pieces of a text, each on its own
pieces : (a b c : List ℕ) → safe_bytes (a ++ (b ++ c)) ≡ safe_bytes a ++ (safe_bytes b ++ safe_bytes c)
pieces a b c =
    flat_map-append safe_byte a (b ++ c) ∙ ap (λ (l : List ℕ). safe_bytes a ++ l) (flat_map-append safe_byte b c)

print_alike : (after : Bool) (ts : List Token) → ArePrintableOrBad ts
    → lex between (safe_bytes (print_from after ts)) ≡ lex between (print_from after ts)
unfolding print_from
print_alike after [] h = refl
print_alike after (t ∷ ts) h =
    let rest = print_from (ends t) ts in
    let alike : Alike (ends t) (safe_bytes rest) rest =
    record {
      same = print_alike (ends t) ts h.1;
      first_ends = λ e. ap (λ b. ends_word (safe_bytes (print_from b ts))) e ∙ safe_ends ts;
      second_ends = λ e. ap (λ b. ends_word (print_from b ts)) e ∙ plain_ends ts;
    } in
    ap (lex between) (pieces (separator after t) (token_text t) rest)
    ∙ separator_alike (after && begins t) (safe_bytes (token_text t) ++ safe_bytes rest) (token_text t ++ rest)
    (token_alike t (safe_bytes rest) rest h.0 alike)

pub safe_reads : (ts : List Token) → tokens (print ts) ≡ ts → tokens (safe_bytes (print ts)) ≡ ts
safe_reads ts h =
    ap (punctuate fresh) (print_alike false ts (subst ArePrintableOrBad h (ArePrintableOrBad-tokens (print ts)))) ∙ h

-- no byte begins a mark
abbrev NotLess : ℕ → Type 0
NotLess byte = byte ≢ 60

-- a backslash and five bytes of which none is one
escape_stands : (a b : ℕ) → NotLess a → NotLess b → All NotLess (92 ∷ 117 ∷ 48 ∷ 48 ∷ a ∷ b ∷ [])
escape_stands a b h k =
    All-from_recursion NotLess (92 ∷ 117 ∷ 48 ∷ 48 ∷ a ∷ b ∷ [])
    ((λ z. omega arith), ((λ z. omega arith), ((λ z. omega arith), ((λ z. omega arith), (h, (k, tt))))))

unmarked_piece : (x : ℕ) → All NotLess (safe_byte x)
unmarked_piece x = elim (cases_eq x 60) [
  | inl e ↦ rw (eq-eqb x 60 e) (escape_stands 51 99 (λ z. omega arith) (λ z. omega arith))
  | inr a ↦ rw (ne_eqb x 60 a) (elim (cases_eq x 62) [
    | inl e ↦ rw (eq-eqb x 62 e) (escape_stands 51 101 (λ z. omega arith) (λ z. omega arith))
    | inr b ↦ rw (ne_eqb x 62 b) (elim (cases_eq x 38) [
      | inl e ↦ rw (eq-eqb x 38 e) (escape_stands 50 54 (λ z. omega arith) (λ z. omega arith))
      | inr d ↦ rw (ne_eqb x 38 d) (All-from_recursion NotLess (x ∷ []) (a, tt))
    ])
  ])
]

pub no_less : (bytes : List ℕ) → All NotLess (safe_bytes bytes)
no_less [] = All-nil NotLess
no_less (x ∷ bytes) = All-append NotLess (safe_byte x) (safe_bytes bytes) (unmarked_piece x) (no_less bytes)
