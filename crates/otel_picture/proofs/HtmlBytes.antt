-- What stands for a byte of a text is read back as that byte, also where it stands by its number.
use Rattle.std.proofs.Common.{◌≡◌, ◌<◌, ◌≤◌, ◌⊎◌, ◌∙◌, inl, inr, ℕ, zero, suc, Bool, true, false, cond, List, []}
use Rattle.std.proofs.Common.{◌∷◌, ◌++◌, Some, ap, ap₂, append_assoc, arith, refl, subst, sym}
use Rattle.std.proofs.lemmas.Bool.{cases_eq, cases_lt, le-ltb, ne_eqb}
use Rattle.std.proofs.lemmas.List.Concat.{flat_map-append}
use lib.Utf8.{encode}
use Rattle.json.specs.Lex.{Lexeme, Mode, between, in_string, lex, lex_byte, operator, other, space, string_token, token}
use Rattle.json.specs.Print.{escape, escape_byte, quoted}
use Rattle.json.specs.Token.{string}
use Rattle.json.specs.Text.{code_unit, content, plain, prepend, short_escape}
use Rattle.json.specs.Word.{is_operator, is_space}
use Rattle.json.proofs.Printed.Strings.{content-escape, escape_byte_plain, lex-escape}
use Rattle.otel_picture.specs.HtmlTexts.{safe_byte, safe_bytes}
use Rattle.otel_picture.proofs.HtmlNumbers.{unmarked_stands}

-- what both readers make of what stands for x, before any text
record Passes (x : ℕ) : Type 0 where
  read : (r : List ℕ) → content plain (safe_bytes (escape_byte x) ++ r) ≡ prepend (x ∷ []) (content plain r)
  lexed : (r : List ℕ) → lex in_string (safe_bytes (escape_byte x) ++ r) ≡ lex in_string r

-- P holds below n
abbrev Each : (ℕ → Type 0) → ℕ → Type 0
Each P zero = Unit {0}
Each P (suc n) = P n × Each P n

each_below : (P : ℕ → Type 0) (n : ℕ) → Each P n → (x : ℕ) → x < n → P x
each_below P zero h x lt = absurd (omega arith)
each_below P (suc n) h x lt = go (each_below P n h.1 x) (cases_eq x n)
  where
    go : (x < n → P x) → (x ≡ n) ⊎ (x ≡ n → ⊥) → P x
    go below (inl e) = subst P (sym e) h.0
    go below (inr ne) = below (omega arith)

controls_pass : Each Passes 32
unfolding escape_byte content lex code_unit short_escape encode
controls_pass = (
  record { read = λ r. refl; lexed = λ r. refl },
  (
    record { read = λ r. refl; lexed = λ r. refl },
    (
      record { read = λ r. refl; lexed = λ r. refl },
      (
        record { read = λ r. refl; lexed = λ r. refl },
        (
          record { read = λ r. refl; lexed = λ r. refl },
          (
            record { read = λ r. refl; lexed = λ r. refl },
            (
              record { read = λ r. refl; lexed = λ r. refl },
              (
                record { read = λ r. refl; lexed = λ r. refl },
                (
                  record { read = λ r. refl; lexed = λ r. refl },
                  (
                    record { read = λ r. refl; lexed = λ r. refl },
                    (
                      record { read = λ r. refl; lexed = λ r. refl },
                      (
                        record { read = λ r. refl; lexed = λ r. refl },
                        (
                          record { read = λ r. refl; lexed = λ r. refl },
                          (
                            record { read = λ r. refl; lexed = λ r. refl },
                            (
                              record { read = λ r. refl; lexed = λ r. refl },
                              (
                                record { read = λ r. refl; lexed = λ r. refl },
                                (
                                  record { read = λ r. refl; lexed = λ r. refl },
                                  (
                                    record { read = λ r. refl; lexed = λ r. refl },
                                    (
                                      record { read = λ r. refl; lexed = λ r. refl },
                                      (
                                        record { read = λ r. refl; lexed = λ r. refl },
                                        (
                                          record { read = λ r. refl; lexed = λ r. refl },
                                          (
                                            record { read = λ r. refl; lexed = λ r. refl },
                                            (
                                              record { read = λ r. refl; lexed = λ r. refl },
                                              (
                                                record { read = λ r. refl; lexed = λ r. refl },
                                                (
                                                  record { read = λ r. refl; lexed = λ r. refl },
                                                  (
                                                    record { read = λ r. refl; lexed = λ r. refl },
                                                    (
                                                      record { read = λ r. refl; lexed = λ r. refl },
                                                      (
                                                        record { read = λ r. refl; lexed = λ r. refl },
                                                        (
                                                          record { read = λ r. refl; lexed = λ r. refl },
                                                          (
                                                            record { read = λ r. refl; lexed = λ r. refl },
                                                            (
                                                              record { read = λ r. refl; lexed = λ r. refl },
                                                              (
                                                                record { read = λ r. refl; lexed = λ r. refl },
                                                                tt,
                                                              ),
                                                            ),
                                                          ),
                                                        ),
                                                      ),
                                                    ),
                                                  ),
                                                ),
                                              ),
                                            ),
                                          ),
                                        ),
                                      ),
                                    ),
                                  ),
                                ),
                              ),
                            ),
                          ),
                        ),
                      ),
                    ),
                  ),
                ),
              ),
            ),
          ),
        ),
      ),
    ),
  ),
)

quote_passes : Passes 34
unfolding escape_byte content lex short_escape
quote_passes = record { read = λ r. refl; lexed = λ r. refl }

backslash_passes : Passes 92
unfolding escape_byte content lex short_escape
backslash_passes = record { read = λ r. refl; lexed = λ r. refl }

-- the marks
less_passes : Passes 60
unfolding escape_byte content lex code_unit encode
less_passes = record { read = λ r. refl; lexed = λ r. refl }

greater_passes : Passes 62
unfolding escape_byte content lex code_unit encode
greater_passes = record { read = λ r. refl; lexed = λ r. refl }

ampersand_passes : Passes 38
unfolding escape_byte content lex code_unit encode
ampersand_passes = record { read = λ r. refl; lexed = λ r. refl }

stays_inside : (o s : Bool) (x : ℕ) (r : List ℕ) (k : Mode → List Lexeme)
    → lex_byte in_string (cond o operator (cond s space other)) x r k ≡ k in_string
stays_inside true s x r k = refl
stays_inside false true x r k = refl
stays_inside false false x r k = refl

-- a byte that stands for itself
bare_passes : (x : ℕ) → (x ≡ 34 → ⊥) → (x ≡ 92 → ⊥) → 32 ≤ x → (x ≡ 60 → ⊥) → (x ≡ 62 → ⊥) → (x ≡ 38 → ⊥) → Passes x
unfolding content lex
bare_passes x q b l less greater ampersand =
    let same : safe_bytes (escape_byte x) ≡ x ∷ [] =
    ap safe_bytes (escape_byte_plain x q b l)
    ∙ ap (λ (bytes : List ℕ). bytes ++ []) (unmarked_stands x (less, greater, ampersand)) in
    record {
      read = λ r. rw (same, ne_eqb x 34 q, ne_eqb x 92 b, le-ltb x 32 l);
      lexed = λ r. rw (same, ne_eqb x 34 q, ne_eqb x 92 b)
          (stays_inside (is_operator x) (is_space x) x r (λ m. lex m r));
    }

unmarked_passes : (x : ℕ) → (x ≡ 60 → ⊥) → (x ≡ 62 → ⊥) → (x ≡ 38 → ⊥) → Passes x
unmarked_passes x less greater ampersand = go (cases_eq x 34) (cases_eq x 92) (cases_lt x 32)
  where
    go : (x ≡ 34) ⊎ (x ≡ 34 → ⊥) → (x ≡ 92) ⊎ (x ≡ 92 → ⊥) → (x < 32) ⊎ (32 ≤ x) → Passes x
    go (inl e) b c = subst Passes (sym e) quote_passes
    go (inr q) (inl e) c = subst Passes (sym e) backslash_passes
    go (inr q) (inr b) (inl c) = each_below Passes 32 controls_pass x c
    go (inr q) (inr b) (inr l) = bare_passes x q b l less greater ampersand

passes : (x : ℕ) → Passes x
passes x = go (cases_eq x 60) (cases_eq x 62) (cases_eq x 38)
  where
    go : (x ≡ 60) ⊎ (x ≡ 60 → ⊥) → (x ≡ 62) ⊎ (x ≡ 62 → ⊥) → (x ≡ 38) ⊎ (x ≡ 38 → ⊥) → Passes x
    go (inl e) b c = subst Passes (sym e) less_passes
    go (inr a) (inl e) c = subst Passes (sym e) greater_passes
    go (inr a) (inr b) (inl e) = subst Passes (sym e) ampersand_passes
    go (inr a) (inr b) (inr c) = unmarked_passes x a b c

-- a text, and what the lexer makes of the string that stands for it
safe_content : (s r : List ℕ) → content plain (safe_bytes (escape s) ++ 34 ∷ r) ≡ Some s
unfolding content
safe_content [] r = refl
safe_content (x ∷ s) r =
    ap (λ (l : List ℕ). content plain (l ++ 34 ∷ r)) (flat_map-append safe_byte (escape_byte x) (escape s))
    ∙ ap (content plain) (append_assoc (safe_bytes (escape_byte x)) (safe_bytes (escape s)) (34 ∷ r))
    ∙ (passes x).read (safe_bytes (escape s) ++ 34 ∷ r) ∙ ap (prepend (x ∷ [])) (safe_content s r)

safe_lex : (s r : List ℕ) → lex in_string (safe_bytes (escape s) ++ 34 ∷ r) ≡ lex between r
unfolding lex
safe_lex [] r = refl
safe_lex (x ∷ s) r =
    ap (λ (l : List ℕ). lex in_string (l ++ 34 ∷ r)) (flat_map-append safe_byte (escape_byte x) (escape s))
    ∙ ap (lex in_string) (append_assoc (safe_bytes (escape_byte x)) (safe_bytes (escape s)) (34 ∷ r))
    ∙ (passes x).lexed (safe_bytes (escape s) ++ 34 ∷ r) ∙ safe_lex s r

pub safe_quoted : (s r : List ℕ) → lex between (safe_bytes (quoted s) ++ r) ≡ token (string s) ∷ lex between r
unfolding lex
safe_quoted s r =
    ap (λ (l : List ℕ). lex between (34 ∷ (l ++ r))) (flat_map-append safe_byte (escape s) (34 ∷ []))
    ∙ ap (λ (l : List ℕ). lex between (34 ∷ l)) (append_assoc (safe_bytes (escape s)) (34 ∷ []) r)
    ∙ ap₂ (λ o l. token (string_token o) ∷ l) (safe_content s r) (safe_lex s r)

pub plain_quoted : (s r : List ℕ) → lex between (quoted s ++ r) ≡ token (string s) ∷ lex between r
unfolding lex
plain_quoted s r =
    ap (λ (l : List ℕ). lex between (34 ∷ l)) (append_assoc (escape s) (34 ∷ []) r)
    ∙ ap₂ (λ o l. token (string_token o) ∷ l) (content-escape s r) (lex-escape s r)
