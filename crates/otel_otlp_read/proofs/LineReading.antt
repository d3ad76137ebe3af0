-- Reading line by line, as a loop does.
use Rattle.std.proofs.Common.{◌≡◌, ◌+◌, ◌<◌, ◌≤◌, ◌⊎◌, ℕ, Bool, true, false, cond, List, [], ◌∷◌, Option, None, Some}
use Rattle.std.proofs.Common.{Result, Ok, Err}
use Rattle.std.proofs.Common.{IfSome, length, refl, sym, ap, ◌∙◌, arith, inl, inr, add_assoc, add-zero}
use Rattle.std.proofs.Common.{append_assoc, append-nil}
use Rattle.std.specs.Borrow.{Bor}
use Rattle.otel_otlp_read.specs.declared.fault.Fault.{Fault}
use Rattle.otel_shown.specs.Shown.{PlainShownSpan}
use Rattle.otel_otlp_read.specs.Kept.{Kept}
use Rattle.otel_otlp_read.specs.declared.left_out.LeftOut.{LeftOut}
use Rattle.otel_otlp_read.specs.Inputs.{PlainReadText, and_read, begins_with_json, is_blank, is_json, lines_after}
use Rattle.otel_otlp_read.specs.Inputs.{nothing_read, of_document, of_line, one_if_none, one_if_spanless}
use Rattle.otel_otlp_read.specs.Inputs.{read_document, read_lines, text_lines}
use Rattle.otel_otlp_read.proofs.LeftLines.{left, left_text}

-- the lines that are left, of which this is the first
pub first_of_left : (text : Option (Bor (List ℕ))) (rest : Bor (List ℕ)) (line : List ℕ) (after : Option (Bor (List ℕ)))
    → text ≡ Some rest → text_lines rest.now ≡ line ∷ lines_after (left_text after)
    → lines_after (left_text text) ≡ line ∷ lines_after (left_text after)
first_of_left text rest line after is cut = ap (λ (o : Option (Bor (List ℕ))). lines_after (left_text o)) is ∙ cut

pub begins_blank : (line : List ℕ) (lines : List (List ℕ)) → is_blank line ≡ true
    → begins_with_json (line ∷ lines) ≡ begins_with_json lines
unfolding begins_with_json
begins_blank line lines is = ap (λ t. cond t (begins_with_json lines) (is_json line)) is

pub begins_there : (line : List ℕ) (lines : List (List ℕ)) → is_blank line ≡ false
    → begins_with_json (line ∷ lines) ≡ is_json line
unfolding begins_with_json
begins_there line lines is = ap (λ t. cond t (begins_with_json lines) (is_json line)) is

pub begins_none : begins_with_json [] ≡ true
unfolding begins_with_json
begins_none = refl

-- nothing more
pub and_nothing : (read : PlainReadText) → and_read read nothing_read ≡ read
and_nothing read = λ i. record {
  spans = append-nil read.spans i;
  faults = append-nil read.faults i;
  spanless = add-zero read.spanless i;
}

pub read_none : (number : ℕ) (read : PlainReadText) → and_read read (read_lines number []) ≡ read
unfolding read_lines
read_none number read = and_nothing read

-- a line that is blank, and one that is not
pub line_blank : (number : ℕ) (line : List ℕ) (read : PlainReadText) → is_blank line ≡ true
    → and_read read (of_line number line) ≡ read
line_blank number line read is =
    ap (λ t. and_read read (cond t nothing_read (of_document number (read_document line)))) is ∙ and_nothing read

pub line_there : (number : ℕ) (line : List ℕ) (read : PlainReadText) → is_blank line ≡ false
    → and_read read (of_line number line) ≡ and_read read (of_document number (read_document line))
line_there number line read is =
    ap (λ t. and_read read (cond t nothing_read (of_document number (read_document line)))) is

-- a line has one request at most
one_small : {A : Type 0} (xs : List A) → one_if_none xs ≤ 1
one_small [] = omega arith
one_small (x ∷ xs) = omega arith

spanless_small : {A : Type 0} (spans : List A) (left_out : List LeftOut) → one_if_spanless spans left_out ≤ 1
spanless_small spans [] = one_small spans
spanless_small spans (left ∷ others) = omega arith

pub document_few : (number : ℕ) (read : Result (Kept PlainShownSpan) Fault) → (of_document number read).spanless ≤ 1
document_few number (Ok read) = spanless_small read.kept read.left_out
document_few number (Err fault) = omega arith

few_by : (t : Bool) (read : PlainReadText) → read.spanless ≤ 1 → (cond t nothing_read read).spanless ≤ 1
few_by true read h = omega arith
few_by false read h = h

pub line_few : (number : ℕ) (line : List ℕ) → (of_line number line).spanless ≤ 1
line_few number line =
    few_by (is_blank line) (of_document number (read_document line)) (document_few number (read_document line))

-- one line more
pub read_step : (number : ℕ) (line : List ℕ) (lines : List (List ℕ)) (read now : PlainReadText)
    → now ≡ and_read read (of_line number line)
    → and_read now (read_lines (number + 1) lines) ≡ and_read read (read_lines number (line ∷ lines))
unfolding read_lines
read_step number line lines read now is =
    let first = of_line number line in
    let others = read_lines (number + 1) lines in
    ap (λ r. and_read r others) is
    ∙ λ i. record {
      spans = append_assoc read.spans first.spans others.spans i;
      faults = append_assoc read.faults first.faults others.faults i;
      spanless = add_assoc read.spanless first.spanless others.spanless i;
    }

-- fewer bytes are left
pub left_falls : (after : Option (Bor (List ℕ))) (rest : Bor (List ℕ))
    → IfSome after (λ a. length a.now < length rest.now) → left (left_text after) ≤ length rest.now
left_falls None rest h = omega arith
left_falls (Some a) rest h = omega arith
