-- Cutting a text into parts, counting their lines, and reading them one after the other.
use Rattle.std.specs.Prelude.{◌||◌, not}
use Rattle.std.proofs.Common.{◌≡◌, ◌+◌, ◌≤◌, ◌<◌, ℕ, Bool, true, false, cond, eqb, List, [], ◌∷◌, ◌++◌, Option, None, Some}
use Rattle.std.proofs.Common.{IfSome, length, refl, sym, ap, ◌∙◌, arith, append-nil, append_assoc, add_assoc}
use Rattle.std.specs.Borrow.{Bor}
use Rattle.std.specs.List.{onto_first}
use Rattle.otel_otlp_read.specs.Inputs.{PlainReadText, and_read, begins_with_json, is_json, nothing_read, of_document}
use Rattle.otel_otlp_read.specs.Inputs.{read_document, read_lines, read_part, read_parts, read_unmarked, text_lines}
use Rattle.otel_otlp_read.specs.Cuts.{cuts, parts, parts_after}
use Rattle.otel_otlp_read.proofs.LeftLines.{left, left_text}
use Rattle.otel_otlp_read.proofs.LineReading.{and_nothing, document_few, line_few}

-- bytes in front of the first of parts
abbrev pub onto_part : List ℕ → List (List ℕ) → List (List ℕ)
onto_part front [] = front ∷ []
onto_part front (part ∷ others) = (front ++ part) ∷ others

-- a byte in front of a text is cut off with it, or goes into its first part
abbrev pub cut_or_onto : Bool → ℕ → List (List ℕ) → List (List ℕ)
cut_or_onto t b others = cond t ([] ∷ others) (onto_first b others)

none_onto : (t : Bool) (b : ℕ) (others : List (List ℕ)) → onto_part [] (cut_or_onto t b others) ≡ cut_or_onto t b others
none_onto true b others = refl
none_onto false b [] = refl
none_onto false b (part ∷ others) = refl

-- there is a part, in front of which nothing stands at first
pub parts_whole : (text : List ℕ) → onto_part [] (parts text) ≡ parts text
unfolding parts
parts_whole [] = refl
parts_whole (b ∷ bs) = none_onto (cuts (b ∷ bs)) b (parts bs)

one_onto : (front : List ℕ) (b : ℕ) (others : List (List ℕ))
    → onto_part (front ++ b ∷ []) others ≡ onto_part front (onto_first b others)
one_onto front b [] = refl
one_onto front b (part ∷ others) = ap (λ first. first ∷ others) (append_assoc front (b ∷ []) part)

-- the parts of a text that begins with a byte
parts_front : (t : Bool) (b : ℕ) (bs : List ℕ) → cuts (b ∷ bs) ≡ t → parts (b ∷ bs) ≡ cut_or_onto t b (parts bs)
unfolding parts
parts_front t b bs e = ap (λ u. cut_or_onto u b (parts bs)) e

-- one byte more belongs to the first part
pub part_goes_on : (front : List ℕ) (b : ℕ) (bs rest : List ℕ) (total : List (List ℕ)) → rest ≡ b ∷ bs
    → cuts rest ≡ false → onto_part front (parts rest) ≡ total → onto_part (front ++ b ∷ []) (parts bs) ≡ total
part_goes_on front b bs rest total is e so_far =
    one_onto front b (parts bs)
    ∙ sym (ap (onto_part front) (ap parts is ∙ parts_front false b bs (ap cuts (sym is) ∙ e))) ∙ so_far

-- the next one begins
pub part_stops : (front : List ℕ) (b : ℕ) (bs rest : List ℕ) (total : List (List ℕ)) → rest ≡ b ∷ bs
    → cuts rest ≡ true → onto_part front (parts rest) ≡ total → total ≡ front ∷ parts bs
part_stops front b bs rest total is e so_far =
    sym so_far ∙ ap (onto_part front) (ap parts is ∙ parts_front true b bs (ap cuts (sym is) ∙ e))
    ∙ ap (λ first. first ∷ parts bs) (append-nil front)

-- nothing is left
pub part_ends : (front rest : List ℕ) (total : List (List ℕ)) → rest ≡ [] → onto_part front (parts rest) ≡ total
    → total ≡ front ∷ []
unfolding parts
part_ends front rest total none so_far =
    sym so_far ∙ ap (λ r. onto_part front (parts r)) none ∙ ap (λ first. first ∷ []) (append-nil front)

-- a text has a line
some_line : (t : Bool) (b : ℕ) (lines : List (List ℕ)) → 1 ≤ length (cut_or_onto t b lines)
some_line true b lines = omega arith
some_line false b [] = omega arith
some_line false b (line ∷ lines) = omega arith

pub lines_some : (text : List ℕ) → 1 ≤ length (text_lines text)
lines_some [] = omega arith
lines_some (b ∷ bs) = some_line (eqb b 10) b (text_lines bs)

-- fewer bytes are left, and lines at most
pub part_falls : (after : Option (Bor (List ℕ))) (part rest : ℕ) → IfSome after (λ a. part + length a.now < rest)
    → part ≤ rest → part + 1 + left (left_text after) ≤ rest + 1
part_falls None part rest h k = omega arith
part_falls (Some a) part rest h k = omega arith

-- the parts that are left, of which this is the first
pub first_of_parts : (text : Option (Bor (List ℕ))) (rest : Bor (List ℕ)) (part : List ℕ) (after : Option (Bor (List ℕ)))
    → text ≡ Some rest → parts rest.now ≡ part ∷ parts_after (left_text after)
    → parts_after (left_text text) ≡ part ∷ parts_after (left_text after)
first_of_parts text rest part after is cut = ap (λ (o : Option (Bor (List ℕ))). parts_after (left_text o)) is ∙ cut

-- lines have a request each, at most
pub lines_few : (number : ℕ) (lines : List (List ℕ)) → (read_lines number lines).spanless ≤ length lines
unfolding read_lines
lines_few number [] = omega arith
lines_few number (line ∷ lines) = omega (arith, line_few number line, lines_few (number + 1) lines)

part_few_by : (t : Bool) (number : ℕ) (text : List ℕ)
    → (cond t (read_lines number (text_lines text)) (of_document number (read_document text))).spanless
    ≤ length (text_lines text)
part_few_by true number text = lines_few number (text_lines text)
part_few_by false number text = omega (arith, document_few number (read_document text), lines_some text)

pub part_few : (number : ℕ) (text : List ℕ) → (read_part number text).spanless ≤ length (text_lines text)
unfolding read_part
part_few number text = part_few_by (begins_with_json (text_lines text) || not (is_json text)) number text

-- one part more
pub part_step : (number : ℕ) (text : List ℕ) (texts : List (List ℕ)) (read now : PlainReadText)
    → now ≡ and_read read (read_part number text)
    → and_read now (read_parts (number + length (text_lines text)) texts)
    ≡ and_read read (read_parts number (text ∷ texts))
unfolding read_parts
part_step number text texts read now is =
    let first = read_part number text in
    let others = read_parts (number + length (text_lines text)) texts in
    ap (λ r. and_read r others) is
    ∙ λ i. record {
      spans = append_assoc read.spans first.spans others.spans i;
      faults = append_assoc read.faults first.faults others.faults i;
      spanless = add_assoc read.spanless first.spanless others.spanless i;
    }

pub parts_none : (number : ℕ) (read : PlainReadText) → and_read read (read_parts number []) ≡ read
unfolding read_parts
parts_none number read = and_nothing read

-- which way a part is read
pub part_lines : (number : ℕ) (text : List ℕ) → (begins_with_json (text_lines text) || not (is_json text)) ≡ true
    → read_part number text ≡ read_lines number (text_lines text)
unfolding read_part
part_lines number text e =
    ap (λ t. cond t (read_lines number (text_lines text)) (of_document number (read_document text))) e

pub part_whole : (number : ℕ) (text : List ℕ) → (begins_with_json (text_lines text) || not (is_json text)) ≡ false
    → read_part number text ≡ of_document number (read_document text)
unfolding read_part
part_whole number text e =
    ap (λ t. cond t (read_lines number (text_lines text)) (of_document number (read_document text))) e

-- which way an input is read
pub input_whole : (text : List ℕ) → (begins_with_json (text_lines text) || is_json text) ≡ true
    → read_unmarked text ≡ read_part 1 text
unfolding read_unmarked
input_whole text e = ap (λ t. cond t (read_part 1 text) (read_parts 1 (parts text))) e

pub input_parts : (text : List ℕ) → (begins_with_json (text_lines text) || is_json text) ≡ false
    → read_unmarked text ≡ read_parts 1 (parts text)
unfolding read_unmarked
input_parts text e = ap (λ t. cond t (read_part 1 text) (read_parts 1 (parts text))) e

-- one of two tests passes, or none
pub or_first : (a b : Bool) → a ≡ true → (a || b) ≡ true
or_first a b e = ap (λ t. t || b) e

pub or_second : (a b : Bool) → b ≡ true → (a || b) ≡ true
or_second true b e = refl
or_second false b e = e

pub or_none : (a b : Bool) → a ≡ false → b ≡ false → (a || b) ≡ false
or_none a b e k = ap (λ t. t || b) e ∙ k
