-- Whole inputs: a document a line, or documents that are laid out over lines.
use Rattle.std.specs.Prelude.{ℕ, ◌+◌, ◌&&◌, ◌||◌, ◌==◌, Bool, true, List, [], ◌∷◌, ◌++◌, Option, Some, None}
use Rattle.std.specs.Prelude.{Result, Ok, Err, if◌then◌else◌, is_some, length, map, not}
use Rattle.std.specs.List.{list_all, slice_split}
use Rattle.std.specs.Str.{is_utf8}
use Rattle.json.specs.Json.{Json, document}
use Rattle.otel_shown.specs.Shown.{PlainShownSpan}
use Rattle.otel_otlp_read.specs.declared.fault.Fault.{Fault}
use Rattle.otel_otlp_read.specs.declared.fault.Fault.TheVariants as faults
use Rattle.otel_otlp_read.specs.declared.input.LineFault.{LineFault}
use Rattle.otel_otlp_read.specs.declared.left_out.LeftOut.{LeftOut}
use Rattle.otel_otlp_read.specs.Cuts.{parts, without_mark}
use Rattle.otel_otlp_read.specs.Kept.{Kept}
use Rattle.otel_otlp_read.specs.Requests.{read_request}

-- the spans of the request that a text is, if it is JSON
abbrev pub read_parsed : Option Json → Result (Kept PlainShownSpan) Fault
read_parsed None = Err faults.NotJson
read_parsed (Some j) = read_request j

unfoldable pub read_document : List ℕ → Result (Kept PlainShownSpan) Fault
read_document text = if is_utf8 text then read_parsed (document text) else Err faults.NotJson

-- what is read of an input: its spans in order, the faults of its lines with what was left out of them, and how many
-- requests had no spans
pub record PlainReadText : Type 0 where
  pub spans : List PlainShownSpan
  pub faults : List LineFault
  pub spanless : ℕ

-- the lines of a text; a carriage return at the end of one is white space
abbrev pub text_lines : List ℕ → List (List ℕ)
text_lines text = slice_split (λ b. b == 10) text

-- the lines of the text after a line feed, if there is one
abbrev pub lines_after : Option (List ℕ) → List (List ℕ)
lines_after None = []
lines_after (Some text) = text_lines text

-- a line of white space alone
abbrev pub is_space : ℕ → Bool
is_space b = (b == 32) || (b == 9) || (b == 13)

abbrev pub is_blank : List ℕ → Bool
is_blank line = list_all is_space line

-- nothing is read of nothing
abbrev pub nothing_read : PlainReadText
nothing_read = record { spans = []; faults = []; spanless = 0 }

-- what is read of one part of an input and then of another
abbrev pub and_read : PlainReadText → PlainReadText → PlainReadText
and_read first second = record {
  spans = first.spans ++ second.spans;
  faults = first.faults ++ second.faults;
  spanless = first.spanless + second.spanless;
}

-- 1 where there is nothing
abbrev pub one_if_none : {A : Type 0} → List A → ℕ
one_if_none [] = 1
one_if_none (x ∷ xs) = 0

-- how many of batches have no span
abbrev pub spanless_in : {A : Type 0} → List (List A) → ℕ
spanless_in [] = 0
spanless_in (batch ∷ batches) = one_if_none batch + spanless_in batches

-- what was left out of a document that begins in a line
abbrev pub left_fault : ℕ → LeftOut → LineFault
left_fault line left = record { line = line; item = Some left.item; fault = left.fault }

-- 1 where nothing is read, and nothing left out
abbrev pub one_if_spanless : {A : Type 0} → List A → List LeftOut → ℕ
one_if_spanless spans [] = one_if_none spans
one_if_spanless spans (left ∷ others) = 0

-- a document that begins in a line: its spans, or its fault
abbrev pub of_document : ℕ → Result (Kept PlainShownSpan) Fault → PlainReadText
of_document line (Ok read) = record {
  spans = read.kept;
  faults = map (left_fault line) read.left_out;
  spanless = one_if_spanless read.kept read.left_out;
}
of_document line (Err fault) = record {
  spans = [];
  faults = record { line = line; item = None; fault = fault } ∷ [];
  spanless = 0;
}

-- a line: nothing where it is blank, else a document
abbrev pub of_line : ℕ → List ℕ → PlainReadText
of_line number line = if is_blank line then nothing_read else of_document number (read_document line)

-- lines, the first of which has this number: each of them is read, whatever the others are
unfoldable pub read_lines : ℕ → List (List ℕ) → PlainReadText
read_lines number [] = nothing_read
read_lines number (line ∷ lines) = and_read (of_line number line) (read_lines (number + 1) lines)

-- whether a text is JSON
abbrev pub is_json : List ℕ → Bool
is_json text = is_utf8 text && is_some (document text)

-- whether the first line that is not blank is JSON, if there is one
unfoldable pub begins_with_json : List (List ℕ) → Bool
begins_with_json [] = true
begins_with_json (line ∷ lines) = if is_blank line then begins_with_json lines else is_json line

-- a part of an input that begins in a line: a document a line; but where its first line is no JSON, and it is as a
-- whole, one document
unfoldable pub read_part : ℕ → List ℕ → PlainReadText
read_part number text =
    if begins_with_json (text_lines text) || not (is_json text) then read_lines number (text_lines text)
    else of_document number (read_document text)

-- parts, the first of which begins in this line
unfoldable pub read_parts : ℕ → List (List ℕ) → PlainReadText
read_parts number [] = nothing_read
read_parts number (text ∷ texts) =
    and_read (read_part number text) (read_parts (number + length (text_lines text)) texts)

-- an input without a mark: where its first line is JSON, or it is as a whole, one part; else each part by itself
unfoldable pub read_unmarked : List ℕ → PlainReadText
read_unmarked text =
    if begins_with_json (text_lines text) || is_json text then read_part 1 text else read_parts 1 (parts text)

-- an input, with a mark in front of it or without
unfoldable pub read_input : List ℕ → PlainReadText
read_input text = read_unmarked (without_mark text)
