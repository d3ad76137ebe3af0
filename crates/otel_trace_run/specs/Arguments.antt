-- The modes that the arguments of the program ask for, and what is said of wrong ones and of a bad line.
use Rattle.std.specs.Prelude.{ℕ, List, [], ◌∷◌, ◌++◌, length, Option, Some, None, codes, map, string_bytes, option_and_then}
use Rattle.std.specs.Prelude.{if◌then◌else◌, nat_lt, ◌||◌}
use Rattle.std.specs.Fmt.{decimal}
use Rattle.std.specs.Option.{option_map}
use Rattle.std.specs.Str.{bytes_eq}
use Rattle.otel_trace_lines.specs.Numbers.{decimal_in}
use Rattle.otel_trace_steps.specs.declared.steps.Sizes.{Sizes}
use Rattle.otel_trace_run.specs.declared.mode.Asked.{Asked}
use Rattle.otel_trace_run.specs.declared.mode.AskedExport.{AskedExport}
use Rattle.otel_trace_run.specs.declared.mode.AskedProcessor.{AskedProcessor}
use Rattle.otel_trace_run.specs.declared.mode.AskedProcessor.TheVariants as asks
use Rattle.otel_otlp_protobuf.specs.declared.encoding.Encoding.{Encoding}
use Rattle.otel_otlp_protobuf.specs.declared.encoding.Encoding.TheVariants as encodings
use Rattle.otel_trace_run.specs.declared.mode.Mode.{Mode}
use Rattle.otel_trace_run.specs.declared.mode.Mode.TheVariants as modes
use Rattle.otel_trace_run.specs.declared.picture.PictureForm.{PictureForm}
use Rattle.otel_trace_run.specs.declared.picture.PictureForm.TheVariants as forms

-- what is read of the front of words, and the words after it
abbrev pub Front : Type 0 → Type 0
Front X = X × List (List ℕ)

-- where no word stands after it
abbrev pub alone : {X : Type 0} → Front X → Option X
alone (x, []) = Some x
alone (x, word ∷ words) = None

-- where one word at most stands after it
abbrev pub with_one : {X : Type 0} → Front X → Option (Front X)
with_one (x, after) = if nat_lt (length after) 2 then Some (x, after) else None

-- the sizes of `Q B`
abbrev pub batch_in : List (List ℕ) → Option (Front AskedProcessor)
batch_in [] = None
batch_in (queue ∷ []) = None
batch_in (queue ∷ batch ∷ after) =
    option_and_then (λ q. option_map (λ b. (asks.Batch q b, after)) (decimal_in batch)) (decimal_in queue)

-- the processor of `simple`, or of `batch Q B`
abbrev pub processor_in : List (List ℕ) → Option (Front AskedProcessor)
processor_in [] = None
processor_in (kind ∷ after) =
    if bytes_eq kind (codes "simple") then Some (asks.Simple, after)
    else (if bytes_eq kind (codes "batch") then batch_in after else None)

-- `SEED` and a processor
abbrev pub asked_in : List (List ℕ) → Option (Front Asked)
asked_in [] = None
asked_in (seed ∷ kind) =
    option_and_then (λ s. option_map (λ p. (record { seed = s; processor = p.0 }, p.1)) (processor_in kind))
    (decimal_in seed)

-- the encoding that a first word names, or JSON
abbrev pub encoding_in : List (List ℕ) → Front Encoding
encoding_in [] = (encodings.Json, [])
encoding_in (word ∷ after) =
    if bytes_eq word (codes "protobuf") then (encodings.Protobuf, after) else (encodings.Json, word ∷ after)

-- the columns that a word writes, from 20 to 400; those of the words after a provider, or 72
abbrev pub in_range : ℕ → Option ℕ
in_range columns = if nat_lt columns 20 || nat_lt 400 columns then None else Some columns

abbrev pub columns_in : List ℕ → Option ℕ
columns_in digits = option_and_then in_range (decimal_in digits)

abbrev pub given_columns : List (List ℕ) → Option ℕ
given_columns [] = Some 72
given_columns (digits ∷ more) = columns_in digits

-- the sizes of `Q B P`
abbrev pub sizes_in : List (List ℕ) → Option Sizes
sizes_in (queue ∷ batch ∷ producers ∷ []) =
    option_and_then (λ q. option_and_then (λ b. option_map (λ p. record { queue = q; batch = b; producers = p })
    (decimal_in producers)) (decimal_in batch)) (decimal_in queue)
sizes_in _ = None

-- a mode as plain values
pub data PlainMode : Type 0 where
  trace : Asked → PlainMode
  steps : Sizes → PlainMode
  -- with the attributes string, if one is given
  otlp : AskedExport → List (List ℕ) → PlainMode
  picture : Asked → PictureForm → PlainMode

abbrev pub plain_mode : Mode → PlainMode
plain_mode (modes.Trace asked) = trace asked
plain_mode (modes.Steps sizes) = steps sizes
plain_mode (modes.Otlp export given) = otlp export (map string_bytes given.now)
plain_mode (modes.Picture asked form) = picture asked form

abbrev pub exported : Encoding → Front Asked → PlainMode
exported encoding read = otlp (record { encoding = encoding; asked = read.0 }) read.1

abbrev pub otlp_in : List (List ℕ) → Option PlainMode
otlp_in words = option_map (exported (encoding_in words).0) (option_and_then with_one (asked_in (encoding_in words).1))

abbrev pub picture_in : List (List ℕ) → Option PlainMode
picture_in words =
    option_and_then (λ read. option_map (λ columns. picture read.0 (forms.Text columns)) (given_columns read.1))
    (option_and_then with_one (asked_in words))

-- a mode by its word and the words after it
unfoldable pub mode_in : List ℕ → List (List ℕ) → Option PlainMode
mode_in word after =
    if bytes_eq word (codes "trace") then option_map trace (option_and_then alone (asked_in after)) else
    (if bytes_eq word (codes "steps") then option_map steps (sizes_in after) else
    (if bytes_eq word (codes "otlp") then otlp_in after else
    (if bytes_eq word (codes "picture") then picture_in after else
    (if bytes_eq word (codes "svg")
    then option_map (λ asked. picture asked forms.Svg) (option_and_then alone (asked_in after)) else None))))

-- what is said of wrong words
abbrev pub usage_text : List ℕ
usage_text = codes "usage: otel_trace trace SEED simple | trace SEED batch Q B | steps Q B P" ++ 10 ∷ []

-- what is said of a bad line
abbrev pub bad_line_text : ℕ → List ℕ
bad_line_text line = codes "line " ++ (decimal line ++ (codes ": cannot read" ++ 10 ∷ []))
