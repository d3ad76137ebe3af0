-- Which word of arguments that ask for nothing does not read, and what is wanted in its place.
use Rattle.std.specs.Prelude.{ℕ, Bool, true, false, List, [], ◌∷◌, ◌++◌, Option, Some, None, codes, if◌then◌else◌}
use Rattle.std.specs.Prelude.{Result, Ok, Err}
use Rattle.std.specs.Option.{option_map}
use Rattle.std.specs.Result.{result_err}
use Rattle.std.specs.Str.{bytes_eq}
use Rattle.std.specs.Str.Parse.{starts_with_minus}
use Rattle.otel_picture.specs.Choices.{every}
use Rattle.otel_trace_lines.specs.Numbers.{decimal_in}
use Rattle.otel_trace_run.specs.Arguments.{columns_in, encoding_in}
use Rattle.otel_trace_run.specs.AskedViews.{form_in, narrowed}
use Rattle.otel_trace_run.specs.Pages.{is_help, is_version, page_of_mode, usage_in}
use Rattle.otel_trace_run.specs.declared.wrong_words.Refusal.{Refusal}
use Rattle.otel_trace_run.specs.declared.wrong_words.TheConstants.{CHOICE, COLUMNS, FORM, ID, MODE, NOTHING, NUMBER}
use Rattle.otel_trace_run.specs.declared.wrong_words.TheConstants.{PROCESSOR, SEED}
use Rattle.otel_trace_run.specs.declared.wrong_words.Wanted.{Wanted}
use Rattle.otel_trace_run.specs.declared.wrong_words.Wanted.TheVariants as wants
use Rattle.otel_trace_run.specs.declared.wrong_words.Wrong.{Wrong}
use Rattle.otel_trace_run.specs.declared.wrong_words.Wrong.TheVariants as wrongs

-- a word that does not read, or the end of the words, and what is wanted there
pub data PlainWrong : Type 0 where
  word : List ℕ → Wanted → PlainWrong
  end : Wanted → PlainWrong

abbrev pub plain_wrong : Wrong → PlainWrong
plain_wrong (wrongs.Word text wanted) = word text.now wanted
plain_wrong (wrongs.End wanted) = end wanted

-- the words after those that read, or what is wrong
abbrev pub Passed : Type 0
Passed = Result (List (List ℕ)) PlainWrong

-- what follows a word that reads; another one is wrong
abbrev pub if_reads : {X A : Type 0} → List ℕ → Wanted → Option X → Result A PlainWrong → Result A PlainWrong
if_reads text wanted None after = Err (word text wanted)
if_reads text wanted (Some x) after = after

-- where the words before read, what is wrong after them
abbrev pub and_then : {A : Type 0} → (List (List ℕ) → Result A PlainWrong) → Passed → Result A PlainWrong
and_then after (Ok words) = after words
and_then after (Err wrong) = Err wrong

-- no word is wanted
abbrev pub pass_nothing : List (List ℕ) → Result (Unit {0}) PlainWrong
pass_nothing [] = Ok tt
pass_nothing (text ∷ words) = Err (word text wants.Nothing)

-- a number is
abbrev pub pass_number : Wanted → List (List ℕ) → Passed
pass_number wanted [] = Err (end wanted)
pass_number wanted (text ∷ words) = if_reads text wanted (decimal_in text) (Ok words)

-- `simple`, or `batch Q B`
abbrev pub pass_processor : List (List ℕ) → Passed
pass_processor [] = Err (end wants.Processor)
pass_processor (text ∷ words) =
    if bytes_eq text (codes "simple") then Ok words else
    (if bytes_eq text (codes "batch")
    then and_then (pass_number wants.Number) (pass_number wants.Number words) else Err (word text wants.Processor))

-- `SEED` and a processor
abbrev pub pass_asked : List (List ℕ) → Passed
pass_asked words = and_then pass_processor (pass_number wants.Seed words)

-- one word at most, whatever it is
abbrev pub pass_one : List (List ℕ) → Result (Unit {0}) PlainWrong
pass_one [] = Ok tt
pass_one (text ∷ words) = pass_nothing words

-- columns, if there is a word
abbrev pub pass_columns : List (List ℕ) → Result (Unit {0}) PlainWrong
pass_columns [] = Ok tt
pass_columns (text ∷ words) = if_reads text wants.Columns (columns_in text) (pass_nothing words)

-- the mode that a word for help is asked of, if there is a word
abbrev pub pass_help : List (List ℕ) → Result (Unit {0}) PlainWrong
pass_help [] = Ok tt
pass_help (text ∷ words) = if_reads text wants.Mode (page_of_mode text) (pass_nothing words)

-- what is wanted after a word that chooses among traces, if it is one
unfoldable pub wanted_after : List ℕ → Option Wanted
wanted_after text =
    if bytes_eq text (codes "--slowest") then Some wants.Number else
    (if bytes_eq text (codes "--trace") then Some wants.TraceId else None)

-- words that choose among traces
abbrev mutual
  pub pass_choices : List (List ℕ) → Result (Unit {0}) PlainWrong
  pass_choices [] = Ok tt
  pass_choices (text ∷ words) =
      if bytes_eq text (codes "--errors") then pass_choices words else
      (if bytes_eq text (codes "--attributes") then pass_choices words
      else pass_choice text (wanted_after text) words)

  pub pass_choice : List ℕ → Option Wanted → List (List ℕ) → Result (Unit {0}) PlainWrong
  pass_choice text None words = Err (word text wants.Choice)
  pass_choice text (Some wanted) [] = Err (end wanted)
  pass_choice text (Some wanted) (value ∷ words) =
      if_reads value wanted (narrowed text value every) (pass_choices words)

-- a form, if the first word does not begin with a minus, and such words
abbrev pub pass_view : List (List ℕ) → Result (Unit {0}) PlainWrong
pass_view [] = Ok tt
pass_view (text ∷ words) =
    if starts_with_minus text then pass_choices (text ∷ words)
    else if_reads text wants.Form (form_in text) (pass_choices words)

-- the words after the first one, of a mode whose usage is not fixed
unfoldable pub pass_mode : List ℕ → List (List ℕ) → Result (Unit {0}) PlainWrong
pass_mode text words =
    if bytes_eq text (codes "otlp") then and_then pass_one (pass_asked (encoding_in words).1) else
    (if bytes_eq text (codes "picture") then and_then pass_columns (pass_asked words) else
    (if bytes_eq text (codes "svg") then and_then pass_nothing (pass_asked words) else
    (if bytes_eq text (codes "view") then pass_view words else Err (word text wants.Mode))))

-- the first word and those after it. Of the modes `trace` and `steps` nothing but their usage is said
unfoldable pub pass_words : List (List ℕ) → Result (Unit {0}) PlainWrong
pass_words [] = Err (end wants.Mode)
pass_words (text ∷ words) =
    if is_help text then pass_help words else
    (if is_version text then pass_nothing words else
    (if bytes_eq text (codes "trace") then Ok tt else
    (if bytes_eq text (codes "steps") then Ok tt else pass_mode text words)))

-- what is wanted, in words
abbrev pub wanted_text : Wanted → List ℕ
wanted_text wants.Mode = MODE.now
wanted_text wants.Seed = SEED.now
wanted_text wants.Processor = PROCESSOR.now
wanted_text wants.Number = NUMBER.now
wanted_text wants.Columns = COLUMNS.now
wanted_text wants.Form = FORM.now
wanted_text wants.Choice = CHOICE.now
wanted_text wants.TraceId = ID.now
wanted_text wants.Nothing = NOTHING.now

unfoldable pub word_line : List ℕ → List ℕ
word_line text = codes "cannot read the word: " ++ (text ++ codes "\n")

unfoldable pub wanted_line : Wanted → List ℕ
wanted_line wanted = codes "wanted: " ++ (wanted_text wanted ++ codes "\n")

-- what is said of it, after the usage
abbrev pub wrong_text : Option PlainWrong → List ℕ
wrong_text None = []
wrong_text (Some (word text wanted)) = word_line text ++ wanted_line wanted
wrong_text (Some (end wanted)) = wanted_line wanted

-- what is said of arguments that ask for nothing: a usage, and what is wrong with them
abbrev pub refusal_text : Refusal → List ℕ
refusal_text refusal = refusal.usage.now ++ wrong_text (option_map plain_wrong refusal.wrong)

abbrev pub refusal_in : List (List ℕ) → List ℕ
refusal_in words = usage_in words ++ wrong_text (result_err (pass_words words))
