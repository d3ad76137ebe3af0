-- The settings that a text says, by lines `NAME=VALUE`, and what they configure.
use Rattle.std.specs.Prelude.{◌≡◌, ℕ, List, [], ◌∷◌, Option, Some, None, bytes_eq, codes, if◌then◌else◌, unwrap_or}
use Rattle.std.specs.Prelude.{option_and_then}
use Rattle.std.specs.FinMap.{empty, get, insert}
use Rattle.std.specs.List.{after_first, before_first, fold}
use Rattle.std.specs.Option.{option_or}
use Rattle.std.specs.Str.Lines.{lines}
use Rattle.opentelemetry.specs.TextMap.{TextMap}
use Rattle.opentelemetry.specs.Tracestate.{is_equals}
use Rattle.otel_sampling.specs.ConfigStrings.{IsConfiguredNumber, PlainConfigStrings}
use Rattle.otel_host.specs.Environment.{ReadsResource, ReadsSettings}
use Rattle.otel_embed.specs.declared.settings.ProcessorKind.{ProcessorKind}
use Rattle.otel_embed.specs.declared.settings.ProcessorKind.TheVariants as kinds

-- the name and the value of a line: what stands before its first equals sign and what stands after it; all of it and
-- nothing where it has none
abbrev pub setting_of : List ℕ → List ℕ × List ℕ
setting_of line = (before_first is_equals line, after_first is_equals line)

-- settings with that of one more line, in place of an earlier one of its name; an empty line is none
abbrev pub with_line : TextMap → List ℕ → TextMap
with_line settings [] = settings
with_line settings (b ∷ bs) = insert settings (setting_of (b ∷ bs)).0 (setting_of (b ∷ bs)).1

-- the settings of a text: those of its lines, in their order
abbrev pub settings_of : List ℕ → TextMap
settings_of text = fold with_line empty (lines text)

-- what a line says of a name, if anything
abbrev pub said_by : List ℕ → List ℕ → Option (List ℕ)
said_by name [] = None
said_by name (b ∷ bs) = if bytes_eq name (setting_of (b ∷ bs)).0 then Some (setting_of (b ∷ bs)).1 else None

-- what the last of these lines that says something of a name says
abbrev pub said_last : List ℕ → List (List ℕ) → Option (List ℕ)
said_last name [] = None
said_last name (line ∷ more) = option_or (said_last name more) (said_by name line)

-- a text's setting of a name is what the last of its lines of that name says
abbrev pub LastLinesCount : Type 0
LastLinesCount = (text name : List ℕ) → get (settings_of text) name ≡ said_last name (lines text)

-- what settings say of a name, if anything
abbrev pub IsSetting : TextMap → List ℕ → Option (List ℕ) → Type 0
IsSetting settings name found = found ≡ get settings name

-- the strings of a configuration are the settings of their names, and the program is called otel
pub record AreStringsOf (settings : TextMap) (strings : PlainConfigStrings) : Type 0 where
  pub resource : ReadsResource (IsSetting settings) (codes "otel") strings.resource
  pub others : ReadsSettings (IsSetting settings) strings

-- the setting that says when the processor exports
abbrev pub processor_name : List ℕ
processor_name = codes "OTEL_SPAN_PROCESSOR"

-- the kind of processor that a text names
abbrev pub kind_named : List ℕ → Option ProcessorKind
kind_named text =
    if bytes_eq text (codes "simple") then Some kinds.Simple
    else if bytes_eq text (codes "batch") then Some kinds.Batch
    else if bytes_eq text (codes "eager") then Some kinds.Eager
    else None

-- the kind of processor that settings name
abbrev pub named_kind : TextMap → Option ProcessorKind
named_kind settings = option_and_then kind_named (get settings processor_name)

-- the kind of processor that settings ask for: an eager one where they name none
abbrev pub processor_kind : TextMap → ProcessorKind
processor_kind settings = unwrap_or (named_kind settings) kinds.Eager

-- the setting that says how many exported spans are kept at most until they are drained
abbrev pub max_undrained_name : List ℕ
max_undrained_name = codes "OTEL_C_MAX_UNDRAINED_SPANS"

-- how many that are: 65,536 where it is not set, or does not read
abbrev pub IsMaxUndrained : TextMap → ℕ → Type 0
IsMaxUndrained settings most = IsConfiguredNumber 64 (get settings max_undrained_name) 65_536 most
