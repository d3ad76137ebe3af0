-- What is found where a line is read: in the line, after its word, and where a part of it is to stand.
use Rattle.std.specs.Prelude.{◌≡◌, ℕ, List, Option, Some, None}
use Rattle.std.specs.Option.{option_map}
use Rattle.opentelemetry.specs.declared.trace.status.Status.{Status}
use Rattle.opentelemetry.specs.Plain.{PlainStatus}
use Rattle.opentelemetry.specs.PlainValues.{plain_status}
use Rattle.otel_trace_lines.specs.declared.command.Command.{Command}
use Rattle.otel_trace_lines.specs.declared.dialect.Dialect.{Dialect}
use Rattle.otel_trace_lines.specs.Commands.{PlainCommand, has_more, plain_command}
use Rattle.otel_trace_lines.specs.Dialects.{MayHave}
use Rattle.otel_trace_lines.specs.Lines.{IsOfForm, IsStatus, LineForm, Reads, field, form_of, last_field}

-- what is found is of this kind, and nothing is found only where nothing is
abbrev pub Finds : {X : Type 0} → (X → Type 0) → Option X → Type 0
Finds {X} is None = (x : X) → is x → ⊥
Finds is (Some x) = is x

-- a line that reads as a command
abbrev pub IsCommand : Dialect → List ℕ → Type 0
IsCommand dialect line = (command : PlainCommand) × Reads dialect line command

-- what is found in a line: a command as which it reads
abbrev pub LineGives : Dialect → List ℕ → Option Command → Type 0
LineGives dialect line found = Finds (Reads dialect line) (option_map plain_command found)

-- a form that begins with a word, and these fields are of the form after its space
abbrev pub HasFields : List ℕ → List ℕ → LineForm → Type 0
HasFields word fields (field front after) = (front ≡ word) × IsOfForm fields after
HasFields word fields _ = ⊥

-- after this word's space these fields are a command's
abbrev pub AreFields : List ℕ → List ℕ → Type 0
AreFields word fields = (command : PlainCommand) × HasFields word fields (form_of command)

-- the same of a command that the dialect has
abbrev pub AreFieldsIn : Dialect → List ℕ → List ℕ → Type 0
AreFieldsIn dialect word fields =
    (command : PlainCommand) × HasFields word fields (form_of command) × MayHave dialect (has_more command)

-- a text that spells a status
abbrev pub SpellsStatus : List ℕ → Type 0
SpellsStatus text = (how : PlainStatus) × IsStatus text how

-- what is found after a word: a command of that word whose fields stand there
abbrev pub FieldsGive : List ℕ → List ℕ → Option Command → Type 0
FieldsGive word fields found =
    Finds (λ command. HasFields word fields (form_of command)) (option_map plain_command found)

-- the same of commands that the dialect has
abbrev pub FieldsGiveIn : Dialect → List ℕ → List ℕ → Option Command → Type 0
FieldsGiveIn dialect word fields None = (command : PlainCommand) → HasFields word fields (form_of command)
    → MayHave dialect (has_more command) → ⊥
FieldsGiveIn dialect word fields (Some command) =
    HasFields word fields (form_of (plain_command command)) × MayHave dialect (has_more (plain_command command))

-- what is found where a word is all of a line: a command of that word alone
abbrev pub WordGives : List ℕ → Option Command → Type 0
WordGives word found = Finds (λ command. form_of command ≡ last_field word) (option_map plain_command found)

-- what is found where a status is to stand: the status
abbrev pub StatusGives : List ℕ → Option Status → Type 0
StatusGives text found = Finds (IsStatus text) (option_map plain_status found)
