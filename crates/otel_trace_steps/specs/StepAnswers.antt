-- What lines of steps do to a batch queue over an exporter in memory, and the text that answers them.
use Rattle.std.specs.Prelude.{◌≡◌, ◌⊎◌, ℕ, ◌+◌, List, [], ◌∷◌, ◌++◌, length, Option, Some, None, Ok}
use Rattle.std.specs.Option.{option_map}
use Rattle.std.specs.Str.Lines.{lines}
use Rattle.otel_batch.specs.PlainBatchConfig.{PlainBatchConfig, default_batch_config, cut_to_queue}
use Rattle.otel_export.specs.StoredBatches.{StoredBatches, StoresBatch, none_stored, stored_told}
use Rattle.otel_batch.specs.MachineState.{Machine, first_machine}
use Rattle.otel_batch.specs.MachineRun.{IsStep}
use Rattle.otel_batch.specs.declared.machine.step.Outcome.{Outcome}
use Rattle.otel_export.specs.declared.trace.export.SpanExporter.{Ghosts}
use Rattle.otel_console.specs.SpanText.{line}
use Rattle.otel_trace_steps.specs.StepLines.{IsBadOrder, ReadsOrder}
use Rattle.otel_trace_steps.specs.StepTexts.{outcome_text, state_text}
use Rattle.otel_trace_steps.specs.declared.steps.step_lines.Order.{Order}
use Rattle.otel_trace_steps.specs.declared.steps.step_lines.Order.TheVariants as orders
use Rattle.otel_trace_steps.specs.declared.steps.Sizes.{Sizes}

-- a new machine of these sizes: a batch has no more spans than may wait, and the exporter has no batch
abbrev pub machine_of : Sizes → Machine StoredBatches
machine_of sizes =
    let config : PlainBatchConfig =
    record default_batch_config { max_queue_size = sizes.queue; max_export_batch_size = sizes.batch } in
    first_machine none_stored (cut_to_queue config) sizes.producers

-- what an exporter in memory does at each call: an export stores its batch, and the others do nothing
abbrev pub memory_calls : Ghosts StoredBatches
memory_calls = record {
  told = stored_told;
  export_gives = StoresBatch;
  shutdown_gives = λ m _ answer after. (answer ≡ Ok tt) × (after ≡ m);
  flush_gives = λ m answer after. (answer ≡ Ok tt) × (after ≡ m);
  resource_gives = λ m _ after. after ≡ m;
}

-- what an order does, and its answer: a step is taken, and the question for the state changes nothing
abbrev pub Obeys : Machine StoredBatches → Order → List ℕ → Machine StoredBatches → Type 0
Obeys m (orders.Step step) text after =
    (outcome : Outcome) × IsStep memory_calls m step outcome after × (text ≡ line (outcome_text after.hand outcome))
Obeys m orders.State text after = (after ≡ m) × (text ≡ line (state_text m))

-- what an order does that gets no answer: its step is taken
abbrev pub ObeysUntold : Machine StoredBatches → Order → Machine StoredBatches → Type 0
ObeysUntold m (orders.Step step) after = (outcome : Outcome) × IsStep memory_calls m step outcome after
ObeysUntold m orders.State after = after ≡ m

-- a line gets no answer: nothing is done, or what it reads as
abbrev pub MayObey : Machine StoredBatches → List ℕ → Machine StoredBatches → Type 0
MayObey m bytes after = (after ≡ m) ⊎ ((order : Order) × ReadsOrder bytes order × ObeysUntold m order after)

-- the line of this number is bad: nothing is done, and nothing answered
pub record RefusesOrder (m : Machine StoredBatches) (number : ℕ) (bytes : List ℕ) (bad_line : Option ℕ) (text : List ℕ)
    (after : Machine StoredBatches) : Type 0 where
  pub is_bad : IsBadOrder bytes
  pub numbered : bad_line ≡ Some number
  pub says_nothing : text ≡ []
  pub stays : after ≡ m

-- a line is obeyed and answered, and then others
pub record ObeysThen (m : Machine StoredBatches) (bytes text : List ℕ)
    (go_on : Machine StoredBatches → List ℕ → Type 0) : Type 0 where
  pub order : Order
  pub answer : List ℕ
  pub rest : List ℕ
  pub next : Machine StoredBatches
  pub reads : ReadsOrder bytes order
  pub obeys : Obeys m order answer next
  pub others : go_on next rest
  pub joined : text ≡ answer ++ rest

-- what lines do, one by one up to the first bad one, and their answers. Empty lines are left out, but counted: so many
-- lines stand before these
abbrev pub ObeysEach : Machine StoredBatches → ℕ → List (List ℕ) → Option ℕ → List ℕ → Machine StoredBatches → Type 0
ObeysEach m number [] bad_line text after = (bad_line ≡ None) × (text ≡ []) × (after ≡ m)
ObeysEach m number ([] ∷ more) bad_line text after = ObeysEach m (number + 1) more bad_line text after
ObeysEach m number ((b ∷ bytes) ∷ more) bad_line text after =
    RefusesOrder m (number + 1) (b ∷ bytes) bad_line text after
    ⊎ ObeysThen m (b ∷ bytes) text (λ next rest. ObeysEach next (number + 1) more bad_line rest after)

-- what a text does to a machine, and the text that answers it
abbrev pub AnswersLines : Machine StoredBatches → List ℕ → Option ℕ → List ℕ → Machine StoredBatches → Type 0
AnswersLines m text bad_line answers after = ObeysEach m 0 (lines text) bad_line answers after

-- where a text has no bad line, another after its end goes on from what it does, with its lines counted through
abbrev pub GoesOn : List ℕ → List ℕ → Type 0
GoesOn first second = (m middle after : Machine StoredBatches) (bad_line : Option ℕ) (answers more : List ℕ)
    → AnswersLines m first None answers middle → AnswersLines middle second bad_line more after
    → AnswersLines m (first ++ second) (option_map (λ n. length (lines first) + n) bad_line) (answers ++ more) after

-- the lines of a text in front of one of them were obeyed and answered, and that one got no answer
pub record AnswersBeginning (m : Machine StoredBatches) (text answers : List ℕ) (after : Machine StoredBatches)
    : Type 0 where
  pub done : List (List ℕ)
  pub last : List ℕ
  pub left : List (List ℕ)
  pub middle : Machine StoredBatches
  pub parts : lines text ≡ done ++ last ∷ left
  pub obeyed : ObeysEach m 0 done None answers middle
  pub untold : MayObey middle last after

-- these answers are those to a beginning of the lines of a text
pub record BeginsAnswers (m : Machine StoredBatches) (text answers : List ℕ) : Type 0 where
  pub done : List (List ℕ)
  pub left : List (List ℕ)
  pub after : Machine StoredBatches
  pub parts : lines text ≡ done ++ left
  pub obeyed : ObeysEach m 0 done None answers after
