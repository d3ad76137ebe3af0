-- The turns of commands of the provider: a flush, a run and a shutdown.
use Rattle.std.specs.Prelude.{◌≡◌, List, [], Result, Ok, Err, MatchBool, IsTrue, All}
use Rattle.otel_export.specs.declared.error.OTelSdkError.{OTelSdkError}
use Rattle.otel_pipeline.specs.Provider.{Flushes, ProviderState, RunsDue, ShutsDown, shut_answer}
use Rattle.otel_pipeline.specs.declared.trace.span_processor.SpanProcessor.{Ghosts}
use Rattle.otel_trace_lines.specs.declared.reply.Answer.{Answer}
use Rattle.otel_trace_lines.specs.declared.reply.Answer.TheVariants as answers
use Rattle.otel_trace_session.specs.Actions.{PlainAction, PlainCall, empties, call_flush, call_run, call_shutdown}
use Rattle.otel_trace_session.specs.Calls.{Calls}
use Rattle.otel_trace_session.specs.Turn.{Turn}

-- what is said of a call of the provider
abbrev pub call_answer : Result (Unit {0}) OTelSdkError → Answer
call_answer (Ok _) = answers.Ok
call_answer (Err error) = answers.Failed error

-- the provider was called: this is what the call gives, its answer is said, and nothing is delivered
pub record AsksProvider {P S G : Type 0}
    (Gives : ProviderState P S G → Result (Unit {0}) OTelSdkError → ProviderState P S G → Type 0)
    (turn : Turn P S G) : Type 0 where
  pub said : Result (Unit {0}) OTelSdkError
  pub gives : Gives turn.before.provider said turn.after.provider
  pub says : turn.answer ≡ call_answer said
  pub delivers : turn.delivered ≡ []
  pub rest : turn.after ≡ record turn.before { provider = turn.after.provider }

-- a shutdown with 5 seconds, where the provider is open; where it is shut this is answered, and nothing happens
abbrev pub ShutsOr : {P S G : Type 0} → Ghosts P → Result (Unit {0}) OTelSdkError → ProviderState P S G
    → Result (Unit {0}) OTelSdkError → ProviderState P S G → Type 0
ShutsOr processor again old answer new =
    MatchBool old.is_shut ((answer ≡ again) × (new ≡ old)) (ShutsDown processor old 5_000_000_000 answer new)

module _ {P S G : Type 0} (processor : Ghosts P) where
  -- a shutdown as a command asks for it: a second one is an error, where the SDK is not disabled
  abbrev pub Shuts : ProviderState P S G → Result (Unit {0}) OTelSdkError → ProviderState P S G → Type 0
  Shuts old answer new = ShutsOr processor (shut_answer old.is_disabled old.processors) old answer new

  -- a shutdown of a provider that may be shut already, which is no error
  abbrev pub ShutsIfOpen : ProviderState P S G → Result (Unit {0}) OTelSdkError → ProviderState P S G → Type 0
  ShutsIfOpen old answer new = ShutsOr processor (Ok tt) old answer new

module _ {P S G : Type 0} (calls : Calls P S G) where
  -- what a call of the provider gives
  abbrev pub CallGives : PlainCall → ProviderState P S G → Result (Unit {0}) OTelSdkError → ProviderState P S G
      → Type 0
  CallGives call_flush = Flushes calls.processor
  CallGives (call_run moment) = RunsDue calls.processor calls.timer moment
  CallGives call_shutdown = Shuts calls.processor

-- after an action that is answered by Ok, and has each processor hand on what waits, no span waits at any of them
abbrev pub EmptiesIfOk : {P : Type 0} → Ghosts P → PlainAction → Answer → List P → Type 0
EmptiesIfOk processor action answer processors = IsTrue (empties action) → answer ≡ answers.Ok
    → All (λ p. (processor.told p).waiting ≡ 0) processors
