-- Why the commands of a session were not carried out to their end: one was refused, or has no reply.
use Rattle.std.specs.Prelude.{◌≡◌, ◌⊎◌, ◌∷◌, ◌++◌, ℕ, List, Option, Result, Ok, Err, true}
use Rattle.opentelemetry.specs.PlainContexts.{root_cx}
use Rattle.opentelemetry.specs.PlainSpanBuilder.{PlainSpanBuilder}
use Rattle.otel_export.specs.KeptBatches.{OnlyAdds}
use Rattle.otel_pipeline.specs.Provider.{ProviderState}
use Rattle.otel_trace_lines.specs.Commands.{is_end, plain_command}
use Rattle.otel_trace_lines.specs.PlainReply.{PlainReply}
use Rattle.otel_trace_lines.specs.declared.command.Command.{Command}
use Rattle.otel_trace_lines.specs.declared.reply.Answer.{Answer}
use Rattle.otel_pipeline.specs.SpanHistory.{PlainSpan}
use Rattle.otel_trace_session.specs.Actions.{PlainAction, PlainOrigin, action_of, at_root, under, from_header, start_span}
use Rattle.otel_trace_session.specs.Actions.{call_provider, forget_span}
use Rattle.otel_trace_session.specs.Calls.{Calls}
use Rattle.otel_trace_session.specs.OpenSpans.{ChildMayStart, MayStart, NamedSpans, RemoteMayStart, SameSpans, named}
use Rattle.otel_trace_session.specs.Shown.{session_losses, session_stored}
use Rattle.otel_trace_session.specs.Turn.{TurnsFromAny}
use Rattle.otel_trace_session.specs.Turns.{IsCarriedOut, LosesNone, Runs, SessionState}
use Rattle.otel_trace_session.specs.declared.session.RunError.{RunError}
use Rattle.otel_trace_session.specs.declared.session.RunError.TheVariants as runs

module _ {P S G : Type 0} (calls : Calls P S G) where
  -- what a start that is refused may have done to the provider: nothing, or under a new name ids were drawn
  abbrev pub MayStartFrom : ProviderState P S G → NamedSpans → PlainOrigin → PlainSpanBuilder → ℕ → Option PlainSpan
      → ProviderState P S G → Type 0
  MayStartFrom p spans at_root builder moment found q = MayStart calls p root_cx builder moment found q
  MayStartFrom p spans (under parent) builder moment found q =
      ChildMayStart calls p (named spans parent) builder moment found q
  MayStartFrom p spans (from_header header) builder moment found q =
      RemoteMayStart calls p header builder moment found q

  -- what an action that is refused may have done to it: nothing, but for a start. Its own calls are not refused, nor
  -- that a name is given up
  abbrev pub MayAsk : ProviderState P S G → NamedSpans → PlainAction → ProviderState P S G → Type 0
  MayAsk p spans (start_span origin span builder moment) q =
      MayStartFrom p spans origin builder moment (named spans span) q
  MayAsk p spans (call_provider call) q = ⊥
  MayAsk p spans (forget_span span) q = ⊥
  MayAsk p spans _ q = q ≡ p

  -- an action was refused: each name has the span that it had, and no processor was asked
  pub record RefusesOne (p : ProviderState P S G) (old : NamedSpans) (action : PlainAction) (q : ProviderState P S G)
      (new : NamedSpans) : Type 0 where
    pub spans : SameSpans old new
    pub asks : MayAsk p old action q
    pub processors : q.processors ≡ p.processors

  -- a command of a session was refused
  abbrev pub Refuses : SessionState P S G → Command → SessionState P S G → Type 0
  Refuses old command new = RefusesOne old.provider old.spans (action_of (plain_command command)) new.provider
      new.spans

  -- a command of a session was carried out, with this answer
  abbrev pub CarriesOut : SessionState P S G → Command → Answer → SessionState P S G → Type 0
  CarriesOut old command answer new = TurnsFromAny (IsCarriedOut calls old.scope (action_of (plain_command command)))
      old.provider old.spans answer new.provider new.spans

  -- a command of a session was carried out, or refused, by what it comes to
  abbrev pub Obeys : {E : Type 0} → SessionState P S G → Command → Result Answer E → SessionState P S G → Type 0
  Obeys old command (Ok answer) new = CarriesOut old command answer new
  Obeys old command (Err _) new = Refuses old command new

  -- it was carried out, and no batch was lost, but at a flush, a run or a shutdown
  pub record Answers (old : SessionState P S G) (command : Command) (answer : Answer) (new : SessionState P S G)
      : Type 0 where
    pub carried : CarriesOut old command answer new
    pub loses_none : LosesNone calls (plain_command command) old.provider.processors new.provider.processors

  -- a command was carried out that ended a span whose batch was lost
  pub record LosesBatch (old : SessionState P S G) (command : Command) (new : SessionState P S G) : Type 0 where
    pub answer : Answer
    pub carried : CarriesOut old command answer new
    pub ends_span : is_end (plain_command command) ≡ true
    pub loses_one : ¬ (session_losses calls.keeps new ≡ session_losses calls.keeps old)

  -- why a command has no answer, by the error
  abbrev pub AnswerStops : RunError → SessionState P S G → Command → SessionState P S G → Type 0
  AnswerStops runs.Memory old command new = Refuses old command new
  AnswerStops runs.BatchLost old command new = LosesBatch old command new

  -- why a command has no reply, by the error: it has no answer, or there was no memory for a reply, and nothing was done
  abbrev pub WhyUntold : RunError → SessionState P S G → Command → SessionState P S G → Type 0
  WhyUntold runs.Memory old command new = Refuses old command new ⊎ (new ≡ old)
  WhyUntold runs.BatchLost old command new = LosesBatch old command new

  -- a command has no reply, and this is why; what it exported is kept for the next one
  pub record HasNoReply (Why : SessionState P S G → Command → SessionState P S G → Type 0) (old : SessionState P S G)
      (command : Command) (new : SessionState P S G) : Type 0 where
    pub why : Why old command new
    pub rest : new ≡ record old { provider = new.provider; spans = new.spans }
    pub keeps_batches : OnlyAdds (session_stored calls.keeps old) (session_stored calls.keeps new)

  -- a beginning of the commands was carried out, each with its reply, and the one after it has none
  pub record RunsBeginning (Why : SessionState P S G → Command → SessionState P S G → Type 0)
      (old : SessionState P S G) (commands : List Command) (replies : List PlainReply)
      (new : SessionState P S G) : Type 0 where
    pub done : List Command
    pub last : Command
    pub left : List Command
    pub middle : SessionState P S G
    pub parts : commands ≡ done ++ last ∷ left
    pub ran : Runs calls old done replies middle
    pub stopped : HasNoReply Why middle last new

  -- what carrying commands out does that ends with this error
  abbrev pub RunStops : RunError → SessionState P S G → List Command → List PlainReply → SessionState P S G → Type 0
  RunStops error old commands replies new = RunsBeginning (WhyUntold error) old commands replies new

-- a list gained these elements at its end
abbrev pub Gains : {X : Type 0} → List X → List X → (List X → Type 0) → Type 0
Gains {X} before now These = (more : List X) × (now ≡ before ++ more) × These more
