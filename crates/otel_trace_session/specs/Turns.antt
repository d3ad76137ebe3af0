-- The turns of the commands of a session, one after another, each with its reply.
use Rattle.std.specs.Prelude.{◌≡◌, ℕ, List, [], ◌∷◌, IsFalse, codes, map}
use Rattle.std.specs.List.{flat_map}
use Rattle.opentelemetry.specs.Plain.{PlainScope, scope_named}
use Rattle.otel_pipeline.specs.Deliveries.{Delivery, EachFollows}
use Rattle.otel_export.specs.KeptBatches.{OnlyAdds}
use Rattle.otel_pipeline.specs.Provider.{ProviderState}
use Rattle.otel_trace_lines.specs.Commands.{PlainCommand, plain_commands}
use Rattle.otel_trace_lines.specs.PlainReply.{PlainReply}
use Rattle.otel_trace_lines.specs.declared.command.Command.{Command}
use Rattle.otel_trace_session.specs.Actions.{PlainAction, action_of, may_lose, start_span, edit_span, inject_span, end_span}
use Rattle.otel_trace_session.specs.Actions.{call_provider, forget_span, link_span}
use Rattle.otel_trace_session.specs.Calls.{Calls, batches_of_first, losses_of_first, stored_of_first}
use Rattle.otel_trace_session.specs.OpenSpans.{Describe, Histories, NamedSpans}
use Rattle.otel_trace_session.specs.ProviderTurns.{AsksProvider, CallGives}
use Rattle.otel_trace_session.specs.SpanTurns.{EditTurn, EndTurn, ForgetTurn, InjectTurn, LinkTurn, StartsFrom}
use Rattle.otel_trace_session.specs.Taking.{TakesKept, TakesShown}
use Rattle.otel_trace_session.specs.Turn.{Course, Turn}

-- a session: its provider, the library's scope, its spans, and how many batches were lost before it
pub record SessionState (P S G : Type 0) : Type 0 where
  pub provider : ProviderState P S G
  pub scope : PlainScope
  pub spans : NamedSpans
  pub lost_before : ℕ

-- where a session stands, by histories of its spans
abbrev pub course_of : {P S G : Type 0} → SessionState P S G → Histories → Course P S G
course_of session histories = record { provider = session.provider; histories = histories }

-- all that turns delivered
abbrev pub delivered_in : {P S G : Type 0} → List (Turn P S G) → List Delivery
delivered_in turns = flat_map (λ turn. turn.delivered) turns

module _ {P S G : Type 0} (calls : Calls P S G) where
  -- a new session under a provider: it has no spans, and takes the batches that are kept already, and counts none that
  -- was lost already
  pub record BeginsUnder (provider : ProviderState P S G) (session : SessionState P S G) : Type 0 where
    pub takes : TakesShown calls.processor calls.queues calls.keeps provider session.provider
    pub scope : session.scope ≡ scope_named (codes "otel_trace")
    pub spans : session.spans ≡ []
    pub lost_before : session.lost_before ≡ losses_of_first calls.keeps provider.processors

  -- the turn of an action under a scope
  abbrev pub TakesAction : PlainScope → PlainAction → Turn P S G → Type 0
  TakesAction scope (start_span origin span builder moment) turn =
      StartsFrom calls scope origin span builder moment turn
  TakesAction scope (edit_span span edit) turn = EditTurn span edit turn
  TakesAction scope (inject_span span) turn = InjectTurn span turn
  TakesAction scope (end_span span moment) turn = EndTurn calls.processor span moment (turn.before.histories span) turn
  TakesAction scope (call_provider call) turn = AsksProvider (CallGives calls call) turn
  TakesAction scope (link_span span target) turn = LinkTurn span target turn
  TakesAction scope (forget_span span) turn = ForgetTurn span turn

  -- an action was carried out in a turn: each processor follows what it delivered, and batches came only after those
  -- that the first one keeps
  pub record IsCarriedOut (scope : PlainScope) (action : PlainAction) (turn : Turn P S G) : Type 0 where
    pub is_turn : TakesAction scope action turn
    pub follows : EachFollows calls.processor turn.delivered turn.before.provider.processors
        turn.after.provider.processors
    pub adds : OnlyAdds (stored_of_first calls.keeps turn.before.provider.processors)
        (stored_of_first calls.keeps turn.after.provider.processors)

  -- a command lost no batch from processors to processors, but at a flush, a run or a shutdown
  abbrev pub LosesNone : PlainCommand → List P → List P → Type 0
  LosesNone command ps qs =
      IsFalse (may_lose (action_of command)) → losses_of_first calls.keeps qs ≡ losses_of_first calls.keeps ps

  -- the reply of a turn: its answer, and the batches that are kept after it
  abbrev pub reply_of : Turn P S G → PlainReply
  reply_of turn =
      record { exported = batches_of_first calls.keeps turn.after.provider.processors; answer = turn.answer }

  -- where a session stands after a reply, which takes the batches that it shows, if there are some
  pub record Replied (course next : Course P S G) : Type 0 where
    pub takes : TakesKept calls course.provider next.provider
    pub histories : next.histories ≡ course.histories

  -- commands were carried out in turns, each from where the one before it stands after its reply
  abbrev pub AreTurns : PlainScope → Course P S G → List PlainCommand → List (Turn P S G) → Course P S G → Type 0
  AreTurns scope old [] [] new = new ≡ old
  AreTurns scope old [] (turn ∷ turns) new = ⊥
  AreTurns scope old (command ∷ commands) [] new = ⊥
  AreTurns scope old (command ∷ commands) (turn ∷ turns) new = (turn.before ≡ old)
      × IsCarriedOut scope (action_of command) turn
      × LosesNone command turn.before.provider.processors turn.after.provider.processors
      × ((next : Course P S G) × Replied turn.after next × AreTurns scope next commands turns new)

  -- commands were carried out from a session whose spans had these histories, each in a turn that its reply tells
  pub record TookTurns (old : SessionState P S G) (histories : Histories) (commands : List PlainCommand)
      (replies : List PlainReply) (new : SessionState P S G) : Type 0 where
    pub turns : List (Turn P S G)
    pub after : Histories
    pub are_turns : AreTurns old.scope (course_of old histories) commands turns (course_of new after)
    pub replied_to : replies ≡ map reply_of turns
    pub describes : Describe after new.spans

  -- commands were carried out, each with its reply, whatever histories the spans had
  pub record Runs (old : SessionState P S G) (commands : List Command) (replies : List PlainReply)
      (new : SessionState P S G) : Type 0 where
    pub scope : new.scope ≡ old.scope
    pub lost_before : new.lost_before ≡ old.lost_before
    pub took : (histories : Histories) → Describe histories old.spans
        → TookTurns old histories (plain_commands commands) replies new
