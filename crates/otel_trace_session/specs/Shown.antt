-- What the replies of a session show: the batches that its first processor's exporter keeps, in order and each once.
use Rattle.std.specs.Prelude.{◌≡◌, ◌==◌, ◌⊎◌, ◌++◌, ◌∷◌, ℕ, Bool, List, [], not}
use Rattle.std.specs.List.{flat_map}
use Rattle.otel_export.specs.PlainSpanData.{PlainSpanData}
use Rattle.otel_export.specs.KeptBatches.{Grows}
use Rattle.otel_export.specs.StoredBatches.{StoredBatches}
pub use Rattle.otel_export.specs.StoredBatches.{all_stored}
use Rattle.otel_pipeline.specs.declared.trace.keeps_batches.KeepsBatches as keeping
use Rattle.otel_pipeline.specs.declared.trace.span_processor.SpanProcessor.{Ghosts}
use Rattle.otel_trace_lines.specs.Commands.{PlainCommand}
use Rattle.otel_trace_lines.specs.PlainReply.{PlainReply}
use Rattle.otel_trace_session.specs.Actions.{action_of}
use Rattle.otel_trace_session.specs.Calls.{stored_of_first}
use Rattle.otel_trace_session.specs.ProviderTurns.{EmptiesIfOk}
use Rattle.otel_trace_session.specs.Turns.{SessionState}

-- the batches that replies show
abbrev pub exported_in : List PlainReply → List (List PlainSpanData)
exported_in replies = flat_map (λ reply. reply.exported) replies

module _ {P S G : Type 0} (keeps : keeping.Ghosts P) where
  -- what the first processor of a session has stored: the batches that it keeps, and how many it lost
  abbrev pub session_stored : SessionState P S G → StoredBatches
  session_stored session = stored_of_first keeps session.provider.processors

  abbrev pub session_batches : SessionState P S G → List (List PlainSpanData)
  session_batches session = (session_stored session).batches

  abbrev pub session_losses : SessionState P S G → ℕ
  session_losses session = (session_stored session).lost

  -- whether a batch was lost since the session began, by the exporter's own count
  abbrev pub has_lost : SessionState P S G → Bool
  has_lost session = not (session_losses session == session.lost_before)

  -- batches are stored after those that were stored, the replies show those that are taken meanwhile, in order and each
  -- once, and after a reply none is kept
  pub record Shows (old : SessionState P S G) (replies : List PlainReply) (new : SessionState P S G) : Type 0 where
    pub grows : Grows (all_stored (session_stored old)) (all_stored (session_stored new))
    pub shown : (session_stored new).taken ≡ (session_stored old).taken ++ exported_in replies
    pub none_left : (replies ≡ []) ⊎ (session_batches new ≡ [])

-- after commands, each with its reply, no span waits at any of the processors, where the last of them has each
-- processor hand on all that waits and is answered by Ok
abbrev pub EmptiedAfter : {P : Type 0} → Ghosts P → List PlainCommand → List PlainReply → List P → Type 0
EmptiedAfter processor commands replies processors =
    (before : List PlainCommand) (last : PlainCommand) (others : List PlainReply) (reply : PlainReply)
    → commands ≡ before ++ last ∷ [] → replies ≡ others ++ reply ∷ []
    → EmptiesIfOk processor (action_of last) reply.answer processors
