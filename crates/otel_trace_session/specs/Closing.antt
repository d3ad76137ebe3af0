-- What closing a session does, and what of it is written, in a form.
use Rattle.std.specs.Prelude.{◌≡◌, ◌≢◌, ◌⊎◌, ◌++◌, ℕ, List, [], Option, Result, Ok, Err, if◌then◌else◌}
use Rattle.std.specs.Prelude.{Bool, IsTrue, sum_by}
use Rattle.otel_export.specs.declared.error.OTelSdkError.{OTelSdkError}
use Rattle.otel_export.specs.declared.error.OTelSdkError.TheVariants as errors
use Rattle.otel_pipeline.specs.Provider.{ProviderState}
use Rattle.otel_pipeline.specs.declared.trace.keeps_batches.KeepsBatches as keeping
use Rattle.otel_trace_lines.specs.ReplyForm.{Form}
use Rattle.otel_trace_session.specs.Calls.{Calls, losses_of_first}
use Rattle.otel_trace_session.specs.Fed.{FeedsUpTo, Writes}
use Rattle.otel_trace_session.specs.ProviderTurns.{ShutsIfOpen}
use Rattle.otel_trace_session.specs.Shown.{has_lost, session_batches}
use Rattle.otel_trace_session.specs.Turns.{SessionState}
use Rattle.otel_trace_session.specs.declared.session.ClosedSession.{ClosedSession}

-- out of memory, unless there is an error already
abbrev pub or_no_memory : Result (Unit {0}) OTelSdkError → Result (Unit {0}) OTelSdkError
or_no_memory (Ok _) = Err errors.OutOfMemory
or_no_memory (Err error) = Err error

-- a session closed well, left no span waiting, and where that is minded none found a full queue
pub record LostNothing (closed : ClosedSession) (minds_drops : Bool) : Type 0 where
  pub answer : closed.answer ≡ Ok tt
  pub left_open : closed.left_open ≡ 0
  pub dropped : IsTrue minds_drops → closed.dropped ≡ 0

module _ {P S G : Type 0} (keeps : keeping.Ghosts P) (form : Form) (closed : SessionState P S G)
    (shutdown : Result (Unit {0}) OTelSdkError) (before : List ℕ) where
  -- the batches that no reply has shown are appended. The answer is the shutdown's, unless that is Ok and a batch was
  -- lost since the session began
  pub record WritesLast (answer : Result (Unit {0}) OTelSdkError) (now : List ℕ) : Type 0 where
    pub answers : answer ≡ (if has_lost keeps closed then or_no_memory shutdown else shutdown)
    pub written : now ≡ before ++ form.rest (session_batches keeps closed)

  -- there was no memory for their text, so there is some, and nothing is appended
  pub record WritesNone (answer : Result (Unit {0}) OTelSdkError) (now : List ℕ) : Type 0 where
    pub answers : answer ≡ or_no_memory shutdown
    pub written : now ≡ before
    pub is_some : form.rest (session_batches keeps closed) ≢ []

module _ {P S G : Type 0} (calls : Calls P S G) (form : Form) where
  -- the provider is shut down where it is open, and the batches that no reply has shown are appended, those exported by
  -- the shutdown among them, or nothing where there is no memory for their text
  pub record Closes (session : SessionState P S G) (before : List ℕ) (answer : Result (Unit {0}) OTelSdkError)
      (now : List ℕ) : Type 0 where
    pub provider : ProviderState P S G
    pub shutdown : Result (Unit {0}) OTelSdkError
    pub shuts : ShutsIfOpen calls.processor session.provider shutdown provider
    pub writes : WritesLast calls.keeps form (record session { provider = provider }) shutdown before answer now
        ⊎ WritesNone calls.keeps form (record session { provider = provider }) shutdown before answer now

  -- how a session closed: as its answer says, and with what its processors leave behind
  pub record ClosesAs (session : SessionState P S G) (before : List ℕ) (closed : ClosedSession) (now : List ℕ)
      : Type 0 where
    pub closes : Closes session before closed.answer now
    pub left_open : closed.left_open ≡ sum_by calls.queues.open_over closes.provider.processors
    pub dropped : closed.dropped ≡ sum_by calls.queues.dropped_over closes.provider.processors

  -- a text was fed to a session, whole or up to its first bad line, and the session closed well: no batch was lost, no
  -- span waits in a processor that is open, and where the form minds that, none found a full queue
  pub record Finishes (session : SessionState P S G) (bytes : List ℕ) (bad_line : Option ℕ)
      (now : List ℕ) : Type 0 where
    pub written : List ℕ
    pub after : SessionState P S G
    pub feeds : Writes form [] written (λ replies. FeedsUpTo calls form.dialect session bytes bad_line replies after)
    pub closes : Closes after written (Ok tt) now
    pub loses_none : losses_of_first calls.keeps closes.provider.processors ≡ session.lost_before
    pub leaves_none : sum_by calls.queues.open_over closes.provider.processors ≡ 0
    pub drops_none : IsTrue form.minds_drops → sum_by calls.queues.dropped_over closes.provider.processors ≡ 0
