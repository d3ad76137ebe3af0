-- What closing a session does, by the answers of its parts.
use Rattle.std.proofs.Common.{◌≡◌, ◌==◌, ◌++◌, ◌||◌, ◌⊎◌, ◌∙◌, ℕ, Bool, true, false, not, if◌then◌else◌, List, [], Result, Ok, Err, IsOk, OnOk, OnErr, is_err, inl, inr, refl, ap, arith}
use Rattle.std.proofs.lemmas.Bool.Decides.{nat_tests}
use Rattle.std.specs.declared.alloc.AllocError.{AllocError}
use Rattle.opentelemetry.proofs.Clauses.{fails_on_err}
use Rattle.otel_export.specs.declared.error.OTelSdkError.{OTelSdkError}
use Rattle.otel_trace_lines.specs.ReplyForm.{Form}
use Rattle.otel_pipeline.specs.Provider.{ProviderState}
use Rattle.otel_trace_session.specs.Calls.{Calls, batches_of_first, losses_of_first}
use Rattle.std.proofs.Common.{IsTrue, subst, sum_by, sym}
use Rattle.otel_trace_session.specs.declared.session.ClosedSession.{ClosedSession}
use Rattle.otel_trace_session.specs.Closing.{Closes, ClosesAs, LostNothing, WritesLast, WritesNone, or_no_memory}
use Rattle.otel_trace_session.specs.Shown.{has_lost}
use Rattle.otel_trace_session.specs.Turns.{SessionState}

-- what is answered where a batch was lost, and else
abbrev answer_of : Result (Unit {0}) OTelSdkError → Bool → Result (Unit {0}) OTelSdkError
answer_of shutdown lost = if lost then or_no_memory shutdown else shutdown

-- out of memory is not Ok
never_well : (shutdown : Result (Unit {0}) OTelSdkError) → Ok tt ≡ or_no_memory shutdown → ⊥
never_well (Ok done) e = cc
never_well (Err error) e = cc

-- so where the answer is Ok no batch was lost
well : (lost : Bool) (shutdown : Result (Unit {0}) OTelSdkError) → Ok tt ≡ answer_of shutdown lost → lost ≡ false
well true shutdown e = absurd (never_well shutdown e)
well false shutdown e = refl

-- two counts that do not differ
as_many : (lost before : ℕ) → not (lost == before) ≡ false → lost ≡ before
as_many lost before e = grind (arith, nat_tests)

-- by whether a batch was lost, and whether the text was written
pub writes_rest : {P S G : Type 0} (calls : Calls P S G) (form : Form) (session : SessionState P S G) (provider : ProviderState P S G)
    (shutdown : Result (Unit {0}) OTelSdkError) (written : Result (Unit {0}) AllocError) (lost : Bool) (answer : Result (Unit {0}) OTelSdkError) (before now : List ℕ)
    → lost ≡ has_lost calls.keeps (record session { provider = provider })
    → OnOk written (now ≡ before ++ form.rest (batches_of_first calls.keeps provider.processors)) → OnErr written (now ≡ before)
    → (form.rest (batches_of_first calls.keeps provider.processors) ≡ [] → IsOk written)
    → answer ≡ (if lost || is_err written then or_no_memory shutdown else shutdown)
    → WritesLast calls.keeps form (record session { provider = provider }) shutdown before answer now
    ⊎ WritesNone calls.keeps form (record session { provider = provider }) shutdown before answer now
writes_rest calls form session provider shutdown (Ok done) true answer before now counted ok err free answers =
    inl (record { answers = answers ∙ ap (answer_of shutdown) counted; written = ok })
writes_rest calls form session provider shutdown (Ok done) false answer before now counted ok err free answers =
    inl (record { answers = answers ∙ ap (answer_of shutdown) counted; written = ok })
writes_rest calls form session provider shutdown (Err error) true answer before now counted ok err free answers =
    inr (record { answers = answers; written = err; is_some = fails_on_err free })
writes_rest calls form session provider shutdown (Err error) false answer before now counted ok err free answers =
    inr (record { answers = answers; written = err; is_some = fails_on_err free })

-- a session that closed well lost no batch since it began
pub none_lost : {P S G : Type 0} (calls : Calls P S G) (form : Form) (session : SessionState P S G) (before now : List ℕ)
    → (closed : Closes calls form session before (Ok tt) now) → losses_of_first calls.keeps closed.provider.processors ≡ session.lost_before
none_lost {P} {S} {G} calls form session before now closed = by closed.writes
  where
    by : WritesLast calls.keeps form (record session { provider = closed.provider }) closed.shutdown before (Ok tt) now ⊎ WritesNone calls.keeps form (record session { provider = closed.provider }) closed.shutdown before (Ok tt) now
        → losses_of_first calls.keeps closed.provider.processors ≡ session.lost_before
    by (inl h) = as_many (losses_of_first calls.keeps closed.provider.processors) session.lost_before (well (not (losses_of_first calls.keeps closed.provider.processors == session.lost_before)) closed.shutdown h.answers)
    by (inr h) = absurd (never_well closed.shutdown h.answers)

-- a session closed after a text with an answer, and left and where that is minded dropped no span
record EndsAfter {P S G : Type 0} (calls : Calls P S G) (form : Form) (session : SessionState P S G) (minds_drops : Bool)
    (before : List ℕ) (said : Result (Unit {0}) OTelSdkError) (now : List ℕ) : Type 0 where
  pub closes : Closes calls form session before said now
  pub leaves_none : sum_by calls.queues.open_over closes.provider.processors ≡ 0
  pub drops_none : IsTrue minds_drops → sum_by calls.queues.dropped_over closes.provider.processors ≡ 0

-- a session that closed well on a new text, and left and where that is minded dropped no span
pub record EndsWell {P S G : Type 0} (calls : Calls P S G) (form : Form) (session : SessionState P S G) (minds_drops : Bool)
    (now : List ℕ) : Type 0 where
  pub closes : Closes calls form session [] (Ok tt) now
  pub leaves_none : sum_by calls.queues.open_over closes.provider.processors ≡ 0
  pub drops_none : IsTrue minds_drops → sum_by calls.queues.dropped_over closes.provider.processors ≡ 0

pub ends_well : {P S G : Type 0} (calls : Calls P S G) (form : Form) (session : SessionState P S G) (before now : List ℕ)
    (closed : ClosedSession) (minds_drops : Bool) → before ≡ [] → LostNothing closed minds_drops
    → ClosesAs calls form session before closed now → EndsWell calls form session minds_drops now
ends_well calls form session before now closed minds_drops none lost closes =
    let ends : EndsAfter calls form session minds_drops before closed.answer now = record {
      closes = closes.closes;
      leaves_none = sym closes.left_open ∙ lost.left_open;
      drops_none = λ minds. sym closes.dropped ∙ lost.dropped minds;
    } in
    let anew = subst (λ (b : List ℕ). EndsAfter calls form session minds_drops b closed.answer now) none ends in
    let well = subst (λ (said : Result (Unit {0}) OTelSdkError). EndsAfter calls form session minds_drops [] said now) lost.answer anew in
    record { closes = well.closes; leaves_none = well.leaves_none; drops_none = well.drops_none }
