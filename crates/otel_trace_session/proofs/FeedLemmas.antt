-- What stands in the output after replies, and after a whole text.
use Rattle.std.proofs.Common.{IsTrue, sum_by}
use Rattle.std.proofs.Common.{Ok, Err, Option, ◌≡◌, ℕ, List, [], ◌∷◌, ◌++◌, false, sym, ◌∙◌, ap, append-nil, append_assoc, inr}
use Rattle.std.proofs.lemmas.List.Concat.{flat_map-append}
use Rattle.otel_trace_lines.specs.PlainReply.{PlainReply, counts_refusals, NoneRefused}
use Rattle.otel_trace_lines.specs.ReplyForm.{Form, texts}
use Rattle.otel_trace_lines.specs.declared.dialect.Dialect.{Dialect}
use Rattle.otel_trace_session.specs.Calls.{Calls}
use Rattle.otel_trace_session.specs.Closing.{Closes, Finishes}
use Rattle.otel_trace_session.specs.Fed.{Feeds, FeedsSome, FeedsUpTo, Writes}
use Rattle.otel_trace_session.specs.Turns.{SessionState}
use Rattle.otel_trace_session.specs.declared.session.FeedError.{FeedError}
use Rattle.otel_trace_session.specs.declared.session.FeedError.TheVariants as feeds
use Rattle.otel_trace_session.proofs.CloseLemmas.{none_lost}

-- no reply more was written
pub written_same : (form : Form) (replies : List PlainReply) (before middle now : List ℕ)
    → middle ≡ before ++ texts form replies → now ≡ middle → now ≡ before ++ texts form replies
written_same form replies before middle now h k = k ∙ h

-- a reply was written in the same form
pub written_in : (form same : Form) (reply : PlainReply) (middle now : List ℕ)
    → same ≡ form → now ≡ middle ++ same.reply reply → now ≡ middle ++ form.reply reply
written_in form same reply middle now e h = h ∙ ap (λ (g : Form). middle ++ g.reply reply) e

-- one more reply was written
pub written_more : (form : Form) (replies : List PlainReply) (reply : PlainReply) (before middle now : List ℕ)
    → middle ≡ before ++ texts form replies → now ≡ middle ++ form.reply reply → now ≡ before ++ texts form (replies ++ reply ∷ [])
written_more form replies reply before middle now h k =
    k ∙ ap (λ (l : List ℕ). l ++ form.reply reply) h ∙ append_assoc before (texts form replies) (form.reply reply)
    ∙ ap (λ (l : List ℕ). before ++ l) (sym (flat_map-append form.reply replies (reply ∷ []) ∙ ap (λ (l : List ℕ). texts form replies ++ l) (append-nil (form.reply reply))))

pub none_refused_more : (replies : List PlainReply) (reply : PlainReply) → NoneRefused replies → counts_refusals reply.answer ≡ false → NoneRefused (replies ++ reply ∷ [])
none_refused_more [] reply h k = (k, tt)
none_refused_more (first ∷ replies) reply h k = (h.0, none_refused_more replies reply h.1 k)

-- a text that was stopped after a beginning of its commands
pub fed_some : {P S G : Type 0} (calls : Calls P S G) (dialect : Dialect) (error : FeedError) (old new : SessionState P S G) (bytes : List ℕ) (replies : List PlainReply)
    → FeedsSome calls dialect error old bytes replies new → Feeds calls dialect {T = Unit {0}} old bytes (Err error) replies new
fed_some calls dialect (feeds.Line n) old new bytes replies h = absurd h.stopped.stopped.why
fed_some calls dialect feeds.Memory old new bytes replies h = inr h
fed_some calls dialect feeds.Refused old new bytes replies h = h
fed_some calls dialect feeds.BatchLost old new bytes replies h = h

-- a text was fed, and the session closed well
pub finishes : {P S G : Type 0} (calls : Calls P S G) (form : Form) (session after : SessionState P S G)
    (bytes : List ℕ) (bad_line : Option ℕ) (written now : List ℕ)
    → Writes form [] written (λ replies. FeedsUpTo calls form.dialect session bytes bad_line replies after)
    → (closes : Closes calls form after written (Ok tt) now) → sum_by calls.queues.open_over closes.provider.processors ≡ 0
    → (IsTrue form.minds_drops → sum_by calls.queues.dropped_over closes.provider.processors ≡ 0)
    → Finishes calls form session bytes bad_line now
finishes calls form session after bytes bad_line written now fed closes left dropped = record {
  written = written;
  after = after;
  feeds = fed;
  closes = closes;
  loses_none = none_lost calls form after written now closes ∙ fed.these.ran.lost_before;
  leaves_none = left;
  drops_none = dropped;
}
