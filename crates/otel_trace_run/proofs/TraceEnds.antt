-- How a stream of commands ends: what was written whole, or a beginning of it.
use Rattle.std.proofs.Common.{◌≡◌, ℕ, List, [], ◌++◌, Option, None, Some, Result, Ok, true, inl, inr, refl, sym, ap, subst, ◌∙◌, append-nil}
use Rattle.std.specs.Prelude.{◌⊎◌}
use Rattle.std.proofs.KnownBytes.{Appends-trans}
use Rattle.std.specs.Io.KnownBytes.{Appends}
use Rattle.otel_export.specs.declared.error.OTelSdkError.{OTelSdkError}
use Rattle.otel_trace_lines.specs.ReplyForm.{Form, texts}
use Rattle.otel_trace_session.specs.Calls.{Calls}
use Rattle.otel_trace_session.specs.Closing.{Closes}
use Rattle.otel_pipeline.specs.Provider.{ProviderState}
use Rattle.otel_trace_session.specs.Turns.{BeginsUnder, SessionState}
use Rattle.otel_trace_session.proofs.CloseLemmas.{EndsWell}
use Rattle.otel_trace_session.proofs.FeedLemmas.{finishes}
use Rattle.otel_export.specs.Streams.{AppendsBeginning}
use Rattle.otel_export.proofs.StreamLemmas.{appends_after, appends_all}
use Rattle.otel_trace_run.specs.Streams.{EndsAs, Streams, WhyBad, streams}
use Rattle.otel_trace_run.specs.TraceRuns.{CarriesOutSome, FeedsPieces, FedAs, Traces, TracesAll, TracesBegun, TracesSome, TracesUnder, TracesWhole, ClosesSome}
use Rattle.otel_trace_run.specs.declared.reason.Reason.{Reason}
use Rattle.otel_trace_run.specs.declared.run_end.RunEnd.{RunEnd}
use Rattle.otel_trace_run.specs.declared.run_end.RunEnd.TheVariants as ends

module _ {P S G : Type 0} (calls : Calls P S G) (form : Form) (begun : SessionState P S G) where
  -- what was written whole is a beginning
  pub begun_whole : (input output output_after : Option (List ℕ)) → CarriesOutSome calls form begun input (Appends output output_after) → CarriesOutSome calls form begun input (AppendsBeginning output output_after)
  begun_whole input output output_after h = record {
    bytes = h.bytes;
    commands = h.commands;
    replies = h.replies;
    after = h.after;
    all = h.all;
    begins = h.begins;
    ran = h.ran;
    none_refused = h.none_refused;
    written = appends_all output output_after (texts form h.replies) h.written;
  }

  -- a close appends the same after any text
  closes_after : (now : SessionState P S G) (answer : Result (Unit {0}) OTelSdkError) (before closing : List ℕ) → Closes calls form now [] answer closing → Closes calls form now before answer (before ++ closing)
  closes_after now answer before closing h = record {
    provider = h.provider;
    shutdown = h.shutdown;
    shuts = h.shuts;
    writes = elim h.writes [
      | inl w ↦ inl (record { answers = w.answers; written = ap (λ bs. before ++ bs) w.written })
      | inr w ↦ inr (record { answers = w.answers; written = ap (λ bs. before ++ bs) w.written ∙ append-nil before; is_some = w.is_some })
    ];
  }

  -- what was fed and closed well, all of it written
  pub all_closed : (now : SessionState P S G) (input after output reached output_after : Option (List ℕ)) (bad_line : Option ℕ) (closing : List ℕ) → FeedsPieces calls form begun now (streams input after output reached) bad_line
      → EndsWell calls form now form.minds_drops closing → Appends reached output_after closing → TracesAll calls form begun (streams input after output output_after) bad_line
  unfolding closes_after
  all_closed now input after output reached output_after bad_line closing h k written = record {
    bytes = h.bytes;
    text = texts form h.replies ++ closing;
    all = h.all;
    finishes = finishes calls form begun now h.bytes bad_line (texts form h.replies) (texts form h.replies ++ closing) (record { replies = h.replies; written = refl; none_refused = h.none_refused; these = h.fed })
        (closes_after now (Ok tt) (texts form h.replies) closing k.closes) k.leaves_none k.drops_none;
    written = Appends-trans output reached output_after (texts form h.replies) closing h.written written;
  }

  -- what was fed and closed, of which a beginning was written
  some_closed : (now : SessionState P S G) (input after output reached output_after : Option (List ℕ)) (bad_line : Option ℕ) (answer : Result (Unit {0}) OTelSdkError) (closing : List ℕ) → FeedsPieces calls form begun now (streams input after output reached) bad_line
      → Closes calls form now [] answer closing → AppendsBeginning reached output_after closing → ClosesSome calls form begun (streams input after output output_after) bad_line
  some_closed now input after output reached output_after bad_line answer closing h k written = record {
    bytes = h.bytes;
    replied = texts form h.replies;
    text = texts form h.replies ++ closing;
    after = now;
    answer = answer;
    all = h.all;
    feeds = record { replies = h.replies; written = refl; none_refused = h.none_refused; these = h.fed };
    closes = closes_after now answer (texts form h.replies) closing k;
    written = appends_after output reached output_after (texts form h.replies) closing h.written written;
  }

  -- feeding failed
  pub some_failed : (now : SessionState P S G) (input after output output_after : Option (List ℕ)) (end : RunEnd) → end ≡ ends.Failed → FedAs calls form begun now (streams input after output output_after) end
      → TracesSome calls form begun (streams input after output output_after)
  some_failed now input after output output_after end is h =
      inl (begun_whole input output output_after (subst (FedAs calls form begun now (streams input after output output_after)) is h))

  -- a session was fed and closed, where feeding did not fail, and not all was well or written
  pub closed_some : (now : SessionState P S G) (input after output reached output_after : Option (List ℕ)) (end : RunEnd) (answer : Result (Unit {0}) OTelSdkError) (closing : List ℕ) → ¬ (end ≡ ends.Failed) → FedAs calls form begun now (streams input after output reached) end
      → Closes calls form now [] answer closing → AppendsBeginning reached output_after closing → TracesSome calls form begun (streams input after output output_after)
  closed_some now input after output reached output_after ends.Done answer closing goes h k written = inr (None, some_closed now input after output reached output_after None answer closing h.0 k written)
  closed_some now input after output reached output_after ends.Empty answer closing goes h k written = absurd h
  closed_some now input after output reached output_after (ends.BadLine line reason) answer closing goes h k written = inr (Some line, some_closed now input after output reached output_after (Some line) answer closing h.0 k written)
  closed_some now input after output reached output_after ends.Failed answer closing goes h k written = absurd (goes refl)

  -- a session was fed and closed well, and all was written
  pub closed_as : (now : SessionState P S G) (input after output reached output_after : Option (List ℕ)) (end : RunEnd) (closing : List ℕ) → ¬ (end ≡ ends.Failed) → FedAs calls form begun now (streams input after output reached) end
      → EndsWell calls form now form.minds_drops closing → Appends reached output_after closing
      → EndsAs true (TracesAll calls form begun (streams input after output output_after)) ⊥ (TracesSome calls form begun (streams input after output output_after)) (streams input after output output_after) end
  closed_as now input after output reached output_after ends.Done closing goes h k written = (all_closed now input after output reached output_after None closing h.0 k written, h.1)
  closed_as now input after output reached output_after ends.Empty closing goes h k written = absurd h
  closed_as now input after output reached output_after (ends.BadLine line reason) closing goes h k written = (all_closed now input after output reached output_after (Some line) closing h.0 k written, h.1)
  closed_as now input after output reached output_after ends.Failed closing goes h k written = absurd (goes refl)

  -- how feeding ends at a bad line
  pub fed_bad : (now : SessionState P S G) (s : Streams) (line : ℕ) (reason : Option Reason) (end : RunEnd) → (end ≡ ends.Failed) ⊎ (end ≡ ends.BadLine line reason) → FeedsPieces calls form begun now s (Some line) → WhyBad true s.input line reason → CarriesOutSome calls form begun s.input (Appends s.output s.output_after)
      → FedAs calls form begun now s end
  fed_bad now s line reason end (inl failed) h why k = subst (FedAs calls form begun now s) (sym failed) k
  fed_bad now s line reason end (inr bad) h why k = subst (FedAs calls form begun now s) (sym bad) (h, why)

module _ {P S G : Type 0} (calls : Calls P S G) (form : Form) (begun : SessionState P S G) where
  -- what was given whole is a beginning
  unfoldable pub all_begun : (s : Streams) (bad_line : Option ℕ) → TracesAll calls form begun s bad_line → TracesSome calls form begun s
  all_begun s bad_line h = inr (
    bad_line,
    record {
      bytes = h.bytes;
      replied = h.finishes.written;
      text = h.text;
      after = h.finishes.after;
      answer = Ok tt;
      all = h.all;
      feeds = h.finishes.feeds;
      closes = h.finishes.closes;
      written = appends_all s.output s.output_after h.text h.written;
    },
  )

module _ {P S G : Type 0} (calls : Calls P S G) (form : Form) where
  -- what a new session did is what was done under its provider
  pub traced_under : (provider : ProviderState P S G) (begun : SessionState P S G) (s : Streams) (end : RunEnd) → BeginsUnder calls provider begun
      → Traces calls form begun s end → TracesUnder calls form provider s end
  traced_under provider begun s ends.Done begins h = ((begun, begins, h.0), h.1)
  traced_under provider begun s ends.Empty begins h = absurd h.0
  traced_under provider begun s (ends.BadLine line reason) begins h = ((begun, begins, h.0), h.1)
  traced_under provider begun s ends.Failed begins h = inr (begun, begins, h)

  -- what was given whole under a provider is a beginning
  unfoldable pub whole_begun : (provider : ProviderState P S G) (s : Streams) (bad_line : Option ℕ) → TracesWhole calls form provider s bad_line → TracesBegun calls form provider s
  whole_begun provider s bad_line (begun, begins, h) = inr (begun, begins, all_begun calls form begun s bad_line h)
