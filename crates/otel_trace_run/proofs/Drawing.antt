-- A session that carries out commands and then a shutdown closes as in the mode `trace`, and its replies show all spans
-- that it exported.
use Rattle.std.proofs.Common.{◌≡◌, ◌++◌, ◌∙◌, ◌==◌, ℕ, Bool, true, false, List, [], ◌∷◌, Option, Some, None, Result, Ok, Err, IsTrue, MatchBool, ◌||◌}
use Rattle.std.proofs.Common.{All, sum_by, inl, inr, ap, append-nil, append_assoc, arith, map, refl, subst, sym, not, if◌then◌else◌}
use Rattle.std.proofs.lemmas.Bool.{eq-eqb}
use Rattle.std.proofs.lemmas.List.{map-append}
use Rattle.std.proofs.lemmas.List.Concat.{flat_map-append}
use Rattle.std.specs.Io.KnownBytes.{Appends, IsAtEnd}
use Rattle.std.specs.List.{list_any}
use Rattle.std.specs.Prelude.{IfSome}
use Rattle.otel_export.specs.PlainSpanData.{PlainSpanData, spans_in}
use Rattle.otel_export.specs.StoredBatches.{StoredBatches}
use Rattle.otel_export.specs.Streams.{AppendsBeginning}
use Rattle.otel_export.specs.declared.error.OTelSdkError.{OTelSdkError}
use Rattle.otel_export.specs.declared.error.OTelSdkError.TheVariants as errors
use Rattle.otel_pipeline.specs.ProcessorKeeps.{OnlyAppends}
use Rattle.otel_pipeline.specs.Provider.{ProviderState, ShutsDown, shut_answer}
use Rattle.otel_trace_lines.specs.Commands.{plain_commands, shutdown}
use Rattle.otel_trace_lines.specs.PlainReply.{NoneRefused, PlainReply, counts_refusals}
use Rattle.otel_trace_lines.specs.ReplyForm.{reply_lines_in, texts}
use Rattle.otel_trace_lines.specs.declared.dialect.Dialect.{Dialect}
use Rattle.otel_trace_lines.specs.declared.dialect.Dialect.TheVariants as dialects
use Rattle.otel_trace_lines.specs.declared.command.Command.{Command}
use Rattle.otel_trace_session.specs.Stops.{Gains}
use Rattle.otel_trace_run.specs.OtlpRuns.{exported_since}
use Rattle.otel_trace_run.specs.PictureRuns.{Draws, DrawsAll, DrawsLines, DrawsSome, DrawsUnder, HasNoSpan, HasSpan, Painting, RunsOut, RunsShutdown, end_of, picture_lines, says_shut}
use Rattle.otel_sampling.specs.declared.trace.sampler.SamplerOf.{SamplerOf}
use Rattle.otel_trace_run.specs.Program.{BeginsDrawing, DrawsAsked, IsProviderOf, MemoryProcessor}
use Rattle.otel_trace_run.specs.Streams.{AreAll, EndsAs, Streams, WhyBad}
use Rattle.otel_trace_run.specs.declared.reason.Reason.{Reason}
use Rattle.otel_trace_run.specs.declared.mode.Asked.{Asked}
use Rattle.otel_export.proofs.StreamLemmas.{appends_all}
use Rattle.otel_trace_run.specs.declared.run_end.RunEnd.{RunEnd}
use Rattle.otel_trace_run.specs.declared.run_end.RunEnd.TheVariants as ends
use Rattle.otel_trace_session.specs.Calls.{Calls, batches_of_first, losses_of_first}
use Rattle.otel_trace_session.specs.Closing.{Closes, ClosesAs, LostNothing, or_no_memory}
use Rattle.otel_trace_session.specs.declared.session.ClosedSession.{ClosedSession}
use Rattle.otel_trace_session.specs.OpenSpans.{Histories}
use Rattle.otel_trace_session.specs.ProviderTurns.{ShutsIfOpen, call_answer}
use Rattle.otel_trace_session.specs.Shown.{exported_in}
use Rattle.otel_trace_session.specs.Turn.{Course, Turn}
use Rattle.otel_trace_session.specs.Turns.{AreTurns, BeginsUnder, Runs, SessionState, course_of, reply_of}
use Rattle.otel_trace_session.proofs.CloseLemmas.{ends_well, none_lost}
use Rattle.otel_trace_session.specs.Taking.{TakesKept}
use Rattle.otel_trace_session.proofs.TakingLemmas.{kept_dropped, kept_open, kept_shut, kept_taken}
use Rattle.otel_trace_run.proofs.Exporting.{nothing_described, since_begun}

-- an answer without an error
abbrev well : Result (Unit {0}) OTelSdkError
well = Ok tt

module _ {P S G : Type 0} (calls : Calls P S G) where
  -- what a shutdown did, by its answer, as a close has it
  shut_by : (again : Result (Unit {0}) OTelSdkError) (old new : ProviderState P S G) (said : Result (Unit {0}) OTelSdkError) (is_shut : Bool) → is_shut ≡ old.is_shut
      → IsTrue (says_shut (call_answer said))
      → MatchBool is_shut ((said ≡ again) × (new ≡ old)) (ShutsDown calls.processor old 5_000_000_000 said new)
      → MatchBool is_shut ((well ≡ well) × (new ≡ old)) (ShutsDown calls.processor old 5_000_000_000 (Ok tt) new)
      × (new.is_shut ≡ true)
  shut_by again old new said true e says h = ((refl, h.1), ap (λ (p : ProviderState P S G). p.is_shut) h.1 ∙ sym e)
  shut_by again old new (Ok done) false e says h = (h, ap (λ (p : ProviderState P S G). p.is_shut) h.rest)
  shut_by again old new (Err (errors.InternalFailure text)) false e says h = let no : ⊥ = cc in absurd no
  shut_by again old new (Err errors.AlreadyShutdown) false e says h = absurd h.err
  shut_by again old new (Err errors.OutOfMemory) false e says h = let no : ⊥ = cc in absurd no
  shut_by again old new (Err (errors.Timeout time)) false e says h = let no : ⊥ = cc in absurd no

  -- how a session stands after a shutdown whose reply took the batches that it shows
  record StandsShut (old : SessionState P S G) (replies : List PlainReply) (new : SessionState P S G) : Type 0 where
    pub closed : ProviderState P S G
    pub shuts : ShutsIfOpen calls.processor old.provider (Ok tt) closed
    pub takes : TakesKept calls closed new.provider
    pub is_shut : new.provider.is_shut ≡ true
    pub shows : exported_in replies ≡ batches_of_first calls.keeps closed.processors

  stands_shut : (old new : SessionState P S G) (histories after : Histories) (turns : List (Turn P S G))
      → AreTurns calls old.scope (course_of old histories) (shutdown ∷ []) turns (course_of new after)
      → All (λ reply. IsTrue (says_shut reply.answer)) (map (reply_of calls) turns)
      → StandsShut old (map (reply_of calls) turns) new
  stands_shut old new histories after [] h says = absurd h
  stands_shut old new histories after (turn ∷ turn2 ∷ turns) h says = absurd h.3.2
  stands_shut old new histories after (turn ∷ []) h says =
      let asks = h.1.is_turn in
      let from : turn.before.provider ≡ old.provider = ap (λ (c : Course P S G). c.provider) h.0 in
      let there : h.3.0.provider ≡ new.provider = sym (ap (λ (c : Course P S G). c.provider) h.3.2) in
      let answered : IsTrue (says_shut (call_answer asks.said)) =
      subst (λ answer. IsTrue (says_shut answer)) asks.says (says 0 (reply_of calls turn) (omega arith)) in
      let done = shut_by (shut_answer turn.before.provider.is_disabled turn.before.provider.processors) turn.before.provider turn.after.provider asks.said turn.before.provider.is_shut refl answered asks.gives in
      let takes = subst (λ (p : ProviderState P S G). TakesKept calls turn.after.provider p) there h.3.1.takes in
      record {
        closed = turn.after.provider;
        shuts = subst (λ (p : ProviderState P S G). ShutsIfOpen calls.processor p (Ok tt) turn.after.provider) from done.0;
        takes = takes;
        is_shut = kept_shut calls turn.after.provider new.provider takes ∙ done.1;
        shows = append-nil _;
      }

  -- what closing a session does whose provider is shut
  stays_shut : (old new : ProviderState P S G) (said : Result (Unit {0}) OTelSdkError) (is_shut : Bool) → is_shut ≡ true
      → MatchBool is_shut ((said ≡ Ok tt) × (new ≡ old)) (ShutsDown calls.processor old 5_000_000_000 said new) → new ≡ old
  stays_shut old new said true e h = h.1
  stays_shut old new said false e h = let no : ⊥ = cc in absurd no

-- what is answered where no batch was lost
none_lost_answer : (lost before : ℕ) → lost ≡ before
    → well ≡ (if not (lost == before) then or_no_memory well else well)
none_lost_answer lost before e = rw (eq-eqb lost before e) refl

module _ {P S G : Type 0} (calls : Calls P S G)
    (law : OnlyAppends calls.processor calls.timer calls.keeps.stored) where
  -- the lines of a text were carried out, and a session that then closed well exported these spans
  pub draws : (Paints : Painting) (provider : ProviderState P S G) (begun after : SessionState P S G)
      (input input_after : Option (List ℕ)) (end : RunEnd) (picture left : List ℕ) → BeginsUnder calls provider begun
      → (lines : DrawsLines calls Paints begun input input_after end picture after)
      → (closed : Closes calls picture_lines after [] (Ok tt) left)
      → sum_by calls.queues.open_over closed.provider.processors ≡ 0
      → sum_by calls.queues.dropped_over closed.provider.processors ≡ 0
      → Draws calls Paints provider lines.reads.bytes lines.bad_line lines.spans picture
  draws Paints provider begun after input input_after end picture left begins lines closed left_open dropped =
      let ran = lines.ran in
      let middle = ran.middle in
      let took = ran.ran.took (λ _. None) (nothing_described begun.spans begins.spans) in
      let last = ran.shut.ran.took took.after took.describes in
      let shut = subst (λ (replies : List PlainReply). StandsShut calls middle replies after) (sym last.replied_to)
      (stands_shut calls middle after took.after last.after last.turns last.are_turns
      (subst (λ (replies : List PlainReply). All (λ reply. IsTrue (says_shut reply.answer)) replies) last.replied_to ran.shut.says)) in
      let same : closed.provider ≡ after.provider =
      stays_shut calls after.provider closed.provider closed.shutdown after.provider.is_shut shut.is_shut closed.shuts in
      let kept : losses_of_first calls.keeps shut.closed.processors ≡ middle.lost_before =
      sym (ap (λ (s : StoredBatches). s.lost) (kept_taken calls shut.closed after.provider shut.takes))
      ∙ ap (λ (p : ProviderState P S G). losses_of_first calls.keeps p.processors) (sym same)
      ∙ none_lost calls picture_lines after [] left closed ∙ ran.shut.ran.lost_before in
      let none_open : sum_by calls.queues.open_over shut.closed.processors ≡ 0 =
      sym (kept_open calls shut.closed after.provider shut.takes)
      ∙ ap (λ (p : ProviderState P S G). sum_by calls.queues.open_over p.processors) (sym same) ∙ left_open in
      let none_dropped : sum_by calls.queues.dropped_over shut.closed.processors ≡ 0 =
      sym (kept_dropped calls shut.closed after.provider shut.takes)
      ∙ ap (λ (p : ProviderState P S G). sum_by calls.queues.dropped_over p.processors) (sym same) ∙ dropped in
      let replied = texts picture_lines ran.replies in
      let all : exported_in (ran.replies ++ ran.last) ≡ exported_since calls provider shut.closed =
      flat_map-append (λ (reply : PlainReply). reply.exported) ran.replies ran.last
      ∙ ap (λ bs. exported_in ran.replies ++ bs) shut.shows
      ∙ since_begun calls law provider begun middle shut.closed (plain_commands lines.commands) ran.replies (Ok tt) begins took shut.shuts in
      record {
        replied = _;
        begun = begun;
        begins = begins;
        finishes = record {
          written = replied;
          after = middle;
          feeds = record {
            replies = ran.replies;
            written = refl;
            none_refused = ran.none_refused;
            these = record { commands = lines.commands; spelled = lines.reads.spelled; ran = ran.ran };
          };
          closes = record {
            provider = shut.closed;
            shutdown = Ok tt;
            shuts = shut.shuts;
            writes = inl (record {
              answers = none_lost_answer (losses_of_first calls.keeps shut.closed.processors) middle.lost_before kept;
              written = refl;
            });
          };
          loses_none = kept ∙ ran.ran.lost_before;
          leaves_none = none_open;
          drops_none = λ _. none_dropped;
        };
        drops_none = none_dropped;
        exported = ran.shown ∙ ap spans_in all;
        drawn = lines.drawn;
      }

module _ {P S G : Type 0} (calls : Calls P S G) (Paints : Painting) (provider : ProviderState P S G) where
  -- what was drawn whole is a beginning
  drawn_begun : (Holds : List PlainSpanData → Type 0) (s : Streams) (bad_line : Option ℕ)
      → DrawsAll calls Paints provider Holds s bad_line → DrawsSome calls Paints provider s
  drawn_begun Holds s bad_line h =
      inr (h.bytes, bad_line, h.spans, h.picture, h.all, h.draws, appends_all s.output s.output_after h.picture h.written)

  -- how a run ends whose picture was written, by its bad line and its spans
  ends_drawn : (s : Streams) (bytes : List ℕ) (bad_line : Option ℕ) (reason : Option Reason) (spans : List PlainSpanData)
      (picture : List ℕ) → AreAll s.input bytes → IsAtEnd s.input_after
      → IfSome bad_line (λ line. WhyBad true s.input line reason)
      → Draws calls Paints provider bytes bad_line spans picture → Appends s.output s.output_after picture
      → DrawsUnder calls Paints provider s (end_of bad_line reason spans)
  ends_drawn s bytes (Some line) reason spans picture all at_end why drawn written = (
    record { bytes = bytes; spans = spans; picture = picture; all = all; draws = drawn; holds = tt; written = written },
    why,
  )
  ends_drawn s bytes None reason [] picture all at_end why drawn written = (
    record { bytes = bytes; spans = []; picture = picture; all = all; draws = drawn; holds = refl; written = written },
    at_end,
  )
  ends_drawn s bytes None reason (span ∷ spans) picture all at_end why drawn written = (
    record {
      bytes = bytes;
      spans = span ∷ spans;
      picture = picture;
      all = all;
      draws = drawn;
      holds = λ none. cc;
      written = written;
    },
    at_end,
  )

  -- what was drawn of an input, of which a beginning was written or all
  pub drawn_some : (session after : SessionState P S G) (s : Streams) (end : RunEnd) (picture : List ℕ)
      → (lines : DrawsLines calls Paints session s.input s.input_after end picture after)
      → Draws calls Paints provider lines.reads.bytes lines.bad_line lines.spans picture
      → AppendsBeginning s.output s.output_after picture → DrawsSome calls Paints provider s
  drawn_some session after s end picture lines drawn written =
      inr (lines.reads.bytes, lines.bad_line, lines.spans, picture, lines.reads.all, drawn, written)

  pub drawn_as : (session after : SessionState P S G) (s : Streams) (end : RunEnd) (picture : List ℕ)
      → (lines : DrawsLines calls Paints session s.input s.input_after end picture after)
      → Draws calls Paints provider lines.reads.bytes lines.bad_line lines.spans picture
      → Appends s.output s.output_after picture → DrawsUnder calls Paints provider s end
  drawn_as session after s end picture lines drawn written =
      subst (DrawsUnder calls Paints provider s) (sym lines.ends)
      (ends_drawn s lines.reads.bytes lines.bad_line lines.reason lines.spans picture lines.reads.all lines.reads.at_end
      lines.why drawn written)

module _ {C D E : Type 0} (calls : Calls (MemoryProcessor C D) (SamplerOf E) (List ℕ)) where
  -- what is drawn under the provider that is asked for
  pub draws_asked : (Paints : Painting) (asked : Asked) (provider : ProviderState (MemoryProcessor C D) (SamplerOf E) (List ℕ))
      (s : Streams) (end : RunEnd) → IsProviderOf true asked provider → DrawsUnder calls Paints provider s end
      → EndsAs true (λ bad_line. DrawsAsked calls asked Paints (HasSpan bad_line) s bad_line)
      (DrawsAsked calls asked Paints HasNoSpan s None) (BeginsDrawing calls asked Paints s) s end
  draws_asked Paints asked provider s ends.Done of h = ((provider, of, h.0), h.1)
  draws_asked Paints asked provider s ends.Empty of h = ((provider, of, h.0), h.1)
  draws_asked Paints asked provider s (ends.BadLine line reason) of h = ((provider, of, h.0), h.1)
  draws_asked Paints asked provider s ends.Failed of h = inr (provider, of, h)

  -- what was drawn whole is a beginning
  pub drawing_begun : (Paints : Painting) (Holds : List PlainSpanData → Type 0) (asked : Asked) (s : Streams)
      (bad_line : Option ℕ) → DrawsAsked calls asked Paints Holds s bad_line → BeginsDrawing calls asked Paints s
  drawing_begun Paints Holds asked s bad_line (provider, of, h) =
      inr (provider, of, drawn_begun calls Paints provider Holds s bad_line h)

-- what none of the replies counts that were looked at
pub none_counted : (replies : List PlainReply) → list_any (λ (reply : PlainReply). counts_refusals reply.answer) replies ≡ false
    → NoneRefused replies
none_counted [] e = tt
none_counted (reply ∷ replies) e = by (counts_refusals reply.answer) refl e (none_counted replies)
  where
    by : (counted : Bool) → counted ≡ counts_refusals reply.answer
        → (counted || list_any (λ (r : PlainReply). counts_refusals r.answer) replies) ≡ false
        → (list_any (λ (r : PlainReply). counts_refusals r.answer) replies ≡ false → NoneRefused replies)
        → NoneRefused (reply ∷ replies)
    by true same h more = let no : ⊥ = cc in absurd no
    by false same h more = (sym same, more h)

-- the spans of batches, and of more after them
pub spans_joined : (first second : List (List PlainSpanData)) → spans_in (first ++ second) ≡ spans_in first ++ spans_in second
spans_joined first second = flat_map-append (λ (batch : List PlainSpanData). batch) first second

-- the spans of one batch more
pub spans_more : {X : Type 0} (items : X → List PlainSpanData) (batches : List X) (batch : X) (before now after : List PlainSpanData)
    → now ≡ before ++ spans_in (map items batches) → after ≡ now ++ items batch
    → after ≡ before ++ spans_in (map items (batches ++ batch ∷ []))
spans_more items batches batch before now after h k =
    k ∙ ap (λ (spans : List PlainSpanData). spans ++ items batch) h
    ∙ append_assoc before (spans_in (map items batches)) (items batch)
    ∙ ap (λ (spans : List PlainSpanData). before ++ spans) (sym
    (ap spans_in (map-append items batches (batch ∷ [])) ∙ spans_joined (map items batches) (items batch ∷ [])
    ∙ ap (λ (spans : List PlainSpanData). spans_in (map items batches) ++ spans) (append-nil (items batch))))

-- the spans that one reply more shows
pub spans_shown : (replies : List PlainReply) (reply : PlainReply) (now after : List PlainSpanData)
    → now ≡ spans_in (exported_in replies) → after ≡ now ++ spans_in reply.exported
    → after ≡ spans_in (exported_in (replies ++ reply ∷ []))
spans_shown replies reply now after h k =
    k ∙ ap (λ (spans : List PlainSpanData). spans ++ spans_in reply.exported) h
    ∙ sym (spans_joined (exported_in replies) reply.exported)
    ∙ ap spans_in (sym (flat_map-append (λ (r : PlainReply). r.exported) replies (reply ∷ [])
    ∙ ap (λ (batches : List (List PlainSpanData)). exported_in replies ++ batches) (append-nil reply.exported)))

module _ {P S G : Type 0} (calls : Calls P S G) where
  -- commands were carried out, and a shutdown after them, and these are the spans of all their replies
  pub runs_out : (old middle new : SessionState P S G) (commands : List Command) (before first last all : List PlainReply)
      (spans : List PlainSpanData) → before ≡ [] → Gains before first (λ added. Runs calls old commands added middle)
      → list_any (λ (reply : PlainReply). counts_refusals reply.answer) first ≡ false → RunsShutdown calls middle last new
      → all ≡ first ++ last → spans ≡ spans_in (exported_in all) → RunsOut calls old commands spans new
  runs_out old middle new commands before first last all spans none gains counted shut both shown =
      let same : first ≡ gains.0 = gains.1 ∙ ap (λ (replies : List PlainReply). replies ++ gains.0) none in
      record {
        replies = first;
        last = last;
        middle = middle;
        ran = subst (λ (replies : List PlainReply). Runs calls old commands replies middle) (sym same) gains.2;
        none_refused = none_counted first counted;
        shut = shut;
        shown = shown ∙ ap (λ (replies : List PlainReply). spans_in (exported_in replies)) both;
      }

module _ {P S G : Type 0} (calls : Calls P S G)
    (law : OnlyAppends calls.processor calls.timer calls.keeps.stored) where
  -- what was drawn of an input by a new session that then closed well
  pub draws_from : (Paints : Painting) (provider : ProviderState P S G) (session after : SessionState P S G)
      (input input_after : Option (List ℕ)) (end : RunEnd) (picture before left : List ℕ)
      (closed : ClosedSession) (dialect : Dialect) → dialect ≡ dialects.Extended → BeginsUnder calls provider session
      → (lines : DrawsLines calls Paints session input input_after end picture after) → before ≡ []
      → LostNothing closed true → ClosesAs calls (reply_lines_in dialect) after before closed left
      → Draws calls Paints provider lines.reads.bytes lines.bad_line lines.spans picture
  draws_from Paints provider session after input input_after end picture before left ended dialect extended new lines none lost closed =
      let ending = ends_well calls picture_lines after before left ended true none lost (subst (λ (d : Dialect). ClosesAs calls (reply_lines_in d) after before ended left) extended closed) in
      draws calls law Paints provider session after input input_after end picture left new lines ending.closes ending.leaves_none (ending.drops_none refl)
