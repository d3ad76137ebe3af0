-- What one command does to the spans of a session is a turn of their histories.
use Rattle.std.proofs.Common.{◌≡◌, ℕ, Bool, true, false, if◌then◌else◌, List, [], is_some, Option, Some, None, Result, Ok, Err, IfOk, refl, sym, ◌∙◌, ap, subst}
use Rattle.std.proofs.lemmas.Option.{none-some, same_Some}
use Rattle.std.specs.Option.{option_map}
use Rattle.opentelemetry.specs.Plain.{PlainContext, PlainLink}
use Rattle.opentelemetry.specs.PlainContexts.{current_span_context}
use Rattle.otel_pipeline.specs.SpanHistory.{PlainSpan, SpanHistory, begun, over, Edit, edited, ended, not_recording, data_of, span_of}
use Rattle.otel_pipeline.specs.SpanEdits.{add_link, new_link}
use Rattle.otel_pipeline.specs.Provider.{ProviderState}
use Rattle.otel_pipeline.specs.Ending.{DeliversIf, end_delivers}
use Rattle.otel_pipeline.proofs.SpanLaws.{edited-recording}
use Rattle.otel_pipeline.specs.declared.trace.span_processor.SpanProcessor.{Ghosts}
use Rattle.otel_trace_lines.specs.declared.reply.Answer.{Answer}
use Rattle.otel_trace_lines.specs.declared.reply.Answer.TheVariants as answers
use Rattle.otel_trace_session.specs.Calls.{Calls}
use Rattle.otel_trace_session.specs.Headers.{AnswersHeaders, child_cx}
use Rattle.otel_trace_session.specs.OpenSpans.{AnswersInject, Describe, Histories, NamedSpans, PutsSpan, SameSpans, edit_answer, edited_history, edited_in, is_name, link_answer, linked_by, linked_in, named, with_history}
use Rattle.otel_trace_session.specs.SpanTurns.{BeginsHistory, ChildTurn, EndTurn, Start, StartTurn}
use Rattle.otel_trace_session.specs.Turn.{Course, TurnsFromAny, TurnsFrom, Turn}
use Rattle.otel_trace_session.proofs.NamedLemmas.{put_same, same_name}

describes_if : (b : Bool) (history : SpanHistory) (o : Option SpanHistory) (found : Option PlainSpan) → found ≡ option_map span_of o → (if b then Some (span_of history) else found) ≡ option_map span_of (if b then Some history else o)
describes_if true history o found e = refl
describes_if false history o found e = e

-- a name is given the span of a history
describes_put : (histories : Histories) (old new : NamedSpans) (span : List ℕ) (history : SpanHistory) → Describe histories old → PutsSpan old span (span_of history) new → Describe (with_history histories span history) new
describes_put histories old new span history describes put = λ q. put q ∙ describes_if (is_name q span) history (histories q) (named old q) (describes q)

describes_same : (histories : Histories) (old new : NamedSpans) → Describe histories old → SameSpans old new → Describe histories new
describes_same histories old new describes same = λ q. same q ∙ describes q

-- the span of a name whose history is over stays
describes_over : (histories : Histories) (old new : NamedSpans) (span : List ℕ) (found : PlainSpan) → Describe histories old → named old span ≡ Some found → PutsSpan old span found new → Describe histories new
describes_over histories old new span found describes there put = describes_same histories old new describes (put_same old new span found there put)

-- what is said of an edit, by the span
abbrev pub said : Option PlainSpan → Answer
said None = answers.NoSuchSpan
said (Some found) = if is_some found.recorded then answers.Ok else answers.Ignored

-- a history and its span after an edit
edit_found : (edit : Edit) (found : Option SpanHistory) → (said (option_map span_of found) ≡ edit_answer found) × (option_map (edited edit) (option_map span_of found) ≡ option_map span_of (option_map (edited_history edit) found))
edit_found edit None = (refl, refl)
edit_found edit (Some (over context limits)) = (refl, refl)
edit_found edit (Some (begun from edits)) = (refl, ap Some (edited-recording from edits edit))

-- the span of a name was edited, if there is one, and each other name has what it had
abbrev EditsSpan : NamedSpans → List ℕ → Edit → NamedSpans → Type 0
EditsSpan old span edit new = (q : List ℕ) → named new q ≡ (if is_name q span then option_map (edited edit) (named old span) else named old q)

edited_by : (b : Bool) (histories : Histories) (old : NamedSpans) (span : List ℕ) (edit : Edit) (q : List ℕ) → Describe histories old
    → (if b then option_map (edited edit) (named old span) else named old q) ≡ option_map span_of (if b then option_map (edited_history edit) (histories span) else histories q)
edited_by true histories old span edit q describes = ap (option_map (edited edit)) (describes span) ∙ (edit_found edit (histories span)).1
edited_by false histories old span edit q describes = describes q

-- an edit, whatever histories the spans had
abbrev pub Edits : NamedSpans → List ℕ → Edit → Answer → NamedSpans → Type 0
Edits old span edit answer new = (histories : Histories) → Describe histories old → (answer ≡ edit_answer (histories span)) × Describe (edited_in histories span edit) new

edits : (old new : NamedSpans) (span : List ℕ) (edit : Edit) (answer : Answer) → answer ≡ said (named old span) → EditsSpan old span edit new → Edits old span edit answer new
edits old new span edit answer says changes = λ histories describes. (
  says ∙ ap said (describes span) ∙ (edit_found edit (histories span)).0,
  λ q. changes q ∙ edited_by (is_name q span) histories old span edit q describes,
)

absent_by : (old : NamedSpans) (span : List ℕ) (edit : Edit) (q : List ℕ) (b : Bool) → is_name q span ≡ b → named old span ≡ None → named old q ≡ (if b then option_map (edited edit) (named old span) else named old q)
absent_by old span edit q true e absent = ap (named old) (same_name q span e) ∙ absent ∙ sym (ap (option_map (edited edit)) absent)
absent_by old span edit q false e absent = refl

-- of a name without a span, and of one with a span
pub edits_absent : (old new : NamedSpans) (span : List ℕ) (edit : Edit) → named old span ≡ None → SameSpans old new → Edits old span edit answers.NoSuchSpan new
edits_absent old new span edit absent same = edits old new span edit answers.NoSuchSpan (sym (ap said absent)) (λ q. same q ∙ absent_by old span edit q (is_name q span) refl absent)

pub edits_there : (old new : NamedSpans) (span : List ℕ) (edit : Edit) (found : PlainSpan) (answer : Answer) → named old span ≡ Some found → answer ≡ said (Some found) → PutsSpan old span (edited edit found) new → Edits old span edit answer new
edits_there old new span edit found answer there says put = edits old new span edit answer (says ∙ sym (ap said there))
    (subst (λ (o : Option PlainSpan). (q : List ℕ) → named new q ≡ (if is_name q span then option_map (edited edit) o else named old q)) (sym there) put)

-- a link, whatever histories the spans had
abbrev pub Links : NamedSpans → List ℕ → List ℕ → Answer → NamedSpans → Type 0
Links old span target answer new = (histories : Histories) → Describe histories old → (answer ≡ link_answer (histories target) (histories span)) × Describe (linked_in histories span target) new

-- the link to a span
abbrev link_of : PlainSpan → PlainLink
link_of found = new_link found.span_context []

-- to a name without a span, and to one with a span
pub links_absent : (spans : NamedSpans) (span target : List ℕ) → None ≡ option_map link_of (named spans target) → Links spans span target answers.NoSuchSpan spans
links_absent spans span target none = λ histories describes. by histories describes (histories target) (none ∙ ap (option_map link_of) (describes target))
  where
    by : (histories : Histories) → Describe histories spans → (found : Option SpanHistory) → None ≡ option_map link_of (option_map span_of found) → (answers.NoSuchSpan ≡ link_answer found (histories span)) × Describe (linked_by found histories span) spans
    by histories describes None e = (refl, describes)
    by histories describes (Some history) e = cc

pub links_there : {E : Type 0} (result : Result Answer E) (old new : NamedSpans) (span target : List ℕ) (link : PlainLink) → Some link ≡ option_map link_of (named old target)
    → IfOk result (λ answer. Edits old span (add_link link) answer new) → IfOk result (λ answer. Links old span target answer new)
links_there (Err e) old new span target link there h = tt
links_there (Ok answer) old new span target link there h = λ histories describes. by histories (histories target) (there ∙ ap (option_map link_of) (describes target)) (h histories describes)
  where
    by : (histories : Histories) (found : Option SpanHistory) → Some link ≡ option_map link_of (option_map span_of found) → (answer ≡ edit_answer (histories span)) × Describe (edited_in histories span (add_link link)) new
        → (answer ≡ link_answer found (histories span)) × Describe (linked_by found histories span) new
    by histories None e k = cc
    by histories (Some history) e k = (k.0, subst (λ (l : PlainLink). Describe (edited_in histories span (add_link l)) new) (same_Some link _ e) k.1)

-- what is said of the headers of a span
pub inject_absent : (spans : NamedSpans) (span : List ℕ) → None ≡ option_map (λ (s : PlainSpan). child_cx s.span_context) (named spans span) → (histories : Histories) → Describe histories spans → AnswersInject (histories span) answers.NoSuchSpan
inject_absent spans span none histories describes = by (histories span) (none ∙ ap (option_map (λ (s : PlainSpan). child_cx s.span_context)) (describes span))
  where
    by : (found : Option SpanHistory) → None ≡ option_map (λ (s : PlainSpan). child_cx s.span_context) (option_map span_of found) → AnswersInject found answers.NoSuchSpan
    by None e = refl
    by (Some history) e = cc

pub inject_there : {E : Type 0} (result : Result Answer E) (spans : NamedSpans) (span : List ℕ) (cx : PlainContext) → Some cx ≡ option_map (λ (s : PlainSpan). child_cx s.span_context) (named spans span)
    → IfOk result (AnswersHeaders (current_span_context cx)) → IfOk result (λ answer. (histories : Histories) → Describe histories spans → AnswersInject (histories span) answer)
inject_there (Err e) spans span cx there h = tt
inject_there (Ok answer) spans span cx there h = λ histories describes. by (histories span) (there ∙ ap (option_map (λ (s : PlainSpan). child_cx s.span_context)) (describes span))
  where
    by : (found : Option SpanHistory) → Some cx ≡ option_map (λ (s : PlainSpan). child_cx s.span_context) (option_map span_of found) → AnswersInject found answer
    by None e = cc
    by (Some history) e = subst (λ (c : PlainContext). AnswersHeaders (current_span_context c) answer) (same_Some cx _ e) h

module _ {P S G : Type 0} (processor : Ghosts P) where
  -- the end of a span
  pub record EndsSpan (p : ProviderState P S G) (old : NamedSpans) (span : List ℕ) (moment : ℕ) (found : PlainSpan) (answer : Answer) (q : ProviderState P S G) (new : NamedSpans) : Type 0 where
    pub refused : ℕ
    pub delivers : DeliversIf processor p.is_shut moment found.recorded p.processors q.processors refused
    pub says : answer ≡ (if is_some found.recorded then answers.Ended refused else answers.Ignored)
    pub put : PutsSpan old span (ended found) new
    pub rest : q ≡ record p { processors = q.processors }

  abbrev pub EndsNamed : List ℕ → ℕ → Turn P S G → Type 0
  EndsNamed span moment turn = EndTurn processor span moment (turn.before.histories span) turn

  end_found : (p q : ProviderState P S G) (before : Course P S G) (old new : NamedSpans) (span : List ℕ) (moment : ℕ) (history : SpanHistory) (answer : Answer) → before.histories span ≡ Some history → Describe before.histories old
      → EndsSpan p old span moment (span_of history) answer q new → TurnsFrom (EndsNamed span moment) (record before { provider = p }) answer q new
  end_found p q before old new span moment (over context limits) answer e describes h =
      let same : q ≡ p = h.rest ∙ ap (λ (ps : List P). record p { processors = ps }) h.delivers.0 in record {
        delivered = [];
        histories = before.histories;
        is = rw e (record { says = h.says; delivers = refl; rest = ap (λ (r : ProviderState P S G). record before { provider = r }) same });
        describes = describes_over before.histories old new span (not_recording context limits) describes (describes span ∙ ap (option_map span_of) e) h.put;
      }
  end_found p q before old new span moment (begun from edits) answer e describes h = record {
    delivered = end_delivers p.is_shut (data_of from edits moment) h.refused;
    histories = with_history before.histories span (over from.span_context from.limits);
    is = rw e (record { refused = h.refused; delivered = h.delivers; says = h.says; delivers = refl; provider = h.rest; histories = refl });
    describes = describes_put before.histories old new span (over from.span_context from.limits) describes h.put;
  }

  -- of a name without a span, and of one with a span
  pub ends_absent : (p : ProviderState P S G) (old new : NamedSpans) (span : List ℕ) (moment : ℕ) → named old span ≡ None → SameSpans old new
      → TurnsFromAny (EndsNamed span moment) p old answers.NoSuchSpan p new
  ends_absent p old new span moment absent same = λ before describes. by before describes (before.histories span) refl
    where
      by : (before : Course P S G) → Describe before.histories old → (found : Option SpanHistory) → before.histories span ≡ found → TurnsFrom (EndsNamed span moment) (record before { provider = p }) answers.NoSuchSpan p new
      by before describes None e = record { delivered = []; histories = before.histories; is = rw e (record { says = refl; delivers = refl; rest = refl }); describes = describes_same before.histories old new describes same }
      by before describes (Some history) e = absurd (none-some (span_of history) (sym absent ∙ describes span ∙ ap (option_map span_of) e))

  pub ends_there : (p q : ProviderState P S G) (old new : NamedSpans) (span : List ℕ) (moment : ℕ) (found : PlainSpan) (answer : Answer) → named old span ≡ Some found → EndsSpan p old span moment found answer q new
      → TurnsFromAny (EndsNamed span moment) p old answer q new
  ends_there p q old new span moment found answer there h = λ before describes. by before describes (before.histories span) refl
    where
      by : (before : Course P S G) → Describe before.histories old → (history : Option SpanHistory) → before.histories span ≡ history → TurnsFrom (EndsNamed span moment) (record before { provider = p }) answer q new
      by before describes None e = absurd (none-some found (sym (ap (option_map span_of) e) ∙ sym (describes span) ∙ there))
      by before describes (Some history) e = end_found p q before old new span moment history answer e describes
          (subst (λ (s : PlainSpan). EndsSpan p old span moment s answer q new) (same_Some found (span_of history) (sym there ∙ describes span ∙ ap (option_map span_of) e)) h)

module _ {P S G : Type 0} (calls : Calls P S G) where
  -- a start under a name that has a span, which stays
  pub starts_taken : (p : ProviderState P S G) (old new : NamedSpans) (start : Start) (found : PlainSpan) → named old start.span ≡ Some found → PutsSpan old start.span found new
      → TurnsFromAny (StartTurn calls start) p old answers.SpanExists p new
  starts_taken p old new start found there put = λ before describes. by before describes (before.histories start.span) refl
    where
      by : (before : Course P S G) → Describe before.histories old → (history : Option SpanHistory) → before.histories start.span ≡ history → TurnsFrom (StartTurn calls start) (record before { provider = p }) answers.SpanExists p new
      by before describes None e = absurd (none-some found (sym (ap (option_map span_of) e) ∙ sym (describes start.span) ∙ there))
      by before describes (Some history) e = record { delivered = []; histories = before.histories; is = rw e (record { says = refl; delivers = refl; rest = refl }); describes = describes_over before.histories old new start.span found describes there put }

  -- one under a name that has none
  pub starts_free : (p q : ProviderState P S G) (old new : NamedSpans) (start : Start) (answer : Answer) (history : SpanHistory) → named old start.span ≡ None → PutsSpan old start.span (span_of history) new
      → ((before : Course P S G) → BeginsHistory calls start (record {
        before = record before { provider = p };
        answer = answer;
        delivered = [];
        after = record before { provider = q; histories = with_history before.histories start.span history };
      })) → TurnsFromAny (StartTurn calls start) p old answer q new
  starts_free p q old new start answer history free put begins = λ before describes. by before describes (before.histories start.span) refl
    where
      by : (before : Course P S G) → Describe before.histories old → (found : Option SpanHistory) → before.histories start.span ≡ found → TurnsFrom (StartTurn calls start) (record before { provider = p }) answer q new
      by before describes None e = record { delivered = []; histories = with_history before.histories start.span history; is = rw e (begins before); describes = describes_put before.histories old new start.span history describes put }
      by before describes (Some h) e = absurd (none-some (span_of h) (sym free ∙ describes start.span ∙ ap (option_map span_of) e))

  -- a start as a child, where its parent has no span and where it has one
  abbrev pub Childs : Start → List ℕ → Turn P S G → Type 0
  Childs start parent turn = ChildTurn calls start (turn.before.histories parent) turn

  pub child_absent : (p : ProviderState P S G) (spans : NamedSpans) (start : Start) (parent : List ℕ) → None ≡ option_map (λ (s : PlainSpan). child_cx s.span_context) (named spans parent)
      → TurnsFromAny (Childs start parent) p spans answers.NoSuchSpan p spans
  child_absent p spans start parent none = λ before describes. by before describes (before.histories parent) refl
    where
      by : (before : Course P S G) → Describe before.histories spans → (found : Option SpanHistory) → before.histories parent ≡ found → TurnsFrom (Childs start parent) (record before { provider = p }) answers.NoSuchSpan p spans
      by before describes None e = record { delivered = []; histories = before.histories; is = rw e (record { says = refl; delivers = refl; rest = refl }); describes = describes }
      by before describes (Some h) e = absurd (none-some (child_cx (span_of h).span_context) (none ∙ ap (option_map (λ (s : PlainSpan). child_cx s.span_context)) (describes parent ∙ ap (option_map span_of) e)))

  pub child_there : (p q : ProviderState P S G) (old new : NamedSpans) (start : Start) (parent : List ℕ) (cx : PlainContext) (answer : Answer) → Some cx ≡ option_map (λ (s : PlainSpan). child_cx s.span_context) (named old parent)
      → TurnsFromAny (StartTurn calls (record start { cx = cx })) p old answer q new → TurnsFromAny (Childs start parent) p old answer q new
  child_there p q old new start parent cx answer there takes = λ before describes. by before describes (before.histories parent) refl (takes before describes)
    where
      by : (before : Course P S G) → Describe before.histories old → (found : Option SpanHistory) → before.histories parent ≡ found → TurnsFrom (StartTurn calls (record start { cx = cx })) (record before { provider = p }) answer q new
          → TurnsFrom (Childs start parent) (record before { provider = p }) answer q new
      by before describes None e took = absurd (none-some cx (sym (ap (option_map (λ (s : PlainSpan). child_cx s.span_context)) (describes parent ∙ ap (option_map span_of) e)) ∙ sym there))
      by before describes (Some h) e took =
          let same : cx ≡ child_cx (span_of h).span_context = same_Some cx _ (there ∙ ap (option_map (λ (s : PlainSpan). child_cx s.span_context)) (describes parent ∙ ap (option_map span_of) e)) in
          let turn : Turn P S G = record { before = record before { provider = p }; answer = answer; delivered = took.delivered; after = record before { provider = q; histories = took.histories } } in
          record {
            delivered = took.delivered;
            histories = took.histories;
            is = rw e (subst (λ (c : PlainContext). StartTurn calls (record start { cx = c }) turn) same took.is);
            describes = took.describes;
          }

  pub child_result : {E : Type 0} (result : Result Answer E) (p q : ProviderState P S G) (old new : NamedSpans) (start : Start) (parent : List ℕ) (cx : PlainContext) → Some cx ≡ option_map (λ (s : PlainSpan). child_cx s.span_context) (named old parent)
      → IfOk result (λ answer. TurnsFromAny (StartTurn calls (record start { cx = cx })) p old answer q new) → IfOk result (λ answer. TurnsFromAny (Childs start parent) p old answer q new)
  child_result (Ok answer) p q old new start parent cx there takes = child_there p q old new start parent cx answer there takes
  child_result (Err e) p q old new start parent cx there takes = tt
