-- The spans of a session by name, the histories that they have, and what a start that is refused may have done. A
-- history is a start and the edits since; none is stored.
use Rattle.std.specs.Prelude.{◌≡◌, ℕ, Bool, List, [], ◌∷◌, ◌++◌, Option, Some, None, is_some, map, string_bytes, String}
use Rattle.std.specs.Prelude.{if◌then◌else◌, ◌⊎◌, false}
use Rattle.std.specs.Option.{option_map}
use Rattle.std.specs.Ordering.{nat_cmp}
use Rattle.std.specs.Cmp.Lexicographic.{slice_cmp}
use Rattle.std.specs.BTreeMap.{is_at}
use Rattle.opentelemetry.specs.Plain.{PlainContext}
use Rattle.opentelemetry.specs.PlainSpanBuilder.{PlainSpanBuilder}
use Rattle.otel_pipeline.specs.SpanHistory.{PlainSpan, SpanHistory, HasHistory, begun, over, span_of, Edit}
use Rattle.otel_pipeline.specs.SpanEdits.{add_link, new_link}
use Rattle.otel_pipeline.specs.Provider.{ProviderState}
use Rattle.otel_pipeline.specs.Starting.{OnlyDraws}
use Rattle.otel_trace_lines.specs.declared.reply.Answer.{Answer}
use Rattle.otel_trace_lines.specs.declared.reply.Answer.TheVariants as answers
use Rattle.otel_trace_lines.specs.declared.reply.SpanIdentity.{SpanIdentity}
use Rattle.otel_trace_session.specs.Calls.{Calls}
use Rattle.otel_trace_session.specs.Ended.{EndedIdentity, ended_span}
use Rattle.otel_trace_session.specs.Headers.{AnswersHeaders, SaysContext, child_cx}

-- spans, each under the bytes by which commands call it
abbrev pub NamedSpans : Type 0
NamedSpans = List (List ℕ × PlainSpan)

-- whether two names are the same
abbrev pub is_name : List ℕ → List ℕ → Bool
is_name name other = is_at (slice_cmp nat_cmp name) other

-- the span of a name, if there is one
abbrev pub named : NamedSpans → List ℕ → Option PlainSpan
named [] name = None
named (entry ∷ entries) name = if is_name name entry.0 then Some entry.1 else named entries name

-- each span has a history
abbrev pub HaveHistories : NamedSpans → Type 0
HaveHistories spans = (name : List ℕ) (span : PlainSpan) → named spans name ≡ Some span → HasHistory span

-- the entries of a map whose keys are texts
abbrev pub by_name : {Y X : Type 0} → List (String Y × X) → List (List ℕ × X)
by_name entries = map (λ entry. (string_bytes entry.0, entry.1)) entries

-- the same of what is kept of spans that are over
abbrev pub finished_by_name : {Y : Type 0} → List (String Y × EndedIdentity) → NamedSpans
finished_by_name entries = map (λ entry. (string_bytes entry.0, ended_span entry.1)) entries

-- the spans of a session: the open ones, and under each other name what is over
abbrev pub held_spans : {Y : Type 0} → List (String Y × PlainSpan) → List (String Y × EndedIdentity) → NamedSpans
held_spans running finished = by_name running ++ finished_by_name finished

-- each name has what it had
abbrev pub SameSpans : NamedSpans → NamedSpans → Type 0
SameSpans old new = (q : List ℕ) → named new q ≡ named old q

-- a name was given a span, and each other name has what it had
abbrev pub PutsSpan : NamedSpans → List ℕ → PlainSpan → NamedSpans → Type 0
PutsSpan old name span new = (q : List ℕ) → named new q ≡ (if is_name q name then Some span else named old q)

-- a name has no span any more, and each other name has what it had
abbrev pub DropsSpan : NamedSpans → List ℕ → NamedSpans → Type 0
DropsSpan old name new = (q : List ℕ) → named new q ≡ (if is_name q name then None else named old q)

-- the history of the span of each name, where a start made it
abbrev pub Histories : Type 0
Histories = List ℕ → Option SpanHistory

-- histories in which a name has this one
abbrev pub with_history : Histories → List ℕ → SpanHistory → Histories
with_history old span history = λ q. if is_name q span then Some history else old q

-- these spans are those that the histories give
abbrev pub Describe : Histories → NamedSpans → Type 0
Describe histories spans = (q : List ℕ) → named spans q ≡ option_map span_of (histories q)

-- a history after an edit: one more, where it is not over
abbrev pub edited_history : Edit → SpanHistory → SpanHistory
edited_history edit (over context limits) = over context limits
edited_history edit (begun from edits) = begun from (edits ++ edit ∷ [])

-- histories after an edit of the span of a name
abbrev pub edited_in : Histories → List ℕ → Edit → Histories
edited_in old span edit = λ q. if is_name q span then option_map (edited_history edit) (old span) else old q

-- what is said of an edit, by the history of its span
abbrev pub edit_answer : Option SpanHistory → Answer
edit_answer None = answers.NoSuchSpan
edit_answer (Some (over context limits)) = answers.Ignored
edit_answer (Some (begun from edits)) = answers.Ok

-- histories after a link from the span of a name, by the history of the span that it points to: an edit, where there is
-- one
abbrev pub linked_by : Option SpanHistory → Histories → List ℕ → Histories
linked_by None old span = old
linked_by (Some target) old span = edited_in old span (add_link (new_link (span_of target).span_context []))

abbrev pub linked_in : Histories → List ℕ → List ℕ → Histories
linked_in old span target = linked_by (old target) old span

-- what is said of a link, by the histories of the span that it points to and of its own
abbrev pub link_answer : Option SpanHistory → Option SpanHistory → Answer
link_answer None span = answers.NoSuchSpan
link_answer (Some target) span = edit_answer span

-- histories after the name of a span was given up, by the history that it had: it has none, where that is over
abbrev pub forgotten_by : Option SpanHistory → Histories → List ℕ → Histories
forgotten_by None old span = old
forgotten_by (Some (over context limits)) old span = λ q. if is_name q span then None else old q
forgotten_by (Some (begun from edits)) old span = old

abbrev pub forgotten_in : Histories → List ℕ → Histories
forgotten_in old span = forgotten_by (old span) old span

-- what is said where a name is to be given up, by its history
abbrev pub forget_answer : Option SpanHistory → Answer
forget_answer None = answers.NoSuchSpan
forget_answer (Some (over context limits)) = answers.Ok
forget_answer (Some (begun from edits)) = answers.StillOpen

-- what is said of the headers of a span, by its history, also where that is over
abbrev pub AnswersInject : Option SpanHistory → Answer → Type 0
AnswersInject None answer = answer ≡ answers.NoSuchSpan
AnswersInject (Some history) answer = AnswersHeaders (span_of history).span_context answer

-- whether there is a span, and it records
abbrev pub records : Option PlainSpan → Bool
records None = false
records (Some span) = is_some span.recorded

-- who a span is
abbrev pub identity_of : PlainSpan → SpanIdentity
identity_of span = record {
  trace_id = span.span_context.trace_id;
  span_id = span.span_context.span_id;
  trace_flags = span.span_context.trace_flags;
}

-- what is said of a start, by the span that it made
abbrev pub start_answer : PlainSpan → Answer
start_answer span =
    if is_some span.recorded then answers.Started (identity_of span) else answers.Dropped (identity_of span)

module _ {P S G : Type 0} (calls : Calls P S G) where
  -- what a start in a context that is refused may have done to a provider: nothing, or ids were drawn; no processor was
  -- asked. Under a name that has a span none is refused
  abbrev pub MayStart : ProviderState P S G → PlainContext → PlainSpanBuilder → ℕ → Option PlainSpan
      → ProviderState P S G → Type 0
  MayStart p cx builder now (Some _) q = ⊥
  MayStart p cx builder now None q = (q ≡ p) ⊎ OnlyDraws calls.sampler calls.ids p builder cx now q

  -- the same as a child of the span of another name: nothing where no start made that, or where there is no memory for
  -- the context in which that is active
  abbrev pub ChildMayStart : ProviderState P S G → Option PlainSpan → PlainSpanBuilder → ℕ → Option PlainSpan
      → ProviderState P S G → Type 0
  ChildMayStart p None builder now found q = q ≡ p
  ChildMayStart p (Some parent) builder now found q =
      (q ≡ p) ⊎ MayStart p (child_cx parent.span_context) builder now found q

  -- the same in the context that a header says: nothing where there is no memory for that
  abbrev pub RemoteMayStart : ProviderState P S G → List ℕ → PlainSpanBuilder → ℕ → Option PlainSpan
      → ProviderState P S G → Type 0
  RemoteMayStart p header builder now found q =
      (q ≡ p) ⊎ ((cx : PlainContext) × SaysContext header cx × MayStart p cx builder now found q)
