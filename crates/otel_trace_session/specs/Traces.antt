-- Which spans of a session are of one trace: a child is of its parent's (OpenTelemetry specification, "Sampling").
use Rattle.std.specs.Prelude.{◌≡◌, ℕ, ◌||◌, ◌&&◌, Bool, true, false, not, if◌then◌else◌, List, [], ◌∷◌, Some}
use Rattle.opentelemetry.specs.Plain.{PlainSpanContext}
use Rattle.otel_sampling.specs.Agreement.{Agrees}
use Rattle.otel_pipeline.specs.SpanHistory.{PlainSpan}
use Rattle.otel_trace_lines.specs.Commands.{PlainCommand}
use Rattle.otel_trace_session.specs.Actions.{PlainAction, action_of, forget_span, is_shutdown, start_span, under}
use Rattle.otel_trace_session.specs.OpenSpans.{NamedSpans, is_name, named}
use Rattle.otel_trace_lines.specs.PlainReply.{PlainReply}
use Rattle.otel_trace_lines.specs.declared.reply.Answer.{Answer}
use Rattle.otel_trace_lines.specs.declared.reply.Answer.TheVariants as answers

-- whether an answer says that a start made a span
abbrev pub made_span : Answer → Bool
made_span (answers.Started _) = true
made_span (answers.Dropped _) = true
made_span _ = false

-- whether an action with this answer gave a name up
abbrev pub forgets : PlainAction → Answer → List ℕ → Bool
forgets (forget_span span) answers.Ok q = is_name q span
forgets _ _ q = false

-- whether commands, each with its reply, gave a name up
abbrev pub is_forgotten : List PlainCommand → List PlainReply → List ℕ → Bool
is_forgotten [] replies q = false
is_forgotten (command ∷ commands) [] q = false
is_forgotten (command ∷ commands) (reply ∷ replies) q =
    forgets (action_of command) reply.answer q || is_forgotten commands replies q

-- none of these names was given up
abbrev pub NoneForgotten : (List ℕ → Bool) → List PlainCommand → List PlainReply → Type 0
NoneForgotten is_in commands replies = (q : List ℕ) → is_in q ≡ true → is_forgotten commands replies q ≡ false

-- the names of spans of a trace: with that of a child of one of them where an action started it, and without one that
-- it gave up
abbrev pub with_child : (List ℕ → Bool) → PlainAction → Answer → List ℕ → Bool
with_child is_in (start_span (under parent) span builder moment) answer =
    λ q. is_in q || (is_name q span && (is_in parent && made_span answer))
with_child is_in (forget_span span) answer = λ q. is_in q && not (forgets (forget_span span) answer q)
with_child is_in _ answer = is_in

-- the same over commands, each with its reply: children, their children, and so on, where they started before a
-- shutdown
abbrev pub with_children : (List ℕ → Bool) → List PlainCommand → List PlainReply → List ℕ → Bool
with_children is_in [] replies = is_in
with_children is_in (command ∷ commands) [] = is_in
with_children is_in (command ∷ commands) (reply ∷ replies) =
    if is_shutdown (action_of command) then (λ q. is_in q && not (is_forgotten commands replies q))
    else with_children (with_child is_in (action_of command) reply.answer) commands replies

-- each of these names has a span that agrees with a root
abbrev pub AllAgree : PlainSpanContext → (List ℕ → Bool) → NamedSpans → Type 0
AllAgree root is_in spans = (q : List ℕ) → is_in q ≡ true
    → (span : PlainSpan) × (named spans q ≡ Some span) × Agrees root span.span_context

-- each name that has a span keeps one with its span context, where commands did not give it up
abbrev pub KeepsContexts : List PlainCommand → List PlainReply → NamedSpans → NamedSpans → Type 0
KeepsContexts commands replies old new = (q : List ℕ) (was : PlainSpan) → is_forgotten commands replies q ≡ false
    → named old q ≡ Some was
    → (span : PlainSpan) × (named new q ≡ Some span) × (span.span_context ≡ was.span_context)

-- where spans of these names agree with a root, whenever they were started, and none of the names was given up, so do
-- the children that commands started of them, and those of the children, at any depth, while they have their names
abbrev pub ChildrenAgree : List PlainCommand → List PlainReply → NamedSpans → Type 0
ChildrenAgree commands replies spans = (root : PlainSpanContext) (is_in : List ℕ → Bool)
    → NoneForgotten is_in commands replies → AllAgree root is_in spans
    → AllAgree root (with_children is_in commands replies) spans
