-- The turns of commands of one span: its start, its edits, its links, its headers, its end, and when its name is given
-- up, by the history that its name has.
use Rattle.std.specs.Prelude.{◌≡◌, ℕ, List, [], Option, Some, None, map}
use Rattle.opentelemetry.specs.Plain.{PlainContext, PlainScope}
use Rattle.opentelemetry.specs.PlainContexts.{root_cx}
use Rattle.opentelemetry.specs.PlainSpanBuilder.{PlainSpanBuilder}
use Rattle.otel_export.specs.PlainSpanData.{PlainSpanData}
use Rattle.otel_pipeline.specs.SpanHistory.{SpanHistory, SpanStart, Edit, begun, over, data_of, span_of}
use Rattle.otel_pipeline.specs.StartRequest.{StartRequest}
use Rattle.otel_pipeline.specs.Starting.{Starts}
use Rattle.otel_pipeline.specs.Ending.{Delivers, end_delivers}
use Rattle.otel_pipeline.specs.declared.trace.span_processor.SpanProcessor.{Ghosts}
use Rattle.otel_trace_lines.specs.declared.reply.Answer.TheVariants as answers
use Rattle.otel_trace_session.specs.Actions.{PlainOrigin, at_root, under, from_header}
use Rattle.otel_trace_session.specs.Calls.{Calls}
use Rattle.otel_trace_session.specs.Headers.{SaysContext, child_cx}
use Rattle.otel_trace_session.specs.OpenSpans.{AnswersInject, edit_answer, edited_in, forget_answer, forgotten_in}
use Rattle.otel_trace_session.specs.OpenSpans.{link_answer, linked_in, start_answer, with_history}
use Rattle.otel_trace_session.specs.Turn.{AsksNobody, OnlyAnswers, Turn}

-- what a start asks for: its scope and context, by which name commands call the span, what it is to
-- start with, and the moment
pub record Start : Type 0 where
  pub scope : PlainScope
  pub cx : PlainContext
  pub span : List ℕ
  pub builder : PlainSpanBuilder
  pub moment : ℕ

-- the start of a span under a scope, in a context
abbrev pub start_in : PlainScope → PlainContext → List ℕ → PlainSpanBuilder → ℕ → Start
start_in scope cx span builder moment =
    record { scope = scope; cx = cx; span = span; builder = builder; moment = moment }

-- what it asks of the tracer
abbrev pub request_of : Start → StartRequest
request_of start =
    record { scope = start.scope; builder = start.builder; cx = start.cx; now = start.moment }

module _ {P S G : Type 0} (calls : Calls P S G) where
  -- a name is given the history that a start makes, and nothing is delivered
  pub record BeginsHistory (start : Start) (turn : Turn P S G) : Type 0 where
    pub history : SpanHistory
    pub starts : Starts calls.processor calls.sampler calls.ids turn.before.provider (request_of start) history
        turn.after.provider
    pub told : map calls.processor.told turn.after.provider.processors
        ≡ map calls.processor.told turn.before.provider.processors
    pub says : turn.answer ≡ start_answer (span_of history)
    pub delivers : turn.delivered ≡ []
    pub histories : turn.after.histories ≡ with_history turn.before.histories start.span history

  -- a start, by the history that its name has: it is given one once
  abbrev pub StartsAfter : Option SpanHistory → Start → Turn P S G → Type 0
  StartsAfter (Some _) start turn = OnlyAnswers answers.SpanExists turn
  StartsAfter None start turn = BeginsHistory start turn

  -- a start
  abbrev pub StartTurn : Start → Turn P S G → Type 0
  StartTurn start turn = StartsAfter (turn.before.histories start.span) start turn

  -- a start as a child, by the history of its parent: in a context where that is active
  abbrev pub ChildTurn : Start → Option SpanHistory → Turn P S G → Type 0
  ChildTurn start None turn = OnlyAnswers answers.NoSuchSpan turn
  ChildTurn start (Some parent) turn =
      StartTurn (record start { cx = child_cx (span_of parent).span_context }) turn

  -- a start in the context that a header says
  pub record RemoteTurn (start : Start) (header : List ℕ) (turn : Turn P S G) : Type 0 where
    pub cx : PlainContext
    pub says : SaysContext header cx
    pub starts : StartTurn (record start { cx = cx }) turn

  -- a start, by where: as a root, as a child of the span of a name, or where a header says
  abbrev pub StartsFrom : PlainScope → PlainOrigin → List ℕ → PlainSpanBuilder → ℕ → Turn P S G → Type 0
  StartsFrom scope at_root span builder moment turn = StartTurn (start_in scope root_cx span builder moment) turn
  StartsFrom scope (under parent) span builder moment turn =
      ChildTurn (start_in scope root_cx span builder moment) (turn.before.histories parent) turn
  StartsFrom scope (from_header header) span builder moment turn =
      RemoteTurn (start_in scope root_cx span builder moment) header turn

-- one more edit of the span of a name, where its history is not over
abbrev pub EditTurn : {P S G : Type 0} → List ℕ → Edit → Turn P S G → Type 0
EditTurn span edit turn =
    AsksNobody (edit_answer (turn.before.histories span)) (edited_in turn.before.histories span edit) turn

-- one more link of the span of a name, where its history is not over and the span that it points to has one
abbrev pub LinkTurn : {P S G : Type 0} → List ℕ → List ℕ → Turn P S G → Type 0
LinkTurn span target turn = AsksNobody
    (link_answer (turn.before.histories target) (turn.before.histories span))
    (linked_in turn.before.histories span target) turn

-- the name of a span whose history is over has none any more, and may be given one again
abbrev pub ForgetTurn : {P S G : Type 0} → List ℕ → Turn P S G → Type 0
ForgetTurn span turn =
    AsksNobody (forget_answer (turn.before.histories span)) (forgotten_in turn.before.histories span) turn

-- the headers of the span of a name are told, and nothing changes
pub record InjectTurn {P S G : Type 0} (span : List ℕ) (turn : Turn P S G) : Type 0 where
  pub says : AnswersInject (turn.before.histories span) turn.answer
  pub delivers : turn.delivered ≡ []
  pub rest : turn.after ≡ turn.before

module _ {P S G : Type 0} (processor : Ghosts P) where
  -- the history of a name is over, and this data of it is delivered, unless the provider is shut
  pub record EndsHistory (span : List ℕ) (from : SpanStart) (ended : PlainSpanData) (turn : Turn P S G) : Type 0 where
    pub refused : ℕ
    pub delivered : Delivers processor turn.before.provider.is_shut ended turn.before.provider.processors
        turn.after.provider.processors refused
    pub says : turn.answer ≡ answers.Ended refused
    pub delivers : turn.delivered ≡ end_delivers turn.before.provider.is_shut ended refused
    pub provider : turn.after.provider ≡ record turn.before.provider { processors = turn.after.provider.processors }
    pub histories : turn.after.histories
        ≡ with_history turn.before.histories span (over from.span_context from.limits)

  -- an end, by the history that the name has
  abbrev pub EndTurn : List ℕ → ℕ → Option SpanHistory → Turn P S G → Type 0
  EndTurn span moment None turn = OnlyAnswers answers.NoSuchSpan turn
  EndTurn span moment (Some (over context limits)) turn = OnlyAnswers answers.Ignored turn
  EndTurn span moment (Some (begun from edits)) turn = EndsHistory span from (data_of from edits moment) turn
