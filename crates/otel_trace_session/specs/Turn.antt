-- A turn: what one command did. It speaks of each span as its history, a start and the edits since.
use Rattle.std.specs.Prelude.{◌≡◌, List, []}
use Rattle.otel_pipeline.specs.Deliveries.{Delivery}
use Rattle.otel_pipeline.specs.Provider.{ProviderState}
use Rattle.otel_trace_lines.specs.declared.reply.Answer.{Answer}
use Rattle.otel_trace_session.specs.OpenSpans.{Describe, Histories, NamedSpans}

-- where the commands of a session stand: its provider, and the history of the span of each name
pub record Course (P S G : Type 0) : Type 0 where
  pub provider : ProviderState P S G
  pub histories : Histories

-- what one command did: where it found the session, its answer, what was delivered, and where it left the session
pub record Turn (P S G : Type 0) : Type 0 where
  pub before : Course P S G
  pub answer : Answer
  pub delivered : List Delivery
  pub after : Course P S G

-- a turn, from what it has
abbrev pub turn_of : {P S G : Type 0} → Course P S G → Answer → List Delivery → Course P S G → Turn P S G
turn_of before answer delivered after =
    record { before = before; answer = answer; delivered = delivered; after = after }

-- a turn in which no one was asked: it has this answer, and leaves these histories
pub record AsksNobody {P S G : Type 0} (said : Answer) (histories : Histories) (turn : Turn P S G) : Type 0 where
  pub says : turn.answer ≡ said
  pub delivers : turn.delivered ≡ []
  pub rest : turn.after ≡ record turn.before { histories = histories }

-- a turn that has this answer and changes nothing
abbrev pub OnlyAnswers : {P S G : Type 0} → Answer → Turn P S G → Type 0
OnlyAnswers said turn = AsksNobody said turn.before.histories turn

-- a turn of which this is so was taken from a course to a provider and spans, which histories describe still
pub record TurnsFrom {P S G : Type 0} (Is : Turn P S G → Type 0) (before : Course P S G) (answer : Answer)
    (provider : ProviderState P S G) (spans : NamedSpans) : Type 0 where
  pub delivered : List Delivery
  pub histories : Histories
  pub is : Is (turn_of before answer delivered (record before { provider = provider; histories = histories }))
  pub describes : Describe histories spans

-- a turn of which this is so was taken from a provider and spans to others, whatever histories the spans had
abbrev pub TurnsFromAny : {P S G : Type 0} → (Turn P S G → Type 0) → ProviderState P S G → NamedSpans → Answer
    → ProviderState P S G → NamedSpans → Type 0
TurnsFromAny {P} {S} {G} Is p old answer q new = (before : Course P S G) → Describe before.histories old
    → TurnsFrom Is (record before { provider = p }) answer q new
