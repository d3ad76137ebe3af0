-- What the modes `picture` and `svg` do with their streams: all spans that a session exports are drawn.
use Rattle.std.specs.Prelude.{◌≡◌, ◌≢◌, ◌⊎◌, ℕ, Bool, true, false, List, [], ◌∷◌, ◌++◌, Option, Some, None, All}
use Rattle.std.specs.Prelude.{IfSome, IsTrue, sum_by, ⊤}
use Rattle.std.specs.Io.KnownBytes.{Appends, IsAtEnd}
use Rattle.otel_export.specs.PlainSpanData.{PlainSpanData, spans_in}
use Rattle.otel_export.specs.declared.error.OTelSdkError.TheVariants as errors
use Rattle.otel_export.specs.Streams.{AppendsBeginning}
use Rattle.otel_pipeline.specs.Provider.{ProviderState}
use Rattle.otel_trace_lines.specs.Commands.{PlainCommand, plain_commands}
use Rattle.otel_trace_lines.specs.Lines.{TextSpells}
use Rattle.otel_trace_lines.specs.PlainReply.{NoneRefused, PlainReply}
use Rattle.otel_trace_lines.specs.ReplyForm.{Form, reply_lines_in}
use Rattle.otel_trace_lines.specs.declared.command.Command.{Command}
use Rattle.otel_trace_lines.specs.declared.command.Command.TheVariants as requests
use Rattle.otel_trace_lines.specs.declared.dialect.Dialect.TheVariants as dialects
use Rattle.otel_trace_lines.specs.declared.reply.Answer.{Answer}
use Rattle.otel_trace_lines.specs.declared.reply.Answer.TheVariants as answers
use Rattle.otel_trace_run.specs.OtlpRuns.{exported_since}
use Rattle.otel_trace_run.specs.Streams.{AreAll, EndsAs, Streams, WhyBad}
use Rattle.otel_trace_run.specs.declared.reason.Reason.{Reason}
use Rattle.otel_trace_run.specs.declared.run_end.RunEnd.{RunEnd}
use Rattle.otel_trace_run.specs.declared.run_end.RunEnd.TheVariants as ends
use Rattle.otel_trace_session.specs.Calls.{Calls}
use Rattle.otel_trace_session.specs.Closing.{Finishes}
use Rattle.otel_trace_session.specs.Shown.{exported_in}
use Rattle.otel_trace_session.specs.Turns.{BeginsUnder, Runs, SessionState}

-- what is said of spans and what was painted of them
abbrev pub Painting : Type 1
Painting = List PlainSpanData → List ℕ → Type 0

-- whether an answer to a shutdown says that the provider is shut: by this one, or it was before
abbrev pub says_shut : Answer → Bool
says_shut answers.Ok = true
says_shut (answers.Failed errors.AlreadyShutdown) = true
says_shut _ = false

-- lines by the extended grammar, and replies as in the mode `trace`
abbrev pub picture_lines : Form
picture_lines = reply_lines_in dialects.Extended

-- an input was read to its end, and spells commands up to its first bad line
pub record ReadsScript (input after : Option (List ℕ)) (commands : List PlainCommand) (bad_line : Option ℕ)
    : Type 0 where
  pub bytes : List ℕ
  pub all : AreAll input bytes
  pub at_end : IsAtEnd after
  pub spelled : TextSpells dialects.Extended bytes commands bad_line

-- how a run ends of whose input these spans are drawn: those of its lines up to the first bad one, which is bad for
-- this reason
abbrev pub end_of : (bad_line : Option ℕ) → Option Reason → List PlainSpanData → RunEnd
end_of (Some line) reason spans = ends.BadLine line reason
end_of None reason [] = ends.Empty
end_of None reason (span ∷ spans) = ends.Done

module _ {P S G : Type 0} (calls : Calls P S G) where
  -- a session carried out a shutdown, after which its provider is shut
  pub record RunsShutdown (old : SessionState P S G) (replies : List PlainReply) (new : SessionState P S G)
      : Type 0 where
    pub ran : Runs calls old (requests.Shutdown ∷ []) replies new
    pub says : All (λ reply. IsTrue (says_shut reply.answer)) replies

  -- a session carried out commands and then a shutdown, and exported these spans
  pub record RunsOut (old : SessionState P S G) (commands : List Command) (spans : List PlainSpanData)
      (new : SessionState P S G) : Type 0 where
    pub replies : List PlainReply
    pub last : List PlainReply
    pub middle : SessionState P S G
    pub ran : Runs calls old commands replies middle
    pub none_refused : NoneRefused replies
    pub shut : RunsShutdown middle last new
    pub shown : spans ≡ spans_in (exported_in (replies ++ last))

  -- a session carried out the lines of an input, up to its first bad line, and then a shutdown; this is what was
  -- painted of the spans that it exported, and so ends the run that writes it
  pub record DrawsLines (Paints : Painting) (old : SessionState P S G) (input after : Option (List ℕ))
      (end : RunEnd) (picture : List ℕ) (new : SessionState P S G) : Type 0 where
    pub commands : List Command
    pub bad_line : Option ℕ
    pub reason : Option Reason
    pub spans : List PlainSpanData
    pub reads : ReadsScript input after (plain_commands commands) bad_line
    pub why : IfSome bad_line (λ line. WhyBad true input line reason)
    pub ran : RunsOut old commands spans new
    pub drawn : Paints spans picture
    pub ends : end ≡ end_of bad_line reason spans

-- that there is a span to draw; in front of a bad line there may be none
abbrev pub HasSpan : (bad_line : Option ℕ) → List PlainSpanData → Type 0
HasSpan None spans = spans ≢ []
HasSpan (Some line) spans = ⊤

-- that there is none
abbrev pub HasNoSpan : List PlainSpanData → Type 0
HasNoSpan spans = spans ≡ []

module _ {P S G : Type 0} (calls : Calls P S G) (Paints : Painting)
    (provider : ProviderState P S G) where
  -- one session carried out a text, up to its first bad line, and closed as in the mode `trace`; these are all spans
  -- that it exported, in order, and this is what was painted of them; none was dropped at a full queue
  pub record Draws (bytes : List ℕ) (bad_line : Option ℕ) (spans : List PlainSpanData) (picture : List ℕ)
      : Type 0 where
    pub replied : List ℕ
    pub begun : SessionState P S G
    pub begins : BeginsUnder calls provider begun
    pub finishes : Finishes calls picture_lines begun bytes bad_line replied
    pub drops_none : sum_by calls.queues.dropped_over finishes.closes.provider.processors ≡ 0
    pub exported : spans ≡ spans_in (exported_since calls provider finishes.closes.provider)
    pub drawn : Paints spans picture

  -- the output was given the picture of the whole input, of whose spans this holds
  pub record DrawsAll (Holds : List PlainSpanData → Type 0) (s : Streams) (bad_line : Option ℕ) : Type 0 where
    pub bytes : List ℕ
    pub spans : List PlainSpanData
    pub picture : List ℕ
    pub all : AreAll s.input bytes
    pub draws : Draws bytes bad_line spans picture
    pub holds : Holds spans
    pub written : Appends s.output s.output_after picture

  -- the output was given nothing, or a beginning of the picture of the whole input
  abbrev pub DrawsSome : Streams → Type 0
  DrawsSome s = Appends s.output s.output_after []
      ⊎ ((bytes : List ℕ) × (bad_line : Option ℕ) × (spans : List PlainSpanData) × (picture : List ℕ)
      × AreAll s.input bytes × Draws bytes bad_line spans picture × AppendsBeginning s.output s.output_after picture)

  -- what a session did whose spans are drawn, by how it ended
  abbrev pub DrawsUnder : Streams → RunEnd → Type 0
  DrawsUnder s end =
      EndsAs true (λ bad_line. DrawsAll (HasSpan bad_line) s bad_line) (DrawsAll HasNoSpan s None) (DrawsSome s) s end
