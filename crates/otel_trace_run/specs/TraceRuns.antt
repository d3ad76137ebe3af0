-- What the mode `trace` does with its streams, with its replies in a form.
use Rattle.std.specs.Prelude.{◌≡◌, ◌⊎◌, ◌++◌, ℕ, true, List, [], Option, Some, None, Result}
use Rattle.std.specs.Io.KnownBytes.{Appends, IsAtEnd}
use Rattle.std.specs.Str.Lines.{lines}
use Rattle.otel_export.specs.declared.error.OTelSdkError.{OTelSdkError}
use Rattle.otel_trace_lines.specs.Commands.{PlainCommand, plain_commands}
use Rattle.otel_trace_lines.specs.Dialects.{without_comments}
use Rattle.otel_trace_lines.specs.Lines.{Spell}
use Rattle.otel_trace_lines.specs.PlainReply.{NoneRefused, PlainReply}
use Rattle.otel_trace_lines.specs.ReplyForm.{Form, texts}
use Rattle.otel_trace_lines.specs.declared.command.Command.{Command}
use Rattle.otel_trace_lines.specs.declared.dialect.Dialect.{Dialect}
use Rattle.otel_pipeline.specs.Provider.{ProviderState}
use Rattle.otel_export.specs.Streams.{AppendsBeginning}
use Rattle.otel_trace_run.specs.Streams.{AreAll, EndsAs, Streams, WhyBad}
use Rattle.otel_trace_run.specs.declared.run_end.RunEnd.{RunEnd}
use Rattle.otel_trace_run.specs.declared.run_end.RunEnd.TheVariants as ends
use Rattle.otel_trace_session.specs.Calls.{Calls}
use Rattle.otel_trace_session.specs.Closing.{Closes, Finishes}
use Rattle.otel_trace_session.specs.Fed.{Feeds, FeedsUpTo, Writes}
use Rattle.otel_trace_session.specs.Turns.{BeginsUnder, Runs, SessionState}
use Rattle.otel_trace_session.specs.declared.session.FeedError.{FeedError}

-- a beginning of the lines of a text spells these commands
pub record BeginsToSpell (dialect : Dialect) (text : List ℕ) (commands : List PlainCommand) : Type 0 where
  pub front : List (List ℕ)
  pub left : List (List ℕ)
  pub parts : lines text ≡ front ++ left
  pub spelled : Spell dialect (without_comments dialect front) commands

module _ {P S G : Type 0} (calls : Calls P S G) (form : Form) where
  -- the output was given what a session writes for the whole input, up to its first bad line, and when it closes
  pub record TracesAll (begun : SessionState P S G) (s : Streams) (bad_line : Option ℕ) : Type 0 where
    pub bytes : List ℕ
    pub text : List ℕ
    pub all : AreAll s.input bytes
    pub finishes : Finishes calls form begun bytes bad_line text
    pub written : Appends s.output s.output_after text

  -- a session carried out the commands that a beginning of the input spells, each with its reply, and of a text the
  -- output was given what Written says
  pub record CarriesOutSome (begun : SessionState P S G) (input : Option (List ℕ)) (Written : List ℕ → Type 0)
      : Type 0 where
    pub bytes : List ℕ
    pub commands : List Command
    pub replies : List PlainReply
    pub after : SessionState P S G
    pub all : AreAll input bytes
    pub begins : BeginsToSpell form.dialect bytes (plain_commands commands)
    pub ran : Runs calls begun commands replies after
    pub none_refused : NoneRefused replies
    pub written : Written (texts form replies)

  -- a session carried out the whole input, up to its first bad line, and closed, well or not; the output was given a
  -- beginning of what it writes so: the replies, and after all of them what closing appends
  pub record ClosesSome (begun : SessionState P S G) (s : Streams) (bad_line : Option ℕ) : Type 0 where
    pub bytes : List ℕ
    pub replied : List ℕ
    pub text : List ℕ
    pub after : SessionState P S G
    pub answer : Result (Unit {0}) OTelSdkError
    pub all : AreAll s.input bytes
    pub feeds : Writes form [] replied (λ replies. FeedsUpTo calls form.dialect begun bytes bad_line replies after)
    pub closes : Closes calls form after replied answer text
    pub written : AppendsBeginning s.output s.output_after text

  -- the output was given a beginning of the replies to a beginning of the input's commands; or, where all of them were
  -- answered, a beginning of the replies and of what closing appends to them
  abbrev pub TracesSome : SessionState P S G → Streams → Type 0
  TracesSome begun s = CarriesOutSome begun s.input (AppendsBeginning s.output s.output_after)
      ⊎ ((bad_line : Option ℕ) × ClosesSome begun s bad_line)

  -- the same of a session under a provider; nothing was written where there was no memory for the session
  abbrev pub TracesWhole : ProviderState P S G → Streams → Option ℕ → Type 0
  TracesWhole provider s bad_line =
      (begun : SessionState P S G) × BeginsUnder calls provider begun × TracesAll begun s bad_line

  abbrev pub TracesBegun : ProviderState P S G → Streams → Type 0
  TracesBegun provider s = Appends s.output s.output_after []
      ⊎ ((begun : SessionState P S G) × BeginsUnder calls provider begun × TracesSome begun s)

  -- what a session did, by how it ended
  abbrev pub Traces : SessionState P S G → Streams → RunEnd → Type 0
  Traces begun s end = EndsAs true (TracesAll begun s) ⊥ (TracesSome begun s) s end

  -- what a session under a provider did
  abbrev pub TracesUnder : ProviderState P S G → Streams → RunEnd → Type 0
  TracesUnder provider s end = EndsAs true (TracesWhole provider s) ⊥ (TracesBegun provider s) s end

  -- a piece was fed to a session; of the text of its replies the output was given what Written says
  pub record FeedsPiece {T : Type 0} (old : SessionState P S G) (piece : List ℕ) (fed : Result T FeedError)
      (Written : List ℕ → Type 0) (new : SessionState P S G) : Type 0 where
    pub replies : List PlainReply
    pub feeds : Feeds calls form.dialect old piece fed replies new
    pub none_refused : NoneRefused replies
    pub written : Written (texts form replies)

  -- the pieces of an input were fed to a session, and the output was given its replies: the text up to a bad line, if
  -- there is one
  pub record FeedsPieces (begun now : SessionState P S G) (s : Streams) (bad_line : Option ℕ) : Type 0 where
    pub bytes : List ℕ
    pub replies : List PlainReply
    pub all : AreAll s.input bytes
    pub fed : FeedsUpTo calls form.dialect begun bytes bad_line replies now
    pub none_refused : NoneRefused replies
    pub written : Appends s.output s.output_after (texts form replies)

  -- what feeding the pieces did, by how it ended: where it failed, all replies to a beginning were written
  abbrev pub FedAs : SessionState P S G → SessionState P S G → Streams → RunEnd → Type 0
  FedAs begun now s ends.Done = FeedsPieces begun now s None × IsAtEnd s.input_after
  FedAs begun now s ends.Empty = ⊥
  FedAs begun now s (ends.BadLine line reason) = FeedsPieces begun now s (Some line) × WhyBad true s.input line reason
  FedAs begun now s ends.Failed = CarriesOutSome begun s.input (Appends s.output s.output_after)
