-- What feeding a text to a session does, and what of it is written.
use Rattle.std.specs.Prelude.{◌≡◌, ◌⊎◌, ◌++◌, ℕ, List, [], Option, Some, None, Result, Ok, Err}
use Rattle.std.specs.Prelude.{false, true}
use Rattle.otel_trace_lines.specs.Commands.{plain_commands}
use Rattle.otel_trace_lines.specs.Lines.{SpellsNothing, TextSpells}
use Rattle.otel_trace_lines.specs.PlainReply.{PlainReply, NoneRefused, counts_refusals}
use Rattle.otel_trace_lines.specs.ReplyForm.{Form, texts}
use Rattle.otel_trace_lines.specs.declared.command.Command.{Command}
use Rattle.otel_trace_lines.specs.declared.dialect.Dialect.{Dialect}
use Rattle.otel_trace_lines.specs.declared.reply.Answer.{Answer}
use Rattle.otel_trace_session.specs.Calls.{Calls}
use Rattle.otel_trace_session.specs.Stops.{Answers, LosesBatch, Refuses, RunsBeginning}
use Rattle.otel_trace_session.specs.Turns.{Runs, SessionState}
use Rattle.otel_trace_session.specs.declared.session.FeedError.{FeedError}
use Rattle.otel_trace_session.specs.declared.session.FeedError.TheVariants as feeds
use Rattle.otel_trace_session.specs.declared.session.RunError.{RunError}
use Rattle.otel_trace_session.specs.declared.session.RunError.TheVariants as runs

-- the error of a text that is fed, where its commands are stopped by this one
abbrev pub feed_error : RunError → FeedError
feed_error runs.Memory = feeds.Memory
feed_error runs.BatchLost = feeds.BatchLost

-- these replies were appended in a form, and none of them counts a refusal
pub record Writes (form : Form) (before now : List ℕ) (These : List PlainReply → Type 0) : Type 0 where
  pub replies : List PlainReply
  pub written : now ≡ before ++ texts form replies
  pub none_refused : NoneRefused replies
  pub these : These replies

-- memory ran out before the text was read, so it spells a command, and nothing was carried out
pub record FeedsNothing {P S G : Type 0} (dialect : Dialect) (old : SessionState P S G) (bytes : List ℕ)
    (replies : List PlainReply) (new : SessionState P S G) : Type 0 where
  pub says_something : ¬ SpellsNothing dialect bytes
  pub none : replies ≡ []
  pub nothing_done : new ≡ old

module _ {P S G : Type 0} (calls : Calls P S G) where
  -- why no reply of a command is written, by the error: it has no answer, the reply found no memory, or the answer
  -- counts a refusal
  abbrev pub WhyUnwritten : FeedError → SessionState P S G → Command → SessionState P S G → Type 0
  WhyUnwritten (feeds.Line n) old command new = ⊥
  WhyUnwritten feeds.Memory old command new = Refuses calls old command new
      ⊎ ((answer : Answer) × Answers calls old command answer new × (counts_refusals answer ≡ false))
  WhyUnwritten feeds.Refused old command new =
      (answer : Answer) × Answers calls old command answer new × (counts_refusals answer ≡ true)
  WhyUnwritten feeds.BatchLost old command new = LosesBatch calls old command new

  -- what carrying commands out does, with the replies written, that ends with this error
  abbrev pub FeedStops : FeedError → SessionState P S G → List Command → List PlainReply → SessionState P S G → Type 0
  FeedStops error old commands replies new = RunsBeginning calls (WhyUnwritten error) old commands replies new

module _ {P S G : Type 0} (calls : Calls P S G) (dialect : Dialect) where
  -- a text was fed whole: its lines up to the first bad one spell the commands that were carried out
  pub record FeedsUpTo (old : SessionState P S G) (bytes : List ℕ) (bad_line : Option ℕ) (replies : List PlainReply)
      (new : SessionState P S G) : Type 0 where
    pub commands : List Command
    pub spelled : TextSpells dialect bytes (plain_commands commands) bad_line
    pub ran : Runs calls old commands replies new

  -- a beginning of the commands that a text spells was carried out, and the one after it was stopped by this error
  pub record FeedsSome (error : FeedError) (old : SessionState P S G) (bytes : List ℕ) (replies : List PlainReply)
      (new : SessionState P S G) : Type 0 where
    pub commands : List Command
    pub bad_line : Option ℕ
    pub spelled : TextSpells dialect bytes (plain_commands commands) bad_line
    pub stopped : FeedStops calls error old commands replies new

  -- what feeding a text does, by its answer
  abbrev pub Feeds : {T : Type 0} → SessionState P S G → List ℕ → Result T FeedError → List PlainReply
      → SessionState P S G → Type 0
  Feeds old bytes (Ok _) replies new = FeedsUpTo old bytes None replies new
  Feeds old bytes (Err (feeds.Line n)) replies new = FeedsUpTo old bytes (Some n) replies new
  Feeds old bytes (Err feeds.Memory) replies new =
      FeedsNothing dialect old bytes replies new ⊎ FeedsSome feeds.Memory old bytes replies new
  Feeds old bytes (Err error) replies new = FeedsSome error old bytes replies new
