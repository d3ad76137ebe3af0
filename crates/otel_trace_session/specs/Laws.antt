-- The laws of the turns that the commands of a session take, over the definitions alone.
use Rattle.std.specs.Prelude.{◌≡◌, ◌+◌, ◌++◌, ℕ, List, Option, None, Result, false, length}
use Rattle.std.specs.Prelude.{option_map}
use Rattle.std.specs.Io.{IsEmptyOrEndsWith}
use Rattle.std.specs.Str.Lines.{lines}
use Rattle.otel_export.specs.declared.error.OTelSdkError.{OTelSdkError}
use Rattle.otel_pipeline.specs.Deliveries.{EachFollows, EachOpenHears}
use Rattle.otel_pipeline.specs.Hops.{GoesByParents}
use Rattle.otel_trace_lines.specs.Commands.{PlainCommand}
use Rattle.otel_trace_lines.specs.PlainReply.{PlainReply}
use Rattle.otel_trace_lines.specs.declared.command.Command.{Command}
use Rattle.otel_trace_lines.specs.declared.dialect.Dialect.{Dialect}
use Rattle.otel_pipeline.specs.Provider.{ProviderState}
use Rattle.otel_trace_session.specs.Calls.{Calls, batches_of_first, stored_of_first}
use Rattle.otel_trace_session.specs.Fed.{FeedsUpTo}
use Rattle.otel_trace_session.specs.OpenSpans.{Describe, Histories}
use Rattle.otel_trace_session.specs.ProviderTurns.{ShutsIfOpen}
use Rattle.otel_trace_session.specs.Shown.{EmptiedAfter, Shows, all_stored, exported_in, session_stored}
use Rattle.otel_trace_session.specs.Traces.{ChildrenAgree, KeepsContexts}
use Rattle.otel_trace_session.specs.Turns.{Runs, SessionState, TookTurns, delivered_in}

module _ {P S G : Type 0} (calls : Calls P S G) where
  -- a run, and another from where it ends, are one run
  abbrev pub RunsJoin : Type 0
  RunsJoin = (old middle new : SessionState P S G) (first rest : List Command) (shown then_shown : List PlainReply)
      → Runs calls old first shown middle → Runs calls middle rest then_shown new
      → Runs calls old (first ++ rest) (shown ++ then_shown) new

  -- each processor follows all that turns delivered, in order
  abbrev pub RunsAreFollowed : Type 0
  RunsAreFollowed = (old new : SessionState P S G) (histories : Histories) (commands : List PlainCommand)
      (replies : List PlainReply) → (took : TookTurns calls old histories commands replies new)
      → EachFollows calls.processor (delivered_in took.turns) old.provider.processors new.provider.processors

  -- each processor that was open hears all of it, also where commands shut it down
  abbrev pub RunsAreHeard : Type 0
  RunsAreHeard = (old new : SessionState P S G) (histories : Histories) (commands : List PlainCommand)
      (replies : List PlainReply) → (took : TookTurns calls old histories commands replies new)
      → EachOpenHears calls.processor (delivered_in took.turns) old.provider.processors new.provider.processors

  -- at an open provider under a sampler that goes by parents the children that commands start agree with their parents
  abbrev pub TracesAreWhole : Type 0
  TracesAreWhole = (old new : SessionState P S G) (histories : Histories) (commands : List PlainCommand)
      (replies : List PlainReply) → TookTurns calls old histories commands replies new
      → GoesByParents calls.sampler old.provider.sampler → old.provider.is_shut ≡ false
      → ChildrenAgree commands replies new.spans

  -- a name that has a span keeps one with its span context, unless it is given up
  abbrev pub ContextsAreKept : Type 0
  ContextsAreKept = (old new : SessionState P S G) (histories : Histories) (commands : List PlainCommand)
      (replies : List PlainReply) → Describe histories old.spans → TookTurns calls old histories commands replies new
      → KeepsContexts commands replies old.spans new.spans

  -- the replies show the batches that came meanwhile, in order and each once
  abbrev pub RepliesShowAll : Type 0
  RepliesShowAll = (old new : SessionState P S G) (histories : Histories) (commands : List PlainCommand)
      (replies : List PlainReply) → TookTurns calls old histories commands replies new
      → Shows calls.keeps old replies new

  -- what replies have shown, and what is left once the provider is shut down, are all batches that came meanwhile
  abbrev pub ClosesShowRest : Type 0
  ClosesShowRest = (old new : SessionState P S G) (closed : ProviderState P S G) (histories : Histories)
      (commands : List PlainCommand) (replies : List PlainReply) (said : Result (Unit {0}) OTelSdkError)
      → TookTurns calls old histories commands replies new → ShutsIfOpen calls.processor new.provider said closed
      → all_stored (stored_of_first calls.keeps closed.processors)
      ≡ (session_stored calls.keeps old).taken
      ++ (exported_in replies ++ batches_of_first calls.keeps closed.processors)

  -- after a flush or a shutdown that came last and was answered by Ok no span waits
  abbrev pub FlushesEmpty : Type 0
  FlushesEmpty = (old new : SessionState P S G) (histories : Histories) (commands : List PlainCommand)
      (replies : List PlainReply) → TookTurns calls old histories commands replies new
      → EmptiedAfter calls.processor commands replies new.provider.processors

  -- a text, and another that is fed after it, are one text, where the first one ends as a line does
  abbrev pub FeedsJoin : Type 0
  FeedsJoin = (dialect : Dialect) (old middle new : SessionState P S G) (first second : List ℕ) (bad_line : Option ℕ)
      (replies more : List PlainReply) → IsEmptyOrEndsWith first 10
      → FeedsUpTo calls dialect old first None replies middle → FeedsUpTo calls dialect middle second bad_line more new
      → FeedsUpTo calls dialect old (first ++ second) (option_map (λ n. length (lines first) + n) bad_line)
      (replies ++ more) new
