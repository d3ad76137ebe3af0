-- What texts do that are fed one after another.
use Rattle.std.proofs.Common.{◌++◌, ◌+◌, ℕ, List, [], Option, None, length, sym, subst}
use Rattle.std.specs.Prelude.{option_map}
use Rattle.std.specs.Io.{IsEmptyOrEndsWith}
use Rattle.std.specs.Str.Lines.{lines}
use Rattle.std.proofs.lemmas.List.{map-append}
use Rattle.otel_trace_lines.specs.Commands.{PlainCommand, plain_command, plain_commands}
use Rattle.otel_trace_lines.specs.Lines.{TextSpells}
use Rattle.otel_trace_lines.specs.PlainReply.{PlainReply}
use Rattle.otel_trace_lines.specs.declared.dialect.Dialect.{Dialect}
use Rattle.otel_trace_lines.proofs.JoinedTexts.{texts_joined}
use Rattle.otel_trace_session.specs.Calls.{Calls}
use Rattle.otel_trace_session.specs.Fed.{FeedsUpTo}
use Rattle.otel_trace_session.specs.Turns.{SessionState}
use Rattle.otel_trace_session.proofs.RunLemmas.{runs_join, runs_nothing}

-- a text that is fed after another one is fed with it
pub feeds_join : {P S G : Type 0} (calls : Calls P S G) (dialect : Dialect) (old middle new : SessionState P S G) (first second : List ℕ) (bad_line : Option ℕ) (replies more : List PlainReply)
    → IsEmptyOrEndsWith first 10 → FeedsUpTo calls dialect old first None replies middle → FeedsUpTo calls dialect middle second bad_line more new
    → FeedsUpTo calls dialect old (first ++ second) (option_map (λ n. length (lines first) + n) bad_line) (replies ++ more) new
feeds_join calls dialect old middle new first second bad_line replies more ends h k = record {
  commands = h.commands ++ k.commands;
  spelled = subst (λ (l : List PlainCommand). TextSpells dialect (first ++ second) l (option_map (λ n. length (lines first) + n) bad_line)) (sym (map-append plain_command h.commands k.commands))
      (texts_joined dialect first second (plain_commands h.commands) (plain_commands k.commands) bad_line ends h.spelled k.spelled);
  ran = runs_join calls old middle new h.commands k.commands replies more h.ran k.ran;
}

-- no text
pub feeds_nothing : {P S G : Type 0} (calls : Calls P S G) (dialect : Dialect) (begun : SessionState P S G) → FeedsUpTo calls dialect begun [] None [] begun
feeds_nothing calls dialect begun = record { commands = []; spelled = tt; ran = runs_nothing calls begun }
