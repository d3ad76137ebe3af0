-- What texts spell that are joined at a line's end.
use Rattle.std.proofs.Common.{◌≡◌, ℕ, ◌+◌, List, [], ◌∷◌, ◌++◌, length, Option, Some, None, sym, ap, subst, ◌∙◌, arith, length-append}
use Rattle.std.proofs.lemmas.List.{append_assoc, map-append, length-map}
use Rattle.std.specs.Prelude.{option_map}
use Rattle.std.specs.Io.{IsEmptyOrEndsWith}
use Rattle.std.specs.Str.Lines.{lines}
use Rattle.otel_trace_lines.specs.Commands.{PlainCommand}
use Rattle.otel_trace_lines.specs.Dialects.{without_comment, without_comments}
use Rattle.otel_trace_lines.specs.declared.dialect.Dialect.{Dialect}
use Rattle.otel_trace_lines.specs.Lines.{Spell, SpellUpTo, StopsAt, TextSpells}
use Rattle.otel_trace_lines.proofs.JoinedLines.{lines_joined}

-- lines, and others after them
pub spell_joined : (dialect : Dialect) (first second : List (List ℕ)) (commands more : List PlainCommand) → Spell dialect first commands → Spell dialect second more → Spell dialect (first ++ second) (commands ++ more)
spell_joined dialect [] second [] more h k = k
spell_joined dialect [] second (c ∷ cs) more h k = absurd h
spell_joined dialect ([] ∷ first) second cs more h k = spell_joined dialect first second cs more h k
spell_joined dialect ((b ∷ line) ∷ first) second [] more h k = absurd h
spell_joined dialect ((b ∷ line) ∷ first) second (c ∷ cs) more h k = (h.0, spell_joined dialect first second cs more h.1 k)

spell_up_to_joined : (dialect : Dialect) (first second : List (List ℕ)) (commands more : List PlainCommand) (bad_line : Option ℕ) → Spell dialect first commands → SpellUpTo dialect second more bad_line
    → SpellUpTo dialect (first ++ second) (commands ++ more) (option_map (λ n. length first + n) bad_line)
spell_up_to_joined dialect first second commands more None h k = spell_joined dialect first second commands more h k
spell_up_to_joined dialect first second commands more (Some n) h k = record {
  before = first ++ k.before;
  line = k.line;
  after = k.after;
  parts = ap (λ ls. first ++ ls) k.parts ∙ sym (append_assoc first k.before (k.line ∷ k.after));
  number = let number : n ≡ length k.before + 1 = k.number in omega (arith, length-append first k.before);
  spelled = spell_joined dialect first k.before commands more h k.spelled;
  bad = k.bad;
}

-- the lines of joined texts, without comments
pub read_joined : (dialect : Dialect) (first second : List ℕ) → IsEmptyOrEndsWith first 10 → without_comments dialect (lines (first ++ second)) ≡ without_comments dialect (lines first) ++ without_comments dialect (lines second)
read_joined dialect first second ends = ap (without_comments dialect) (lines_joined first second ends) ∙ map-append (without_comment dialect) (lines first) (lines second)

-- comments are counted
counted : (dialect : Dialect) (text : List ℕ) → length (without_comments dialect (lines text)) ≡ length (lines text)
counted dialect text = length-map (lines text) (without_comment dialect)

-- a text with no bad line, and another after its end
pub texts_joined : (dialect : Dialect) (first second : List ℕ) (commands more : List PlainCommand) (bad_line : Option ℕ) → IsEmptyOrEndsWith first 10 → TextSpells dialect first commands None → TextSpells dialect second more bad_line
    → TextSpells dialect (first ++ second) (commands ++ more) (option_map (λ n. length (lines first) + n) bad_line)
texts_joined dialect first second commands more bad_line ends h k =
    subst (λ (i : ℕ). TextSpells dialect (first ++ second) (commands ++ more) (option_map (λ n. i + n) bad_line)) (counted dialect first)
    (subst (λ (all : List (List ℕ)). SpellUpTo dialect all (commands ++ more) (option_map (λ n. length (without_comments dialect (lines first)) + n) bad_line)) (sym (read_joined dialect first second ends))
    (spell_up_to_joined dialect (without_comments dialect (lines first)) (without_comments dialect (lines second)) commands more bad_line h k))

-- what stands after a bad line is not read
stops_before : (dialect : Dialect) (first second : List (List ℕ)) (commands : List PlainCommand) (n : ℕ) → StopsAt dialect first commands n → StopsAt dialect (first ++ second) commands n
stops_before dialect first second commands n h = record {
  before = h.before;
  line = h.line;
  after = h.after ++ second;
  parts = ap (λ ls. ls ++ second) h.parts ∙ append_assoc h.before (h.line ∷ h.after) second;
  number = h.number;
  spelled = h.spelled;
  bad = h.bad;
}

pub bad_text_joined : (dialect : Dialect) (first second : List ℕ) (commands : List PlainCommand) (n : ℕ) → IsEmptyOrEndsWith first 10 → TextSpells dialect first commands (Some n) → TextSpells dialect (first ++ second) commands (Some n)
bad_text_joined dialect first second commands n ends h =
    subst (λ (all : List (List ℕ)). StopsAt dialect all commands n) (sym (read_joined dialect first second ends)) (stops_before dialect (without_comments dialect (lines first)) (without_comments dialect (lines second)) commands n h)
