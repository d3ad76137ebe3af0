-- Reading line by line: what the lines so far spell, and one line more.
use Rattle.std.proofs.Common.{◌≡◌, ◌≢◌, ℕ, ◌+◌, List, [], ◌∷◌, ◌++◌, length, Option, None, Some, refl, sym, ap, subst, ◌∙◌, arith}
use Rattle.std.proofs.lemmas.List.{append_assoc, append-nil, length_push, length-map, map-append}
use Rattle.std.specs.Str.Lines.{lines}
use Rattle.otel_trace_lines.specs.Commands.{PlainCommand}
use Rattle.otel_trace_lines.specs.Dialects.{without_comment, without_comments}
use Rattle.otel_trace_lines.specs.declared.dialect.Dialect.{Dialect}
use Rattle.otel_trace_lines.specs.Lines.{Reads, Spell, SpellsNothing, TextSpells}
use Rattle.otel_trace_lines.proofs.OneReading.{none_filled, none_read}

-- an empty line more spells nothing more
spell_blank : (dialect : Dialect) (before : List (List ℕ)) (commands : List PlainCommand) → Spell dialect before commands → Spell dialect (before ++ [] ∷ []) commands
spell_blank dialect [] [] h = h
spell_blank dialect [] (c ∷ cs) h = h
spell_blank dialect ([] ∷ more) cs h = spell_blank dialect more cs h
spell_blank dialect ((b ∷ line) ∷ more) [] h = h
spell_blank dialect ((b ∷ line) ∷ more) (c ∷ cs) h = (h.0, spell_blank dialect more cs h.1)

-- a line more spells a command more
spell_more : (dialect : Dialect) (before : List (List ℕ)) (commands : List PlainCommand) (line : List ℕ) (command : PlainCommand) → Spell dialect before commands → line ≢ [] → Reads dialect line command → Spell dialect (before ++ line ∷ []) (commands ++ command ∷ [])
spell_more dialect [] [] [] command h some reads = absurd (some refl)
spell_more dialect [] [] (b ∷ line) command h some reads = (reads, tt)
spell_more dialect [] (c ∷ cs) line command h some reads = absurd h
spell_more dialect ([] ∷ more) cs line command h some reads = spell_more dialect more cs line command h some reads
spell_more dialect ((b ∷ first) ∷ more) [] line command h some reads = absurd h
spell_more dialect ((b ∷ first) ∷ more) (c ∷ cs) line command h some reads = (h.0, spell_more dialect more cs line command h.1 some reads)

-- the first lines of a text, in number, spell the commands, and rest stands after them
pub record HasRead (dialect : Dialect) (text rest : List ℕ) (commands : List PlainCommand) (number : ℕ) : Type 0 where
  pub before : List (List ℕ)
  pub parts : lines text ≡ before ++ lines rest
  pub count : number ≡ length before
  pub spelled : Spell dialect (without_comments dialect before) commands

-- what is read with the next line
parts_more : (text rest line after : List ℕ) (before : List (List ℕ)) → lines text ≡ before ++ lines rest → lines rest ≡ line ∷ lines after → lines text ≡ (before ++ line ∷ []) ++ lines after
parts_more text rest line after before parts next =
    parts ∙ ap (λ more. before ++ more) next ∙ sym (append_assoc before (line ∷ []) (lines after))

-- the same of what is read of them
read_parts : (dialect : Dialect) (text rest line after : List ℕ) (before : List (List ℕ)) → lines text ≡ before ++ lines rest → lines rest ≡ line ∷ lines after
    → without_comments dialect (lines text) ≡ without_comments dialect before ++ without_comment dialect line ∷ without_comments dialect (lines after)
read_parts dialect text rest line after before parts next =
    ap (without_comments dialect) (parts ∙ ap (λ more. before ++ more) next) ∙ map-append (without_comment dialect) before (line ∷ lines after)

-- an empty line or a comment is read
pub read_blank : (dialect : Dialect) (text rest line after content : List ℕ) (commands : List PlainCommand) (number : ℕ) → HasRead dialect text rest commands number → lines rest ≡ line ∷ lines after → content ≡ without_comment dialect line → content ≡ [] → HasRead dialect text after commands (number + 1)
read_blank dialect text rest line after content commands number h next is blank = record {
  before = h.before ++ line ∷ [];
  parts = parts_more text rest line after h.before h.parts next;
  count = omega (arith, length_push h.before line, h.count);
  spelled = subst (λ (all : List (List ℕ)). Spell dialect all commands) (ap (λ (l : List ℕ). without_comments dialect h.before ++ l ∷ []) (sym blank ∙ is) ∙ sym (map-append (without_comment dialect) h.before (line ∷ []))) (spell_blank dialect (without_comments dialect h.before) commands h.spelled);
}

-- a line is read as a command
pub read_more : (dialect : Dialect) (text rest line after content : List ℕ) (commands : List PlainCommand) (command : PlainCommand) (number : ℕ) → HasRead dialect text rest commands number → lines rest ≡ line ∷ lines after → content ≡ without_comment dialect line → content ≢ [] → Reads dialect content command → HasRead dialect text after (commands ++ command ∷ []) (number + 1)
read_more dialect text rest line after content commands command number h next is some reads = record {
  before = h.before ++ line ∷ [];
  parts = parts_more text rest line after h.before h.parts next;
  count = omega (arith, length_push h.before line, h.count);
  spelled = subst (λ (all : List (List ℕ)). Spell dialect all (commands ++ command ∷ [])) (ap (λ (l : List ℕ). without_comments dialect h.before ++ l ∷ []) is ∙ sym (map-append (without_comment dialect) h.before (line ∷ []))) (spell_more dialect (without_comments dialect h.before) commands content command h.spelled some reads);
}

-- no line is left
pub read_all : (dialect : Dialect) (text rest : List ℕ) (commands : List PlainCommand) (number : ℕ) → HasRead dialect text rest commands number → lines rest ≡ [] → TextSpells dialect text commands None
read_all dialect text rest commands number h none =
    let all : lines text ≡ h.before = h.parts ∙ ap (λ more. h.before ++ more) none ∙ append-nil h.before in
    subst (λ (ls : List (List ℕ)). Spell dialect (without_comments dialect ls) commands) (sym all) h.spelled

-- the next line is bad
pub read_bad : (dialect : Dialect) (text rest line after content : List ℕ) (commands : List PlainCommand) (number : ℕ) → HasRead dialect text rest commands number → lines rest ≡ line ∷ lines after → content ≡ without_comment dialect line → content ≢ [] → ((command : PlainCommand) → Reads dialect content command → ⊥) → TextSpells dialect text commands (Some (number + 1))
read_bad dialect text rest line after content commands number h next is some bad = record {
  before = without_comments dialect h.before;
  line = content;
  after = without_comments dialect (lines after);
  parts = read_parts dialect text rest line after h.before h.parts next ∙ ap (λ (l : List ℕ). without_comments dialect h.before ++ l ∷ without_comments dialect (lines after)) (sym is);
  number = omega (arith, h.count, length-map h.before (without_comment dialect));
  spelled = h.spelled;
  bad = (some, bad);
}

-- a text whose next line reads as a command spells one
spells_by : (dialect : Dialect) (text rest line after content : List ℕ) (commands : List PlainCommand) (command : PlainCommand) (number : ℕ) → HasRead dialect text rest commands number → lines rest ≡ line ∷ lines after → content ≡ without_comment dialect line → content ≢ [] → Reads dialect content command → (bad_line : Option ℕ) → TextSpells dialect text [] bad_line → ⊥
spells_by dialect text rest line after content commands command number h next is some reads bad_line spelled = by bad_line spelled
  where
    read : without_comments dialect (lines text) ≡ without_comments dialect h.before ++ content ∷ without_comments dialect (lines after)
    read = read_parts dialect text rest line after h.before h.parts next ∙ ap (λ (l : List ℕ). without_comments dialect h.before ++ l ∷ without_comments dialect (lines after)) (sym is)

    by : (bad_line : Option ℕ) → TextSpells dialect text [] bad_line → ⊥
    by None all = none_filled dialect (without_comments dialect h.before) content (without_comments dialect (lines after)) (subst (λ (ls : List (List ℕ)). Spell dialect ls []) read all) some
    by (Some n) stops =
        none_read dialect (without_comments dialect h.before) content (without_comments dialect (lines after)) stops.before stops.line stops.after commands command (sym read ∙ stops.parts) h.spelled some reads stops.spelled stops.bad

pub spells_something : (dialect : Dialect) (text rest line after content : List ℕ) (commands : List PlainCommand) (command : PlainCommand) (number : ℕ) → HasRead dialect text rest commands number → lines rest ≡ line ∷ lines after → content ≡ without_comment dialect line → content ≢ [] → Reads dialect content command → SpellsNothing dialect text → ⊥
spells_something dialect text rest line after content commands command number h next is some reads nothing =
    spells_by dialect text rest line after content commands command number h next is some reads nothing.0 nothing.1
