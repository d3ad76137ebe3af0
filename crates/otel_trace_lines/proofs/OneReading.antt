-- A line reads as one command at most, so a text spells one list of commands and has one first bad line or none.
use Rattle.std.proofs.Common.{◌≡◌, ◌≢◌, ℕ, List, [], ◌∷◌, ◌++◌, length, suc, Option, Some, None, refl, sym, ap, ◌∙◌, arith, rules}
use Rattle.std.specs.Str.Lines.{lines}
use Rattle.opentelemetry.specs.Plain.{PlainStatus, unset, error, ok}
use Rattle.otel_trace_lines.specs.Commands.{PlainCommand, start, child, remote, attr, event, status, inject, end, flush, run, shutdown, set_int, set_bool, set_float, link, exception, event_with, forget}
use Rattle.otel_trace_lines.specs.Lines.{IsStatus, LineForm, field, last_field, time, outcome, rest_of_line, whole, truth, float, instant, sort, start_form, IsOfForm, form_of, Reads, IsBad, Spell, TextSpells}
use Rattle.otel_trace_lines.specs.Dialects.{without_comments}
use Rattle.otel_trace_lines.specs.declared.dialect.Dialect.{Dialect}
use Rattle.otel_trace_lines.proofs.FieldLemmas.{same_field, no_last_field, moment_alone}
use Rattle.otel_trace_lines.proofs.Numerals.{one_value}
use Rattle.opentelemetry.specs.declared.trace.span_kind.SpanKind.{SpanKind}

-- a text is one status
same_status : (text : List ℕ) (how other : PlainStatus) → IsStatus text how → IsStatus text other → how ≡ other
same_status text unset other f g = absurd f
same_status text how unset f g = absurd g
same_status text (error description) (error other) f g = cc
same_status text (error description) ok f g = cc
same_status text ok (error description) f g = cc
same_status text ok ok f g = refl

-- two forms agree: field by field, and at their ends where these are of one kind
abbrev pub AreOneForm : LineForm → LineForm → Type 0
AreOneForm (field front after) (field other more) = (front ≡ other) × AreOneForm after more
AreOneForm (field front after) (last_field last) = ⊥
AreOneForm (last_field last) (field front after) = ⊥
AreOneForm (last_field last) (last_field other) = last ≡ other
AreOneForm (time moment) (time other) = moment ≡ other
AreOneForm (outcome how) (outcome other) = how ≡ other
AreOneForm (rest_of_line rest) (rest_of_line other) = rest ≡ other
AreOneForm (whole number) (whole other) = number ≡ other
AreOneForm (truth value) (truth other) = value ≡ other
AreOneForm (float value) (float other) = value ≡ other
AreOneForm (instant moment after) (instant other more) = (moment ≡ other) × AreOneForm after more
AreOneForm (time moment) (instant other more) = ⊥
AreOneForm (instant moment after) (time other) = ⊥
AreOneForm (sort kind) (sort other) = kind ≡ other
AreOneForm _ _ = Unit {0}

-- the forms of one text agree
forms_agree : (text : List ℕ) (form other : LineForm) → IsOfForm text form → IsOfForm text other → AreOneForm form other
forms_agree text (field front after) (field other more) f g =
    let same = same_field text front f.1.0 other g.1.0 f.0 g.0 f.1.1 g.1.1 in
    (same.0, forms_agree g.1.0 after more (rw (← same.1) f.1.2) g.1.2)
forms_agree text (field front after) (last_field last) f g = no_last_field text last front f.1.0 g.0 g.1 f.1.1
forms_agree text (last_field last) (field front after) f g = no_last_field text last front g.1.0 f.0 f.1 g.1.1
forms_agree text (last_field last) (last_field other) f g = sym f.1 ∙ g.1
forms_agree text (time moment) (time other) f g = one_value f g
forms_agree text (outcome how) (outcome other) f g = same_status text how other f g
forms_agree text (rest_of_line rest) (rest_of_line other) f g = sym f ∙ g
forms_agree text (whole number) (whole other) f g = one_value f g
forms_agree text (truth value) (truth other) f g = one_value f g
forms_agree text (float value) (float other) f g = one_value f g
forms_agree text (instant moment after) (instant other more) f g =
    let same = same_field text f.0 f.3.0 g.0 g.3.0 f.1 g.1 f.3.1 g.3.1 in
    (one_value (rw (← same.0) f.2) g.2, forms_agree g.3.0 after more (rw (← same.1) f.3.2) g.3.2)
forms_agree text (time moment) (instant other more) f g = moment_alone text g.0 g.3.0 moment f g.3.1
forms_agree text (instant moment after) (time other) f g = moment_alone text f.0 f.3.0 other g f.3.1
forms_agree text (sort kind) (sort other) f g = one_value f g
forms_agree text _ _ f g = tt

-- moments and kinds whose forms agree are the same
same_start : (moment other : ℕ) (kind more : Option SpanKind) → AreOneForm (start_form moment kind) (start_form other more) → (other ≡ moment) × (more ≡ kind)
same_start moment other None None h = (sym h, refl)
same_start moment other None (Some more) h = absurd h
same_start moment other (Some kind) None h = absurd h
same_start moment other (Some kind) (Some more) h = (sym h.0, ap (λ (k : SpanKind). Some k) (sym h.1))

-- commands whose forms agree are the same
same_command : (command other : PlainCommand) → AreOneForm (form_of command) (form_of other) → other ≡ command
same_command (start s n m k) (start s' n' m' k') h = let same = same_start m m' k k' h.1.1.1 in cc
same_command (start s n m k) _ h = search rules
same_command (child s p n m k) (child s' p' n' m' k') h = let same = same_start m m' k k' h.1.1.1.1 in cc
same_command (child s p n m k) _ h = search rules
same_command (remote s t n m k) (remote s' t' n' m' k') h = let same = same_start m m' k k' h.1.1.1.1 in cc
same_command (remote s t n m k) _ h = search rules
same_command (attr s k v) (attr s' k' v') h = cc
same_command (attr s k v) _ h = search rules
same_command (event s n m) (event s' n' m') h = cc
same_command (event s n m) _ h = search rules
same_command (status s how) (status s' how') h = cc
same_command (status s how) _ h = search rules
same_command (inject s) (inject s') h = cc
same_command (inject s) _ h = search rules
same_command (end s m) (end s' m') h = cc
same_command (end s m) _ h = search rules
same_command flush flush h = refl
same_command flush _ h = search rules
same_command (run m) (run m') h = cc
same_command (run m) _ h = search rules
same_command shutdown shutdown h = refl
same_command shutdown _ h = search rules
same_command (set_int s k n) (set_int s' k' n') h = cc
same_command (set_int s k n) _ h = search rules
same_command (set_bool s k b) (set_bool s' k' b') h = cc
same_command (set_bool s k b) _ h = search rules
same_command (set_float s k x) (set_float s' k' x') h = cc
same_command (set_float s k x) _ h = search rules
same_command (link s t) (link s' t') h = cc
same_command (link s t) _ h = search rules
same_command (exception s k m t) (exception s' k' m' t') h = cc
same_command (exception s k m t) _ h = search rules
same_command (event_with s n m k v) (event_with s' n' m' k' v') h = cc
same_command (event_with s n m k v) _ h = search rules
same_command (forget s) (forget s') h = cc
same_command (forget s) _ h = search rules

-- a line reads as one command at most
pub one_command : (dialect : Dialect) (line : List ℕ) (command other : PlainCommand) → Reads dialect line command → Reads dialect line other → other ≡ command
one_command dialect line command other f g = same_command command other (forms_agree line (form_of command) (form_of other) f.1 g.1)

-- a bad line begins no lines that spell commands
bad_head : (dialect : Dialect) (line : List ℕ) (more : List (List ℕ)) (commands : List PlainCommand) → Spell dialect (line ∷ more) commands → IsBad dialect line → ⊥
bad_head dialect [] more commands h bad = bad.0 refl
bad_head dialect (b ∷ line) more [] h bad = h
bad_head dialect (b ∷ line) more (c ∷ cs) h bad = bad.1 c h.0

-- nor stands among them
bad_within : (dialect : Dialect) (before : List (List ℕ)) (line : List ℕ) (after : List (List ℕ)) (commands : List PlainCommand) → Spell dialect (before ++ line ∷ after) commands → IsBad dialect line → ⊥
bad_within dialect [] line after commands h bad = bad_head dialect line after commands h bad
bad_within dialect ([] ∷ more) line after commands h bad = bad_within dialect more line after commands h bad
bad_within dialect ((b ∷ first) ∷ more) line after [] h bad = h
bad_within dialect ((b ∷ first) ∷ more) line after (c ∷ cs) h bad = bad_within dialect more line after cs h.1 bad

-- lines spell one list of commands
one_list : (dialect : Dialect) (all : List (List ℕ)) (commands others : List PlainCommand) → Spell dialect all commands → Spell dialect all others → others ≡ commands
one_list dialect [] [] [] f g = refl
one_list dialect [] [] (d ∷ ds) f g = absurd g
one_list dialect [] (c ∷ cs) others f g = absurd f
one_list dialect ([] ∷ more) cs ds f g = one_list dialect more cs ds f g
one_list dialect ((b ∷ line) ∷ more) [] ds f g = absurd f
one_list dialect ((b ∷ line) ∷ more) (c ∷ cs) [] f g = absurd g
one_list dialect ((b ∷ line) ∷ more) (c ∷ cs) (d ∷ ds) f g =
    let head = one_command dialect (b ∷ line) c d f.0 g.0 in
    let tail = one_list dialect more cs ds f.1 g.1 in
    cc (head, tail)

-- lines before the first bad one spell one list of commands, and are of one number
one_stop : (dialect : Dialect) (before : List (List ℕ)) (line : List ℕ) (after before' : List (List ℕ)) (line' : List ℕ) (after' : List (List ℕ)) (cs ds : List PlainCommand) → before ++ line ∷ after ≡ before' ++ line' ∷ after' → Spell dialect before cs → Spell dialect before' ds → IsBad dialect line → IsBad dialect line' → (ds ≡ cs) × (length before' ≡ length before)
one_stop dialect [] line after [] line' after' [] [] e f g bad bad' = (refl, refl)
one_stop dialect [] line after [] line' after' [] (d ∷ ds) e f g bad bad' = absurd g
one_stop dialect [] line after [] line' after' (c ∷ cs) ds e f g bad bad' = absurd f
one_stop dialect [] line after (first ∷ more) line' after' cs ds e f g bad bad' =
    let heads : line ≡ first = cc in
    absurd (bad_head dialect first more ds g (rw (← heads) bad))
one_stop dialect (first ∷ more) line after [] line' after' cs ds e f g bad bad' =
    let heads : line' ≡ first = cc in
    absurd (bad_head dialect first more cs f (rw (← heads) bad'))
one_stop dialect ([] ∷ more) line after ([] ∷ more') line' after' cs ds e f g bad bad' =
    let tails : more ++ line ∷ after ≡ more' ++ line' ∷ after' = cc in
    let rest = one_stop dialect more line after more' line' after' cs ds tails f g bad bad' in
    (rest.0, ap suc rest.1)
one_stop dialect ([] ∷ more) line after ((b ∷ first) ∷ more') line' after' cs ds e f g bad bad' = cc
one_stop dialect ((b ∷ first) ∷ more) line after ([] ∷ more') line' after' cs ds e f g bad bad' = cc
one_stop dialect ((b ∷ first) ∷ more) line after ((b' ∷ first') ∷ more') line' after' [] ds e f g bad bad' = absurd f
one_stop dialect ((b ∷ first) ∷ more) line after ((b' ∷ first') ∷ more') line' after' (c ∷ cs) [] e f g bad bad' = absurd g
one_stop dialect ((b ∷ first) ∷ more) line after ((b' ∷ first') ∷ more') line' after' (c ∷ cs) (d ∷ ds) e f g bad bad' =
    let tails : more ++ line ∷ after ≡ more' ++ line' ∷ after' = cc in
    let heads : b' ∷ first' ≡ b ∷ first = cc in
    let rest = one_stop dialect more line after more' line' after' cs ds tails f.1 g.1 bad bad' in
    let here : d ≡ c = one_command dialect (b ∷ first) c d f.0 (rw (← heads) g.0) in
    (cc (rest.0, here), ap suc rest.1)

-- a text spells one list of commands up to its first bad line, and has one such line or none
pub one_reading : (dialect : Dialect) (text : List ℕ) (commands others : List PlainCommand) (bad_line other : Option ℕ) → TextSpells dialect text commands bad_line → TextSpells dialect text others other → (others ≡ commands) × (other ≡ bad_line)
one_reading dialect text cs ds None None f g = (one_list dialect (without_comments dialect (lines text)) cs ds f g, refl)
one_reading dialect text cs ds None (Some n) f g = absurd (bad_within dialect g.before g.line g.after cs (rw (← g.parts) f) g.bad)
one_reading dialect text cs ds (Some n) None f g = absurd (bad_within dialect f.before f.line f.after ds (rw (← f.parts) g) f.bad)
one_reading dialect text cs ds (Some n) (Some k) f g =
    let same = one_stop dialect f.before f.line f.after g.before g.line g.after cs ds (sym f.parts ∙ g.parts) f.spelled g.spelled f.bad g.bad in
    let numbers : k ≡ n = omega (arith, f.number, g.number, same.1) in
    (same.0, ap (λ i. Some i) numbers)

-- lines that spell nothing are empty
pub none_filled : (dialect : Dialect) (before : List (List ℕ)) (line : List ℕ) (more : List (List ℕ)) → Spell dialect (before ++ line ∷ more) [] → line ≢ [] → ⊥
none_filled dialect [] [] more h some = some refl
none_filled dialect [] (b ∷ line) more h some = h
none_filled dialect ([] ∷ before) line more h some = none_filled dialect before line more h some
none_filled dialect ((b ∷ first) ∷ before) line more h some = h

-- where the lines in front of the first bad one spell nothing, no line that reads stands after lines that spell commands
pub none_read : (dialect : Dialect) (before : List (List ℕ)) (line : List ℕ) (more before' : List (List ℕ)) (line' : List ℕ) (more' : List (List ℕ)) (cs : List PlainCommand) (command : PlainCommand) → before ++ line ∷ more ≡ before' ++ line' ∷ more' → Spell dialect before cs → line ≢ [] → Reads dialect line command → Spell dialect before' [] → IsBad dialect line' → ⊥
none_read dialect [] line more [] line' more' cs command e f some reads g bad =
    let heads : line' ≡ line = cc in
    bad.1 command (rw heads reads)
none_read dialect [] line more (first ∷ before') line' more' cs command e f some reads g bad =
    let heads : first ≡ line = cc in
    none_filled dialect [] first before' g (rw heads some)
none_read dialect (first ∷ before) line more [] line' more' cs command e f some reads g bad =
    let heads : line' ≡ first = cc in
    bad_head dialect first before cs f (rw (← heads) bad)
none_read dialect ([] ∷ before) line more ([] ∷ before') line' more' cs command e f some reads g bad =
    let tails : before ++ line ∷ more ≡ before' ++ line' ∷ more' = cc in
    none_read dialect before line more before' line' more' cs command tails f some reads g bad
none_read dialect ([] ∷ before) line more ((b ∷ first) ∷ before') line' more' cs command e f some reads g bad = g
none_read dialect ((b ∷ first) ∷ before) line more ([] ∷ before') line' more' cs command e f some reads g bad = cc
none_read dialect ((b ∷ first) ∷ before) line more ((c ∷ other) ∷ before') line' more' cs command e f some reads g bad = g
