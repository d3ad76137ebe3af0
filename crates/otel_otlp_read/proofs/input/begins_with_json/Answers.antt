-- The first line that is left is blank, or the one that is asked for.
use Rattle.std.proofs.Common.{◌≡◌, ◌∙◌, ap, sym, true, false, IfOk, Bool, Option, List, ℕ, subst}
use Rattle.std.specs.Borrow.{Bor}
use Rattle.otel_otlp_read.specs.Inputs.{begins_with_json, is_blank, lines_after}
use Rattle.otel_otlp_read.proofs.LeftLines.{left_text}
use Rattle.otel_otlp_read.proofs.LineReading.{begins_blank, begins_none, begins_there, first_of_left}
use Rattle.otel_otlp_read.proofs.input.begins_with_json.Goals as goal

pub returns-then-not-is_blank : goal.returns-then-not-is_blank
returns-then-not-is_blank c =
    let line = c.first_line.result.0.now in
    let after = c.first_line.result.1 in
    let lines = first_of_left c.loop-left.left c.in-Some.rest line after c.in-Some.is c.first_line.ensures.cut in
    let there : is_blank line ≡ false = sym c.is_blank.ensures ∙ c.if-not-is_blank.true in
    let same = sym (begins_there line (lines_after (left_text after)) there) ∙ sym (ap begins_with_json lines)
    ∙ c.loop-left.invariant in
    (subst (λ (b : Bool). IfOk c.is_json.result (λ is. is ≡ b)) same c.is_json.ensures)

pub loop-left-preserved : goal.loop-left-preserved
loop-left-preserved c =
    let line = c.first_line.result.0.now in
    let after = c.first_line.result.1 in
    let lines = first_of_left c.loop-left.left c.in-Some.rest line after c.in-Some.is c.first_line.ensures.cut in
    let blank : is_blank line ≡ true = sym c.is_blank.ensures ∙ c.if-not-is_blank.false in
    sym (begins_blank line (lines_after (left_text after)) blank) ∙ sym (ap begins_with_json lines)
    ∙ c.loop-left.invariant

pub returns : goal.returns
returns c =
    sym begins_none ∙ ap (λ (o : Option (Bor (List ℕ))). begins_with_json (lines_after (left_text o))) (sym c.in_default.is)
    ∙ c.loop-left.invariant
