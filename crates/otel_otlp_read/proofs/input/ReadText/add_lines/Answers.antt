-- One line more: a blank one, or a document.
use Rattle.std.proofs.Common.{◌≡◌, ◌∙◌, ◌+◌, ap, sym, length, arith, Option, List, ℕ}
use Rattle.std.specs.Borrow.{Bor}
use Rattle.otel_otlp_read.specs.Inputs.{PlainReadText, and_read, lines_after, of_line, read_lines}
use Rattle.otel_otlp_read.proofs.LeftLines.{left, left_text}
use Rattle.otel_otlp_read.proofs.LineReading.{first_of_left, left_falls, line_blank, line_few, line_there}
use Rattle.otel_otlp_read.proofs.LineReading.{read_none, read_step}
use Rattle.otel_otlp_read.proofs.input.ReadText.add_lines.Goals as goal
use Rattle.otel_otlp_read.proofs.input.ReadText.add_lines.Goals.{then-not-is_blank+in_ok-add, else-not-is_blank}

pub loop-left-preserved : goal.loop-left-preserved
loop-left-preserved c =
    let line = c.first_line.result.0.now in
    let after = c.first_line.result.1 in
    let read = c.loop-left.self in
    let number = c.loop-left.number in
    let lines = first_of_left c.loop-left.left c.in-Some.rest line after c.in-Some.is c.first_line.ensures.cut in
    let now : c.if-not-is_blank.self ≡ and_read read (of_line number line) =
    elim c.if-not-is_blank.branch [
      | then-not-is_blank+in_ok-add w ↦
          w.self-is ∙ w.in_ok-add.ensures {u = tt}
          ∙ sym (line_there number line read (sym c.is_blank.ensures ∙ w.if-not-is_blank.true))
      | else-not-is_blank w ↦
          w.self-is ∙ sym (line_blank number line read (sym c.is_blank.ensures ∙ w.if-not-is_blank.false))
    ] in
    let long : left (left_text c.loop-left.left) ≡ length c.in-Some.rest.now + 1 =
    ap (λ (o : Option (Bor (List ℕ))). left (left_text o)) c.in-Some.is in
    let more : c.if-not-is_blank.self.spanless ≡ read.spanless + (of_line number line).spanless =
    ap (λ (r : PlainReadText). r.spanless) now in
    let falls = left_falls after c.in-Some.rest c.first_line.ensures.shorter in
    record {
      few = omega (arith, more, line_few number line, falls, long, c.loop-left.invariant.few);
      read = read_step number line (lines_after (left_text after)) read c.if-not-is_blank.self now
          ∙ sym (ap (λ ls. and_read read (read_lines number ls)) lines) ∙ c.loop-left.invariant.read;
      room = omega (arith, falls, long, c.loop-left.invariant.room);
    }

pub returns : goal.returns
returns c =
    sym (read_none c.loop-left.number c.loop-left.self)
    ∙ ap (λ (o : Option (Bor (List ℕ))). and_read c.loop-left.self (read_lines c.loop-left.number (lines_after (left_text o))))
    (sym c.in_default.is)
    ∙ c.loop-left.invariant.read
