-- One line more.
use Rattle.std.proofs.Common.{◌≡◌, ◌+◌, ap, length, arith, Option, List, ℕ, suc}
use Rattle.std.specs.Borrow.{Bor}
use Rattle.otel_otlp_read.specs.Inputs.{lines_after}
use Rattle.otel_otlp_read.proofs.LeftLines.{left, left_text}
use Rattle.otel_otlp_read.proofs.LineReading.{first_of_left, left_falls}
use Rattle.otel_otlp_read.proofs.lines.line_count.Goals as goal

pub loop-left-preserved : goal.loop-left-preserved
loop-left-preserved c =
    let line = c.first_line.result.0.now in
    let after = c.first_line.result.1 in
    let lines = first_of_left c.loop-left.left c.in-Some.rest line after c.in-Some.is c.first_line.ensures.cut in
    let one : length (lines_after (left_text c.loop-left.left)) ≡ suc (length (lines_after (left_text after))) =
    ap (λ (ls : List (List ℕ)). length ls) lines in
    let long : left (left_text c.loop-left.left) ≡ length c.in-Some.rest.now + 1 =
    ap (λ (o : Option (Bor (List ℕ))). left (left_text o)) c.in-Some.is in
    record {
      counted = omega (arith, one, c.loop-left.invariant.counted);
      room = omega (arith, left_falls after c.in-Some.rest c.first_line.ensures.shorter, long, c.loop-left.invariant.room);
    }
