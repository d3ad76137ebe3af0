-- One part more.
use Rattle.std.proofs.Common.{◌≡◌, ◌∙◌, ◌+◌, ◌≤◌, ap, sym, length, arith, Option, List, ℕ}
use Rattle.std.specs.Borrow.{Bor}
use Rattle.otel_otlp_read.specs.Cuts.{parts_after}
use Rattle.otel_otlp_read.specs.Inputs.{PlainReadText, and_read, read_part, read_parts}
use Rattle.otel_otlp_read.proofs.LeftLines.{left, left_text}
use Rattle.otel_otlp_read.proofs.PartReading.{first_of_parts, part_falls, part_few, part_step, parts_none}
use Rattle.otel_otlp_read.proofs.input.read_parts.Goals as goal

pub loop-left-preserved : goal.loop-left-preserved
loop-left-preserved c =
    let part = c.first_part.result.0.now in
    let after = c.first_part.result.1 in
    let read = c.loop-left.read in
    let number = c.loop-left.number in
    let texts = first_of_parts c.loop-left.left c.in-Some.rest part after c.in-Some.is c.first_part.ensures.cut in
    let now = c.in_ok-add_part.ensures {u = tt} in
    let long : left (left_text c.loop-left.left) ≡ length c.in-Some.rest.now + 1 =
    ap (λ (o : Option (Bor (List ℕ))). left (left_text o)) c.in-Some.is in
    let more : c.add_part.new.self.spanless ≡ read.spanless + (read_part number part).spanless =
    ap (λ (r : PlainReadText). r.spanless) now in
    let count = c.line_count-number.ensures.is in
    let falls = part_falls after (length part) (length c.in-Some.rest.now) c.first_part.ensures.shorter
    c.first_part.ensures.within in
    record {
      few = omega (arith, more, count, part_few number part, c.loop-left.invariant.few);
      read = ap (λ (n : ℕ). and_read c.add_part.new.self (read_parts (number + n) (parts_after (left_text after)))) count
          ∙ part_step number part (parts_after (left_text after)) read c.add_part.new.self now
          ∙ sym (ap (λ ts. and_read read (read_parts number ts)) texts) ∙ c.loop-left.invariant.read;
      room = omega (arith, falls, long, c.line_count-number.ensures.few, c.loop-left.invariant.room);
    }

pub returns : goal.returns
returns c =
    sym (parts_none c.loop-left.number c.loop-left.read)
    ∙ ap (λ (o : Option (Bor (List ℕ))). and_read c.loop-left.read (read_parts c.loop-left.number (parts_after (left_text o))))
    (sym c.in_default.is)
    ∙ c.loop-left.invariant.read
