-- One line more is read: an empty one, or one that reads as a command.
use Rattle.std.proofs.Common.{◌≡◌, ◌≢◌, ◌+◌, Some, None, [], length, arith, rules}
use Rattle.std.proofs.lemmas.List.{map_push, nil_from_length}
use Rattle.otel_trace_lines.specs.Commands.{PlainCommand, plain_command, plain_commands}
use Rattle.otel_trace_lines.specs.Lines.{Reads}
use Rattle.opentelemetry.proofs.Clauses.{fails_on_err}
use Rattle.otel_trace_lines.proofs.OneReading.{one_reading}
use Rattle.otel_trace_lines.proofs.Spelled.{read_blank, read_more, read_bad, read_all, spells_something}
use Rattle.otel_trace_lines.proofs.lines.parse.Goals as goal

pub loop-line-preserved-then-is_empty : goal.loop-line-preserved-then-is_empty
loop-line-preserved-then-is_empty c =
    let next = c.in-Some.ensures in
    let none : length c.without_comment-content.result.now ≡ 0 = search rules in
    let empty = nil_from_length c.without_comment-content.result.now none in
    record {
      read = read_blank c.args.dialect c.args.text.now c.loop-line.rest.now c.in-Some.line.now c.in-Some.after.now c.without_comment-content.result.now (plain_commands c.loop-line.commands.items) c.loop-line.number c.loop-line.invariant.read next.0 c.without_comment-content.ensures empty;
      room = omega (arith, next.1);
    }

pub loop-line-preserved : goal.loop-line-preserved
loop-line-preserved c =
    let next = c.in-Some.ensures in
    let some : c.without_comment-content.result.now ≢ [] = search rules in
    let reads : Reads c.args.dialect c.without_comment-content.result.now (plain_command c.in-Some-2.command) = rw c.in-Some-2.is at c.in_ok-command.ensures.found in
    let pushed = map_push plain_command c.loop-line.commands.items c.in-Some-2.command in
    record {
      read = rw (c.in_ok-push-in-Some-2.ensures.items, pushed) (read_more c.args.dialect c.args.text.now c.loop-line.rest.now c.in-Some.line.now c.in-Some.after.now c.without_comment-content.result.now (plain_commands c.loop-line.commands.items) (plain_command c.in-Some-2.command) c.loop-line.number c.loop-line.invariant.read next.0 c.without_comment-content.ensures some reads);
      room = omega (arith, next.1);
    }

pub returns-in-None-clause-only : goal.returns-in-None-clause-only
returns-in-None-clause-only c =
    let next = c.in-Some.ensures in
    let some : c.without_comment-content.result.now ≢ [] = search rules in
    let bad : (command : PlainCommand) → Reads c.args.dialect c.without_comment-content.result.now command → ⊥ = rw c.in-None.is at c.in_ok-command.ensures.found in
    let stops = read_bad c.args.dialect c.args.text.now c.loop-line.rest.now c.in-Some.line.now c.in-Some.after.now c.without_comment-content.result.now (plain_commands c.loop-line.commands.items) c.loop-line.number c.loop-line.invariant.read next.0 c.without_comment-content.ensures some bad in
    λ commands bad_line h. one_reading c.args.dialect c.args.text.now (plain_commands c.loop-line.commands.items) commands (Some (c.loop-line.number + 1)) bad_line stops h

pub returns-clause-only : goal.returns-clause-only
returns-clause-only c =
    let all = read_all c.args.dialect c.args.text.now c.loop-line.rest.now (plain_commands c.loop-line.commands.items) c.loop-line.number c.loop-line.invariant.read c.in_default.ensures in
    λ commands bad_line h. one_reading c.args.dialect c.args.text.now (plain_commands c.loop-line.commands.items) commands None bad_line all h

-- an error comes at a line that reads as a command
pub returns-in_err-command-clause-free : goal.returns-in_err-command-clause-free
returns-in_err-command-clause-free c =
    let some : c.without_comment-content.result.now ≢ [] = search rules in
    λ nothing. absurd (fails_on_err c.in_err-command.ensures.free (λ read. spells_something c.args.dialect c.args.text.now c.loop-line.rest.now c.in-Some.line.now c.in-Some.after.now c.without_comment-content.result.now (plain_commands c.loop-line.commands.items) read.0 c.loop-line.number c.loop-line.invariant.read c.in-Some.ensures.0 c.without_comment-content.ensures some read.1 nothing))

pub returns-in_err-push-in-Some-2-clause-free : goal.returns-in_err-push-in-Some-2-clause-free
returns-in_err-push-in-Some-2-clause-free c =
    let some : c.without_comment-content.result.now ≢ [] = search rules in
    let reads : Reads c.args.dialect c.without_comment-content.result.now (plain_command c.in-Some-2.command) = rw c.in-Some-2.is at c.in_ok-command.ensures.found in
    λ nothing. absurd (spells_something c.args.dialect c.args.text.now c.loop-line.rest.now c.in-Some.line.now c.in-Some.after.now c.without_comment-content.result.now (plain_commands c.loop-line.commands.items) (plain_command c.in-Some-2.command) c.loop-line.number c.loop-line.invariant.read c.in-Some.ensures.0 c.without_comment-content.ensures some reads nothing)
