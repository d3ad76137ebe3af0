-- What the spans so far left of the rows that wait.
use Rattle.std.proofs.Common.{◌≡◌, take}
use Rattle.otel_picture.specs.Turns.{plain_waiting, put_all}
use Rattle.otel_picture.proofs.rows.Waiting.put_in.Given as goal

abbrev pub invariant-loop-span : goal.invariant-loop-span
invariant-loop-span l = plain_waiting l.self ≡ put_all l.level (plain_waiting l.fn.self) (take l.span-index l.spans)
