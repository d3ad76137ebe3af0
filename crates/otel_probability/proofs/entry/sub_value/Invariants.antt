use Rattle.std.proofs.Common.{◌≡◌, length, drop}
use Rattle.otel_probability.specs.Entry.{entry_members, sub_value}
use Rattle.otel_probability.proofs.entry.sub_value.Given as goal

abbrev pub invariant-loop-member : goal.invariant-loop-member
invariant-loop-member l = sub_value l.name (drop (length l.yielded) (entry_members l.entry)) ≡ sub_value l.name (entry_members l.entry)
