use Rattle.std.proofs.Common.{◌≡◌, length, drop}
use Rattle.std.specs.Prelude.{string_bytes}
use Rattle.std.specs.List.{filter}
use Rattle.otel_probability.specs.Entry.{entry_members, stays}
use Rattle.otel_probability.specs.Joining.{with_members}
use Rattle.otel_probability.proofs.entry.push_others.Given as goal

abbrev pub invariant-loop-member : goal.invariant-loop-member
invariant-loop-member l =
    with_members (string_bytes l.text) (filter stays (drop (length l.yielded) (entry_members l.entry)))
    ≡ with_members (string_bytes l.initial.text) (filter stays (entry_members l.entry))
