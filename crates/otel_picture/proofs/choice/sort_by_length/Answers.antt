-- The order of the keys is that of the traces.
use Rattle.std.proofs.Common.{rules, ℕ}
use Rattle.std.proofs.lemmas.List.Sorted.{answers_always}
use Rattle.std.specs.declared.cmp.Reverse.{Reverse}
use Rattle.otel_picture.specs.Choices.{first_place, trace_length}
use Rattle.otel_picture.specs.Traces.{plain_trace}
use Rattle.otel_picture.specs.declared.trace.Trace.{Trace}
use Rattle.otel_picture.proofs.Choosing.{sorted_plain}
use Rattle.otel_picture.proofs.choice.sort_by_length.Goals as goal

abbrev key_of : Trace → Reverse ℕ × ℕ
key_of trace = (record { 0 = trace_length (plain_trace trace) }, first_place (plain_trace trace))

pub returns-clause-sorted : goal.returns-clause-sorted
returns-clause-sorted c =
    sorted_plain c.sort_unstable_by_key.new.self.items
    (c.sort_unstable_by_key.ensures.sorted key_of (answers_always _ _ _ (λ f a r g h. search rules)))
