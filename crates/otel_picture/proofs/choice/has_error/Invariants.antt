-- None so far failed.
use Rattle.std.proofs.Common.{◌≡◌, drop}
use Rattle.std.specs.List.{list_any}
use Rattle.otel_picture.specs.PlainSheets.{is_error, span_of}
use Rattle.otel_picture.proofs.choice.has_error.Given as goal

abbrev pub invariant-loop-mark : goal.invariant-loop-mark
invariant-loop-mark l =
    list_any (λ mark. is_error (span_of l.spans mark).status) (drop l.mark-index l.trace.family.marks.items)
    ≡ list_any (λ mark. is_error (span_of l.spans mark).status) l.trace.family.marks.items
