-- How many of those so far failed.
use Rattle.std.proofs.Common.{◌≡◌, count_by, take}
use Rattle.otel_picture.specs.PlainSheets.{is_error, span_of}
use Rattle.otel_picture.proofs.sheet.Sheet.errors.Given as goal

abbrev pub invariant-loop-mark : goal.invariant-loop-mark
invariant-loop-mark l = l.errors ≡ count_by (λ mark. is_error (span_of l.self.spans.now mark).status)
    (take l.mark-index l.self.trace.now.family.marks.items)
