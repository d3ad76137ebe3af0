-- None so far is of another service.
use Rattle.std.proofs.Common.{◌≡◌, drop, not}
use Rattle.std.specs.List.{list_any}
use Rattle.std.specs.Str.{bytes_eq}
use Rattle.otel_picture.specs.PlainSheets.{first_service, span_of}
use Rattle.otel_picture.proofs.sheet.are_mixed.Given as goal

abbrev pub invariant-loop-mark : goal.invariant-loop-mark
invariant-loop-mark l =
    list_any (λ mark. not (bytes_eq (span_of l.spans mark).service (first_service l.spans l.marks)))
    (drop l.mark-index l.marks)
    ≡ list_any (λ mark. not (bytes_eq (span_of l.spans mark).service (first_service l.spans l.marks))) l.marks
