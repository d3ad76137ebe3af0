use Rattle.std.proofs.Common.{◌≡◌, ℕ, ◌^◌, ◌<◌, List, ◌++◌}
use Rattle.std.specs.Fmt.{HasWritten, IsPlainFormatter}
use Rattle.otel_export.specs.ErrorText as printed
use Rattle.otel_export.proofs.FractionLemmas.{significant}
use Rattle.otel_export.proofs.error.write_fraction.Given as goal

abbrev pub invariant-digits : goal.invariant-digits
invariant-digits g l =
    (k : ℕ) × (l.place ≡ 10 ^ k) × (l.left < l.place) × (done : List ℕ)
    × (done ++ significant k l.left ≡ significant (printed.places l.fn.unit) l.fn.remainder)
    × (IsPlainFormatter l.initial.f → HasWritten g.W.Write.write_str_gives l.initial.f done l.f)

abbrev pub decreases-digits : goal.decreases-digits
decreases-digits g l = l.place
