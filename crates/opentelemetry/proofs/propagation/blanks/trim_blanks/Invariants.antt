use Rattle.std.proofs.Common.{◌≡◌, length, reverse}
use Rattle.std.specs.Str.{IsUtf8}
use Rattle.opentelemetry.specs.Tracestate.{trim_front}
use Rattle.opentelemetry.proofs.propagation.blanks.trim_blanks.Given as goal

abbrev pub invariant-front : goal.invariant-front
invariant-front l = record { is_text : IsUtf8 l.front; same : trim_front l.front ≡ trim_front l.text }

abbrev pub decreases-front : goal.decreases-front
decreases-front l = length l.front

abbrev pub invariant-back : goal.invariant-back
invariant-back l = record { is_text : IsUtf8 l.back; same : trim_front (reverse l.back) ≡ trim_front (reverse l.initial.back) }

abbrev pub decreases-back : goal.decreases-back
decreases-back l = length l.back
