-- The queue's own law, and what each call of the exporter does to the stream.
use Rattle.std.proofs.Common.{refl}
use Rattle.otel_laws.proofs.QueueLemmas.{lines_hold}
use Rattle.otel_laws.proofs.lines.accepted_spans_are_in_lines.Goals as goal

pub returns : goal.returns
returns g c = λ first xs os t lined h.
    lines_hold g.F.BatchForm.form g.W.Write.contents _ (λ e batch answer f w. w) (λ e timeout answer f w. w) (λ e resource f w. w) (λ e. refl) first xs os t lined h
