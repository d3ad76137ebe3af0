use Rattle.std.proofs.Common.{◌∙◌, ap, sym}
use Rattle.otel_batch.specs.MachineRun.{counted_up}
use Rattle.otel_processors.proofs.Failing.{pulls_failed}
use Rattle.otel_processors.proofs.trace.batch_worker.pull_batch.Goals as goal

pub returns : goal.returns
returns g c =
    let pulls = c.pull_batch.ensures in
    let failed = pulls_failed g.E.SpanExporter pulls.more c.args.machine.now pulls.pulled pulls.outcomes
    c.pull_batch.new.self pulls.goes in
    (pulls, c.count_failure.ensures ∙ rw c.leaves_spans.ensures (ap (λ n. counted_up c.args.failed.now n) (sym failed)))
