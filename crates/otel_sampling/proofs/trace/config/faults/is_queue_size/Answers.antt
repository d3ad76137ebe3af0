use Rattle.otel_sampling.specs.ConfigStrings.{IsQueueSize}
use Rattle.otel_sampling.proofs.FaultLemmas.{read_tells}
use Rattle.otel_sampling.proofs.trace.config.faults.is_queue_size.Goals as goal

pub returns : goal.returns
returns c = rw c.is_some.ensures (read_tells (IsQueueSize c.args.text.now) c.queue_size.result c.queue_size.ensures)
