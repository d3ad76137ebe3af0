use Rattle.otel_sampling.specs.Ratio.{IsRatioText}
use Rattle.otel_sampling.proofs.FaultLemmas.{read_tells}
use Rattle.otel_sampling.proofs.trace.config.faults.is_ratio.Goals as goal

pub returns : goal.returns
returns c = rw c.is_some.ensures (read_tells (IsRatioText c.args.text.now) c.from_text.result c.from_text.ensures)
