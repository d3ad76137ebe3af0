use Rattle.otel_sampling.specs.ConfigStrings.{IsQueueSize}
use Rattle.otel_sampling.proofs.FaultLemmas.{default_stands}
use Rattle.otel_sampling.specs.declared.trace.config.faults.Setting.TheVariants as settings
use Rattle.otel_sampling.proofs.laws.ignored_queue_sizes_configure_the_default.Goals as goal

pub returns : goal.returns
returns c = λ given default size ignored configured.
    default_stands IsQueueSize settings.MaxQueueSize given default size (λ text other is. (other, is)) ignored configured
