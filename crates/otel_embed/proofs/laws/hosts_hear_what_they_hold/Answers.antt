use Rattle.otel_processors.specs.declared.trace.processor.ProcessorOf.TheVariants as kinds
use Rattle.otel_embed.proofs.Hearing.{queue_hears, simple_hears}
use Rattle.otel_embed.proofs.laws.hosts_hear_what_they_hold.Goals as goal

pub returns : goal.returns
returns c (kinds.Simple simple) is none = simple_hears simple.exporter is none
returns c (kinds.Batch batch) is none = queue_hears batch.machine.exporter batch.machine.waiting is none
returns c (kinds.Custom custom) is none = absurd is
