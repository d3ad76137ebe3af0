use Rattle.std.proofs.Common.{refl}
use Rattle.otel_processors.specs.BatchProcessor.{eager_processor}
use Rattle.otel_processors.proofs.DroppingNone.{ends_drop_none, some_batch, uncounted_drop_none}
use Rattle.otel_processors.proofs.laws.eager_processors_drop_none.Goals as goal

pub returns-clause-any : goal.returns-clause-any
returns-clause-any g c = λ p q spans eager some ends. ends_drop_none g.E.SpanExporter p spans q eager some ends

pub returns-clause-new : goal.returns-clause-new
returns-clause-new g c = λ exporter config q spans some ends.
    ends_drop_none g.E.SpanExporter (eager_processor exporter config) spans q refl
    (some_batch config.max_queue_size config.max_export_batch_size some) ends

pub returns-clause-uncounted : goal.returns-clause-uncounted
returns-clause-uncounted g c = λ p q spans eager some fits ends same.
    uncounted_drop_none g.E.SpanExporter p spans q eager some fits ends same
