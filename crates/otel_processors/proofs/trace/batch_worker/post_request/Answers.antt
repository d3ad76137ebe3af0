use Rattle.std.proofs.Common.{refl}
use Rattle.otel_processors.proofs.trace.batch_worker.post_request.Goals as goal

pub returns-in-Flush : goal.returns-in-Flush
returns-in-Flush g c =
    rw c.in-Flush.is (c.step.new.self, assumption c.step.ensures, refl)

pub returns-in-Shutdown : goal.returns-in-Shutdown
returns-in-Shutdown g c =
    rw c.in-Shutdown.is (c.step-in-Shutdown.new.self, assumption c.step-in-Shutdown.ensures, refl)
