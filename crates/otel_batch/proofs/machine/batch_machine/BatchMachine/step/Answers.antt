use Rattle.otel_batch.proofs.Requests.{permitted-keeps, permitted-goes_on}
use Rattle.otel_batch.proofs.machine.batch_machine.BatchMachine.step.Goals as goal

pub returns-clause-requests : goal.returns-clause-requests
returns-clause-requests g c =
    permitted-keeps _ c.args.step c.dispatch-outcome.result _ c.dispatch-outcome.ensures.permitted
    c.is_sound.ensures

pub returns-clause-goes_on : goal.returns-clause-goes_on
returns-clause-goes_on g c = λ next stays.
    permitted-goes_on _ c.args.step c.dispatch-outcome.result _ c.dispatch-outcome.ensures.permitted next stays
