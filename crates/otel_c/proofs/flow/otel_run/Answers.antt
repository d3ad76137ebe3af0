use Rattle.std.proofs.Common.{◌∙◌, Some, ap, sym}
use Rattle.otel_c.proofs.Turning.{flowed, flows_by}
use Rattle.otel_c.proofs.flow.otel_run.Goals as goal

pub returns : goal.returns
returns c =
    let status = c.status_of_result.ensures.ok in
    flowed _ c.run_due-ran.result _ _ _ c.deref_mut.result.now _ (c.in-Some.ensures.some.1 ∙ ap Some (sym c.deref_mut.ensures.value)) c.put.ensures.1
    (flows_by _ _ _ _ _ _ status.0 status.1 c.run_due-ran.ensures.flows) c.status_of_result.ensures.number c.run_due-ran.ensures.err
