use Rattle.std.proofs.Common.{◌<◌, ◌^◌, rules, sym}
use Rattle.std.proofs.lemmas.Bool.{false≢true}
use Rattle.otel_trace_run.proofs.IdNumbers.{id_read, no_id}
use Rattle.otel_trace_run.proofs.asked_view.trace_id_of.Goals as goal

pub returns-in-Ok : goal.returns-in-Ok
returns-in-Ok c =
    let small : c.in-Ok.id < 16 ^ 32 = search rules in
    sym (id_read c.in-Ok.id c.args.text.now small c.in-Ok.ensures.value)

pub returns-in-Err : goal.returns-in-Err
returns-in-Err c = sym (no_id c.args.text.now (λ text. false≢true (c.in-Err.ensures.only.1 text)))
