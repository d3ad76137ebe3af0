use Rattle.std.proofs.Common.{ap}
use Rattle.std.specs.Option.{option_copied}
use Rattle.otel_propagators.proofs.B3Lemmas.{first_field, second_field}
use Rattle.otel_propagators.proofs.b3.read.read_single.Goals as goal

pub returns-in_err-after : goal.returns-in_err-after
returns-in_err-after c = rw c.from_residual.ensures (λ context is.
    let none = ap (λ b. option_copied b) c.in_err-after.was in
    let some = (first_field c.args.text.now c.cut.result.0.now (option_copied c.cut.result.1) context is c.cut.ensures.parts c.cut.ensures.first).1 in absurd cc)

pub returns-in_err-trace_id : goal.returns-in_err-trace_id
returns-in_err-trace_id c = rw c.from_residual-in_err-trace_id.ensures (λ context is.
    c.in_err-trace_id.ensures context.trace_id (first_field c.args.text.now c.cut.result.0.now (option_copied c.cut.result.1) context is c.cut.ensures.parts c.cut.ensures.first).0)

pub returns-in_err-span_id : goal.returns-in_err-span_id
returns-in_err-span_id c = rw c.from_residual-in_err-span_id.ensures (λ context is.
    c.in_err-span_id.ensures context.span_id
    (second_field c.args.text.now c.cut.result.0.now c.cut-2.result.0.now (option_copied c.cut.result.1) (option_copied c.cut-2.result.1) c.in_ok-after.after.now context is c.cut.ensures.parts
    c.cut.ensures.first (ap (λ b. option_copied b) c.in_ok-after.was) c.cut-2.ensures.parts c.cut-2.ensures.first).0)

pub returns-in_err-state : goal.returns-in_err-state
returns-in_err-state c = rw c.from_residual-in_err-state.ensures (λ context is.
    c.in_err-state.ensures is.state
    (second_field c.args.text.now c.cut.result.0.now c.cut-2.result.0.now (option_copied c.cut.result.1) (option_copied c.cut-2.result.1) c.in_ok-after.after.now context is c.cut.ensures.parts
    c.cut.ensures.first (ap (λ b. option_copied b) c.in_ok-after.was) c.cut-2.ensures.parts c.cut-2.ensures.first).1)
