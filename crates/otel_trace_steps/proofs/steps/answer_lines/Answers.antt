-- One line more is followed.
use Rattle.std.proofs.Common.{◌≡◌, ◌≢◌, ◌∙◌, ◌++◌, ℕ, List, [], length, arith, rules, inl, inr, refl}
use Rattle.std.proofs.lemmas.List.{nil_from_length}
use Rattle.otel_trace_steps.specs.StepAnswers.{AnswersBeginning}
use Rattle.otel_trace_steps.specs.StepLines.{ReadsOrder}
use Rattle.otel_batch.specs.declared.machine.step.Step.TheVariants as steps
use Rattle.otel_trace_steps.specs.declared.steps.step_lines.Order.{Order}
use Rattle.otel_trace_steps.specs.declared.steps.step_lines.Order.TheVariants as orders
use Rattle.opentelemetry.proofs.Clauses.{always_on_err, fails_on_err}
use Rattle.otel_trace_steps.proofs.StepFollowing.{followed_none, followed_blank, followed_all, followed_bad, followed_more, followed_untold, silent_blank, silent_not_read}
use Rattle.otel_trace_steps.proofs.steps.answer_lines.Goals as goal

pub loop-line-init : goal.loop-line-init
loop-line-init c = record { followed = followed_none c.args.machine.now c.args.text.now c.args.out.now.items; room = omega arith; silent = λ bad_line h. h }

pub loop-line-preserved-then-is_empty : goal.loop-line-preserved-then-is_empty
loop-line-preserved-then-is_empty c =
    let next = c.in-Some.ensures in
    let none : length c.in-Some.line.now ≡ 0 = search rules in
    let blank = nil_from_length c.in-Some.line.now none in
    record {
      followed = followed_blank c.args.machine.now c.loop-line.machine c.args.text.now c.loop-line.rest.now c.in-Some.line.now c.in-Some.after.now c.args.out.now.items c.loop-line.out.items c.loop-line.number c.loop-line.invariant.followed next.0 blank;
      room = omega (arith, next.1);
      silent = λ bad_line h. silent_blank c.args.machine.now c.args.machine.now c.loop-line.rest.now c.in-Some.line.now c.in-Some.after.now c.loop-line.number bad_line next.0 blank (c.loop-line.invariant.silent bad_line h);
    }

pub returns-in_default-2-clause-answered : goal.returns-in_default-2-clause-answered
returns-in_default-2-clause-answered c =
    let some : c.in-Some.line.now ≢ [] = search rules in
    let bad : (order : Order) → ReadsOrder c.in-Some.line.now order → ⊥ = rw c.in_default-2.is at c.in_ok-order.ensures.found in
    followed_bad c.args.machine.now c.loop-line.machine c.args.text.now c.loop-line.rest.now c.in-Some.line.now c.in-Some.after.now c.args.out.now.items c.loop-line.out.items c.loop-line.number c.loop-line.invariant.followed c.in-Some.ensures.0 some bad

pub loop-line-preserved : goal.loop-line-preserved
loop-line-preserved c =
    let next = c.in-Some.ensures in
    let some : c.in-Some.line.now ≢ [] = search rules in
    let reads : ReadsOrder c.in-Some.line.now c.in-Some-2.order = rw c.in-Some-2.is at c.in_ok-order.ensures.found in
    let obeyed = c.in_ok-obey.ensures.ok in
    record {
      followed = followed_more c.args.machine.now c.loop-line.machine c.obey.new.machine c.args.text.now c.loop-line.rest.now c.in-Some.line.now c.in-Some.after.now c.args.out.now.items c.loop-line.out.items c.obey.new.out.items c.loop-line.number c.in-Some-2.order obeyed.0 c.loop-line.invariant.followed next.0 some reads obeyed.2 obeyed.1;
      room = omega (arith, next.1);
      silent = λ bad_line h. absurd (silent_not_read c.args.machine.now c.args.machine.now c.loop-line.rest.now c.in-Some.line.now c.in-Some.after.now c.loop-line.number bad_line next.0 some (c.loop-line.invariant.silent bad_line h) c.in-Some-2.order reads);
    }

-- an error comes at a line that gets no answer
pub returns-in_err-order-clause-err : goal.returns-in_err-order-clause-err
returns-in_err-order-clause-err c =
    always_on_err {P = (answers : List ℕ) × (c.loop-line.out.items ≡ c.args.out.now.items ++ answers) × AnswersBeginning c.args.machine.now c.args.text.now answers c.loop-line.machine} _
    (followed_untold c.args.machine.now c.loop-line.machine c.loop-line.machine c.args.text.now c.loop-line.rest.now c.in-Some.line.now c.in-Some.after.now c.args.out.now.items c.loop-line.out.items c.loop-line.number c.loop-line.invariant.followed c.in-Some.ensures.0 (inl refl))

pub returns-in_err-obey-clause-err : goal.returns-in_err-obey-clause-err
returns-in_err-obey-clause-err c =
    let reads : ReadsOrder c.in-Some.line.now c.in-Some-2.order = rw c.in-Some-2.is at c.in_ok-order.ensures.found in
    let untold = c.in_err-obey.ensures.err in
    let followed = followed_untold c.args.machine.now c.loop-line.machine c.obey.new.machine c.args.text.now c.loop-line.rest.now c.in-Some.line.now c.in-Some.after.now c.args.out.now.items c.loop-line.out.items c.loop-line.number c.loop-line.invariant.followed c.in-Some.ensures.0 (inr (c.in-Some-2.order, reads, untold.1)) in
    always_on_err {P = (answers : List ℕ) × (c.obey.new.out.items ≡ c.args.out.now.items ++ answers) × AnswersBeginning c.args.machine.now c.args.text.now answers c.obey.new.machine} _
    (followed.0, untold.0 ∙ followed.1, followed.2)

-- and that line reads as an order
pub returns-in_err-order-clause-free : goal.returns-in_err-order-clause-free
returns-in_err-order-clause-free c =
    let some : c.in-Some.line.now ≢ [] = search rules in
    λ bad_line h. absurd (fails_on_err c.in_err-order.ensures.free (λ offer. silent_not_read c.args.machine.now c.args.machine.now c.loop-line.rest.now c.in-Some.line.now c.in-Some.after.now c.loop-line.number bad_line c.in-Some.ensures.0 some (c.loop-line.invariant.silent bad_line h) (orders.Step (steps.Offer offer.0 offer.1.0)) offer.1.1))

pub returns-in_err-obey-clause-free : goal.returns-in_err-obey-clause-free
returns-in_err-obey-clause-free c =
    let some : c.in-Some.line.now ≢ [] = search rules in
    let reads : ReadsOrder c.in-Some.line.now c.in-Some-2.order = rw c.in-Some-2.is at c.in_ok-order.ensures.found in
    λ bad_line h. absurd (silent_not_read c.args.machine.now c.args.machine.now c.loop-line.rest.now c.in-Some.line.now c.in-Some.after.now c.loop-line.number bad_line c.in-Some.ensures.0 some (c.loop-line.invariant.silent bad_line h) c.in-Some-2.order reads)

pub returns-clause-answered : goal.returns-clause-answered
returns-clause-answered c =
    followed_all c.args.machine.now c.loop-line.machine c.args.text.now c.loop-line.rest.now c.args.out.now.items c.loop-line.out.items c.loop-line.number c.loop-line.invariant.followed c.in_default.ensures
