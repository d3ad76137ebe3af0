-- One field more stands in front of those that are left.
use Rattle.std.proofs.Common.{◌≡◌, ℕ, arith, rules, subst}
use Rattle.otel_trace_run.specs.Reasons.{StandBefore}
use Rattle.otel_trace_run.proofs.ReasonLemmas.{ends_further, explains_place, stand_further}
use Rattle.otel_trace_run.proofs.reason.reason_before_moment.Goals as goal

pub loop-passed-preserved : goal.loop-passed-preserved
loop-passed-preserved c =
    let rest = c.loop-passed.rest.now in
    let field = c.in-Some.field-0-0.now in
    let after = c.in-Some.after.now in (
      search rules,
      ends_further c.args.fields.now rest field after c.loop-passed.invariant.1 c.in-Some.ensures.1,
      stand_further c.loop-passed.passed c.args.fields.now rest field after c.loop-passed.invariant.2 c.in-Some.ensures.1,
    )

pub returns : goal.returns
returns c =
    let all : c.loop-passed.passed ≡ c.args.count = omega arith in
    explains_place c.args.count c.args.fields.now c.loop-passed.rest.now c.args.wants c.reason_of_moment.result
    c.loop-passed.invariant.1
    (subst (λ (n : ℕ). StandBefore n c.args.fields.now c.loop-passed.rest.now) all c.loop-passed.invariant.2)
    c.reason_of_moment.ensures
