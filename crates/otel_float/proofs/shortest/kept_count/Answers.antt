use Rattle.std.proofs.Common.{◌≡◌, ℕ, ◌+◌, ◌-◌, ◌<◌, suc, Bool, true, false, sym, ap, ◌∙◌, arith}
use Rattle.otel_float.specs.FloatText as spec
use Rattle.otel_float.proofs.Keeping.{count_here, count_on, count_none}
use Rattle.otel_float.proofs.shortest.kept_count.Goals as goal

pub loop-count-init : goal.loop-count-init
unfolding spec.kept_count
loop-count-init c = record {
  same = ap (λ n. spec.count_from (17 - n) c.args.bits n) c.least_count-least.ensures.value;
  some = c.least_count-least.ensures.few.0;
}

read : (bits at n digits power : ℕ) (b answer : Bool) → digits ≡ spec.rounded (spec.whole bits) n → power ≡ at - n → at ≡ spec.point bits → b ≡ spec.reads_back bits digits power → b ≡ answer
    → spec.reads_back bits (spec.rounded (spec.whole bits) n) (spec.point bits - n) ≡ answer
read bits at n digits power b answer d p point r e =
    ap (λ x. spec.reads_back bits x (spec.point bits - n)) (sym d) ∙ ap (λ x. spec.reads_back bits digits (x - n)) (sym point) ∙ ap (λ x. spec.reads_back bits digits x) (sym p) ∙ sym r ∙ e

more_left : (n : ℕ) → n < 17 → 17 - n ≡ suc (17 - (n + 1))
more_left n h = omega arith

pub returns-then-reads_back-clause-value : goal.returns-then-reads_back-clause-value
returns-then-reads_back-clause-value c =
    let n = c.loop-count.count in
    let r = read c.args.bits c.args.leading.point n c.rounded-digits.result c.saturating_sub.result c.reads_back.result true c.rounded-digits.ensures c.saturating_sub.ensures c.requires.point c.reads_back.ensures c.if-reads_back.true in
    sym (count_here (17 - (n + 1)) c.args.bits n r)
    ∙ ap (λ m. spec.count_from m c.args.bits n) (sym (more_left n c.loop-count-test.true)) ∙ c.loop-count.invariant.same

pub loop-count-preserved : goal.loop-count-preserved
loop-count-preserved c =
    let n = c.loop-count.count in
    let r = read c.args.bits c.args.leading.point n c.rounded-digits.result c.saturating_sub.result c.reads_back.result false c.rounded-digits.ensures c.saturating_sub.ensures c.requires.point c.reads_back.ensures c.if-reads_back.false in
    let next : n + 1 ≡ suc n = omega arith in
    record {
      same =
          ap (λ m. spec.count_from (17 - (n + 1)) c.args.bits m) next
          ∙ sym (count_on (17 - (n + 1)) c.args.bits n r)
          ∙ ap (λ m. spec.count_from m c.args.bits n) (sym (more_left n c.loop-count-test.true)) ∙ c.loop-count.invariant.same;
      some = omega arith;
    }

pub returns-clause-value : goal.returns-clause-value
returns-clause-value c =
    let at : c.loop-count.count ≡ 17 = omega arith in
    sym (count_none c.args.bits 17) ∙ ap (λ n. spec.count_from (17 - n) c.args.bits n) (sym at) ∙ c.loop-count.invariant.same
