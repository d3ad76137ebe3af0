use Rattle.std.proofs.Common.{◌≡◌, ℕ, zero, suc, ◌+◌, ◌*◌, ◌/◌, ◌%◌, ◌^◌, ◌<◌, List, length, set, get_or, replicate, sym, ap, ◌∙◌, subst, arith, length-set}
use Rattle.std.proofs.lemmas.List.{length-replicate}
use Rattle.otel_float.specs.Limbs.{AreLimbs, value_of}
use Rattle.otel_float.proofs.LimbsLemmas.{AreLimbs-set}
use Rattle.otel_float.proofs.decimal.start.Goals as goal

zeros : (n k : ℕ) → get_or (replicate n 0) k 0 < 10 ^ 9
zeros zero k = omega arith
zeros (suc n) zero = omega arith
zeros (suc n) (suc k) = zeros n k

one_limb : (n low : ℕ) → value_of (set (replicate (suc (suc (suc n))) 0) 2 low) 3 ≡ low * 10 ^ 18
unfolding value_of
one_limb n low = omega arith

two_limbs : (n low high : ℕ) → value_of (set (set (replicate (suc (suc (suc (suc n)))) 0) 2 low) 3 high) 4 ≡ (low + 10 ^ 9 * high) * 10 ^ 18
unfolding value_of
two_limbs n low high = omega arith

set_once : (xs : List ℕ) (low : ℕ) → xs ≡ replicate 128 0 → low < 10 ^ 9 → AreLimbs (set xs 2 low)
set_once xs low e h =
    AreLimbs-set xs 2 low (subst (λ ys. 2 < length ys) (sym e) (subst (λ n. 2 < n) (sym (length-replicate {A = ℕ} 128 0)) (omega arith)))
    (subst AreLimbs (sym e) (zeros 128)) h

set_twice : (xs : List ℕ) (low high : ℕ) → xs ≡ replicate 128 0 → low < 10 ^ 9 → high < 10 ^ 9 → AreLimbs (set (set xs 2 low) 3 high)
set_twice xs low high e h k =
    AreLimbs-set (set xs 2 low) 3 high
    (subst (λ n. 3 < n) (sym (length-set xs 2 low)) (subst (λ ys. 3 < length ys) (sym e) (subst (λ n. 3 < n) (sym (length-replicate {A = ℕ} 128 0)) (omega arith))))
    (set_once xs low e h) k

pub returns-then-significand-lt-BASE-clause-value : goal.returns-then-significand-lt-BASE-clause-value
returns-then-significand-lt-BASE-clause-value c =
    let s = c.args.significand in
    let whole : s % 10 ^ 9 ≡ s = omega arith in
    ap (λ xs. value_of (set xs 2 (s % 10 ^ 9)) 3) c.requires.zeros ∙ one_limb 125 (s % 10 ^ 9) ∙ ap (λ x. x * 10 ^ 18) whole

pub returns-then-significand-lt-BASE-clause-limbs : goal.returns-then-significand-lt-BASE-clause-limbs
returns-then-significand-lt-BASE-clause-limbs c = set_once c.args.limbs.now (c.args.significand % 10 ^ 9) c.requires.zeros (omega arith)

pub returns-clause-value : goal.returns-clause-value
returns-clause-value c =
    let s = c.args.significand in
    let whole : s % 10 ^ 9 + 10 ^ 9 * (s / 10 ^ 9) ≡ s = omega arith in
    ap (λ xs. value_of (set (set xs 2 (s % 10 ^ 9)) 3 (s / 10 ^ 9)) 4) c.requires.zeros ∙ two_limbs 124 (s % 10 ^ 9) (s / 10 ^ 9) ∙ ap (λ x. x * 10 ^ 18) whole

pub returns-clause-limbs : goal.returns-clause-limbs
returns-clause-limbs c = set_twice c.args.limbs.now (c.args.significand % 10 ^ 9) (c.args.significand / 10 ^ 9) c.requires.zeros (omega arith) (omega arith)
