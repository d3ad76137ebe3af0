-- The test of an order, and sums of lists of numbers.
use Rattle.std.proofs.Common.{◌≡◌, ◌⊎◌, inl, inr, refl, ℕ, ◌+◌, ◌<◌, ◌≤◌, Bool, true, false, List, [], ◌∷◌, ◌++◌, nat_lt, arith, sum}
use borrow.Author.Tests.{ltb-true, ltb-false}
use Rattle.std.specs.List.{fold}

-- the test of an order, with what it says
pub ltb_tells : (a b : ℕ) → ((nat_lt a b ≡ true) × (a < b)) ⊎ ((nat_lt a b ≡ false) × (b ≤ a))
ltb_tells a b = split (nat_lt a b) refl
  where
    split : (v : Bool) → nat_lt a b ≡ v → ((nat_lt a b ≡ true) × (a < b)) ⊎ ((nat_lt a b ≡ false) × (b ≤ a))
    split true e = inl (e, ltb-true a b e)
    split false e = inr (e, ltb-false a b e)

-- the sum of a list by its first number
sum_from : (a : ℕ) (ks : List ℕ) → fold (λ m n. m + n) a ks ≡ a + fold (λ m n. m + n) 0 ks
sum_from a [] = omega arith
sum_from a (k ∷ ks) =
    let here = sum_from (a + k) ks in
    let there = sum_from (0 + k) ks in
    omega (arith, here, there)

pub sum-cons : (k : ℕ) (ks : List ℕ) → sum (k ∷ ks) ≡ k + sum ks
sum-cons k ks = let from = sum_from (0 + k) ks in omega (arith, from)

-- the sizes of two stretches together
pub sum-append : (js ks : List ℕ) → sum (js ++ ks) ≡ sum js + sum ks
sum-append [] ks = omega arith
sum-append (j ∷ js) ks =
    let rest = sum-append js ks in
    let whole = sum-cons j (js ++ ks) in
    let first = sum-cons j js in
    omega (arith, rest, whole, first)
