-- The greatest status is the same for every order in which statuses come.
use Rattle.std.proofs.Common.{◌≡◌, suc, true, false, cond, List, [], ◌∷◌, Ordering, Less, Equal, Greater, refl, sym, ap, ◌∙◌, subst, arith, ⊎_elim, inl, inr, ◌⊎◌}
use Rattle.std.specs.Ordering.{is_gt, is_lt, is_eq, ordering_reverse}
use Rattle.std.specs.List.{All, Contains}
use Rattle.std.specs.List.Sorted.{IsPermutation}
use Rattle.std.proofs.lemmas.Cmp.{upto, tied_itself}
use Rattle.std.proofs.lemmas.List.Elements.{All-nil, All-cons, All-contains}
use Rattle.std.proofs.lemmas.List.Sorted.{Contains-permutation, IsPermutation-sym}
use Rattle.opentelemetry.specs.Plain.{PlainStatus}
use Rattle.opentelemetry.specs.Same.{same_status_decides}
use Rattle.opentelemetry.specs.Order.{status_cmp, status_cmp_total, status_ties, greater_status, greatest_status}

-- the first does not stand above the second
abbrev IsUpTo : PlainStatus → PlainStatus → Type 0
IsUpTo a b = is_gt (status_cmp a b) ≡ false

up_to_itself : (a : PlainStatus) → IsUpTo a a
up_to_itself a = ap is_gt (tied_itself status_cmp_total a)

-- the greater of two is none below them, and one of them
first_up_to : (a b : PlainStatus) → IsUpTo a (greater_status a b)
first_up_to a b = by (status_cmp a b) refl
  where
    by : (r : Ordering) → status_cmp a b ≡ r → IsUpTo a (cond (is_lt r) b a)
    by Less e = ap is_gt e
    by Equal e = up_to_itself a
    by Greater e = up_to_itself a

second_up_to : (a b : PlainStatus) → IsUpTo b (greater_status a b)
second_up_to a b = by (status_cmp a b) refl
  where
    by : (r : Ordering) → status_cmp a b ≡ r → IsUpTo b (cond (is_lt r) b a)
    by Less e = up_to_itself b
    by Equal e = ap is_gt (status_cmp_total.antisymm b a ∙ ap ordering_reverse e)
    by Greater e = ap is_gt (status_cmp_total.antisymm b a ∙ ap ordering_reverse e)

one_of_two : (a b : PlainStatus) → (greater_status a b ≡ a) ⊎ (greater_status a b ≡ b)
one_of_two a b = by (status_cmp a b)
  where
    by : (r : Ordering) → (cond (is_lt r) b a ≡ a) ⊎ (cond (is_lt r) b a ≡ b)
    by Less = inr refl
    by Equal = inl refl
    by Greater = inl refl

-- the greatest is none below the others, and one of them
start_up_to : (xs : List PlainStatus) (s : PlainStatus) → IsUpTo s (greatest_status s xs)
start_up_to [] s = up_to_itself s
start_up_to (x ∷ xs) s = upto status_cmp_total s (greater_status s x) (greatest_status (greater_status s x) xs) (first_up_to s x) (start_up_to xs (greater_status s x))

each_up_to : (xs : List PlainStatus) (s : PlainStatus) → All (λ x. IsUpTo x (greatest_status s xs)) xs
each_up_to [] s = All-nil (λ x. IsUpTo x s)
each_up_to (x ∷ xs) s =
    let g : PlainStatus = greatest_status (greater_status s x) xs in
    All-cons (λ y. IsUpTo y g) x xs (upto status_cmp_total x (greater_status s x) g (second_up_to s x) (start_up_to xs (greater_status s x))) (each_up_to xs (greater_status s x))

contains_head : (x y : PlainStatus) (xs : List PlainStatus) → y ≡ x → Contains (x ∷ xs) y
contains_head x y xs e = (0, omega arith, sym e)

contains_tail : (x y : PlainStatus) (xs : List PlainStatus) → Contains xs y → Contains (x ∷ xs) y
contains_tail x y xs c = (suc c.0, omega (arith, c.1), c.2)

reached : (xs : List PlainStatus) (s : PlainStatus) → (greatest_status s xs ≡ s) ⊎ Contains xs (greatest_status s xs)
reached [] s = inl refl
reached (x ∷ xs) s =
    let g : PlainStatus = greatest_status (greater_status s x) xs in
    ⊎_elim
    (λ e. ⊎_elim (λ f. inl (e ∙ f)) (λ f. inr (contains_head x g xs (e ∙ f))) (one_of_two s x))
    (λ c. inr (contains_tail x g xs c))
    (reached xs (greater_status s x))

-- two that do not stand above each other are the same
same_from_up_to : (a b : PlainStatus) → IsUpTo a b → IsUpTo b a → a ≡ b
same_from_up_to a b h k = by (status_cmp a b) refl
  where
    by : (r : Ordering) → status_cmp a b ≡ r → a ≡ b
    by Less e = absurd (let f : is_gt (status_cmp b a) ≡ true = ap is_gt (status_cmp_total.antisymm b a ∙ ap ordering_reverse e) in cc)
    by Equal e = (same_status_decides a b).0 (status_ties a b ∙ ap is_eq e)
    by Greater e = absurd (let f : is_gt (status_cmp a b) ≡ true = ap is_gt e in cc)

greatest_up_to : (s : PlainStatus) (xs ys : List PlainStatus) → IsPermutation xs ys → IsUpTo (greatest_status s xs) (greatest_status s ys)
greatest_up_to s xs ys p =
    let P : PlainStatus → Type 0 = λ x. IsUpTo x (greatest_status s ys) in
    ⊎_elim
    (λ e. subst P (sym e) (start_up_to ys s))
    (λ c. All-contains P ys (greatest_status s xs) (each_up_to ys s) (Contains-permutation xs ys (greatest_status s xs) p c))
    (reached xs s)

pub greatest_in_any_order : (s : PlainStatus) (xs ys : List PlainStatus) → IsPermutation xs ys → greatest_status s xs ≡ greatest_status s ys
greatest_in_any_order s xs ys p = same_from_up_to (greatest_status s xs) (greatest_status s ys) (greatest_up_to s xs ys p) (greatest_up_to s ys xs (IsPermutation-sym xs ys p))
