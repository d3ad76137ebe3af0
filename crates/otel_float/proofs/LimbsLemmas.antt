-- Limbs under a multiplication.
use Rattle.std.proofs.Common.{◌≡◌, ℕ, zero, suc, ◌+◌, ◌-◌, ◌*◌, ◌^◌, ◌<◌, ◌≤◌, List, [], ◌∷◌, ◌++◌, length, get_or, take, drop, set, refl, sym, ap, ◌∙◌, subst, arith, pow-add, mul-le-mul_right, mul-le-mul_left, length-take, length-append, inl, inr, take_at}
use Rattle.std.proofs.lemmas.Bool.{cases_eq, cases_lt}
use Rattle.std.proofs.lemmas.List.{take_more, take_more_set, length-take-le, get_or-set_same, get_or-set_other, get_or-take, get_or_past, get_or_append_left, get_or-append_right, get_or-drop, take_all}
use Rattle.std.specs.Prelude.{slice_index}
use Rattle.otel_float.specs.Limbs.{limbs_value, value_of, AreLimbs, AreInUse}

next_power : (n : ℕ) → 10 ^ (9 * (n + 1)) ≡ 10 ^ 9 * 10 ^ (9 * n)
next_power n = let e : 9 * (n + 1) ≡ 9 + 9 * n = omega arith in rw (e, pow-add 10 9 (9 * n)) refl

pub limbs_value-append : (xs ys : List ℕ) → limbs_value (xs ++ ys) ≡ limbs_value xs + 10 ^ (9 * length xs) * limbs_value ys
limbs_value-append [] ys = omega arith
limbs_value-append (x ∷ xs) ys =
    let n = length xs in
    let e : suc n ≡ n + 1 = omega arith in
    rw (e, next_power n, limbs_value-append xs ys) (omega arith)

pub limbs_value-push : (xs : List ℕ) (x : ℕ) → limbs_value (xs ++ x ∷ []) ≡ limbs_value xs + 10 ^ (9 * length xs) * x
limbs_value-push xs x = limbs_value-append xs (x ∷ []) ∙ ap (λ y. limbs_value xs + 10 ^ (9 * length xs) * y) {x = x + 10 ^ 9 * 0} {y = x} (omega arith)

-- the number in one limb more
pub one_more : (xs : List ℕ) (i : ℕ) → i < length xs → limbs_value (take (i + 1) xs) ≡ limbs_value (take i xs) + 10 ^ (9 * i) * get_or xs i 0
one_more xs i h =
    ap limbs_value (take_more xs i 0 h) ∙ limbs_value-push (take i xs) _
    ∙ ap (λ n. limbs_value (take i xs) + 10 ^ (9 * n) * get_or xs i 0) (length-take-le i xs (omega arith))

pub one_more_set : (xs : List ℕ) (i x : ℕ) → i < length xs → limbs_value (take (i + 1) (set xs i x)) ≡ limbs_value (take i xs) + 10 ^ (9 * i) * x
one_more_set xs i x h =
    ap limbs_value (take_more_set xs i x h) ∙ limbs_value-push (take i xs) x
    ∙ ap (λ n. limbs_value (take i xs) + 10 ^ (9 * n) * x) (length-take-le i xs (omega arith))

-- one limb more is multiplied
pub multiplied : (old new : List ℕ) (i x f carry low high : ℕ) → i < length old → i < length new → x ≡ get_or old i 0 → low + 10 ^ 9 * high ≡ x * f + carry
    → limbs_value (take i new) + 10 ^ (9 * i) * carry ≡ limbs_value (take i old) * f
    → limbs_value (take (i + 1) (set new i low)) + 10 ^ (9 * (i + 1)) * high ≡ limbs_value (take (i + 1) old) * f
multiplied old new i x f carry low high l m e split before =
    let p = 10 ^ (9 * i) in
    let cut : p * (low + 10 ^ 9 * high) ≡ p * (x * f + carry) = ap (λ y. p * y) split in
    rw (one_more_set new i low m, one_more old i l, next_power i, ← e) (omega (arith, cut, before))

pub product_small : (x f carry : ℕ) → x < 10 ^ 9 → f ≤ 10 ^ 9 → carry < 10 ^ 9 → x * f + carry < 10 ^ 18
product_small x f carry a b c =
    let least : x ≤ 10 ^ 9 - 1 = omega arith in
    omega (arith, mul-le-mul_right f least)

-- ---- each limb has nine digits
pub AreLimbs-set : (xs : List ℕ) (i x : ℕ) → i < length xs → AreLimbs xs → x < 10 ^ 9 → AreLimbs (set xs i x)
AreLimbs-set xs i x within h small k =
    elim (cases_eq k i) [
      | inl e ↦ subst (λ (n : ℕ). n < 10 ^ 9) (sym (ap (λ j. get_or (set xs i x) j 0) e ∙ get_or-set_same xs i x 0 within)) small
      | inr ne ↦ subst (λ (n : ℕ). n < 10 ^ 9) (sym (get_or-set_other xs i k x 0 ne)) (h k)
    ]

pub value_below : (xs : List ℕ) → AreLimbs xs → limbs_value xs < 10 ^ (9 * length xs)
value_below [] h = omega arith
value_below (x ∷ xs) h =
    let n = length xs in
    let rest = value_below xs (λ k. h (suc k)) in
    let e : suc n ≡ n + 1 = omega arith in
    rw (e, next_power n) (omega (arith, rest, h 0))

AreLimbs-take : (xs : List ℕ) (i : ℕ) → AreLimbs xs → AreLimbs (take i xs)
AreLimbs-take xs i h k =
    elim (cases_lt k i) [
      | inl l ↦ subst (λ (n : ℕ). n < 10 ^ 9) (sym (get_or-take i xs k 0 l)) (h k)
      | inr g ↦ subst (λ (n : ℕ). n < 10 ^ 9) (sym (get_or_past (take i xs) k 0 (omega (arith, length-take i xs)))) (omega arith)
    ]

pub front_below : (xs : List ℕ) (i : ℕ) → AreLimbs xs → i ≤ length xs → limbs_value (take i xs) < 10 ^ (9 * i)
front_below xs i h within = subst (λ (n : ℕ). limbs_value (take i xs) < 10 ^ (9 * n)) (length-take-le i xs within) (value_below (take i xs) (AreLimbs-take xs i h))

pub AreLimbs-drop : (xs : List ℕ) (i : ℕ) → AreLimbs xs → AreLimbs (drop i xs)
AreLimbs-drop xs i h k = subst (λ (n : ℕ). n < 10 ^ 9) (sym (get_or-drop i xs k 0)) (h (i + k))

pub AreLimbs-append : (xs ys : List ℕ) → AreLimbs xs → AreLimbs ys → AreLimbs (xs ++ ys)
AreLimbs-append xs ys g h k =
    elim (cases_lt k (length xs)) [
      | inl l ↦ subst (λ (n : ℕ). n < 10 ^ 9) (sym (get_or_append_left xs ys 0 k l)) (g k)
      | inr m ↦ subst (λ (n : ℕ). n < 10 ^ 9) (sym (get_or-append_right xs ys (length xs) k 0 refl m)) (h (k - length xs))
    ]

-- ---- the limbs in use, multiplied
module _ (old xs ys : List ℕ) (len f carry : ℕ) (in_use : AreInUse old len) (limbs : AreLimbs xs) (long : length xs ≡ length (take len old)) (some : 0 < f)
    (value : limbs_value xs + 10 ^ (9 * length (take len old)) * carry ≡ limbs_value (take len old) * f) where
  taken : length (take len old) ≡ len
  taken = length-take-le len old in_use.room

  front : take len (xs ++ ys) ≡ xs
  front = take_at xs ys len (long ∙ taken)

  pub room_left : len ≤ length (xs ++ ys)
  room_left = omega (arith, length-append xs ys, long, taken)

  kept : carry ≡ 0 → limbs_value xs ≡ limbs_value (take len old) * f
  kept none = omega (arith, value, ap (λ x. 10 ^ (9 * length (take len old)) * x) none)

  pub kept_value : carry ≡ 0 → value_of (xs ++ ys) len ≡ value_of old len * f
  unfolding value_of
  kept_value none = rw front (kept none)

  pub pushed_value : len < length (xs ++ ys) → value_of (set (xs ++ ys) len carry) (len + 1) ≡ value_of old len * f
  unfolding value_of
  pushed_value room =
      one_more_set (xs ++ ys) len carry room
      ∙ ap (λ zs. limbs_value zs + 10 ^ (9 * len) * carry) front
      ∙ ap (λ n. limbs_value xs + 10 ^ (9 * n) * carry) (sym taken)
      ∙ value

  last : len - 1 + 1 ≡ len
  last = omega (arith, in_use.some)

  -- what is there is no less than its last limb, which is not 0
  least : 10 ^ (9 * (len - 1)) ≤ limbs_value (take len old)
  least =
      let p = 10 ^ (9 * (len - 1)) in
      let more = one_more old (len - 1) (omega (arith, in_use.room, in_use.some)) in
      let one : 1 ≤ get_or old (len - 1) 0 = omega (arith, in_use.top) in
      let same = ap (λ n. limbs_value (take n old)) last in
      omega (arith, more, same, mul-le-mul_left p one)

  top_of : (t : ℕ) → limbs_value (take (len - 1) xs) + 10 ^ (9 * (len - 1)) * t ≡ limbs_value xs → 10 ^ (9 * (len - 1)) ≤ limbs_value xs → 0 < t
  top_of zero e h = absurd (omega (arith, e, h, front_below xs (len - 1) limbs (omega (arith, long, taken))))
  top_of (suc t) e h = omega arith

  pub kept_top : carry ≡ 0 → 0 < slice_index (xs ++ ys) (len - 1)
  kept_top none =
      let within : len - 1 < length xs = omega (arith, long, taken, in_use.some) in
      let factor : 1 ≤ f = omega arith in
      let grows : limbs_value (take len old) * 1 ≤ limbs_value (take len old) * f = mul-le-mul_left (limbs_value (take len old)) factor in
      let all : take (len - 1 + 1) xs ≡ xs = take_all (len - 1 + 1) xs (omega (arith, long, taken, last)) in
      let more = sym (one_more xs (len - 1) within) ∙ ap limbs_value all in
      subst (λ (n : ℕ). 0 < n) (sym (get_or_append_left xs ys 0 (len - 1) within)) (top_of (get_or xs (len - 1) 0) more (omega (arith, kept none, grows, least)))

-- ---- the three limbs at the top
pub three_more : (xs : List ℕ) (j a b t : ℕ) → j + 2 < length xs → b ≡ get_or xs j 0 → a ≡ get_or xs (j + 1) 0 → t ≡ get_or xs (j + 2) 0
    → limbs_value (take (j + 3) xs) ≡ limbs_value (take j xs) + 10 ^ (9 * j) * (a * 10 ^ 9 + b + 10 ^ 18 * t)
three_more xs j a b t within eb ea et =
    let p = 10 ^ (9 * j) in
    let e2 : j + 1 + 1 ≡ j + 2 = omega arith in
    let e3 : j + 2 + 1 ≡ j + 3 = omega arith in
    let first = one_more xs j (omega arith) in
    let second = ap (λ n. limbs_value (take n xs)) (sym e2) ∙ one_more xs (j + 1) (omega arith) in
    let third = ap (λ n. limbs_value (take n xs)) (sym e3) ∙ one_more xs (j + 2) (omega arith) in
    let p1 : 10 ^ (9 * (j + 1)) ≡ 10 ^ 9 * p = next_power j in
    let p2 : 10 ^ (9 * (j + 2)) ≡ 10 ^ 18 * p = ap (λ n. 10 ^ (9 * n)) (sym e2) ∙ next_power (j + 1) ∙ omega (arith, p1) in
    third
    ∙ ap (λ x. x + 10 ^ (9 * (j + 2)) * get_or xs (j + 2) 0) second
    ∙ ap (λ x. x + 10 ^ (9 * (j + 1)) * get_or xs (j + 1) 0 + 10 ^ (9 * (j + 2)) * get_or xs (j + 2) 0) first
    ∙ rw (p1, p2, ← eb, ← ea, ← et) (omega arith)

-- ---- nothing but zeros
pub value_zero : (xs : List ℕ) → ((k : ℕ) → k < length xs → get_or xs k 0 ≡ 0) → limbs_value xs ≡ 0
value_zero [] h = refl
value_zero (x ∷ xs) h = omega (arith, h 0 (omega arith), value_zero xs (λ k l. h (suc k) (omega arith)))

pub value_some : (xs : List ℕ) (k : ℕ) → 0 < get_or xs k 0 → 0 < limbs_value xs
value_some [] k h = absurd (omega arith)
value_some (x ∷ xs) zero h = omega arith
value_some (x ∷ xs) (suc k) h = omega (arith, value_some xs k h)
