-- Which sub-keys the members have that stay where the threshold is changed.
use Rattle.std.proofs.Common.{◌≡◌, not, ℕ, ◌<◌, List, [], ◌∷◌, ◌++◌, length, Some, None, Bool, true, false, cond, ltb, ◌&&◌, ⊎_elim, refl, sym, ap, ◌∙◌, arith}
use Rattle.std.specs.List.{after_first, before_first, filter, position_or_len}
use borrow.Author.Tests.{lt-ltb}
use Rattle.opentelemetry.specs.Same.{same_text, same_text_decides}
use Rattle.opentelemetry.specs.Tracestate.{is_some_text}
use Rattle.opentelemetry.proofs.Tracestates.{both_true}
use Rattle.otel_probability.specs.Entry.{has_sub_key, is_colon, rv, stays, sub_value, th}
use Rattle.otel_probability.proofs.Digits.{true_or_false}

turned : (b : Bool) → not b ≡ true → b ≡ false
turned true h = absurd cc
turned false h = refl

-- the member that a threshold makes has its sub-key, and the text after it
pub th_member : (text : List ℕ) → (has_sub_key th (th ++ 58 ∷ text) ≡ true) × (after_first is_colon (th ++ 58 ∷ text) ≡ text)
th_member text =
    let inside : 2 < length (th ++ 58 ∷ text) = omega arith in
    (ap (λ b. b && true) (lt-ltb 2 (length (th ++ 58 ∷ text)) inside), refl)

pub th_value : (text : List ℕ) (ms : List (List ℕ)) → sub_value th ((th ++ 58 ∷ text) ∷ ms) ≡ Some text
th_value text ms =
    ap (λ b. cond b (Some (after_first is_colon (th ++ 58 ∷ text))) (sub_value th ms)) (th_member text).0 ∙ ap Some (th_member text).1

-- and no other one
pub th_no_rv : (text : List ℕ) (ms : List (List ℕ)) → sub_value rv ((th ++ 58 ∷ text) ∷ ms) ≡ sub_value rv ms
th_no_rv text ms = ap (λ b. cond b (Some (after_first is_colon (th ++ 58 ∷ text))) (sub_value rv ms)) (never (ltb 2 (length (th ++ 58 ∷ text))))
  where
    never : (b : Bool) → (b && false) ≡ false
    never true = refl
    never false = refl

-- what stays has no threshold
stays_no_th : (m : List ℕ) → stays m ≡ true → has_sub_key th m ≡ false
stays_no_th m h = turned (has_sub_key th m) (both_true (is_some_text m) (not (has_sub_key th m)) h).1

-- a member with randomness stays
name_is : (name m : List ℕ) → has_sub_key name m ≡ true → before_first is_colon m ≡ name
name_is name m h = (same_text_decides (before_first is_colon m) name).0 (both_true (ltb (position_or_len is_colon m) (length m)) (same_text (before_first is_colon m) name) h).1

other_name : (m : List ℕ) → before_first is_colon m ≡ rv → has_sub_key th m ≡ false
other_name m is =
    ap (λ t. ltb (position_or_len is_colon m) (length m) && same_text t th) is ∙ never (ltb (position_or_len is_colon m) (length m))
  where
    never : (b : Bool) → (b && false) ≡ false
    never true = refl
    never false = refl

rv_some : (m : List ℕ) → has_sub_key rv m ≡ true → is_some_text m ≡ true
rv_some [] h = absurd cc
rv_some (b ∷ m) h = refl

pub rv_stays : (m : List ℕ) → has_sub_key rv m ≡ true → stays m ≡ true
rv_stays m h =
    ap (λ s. s && not (has_sub_key th m)) (rv_some m h) ∙ ap not (other_name m (name_is rv m h))

-- no threshold is among the members that stay
kept_no_th : (b : Bool) (m : List ℕ) (ms : List (List ℕ)) → stays m ≡ b → sub_value th ms ≡ None → sub_value th (cond b (m ∷ ms) ms) ≡ None
kept_no_th true m ms is rest = ap (λ h. cond h (Some (after_first is_colon m)) (sub_value th ms)) (stays_no_th m is) ∙ rest
kept_no_th false m ms is rest = rest

pub others_no_th : (ms : List (List ℕ)) → sub_value th (filter stays ms) ≡ None
others_no_th [] = refl
others_no_th (m ∷ ms) = kept_no_th (stays m) m (filter stays ms) refl (others_no_th ms)

-- the randomness among them is that among all
kept_rv : (b : Bool) (m : List ℕ) (ms ns : List (List ℕ)) → stays m ≡ b → sub_value rv ns ≡ sub_value rv ms → sub_value rv (cond b (m ∷ ns) ns) ≡ sub_value rv (m ∷ ms)
kept_rv true m ms ns is rest = ap (λ v. cond (has_sub_key rv m) (Some (after_first is_colon m)) v) rest
kept_rv false m ms ns is rest =
    ⊎_elim
    (λ has. absurd (cc (sym is ∙ rv_stays m has)))
    (λ has_not. rest ∙ sym (ap (λ h. cond h (Some (after_first is_colon m)) (sub_value rv ms)) has_not))
    (true_or_false (has_sub_key rv m))

pub others_rv : (ms : List (List ℕ)) → sub_value rv (filter stays ms) ≡ sub_value rv ms
others_rv [] = refl
others_rv (m ∷ ms) = kept_rv (stays m) m ms (filter stays ms) refl (others_rv ms)

-- what stays once stays
kept_stays : (b : Bool) (m : List ℕ) (ms : List (List ℕ)) → stays m ≡ b → filter stays ms ≡ ms → filter stays (cond b (m ∷ ms) ms) ≡ cond b (m ∷ ms) ms
kept_stays true m ms is rest = ap (λ s. cond s (m ∷ filter stays ms) (filter stays ms)) is ∙ ap (λ l. m ∷ l) rest
kept_stays false m ms is rest = rest

pub others_stay : (ms : List (List ℕ)) → filter stays (filter stays ms) ≡ filter stays ms
others_stay [] = refl
others_stay (m ∷ ms) = kept_stays (stays m) m (filter stays ms) refl (others_stay ms)
