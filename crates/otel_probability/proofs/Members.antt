-- A walk over the members of an entry: what it has found, and what it has put after a text.
use Rattle.std.proofs.Common.{◌≡◌, ◌≢◌, ℕ, ◌+◌, ◌<◌, List, [], ◌∷◌, ◌++◌, length, drop, get_or, Option, Some, None, Bool, true, false, cond, refl, sym, ap, ◌∙◌, arith, append_assoc}
use Rattle.std.proofs.lemmas.List.{at_drop_more, at_drop_all}
use Rattle.std.specs.List.{after_first, filter, join_with_byte}
use Rattle.otel_probability.specs.Entry.{has_sub_key, is_colon, stays, sub_value}
use Rattle.otel_probability.specs.Joining.{with_member, with_members}

-- ---- reading

found_here : (b : Bool) (v w : List ℕ) (rest : Option (List ℕ)) → Some v ≡ cond b (Some w) None → Some v ≡ cond b (Some w) rest
found_here true v w rest h = h
found_here false v w rest h = absurd cc

found_later : (b : Bool) (w : List ℕ) (rest : Option (List ℕ)) → None ≡ cond b (Some w) None → cond b (Some w) rest ≡ rest
found_later true w rest h = absurd cc
found_later false w rest h = refl

sub_value_next : (name : List ℕ) (ms : List (List ℕ)) (n : ℕ) (m : List ℕ) → (n < length ms) × (m ≡ get_or ms n m)
    → sub_value name (drop n ms) ≡ cond (has_sub_key name m) (Some (after_first is_colon m)) (sub_value name (drop (n + 1) ms))
sub_value_next name ms n m h =
    at_drop_more (sub_value name) ms n m h.0
    ∙ ap (λ x. cond (has_sub_key name x) (Some (after_first is_colon x)) (sub_value name (drop (n + 1) ms))) (sym h.1)

-- the member of this turn has the sub-key
pub value_here : (name : List ℕ) (ms : List (List ℕ)) (n : ℕ) (m v : List ℕ) → (n < length ms) × (m ≡ get_or ms n m)
    → sub_value name (drop n ms) ≡ sub_value name ms → Some v ≡ cond (has_sub_key name m) (Some (after_first is_colon m)) None → Some v ≡ sub_value name ms
value_here name ms n m v turn so_far found =
    found_here (has_sub_key name m) v (after_first is_colon m) (sub_value name (drop (n + 1) ms)) found ∙ sym (sub_value_next name ms n m turn) ∙ so_far

-- it does not
pub value_later : (name : List ℕ) (ms : List (List ℕ)) (n k : ℕ) (m : List ℕ) → (n < length ms) × (m ≡ get_or ms n m) → k ≡ n + 1
    → sub_value name (drop n ms) ≡ sub_value name ms → None ≡ cond (has_sub_key name m) (Some (after_first is_colon m)) None
    → sub_value name (drop k ms) ≡ sub_value name ms
value_later name ms n k m turn next so_far missing =
    ap (λ i. sub_value name (drop i ms)) next
    ∙ sym (found_later (has_sub_key name m) (after_first is_colon m) (sub_value name (drop (n + 1) ms)) missing)
    ∙ sym (sub_value_next name ms n m turn) ∙ so_far

-- no member has it
pub value_nowhere : (name : List ℕ) (ms : List (List ℕ)) (n : ℕ) → length ms ≡ n → sub_value name (drop n ms) ≡ sub_value name ms → None ≡ sub_value name ms
value_nowhere name ms n all so_far = sym (at_drop_all (sub_value name) ms n (omega arith)) ∙ so_far

-- ---- writing

others_next : (ms : List (List ℕ)) (n : ℕ) (m : List ℕ) → (n < length ms) × (m ≡ get_or ms n m)
    → filter stays (drop n ms) ≡ cond (stays m) (m ∷ filter stays (drop (n + 1) ms)) (filter stays (drop (n + 1) ms))
others_next ms n m h =
    at_drop_more (filter stays) ms n m h.0
    ∙ ap (λ x. cond (stays x) (x ∷ filter stays (drop (n + 1) ms)) (filter stays (drop (n + 1) ms))) (sym h.1)

-- the member of this turn stays
pub member_put : (ms : List (List ℕ)) (n k : ℕ) (m text new first : List ℕ) → (n < length ms) × (m ≡ get_or ms n m) → k ≡ n + 1
    → stays m ≡ true → new ≡ with_member text m
    → with_members text (filter stays (drop n ms)) ≡ with_members first (filter stays ms)
    → with_members new (filter stays (drop k ms)) ≡ with_members first (filter stays ms)
member_put ms n k m text new first turn next stayed put so_far =
    let here = others_next ms n m turn ∙ ap (λ b. cond b (m ∷ filter stays (drop (n + 1) ms)) (filter stays (drop (n + 1) ms))) stayed in
    ap (λ t. with_members t (filter stays (drop k ms))) put
    ∙ ap (λ i. with_members (with_member text m) (filter stays (drop i ms))) next
    ∙ sym (ap (with_members text) here) ∙ so_far

-- it does not
pub member_left : (ms : List (List ℕ)) (n k : ℕ) (m text first : List ℕ) → (n < length ms) × (m ≡ get_or ms n m) → k ≡ n + 1
    → stays m ≡ false
    → with_members text (filter stays (drop n ms)) ≡ with_members first (filter stays ms)
    → with_members text (filter stays (drop k ms)) ≡ with_members first (filter stays ms)
member_left ms n k m text first turn next went so_far =
    let here = others_next ms n m turn ∙ ap (λ b. cond b (m ∷ filter stays (drop (n + 1) ms)) (filter stays (drop (n + 1) ms))) went in
    ap (λ i. with_members text (filter stays (drop i ms))) next ∙ sym (ap (with_members text) here) ∙ so_far

-- all members were seen
pub members_put : (ms : List (List ℕ)) (n : ℕ) (text first : List ℕ) → length ms ≡ n
    → with_members text (filter stays (drop n ms)) ≡ with_members first (filter stays ms) → text ≡ with_members first (filter stays ms)
members_put ms n text first all so_far = sym (ap (with_members text) (at_drop_all (filter stays) ms n (omega arith))) ∙ so_far

-- ---- what was put is joined

-- each of these texts has a byte
abbrev pub AreSome : List (List ℕ) → Type 0
AreSome [] = Unit {0}
AreSome (m ∷ ms) = (m ≢ []) × AreSome ms

some_not_nil : (m : List ℕ) → stays m ≡ true → m ≢ []
some_not_nil [] h = absurd cc
some_not_nil (b ∷ m) h = λ e. absurd cc

some_more : (b : Bool) (m : List ℕ) (ms : List (List ℕ)) → stays m ≡ b → AreSome ms → AreSome (cond b (m ∷ ms) ms)
some_more true m ms e some = (some_not_nil m e, some)
some_more false m ms e some = some

pub others_some : (ms : List (List ℕ)) → AreSome (filter stays ms)
others_some [] = tt
others_some (m ∷ ms) = some_more (stays m) m (filter stays ms) refl (others_some ms)

with_member_after : (text m : List ℕ) → text ≢ [] → with_member text m ≡ text ++ 59 ∷ m
with_member_after [] m h = absurd (h refl)
with_member_after (b ∷ text) m h = refl

after_not_nil : (text m : List ℕ) → text ≢ [] → text ++ 59 ∷ m ≢ []
after_not_nil [] m h = absurd (h refl)
after_not_nil (b ∷ text) m h = λ e. absurd cc

-- two texts in front are one
join_two : (text m : List ℕ) (ms : List (List ℕ)) → join_with_byte 59 (text ∷ m ∷ ms) ≡ join_with_byte 59 ((text ++ 59 ∷ m) ∷ ms)
join_two text m [] = refl
join_two text m (x ∷ ms) = sym (append_assoc text (59 ∷ m) (59 ∷ join_with_byte 59 (x ∷ ms)))

pub joined_after : (text : List ℕ) (ms : List (List ℕ)) → text ≢ [] → with_members text ms ≡ join_with_byte 59 (text ∷ ms)
joined_after text [] some = refl
joined_after text (m ∷ ms) some =
    ap (λ t. with_members t ms) (with_member_after text m some)
    ∙ joined_after (text ++ 59 ∷ m) ms (after_not_nil text m some) ∙ sym (join_two text m ms)

pub joined_alone : (ms : List (List ℕ)) → AreSome ms → with_members [] ms ≡ join_with_byte 59 ms
joined_alone [] some = refl
joined_alone (m ∷ ms) some = joined_after m ms some.0
