-- Trace states whose threshold is changed: what is read of them then.
use Rattle.std.proofs.Common.{◌≡◌, ℕ, ◌<◌, ◌^◌, not, List, [], ◌∷◌, ◌++◌, Option, Some, None, Bool, true, false, cond, ltb, ◌&&◌, refl, sym, ap, ◌∙◌, arith}
use Rattle.std.specs.List.{filter, join_with_byte}
use Rattle.std.specs.Option.{option_map_or}
use borrow.Author.Tests.{lt-ltb}
use Rattle.opentelemetry.specs.Same.{same_text}
use Rattle.opentelemetry.specs.Tracestate.{is_some_text, is_value, value_of_key, without_key}
use Rattle.otel_probability.specs.Entry.{Pairs, entry_members, entry_of, entry_text, entry_with, ot, other_members, randomness_in, rv, rv_text, stays, sub_value, th, th_text, then_read, threshold_in, with_entry, with_threshold, without_threshold}
use Rattle.otel_probability.specs.Hops.{OthersFit}
use Rattle.otel_probability.specs.Numbers.{every_number, randomness_of_id, randomness_of_text, threshold_of_text, threshold_text}
use Rattle.otel_probability.proofs.Digits.{threshold_reads_back}
use Rattle.otel_probability.proofs.Splits.{AreClean, IsClean, clean_short, filter_clean, joined_members, members_clean}
use Rattle.otel_probability.proofs.SubKeys.{others_no_th, others_rv, others_stay, th_member, th_no_rv, th_value}

-- ---- the entry of a state

no_value : (b : Bool) (key : List ℕ) (pair : List ℕ × List ℕ) (rest : Pairs) → same_text pair.0 key ≡ b → value_of_key key rest ≡ None
    → value_of_key key (cond (not b) (pair ∷ rest) rest) ≡ None
no_value true key pair rest is none = none
no_value false key pair rest is none = ap (λ b. cond b (Some pair.1) (value_of_key key rest)) is ∙ none

value_without : (key : List ℕ) (state : Pairs) → value_of_key key (without_key key state) ≡ None
value_without key [] = refl
value_without key (pair ∷ state) = no_value (same_text pair.0 key) key pair (without_key key state) refl (value_without key state)

entry_without : (state : Pairs) → entry_of (without_key ot state) ≡ []
entry_without state = ap (λ o. option_map_or (λ entry. entry) o []) (value_without ot state)

-- ---- members that are joined and cut

others_clean : (entry : List ℕ) → AreClean (other_members entry)
others_clean entry = filter_clean (entry_members entry) (members_clean entry)

cut_th : (ms : List (List ℕ)) → AreClean ms → sub_value th (entry_members (join_with_byte 59 ms)) ≡ sub_value th ms
cut_th [] clean = refl
cut_th (m ∷ ms) clean = ap (sub_value th) (joined_members m ms clean.0 clean.1)

cut_rv : (ms : List (List ℕ)) → AreClean ms → sub_value rv (entry_members (join_with_byte 59 ms)) ≡ sub_value rv ms
cut_rv [] clean = refl
cut_rv (m ∷ ms) clean = ap (sub_value rv) (joined_members m ms clean.0 clean.1)

cut_stays : (ms : List (List ℕ)) → AreClean ms → filter stays ms ≡ ms → filter stays (entry_members (join_with_byte 59 ms)) ≡ ms
cut_stays [] clean stay = refl
cut_stays (m ∷ ms) clean stay = ap (filter stays) (joined_members m ms clean.0 clean.1) ∙ stay

others_th : (entry : List ℕ) → sub_value th (entry_members (entry_text (other_members entry))) ≡ None
others_th entry = cut_th (other_members entry) (others_clean entry) ∙ others_no_th (entry_members entry)

others_random : (entry : List ℕ) → sub_value rv (entry_members (entry_text (other_members entry))) ≡ sub_value rv (entry_members entry)
others_random entry = cut_rv (other_members entry) (others_clean entry) ∙ others_rv (entry_members entry)

others_again : (entry : List ℕ) → other_members (entry_text (other_members entry)) ≡ other_members entry
others_again entry = cut_stays (other_members entry) (others_clean entry) (others_stay (entry_members entry))

-- ---- an entry with a threshold

th_clean : (threshold : ℕ) → IsClean (th ++ 58 ∷ threshold_text threshold)
th_clean threshold = (refl, (refl, (refl, clean_short 14 threshold)))

marked_members : (threshold : ℕ) (entry : List ℕ) → entry_members (entry_with threshold entry) ≡ (th ++ 58 ∷ threshold_text threshold) ∷ other_members entry
marked_members threshold entry = joined_members (th ++ 58 ∷ threshold_text threshold) (other_members entry) (th_clean threshold) (others_clean entry)

th_goes : (text : List ℕ) (ms : List (List ℕ)) → filter stays ((th ++ 58 ∷ text) ∷ ms) ≡ filter stays ms
th_goes text ms = ap (λ b. cond (not b) ((th ++ 58 ∷ text) ∷ filter stays ms) (filter stays ms)) (th_member text).0

marked_others : (threshold : ℕ) (entry : List ℕ) → other_members (entry_with threshold entry) ≡ other_members entry
marked_others threshold entry =
    ap (filter stays) (marked_members threshold entry) ∙ th_goes (threshold_text threshold) (other_members entry) ∙ others_stay (entry_members entry)

marked_random : (threshold : ℕ) (entry : List ℕ) → sub_value rv (entry_members (entry_with threshold entry)) ≡ sub_value rv (entry_members entry)
marked_random threshold entry =
    ap (sub_value rv) (marked_members threshold entry) ∙ th_no_rv (threshold_text threshold) (other_members entry) ∙ others_rv (entry_members entry)

marked_threshold : (threshold : ℕ) (entry : List ℕ) → threshold < 16 ^ 14 → then_read (sub_value th (entry_members (entry_with threshold entry))) threshold_of_text ≡ Some threshold
marked_threshold threshold entry small =
    ap (λ ms. then_read (sub_value th ms) threshold_of_text) (marked_members threshold entry)
    ∙ ap (λ o. then_read o threshold_of_text) (th_value (threshold_text threshold) (other_members entry))
    ∙ threshold_reads_back threshold small

-- ---- states without a threshold

-- a property of a state whose entry is changed, from those of its two forms
with_entry_by : (P : Pairs → Type 0) (b : Bool) (entry : List ℕ) (state : Pairs) → (b ≡ true → P ((ot, entry) ∷ without_key ot state))
    → (b ≡ false → P (without_key ot state)) → P (cond b ((ot, entry) ∷ without_key ot state) (without_key ot state))
with_entry_by P true entry state this other = this refl
with_entry_by P false entry state this other = other refl

-- a property of a state without its threshold, from those of its three forms
without_by : (P : Pairs → Type 0) (o : Option (List ℕ)) (entry : List ℕ) (state : Pairs) → (o ≡ None → P state)
    → ((is_some_text entry && is_value entry) ≡ true → P ((ot, entry) ∷ without_key ot state))
    → ((is_some_text entry && is_value entry) ≡ false → P (without_key ot state))
    → P (option_map_or (λ text. with_entry entry state) o state)
without_by P None entry state same front none = same refl
without_by P (Some text) entry state same front none = with_entry_by P (is_some_text entry && is_value entry) entry state front none

pub erased : (state : Pairs) → threshold_in (without_threshold state) ≡ None
erased state =
    without_by (λ s. threshold_in s ≡ None) (th_text state) (entry_text (other_members (entry_of state))) state
    (λ none. ap (λ o. then_read o threshold_of_text) none)
    (λ _. ap (λ o. then_read o threshold_of_text) (others_th (entry_of state)))
    (λ _. ap (λ e. then_read (sub_value th (entry_members e)) threshold_of_text) (entry_without state))

no_text : (entry : List ℕ) → (is_some_text entry && is_value entry) ≡ false → is_value entry ≡ true → entry ≡ []
no_text [] none fits = refl
no_text (b ∷ entry) none fits = absurd (cc (sym none ∙ fits))

pub random_without : (state : Pairs) → OthersFit state → rv_text (without_threshold state) ≡ rv_text state
random_without state fits =
    without_by (λ s. rv_text s ≡ rv_text state) (th_text state) (entry_text (other_members (entry_of state))) state
    (λ _. refl)
    (λ _. others_random (entry_of state))
    (λ none.
    ap (λ e. sub_value rv (entry_members e)) (entry_without state)
    ∙ sym (ap (λ e. sub_value rv (entry_members e)) (no_text (entry_text (other_members (entry_of state))) none fits))
    ∙ others_random (entry_of state))

pub fits_without : (state : Pairs) → OthersFit state → OthersFit (without_threshold state)
fits_without state fits =
    without_by OthersFit (th_text state) (entry_text (other_members (entry_of state))) state
    (λ _. fits)
    (λ _. ap (λ ms. is_value (entry_text ms)) (others_again (entry_of state)) ∙ fits)
    (λ _. ap (λ e. is_value (entry_text (other_members e))) (entry_without state))

-- ---- states with a threshold

marked_by : (P : Pairs → Type 0) (b : Bool) (front other : Pairs) → (b ≡ true → P front) → (b ≡ false → P other) → P (cond b front other)
marked_by P true front other this that = this refl
marked_by P false front other this that = that refl

pub with_by : (P : Pairs → Type 0) (threshold : ℕ) (state : Pairs)
    → ((ltb threshold every_number && is_value (entry_with threshold (entry_of state))) ≡ true → P ((ot, entry_with threshold (entry_of state)) ∷ without_key ot state))
    → ((ltb threshold every_number && is_value (entry_with threshold (entry_of state))) ≡ false → P (without_threshold state))
    → P (with_threshold threshold state)
with_by P threshold state this that =
    marked_by P (ltb threshold every_number && is_value (entry_with threshold (entry_of state)))
    ((ot, entry_with threshold (entry_of state)) ∷ without_key ot state) (without_threshold state) this that

pub random_with : (threshold : ℕ) (state : Pairs) → OthersFit state → rv_text (with_threshold threshold state) ≡ rv_text state
random_with threshold state fits =
    with_by (λ s. rv_text s ≡ rv_text state) threshold state (λ _. marked_random threshold (entry_of state)) (λ _. random_without state fits)

pub fits_with : (threshold : ℕ) (state : Pairs) → OthersFit state → OthersFit (with_threshold threshold state)
fits_with threshold state fits =
    with_by OthersFit threshold state (λ _. ap (λ ms. is_value (entry_text ms)) (marked_others threshold (entry_of state)) ∙ fits) (λ _. fits_without state fits)

pub handed_on : (threshold : ℕ) (state : Pairs) → threshold < every_number → is_value (entry_with threshold (entry_of state)) ≡ true
    → threshold_in (with_threshold threshold state) ≡ Some threshold
handed_on threshold state small fits =
    let marks : (ltb threshold every_number && is_value (entry_with threshold (entry_of state))) ≡ true =
    ap (λ b. b && is_value (entry_with threshold (entry_of state))) (lt-ltb threshold every_number small) ∙ fits in
    with_by (λ s. threshold_in s ≡ Some threshold) threshold state
    (λ _. marked_threshold threshold (entry_of state) (omega arith))
    (λ none. absurd (cc (sym marks ∙ none)))

-- the randomness goes by the text of `rv` and the trace id
pub same_randomness : (one other : Pairs) (trace_id : ℕ) → rv_text one ≡ rv_text other → randomness_in one trace_id ≡ randomness_in other trace_id
same_randomness one other trace_id same =
    ap (λ o. option_map_or (λ randomness. randomness) (then_read o randomness_of_text) (randomness_of_id trace_id)) same
