-- Groups of places by trace: with one span more, and what they are in the end.
use Rattle.std.proofs.Common.{◌≡◌, ◌≢◌, ◌<◌, ◌≤◌, inl, inr, ℕ, zero, suc, Bool, true, false, List, [], ◌∷◌, ◌++◌}
use Rattle.std.proofs.Common.{◌+◌, ◌==◌, ◌||◌, ◌∙◌, All, ap, arith, get_or, if◌then◌else◌, length, length-append}
use Rattle.std.proofs.Common.{map, nat_eq, refl, set, subst, sym, take}
use Rattle.std.specs.List.{fold, list_any, position_or_len}
use Rattle.std.proofs.lemmas.Bool.{cases_eq, cases_lt, eq-eqb, eqb-true, false≢true, ne_eqb}
use Rattle.std.proofs.lemmas.List.{get_or_append_left, get_or-set_same, get_or-set_other, length-set, map-append, take_more}
use Rattle.std.proofs.Math.Seq.{get_or-append_seam}
use Rattle.std.proofs.lemmas.List.Elements.{All-append, All-cons, All-from_get_or, All-nil, All-weaker}
use Rattle.std.proofs.lemmas.List.Folds.{list_any-append, list_any_at, list_any_none}
use Rattle.std.proofs.lemmas.List.Sums.{fold-append, position_or_len_is}
use Rattle.indexmap.specs.IndexSet.{insert_key}
use Rattle.otel_shown.specs.Shown.{PlainShownSpan}
use Rattle.otel_picture.specs.Families.{is_of, places_below, trace_ids}
use Rattle.otel_picture.specs.Groups.{AreGroups, IsAdded, IsGroup}
use Rattle.otel_picture.specs.declared.families.Group.{Group}
use Rattle.otel_picture.proofs.Places.{of_at, place_more, place_stays}

-- the places below a count are below it
one_below : (held : Bool) (count : ℕ) → All (λ place. place < suc count) (if held then count ∷ [] else [])
one_below true count =
    All-cons (λ (place : ℕ). place < suc count) count [] (omega arith) (All-nil (λ (place : ℕ). place < suc count))
one_below false count = All-nil (λ (place : ℕ). place < suc count)

pub are_below : (passes : ℕ → Bool) (count : ℕ) → All (λ place. place < count) (places_below passes count)
are_below passes zero = All-nil (λ (place : ℕ). place < 0)
are_below passes (suc count) =
    All-append (λ (place : ℕ). place < suc count) (places_below passes count) (if passes count then count ∷ [] else [])
    (All-weaker (λ (place : ℕ). place < count) (λ (place : ℕ). place < suc count) (λ place l. omega (arith, l))
    (places_below passes count) (are_below passes count))
    (one_below (passes count) count)

-- where a test passes first
pub record FirstPlace (p : ℕ → Bool) (keys : List ℕ) : Type 0 where
  pub at : ℕ
  pub within : at ≤ length keys
  pub others : (k : ℕ) → k < at → p (get_or keys k 0) ≡ false
  pub passes : at < length keys → p (get_or keys at 0) ≡ true

first_by : (p : ℕ → Bool) (key : ℕ) (keys : List ℕ) (held : Bool) → p key ≡ held → FirstPlace p keys
    → FirstPlace p (key ∷ keys)
first_by p key keys true e rest =
    record { at = 0; within = omega arith; others = λ k l. absurd (omega (arith, l)); passes = λ l. e }
first_by p key keys false e rest = record {
  at = suc rest.at;
  within = omega (arith, rest.within);
  others = λ k l. before k l;
  passes = λ l. rest.passes (omega (arith, l));
}
  where
    before : (k : ℕ) → k < suc rest.at → p (get_or (key ∷ keys) k 0) ≡ false
    before zero l = e
    before (suc k) l = rest.others k (omega (arith, l))

pub first_place : (p : ℕ → Bool) (keys : List ℕ) → FirstPlace p keys
first_place p [] =
    record { at = 0; within = omega arith; others = λ k l. absurd (omega (arith, l)); passes = λ l. absurd (omega (arith, l)) }
first_place p (key ∷ keys) = first_by p key keys (p key) refl (first_place p keys)

-- where a key is, or that it is not there
key_at : (keys : List ℕ) (key at : ℕ) → nat_eq key (get_or keys at 0) ≡ true → get_or keys at 0 ≡ key
key_at keys key at h = sym (eqb-true key (get_or keys at 0) h)

not_key : (keys : List ℕ) (key at : ℕ) → nat_eq key (get_or keys at 0) ≡ false → get_or keys at 0 ≡ key → ⊥
not_key keys key at h e = false≢true (sym h ∙ eq-eqb key (get_or keys at 0) (sym e))

-- the places of a trace whose span comes next, and of another
next_of : (spans : List PlainShownSpan) (place trace : ℕ) → ((id : ℕ) → is_of spans id place ≡ (trace == id))
    → (id : ℕ) → id ≡ trace
    → places_below (is_of spans id) (place + 1) ≡ places_below (is_of spans id) place ++ place ∷ []
next_of spans place trace of id e =
    sym (place_more (is_of spans id) place (places_below (is_of spans id) place)
    (of id ∙ eq-eqb trace id (sym e)) refl)

next_not : (spans : List PlainShownSpan) (place trace : ℕ) → ((id : ℕ) → is_of spans id place ≡ (trace == id))
    → (id : ℕ) → (id ≡ trace → ⊥)
    → places_below (is_of spans id) (place + 1) ≡ places_below (is_of spans id) place
next_not spans place trace of id ne =
    sym (place_stays (is_of spans id) place (places_below (is_of spans id) place)
    (of id ∙ ne_eqb trace id (λ e. ne (sym e))) refl)

grows : (trace : ℕ) (old new : List ℕ) (group : Group) → old ≡ new → IsGroup trace old group → IsGroup trace new group
grows trace old new group e g = record { trace_is = g.trace_is; places_are = g.places_are ∙ e }

-- a key that no key is like is none of them
key_apart : (keys : List ℕ) (at id : ℕ) → at < length keys → list_any (nat_eq id) keys ≡ false
    → id ≡ get_or keys at 0 → ⊥
key_apart keys at id l none e =
    false≢true (sym none ∙ list_any_at (nat_eq id) keys at 0 l (eq-eqb id (get_or keys at 0) e))

-- keys at two places are not alike
apart : (keys : List ℕ)
    → ((one other : ℕ) → one < other → other < length keys → get_or keys one 0 ≢ get_or keys other 0)
    → (number at : ℕ) → number < length keys → at < length keys → (number ≡ at → ⊥)
    → get_or keys number 0 ≡ get_or keys at 0 → ⊥
apart keys distinct number at below l ne e = elim (cases_lt number at) [
  | inl before ↦ distinct number at before l e
  | inr after ↦ distinct at number (omega (arith, after, ne)) below (sym e)
]

some_group : (groups : List Group) → 0 < length groups → Group
some_group [] l = absurd (omega (arith, l))
some_group (group ∷ groups) l = group

-- one span more of a trace that has a group
joined : (spans : List PlainShownSpan) (place trace : ℕ) (keys : List ℕ) (old new : List Group) (at : ℕ)
    → ((id : ℕ) → is_of spans id place ≡ (trace == id)) → AreGroups spans place keys old → at < length keys
    → get_or keys at 0 ≡ trace → IsAdded old at trace place new
    → AreGroups spans (place + 1) keys new
joined spans place trace keys old new at of before l here added =
    let d = some_group old (omega (arith, l, before.alike)) in
    let made = added.joins d (omega (arith, l, before.alike)) in
    let was = before.each at d l in
    let is : new ≡ set old at made.0 = made.2 in
    let now : IsGroup (get_or keys at 0) (places_below (is_of spans (get_or keys at 0)) (place + 1)) made.0 =
    record {
      trace_is = made.1.trace_is ∙ was.trace_is;
      places_are = made.1.places_are ∙ ap (λ (ps : List ℕ). ps ++ place ∷ []) was.places_are
          ∙ sym (next_of spans place trace of (get_or keys at 0) here);
    } in
    record {
      alike = ap length is ∙ length-set old at made.0 ∙ before.alike;
      distinct = before.distinct;
      each = λ number group below. elim (cases_eq number at) [
        | inl same ↦ subst (λ n. IsGroup (get_or keys n 0) (places_below (is_of spans (get_or keys n 0)) (place + 1))
            (get_or new n group)) (sym same)
            (subst (IsGroup (get_or keys at 0) (places_below (is_of spans (get_or keys at 0)) (place + 1)))
            (sym (ap (λ (gs : List Group). get_or gs at group) is
            ∙ get_or-set_same old at made.0 group (omega (arith, l, before.alike)))) now)
        | inr other ↦ subst (IsGroup (get_or keys number 0) (places_below (is_of spans (get_or keys number 0)) (place + 1)))
            (sym (ap (λ (gs : List Group). get_or gs number group) is
            ∙ get_or-set_other old at number made.0 group other))
            (grows (get_or keys number 0) (places_below (is_of spans (get_or keys number 0)) place)
            (places_below (is_of spans (get_or keys number 0)) (place + 1)) (get_or old number group)
            (sym (next_not spans place trace of (get_or keys number 0)
            (λ e. apart keys before.distinct number at below l other (e ∙ sym here))))
            (before.each number group below))
      ];
      others = λ id none. next_not spans place trace of id
          (λ e. key_apart keys at id l none (e ∙ sym here)) ∙ before.others id none;
    }

both_false : (a b : Bool) → a || b ≡ false → (a ≡ false) × (b ≡ false)
both_false true b h = absurd (false≢true (sym h))
both_false false b h = (refl, h)

or_false : (b : Bool) → b || false ≡ b
or_false true = refl
or_false false = refl

one_any : (p : ℕ → Bool) (x : ℕ) → list_any p (x ∷ []) ≡ p x
one_any p x = or_false (p x)

-- one span of a trace that has no group yet
begun : (spans : List PlainShownSpan) (place trace : ℕ) (keys : List ℕ) (old new : List Group)
    → ((id : ℕ) → is_of spans id place ≡ (trace == id)) → AreGroups spans place keys old
    → list_any (nat_eq trace) keys ≡ false → IsAdded old (length keys) trace place new
    → AreGroups spans (place + 1) (keys ++ trace ∷ []) new
begun spans place trace keys old new of before none added =
    let made = added.begins (omega (arith, before.alike)) in
    let is : new ≡ old ++ made.0 ∷ [] = made.2 in
    let now : IsGroup trace (places_below (is_of spans trace) (place + 1)) made.0 =
    record {
      trace_is = made.1.trace_is;
      places_are = made.1.places_are ∙ ap (λ (ps : List ℕ). ps ++ place ∷ []) (sym (before.others trace none))
          ∙ sym (next_of spans place trace of trace refl);
    } in
    record {
      alike = ap length is ∙ length-append old (made.0 ∷ []) ∙ ap (λ n. n + 1) before.alike
          ∙ sym (length-append keys (trace ∷ []));
      distinct = λ one other first below. elim (cases_lt other (length keys)) [
        | inl there ↦ λ e. before.distinct one other first there
            (sym (get_or_append_left keys (trace ∷ []) 0 one (omega (arith, first, there)))
            ∙ e ∙ get_or_append_left keys (trace ∷ []) 0 other there)
        | inr last ↦
            let at : other ≡ length keys = omega (arith, last, below, length-append keys (trace ∷ [])) in
            λ e. key_apart keys one trace (omega (arith, first, at)) none
            (sym (get_or-append_seam keys trace [] 0) ∙ ap (λ n. get_or (keys ++ trace ∷ []) n 0) (sym at)
            ∙ sym e ∙ get_or_append_left keys (trace ∷ []) 0 one (omega (arith, first, at)))
      ];
      each = λ number group below. elim (cases_lt number (length keys)) [
        | inl there ↦ subst (λ id. IsGroup id (places_below (is_of spans id) (place + 1)) (get_or new number group))
            (sym (get_or_append_left keys (trace ∷ []) 0 number there))
            (subst (IsGroup (get_or keys number 0) (places_below (is_of spans (get_or keys number 0)) (place + 1)))
            (sym (ap (λ (gs : List Group). get_or gs number group) is
            ∙ get_or_append_left old (made.0 ∷ []) group number (omega (arith, there, before.alike))))
            (grows (get_or keys number 0) (places_below (is_of spans (get_or keys number 0)) place)
            (places_below (is_of spans (get_or keys number 0)) (place + 1)) (get_or old number group)
            (sym (next_not spans place trace of (get_or keys number 0)
            (λ e. key_apart keys number trace there none (sym e))))
            (before.each number group there)))
        | inr last ↦
            let at : number ≡ length keys = omega (arith, last, below, length-append keys (trace ∷ [])) in
            let key : get_or (keys ++ trace ∷ []) number 0 ≡ trace =
            ap (λ n. get_or (keys ++ trace ∷ []) n 0) at ∙ get_or-append_seam keys trace [] 0 in
            subst (λ id. IsGroup id (places_below (is_of spans id) (place + 1)) (get_or new number group)) (sym key)
            (subst (IsGroup trace (places_below (is_of spans trace) (place + 1)))
            (sym (ap (λ (gs : List Group). get_or gs number group) is
            ∙ ap (λ n. get_or (old ++ made.0 ∷ []) n group) (at ∙ sym before.alike)
            ∙ get_or-append_seam old made.0 [] group)) now)
      ];
      others = λ id all.
          let two = both_false (list_any (nat_eq id) keys) (nat_eq id trace)
          (sym (list_any-append (nat_eq id) keys (trace ∷ []) ∙ ap (λ b. list_any (nat_eq id) keys || b)
          (one_any (nat_eq id) trace)) ∙ all) in
          next_not spans place trace of id (λ e. false≢true (sym two.1 ∙ eq-eqb id trace e)) ∙ before.others id two.0;
    }

-- one span more
pub one_more_place : (spans : List PlainShownSpan) (place : ℕ) (keys new_keys : List ℕ) (old new : List Group)
    (number trace : ℕ) (span : PlainShownSpan) → place < length spans → span ≡ get_or spans place span
    → trace ≡ span.trace_id → AreGroups spans place keys old → new_keys ≡ insert_key nat_eq keys trace
    → number ≡ position_or_len (nat_eq trace) keys → IsAdded old number trace place new
    → AreGroups spans (place + 1) new_keys new
one_more_place spans place keys new_keys old new number trace span there read id before made index added =
    let first = first_place (nat_eq trace) keys in
    let at : number ≡ first.at =
    index ∙ position_or_len_is (nat_eq trace) keys first.at 0 first.within first.others first.passes in
    let of : (key : ℕ) → is_of spans key place ≡ (trace == key) =
    λ key. of_at spans key place span there read ∙ ap (λ n. n == key) (sym id) in
    elim (cases_lt first.at (length keys)) [
      | inl l ↦
          let any = list_any_at (nat_eq trace) keys first.at 0 l (first.passes l) in
          subst (λ ks. AreGroups spans (place + 1) ks new)
          (sym (made ∙ ap (λ (b : Bool). if b then keys else keys ++ trace ∷ []) any))
          (joined spans place trace keys old new first.at of before l (key_at keys trace first.at (first.passes l))
          (subst (λ n. IsAdded old n trace place new) at added))
      | inr high ↦
          let end : first.at ≡ length keys = omega (arith, high, first.within) in
          let none = list_any_none (nat_eq trace) keys (All-from_get_or (λ key. nat_eq trace key ≡ false) keys 0
          (λ k l. first.others k (omega (arith, l, end)))) in
          subst (λ ks. AreGroups spans (place + 1) ks new)
          (sym (made ∙ ap (λ (b : Bool). if b then keys else keys ++ trace ∷ []) none))
          (begun spans place trace keys old new of before none
          (subst (λ n. IsAdded old n trace place new) (at ∙ end) added))
    ]

pub one_more_trace : (spans : List PlainShownSpan) (place : ℕ) (keys new_keys : List ℕ) (trace : ℕ)
    (span : PlainShownSpan) → place < length spans → span ≡ get_or spans place span → trace ≡ span.trace_id
    → keys ≡ trace_ids (take place spans) → new_keys ≡ insert_key nat_eq keys trace
    → new_keys ≡ trace_ids (take (place + 1) spans)
one_more_trace spans place keys new_keys trace span there read id before made =
    made ∙ ap (λ (ks : List ℕ). insert_key nat_eq ks trace) before
    ∙ ap (λ n. insert_key nat_eq (trace_ids (take place spans)) n) id
    ∙ sym (ap trace_ids (take_more spans place span there ∙ ap (λ s. take place spans ++ s ∷ []) (sym read))
    ∙ ap (λ (ks : List ℕ). fold (insert_key nat_eq) [] ks) (map-append (λ s. s.trace_id) (take place spans) (span ∷ []))
    ∙ fold-append (insert_key nat_eq) [] (map (λ s. s.trace_id) (take place spans)) (span.trace_id ∷ []))
