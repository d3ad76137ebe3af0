-- The first span of an id, with one span more.
use Rattle.std.proofs.Common.{nat_eq}
use Rattle.std.proofs.Common.{◌≡◌, ◌<◌, ◌≤◌, ◌+◌, ◌==◌, ◌++◌, ◌∷◌, [], ◌∙◌, ◌⊎◌, inl, inr, ℕ, suc, Bool, true, false}
use Rattle.std.proofs.Common.{BTreeMap, List, Option, Some, None, ap, arith, if◌then◌else◌, is_some, length, not, position, refl}
use Rattle.std.proofs.Common.{sym}
use Rattle.std.specs.BTreeMap.{Updates, get, is_at}
use Rattle.std.specs.List.{list_any, position_or_len}
use Rattle.std.specs.Option.{unwrap_or}
use Rattle.indexmap.specs.IndexSet.{insert_key}
use Rattle.std.specs.Ordering.{nat_cmp}
use Rattle.std.proofs.lemmas.Bool.{cases_eq, cases_lt, eq-eqb, false≢true, le-ltb, lt-ltb, ne_eqb}
use Rattle.std.proofs.lemmas.List.{get_or_default, length_push}
use Rattle.std.proofs.lemmas.List.Folds.{list_any_at, list_any_none, position_or_len_push}
use Rattle.std.proofs.lemmas.List.Sums.{position_or_len_is}
use Rattle.otel_picture.specs.declared.rows.Mark.{Mark}
use Rattle.otel_picture.proofs.Grouping.{first_place}

one_most : (held : Bool) (first count : ℕ) → first ≤ count → (if held then 1 + first else 0) ≤ suc count
one_most true first count l = omega (arith, l)
one_most false first count l = omega arith

most : {X : Type 0} (p : X → Bool) (marks : List X) → position_or_len p marks ≤ length marks
most p [] = omega arith
most p (mark ∷ marks) = one_most (not (p mark)) (position_or_len p marks) (length marks) (most p marks)

-- the first one stays
pub found_stays : {X : Type 0} (p : X → Bool) (marks : List X) (mark : X) → is_some (position p marks) ≡ true
    → position p (marks ++ mark ∷ []) ≡ position p marks
found_stays p marks mark some = elim (cases_lt (position_or_len p marks) (length marks)) [
  | inl low ↦
      let at : position_or_len p (marks ++ mark ∷ []) ≡ position_or_len p marks = position_or_len_push p marks mark
      ∙ ap (λ (b : Bool). if b then length marks + (if p mark then 0 else 1) else position_or_len p marks)
      (ne_eqb (position_or_len p marks) (length marks) (omega (arith, low))) in
      let more : position_or_len p marks < length (marks ++ mark ∷ []) = omega (arith, low, length_push marks mark) in
      rw (
        at,
        lt-ltb (position_or_len p marks) (length (marks ++ mark ∷ [])) more,
        lt-ltb (position_or_len p marks) (length marks) low,
      ) refl
  | inr high ↦ absurd (false≢true (sym (ap (λ (b : Bool). is_some (if b then Some (position_or_len p marks) else None))
      (le-ltb (position_or_len p marks) (length marks) high)) ∙ some))
]

-- where none was, the new one is the first, if it is of the id
none_before : {X : Type 0} (p : X → Bool) (marks : List X) → position p marks ≡ None → position_or_len p marks ≡ length marks
none_before p marks none = elim (cases_lt (position_or_len p marks) (length marks)) [
  | inl low ↦ absurd (false≢true (sym (ap is_some none)
      ∙ ap (λ (b : Bool). is_some (if b then Some (position_or_len p marks) else None))
      (lt-ltb (position_or_len p marks) (length marks) low)))
  | inr high ↦ omega (arith, high, most p marks)
]

pub found_now : {X : Type 0} (p : X → Bool) (marks : List X) (mark : X) → position p marks ≡ None → p mark ≡ true
    → position p (marks ++ mark ∷ []) ≡ Some (length marks)
found_now p marks mark none held =
    let before = none_before p marks none in
    let at : position_or_len p (marks ++ mark ∷ []) ≡ length marks = position_or_len_push p marks mark
    ∙ ap (λ (b : Bool). if b then length marks + (if p mark then 0 else 1) else position_or_len p marks)
    (eq-eqb (position_or_len p marks) (length marks) before)
    ∙ ap (λ (b : Bool). length marks + (if b then 0 else 1)) held ∙ (omega arith) in
    let more : length marks < length (marks ++ mark ∷ []) = omega (arith, length_push marks mark) in
    rw (at, lt-ltb (length marks) (length (marks ++ mark ∷ [])) more) refl

pub none_now : {X : Type 0} (p : X → Bool) (marks : List X) (mark : X) → position p marks ≡ None → p mark ≡ false
    → position p (marks ++ mark ∷ []) ≡ None
none_now p marks mark none free =
    let before = none_before p marks none in
    let at : position_or_len p (marks ++ mark ∷ []) ≡ length marks + 1 = position_or_len_push p marks mark
    ∙ ap (λ (b : Bool). if b then length marks + (if p mark then 0 else 1) else position_or_len p marks)
    (eq-eqb (position_or_len p marks) (length marks) before)
    ∙ ap (λ (b : Bool). length marks + (if b then 0 else 1)) free in
    let less : length (marks ++ mark ∷ []) ≤ length marks + 1 = omega (arith, length_push marks mark) in
    rw (at, le-ltb (length marks + 1) (length (marks ++ mark ∷ [])) less) refl

option_of : (o : Option ℕ) → (is_some o ≡ true) ⊎ (o ≡ None)
option_of None = inr refl
option_of (Some n) = inl refl

-- another id's first one stays
pub other_stays : {X : Type 0} (p : X → Bool) (marks : List X) (mark : X) → p mark ≡ false
    → position p (marks ++ mark ∷ []) ≡ position p marks
other_stays p marks mark free = elim (option_of (position p marks)) [
  | inl some ↦ found_stays p marks mark some
  | inr none ↦ none_now p marks mark none free ∙ sym none
]

none_from : (o : Option ℕ) → is_some o ≡ false → o ≡ None
none_from None e = refl
none_from (Some n) e = absurd (false≢true (sym e))

-- what a map has of one id more
abbrev pub AreFirst : BTreeMap ℕ ℕ → List Mark → Type 0
AreFirst spans marks = (id : ℕ) → get nat_cmp spans id ≡ position (λ mark. mark.id == id) marks

at_itself : (id : ℕ) → is_at (nat_cmp id) id ≡ true
at_itself id = rw (le-ltb id id (omega arith), eq-eqb id id refl) refl

at_other : (id other : ℕ) → (id ≡ other → ⊥) → is_at (nat_cmp id) other ≡ false
at_other id other ne = elim (cases_lt id other) [
  | inl low ↦ rw (lt-ltb id other low) refl
  | inr high ↦ rw (le-ltb id other high, ne_eqb id other ne) refl
]

pub first_more : (old new : BTreeMap ℕ ℕ) (marks : List Mark) (mark : Mark) (span : ℕ) → AreFirst old marks
    → span ≡ length marks → is_some (get nat_cmp old mark.id) ≡ false
    → Updates nat_cmp old new mark.id (Some span) → AreFirst new (marks ++ mark ∷ [])
first_more old new marks mark span first e free updates id = elim (cases_eq mark.id id) [
  | inl same ↦
      let none = none_from (get nat_cmp old mark.id) free in
      ap (get nat_cmp new) (sym same) ∙ updates.1 ∙ ap (λ n. Some n) e
      ∙ sym (ap (λ k. position (λ m. m.id == k) (marks ++ mark ∷ [])) (sym same)
      ∙ found_now (λ m. m.id == mark.id) marks mark (sym (first mark.id) ∙ none) (eq-eqb mark.id mark.id refl))
  | inr ne ↦ updates.2 id (at_other mark.id id ne) ∙ first id
      ∙ sym (other_stays (λ m. m.id == id) marks mark (ne_eqb mark.id id ne))
]

pub first_same : (old : BTreeMap ℕ ℕ) (marks : List Mark) (mark : Mark) → AreFirst old marks
    → is_some (get nat_cmp old mark.id) ≡ true → AreFirst old (marks ++ mark ∷ [])
first_same old marks mark first held id = elim (cases_eq mark.id id) [
  | inl same ↦ first id ∙ sym (found_stays (λ m. m.id == id) marks mark
      (sym (ap is_some (first id)) ∙ ap (λ k. is_some (get nat_cmp old k)) (sym same) ∙ held))
  | inr ne ↦ first id ∙ sym (other_stays (λ m. m.id == id) marks mark (ne_eqb mark.id id ne))
]

-- the number of a trace: where its id stands, or one more
number_at : (p : ℕ → Bool) (keys : List ℕ) → unwrap_or (position p keys) (length keys) ≡ position_or_len p keys
number_at p keys = elim (cases_lt (position_or_len p keys) (length keys)) [
  | inl low ↦ rw (lt-ltb (position_or_len p keys) (length keys) low) refl
  | inr high ↦
      let same : length keys ≡ position_or_len p keys = omega (arith, high, most p keys) in
      rw (le-ltb (position_or_len p keys) (length keys) high) same
]

-- a key that is there, and one that is not
any_found : (p : ℕ → Bool) (keys : List ℕ) → is_some (position p keys) ≡ true → list_any p keys ≡ true
any_found p keys some =
    let first = first_place p keys in
    let at = position_or_len_is p keys first.at 0 first.within first.others first.passes in
    elim (cases_lt first.at (length keys)) [
      | inl low ↦ list_any_at p keys first.at 0 low (first.passes low)
      | inr high ↦ absurd (false≢true (sym (ap (λ (b : Bool). is_some (if b then Some (position_or_len p keys) else None))
          (le-ltb (position_or_len p keys) (length keys) (omega (arith, high, at)))) ∙ some))
    ]

any_none : (p : ℕ → Bool) (keys : List ℕ) → position p keys ≡ None → list_any p keys ≡ false
any_none p keys none =
    let first = first_place p keys in
    let at = position_or_len_is p keys first.at 0 first.within first.others first.passes in
    let before = none_before p keys none in
    list_any_none p keys (λ k d low. ap p (get_or_default keys k d 0 low) ∙ first.others k (omega (arith, low, at, before)))

-- what a map of the numbers of traces has of each id
abbrev pub AreNumbers : BTreeMap ℕ ℕ → List ℕ → Type 0
AreNumbers numbers keys = (id : ℕ) → get nat_cmp numbers id ≡ position (nat_eq id) keys

pub number_is : (numbers : BTreeMap ℕ ℕ) (keys : List ℕ) (trace number : ℕ) → AreNumbers numbers keys
    → number ≡ unwrap_or (get nat_cmp numbers trace) (length keys) → number ≡ position_or_len (nat_eq trace) keys
number_is numbers keys trace number are e =
    e ∙ ap (λ o. unwrap_or o (length keys)) (are trace) ∙ number_at (nat_eq trace) keys

some_is : (o : Option ℕ) (d : ℕ) → is_some o ≡ true → Some (unwrap_or o d) ≡ o
some_is None d e = absurd (false≢true e)
some_is (Some n) d e = refl

pub numbers_more : (old new : BTreeMap ℕ ℕ) (keys : List ℕ) (trace number : ℕ) → AreNumbers old keys
    → number ≡ unwrap_or (get nat_cmp old trace) (length keys)
    → ((id : ℕ) → get nat_cmp new id ≡ (if id == trace then Some number else get nat_cmp old id))
    → AreNumbers new (insert_key nat_eq keys trace)
numbers_more old new keys trace number are e noted id = elim (option_of (position (nat_eq trace) keys)) [
  | inl some ↦
      let there = ap (λ (b : Bool). position (nat_eq id) (if b then keys else keys ++ trace ∷ []))
      (any_found (nat_eq trace) keys some) in
      elim (cases_eq id trace) [
        | inl same ↦ noted id ∙ ap (λ (b : Bool). if b then Some number else get nat_cmp old id) (eq-eqb id trace same)
            ∙ ap (λ n. Some n) e ∙ some_is (get nat_cmp old trace) (length keys) (ap is_some (are trace) ∙ some)
            ∙ are trace ∙ ap (λ k. position (nat_eq k) keys) (sym same) ∙ sym there
        | inr ne ↦ noted id ∙ ap (λ (b : Bool). if b then Some number else get nat_cmp old id) (ne_eqb id trace ne)
            ∙ are id ∙ sym there
      ]
  | inr none ↦
      let free = ap (λ (b : Bool). position (nat_eq id) (if b then keys else keys ++ trace ∷ []))
      (any_none (nat_eq trace) keys none) in
      elim (cases_eq id trace) [
        | inl same ↦ noted id ∙ ap (λ (b : Bool). if b then Some number else get nat_cmp old id) (eq-eqb id trace same)
            ∙ ap (λ n. Some n) (e ∙ ap (λ o. unwrap_or o (length keys)) (are trace ∙ none))
            ∙ sym (found_now (nat_eq trace) keys trace none (eq-eqb trace trace refl))
            ∙ ap (λ k. position (nat_eq k) (keys ++ trace ∷ [])) (sym same) ∙ sym free
        | inr ne ↦ noted id ∙ ap (λ (b : Bool). if b then Some number else get nat_cmp old id) (ne_eqb id trace ne)
            ∙ are id ∙ sym (other_stays (nat_eq id) keys trace (ne_eqb id trace ne)) ∙ sym free
      ]
]

-- one number more in a map
pub noted_by : (old new : BTreeMap ℕ ℕ) (trace number : ℕ) → Updates nat_cmp old new trace (Some number) → (id : ℕ)
    → get nat_cmp new id ≡ (if id == trace then Some number else get nat_cmp old id)
noted_by old new trace number updates id = elim (cases_eq id trace) [
  | inl same ↦ ap (get nat_cmp new) same ∙ updates.1
      ∙ sym (ap (λ (b : Bool). if b then Some number else get nat_cmp old id) (eq-eqb id trace same))
  | inr ne ↦ updates.2 id (at_other trace id (λ e. ne (sym e)))
      ∙ sym (ap (λ (b : Bool). if b then Some number else get nat_cmp old id) (ne_eqb id trace ne))
]
