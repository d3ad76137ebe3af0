-- Walks up: what one came to is under where it is, and in the end under a root.
use Rattle.std.proofs.Common.{◌≡◌, ◌<◌, ◌⊎◌, inl, inr, ℕ, zero, suc, Bool, true, false, Option, Some, None, List}
use Rattle.std.proofs.Common.{◌+◌, ◌∙◌, ap, arith, get_or, is_none, length, nat_eq, option_and_then, refl, replicate, set}
use Rattle.std.proofs.Common.{subst, sym}
use Rattle.std.specs.Option.{option_eq}
use Rattle.std.proofs.lemmas.Bool.{cases_eq, cases_lt, eqb-true, false≢true}
use Rattle.std.proofs.lemmas.List.{get_or_past, get_or-set_other, get_or-set_same}
use Rattle.otel_picture.specs.Orders.{IsHead}
use Rattle.otel_picture.specs.Parents.{ancestor, parent_of}
use Rattle.otel_picture.specs.Rows.{IsTop}
use Rattle.otel_picture.specs.Turns.{LeadsTo, is_marked}
use Rattle.otel_picture.specs.Walks.{AreBelow, AreOver, CameUp}
use Rattle.otel_picture.specs.declared.rows.Mark.{Mark}
use Rattle.otel_picture.proofs.Circles.{ancestor_more}

-- what a walk came to is under where it is, or an earlier one came to it
abbrev pub Came : List (Option ℕ) → List (Option ℕ) → (span at other began : ℕ) → Type 0
Came parents old span at other began = (get_or old other None ≡ Some began)
    ⊎ ((began ≡ span) × (steps : ℕ) × (ancestor parents (suc steps) other ≡ Some at))

pub one_up : (parents : List (Option ℕ)) (steps span at parent : ℕ) → ancestor parents steps span ≡ Some at
    → parent_of parents at ≡ Some parent → ancestor parents (suc steps) span ≡ Some parent
one_up parents steps span at parent e of = ap (λ (o : Option ℕ). option_and_then (parent_of parents) o) e ∙ of

pub came_more : (parents old walks : List (Option ℕ)) (span at parent : ℕ) → at < length walks
    → parent_of parents at ≡ Some parent
    → ((other began : ℕ) → get_or walks other None ≡ Some began → Came parents old span at other began)
    → (other began : ℕ) → get_or (set walks at (Some span)) other None ≡ Some began
    → Came parents old span parent other began
came_more parents old walks span at parent there of came other began e = elim (cases_eq other at) [
  | inl same ↦
      let is : Some span ≡ Some began = sym (get_or-set_same walks at (Some span) None there)
      ∙ ap (λ k. get_or (set walks at (Some span)) k None) (sym same) ∙ e in
      let began_is : began ≡ span = cc in
      inr (began_is, 0, ap (λ k. parent_of parents k) same ∙ of)
  | inr different ↦ elim (came other began (sym (get_or-set_other walks at other (Some span) None different) ∙ e)) [
    | inl before ↦ inl before
    | inr this ↦ inr (this.0, suc this.1, one_up parents (suc this.1) other at parent this.2 of)
  ]
]

pub leads_on : (parents : List (Option ℕ)) (tops : List Bool) (steps span at : ℕ) → ancestor parents steps span ≡ Some at
    → LeadsTo parents tops at → LeadsTo parents tops span
leads_on parents tops steps span at e on =
    (on.0 + steps, on.1, ancestor_more parents on.0 steps span at e ∙ on.2, on.3)

pub is_some_of : (o : Option ℕ) (n : ℕ) → option_eq nat_eq o (Some n) ≡ true → o ≡ Some n
is_some_of None n h = absurd (false≢true h)
is_some_of (Some m) n h = ap (λ k. Some k) (eqb-true m n h)

-- a walk that ended under a root
pub all_led : (parents old walks : List (Option ℕ)) (tops : List Bool) (span at : ℕ) → AreOver parents tops old
    → ((other began : ℕ) → get_or walks other None ≡ Some began → Came parents old span at other began)
    → LeadsTo parents tops at → AreOver parents tops walks
all_led parents old walks tops span at over came on other began e = elim (came other began e) [
  | inl before ↦ over other began before
  | inr this ↦ leads_on parents tops (suc this.1) other at this.2 on
]

-- one that ended where an earlier one came
pub led_before : (parents old : List (Option ℕ)) (tops : List Bool) (span at : ℕ) (came_by : Option ℕ)
    → AreOver parents tops old → (came_by ≡ None → ⊥) → (came_by ≡ Some span → ⊥)
    → ((began : ℕ) → came_by ≡ Some began → Came parents old span at at began) → LeadsTo parents tops at
led_before parents old tops span at None over some other came = absurd (some refl)
led_before parents old tops span at (Some began) over some other came = elim (came began refl) [
  | inl before ↦ over at began before
  | inr this ↦ absurd (other (ap (λ n. Some n) this.0))
]

-- and one that ended where it had come itself
pub came_twice : (parents old walks : List (Option ℕ)) (tops : List Bool) (span at : ℕ) → at < length parents
    → AreBelow span old → AreOver parents tops old
    → (steps : ℕ) × (ancestor parents steps span ≡ Some at)
    → ((other began : ℕ) → get_or walks other None ≡ Some began → Came parents old span at other began)
    → get_or walks at None ≡ Some span → CameUp parents tops walks span at
came_twice parents old walks tops span at there below over from came here = record {
  there = there;
  circle = elim (came at span here) [
    | inl before ↦ let low = below at span before in absurd (omega (arith, low))
    | inr this ↦ (this.1, this.2)
  ];
  from = from;
  over = λ other began e. elim (came other began e) [
    | inl before ↦ inl (over other began before)
    | inr this ↦ inr (suc this.1, this.2)
  ];
}

pub below_more : (old walks : List (Option ℕ)) (parents : List (Option ℕ)) (span at : ℕ) → AreBelow span old
    → ((other began : ℕ) → get_or walks other None ≡ Some began → Came parents old span at other began)
    → AreBelow (suc span) walks
below_more old walks parents span at below came other began e = elim (came other began e) [
  | inl before ↦ let low = below other began before in omega (arith, low)
  | inr this ↦ omega (arith, this.0)
]

-- one root more
pub marked_more : (tops : List Bool) (head span : ℕ) → is_marked tops span ≡ true
    → is_marked (set tops head true) span ≡ true
marked_more tops head span e = elim (cases_eq span head) [
  | inl same ↦ elim (cases_lt head (length tops)) [
    | inl low ↦ ap (λ k. get_or (set tops head true) k false) same ∙ get_or-set_same tops head true false low
    | inr high ↦ absurd (false≢true (sym (get_or_past tops head false high)
        ∙ ap (λ k. get_or tops k false) (sym same) ∙ e))
  ]
  | inr different ↦ get_or-set_other tops head span true false different ∙ e
]

pub leads_more : (parents : List (Option ℕ)) (tops : List Bool) (head span : ℕ) → LeadsTo parents tops span
    → LeadsTo parents (set tops head true) span
leads_more parents tops head span on = (on.0, on.1, on.2, marked_more tops head on.1 on.3)

pub top_more : (marks : List Mark) (parents : List (Option ℕ)) (tops : List Bool) (head : ℕ)
    → IsHead marks parents head → ((span : ℕ) → is_marked tops span ≡ true → IsTop marks parents span)
    → (span : ℕ) → is_marked (set tops head true) span ≡ true → IsTop marks parents span
top_more marks parents tops head is before span e = elim (cases_eq span head) [
  | inl same ↦ subst (λ k. IsTop marks parents k) (sym same) (inr is)
  | inr different ↦ before span (sym (get_or-set_other tops head span true false different) ∙ e)
]

-- a circle's root is above all that came to the circle
abbrev pub LedBelow : List (Option ℕ) → List Bool → ℕ → Type 0
LedBelow parents tops bound = (span : ℕ) → span < bound → LeadsTo parents tops span

pub over_head : (parents walks : List (Option ℕ)) (tops : List Bool) (span above head : ℕ) → head < length tops
    → (steps : ℕ) × (ancestor parents steps above ≡ Some head) → CameUp parents tops walks span above
    → AreOver parents (set tops head true) walks
over_head parents walks tops span above head there up came other began e =
    let on : LeadsTo parents (set tops head true) above =
    (up.0, head, up.1, get_or-set_same tops head true false there) in
    elim (came.over other began e) [
      | inl leads ↦ leads_more parents tops head other leads
      | inr this ↦ leads_on parents (set tops head true) this.0 other above this.1 on
    ]

pub led_head : (parents walks : List (Option ℕ)) (tops : List Bool) (span above head : ℕ) → head < length tops
    → (steps : ℕ) × (ancestor parents steps above ≡ Some head) → CameUp parents tops walks span above
    → LedBelow parents tops span → LedBelow parents (set tops head true) (span + 1)
led_head parents walks tops span above head there up came led other low = elim (cases_lt other span) [
  | inl under ↦ leads_more parents tops head other (led other under)
  | inr over ↦
      let same : span ≡ other = omega (arith, low, over) in
      subst (λ k. LeadsTo parents (set tops head true) k) same
      (leads_on parents (set tops head true) came.from.0 span above came.from.1
      (up.0, head, up.1, get_or-set_same tops head true false there))
]

pub led_more : (parents : List (Option ℕ)) (tops : List Bool) (span : ℕ) → LeadsTo parents tops span
    → LedBelow parents tops span → LedBelow parents tops (span + 1)
led_more parents tops span here led other low = elim (cases_lt other span) [
  | inl under ↦ led other under
  | inr over ↦ let same : span ≡ other = omega (arith, low, over) in subst (λ k. LeadsTo parents tops k) same here
]

-- at first roots are the spans without a parent, and no walk has come anywhere
none_of : (o : Option ℕ) → is_none o ≡ true → o ≡ None
none_of None e = refl
none_of (Some n) e = absurd (false≢true e)

pub tops_first : (marks : List Mark) (parents : List (Option ℕ)) (tops : List Bool) → length tops ≡ length parents
    → ((span : ℕ) → span < length parents → is_marked tops span ≡ is_none (parent_of parents span))
    → (span : ℕ) → is_marked tops span ≡ true → IsTop marks parents span
tops_first marks parents tops alike is span e = elim (cases_lt span (length parents)) [
  | inl low ↦ inl (none_of (parent_of parents span) (sym (is span low) ∙ e))
  | inr high ↦ absurd (false≢true (sym (get_or_past tops span false (omega (arith, alike, high))) ∙ e))
]

pub no_walks : (count span began : ℕ) → get_or (replicate count None) span None ≡ Some began → ⊥
no_walks zero span began e = let no : None ≡ Some began = e in absurd cc
no_walks (suc count) zero began e = let no : None ≡ Some began = e in absurd cc
no_walks (suc count) (suc span) began e = no_walks count span began e
