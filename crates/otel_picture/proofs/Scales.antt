-- The scale of a trace: no start is before it, no moment after it, and one of each is where it begins and ends.
use Rattle.std.proofs.Common.{◌≡◌, ◌<◌, ◌≤◌, ◌⊎◌, ◌∙◌, ◌==◌, ◌∷◌, [], ℕ, zero, suc, List, arith, if◌then◌else◌, inl, inr}
use Rattle.std.proofs.Common.{false, length, max, min, refl, sym}
use Rattle.std.proofs.Math.Nat.{le-max_left, min-eq_left, min-eq_right}
use Rattle.std.proofs.lemmas.Bool.{cases_lt}
use Rattle.otel_picture.specs.Bars.{earlier, earliest, first_of, last_of, latest}
use Rattle.otel_picture.specs.Orders.{mark_at}
use Rattle.otel_picture.specs.declared.rows.Mark.{Mark}

-- the later of a mark's start and its end
abbrev later_of : Mark → ℕ
later_of mark = max mark.start mark.end

-- a span of a place starts at a moment, or the later of its start and its end is one
abbrev pub HasStart : List Mark → ℕ → Type 0
HasStart marks moment = (place : ℕ) × (place < length marks) × ((mark_at marks place).start ≡ moment)

abbrev pub HasMoment : List Mark → ℕ → Type 0
HasMoment marks moment =
    (place : ℕ) × (place < length marks) × (max (mark_at marks place).start (mark_at marks place).end ≡ moment)

-- a start that there is, and that is not after a moment
abbrev pub IsStartBy : (start moment : ℕ) → Type 0
IsStartBy start moment = (start ≤ moment) × (0 < start)

positive : (n : ℕ) → (suc n == 0) ≡ false
positive n = grind arith

earlier_first : (start : ℕ) → earlier 0 (suc start) ≡ suc start
earlier_first start = rw (positive start) refl

earlier_both : (moment start : ℕ) → earlier (suc moment) (suc start) ≡ min (suc moment) (suc start)
earlier_both moment start = rw (positive start) (rw (positive moment) refl)

earlier_below : (moment start : ℕ) → 0 < moment → IsStartBy (earlier moment start) moment
earlier_below moment zero l = (omega arith, l)
earlier_below zero (suc start) l = absurd (omega (arith, l))
earlier_below (suc moment) (suc start) l =
    let both = earlier_both moment start in (omega (arith, both), omega (arith, both))

earlier_start : (moment start : ℕ) → 0 < start → IsStartBy (earlier moment start) start
earlier_start moment zero l = absurd (omega (arith, l))
earlier_start zero (suc start) l =
    let first = earlier_first start in (omega (arith, first), omega (arith, first))
earlier_start (suc moment) (suc start) l =
    let both = earlier_both moment start in (omega (arith, both), omega (arith, both))

earlier_min : (moment start : ℕ) → (moment < start) ⊎ (start ≤ moment)
    → (min moment start ≡ moment) ⊎ (min moment start ≡ start)
earlier_min moment start (inl before) = inl (min-eq_left (omega (arith, before)))
earlier_min moment start (inr after) = inr (min-eq_right after)

earlier_is : (moment start : ℕ) → (earlier moment start ≡ moment) ⊎ (earlier moment start ≡ start)
earlier_is moment zero = inl refl
earlier_is zero (suc start) = inr (earlier_first start)
earlier_is (suc moment) (suc start) =
    rw (earlier_both moment start) (earlier_min (suc moment) (suc start) (cases_lt (suc moment) (suc start)))

earlier_none : (start : ℕ) → start ≡ 0 → earlier 0 start ≡ 0
earlier_none zero e = refl
earlier_none (suc start) e = absurd (omega (arith, e))

earliest_below : (moment : ℕ) (marks : List Mark) → 0 < moment → IsStartBy (earliest moment marks) moment
earliest_below moment [] l = (omega arith, l)
earliest_below moment (mark ∷ marks) l =
    let by = earlier_below moment mark.start l in
    let all = earliest_below (earlier moment mark.start) marks by.1 in
    (omega (arith, by.0, all.0), all.1)

earliest_each : (moment : ℕ) (marks : List Mark) (place : ℕ) → place < length marks
    → 0 < (mark_at marks place).start → IsStartBy (earliest moment marks) (mark_at marks place).start
earliest_each moment [] place l there = absurd (omega (arith, l))
earliest_each moment (mark ∷ marks) zero l there =
    let by = earlier_start moment mark.start there in
    let all = earliest_below (earlier moment mark.start) marks by.1 in
    (omega (arith, by.0, all.0), all.1)
earliest_each moment (mark ∷ marks) (suc place) l there =
    earliest_each (earlier moment mark.start) marks place (omega (arith, l)) there

-- what is the earliest is the first moment or a start
earliest_more : (moment : ℕ) (mark : Mark) (marks : List Mark)
    → (earlier moment mark.start ≡ moment) ⊎ (earlier moment mark.start ≡ mark.start)
    → (earliest (earlier moment mark.start) marks ≡ earlier moment mark.start)
    ⊎ HasStart marks (earliest (earlier moment mark.start) marks)
    → (earliest moment (mark ∷ marks) ≡ moment) ⊎ HasStart (mark ∷ marks) (earliest moment (mark ∷ marks))
earliest_more moment mark marks (inl before) (inl e) = inl (e ∙ before)
earliest_more moment mark marks (inr after) (inl e) = inr (0, omega arith, sym (e ∙ after))
earliest_more moment mark marks order (inr found) = inr (suc found.0, omega (arith, found.1), found.2)

earliest_is : (moment : ℕ) (marks : List Mark)
    → (earliest moment marks ≡ moment) ⊎ HasStart marks (earliest moment marks)
earliest_is moment [] = inl refl
earliest_is moment (mark ∷ marks) =
    earliest_more moment mark marks (earlier_is moment mark.start)
    (earliest_is (earlier moment mark.start) marks)

earliest_none : (marks : List Mark) → ((place : ℕ) → place < length marks → (mark_at marks place).start ≡ 0)
    → earliest 0 marks ≡ 0
earliest_none [] none = refl
earliest_none (mark ∷ marks) none =
    rw (earlier_none mark.start (none 0 (omega arith)))
    (earliest_none marks (λ place l. none (suc place) (omega (arith, l))))

-- a start that there is begins the scale, and the last moment does where there is none
chosen : (start last : ℕ) → 0 < start → (if start == 0 then last else start) ≡ start
chosen zero last l = absurd (omega (arith, l))
chosen (suc start) last l = rw (positive start) refl

not_chosen : (start last : ℕ) → start ≡ 0 → (if start == 0 then last else start) ≡ last
not_chosen zero last e = refl
not_chosen (suc start) last e = absurd (omega (arith, e))

first_is : (marks : List Mark) → 0 < earliest 0 marks → first_of marks ≡ earliest 0 marks
first_is marks l = chosen (earliest 0 marks) (last_of marks) l

first_found : (marks : List Mark) → 0 < earliest 0 marks
    → (earliest 0 marks ≡ 0) ⊎ HasStart marks (earliest 0 marks) → HasStart marks (first_of marks)
first_found marks l (inl e) = absurd (omega (arith, l, e))
first_found marks l (inr found) = (found.0, found.1, found.2 ∙ sym (first_is marks l))

latest_above : (moment : ℕ) (marks : List Mark) → moment ≤ latest moment marks
latest_above moment [] = omega arith
latest_above moment (mark ∷ marks) =
    omega (
      arith,
      latest_above (max (max moment mark.start) mark.end) marks,
      le-max_left moment mark.start,
      le-max_left (max moment mark.start) mark.end,
    )

latest_each : (moment : ℕ) (marks : List Mark) (place : ℕ) → place < length marks
    → later_of (mark_at marks place) ≤ latest moment marks
latest_each moment [] place l = absurd (omega (arith, l))
latest_each moment (mark ∷ marks) zero l =
    omega (arith, latest_above (max (max moment mark.start) mark.end) marks)
latest_each moment (mark ∷ marks) (suc place) l =
    latest_each (max (max moment mark.start) mark.end) marks place (omega (arith, l))

-- what is the latest is the first moment or the later of a start and its end
latest_more : (moment : ℕ) (mark : Mark) (marks : List Mark)
    → (moment < later_of mark) ⊎ (later_of mark ≤ moment)
    → (latest (max (max moment mark.start) mark.end) marks ≡ max (max moment mark.start) mark.end)
    ⊎ HasMoment marks (latest (max (max moment mark.start) mark.end) marks)
    → (latest moment (mark ∷ marks) ≡ moment) ⊎ HasMoment (mark ∷ marks) (latest moment (mark ∷ marks))
latest_more moment mark marks (inl before) (inl e) = inr (0, omega arith, omega (arith, e, before))
latest_more moment mark marks (inr after) (inl e) = inl (omega (arith, e, after))
latest_more moment mark marks order (inr found) = inr (suc found.0, omega (arith, found.1), found.2)

latest_is : (moment : ℕ) (marks : List Mark)
    → (latest moment marks ≡ moment) ⊎ HasMoment marks (latest moment marks)
latest_is moment [] = inl refl
latest_is moment (mark ∷ marks) =
    latest_more moment mark marks (cases_lt moment (later_of mark))
    (latest_is (max (max moment mark.start) mark.end) marks)

last_found : (mark : Mark) (marks : List Mark)
    → (last_of (mark ∷ marks) ≡ 0) ⊎ HasMoment (mark ∷ marks) (last_of (mark ∷ marks))
    → HasMoment (mark ∷ marks) (last_of (mark ∷ marks))
last_found mark marks (inl e) =
    (0, omega arith, omega (arith, e, latest_each 0 (mark ∷ marks) 0 (omega arith)))
last_found mark marks (inr found) = found

pub scale_holds : (marks : List Mark) (place : ℕ) → place < length marks → 0 < (mark_at marks place).start
    → first_of marks ≤ (mark_at marks place).start
scale_holds marks place l there =
    let each = earliest_each 0 marks place l there in
    omega (arith, first_is marks each.1, each.0)

pub scale_follows : (marks : List Mark) (place : ℕ) → place < length marks
    → max (mark_at marks place).start (mark_at marks place).end ≤ last_of marks
scale_follows marks place l = latest_each 0 marks place l

pub scale_begins : (marks : List Mark) (place : ℕ) → place < length marks → 0 < (mark_at marks place).start
    → HasStart marks (first_of marks)
scale_begins marks place l there =
    first_found marks (earliest_each 0 marks place l there).1 (earliest_is 0 marks)

pub scale_ends : (marks : List Mark) → 0 < length marks → HasMoment marks (last_of marks)
scale_ends [] l = absurd (omega (arith, l))
scale_ends (mark ∷ marks) l = last_found mark marks (latest_is 0 (mark ∷ marks))

pub scale_none : (marks : List Mark) → ((place : ℕ) → place < length marks → (mark_at marks place).start ≡ 0)
    → first_of marks ≡ last_of marks
scale_none marks none = not_chosen (earliest 0 marks) (last_of marks) (earliest_none marks none)
