-- The places of spans by trace, as they are found.
use Rattle.std.specs.Prelude.{◌≡◌, ◌<◌, ◌≤◌, ◌≢◌, ℕ, false, List, [], ◌∷◌, ◌++◌, get_or, length, nat_eq, set}
use Rattle.std.specs.List.{list_any}
use Rattle.otel_shown.specs.Shown.{PlainShownSpan}
use Rattle.otel_picture.specs.Families.{is_of, places_below}
use Rattle.otel_picture.specs.declared.families.Group.{Group}

-- a group of these places
pub record IsGroup (trace : ℕ) (places : List ℕ) (group : Group) : Type 0 where
  pub trace_is : group.trace_id ≡ trace
  pub places_are : group.places.items ≡ places

-- a place was added to the group of a number, or a group with it, where there was no such number
pub record IsAdded (old : List Group) (number trace place : ℕ) (new : List Group) : Type 0 where
  pub joins : (old_group : Group) → number < length old → (group : Group)
      × IsGroup (get_or old number old_group).trace_id ((get_or old number old_group).places.items ++ place ∷ []) group
      × (new ≡ set old number group)
  pub begins : length old ≤ number → (group : Group) × IsGroup trace (place ∷ []) group × (new ≡ old ++ group ∷ [])

-- the groups of the spans before a count, one for each of these traces
pub record AreGroups (spans : List PlainShownSpan) (count : ℕ) (traces : List ℕ) (groups : List Group) : Type 0 where
  pub alike : length groups ≡ length traces
  pub distinct : (one other : ℕ) → one < other → other < length traces → get_or traces one 0 ≢ get_or traces other 0
  pub each : (number : ℕ) (group : Group) → number < length traces
      → IsGroup (get_or traces number 0) (places_below (is_of spans (get_or traces number 0)) count)
      (get_or groups number group)
  pub others : (trace : ℕ) → list_any (nat_eq trace) traces ≡ false → places_below (is_of spans trace) count ≡ []
