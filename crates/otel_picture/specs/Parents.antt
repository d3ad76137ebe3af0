-- The parents of a trace's spans. A span is a number, its place in order of export; of each the number of its parent is
-- known, or that no parent is in the picture.
use Rattle.std.specs.Prelude.{◌≡◌, ◌<◌, ℕ, zero, suc, Option, Some, None, List, get_or, length, option_and_then}

-- the parent of a span
abbrev pub parent_of : List (Option ℕ) → ℕ → Option ℕ
parent_of parents span = get_or parents span None

-- each parent is a span of the picture
abbrev pub AreKnown : List (Option ℕ) → Type 0
AreKnown parents = (span parent : ℕ) → parent_of parents span ≡ Some parent → parent < length parents

-- a span has so many ancestors in the picture. In a circle, and under one, no span has
abbrev pub HasAncestors : List (Option ℕ) → ℕ → ℕ → Type 0
HasAncestors parents zero span = parent_of parents span ≡ None
HasAncestors parents (suc count) span =
    (parent : ℕ) × (parent_of parents span ≡ Some parent) × HasAncestors parents count parent

-- the span that is so many steps above another: itself, its parent, the parent's parent
abbrev pub ancestor : List (Option ℕ) → ℕ → ℕ → Option ℕ
ancestor parents zero span = Some span
ancestor parents (suc steps) span = option_and_then (parent_of parents) (ancestor parents steps span)
