-- A whole number in limbs of nine digits, the lowest first.
use Rattle.std.specs.Prelude.{ℕ, ◌+◌, ◌-◌, ◌*◌, ◌^◌, ◌<◌, ◌≤◌, List, [], ◌∷◌, length, take, slice_index}

abbrev pub limbs_value : List ℕ → ℕ
limbs_value [] = 0
limbs_value (limb ∷ limbs) = limb + 10 ^ 9 * limbs_value limbs

-- the number in the first len limbs
unfoldable pub value_of : List ℕ → ℕ → ℕ
value_of limbs len = limbs_value (take len limbs)

-- each limb has nine digits
abbrev pub AreLimbs : List ℕ → Type 0
AreLimbs limbs = (k : ℕ) → slice_index limbs k < 10 ^ 9

-- len limbs, of which the last is not 0
pub record AreInUse (limbs : List ℕ) (len : ℕ) : Type 0 where
  pub some : 3 ≤ len
  pub room : len ≤ length limbs
  pub top : 0 < slice_index limbs (len - 1)
