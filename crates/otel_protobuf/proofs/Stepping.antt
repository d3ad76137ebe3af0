-- The fields of a message, one after the other.
use Rattle.std.proofs.Common.{◌≡◌, ℕ, zero, suc, ◌-◌, ◌<◌, List, [], ◌∷◌, length, Some, None, ap, refl, arith, sub-one}
use Rattle.std.specs.Prelude.{option_and_then, option_map}
use Rattle.otel_protobuf.specs.Reading.{Raw, Read, read_field, read_fields}

module _ (read_number : List ℕ → Read ℕ) where
  -- where one is read, the others come after it
  pub first_read : (more : ℕ) (rest after : List ℕ) (f : ℕ × Raw) → 0 < more → 0 < length rest
      → read_field read_number rest ≡ Some (f, after)
      → read_fields read_number more rest ≡ option_map (λ fs. f ∷ fs) (read_fields read_number (more - 1) after)
  unfolding read_fields
  first_read zero rest after f some there e = absurd (omega arith)
  first_read (suc more) [] after f some there e = absurd (omega arith)
  first_read (suc more) (b ∷ bs) after f some there e =
      rw sub-one
      (ap (option_and_then (λ r. option_map (λ fs. r.0 ∷ fs) (read_fields read_number more r.1))) e)

  -- where one is not read, none is
  pub none_read : (more : ℕ) (rest : List ℕ) → 0 < length rest → read_field read_number rest ≡ None
      → read_fields read_number more rest ≡ None
  unfolding read_fields
  none_read more [] there e = absurd (omega arith)
  none_read zero (b ∷ bs) there e = refl
  none_read (suc more) (b ∷ bs) there e =
      ap (option_and_then (λ r. option_map (λ fs. r.0 ∷ fs) (read_fields read_number more r.1))) e

  -- where no byte is left, there is no more
  pub all_read : (more : ℕ) (rest : List ℕ) → rest ≡ [] → read_fields read_number more rest ≡ Some []
  unfolding read_fields
  all_read more rest e = rw e refl

  -- where bytes are left and no step is, they are not read
  pub too_many : (more : ℕ) (rest : List ℕ) → more ≡ 0 → 0 < length rest → read_fields read_number more rest ≡ None
  unfolding read_fields
  too_many zero [] e there = absurd (omega arith)
  too_many zero (b ∷ bs) e there = refl
  too_many (suc more) rest e there = absurd (omega arith)
