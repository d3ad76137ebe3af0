-- Writes to the first slot one after another.
use Rattle.std.proofs.Common.{◌≡◌, sym, ap, List, [], ◌∷◌, Some, None, slice_get, slice_set}
use Rattle.circular_buffer.proofs.Places.{slice_get-set_same}
use Rattle.otel_batch.specs.declared.machine.state.Slot.{Slot}
use Rattle.otel_batch.proofs.SlotSums.{slice_get-within}

-- a slot that is put where one is
pub put_get : (l : List Slot) (old new : Slot) → slice_get l 0 ≡ Some old → slice_get (slice_set l 0 new) 0 ≡ Some new
put_get l old new at = slice_get-set_same l 0 new (slice_get-within l 0 old at)

-- the slot is again what it was
pub put_twice : (l : List Slot) (old x : Slot) → slice_get l 0 ≡ Some old → slice_set (slice_set l 0 x) 0 old ≡ l
put_twice [] old x at = absurd (let no : None ≡ Some old = at in cc)
put_twice (y ∷ ys) old x at = let is : y ≡ old = cc in ap (λ z. z ∷ ys) (sym is)

pub put_thrice : (l : List Slot) (old x y : Slot) → slice_get l 0 ≡ Some old →
    slice_set (slice_set (slice_set l 0 x) 0 y) 0 old ≡ l
put_thrice [] old x y at = absurd (let no : None ≡ Some old = at in cc)
put_thrice (z ∷ zs) old x y at = let is : z ≡ old = cc in ap (λ w. w ∷ zs) (sym is)

pub put_four : (l : List Slot) (old x y z : Slot) → slice_get l 0 ≡ Some old →
    slice_set (slice_set (slice_set (slice_set l 0 x) 0 y) 0 z) 0 old ≡ l
put_four [] old x y z at = absurd (let no : None ≡ Some old = at in cc)
put_four (v ∷ vs) old x y z at = let is : v ≡ old = cc in ap (λ w. w ∷ vs) (sym is)

pub put_five : (l : List Slot) (old x y z u : Slot) → slice_get l 0 ≡ Some old →
    slice_set (slice_set (slice_set (slice_set (slice_set l 0 x) 0 y) 0 z) 0 u) 0 old ≡ l
put_five [] old x y z u at = absurd (let no : None ≡ Some old = at in cc)
put_five (v ∷ vs) old x y z u at = let is : v ≡ old = cc in ap (λ w. w ∷ vs) (sym is)
