-- How the chunks of a queue hold its items.
use Rattle.std.specs.Prelude.{◌≡◌, ℕ, zero, suc, ◌+◌, ◌/◌, ◌^◌, ◌<◌, ◌≤◌, List, [], ◌∷◌, ◌++◌, length, take, drop}
use Rattle.std.specs.Prelude.{Option, Some, None, ◌==◌, ◌⊎◌, true, false, slice_get}
use Rattle.circular_buffer.specs.Buffer.{Buffer, buffer}
use Rattle.circular_buffer.specs.Places.{Wraps}

module _ {X : Type 0} where
  -- the chunks from a place on, round the end of the list
  unfoldable pub circle : ℕ → List (Buffer X) → List (Buffer X)
  circle head cs = drop head cs ++ take head cs

  -- the items of the chunks, one chunk after another
  abbrev pub items_of : List (Buffer X) → List X
  items_of [] = []
  items_of (b ∷ bs) = b.items ++ items_of bs

  abbrev pub len_of : Option (Buffer X) → ℕ
  len_of None = 0
  len_of (Some b) = length b.items

  -- how many items the chunk at a place holds
  abbrev pub len_at : ℕ → List (Buffer X) → ℕ
  len_at k bs = len_of (slice_get bs k)

  abbrev pub IsChunk : Buffer X → Type 0
  IsChunk b = (b.capacity ≡ 64) × (length b.items ≤ 64)

  abbrev pub AllEmpty : List (Buffer X) → Type 0
  AllEmpty [] = Unit {0}
  AllEmpty (b ∷ bs) = (b ≡ buffer [] 64) × AllEmpty bs

  -- so many full chunks, the tail, and then empty chunks
  abbrev pub IsFilled : ℕ → List (Buffer X) → Type 0
  IsFilled k [] = ⊥
  IsFilled zero (b ∷ bs) = IsChunk b × AllEmpty bs
  IsFilled (suc k) (b ∷ bs) = IsChunk b × (length b.items ≡ 64) × IsFilled k bs

  -- the head, full chunks, the tail that lies so many steps after the head, and then empty chunks
  abbrev pub IsLaid : ℕ → List (Buffer X) → Type 0
  IsLaid k [] = ⊥
  IsLaid zero (b ∷ bs) = IsChunk b × AllEmpty bs
  IsLaid (suc k) (b ∷ bs) = IsChunk b × IsFilled k bs

  -- what holds of the fields of a queue
  pub record IsQueue (cs : List (Buffer X)) (head tail_steps len limit : ℕ) : Type 0 where
    pub chunks : (length cs ≡ limit / 64 + 2) × (limit < 2 ^ 63)
    pub place : head < length cs
    pub laid : IsLaid tail_steps (circle head cs)
    pub count : (len ≡ length (items_of (circle head cs))) × (len ≤ limit)

  -- so it is where the tail lies at that place
  pub record IsQueueTo (cs : List (Buffer X)) (head tail len limit : ℕ) : Type 0 where
    pub steps : ℕ
    pub queue : IsQueue cs head steps len limit
    pub at : Wraps head steps (length cs) tail

  -- the oldest item is at the place p where the head lies at this one: after an empty chunk
  pub record TakesAt (cs : List (Buffer X)) (head p : ℕ) : Type 0 where
    pub chunk : Buffer X
    pub is : slice_get cs head ≡ Some chunk
    pub place : (((length chunk.items == 0) ≡ true) × Wraps head 1 (length cs) p)
        ⊎ (((length chunk.items == 0) ≡ false) × (p ≡ head))
