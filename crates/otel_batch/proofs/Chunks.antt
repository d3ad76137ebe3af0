-- Which items chunks hold one after another, and what a put, a taking and an empty head leave.
use Rattle.std.proofs.Common.{◌≡◌, ℕ, zero, suc, ◌+◌, ◌-◌, ◌*◌, ◌/◌, ◌%◌, ◌<◌, ◌≤◌, List, [], ◌∷◌, ◌++◌, length, take, drop, set, replicate, slice_get, Some}
use Rattle.std.proofs.Common.{refl, sym, ap, ◌∙◌, subst, arith, append_assoc, append-nil, length-append, length-drop}
use Rattle.std.proofs.lemmas.List.{nil_from_length, drop-append-le}
use Rattle.std.proofs.lemmas.Option.{same_Some, none-some}
use Rattle.circular_buffer.specs.Buffer.{Buffer, buffer}
use Rattle.circular_buffer.proofs.Places.{slice_get-append_left, slice_get-append_right}
use Rattle.otel_batch.specs.SpanQueue.{items_of, len_at, IsChunk, AllEmpty, IsFilled, IsLaid}

pub AllEmpty-replicate : (X : Type 0) (n : ℕ) → AllEmpty {X = X} (replicate n (buffer [] 64))
AllEmpty-replicate X zero = tt
AllEmpty-replicate X (suc n) = (refl, AllEmpty-replicate X n)

module _ {X : Type 0} where
  -- what empty chunks hold
  pub items_of-empty : (bs : List (Buffer X)) → AllEmpty bs → items_of bs ≡ []
  items_of-empty [] h = refl
  items_of-empty (b ∷ bs) h = ap (λ (c : Buffer X). c.items ++ items_of bs) h.0 ∙ items_of-empty bs h.1

  items_of-append : (fs bs : List (Buffer X)) → items_of (fs ++ bs) ≡ items_of fs ++ items_of bs
  items_of-append [] bs = refl
  items_of-append (a ∷ fs) bs = ap (λ l. a.items ++ l) (items_of-append fs bs) ∙ sym (append_assoc a.items (items_of fs) (items_of bs))

  is_chunk_empty : (b : Buffer X) → b ≡ buffer [] 64 → IsChunk b
  is_chunk_empty b e = subst IsChunk (sym e) (refl, omega arith)

  AllEmpty-push : (bs : List (Buffer X)) (b : Buffer X) → AllEmpty bs → b ≡ buffer [] 64 → AllEmpty (bs ++ b ∷ [])
  AllEmpty-push [] b h e = (e, tt)
  AllEmpty-push (a ∷ bs) b h e = (h.0, AllEmpty-push bs b h.1 e)

  empty_chunk : (bs : List (Buffer X)) (j : ℕ) (c : Buffer X) → AllEmpty bs → slice_get bs j ≡ Some c → IsChunk c
  empty_chunk [] j c h e = absurd (none-some c e)
  empty_chunk (b ∷ bs) zero c h e = is_chunk_empty c (sym (same_Some b c e) ∙ h.0)
  empty_chunk (b ∷ bs) (suc j) c h e = empty_chunk bs j c h.1 e

  filled_chunk : (k : ℕ) (bs : List (Buffer X)) (j : ℕ) (c : Buffer X) → IsFilled k bs → slice_get bs j ≡ Some c → IsChunk c
  filled_chunk k [] j c h e = absurd h
  filled_chunk zero (b ∷ bs) zero c h e = subst IsChunk (same_Some b c e) h.0
  filled_chunk zero (b ∷ bs) (suc j) c h e = empty_chunk bs j c h.1 e
  filled_chunk (suc k) (b ∷ bs) zero c h e = subst IsChunk (same_Some b c e) h.0
  filled_chunk (suc k) (b ∷ bs) (suc j) c h e = filled_chunk k bs j c h.2 e

  -- each chunk has 64 places
  pub laid_chunk : (k : ℕ) (bs : List (Buffer X)) (j : ℕ) (c : Buffer X) → IsLaid k bs → slice_get bs j ≡ Some c → IsChunk c
  laid_chunk k [] j c h e = absurd h
  laid_chunk zero (b ∷ bs) zero c h e = subst IsChunk (same_Some b c e) h.0
  laid_chunk zero (b ∷ bs) (suc j) c h e = empty_chunk bs j c h.1 e
  laid_chunk (suc k) (b ∷ bs) zero c h e = subst IsChunk (same_Some b c e) h.0
  laid_chunk (suc k) (b ∷ bs) (suc j) c h e = filled_chunk k bs j c h.1 e

  filled_within : (k : ℕ) (bs : List (Buffer X)) → IsFilled k bs → k < length bs
  filled_within k [] h = absurd h
  filled_within zero (b ∷ bs) h = omega arith
  filled_within (suc k) (b ∷ bs) h = let rest = filled_within k bs h.2 in omega arith

  -- the tail is one of the chunks
  pub laid_within : (k : ℕ) (bs : List (Buffer X)) → IsLaid k bs → k < length bs
  laid_within k [] h = absurd h
  laid_within zero (b ∷ bs) h = omega arith
  laid_within (suc k) (b ∷ bs) h = let rest = filled_within k bs h.1 in omega arith

  -- how many items there are where the tail is full
  length-filled : (k : ℕ) (bs : List (Buffer X)) → IsFilled k bs → length (items_of bs) ≡ 64 * k + len_at k bs
  length-filled k [] h = absurd h
  length-filled zero (b ∷ bs) h = omega (arith, length-append b.items (items_of bs), ap length (items_of-empty bs h.1))
  length-filled (suc k) (b ∷ bs) h = omega (arith, length-append b.items (items_of bs), length-filled k bs h.2, h.1)

  laid_full : (k : ℕ) (bs : List (Buffer X)) → IsLaid k bs → len_at k bs ≡ 64 → 64 * k ≤ length (items_of bs)
  laid_full k [] h e = absurd h
  laid_full zero (b ∷ bs) h e = omega arith
  laid_full (suc k) (b ∷ bs) h e = omega (arith, length-append b.items (items_of bs), length-filled k bs h.1)

  one_more : (bs : List (Buffer X)) → AllEmpty bs → 0 < length bs → IsFilled 0 bs × (len_at 0 bs ≡ 0)
  one_more [] h lt = absurd (omega arith)
  one_more (b ∷ bs) h lt = ((is_chunk_empty b h.0, h.1), ap (λ (c : Buffer X). length c.items) h.0)

  filled_more : (k : ℕ) (bs : List (Buffer X)) → IsFilled k bs → len_at k bs ≡ 64 → k + 1 < length bs → IsFilled (suc k) bs × (len_at (suc k) bs ≡ 0)
  filled_more k [] h e lt = absurd h
  filled_more zero (b ∷ bs) h e lt = let more = one_more bs h.1 (omega arith) in ((h.0, e, more.0), more.1)
  filled_more (suc k) (b ∷ bs) h e lt = let more = filled_more k bs h.2 e (omega arith) in ((h.0, h.1, more.0), more.1)

  laid_more : (k : ℕ) (bs : List (Buffer X)) → IsLaid k bs → len_at k bs ≡ 64 → k + 1 < length bs → IsLaid (suc k) bs × (len_at (suc k) bs ≡ 0)
  laid_more k [] h e lt = absurd h
  laid_more zero (b ∷ bs) h e lt = let more = one_more bs h.1 (omega arith) in ((h.0, more.0), more.1)
  laid_more (suc k) (b ∷ bs) h e lt = let more = filled_more k bs h.1 e (omega arith) in ((h.0, more.0), more.1)

  -- after a full tail there is an empty chunk, where the items leave room for it
  pub record NextTail (k : ℕ) (bs : List (Buffer X)) : Type 0 where
    pub within : k + 1 < length bs
    pub laid : IsLaid (k + 1) bs
    pub room : len_at (k + 1) bs < 64

  pub next_tail : (k : ℕ) (bs : List (Buffer X)) → IsLaid k bs → len_at k bs ≡ 64 → length (items_of bs) < 64 * (length bs - 1) → NextTail k bs
  next_tail k bs h e room =
      let within : k + 1 < length bs = omega (arith, laid_full k bs h e) in
      let more = laid_more k bs h e within in
      let one : suc k ≡ k + 1 = omega arith in
      let empty : len_at (k + 1) bs ≡ 0 = subst (λ m. len_at m bs ≡ 0) one more.1 in
      record { within = within; laid = subst (λ m. IsLaid m bs) one more.0; room = omega arith }

  -- c with an item more, and with its first item gone
  abbrev pub put_in : Buffer X → X → Buffer X
  put_in c x = buffer (c.items ++ x ∷ []) c.capacity

  abbrev pub taken_from : Buffer X → Buffer X
  taken_from c = buffer (drop 1 c.items) c.capacity

  put_chunk : (c : Buffer X) (x : X) → IsChunk c → length c.items < 64 → IsChunk (put_in c x)
  put_chunk c x h lt = (h.0, omega (arith, length-append c.items (x ∷ [])))

  -- an item that is put after all others
  items_of-put_last : (b : Buffer X) (bs : List (Buffer X)) (x : X) → AllEmpty bs → items_of (put_in b x ∷ bs) ≡ items_of (b ∷ bs) ++ x ∷ []
  items_of-put_last b bs x h =
      let none = items_of-empty bs h in
      ap (λ l. (b.items ++ x ∷ []) ++ l) none ∙ append-nil (b.items ++ x ∷ []) ∙ ap (λ l. l ++ x ∷ []) (sym (append-nil b.items) ∙ ap (λ l. b.items ++ l) (sym none))

  abbrev Puts : (ℕ → List (Buffer X) → Type 0) → ℕ → List (Buffer X) → Buffer X → X → Type 0
  Puts Laid k bs c x = Laid k (set bs k (put_in c x)) × (items_of (set bs k (put_in c x)) ≡ items_of bs ++ x ∷ [])

  filled_put : (k : ℕ) (bs : List (Buffer X)) (c : Buffer X) (x : X) → IsFilled k bs → slice_get bs k ≡ Some c → length c.items < 64 → Puts IsFilled k bs c x
  filled_put k [] c x h e lt = absurd h
  filled_put zero (b ∷ bs) c x h e lt =
      let same = same_Some b c e in
      let room : length b.items < 64 = subst (λ (d : Buffer X). length d.items < 64) (sym same) lt in
      subst (λ (d : Buffer X). Puts IsFilled zero (b ∷ bs) d x) same ((put_chunk b x h.0 room, h.1), items_of-put_last b bs x h.1)
  filled_put (suc k) (b ∷ bs) c x h e lt =
      let rest = filled_put k bs c x h.2 e lt in
      ((h.0, h.1, rest.0), ap (λ l. b.items ++ l) rest.1 ∙ sym (append_assoc b.items (items_of bs) (x ∷ [])))

  pub laid_put : (k : ℕ) (bs : List (Buffer X)) (c : Buffer X) (x : X) → IsLaid k bs → slice_get bs k ≡ Some c → length c.items < 64 → Puts IsLaid k bs c x
  laid_put k [] c x h e lt = absurd h
  laid_put zero (b ∷ bs) c x h e lt =
      let same = same_Some b c e in
      let room : length b.items < 64 = subst (λ (d : Buffer X). length d.items < 64) (sym same) lt in
      subst (λ (d : Buffer X). Puts IsLaid zero (b ∷ bs) d x) same ((put_chunk b x h.0 room, h.1), items_of-put_last b bs x h.1)
  laid_put (suc k) (b ∷ bs) c x h e lt =
      let rest = filled_put k bs c x h.1 e lt in
      ((h.0, rest.0), ap (λ l. b.items ++ l) rest.1 ∙ sym (append_assoc b.items (items_of bs) (x ∷ [])))

  -- an item that is taken from the head
  pub record Takes (k : ℕ) (bs : List (Buffer X)) (c : Buffer X) : Type 0 where
    pub laid : IsLaid k (set bs 0 (taken_from c))
    pub items : items_of (set bs 0 (taken_from c)) ≡ drop 1 (items_of bs)
    pub value : slice_get c.items 0 ≡ slice_get (items_of bs) 0

  taken_chunk : (c : Buffer X) → IsChunk c → IsChunk (taken_from c)
  taken_chunk c h = (h.0, omega (arith, length-drop 1 c.items))

  laid_head : (k : ℕ) (b d : Buffer X) (bs : List (Buffer X)) → IsLaid k (b ∷ bs) → IsChunk d → IsLaid k (d ∷ bs)
  laid_head zero b d bs h chunk = (chunk, h.1)
  laid_head (suc k) b d bs h chunk = (chunk, h.1)

  pub laid_take : (k : ℕ) (bs : List (Buffer X)) (c : Buffer X) → IsLaid k bs → slice_get bs 0 ≡ Some c → 0 < length c.items → Takes k bs c
  laid_take k [] c h e lt = absurd h
  laid_take k (b ∷ bs) c h e lt =
      let same = same_Some b c e in
      let some : 0 < length b.items = subst (λ (d : Buffer X). 0 < length d.items) (sym same) lt in
      subst (λ (d : Buffer X). Takes k (b ∷ bs) d) same (record {
        laid = laid_head k b (taken_from b) bs h (taken_chunk b (laid_chunk k (b ∷ bs) 0 b h refl));
        items = sym (drop-append-le 1 b.items (items_of bs) (omega arith));
        value = sym (slice_get-append_left b.items (items_of bs) 0 some);
      })

  -- an empty head makes way for the chunk after it
  pub record Advances (k : ℕ) (bs : List (Buffer X)) : Type 0 where
    pub steps : 0 < k
    pub laid : IsLaid (k - 1) (drop 1 bs ++ take 1 bs)
    pub items : items_of (drop 1 bs ++ take 1 bs) ≡ items_of bs
    pub some : 0 < len_at 0 (drop 1 bs ++ take 1 bs)

  filled_push : (k : ℕ) (bs : List (Buffer X)) (b : Buffer X) → IsFilled k bs → b ≡ buffer [] 64 → IsFilled k (bs ++ b ∷ [])
  filled_push k [] b h e = absurd h
  filled_push zero (a ∷ bs) b h e = (h.0, AllEmpty-push bs b h.1 e)
  filled_push (suc k) (a ∷ bs) b h e = (h.0, h.1, filled_push k bs b h.2 e)

  laid_from_filled : (k : ℕ) (bs : List (Buffer X)) → IsFilled k bs → IsLaid k bs
  laid_from_filled k [] h = absurd h
  laid_from_filled zero (b ∷ bs) h = h
  laid_from_filled (suc k) (b ∷ bs) h = (h.0, h.2)

  filled_some : (k : ℕ) (bs : List (Buffer X)) (b : Buffer X) → IsFilled k bs → 0 < length (items_of bs) → 0 < len_at 0 (bs ++ b ∷ [])
  filled_some k [] b h lt = absurd h
  filled_some zero (a ∷ bs) b h lt = omega (arith, length-append a.items (items_of bs), ap length (items_of-empty bs h.1))
  filled_some (suc k) (a ∷ bs) b h lt = omega (arith, h.1)

  is_empty_chunk : (b : Buffer X) → IsChunk b → length b.items ≡ 0 → b ≡ buffer [] 64
  is_empty_chunk b h e = ap (λ xs. buffer xs b.capacity) (nil_from_length b.items e) ∙ ap (λ n. buffer [] n) h.0

  pub laid_advance : (k : ℕ) (bs : List (Buffer X)) → IsLaid k bs → len_at 0 bs ≡ 0 → 0 < length (items_of bs) → Advances k bs
  laid_advance k [] h e lt = absurd h
  laid_advance zero (b ∷ bs) h e lt = absurd (omega (arith, length-append b.items (items_of bs), ap length (items_of-empty bs h.1)))
  laid_advance (suc k) (b ∷ bs) h e lt =
      let empty = is_empty_chunk b h.0 e in
      let none = nil_from_length b.items e in
      let back : k ≡ suc k - 1 = omega arith in
      record {
        steps = omega arith;
        laid = subst (λ m. IsLaid m (bs ++ b ∷ [])) back (laid_from_filled k (bs ++ b ∷ []) (filled_push k bs b h.1 empty));
        items = items_of-append bs (b ∷ []) ∙ ap (λ l. items_of bs ++ (l ++ [])) none ∙ append-nil (items_of bs) ∙ ap (λ l. l ++ items_of bs) (sym none);
        some = filled_some k bs b h.1 (omega (arith, length-append b.items (items_of bs)));
      }

  -- the item at an index, counted from a chunk of which none before the tail is short
  filled_item : (k q r : ℕ) (bs : List (Buffer X)) (c : Buffer X) → IsFilled k bs → q ≤ k → r < 64 → slice_get bs q ≡ Some c → slice_get (items_of bs) (64 * q + r) ≡ slice_get c.items r
  filled_item k q r [] c h le lt e = absurd h
  filled_item zero zero r (b ∷ bs) c h le lt e =
      let at : 64 * zero + r ≡ r = omega arith in
      ap (slice_get (items_of (b ∷ bs))) at ∙ ap (λ l. slice_get (b.items ++ l) r) (items_of-empty bs h.1) ∙ ap (λ l. slice_get l r) (append-nil b.items) ∙ ap (λ (d : Buffer X). slice_get d.items r) (same_Some b c e)
  filled_item zero (suc q) r (b ∷ bs) c h le lt e = absurd (omega arith)
  filled_item (suc k) zero r (b ∷ bs) c h le lt e =
      let at : 64 * zero + r ≡ r = omega arith in
      ap (slice_get (items_of (b ∷ bs))) at ∙ slice_get-append_left b.items (items_of bs) r (omega (arith, h.1)) ∙ ap (λ (d : Buffer X). slice_get d.items r) (same_Some b c e)
  filled_item (suc k) (suc q) r (b ∷ bs) c h le lt e =
      slice_get-append_right b.items (items_of bs) (64 * suc q + r) (64 * q + r) (omega (arith, h.1)) ∙ filled_item k q r bs c h.2 (omega arith) lt e

  filled_len : (k : ℕ) (bs : List (Buffer X)) → IsFilled k bs → len_at k bs ≤ 64
  filled_len k [] h = absurd h
  filled_len zero (b ∷ bs) h = h.0.1
  filled_len (suc k) (b ∷ bs) h = filled_len k bs h.2

  -- the items of the head, and after it those of a chunk of 64 each
  pub head_item : (k i : ℕ) (bs : List (Buffer X)) (c : Buffer X) → IsLaid k bs → slice_get bs 0 ≡ Some c → i < length c.items → slice_get c.items i ≡ slice_get (items_of bs) i
  head_item k i [] c h e lt = absurd h
  head_item k i (b ∷ bs) c h e lt =
      let same = same_Some b c e in
      subst (λ (d : Buffer X). slice_get d.items i ≡ slice_get (items_of (b ∷ bs)) i) same
      (sym (slice_get-append_left b.items (items_of bs) i (subst (λ (d : Buffer X). i < length d.items) (sym same) lt)))

  pub rest_within : (k i : ℕ) (bs : List (Buffer X)) → IsLaid k bs → len_at 0 bs ≤ i → i < length (items_of bs) → (i - len_at 0 bs) / 64 + 1 ≤ k
  rest_within k i [] h le lt = absurd h
  rest_within zero i (b ∷ bs) h le lt = absurd (omega (arith, length-append b.items (items_of bs), ap length (items_of-empty bs h.1)))
  rest_within (suc k) i (b ∷ bs) h le lt =
      omega (arith, length-append b.items (items_of bs), length-filled k bs h.1, filled_len k bs h.1)

  pub rest_item : (k i : ℕ) (bs : List (Buffer X)) (c : Buffer X) → IsLaid k bs → len_at 0 bs ≤ i → i < length (items_of bs)
      → slice_get bs ((i - len_at 0 bs) / 64 + 1) ≡ Some c → slice_get c.items ((i - len_at 0 bs) % 64) ≡ slice_get (items_of bs) i
  rest_item k i [] c h le lt e = absurd h
  rest_item zero i (b ∷ bs) c h le lt e = absurd (omega (arith, length-append b.items (items_of bs), ap length (items_of-empty bs h.1)))
  rest_item (suc k) i (b ∷ bs) c h le lt e =
      let j = i - length b.items in
      let one : j / 64 + 1 ≡ suc (j / 64) = omega arith in
      let at : i ≡ length b.items + (64 * (j / 64) + j % 64) = omega arith in
      let here : slice_get bs (j / 64) ≡ Some c = subst (λ m. slice_get (b ∷ bs) m ≡ Some c) one e in
      sym (slice_get-append_right b.items (items_of bs) i (64 * (j / 64) + j % 64) at
      ∙ filled_item k (j / 64) (j % 64) bs c h.1 (omega (arith, rest_within (suc k) i (b ∷ bs) h le lt)) (omega arith) here)
