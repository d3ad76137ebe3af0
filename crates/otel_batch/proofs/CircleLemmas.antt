-- Chunks in a circle: which one lies how many steps after the head, and what a write and a step round leave.
use Rattle.std.proofs.Common.{◌≡◌, ℕ, suc, ◌+◌, ◌-◌, ◌<◌, List, [], ◌∷◌, ◌++◌, length, take, drop, set, slice_get, Some}
use Rattle.std.proofs.Common.{get_or, refl, sym, ap, ◌∙◌, subst, inl, inr, arith, append_assoc, append-nil, length-append, length-take, length-drop}
use Rattle.std.proofs.lemmas.List.{take-append-drop, take_at, drop_at, set-append_left, set-append_right, length-set, nil_from_length}
use Rattle.std.proofs.lemmas.Option.{slice_get_read}
use Rattle.circular_buffer.specs.Buffer.{Buffer}
use Rattle.circular_buffer.specs.Places.{Wraps}
use Rattle.circular_buffer.proofs.Places.{cut_front, slice_get-append_left, slice_get-append_right}
use Rattle.otel_batch.specs.SpanQueue.{circle}

-- one step more round the circle, and one step less from the next place on
pub wraps_more : (h k n p q : ℕ) → h < n → k + 1 < n → Wraps h k n p → Wraps p 1 n q → Wraps h (k + 1) n q
wraps_more h k n p q hl kl w v = elim w.1 [
  | inl e ↦ elim v.1 [ inl f ↦ (v.0, inl (omega arith)) | inr f ↦ (v.0, inr (omega arith)) ]
  | inr e ↦ elim v.1 [ inl f ↦ (v.0, inr (omega arith)) | inr f ↦ absurd (omega arith) ]
]

pub wraps_less : (h k n p t : ℕ) → h < n → k < n → 0 < k → Wraps h k n t → Wraps h 1 n p → Wraps p (k - 1) n t
wraps_less h k n p t hl kl some w v = elim w.1 [
  | inl e ↦ elim v.1 [ inl f ↦ (w.0, inl (omega arith)) | inr f ↦ absurd (omega (arith, w.0)) ]
  | inr e ↦ elim v.1 [ inl f ↦ (w.0, inr (omega arith)) | inr f ↦ (w.0, inl (omega arith)) ]
]

module _ {X : Type 0} where
  -- the circle of a list that is cut at its head
  circle_at : (h : ℕ) (fs bs : List (Buffer X)) → length fs ≡ h → circle h (fs ++ bs) ≡ bs ++ fs
  unfolding circle
  circle_at h fs bs e = ap (λ l. l ++ take h (fs ++ bs)) (drop_at fs bs h e) ∙ ap (λ l. bs ++ l) (take_at fs bs h e)

  abbrev IsCut : ℕ → List (Buffer X) → List (Buffer X) → Buffer X → List (Buffer X) → Type 0
  IsCut h cs fs b bs = (cs ≡ fs ++ b ∷ bs) × (length fs ≡ h)

  cut : (h : ℕ) (cs : List (Buffer X)) → h < length cs → (fs : List (Buffer X)) × (b : Buffer X) × (bs : List (Buffer X)) × IsCut h cs fs b bs
  cut h cs lt =
      let back = cut_front (drop h cs) (omega (arith, length-drop h cs)) in
      (take h cs, back.0, back.1, (sym (take-append-drop h cs) ∙ ap (λ l. take h cs ++ l) back.2, omega (arith, length-take h cs)))

  pub length-circle : (h : ℕ) (cs : List (Buffer X)) → h < length cs → length (circle h cs) ≡ length cs
  unfolding circle
  length-circle h cs lt = omega (arith, length-append (drop h cs) (take h cs), length-drop h cs, length-take h cs)

  slice_get_cut : (fs bs : List (Buffer X)) (j p : ℕ) → j < length fs + length bs → Wraps (length fs) j (length fs + length bs) p → slice_get (bs ++ fs) j ≡ slice_get (fs ++ bs) p
  slice_get_cut fs bs j p lt w = elim w.1 [
    | inl e ↦ slice_get-append_left bs fs j (omega (arith, w.0)) ∙ sym (slice_get-append_right fs bs p j e)
    | inr e ↦ slice_get-append_right bs fs j p (omega arith) ∙ sym (slice_get-append_left fs bs p (omega arith))
  ]

  set_cut : (fs bs : List (Buffer X)) (j p : ℕ) (c : Buffer X) → j < length fs + length bs → Wraps (length fs) j (length fs + length bs) p → circle (length fs) (set (fs ++ bs) p c) ≡ set (bs ++ fs) j c
  set_cut fs bs j p c lt w = elim w.1 [
    | inl e ↦
        let back : p - length fs ≡ j = omega arith in
        ap (circle (length fs)) (set-append_right fs bs (length fs) p c refl (omega arith) ∙ ap (λ k. fs ++ set bs k c) back)
        ∙ circle_at (length fs) fs (set bs j c) refl
        ∙ sym (set-append_left bs fs j c (omega (arith, w.0)))
    | inr e ↦
        let back : j - length bs ≡ p = omega arith in
        ap (circle (length fs)) (set-append_left fs bs p c (omega arith))
        ∙ circle_at (length fs) (set fs p c) bs (length-set fs p c)
        ∙ sym (set-append_right bs fs (length bs) j c refl (omega arith) ∙ ap (λ k. bs ++ set fs k c) back)
  ]

  -- the chunk that lies j steps after the head
  pub slice_get-circle : (h j p : ℕ) (cs : List (Buffer X)) → h < length cs → j < length cs → Wraps h j (length cs) p → slice_get (circle h cs) j ≡ slice_get cs p
  slice_get-circle h j p cs hl jl w =
      let k = cut h cs hl in
      let fs = k.0 in
      let bs = k.1 ∷ k.2 in
      let len : length cs ≡ length fs + length bs = ap length k.3.0 ∙ length-append fs bs in
      let w' : Wraps (length fs) j (length fs + length bs) p = subst (λ m. Wraps (length fs) j m p) len (subst (λ m. Wraps m j (length cs) p) (sym k.3.1) w) in
      ap (λ l. slice_get (circle h l) j) k.3.0
      ∙ ap (λ l. slice_get l j) (circle_at h fs bs k.3.1)
      ∙ slice_get_cut fs bs j p (omega arith) w'
      ∙ ap (λ l. slice_get l p) (sym k.3.0)

  -- c is that chunk
  pub chunk_at : (h j n p : ℕ) (cs : List (Buffer X)) (c : Buffer X) → h < length cs → j < length cs → n ≡ length cs → Wraps h j n p → c ≡ get_or cs p c → slice_get (circle h cs) j ≡ Some c
  chunk_at h j n p cs c hl jl e w is =
      slice_get-circle h j p cs hl jl (subst (λ m. Wraps h j m p) e w) ∙ slice_get_read cs n p c e w.0 is

  -- a write to the chunk that lies j steps after the head
  pub circle-set : (h j p : ℕ) (cs : List (Buffer X)) (c : Buffer X) → h < length cs → j < length cs → Wraps h j (length cs) p → circle h (set cs p c) ≡ set (circle h cs) j c
  circle-set h j p cs c hl jl w =
      let k = cut h cs hl in
      let fs = k.0 in
      let bs = k.1 ∷ k.2 in
      let len : length cs ≡ length fs + length bs = ap length k.3.0 ∙ length-append fs bs in
      let w' : Wraps (length fs) j (length fs + length bs) p = subst (λ m. Wraps (length fs) j m p) len (subst (λ m. Wraps m j (length cs) p) (sym k.3.1) w) in
      ap (λ l. circle h (set l p c)) k.3.0
      ∙ ap (λ m. circle m (set (fs ++ bs) p c)) (sym k.3.1)
      ∙ set_cut fs bs j p c (omega arith) w'
      ∙ ap (λ l. set l j c) (sym (circle_at h fs bs k.3.1))
      ∙ ap (λ l. set (circle h l) j c) (sym k.3.0)

  -- a step round the circle: the head becomes the last chunk
  next_cut : (fs bs : List (Buffer X)) (b : Buffer X) (p : ℕ) → Wraps (length fs) 1 (length fs + suc (length bs)) p → circle p (fs ++ b ∷ bs) ≡ (bs ++ fs) ++ b ∷ []
  next_cut fs bs b p w = elim w.1 [
    | inl e ↦
        ap (circle p) (sym (append_assoc fs (b ∷ []) bs))
        ∙ circle_at p (fs ++ b ∷ []) bs (length-append fs (b ∷ []) ∙ sym e)
        ∙ sym (append_assoc bs fs (b ∷ []))
    | inr e ↦
        let none : bs ≡ [] = nil_from_length bs (omega arith) in
        let start : p ≡ 0 = omega arith in
        ap (λ m. circle m (fs ++ b ∷ bs)) start
        ∙ circle_at 0 [] (fs ++ b ∷ bs) refl
        ∙ append-nil (fs ++ b ∷ bs)
        ∙ ap (λ l. fs ++ b ∷ l) none
        ∙ sym (ap (λ l. (l ++ fs) ++ b ∷ []) none)
  ]

  pub circle-next : (h p : ℕ) (cs : List (Buffer X)) → h < length cs → Wraps h 1 (length cs) p → circle p cs ≡ drop 1 (circle h cs) ++ take 1 (circle h cs)
  circle-next h p cs hl w =
      let k = cut h cs hl in
      let fs = k.0 in
      let b = k.1 in
      let bs = k.2 in
      let len : length cs ≡ length fs + suc (length bs) = ap length k.3.0 ∙ length-append fs (b ∷ bs) in
      let w' : Wraps (length fs) 1 (length fs + suc (length bs)) p = subst (λ m. Wraps (length fs) 1 m p) len (subst (λ m. Wraps m 1 (length cs) p) (sym k.3.1) w) in
      let turn : (b ∷ bs) ++ fs ≡ circle h cs = sym (ap (circle h) k.3.0 ∙ circle_at h fs (b ∷ bs) k.3.1) in
      ap (circle p) k.3.0 ∙ next_cut fs bs b p w' ∙ ap (λ l. drop 1 l ++ take 1 l) turn
