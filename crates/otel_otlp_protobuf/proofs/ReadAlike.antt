-- Fields that are read as the same ones: fields of one number, and those of greater ones after them.
use Rattle.std.proofs.Common.{◌≡◌, ◌<◌, ◌⊎◌, ℕ, Bool, true, false, cond, List, [], ◌∷◌, ◌++◌, Some, inl, inr}
use Rattle.std.proofs.Common.{refl, sym, subst, ◌∙◌, arith}
use Rattle.std.specs.List.{AllByRecursion}
use Rattle.otel_protobuf.specs.Reading.{AreReadAs, IsReadAs, Raw, ReadsAs}
use Rattle.otel_protobuf.specs.Wire.{Field, Fields, Wire, fields_of, one, unless_empty}
use Rattle.otel_protobuf.specs.Wire as wire

-- two lists of fields are read as the same fields
pub record Both (fs gs : List Field) : Type 0 where
  pub raws : List (ℕ × Raw)
  pub left : AreReadAs (fields_of fs) raws
  pub right : AreReadAs (fields_of gs) raws

-- and two that a field may hold
pub record SameRaw (v w : Wire) : Type 0 where
  pub raw : Raw
  pub left : IsReadAs v raw
  pub right : IsReadAs w raw

-- the same bytes are read as the same fields
pub same_bytes : (bs : List ℕ) (fs gs : List Field) → ReadsAs bs (fields_of fs) → ReadsAs bs (fields_of gs) → Both fs gs
same_bytes bs fs gs h k =
    let read : Some h.0 ≡ Some k.0 = sym h.1 ∙ k.1 in
    let raws : k.0 ≡ h.0 = cc in
    record { raws = h.0; left = h.2; right = subst (λ (rs : List (ℕ × Raw)). AreReadAs (fields_of gs) rs) raws k.2 }

-- so are messages within messages
pub same_messages : (fs gs : List Field) → SameRaw (wire.message (fields_of fs)) (wire.message (fields_of gs))
    → Both fs gs
same_messages fs gs h =
    let one = h.left in
    let other = h.right in
    let bytes : other.0 ≡ one.0 = cc (one.1, other.1) in
    same_bytes one.0 fs gs one.2 (subst (λ (bs : List ℕ). ReadsAs bs (fields_of gs)) bytes other.2)

-- all are of a number, or of greater ones
abbrev pub AreOf : ℕ → List Field → Type 0
AreOf n fs = AllByRecursion (λ f. f.0 ≡ n) fs

abbrev pub AreAbove : ℕ → List Field → Type 0
AreAbove n fs = AllByRecursion (λ f. n < f.0) fs

-- those of a number, and those above it, are read alike
split_at : (n : ℕ) (a b c d : List Field) (raws : List (ℕ × Raw)) → AreOf n a → AreOf n b → AreAbove n c → AreAbove n d
    → AreReadAs (fields_of (a ++ c)) raws → AreReadAs (fields_of (b ++ d)) raws → Both a b × Both c d
split_at n [] [] c d raws p q u v h k =
    (record { raws = []; left = refl; right = refl }, record { raws = raws; left = h; right = k })
split_at n [] (g ∷ b) c d [] p q u v h k = absurd k
split_at n [] (g ∷ b) [] d (r ∷ rs) p q u v h k = absurd cc
split_at n [] (g ∷ b) (f ∷ c) d (r ∷ rs) p q u v h k = absurd (omega (arith, h.0, k.0, q.0, u.0))
split_at n (f ∷ a) [] c d [] p q u v h k = absurd h
split_at n (f ∷ a) [] c [] (r ∷ rs) p q u v h k = absurd cc
split_at n (f ∷ a) [] c (g ∷ d) (r ∷ rs) p q u v h k = absurd (omega (arith, h.0, k.0, p.0, v.0))
split_at n (f ∷ a) (g ∷ b) c d [] p q u v h k = absurd h
split_at n (f ∷ a) (g ∷ b) c d (r ∷ rs) p q u v h k =
    let rest = split_at n a b c d rs p.1 q.1 u v h.2 k.2 in (
      record {
        raws = r ∷ rest.0.raws;
        left = (h.0, h.1, rest.0.left);
        right = (k.0, k.1, rest.0.right);
      },
      rest.1,
    )

pub split : (n : ℕ) (a b c d : List Field) → AreOf n a → AreOf n b → AreAbove n c → AreAbove n d
    → Both (a ++ c) (b ++ d) → Both a b × Both c d
split n a b c d p q u v h = split_at n a b c d h.raws p q u v h.left h.right

-- one field
one_at : (m n : ℕ) (v w : Wire) (raws : List (ℕ × Raw)) → AreReadAs (fields_of (one m v)) raws
    → AreReadAs (fields_of (one n w)) raws → (m ≡ n) × SameRaw v w
one_at m n v w [] h k = absurd h
one_at m n v w (r ∷ rs) h k = (sym h.0 ∙ k.0, record { raw = r.1; left = h.1; right = k.1 })

pub one_alike : (m n : ℕ) (v w : Wire) → Both (one m v) (one n w) → (m ≡ n) × SameRaw v w
one_alike m n v w h = one_at m n v w h.raws h.left h.right

-- a field that may be left out
maybe_at : (n : ℕ) (v w : Wire) (p q : Bool) (raws : List (ℕ × Raw)) → AreReadAs (fields_of (cond p [] (one n v))) raws
    → AreReadAs (fields_of (cond q [] (one n w))) raws → ((p ≡ true) × (q ≡ true)) ⊎ SameRaw v w
maybe_at n v w true true raws h k = inl (refl, refl)
maybe_at n v w true false [] h k = absurd k
maybe_at n v w true false (r ∷ rs) h k = absurd cc
maybe_at n v w false true [] h k = absurd h
maybe_at n v w false true (r ∷ rs) h k = absurd cc
maybe_at n v w false false raws h k = inr (one_at n n v w raws h k).1

pub maybe_alike : (n : ℕ) (v w : Wire) (p q : Bool) → Both (cond p [] (one n v)) (cond q [] (one n w))
    → ((p ≡ true) × (q ≡ true)) ⊎ SameRaw v w
maybe_alike n v w p q h = maybe_at n v w p q h.raws h.left h.right

-- bytes
pub bytes_alike : (bs cs : List ℕ) → SameRaw (wire.bytes bs) (wire.bytes cs) → bs ≡ cs
bytes_alike bs cs h = cc (h.left, h.right)

texts_at : (n : ℕ) (bs cs : List ℕ) (raws : List (ℕ × Raw)) → AreReadAs (fields_of (unless_empty n bs)) raws
    → AreReadAs (fields_of (unless_empty n cs)) raws → bs ≡ cs
texts_at n [] [] raws h k = refl
texts_at n [] (c ∷ cs) [] h k = absurd k
texts_at n [] (c ∷ cs) (r ∷ rs) h k = absurd cc
texts_at n (b ∷ bs) [] [] h k = absurd h
texts_at n (b ∷ bs) [] (r ∷ rs) h k = absurd cc
texts_at n (b ∷ bs) (c ∷ cs) raws h k =
    bytes_alike (b ∷ bs) (c ∷ cs) (one_at n n (wire.bytes (b ∷ bs)) (wire.bytes (c ∷ cs)) raws h k).1

pub texts_alike : (n : ℕ) (bs cs : List ℕ) → Both (unless_empty n bs) (unless_empty n cs) → bs ≡ cs
texts_alike n bs cs h = texts_at n bs cs h.raws h.left h.right
