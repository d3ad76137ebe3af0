-- A varint, byte by byte.
use Rattle.std.proofs.Common.{◌≡◌, ℕ, zero, suc, ◌+◌, ◌-◌, ◌*◌, ◌/◌, ◌%◌, ◌<◌, ◌≤◌}
use Rattle.std.proofs.Common.{List, [], ◌∷◌, ◌++◌, Some, length, ap, sym, subst, refl, ◌∙◌, arith, ⊎_elim, ◌⊎◌, inl, inr}
use Rattle.std.proofs.Math.Nat.{div-lt_self}
use Rattle.std.proofs.lemmas.Bool.{cases_lt, lt-ltb, le-ltb}
use Rattle.std.specs.Option.{option_map}
use Rattle.otel_protobuf.specs.Wire.{varint_bytes, varint_digits}
use Rattle.otel_protobuf.specs.Reading.{Read, read_varint}

-- what is left after a byte is less
pub less : (n more : ℕ) → 128 ≤ n → n ≤ suc more → n / 128 ≤ more
less n more h l =
    let positive : 0 < n = omega arith in
    let smaller : n / 128 < n = div-lt_self positive (omega arith) in
    omega arith

-- a number below 128 is one byte
small_digits : (more n : ℕ) → n < 128 → varint_digits more n ≡ n ∷ []
unfolding varint_digits
small_digits zero n h = refl
small_digits (suc more) n h = rw (lt-ltb n 128 h) refl

pub small : (n : ℕ) → n < 128 → varint_bytes n ≡ n ∷ []
unfolding varint_bytes
small n h = small_digits n n h

-- of another one the lowest seven bits come first
large_digits : (more n : ℕ) → 128 ≤ n → varint_digits (suc more) n ≡ (128 + n % 128) ∷ varint_digits more (n / 128)
unfolding varint_digits
large_digits more n h = rw (le-ltb n 128 h) refl

-- more digits than needed change nothing
enough : (more other n : ℕ) → n ≤ more → n ≤ other → varint_digits more n ≡ varint_digits other n
enough zero other n h k = small_digits zero n (omega arith) ∙ sym (small_digits other n (omega arith))
enough (suc more) zero n h k = small_digits (suc more) n (omega arith) ∙ sym (small_digits zero n (omega arith))
enough (suc more) (suc other) n h k =
    ⊎_elim (λ l. small_digits (suc more) n l ∙ sym (small_digits (suc other) n l))
    (λ l. large_digits more n l
    ∙ ap (λ bs. (128 + n % 128) ∷ bs) (enough more other (n / 128) (less n more l h) (less n other l k))
    ∙ sym (large_digits other n l)) (cases_lt n 128)

pub large : (n : ℕ) → 128 ≤ n → varint_bytes n ≡ (128 + n % 128) ∷ varint_bytes (n / 128)
unfolding varint_bytes
large zero h = absurd (omega arith)
large (suc n) h =
    large_digits n (suc n) h
    ∙ ap (λ bs. (128 + suc n % 128) ∷ bs)
    (enough n (suc n / 128) (suc n / 128) (less (suc n) n h (omega arith)) (omega arith))

-- a varint is a byte at least
pub varint_some : (n : ℕ) → 1 ≤ length (varint_bytes n)
varint_some n =
    ⊎_elim (λ l. let one = ap length (small n l) in omega (arith, one))
    (λ l. let more = ap length (large n l) in omega (arith, more)) (cases_lt n 128)

-- a varint reads back, whatever comes after it
put_together : (n : ℕ) (rest : List ℕ)
    → ◌≡◌ {A = Read ℕ} (Some (128 + n % 128 - 128 + 128 * (n / 128), rest)) (Some (n, rest))
put_together n rest =
    let whole : 128 + n % 128 - 128 + 128 * (n / 128) ≡ n = omega arith in
    let put : ℕ → Read ℕ = λ m. Some (m, rest) in ap put whole

reads_digits : (more n : ℕ) (rest : List ℕ) → n ≤ more → (n < 128) ⊎ (128 ≤ n)
    → read_varint (varint_digits more n ++ rest) ≡ Some (n, rest)
reads_digits more n rest h (inl l) =
    ap (λ bs. read_varint (bs ++ rest)) (small_digits more n l) ∙ rw (lt-ltb n 128 l) refl
reads_digits zero n rest h (inr l) = absurd (omega arith)
reads_digits (suc more) n rest h (inr l) =
    ap (λ bs. read_varint (bs ++ rest)) (large_digits more n l)
    ∙ rw (le-ltb (128 + n % 128) 128 (omega arith)) (
    ap (option_map (λ r. (128 + n % 128 - 128 + 128 * r.0, r.1)))
    (reads_digits more (n / 128) rest (less n more l h) (cases_lt (n / 128) 128))
    ∙ put_together n rest)

pub reads_varint : (n : ℕ) (rest : List ℕ) → read_varint (varint_bytes n ++ rest) ≡ Some (n, rest)
unfolding varint_bytes
reads_varint n rest = reads_digits n n rest (omega arith) (cases_lt n 128)

-- a varint has a byte
has_byte_at : (n : ℕ) → (n < 128) ⊎ (128 ≤ n) → 0 < length (varint_bytes n)
has_byte_at n (inl l) = subst (λ (bs : List ℕ). 0 < length bs) (sym (small n l)) (omega arith)
has_byte_at n (inr l) = subst (λ (bs : List ℕ). 0 < length bs) (sym (large n l)) (omega arith)

pub has_byte : (n : ℕ) → 0 < length (varint_bytes n)
has_byte n = has_byte_at n (cases_lt n 128)
