-- Numbers of the same bytes are the same.
use Rattle.std.proofs.Common.{◌≡◌, ◌<◌, ◌^◌, ◌*◌, ◌+◌, ◌/◌, ◌%◌, ℕ, zero, suc, List, [], ◌∷◌, ap, sym, refl, ◌∙◌, arith}
use Rattle.std.proofs.Math.Arith.{mod-mul}
use Rattle.std.proofs.Math.Nat.{pow-suc, pow-succ'}
use Rattle.std.specs.Int.{byte_at, bytes_high_first, to_be_bytes, w64, w128}

-- a byte is a digit to the base 256
digit : (k n : ℕ) → byte_at k n ≡ n / 256 ^ k % 256
digit zero n = omega arith
digit (suc k) n = refl

power_some : (k : ℕ) → 0 < 256 ^ k
power_some zero = omega arith
power_some (suc k) = omega (arith, pow-suc 256 k, power_some k)

lowest : (k n : ℕ) → n % 256 ^ suc k ≡ (n / 256 ^ k % 256) * 256 ^ k + n % 256 ^ k
lowest k n = ap (λ p. n % p) (pow-succ' 256 k) ∙ mod-mul n (omega arith) (power_some k)

head_of : List ℕ → ℕ
head_of [] = 0
head_of (b ∷ bs) = b

tail_of : List ℕ → List ℕ
tail_of [] = []
tail_of (b ∷ bs) = bs

same_digits : (k m n : ℕ) → bytes_high_first k m ≡ bytes_high_first k n → m % 256 ^ k ≡ n % 256 ^ k
same_digits zero m n e = omega arith
same_digits (suc k) m n e =
    let first : byte_at k m ≡ byte_at k n = cc in
    let others : bytes_high_first k m ≡ bytes_high_first k n = cc in
    lowest k m
    ∙ (λ i. ((sym (digit k m) ∙ first ∙ digit k n) i) * 256 ^ k + same_digits k m n others i)
    ∙ sym (lowest k n)

pub same_16_bytes : (m n : ℕ) → m < 2 ^ 128 → n < 2 ^ 128 → to_be_bytes w128 m ≡ to_be_bytes w128 n → m ≡ n
same_16_bytes m n h k e = omega (arith, same_digits 16 m n e)

pub same_8_bytes : (m n : ℕ) → m < 2 ^ 64 → n < 2 ^ 64 → to_be_bytes w64 m ≡ to_be_bytes w64 n → m ≡ n
same_8_bytes m n h k e = omega (arith, same_digits 8 m n e)
