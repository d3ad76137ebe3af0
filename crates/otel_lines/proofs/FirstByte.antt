-- The first place of a byte, as std's word for it.
use Rattle.std.proofs.Common.{◌≡◌, ℕ, Bool, true, false, ◌==◌, List, length, get_or, Option, None, Some, position, arith, refl}
use Rattle.std.proofs.lemmas.List.Sums.{position_or_len_is}
use Rattle.std.specs.List.{position_or_len}
use Rattle.memchr.specs.Find.{IsFirstByte, is_byte}
use borrow.Author.Tests.{lt-ltb, le-ltb}

not_true : (b : Bool) → (b ≡ true → ⊥) → b ≡ false
not_true true h = absurd (h refl)
not_true false h = refl

pub first_is_position : (byte : ℕ) (xs : List ℕ) (r : Option ℕ) → IsFirstByte (is_byte byte) xs r → r ≡ position (λ b. b == byte) xs
first_is_position byte xs None none =
    let at : position_or_len (λ b. b == byte) xs ≡ length xs = position_or_len_is (λ b. b == byte) xs (length xs) 0 (omega arith)
    (λ k below. not_true (get_or xs k 0 == byte) (none k (omega arith) below)) (λ below. absurd (omega arith)) in
    rw (at, le-ltb (length xs) (length xs) (omega arith))
first_is_position byte xs (Some k) first =
    let inside = first.0.high in
    let at : position_or_len (λ b. b == byte) xs ≡ k = position_or_len_is (λ b. b == byte) xs k 0 (omega arith)
    (λ i below. not_true (get_or xs i 0 == byte) (first.0.before i (omega arith) below)) (λ below. first.1) in
    rw (at, lt-ltb k (length xs) inside)
