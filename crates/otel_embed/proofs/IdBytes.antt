-- The bytes of an id give the id back.
use Rattle.std.proofs.Common.{◌≡◌, ℕ, ◌+◌, ◌*◌, ◌/◌, ◌%◌, ◌^◌, arith}
use Rattle.std.proofs.Math.Nat.{div-div-eq-div-mul}
use Rattle.std.specs.Int.{w64, w128, from_be_bytes, to_be_bytes}

byte_and_rest : (n p : ℕ) → n / p ≡ n / p % 256 + n / (p * 256) * 256
byte_and_rest n p = omega (arith, div-div-eq-div-mul n p 256)

-- digits of a number to the base 256
low_of : (a0 a1 a2 a3 a4 a5 a6 a7 n p1 p2 p3 p4 p5 p6 p7 p8 : ℕ) → n ≡ a0 + p1 * 256 → p1 ≡ a1 + p2 * 256 → p2 ≡ a2 + p3 * 256 → p3 ≡ a3 + p4 * 256 → p4 ≡ a4 + p5 * 256 → p5 ≡ a5 + p6 * 256 → p6 ≡ a6 + p7 * 256 → p7 ≡ a7 + p8 * 256
    → a7 * 72057594037927936 + a6 * 281474976710656 + a5 * 1099511627776 + a4 * 4294967296 + a3 * 16777216 + a2 * 65536 + a1 * 256 + a0 + p8 * 18446744073709551616 ≡ n
low_of a0 a1 a2 a3 a4 a5 a6 a7 n p1 p2 p3 p4 p5 p6 p7 p8 at0 at1 at2 at3 at4 at5 at6 at7 = omega arith

low_half : (n : ℕ) → n / 72057594037927936 % 256 * 72057594037927936 + n / 281474976710656 % 256 * 281474976710656 + n / 1099511627776 % 256 * 1099511627776 + n / 4294967296 % 256 * 4294967296 + n / 16777216 % 256 * 16777216 + n / 65536 % 256 * 65536 + n / 256 % 256 * 256 + n % 256 + n / 18446744073709551616 * 18446744073709551616 ≡ n
low_half n =
    let first : n ≡ n % 256 + n / 256 * 256 = omega arith in
    low_of _ _ _ _ _ _ _ _ n _ _ _ _ _ _ _ _ first (byte_and_rest n 256) (byte_and_rest n 65536) (byte_and_rest n 16777216) (byte_and_rest n 4294967296) (byte_and_rest n 1099511627776) (byte_and_rest n 281474976710656) (byte_and_rest n 72057594037927936)

high_half : (n : ℕ) → n / 1329227995784915872903807060280344576 % 256 * 72057594037927936 + n / 5192296858534827628530496329220096 % 256 * 281474976710656 + n / 20282409603651670423947251286016 % 256 * 1099511627776 + n / 79228162514264337593543950336 % 256 * 4294967296 + n / 309485009821345068724781056 % 256 * 16777216 + n / 1208925819614629174706176 % 256 * 65536 + n / 4722366482869645213696 % 256 * 256 + n / 18446744073709551616 % 256 + n / 340282366920938463463374607431768211456 * 18446744073709551616 ≡ n / 18446744073709551616
high_half n =
    low_of _ _ _ _ _ _ _ _ (n / 18446744073709551616) _ _ _ _ _ _ _ _ (byte_and_rest n 18446744073709551616) (byte_and_rest n 4722366482869645213696) (byte_and_rest n 1208925819614629174706176) (byte_and_rest n 309485009821345068724781056) (byte_and_rest n 79228162514264337593543950336) (byte_and_rest n 20282409603651670423947251286016) (byte_and_rest n 5192296858534827628530496329220096) (byte_and_rest n 1329227995784915872903807060280344576)

-- the 16 bytes of a number, and its 8, as numbers
pub trace_id_of_bytes : (n : ℕ) → from_be_bytes w128 (to_be_bytes w128 n) ≡ n % 2 ^ 128
trace_id_of_bytes n = omega (arith, low_half n, high_half n, div-div-eq-div-mul n 18446744073709551616 18446744073709551616)

pub span_id_of_bytes : (n : ℕ) → from_be_bytes w64 (to_be_bytes w64 n) ≡ n % 2 ^ 64
span_id_of_bytes n = omega (arith, low_half n)
