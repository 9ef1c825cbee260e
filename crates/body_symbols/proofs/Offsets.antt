-- Offsets modulo 2^64.
use Rattle.std.proofs.Common.{◌≡◌, ℕ, suc, ◌+◌, ◌-◌, ◌*◌, ◌/◌, ◌%◌, ℤ, pos, negsuc, ◌+ℤ◌, ◌-ℤ◌, Bool, true, false, cond, not, int_lt, int_le, refl, sym, ◌∙◌, ap, arith, unsigned_abs}
use Rattle.std.proofs.lemmas.Int.{ints, int_rem_euclid_is}
use Rattle.gimple_ir.specs.declared.scalar.Scalar.TheVariants.{I64}
use Rattle.gimple_core.specs.Operators.{in_scalar, low_bits, of_bits, wrapped}
use Rattle.gimple_core.proofs.RangeLemmas.{wrapped_in}
use Rattle.fix_engine.specs.Bools.{and_left, and_right}

-- with some turns of 2^64 more it is this number from 0
record IsTurned (z : ℤ) : Type 0 where
  turns : ℕ
  rest : ℕ
  is : (z +ℤ pos (turns * 18446744073709551616)) ≡ pos rest

turned : (z : ℤ) → IsTurned z
turned (pos n) = record { turns = 0; rest = n; is = omega (arith, ints) }
turned (negsuc n) = record { turns = suc n; rest = suc n * 18446744073709551616 - suc n; is = omega (arith, ints) }

low_is : (z : ℤ) (k m : ℕ) → z +ℤ pos (k * 18446744073709551616) ≡ pos m → low_bits I64 z ≡ m % 18446744073709551616
low_is z k m e = ap unsigned_abs (int_rem_euclid_is z (pos 18446744073709551616) 18446744073709551616 k m (omega arith) refl e)

-- numbers that differ by turns wrap alike
pub same_turns : (a b : ℤ) (j k : ℕ) → a +ℤ pos (j * 18446744073709551616) ≡ b +ℤ pos (k * 18446744073709551616) → wrapped I64 a ≡ wrapped I64 b
unfolding wrapped
same_turns a b j k e =
    let t = turned a in
    let is = t.is in
    let left : a +ℤ pos ((j + t.turns) * 18446744073709551616) ≡ pos (t.rest + j * 18446744073709551616) = omega (arith, ints, is) in
    let right : b +ℤ pos ((k + t.turns) * 18446744073709551616) ≡ pos (t.rest + j * 18446744073709551616) = omega (arith, ints, is, e) in
    ap (of_bits I64) (low_is a (j + t.turns) (t.rest + j * 18446744073709551616) left ∙ sym (low_is b (k + t.turns) (t.rest + j * 18446744073709551616) right))

-- a number and its wrapped one differ by turns
pub record IsApart (a b : ℤ) : Type 0 where
  pub up : ℕ
  pub down : ℕ
  pub is : a +ℤ pos (up * 18446744073709551616) ≡ b +ℤ pos (down * 18446744073709551616)

bits_apart : (z : ℤ) (k m n : ℕ) → z +ℤ pos (k * 18446744073709551616) ≡ pos m → n ≡ m % 18446744073709551616 → (s : Bool) → IsApart (cond s (pos n -ℤ pos 18446744073709551616) (pos n)) z
bits_apart z k m n e r true = record { up = suc (m / 18446744073709551616); down = k; is = omega (arith, ints, e, r) }
bits_apart z k m n e r false = record { up = m / 18446744073709551616; down = k; is = omega (arith, ints, e, r) }

pub wrapped_apart : (z : ℤ) → IsApart (wrapped I64 z) z
unfolding wrapped
wrapped_apart z =
    let t = turned z in
    bits_apart z t.turns t.rest (low_bits I64 z) t.is (low_is z t.turns t.rest t.is) (not (int_lt (pos (low_bits I64 z)) (pos 9223372036854775808)))

-- a number of i64 stays
pub wrapped_still : (z : ℤ) → in_scalar I64 z ≡ true → wrapped I64 z ≡ z
wrapped_still z h =
    let a = wrapped_apart z in
    let is = a.is in
    let inside : in_scalar I64 (wrapped I64 z) ≡ true = wrapped_in I64 z in
    same_within (wrapped I64 z) z a.up a.down inside h is
  where
    same_within : (a b : ℤ) (j k : ℕ) → in_scalar I64 a ≡ true → in_scalar I64 b ≡ true → a +ℤ pos (j * 18446744073709551616) ≡ b +ℤ pos (k * 18446744073709551616) → a ≡ b
    same_within a b j k g h e =
        let la : int_le (pos 0 -ℤ pos 9223372036854775808) a ≡ true = and_left (int_le (pos 0 -ℤ pos 9223372036854775808) a) (int_le a (pos 9223372036854775807)) g in
        let ha : int_le a (pos 9223372036854775807) ≡ true = and_right (int_le (pos 0 -ℤ pos 9223372036854775808) a) (int_le a (pos 9223372036854775807)) g in
        let lb : int_le (pos 0 -ℤ pos 9223372036854775808) b ≡ true = and_left (int_le (pos 0 -ℤ pos 9223372036854775808) b) (int_le b (pos 9223372036854775807)) h in
        let hb : int_le b (pos 9223372036854775807) ≡ true = and_right (int_le (pos 0 -ℤ pos 9223372036854775808) b) (int_le b (pos 9223372036854775807)) h in
        omega (arith, ints, la, ha, lb, hb, e)

-- moved by two numbers of bytes, one behind the other
pub moved_twice : (x o b : ℤ) → wrapped I64 (wrapped I64 (x +ℤ o) +ℤ b) ≡ wrapped I64 (x +ℤ wrapped I64 (o +ℤ b))
moved_twice x o b =
    let first = wrapped_apart (x +ℤ o) in
    let second = wrapped_apart (o +ℤ b) in
    let f = first.is in
    let s = second.is in
    same_turns (wrapped I64 (x +ℤ o) +ℤ b) (x +ℤ wrapped I64 (o +ℤ b)) (first.up + second.down) (second.up + first.down) (omega (arith, ints, f, s))
