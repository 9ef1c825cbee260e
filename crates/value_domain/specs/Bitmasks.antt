-- Known bits of numbers.
use Rattle.std.specs.Prelude.{◌≡◌, ℕ, ◌^◌, ◌<◌, ◌==◌, ℤ, pos, bit_and, bit_or, bit_xor, unsigned_abs, Bool, ◌&&◌, if◌then◌else◌, Option, Some, None}
use Rattle.std.specs.Int.{int_rem_euclid, bit_at}
use Rattle.fix_engine.specs.Solving.{sum_below}
use Rattle.value_domain.specs.declared.bits.Bits.{Bits}

-- the 64 bits of a number in two's complement
abbrev pub pattern : ℤ → ℕ
pattern z = unsigned_abs (int_rem_euclid z (pos (2 ^ 64)))

-- the known bits are those of the pattern
abbrev pub Agrees : ℕ → Bits → Type 0
Agrees n b = bit_and n b.mask ≡ b.value

-- the value has only bits of the mask
abbrev pub IsBits : Bits → Type 0
IsBits b = bit_and b.value b.mask ≡ b.value

abbrev pub and_known : Bits → Bits → Bits
and_known a b = record {
  mask = bit_or (bit_or (bit_and a.mask b.mask) (bit_xor a.mask a.value)) (bit_xor b.mask b.value);
  value = bit_and a.value b.value;
}

abbrev pub or_known : Bits → Bits → Bits
or_known a b = record {
  mask = bit_or (bit_or (bit_and a.mask b.mask) a.value) b.value;
  value = bit_or a.value b.value;
}

abbrev pub xor_known : Bits → Bits → Bits
xor_known a b = record {
  mask = bit_and a.mask b.mask;
  value = bit_and (bit_xor a.value b.value) (bit_and a.mask b.mask);
}

-- the bits known on both sides that differ
abbrev pub conflict : Bits → Bits → ℕ
conflict a b = bit_and (bit_xor a.value b.value) (bit_and a.mask b.mask)

abbrev pub bits_joined : Bits → Bits → Bits
bits_joined a b = record {
  mask = bit_xor (bit_and a.mask b.mask) (conflict a b);
  value = bit_and a.value b.value;
}

abbrev pub bits_below : Bits → Bits → Bool
bits_below a b = (bit_and a.mask b.mask == b.mask) && (bit_and a.value b.mask == b.value)

-- what is known on a side, where no bit differs
abbrev pub bits_met : Bits → Bits → Option Bits
bits_met a b = if conflict a b == 0 then Some (record { mask = bit_or a.mask b.mask; value = bit_or a.value b.value }) else None

-- b knows no more bits than a, and those alike
pub record AreBelow (a b : Bits) : Type 0 where
  pub mask : bit_and a.mask b.mask ≡ b.mask
  pub value : bit_and a.value b.mask ≡ b.value

pub record FitsBits (b : Bits) : Type 0 where
  pub within : IsBits b
  pub short : b.mask < 2 ^ 64

-- how many bits are known
abbrev pub bits_rank : Bits → ℕ
bits_rank b = sum_below (λ i. bit_at b.mask i) 64
