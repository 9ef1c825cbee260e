-- Operators on known bits are sound.
use Rattle.std.proofs.Common.{◌≡◌, ℕ, ◌+◌, ◌%◌, ◌<◌, min, max, sym, ◌∙◌, ap, arith, bit_and, bit_or, bit_xor}
use Rattle.std.specs.Int.{bit_at}
use Rattle.std.proofs.lemmas.Nat.Bits.{bit_at_and, bit_at_or, bit_at_xor, bit_at-lt, same_from_bits}
use Rattle.value_domain.specs.declared.bits.Bits.{Bits}
use Rattle.value_domain.specs.Bitmasks.{Agrees, IsBits, and_known, or_known, xor_known, bits_joined, AreBelow}

and_row : (x y p q u v : ℕ) → x < 2 → y < 2 → p < 2 → q < 2 → min x p ≡ u → min y q ≡ v → min (min x y) (max (max (min p q) ((p + u) % 2)) ((q + v) % 2)) ≡ min u v
and_row x y p q u v a b c d e f = omega arith

or_row : (x y p q u v : ℕ) → x < 2 → y < 2 → p < 2 → q < 2 → min x p ≡ u → min y q ≡ v → min (max x y) (max (max (min p q) u) v) ≡ max u v
or_row x y p q u v a b c d e f = omega arith

xor_row : (x y p q u v : ℕ) → x < 2 → y < 2 → p < 2 → q < 2 → min x p ≡ u → min y q ≡ v → min ((x + y) % 2) (min p q) ≡ min ((u + v) % 2) (min p q)
xor_row x y p q u v a b c d e f = omega arith

-- one bit of an agreement
pub bit_agrees : (n i : ℕ) (b : Bits) → Agrees n b → min (bit_at n i) (bit_at b.mask i) ≡ bit_at b.value i
bit_agrees n i b h = sym (bit_at_and n b.mask i) ∙ ap (λ (m : ℕ). bit_at m i) h

pub and_sound : (n m : ℕ) (a b : Bits) → Agrees n a → Agrees m b → Agrees (bit_and n m) (and_known a b)
and_sound n m a b h k = same_from_bits _ _ (λ (i : ℕ). simp (bit_at_and, bit_at_or, bit_at_xor) (and_row (bit_at n i) (bit_at m i) (bit_at a.mask i) (bit_at b.mask i) (bit_at a.value i) (bit_at b.value i) (bit_at-lt n i) (bit_at-lt m i) (bit_at-lt a.mask i) (bit_at-lt b.mask i) (bit_agrees n i a h) (bit_agrees m i b k)))

pub or_sound : (n m : ℕ) (a b : Bits) → Agrees n a → Agrees m b → Agrees (bit_or n m) (or_known a b)
or_sound n m a b h k = same_from_bits _ _ (λ (i : ℕ). simp (bit_at_and, bit_at_or, bit_at_xor) (or_row (bit_at n i) (bit_at m i) (bit_at a.mask i) (bit_at b.mask i) (bit_at a.value i) (bit_at b.value i) (bit_at-lt n i) (bit_at-lt m i) (bit_at-lt a.mask i) (bit_at-lt b.mask i) (bit_agrees n i a h) (bit_agrees m i b k)))

pub xor_sound : (n m : ℕ) (a b : Bits) → Agrees n a → Agrees m b → Agrees (bit_xor n m) (xor_known a b)
xor_sound n m a b h k = same_from_bits _ _ (λ (i : ℕ). simp (bit_at_and, bit_at_or, bit_at_xor) (xor_row (bit_at n i) (bit_at m i) (bit_at a.mask i) (bit_at b.mask i) (bit_at a.value i) (bit_at b.value i) (bit_at-lt n i) (bit_at-lt m i) (bit_at-lt a.mask i) (bit_at-lt b.mask i) (bit_agrees n i a h) (bit_agrees m i b k)))

-- ---- order
and_rises : (p q u v s t x y : ℕ) → p < 2 → q < 2 → u < 2 → v < 2 → s < 2 → t < 2 → x < 2 → y < 2 → min u p ≡ u → min v q ≡ v → min p s ≡ s → min u s ≡ x → min q t ≡ t → min v t ≡ y → (min (max (max (min p q) ((p + u) % 2)) ((q + v) % 2)) (max (max (min s t) ((s + x) % 2)) ((t + y) % 2)) ≡ max (max (min s t) ((s + x) % 2)) ((t + y) % 2)) × (min (min u v) (max (max (min s t) ((s + x) % 2)) ((t + y) % 2)) ≡ min x y)
and_rises p q u v s t x y a b c d e f g h i j k l m n = (omega arith, omega arith)

-- one bit of a rise
pub bit_below : (a b : Bits) (i : ℕ) → AreBelow a b → (min (bit_at a.mask i) (bit_at b.mask i) ≡ bit_at b.mask i) × (min (bit_at a.value i) (bit_at b.mask i) ≡ bit_at b.value i)
bit_below a b i h = (sym (bit_at_and a.mask b.mask i) ∙ ap (λ (m : ℕ). bit_at m i) h.mask, sym (bit_at_and a.value b.mask i) ∙ ap (λ (m : ℕ). bit_at m i) h.value)

pub and_monotone : (a b c d : Bits) → IsBits a → IsBits b → AreBelow a c → AreBelow b d → AreBelow (and_known a b) (and_known c d)
and_monotone a b c d m n h k =
    let row = λ (i : ℕ). and_rises (bit_at a.mask i) (bit_at b.mask i) (bit_at a.value i) (bit_at b.value i) (bit_at c.mask i) (bit_at d.mask i) (bit_at c.value i) (bit_at d.value i) (bit_at-lt _ i) (bit_at-lt _ i) (bit_at-lt _ i) (bit_at-lt _ i) (bit_at-lt _ i) (bit_at-lt _ i) (bit_at-lt _ i) (bit_at-lt _ i) (bit_agrees a.value i a m) (bit_agrees b.value i b n) (bit_below a c i h).0 (bit_below a c i h).1 (bit_below b d i k).0 (bit_below b d i k).1 in
    record {
      mask = same_from_bits _ _ (λ (i : ℕ). simp (bit_at_and, bit_at_or, bit_at_xor) (row i).0);
      value = same_from_bits _ _ (λ (i : ℕ). simp (bit_at_and, bit_at_or, bit_at_xor) (row i).1);
    }

joined_left : (p q u v : ℕ) → p < 2 → q < 2 → u < 2 → v < 2 → min u p ≡ u → min v q ≡ v → (min p ((min p q + min ((u + v) % 2) (min p q)) % 2) ≡ (min p q + min ((u + v) % 2) (min p q)) % 2) × (min u ((min p q + min ((u + v) % 2) (min p q)) % 2) ≡ min u v)
joined_left p q u v a b c d e f = (omega arith, omega arith)

pub join_above_left : (a b : Bits) → IsBits a → IsBits b → AreBelow a (bits_joined a b)
join_above_left a b m n =
    let row = λ (i : ℕ). joined_left (bit_at a.mask i) (bit_at b.mask i) (bit_at a.value i) (bit_at b.value i) (bit_at-lt _ i) (bit_at-lt _ i) (bit_at-lt _ i) (bit_at-lt _ i) (bit_agrees a.value i a m) (bit_agrees b.value i b n) in
    record {
      mask = same_from_bits _ _ (λ (i : ℕ). simp (bit_at_and, bit_at_or, bit_at_xor) (row i).0);
      value = same_from_bits _ _ (λ (i : ℕ). simp (bit_at_and, bit_at_or, bit_at_xor) (row i).1);
    }

joined_least : (p q u v r w : ℕ) → p < 2 → q < 2 → u < 2 → v < 2 → r < 2 → w < 2 → min p r ≡ r → min u r ≡ w → min q r ≡ r → min v r ≡ w → (min ((min p q + min ((u + v) % 2) (min p q)) % 2) r ≡ r) × (min (min u v) r ≡ w)
joined_least p q u v r w a b c d e f g h i j = (omega arith, omega arith)

pub join_least : (a b c : Bits) → AreBelow a c → AreBelow b c → AreBelow (bits_joined a b) c
join_least a b c h k =
    let row = λ (i : ℕ). joined_least (bit_at a.mask i) (bit_at b.mask i) (bit_at a.value i) (bit_at b.value i) (bit_at c.mask i) (bit_at c.value i) (bit_at-lt _ i) (bit_at-lt _ i) (bit_at-lt _ i) (bit_at-lt _ i) (bit_at-lt _ i) (bit_at-lt _ i) (bit_below a c i h).0 (bit_below a c i h).1 (bit_below b c i k).0 (bit_below b c i k).1 in
    record {
      mask = same_from_bits _ _ (λ (i : ℕ). simp (bit_at_and, bit_at_or, bit_at_xor) (row i).0);
      value = same_from_bits _ _ (λ (i : ℕ). simp (bit_at_and, bit_at_or, bit_at_xor) (row i).1);
    }
