-- Lines and columns of places, one after the other.
use Rattle.std.proofs.Common.{◌≡◌, ℕ, zero, suc, ◌+◌, ◌-◌, ◌≤◌, ◌==◌, [], ◌∷◌, length, take, drop, refl, ap, ◌∙◌, arith, length-drop, inl, inr}
use Rattle.std.proofs.lemmas.List.{length-take-le}
use Rattle.gimple_tokens.specs.declared.spot.Spot.{Spot}
use Rattle.gimple_ir.specs.Names.{Bytes}
use Rattle.gimple_tokens.specs.Spots.{start, spot_past, spot_after, spot_at}
use Rattle.gimple_tokens.proofs.Fronts.{test}

spot_split : (bs : Bytes) (s : Spot) (p k : ℕ) → spot_after s (take (p + k) bs) ≡ spot_after (spot_after s (take p bs)) (take k (drop p bs))
spot_split bs s zero k = let e : 0 + k ≡ k = omega arith in ap (λ n. spot_after s (take n bs)) e
spot_split [] s (suc p) k = let e : suc p + k ≡ suc (p + k) = omega arith in ap (λ n. spot_after s (take n [])) e ∙ nothing k where
  nothing : (k : ℕ) → s ≡ spot_after s (take k [])
  nothing zero = refl
  nothing (suc k) = refl
spot_split (b ∷ bs) s (suc p) k = let e : suc p + k ≡ suc (p + k) = omega arith in ap (λ n. spot_after s (take n (b ∷ bs))) e ∙ spot_split bs (spot_past s b) p k

pub spot_on : (bs : Bytes) (p q : ℕ) → p ≤ q → spot_at bs q ≡ spot_after (spot_at bs p) (take (q - p) (drop p bs))
spot_on bs p q h = let e : q ≡ p + (q - p) = omega arith in ap (λ n. spot_at bs n) e ∙ spot_split bs start p (q - p)

past_small : (s : Spot) (b n : ℕ) → s.line ≤ n → s.column ≤ n → ((spot_past s b).line ≤ n + 1) × ((spot_past s b).column ≤ n + 1)
past_small s b n h k = elim (test (b == 10)) [ inl e ↦ rw e (omega arith, omega arith) | inr e ↦ rw e (omega arith, omega arith) ]

after_small : (bs : Bytes) (s : Spot) (p n : ℕ) → s.line ≤ n → s.column ≤ n → ((spot_after s (take p bs)).line ≤ n + p) × ((spot_after s (take p bs)).column ≤ n + p)
after_small bs s zero n h k = (omega arith, omega arith)
after_small [] s (suc p) n h k = (omega arith, omega arith)
after_small (b ∷ bs) s (suc p) n h k =
    let m = past_small s b n h k in
    let q = after_small bs (spot_past s b) p (n + 1) m.0 m.1 in
    (omega (arith, q.0), omega (arith, q.1))

pub spot_small : (bs : Bytes) (p : ℕ) → ((spot_at bs p).line ≤ 1 + p) × ((spot_at bs p).column ≤ 1 + p)
spot_small bs p = after_small bs start p 1 (omega arith) (omega arith)

-- from one place to a later one
pub moved_init : (bs : Bytes) (p left : ℕ) (s : Spot) → p + left ≤ length bs → s ≡ spot_at bs p
    → (spot_at bs (length bs - left) ≡ spot_after s (take (length bs - left - p) (drop p bs))) × (s.line + length (take (length bs - left - p) (drop p bs)) ≤ 1 + length bs) × (s.column + length (take (length bs - left - p) (drop p bs)) ≤ 1 + length bs)
moved_init bs p left s h e =
    let k = length bs - left - p in
    let rest : length (drop p bs) ≡ length bs - p = length-drop p bs in
    let short : length (take k (drop p bs)) ≡ k = length-take-le k (drop p bs) (omega arith) in
    let small = spot_small bs p in
    rw e (spot_on bs p (length bs - left) (omega arith), omega (arith, small.0, short), omega (arith, small.1, short))
