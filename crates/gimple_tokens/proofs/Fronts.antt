-- How long the fronts of bytes are.
use Rattle.std.proofs.Common.{◌≡◌, ℕ, ◌≤◌, ◌<◌, Bool, true, false, [], ◌∷◌, length, refl, arith, inl, inr, ◌⊎◌}
use Rattle.gimple_ir.specs.Names.{Bytes, AllPass}
use Rattle.gimple_tokens.specs.Lexing.{back, front}

pub test : (b : Bool) → (b ≡ true) ⊎ (b ≡ false)
test true = inl refl
test false = inr refl

pub back_length : (p : ℕ → Bool) (bs : Bytes) → length (back p bs) ≤ length bs
back_length p [] = omega arith
back_length p (b ∷ bs) = elim (test (p b)) [ inl e ↦ rw e (omega (arith, back_length p bs)) | inr e ↦ rw e (omega arith) ]

pub back_shorter : (p : ℕ → Bool) (b : ℕ) (bs : Bytes) → p b ≡ true → length (back p (b ∷ bs)) < length (b ∷ bs)
back_shorter p b bs e = rw e (omega (arith, back_length p bs))

pub front_passes : (p : ℕ → Bool) (bs : Bytes) → AllPass p (front p bs)
front_passes p [] = tt
front_passes p (b ∷ bs) = elim (test (p b)) [ inl e ↦ rw e (e, front_passes p bs) | inr e ↦ rw e tt ]
