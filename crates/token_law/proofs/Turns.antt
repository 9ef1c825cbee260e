-- A loop over a list of items, beside the recursion that says what it reads.
use Rattle.std.proofs.Common.{◌≡◌, ℕ, suc, ◌-◌, ◌+◌, ◌<◌, ◌≤◌, List, [], ◌∷◌, ◌++◌, Bool, true, false, Ok, Err, ◌∙◌, refl, arith}
use Rattle.token_law.specs.Reading.{Tokens, Outcome, Parser, many_from}

-- an item was read
pub goes_on : {A : Type 0} (starts : Tokens → Bool) (p : Parser A) (total : Outcome (List A)) (n at : ℕ) (found : List A) (ts : Tokens) (x : A) (rest : Tokens)
    → at < n → total ≡ many_from starts p (n - at) found ts → starts ts ≡ true → p ts ≡ Ok (x, rest)
    → total ≡ many_from starts p (n - (at + 1)) (found ++ x ∷ []) rest
unfolding many_from
goes_on starts p total n at found ts x rest below so_far begins reads =
    let turn : n - at ≡ suc (n - (at + 1)) = omega arith in
    so_far ∙ rw (turn, begins, reads) refl

-- none starts
pub stops : {A : Type 0} (starts : Tokens → Bool) (p : Parser A) (total : Outcome (List A)) (n at : ℕ) (found : List A) (ts : Tokens)
    → at < n → total ≡ many_from starts p (n - at) found ts → starts ts ≡ false → total ≡ Ok (found, ts)
unfolding many_from
stops starts p total n at found ts below so_far begins =
    let turn : n - at ≡ suc (n - (at + 1)) = omega arith in
    so_far ∙ rw (turn, begins) refl

-- an item could not be read
pub fails : {A : Type 0} (starts : Tokens → Bool) (p : Parser A) (total : Outcome (List A)) (n at : ℕ) (found : List A) (ts : Tokens) (e : ℕ)
    → at < n → total ≡ many_from starts p (n - at) found ts → starts ts ≡ true → p ts ≡ Err e → total ≡ Err e
unfolding many_from
fails starts p total n at found ts e below so_far begins reads =
    let turn : n - at ≡ suc (n - (at + 1)) = omega arith in
    so_far ∙ rw (turn, begins, reads) refl

-- no turn is left
pub ends : {A : Type 0} (starts : Tokens → Bool) (p : Parser A) (total : Outcome (List A)) (n at : ℕ) (found : List A) (ts : Tokens)
    → n ≤ at → total ≡ many_from starts p (n - at) found ts → total ≡ Ok (found, ts)
unfolding many_from
ends starts p total n at found ts done so_far =
    let none : n - at ≡ 0 = omega arith in
    so_far ∙ rw none refl
