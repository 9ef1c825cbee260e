-- Token after token.
use Rattle.std.proofs.Common.{◌≡◌, ℕ, suc, ◌+◌, ◌-◌, ◌≤◌, ◌<◌, ◌==◌, ◌&&◌, Bool, true, false, not, List, [], ◌∷◌, ◌++◌, length, Option, Some, None, refl, arith, ap, ◌∙◌, inl, inr}
use Rattle.gimple_tokens.specs.declared.token.Symbol.{Symbol}
use Rattle.gimple_tokens.specs.declared.token.Token.{Token}
use Rattle.gimple_ir.specs.Names.{Bytes, starts_name, goes_on_name, is_digit}
use Rattle.gimple_tokens.specs.Lexing.{skip, is_blank, next_is, mark, mark_at, pair_mark, begins_pair, paired_at, one_mark, longer_mark, token_at, LexesFrom, LexesUpTo}
use Rattle.gimple_tokens.specs.Front.{Front, step, walk}
use Rattle.gimple_tokens.proofs.Fronts.{back_length, test}

-- ---- a token takes bytes

abbrev Within : ℕ → Option (Token × Bytes) → Type 0
Within n None = Unit {0}
Within n (Some x) = length x.1 ≤ n

one_within : (n : ℕ) (o : Option Symbol) (bs : Bytes) → length bs ≤ n → Within n (one_mark o bs)
one_within n None bs h = tt
one_within n (Some x) bs h = h

longer_within : (n : ℕ) (p o : Option Symbol) (cs bs : Bytes) → length cs ≤ n → length bs ≤ n → Within n (longer_mark p cs (one_mark o bs))
longer_within n None o cs bs h k = one_within n o bs k
longer_within n (Some x) o cs bs h k = h

paired_within : (b : ℕ) (bs : Bytes) → Within (length bs) (paired_at b bs)
paired_within b [] = one_within 0 (mark b) [] (omega arith)
paired_within b (c ∷ bs) = longer_within (length (c ∷ bs)) (pair_mark b c) (mark b) bs (c ∷ bs) (omega arith) (omega arith)

mark_within : (b : ℕ) (bs : Bytes) → Within (length bs) (mark_at b bs)
mark_within b bs = elim (test (begins_pair b)) [ inl e ↦ rw e (paired_within b bs) | inr e ↦ rw e (one_within (length bs) (mark b) bs (omega arith)) ]

token_within : (b : ℕ) (bs : Bytes) → Within (length bs) (token_at (b ∷ bs))
token_within b bs =
    elim (test (starts_name b)) [
      | inl e ↦ rw e (omega (arith, back_length goes_on_name bs))
      | inr e ↦ elim (test (is_digit b)) [ inl d ↦ rw (e, d) (omega (arith, back_length is_digit bs)) | inr d ↦ rw (e, d) (mark_within b bs) ]
    ]

within_is : (n : ℕ) (o : Option (Token × Bytes)) (t : Token) (rest : Bytes) → Within n o → o ≡ Some (t, rest) → length rest ≤ n
within_is n None t rest h e = absurd cc
within_is n (Some x) t rest h e = let f : x ≡ (t, rest) = cc in let g : x.1 ≡ rest = ap (λ (y : Token × Bytes). y.1) f in rw (← g) h

pub skip_length : (c : Bool) (bs : Bytes) → length (skip c bs) ≤ length bs
skip_length c [] = omega arith
skip_length true (b ∷ bs) = omega (arith, skip_length (not (b == 10)) bs)
skip_length false (b ∷ bs) =
    elim (test (is_blank b)) [
      | inl e ↦ rw e (omega (arith, skip_length false bs))
      | inr e ↦ elim (test ((b == 47) && next_is 47 bs)) [ inl d ↦ rw (e, d) (omega (arith, skip_length true bs)) | inr d ↦ rw (e, d) (omega arith) ]
    ]

pub shorter : (bs : Bytes) (t : Token) (rest : Bytes) → token_at bs ≡ Some (t, rest) → length (skip false rest) < length bs
shorter [] t rest e = absurd cc
shorter (b ∷ bs) t rest e = omega (arith, within_is (length bs) (token_at (b ∷ bs)) t rest (token_within b bs) e, skip_length false rest)

pub takes : (bs : Bytes) (t : Token) (rest : Bytes) → token_at bs ≡ Some (t, rest) → length rest ≤ length bs
takes [] t rest e = absurd cc
takes (b ∷ bs) t rest e = omega (arith, within_is (length bs) (token_at (b ∷ bs)) t rest (token_within b bs) e)

-- ---- lists of tokens

pub pushed : (bs : Bytes) (ts : List Token) (rest : Bytes) (t : Token) (mid : Bytes) → LexesUpTo bs ts rest → token_at rest ≡ Some (t, mid) → LexesUpTo bs (ts ++ t ∷ []) (skip false mid)
pushed bs [] rest t mid h e = (mid, ap token_at h ∙ e, refl)
pushed bs (u ∷ us) rest t mid h e = (h.0, h.1, pushed (skip false h.0) us rest t mid h.2 e)

pub ended : (bs : Bytes) (ts : List Token) (rest : Bytes) → LexesUpTo bs ts rest → rest ≡ [] → LexesFrom bs ts
ended bs [] rest h e = h ∙ e
ended bs (u ∷ us) rest h e = (h.0, h.1, ended (skip false h.0) us rest h.2 e)

pub fronted : (bs : Bytes) (ts : List Token) (rest : Bytes) (left : ℕ) → LexesUpTo (skip false bs) ts rest → token_at rest ≡ None → length rest ≡ left → Front bs ts left
fronted bs ts rest left h e n = record { rest = rest; lexed = h; count = n; refused = e }

-- ---- the place behind some tokens

pub walked : (bs : Bytes) (ts us : List Token) (rest : Bytes) → LexesUpTo bs (ts ++ us) rest → LexesUpTo bs ts (walk (length ts) bs) × LexesUpTo (walk (length ts) bs) us rest
walked bs [] us rest h = (refl, h)
walked bs (t ∷ ts) us rest h =
    let q = walked (skip false h.0) ts us rest h.2 in
    let n : length (t ∷ ts) ≡ suc (length ts) = omega arith in
    let e : walk (length (t ∷ ts)) bs ≡ walk (length ts) (skip false h.0) = ap (λ k. walk k bs) n ∙ ap (λ o. walk (length ts) (step bs o)) h.1 in
    (rw e (h.0, h.1, q.0), rw e q.1)

pub turned : (n at : ℕ) (bs : Bytes) → at < n → walk (n - at) bs ≡ walk (n - (at + 1)) (step bs (token_at bs))
turned n at bs h = let e : n - at ≡ suc (n - (at + 1)) = omega arith in rw e refl
