-- The tokens of bytes are tokens that bytes can have.
use Rattle.std.proofs.Common.{◌≡◌, ℕ, ◌<◌, ◌^◌, nat_le, true, false, List, [], ◌∷◌, ◌++◌, Option, Some, None, refl, sym, ap, subst, arith, inl, inr}
use Rattle.std.proofs.lemmas.Bool.Decides.{nat_tests}
use Rattle.gimple_tokens.specs.declared.token.Symbol.{Symbol}
use Rattle.gimple_tokens.specs.declared.token.Token.{Token}
use Rattle.gimple_ir.specs.Names.{Bytes, AllPass, starts_name, goes_on_name, is_digit}
use Rattle.gimple_tokens.specs.Lexing.{front, skip, keyword, word, number_after, number_token, mark, mark_at, pair_mark, begins_pair, paired_at, one_mark, longer_mark, word_at, number_at, token_at, LexesFrom, LexesUpTo, IsReal, AllReal}
use Rattle.gimple_tokens.proofs.Fronts.{test, front_passes}
use Rattle.gimple_tokens.proofs.KeywordLaws.{no_symbol}

abbrev RealAt : Option (Token × Bytes) → Type 0
RealAt None = Unit {0}
RealAt (Some x) = IsReal x.0

one_real : (o : Option Symbol) (bs : Bytes) → RealAt (one_mark o bs)
one_real None bs = tt
one_real (Some x) bs = tt

longer_real : (p o : Option Symbol) (cs bs : Bytes) → RealAt (longer_mark p cs (one_mark o bs))
longer_real None o cs bs = one_real o bs
longer_real (Some x) o cs bs = tt

paired_real : (b : ℕ) (bs : Bytes) → RealAt (paired_at b bs)
paired_real b [] = one_real (mark b) []
paired_real b (c ∷ bs) = longer_real (pair_mark b c) (mark b) bs (c ∷ bs)

mark_real : (b : ℕ) (bs : Bytes) → RealAt (mark_at b bs)
mark_real b bs = elim (test (begins_pair b)) [ inl e ↦ rw e (paired_real b bs) | inr e ↦ rw e (one_real (mark b) bs) ]

below : (n : ℕ) → nat_le n 18446744073709551615 ≡ true → n < 2 ^ 64
below n h = grind (arith, nat_tests)

number_real : (n : ℕ) → IsReal (number_token n)
number_real n = elim (test (nat_le n 18446744073709551615)) [ inl e ↦ rw e (below n e) | inr e ↦ rw e tt ]

word_real : (b : ℕ) (bs : Bytes) → starts_name b ≡ true → AllPass goes_on_name bs → (o : Option Symbol) → keyword (b ∷ bs) ≡ o → IsReal (word (b ∷ bs) o)
word_real b bs h k None e = (h, k, no_symbol (b ∷ bs) e)
word_real b bs h k (Some x) e = tt

some_word_real : (w : Bytes) (b : ℕ) (bs : Bytes) → w ≡ b ∷ bs → starts_name b ≡ true → AllPass goes_on_name bs → IsReal (word w (keyword w))
some_word_real w b bs e h k = rw e (word_real b bs h k (keyword (b ∷ bs)) refl)

head_real : (b : ℕ) (bs : Bytes) → RealAt (token_at (b ∷ bs))
head_real b bs =
    elim (test (starts_name b)) [
      | inl e ↦
          let on : goes_on_name b ≡ true = rw e refl in
          let w : front goes_on_name (b ∷ bs) ≡ b ∷ front goes_on_name bs = rw on refl in
          let r = some_word_real (front goes_on_name (b ∷ bs)) b (front goes_on_name bs) w e (front_passes goes_on_name bs) in
          let at : token_at (b ∷ bs) ≡ Some (word_at (b ∷ bs)) = rw e refl in
          subst RealAt (sym at) r
      | inr e ↦ elim (test (is_digit b)) [ inl d ↦ let at : token_at (b ∷ bs) ≡ Some (number_at (b ∷ bs)) = rw (e, d) refl in subst RealAt (sym at) (number_real (number_after 0 (front is_digit (b ∷ bs)))) | inr d ↦ rw (e, d) (mark_real b bs) ]
    ]

real_is : (o : Option (Token × Bytes)) (t : Token) (rest : Bytes) → RealAt o → o ≡ Some (t, rest) → IsReal t
real_is None t rest h e = absurd cc
real_is (Some x) t rest h e = let f : x ≡ (t, rest) = cc in let g : x.0 ≡ t = ap (λ (y : Token × Bytes). y.0) f in rw (← g) h

pub token_real : (bs : Bytes) (t : Token) (rest : Bytes) → token_at bs ≡ Some (t, rest) → IsReal t
token_real [] t rest e = absurd cc
token_real (b ∷ bs) t rest e = real_is (token_at (b ∷ bs)) t rest (head_real b bs) e

pub lexed_real : (bs : Bytes) (ts : List Token) → LexesFrom bs ts → AllReal ts
lexed_real bs [] h = tt
lexed_real bs (t ∷ ts) h = (token_real bs t h.0 h.1, lexed_real (skip false h.0) ts h.2)

pub up_to_real : (bs : Bytes) (ts : List Token) (rest : Bytes) → LexesUpTo bs ts rest → AllReal ts
up_to_real bs [] rest h = tt
up_to_real bs (t ∷ ts) rest h = (token_real bs t h.0 h.1, up_to_real (skip false h.0) ts rest h.2)

pub front_real : (ts us : List Token) → AllReal (ts ++ us) → AllReal ts
front_real [] us h = tt
front_real (t ∷ ts) us h = (h.0, front_real ts us h.1)

pub back_real : (ts us : List Token) → AllReal (ts ++ us) → AllReal us
back_real [] us h = h
back_real (t ∷ ts) us h = back_real ts us h.1
