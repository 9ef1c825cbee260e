-- Bytes have one list of tokens.
use Rattle.std.proofs.Common.{◌≡◌, List, [], ◌∷◌, ◌++◌, false, Option, Some, None, refl, sym, ap, subst, ◌∙◌, inl, inr, ◌⊎◌}
use Rattle.gimple_tokens.specs.declared.token.Token.{Token}
use Rattle.gimple_ir.specs.Names.{Bytes}
use Rattle.gimple_tokens.specs.Lexing.{LexesFrom, LexesUpTo, token_at, skip}

abbrev found : Token → Bytes → Option (Token × Bytes)
found t bs = Some (t, bs)

pub some_parts : (a c : Token) (b d : Bytes) → found a b ≡ found c d → (a ≡ c) × (b ≡ d)
some_parts a c b d e = let h : (a, b) ≡ (c, d) = cc in (ap (λ (x : Token × Bytes). x.0) h, ap (λ (x : Token × Bytes). x.1) h)

-- tokens of the whole are those of a front that ends where none begins
pub same_tokens : (bs : Bytes) (ts us : List Token) (rest : Bytes) → LexesUpTo bs ts rest → token_at rest ≡ None → LexesFrom bs us → (us ≡ ts) × (rest ≡ [])
same_tokens bs [] [] rest h stop k = (refl, sym h ∙ k)
same_tokens bs [] (u ∷ us) rest h stop k = let e : token_at bs ≡ None = ap token_at h ∙ stop in let f = k.1 in absurd cc
same_tokens bs (t ∷ ts) [] rest h stop k = let e : bs ≡ [] = k in let f : token_at bs ≡ None = ap token_at e in let g = h.1 in absurd cc
same_tokens bs (t ∷ ts) (u ∷ us) rest h stop k =
    let e = some_parts u t k.0 h.0 (sym k.1 ∙ h.1) in
    let r : LexesFrom (skip false h.0) us = rw (← e.1) k.2 in
    let q = same_tokens (skip false h.0) ts us rest h.2 stop r in
    (rw (e.0, q.0) refl, q.1)

-- up to the end
pub to_end : (bs : Bytes) (ts : List Token) → LexesFrom bs ts → LexesUpTo bs ts []
to_end bs [] h = h
to_end bs (t ∷ ts) h = (h.0, h.1, to_end (skip false h.0) ts h.2)

-- of two fronts one goes on to the other
pub compared : (bs : Bytes) (ts us : List Token) (r s : Bytes) → LexesUpTo bs ts r → LexesUpTo bs us s
    → ((vs : List Token) × (us ≡ ts ++ vs) × LexesUpTo r vs s) ⊎ ((vs : List Token) × (ts ≡ us ++ vs) × LexesUpTo s vs r)
compared bs [] us r s h k = inl (us, refl, subst (λ z. LexesUpTo z us s) h k)
compared bs (t ∷ ts) [] r s h k = let p : LexesUpTo bs (t ∷ ts) r = h in inr (t ∷ ts, refl, subst (λ z. LexesUpTo z (t ∷ ts) r) k p)
compared bs (t ∷ ts) (u ∷ us) r s h k =
    let e = some_parts u t k.0 h.0 (sym k.1 ∙ h.1) in
    let q : LexesUpTo (skip false h.0) us s = rw (← e.1) k.2 in
    elim (compared (skip false h.0) ts us r s h.2 q) [
      | inl v ↦ inl (v.0, rw (e.0, v.1) refl, v.2)
      | inr v ↦ inr (v.0, rw (e.0, v.1) refl, v.2)
    ]
