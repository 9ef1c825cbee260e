-- A text has one program, or one fault: the tokens of both stop at one place.
use Rattle.std.proofs.Common.{◌≡◌, List, [], ◌∷◌, ◌++◌, false, None, refl, sym, ap, ◌∙◌, append_assoc, inl, inr}
use Rattle.std.proofs.lemmas.List.{append-nil}
use Rattle.gimple_ir.specs.declared.program.Program.{Program}
use Rattle.gimple_tokens.specs.declared.token.Token.{Token}
use Rattle.gimple_tokens.specs.declared.spot.Spot.{Spot}
use Rattle.gimple_ir.specs.Names.{Bytes}
use Rattle.gimple_tokens.specs.Lexing.{Lexes, LexesUpTo, token_at, skip, AllReal}
use Rattle.gimple_tokens.specs.Spots.{spot_before}
use Rattle.gimple_tokens.proofs.OneList.{some_parts, to_end, compared}
use Rattle.gimple_tokens.proofs.Real.{up_to_real}
use Rattle.token_law.proofs.ReadsExactly.{both_real}
use Rattle.gimple_grammar.specs.TokenFaults.{BeginsProgram}
use Rattle.gimple_text.specs.Parse.{Spells, IsBadByte, IsBadToken, IsEarlyEnd, OneProgram, FaultExcludes, OneFault}
use Rattle.gimple_text.specs.declared.fault.TextFault.TheVariants.{Memory, BadByte, BadToken, EarlyEnd}
use Rattle.gimple_grammar.proofs.Theorems.{one}
use Rattle.gimple_text.proofs.Composed.{begun}

-- the tokens begin a program, and with those that come next they do not
record Stop (bs : Bytes) (ts : List Token) (rest : Bytes) : Type 0 where
  lexed : LexesUpTo (skip false bs) ts rest
  begins : BeginsProgram ts
  blocked : (t : Token) (us : List Token) (end : Bytes) → LexesUpTo rest (t ∷ us) end → BeginsProgram (ts ++ t ∷ us) → ⊥

one_stop : (bs : Bytes) (ts us : List Token) (r s : Bytes) → Stop bs ts r → Stop bs us s → (ts ≡ us) × (r ≡ s)
one_stop bs ts us r s h k =
    elim (compared (skip false bs) ts us r s h.lexed k.lexed) [
      | inl v ↦ onward bs ts us r s h k v.0 v.1 v.2
      | inr v ↦ let q = onward bs us ts s r k h v.0 v.1 v.2 in (sym q.0, sym q.1)
    ] where
      onward : (bs : Bytes) (ts us : List Token) (r s : Bytes) → Stop bs ts r → Stop bs us s → (vs : List Token) → us ≡ ts ++ vs → LexesUpTo r vs s → (ts ≡ us) × (r ≡ s)
      onward bs ts us r s h k [] e l = (sym (e ∙ append-nil ts), l)
      onward bs ts us r s h k (v ∷ vs) e l = absurd (h.blocked v vs s l (rw (← e) k.begins))

none_at : (bs : Bytes) (t : Token) (us : List Token) (end : Bytes) → token_at bs ≡ None → LexesUpTo bs (t ∷ us) end → ⊥
none_at bs t us end e h = let f = h.1 in absurd cc

-- a front begins a program where more of the text does
front_begins : (ts us : List Token) → AllReal us → BeginsProgram (ts ++ us) → BeginsProgram ts
front_begins ts us real b = (b.0, us ++ b.1, both_real us b.1 real b.2, rw (← append_assoc ts us b.1) b.3)

end_stop : (bs : Bytes) (ts : List Token) → Lexes bs ts → BeginsProgram ts → Stop bs ts []
end_stop bs ts h b = record { lexed = to_end (skip false bs) ts h; begins = b; blocked = λ t us end l c. none_at [] t us end refl l }

byte_stop : (bs : Bytes) (spot : Spot) (f : IsBadByte bs spot) → Stop bs f.tokens f.rest
byte_stop bs spot f = record { lexed = f.lexed; begins = f.begins; blocked = λ t us end l c. none_at f.rest t us end f.refused l }

token_stop : (bs : Bytes) (spot : Spot) (f : IsBadToken bs spot) → Stop bs f.tokens f.at
token_stop bs spot f = record {
  lexed = f.lexed;
  begins = f.begins;
  blocked = λ t us end l c.
      let e = some_parts t f.token l.0 f.behind (sym l.1 ∙ f.next) in
      let real = up_to_real (skip false l.0) us end l.2 in
      let d : BeginsProgram ((f.tokens ++ f.token ∷ []) ++ us) = rw (append_assoc f.tokens (f.token ∷ []) us) (rw (← e.0) c) in
      f.over (front_begins (f.tokens ++ f.token ∷ []) us real d);
}

early_stop : (bs : Bytes) (spot : Spot) (f : IsEarlyEnd bs spot) → Stop bs f.tokens []
early_stop bs spot f = end_stop bs f.tokens f.lexed f.begins

spelled_stop : (bs : Bytes) (p : Program) (h : Spells bs p) → Stop bs h.tokens []
spelled_stop bs p h = end_stop bs h.tokens h.lexed (begun h.tokens p h.spelled)

-- the places of different faults differ
byte_token : (bs : Bytes) (s t : Spot) → IsBadByte bs s → IsBadToken bs t → ⊥
byte_token bs s t f g =
    let e = (one_stop bs f.tokens g.tokens f.rest g.at (byte_stop bs s f) (token_stop bs t g)).1 in
    let n = ap token_at e in
    let a = f.refused in
    let b = g.next in
    absurd cc

byte_end : (bs : Bytes) (s : Spot) (ts : List Token) → IsBadByte bs s → Stop bs ts [] → ⊥
byte_end bs s ts f g = f.some (one_stop bs f.tokens ts f.rest [] (byte_stop bs s f) g).1

token_end : (bs : Bytes) (s : Spot) (ts : List Token) → IsBadToken bs s → Stop bs ts [] → ⊥
token_end bs s ts f g =
    let e = (one_stop bs f.tokens ts f.at [] (token_stop bs s f) g).1 in
    let n = ap token_at e in
    let a = f.next in
    absurd cc

-- ---- the laws

pub one_program : OneProgram
one_program bs p q h k =
    let e = (one_stop bs h.tokens k.tokens [] [] (spelled_stop bs p h) (spelled_stop bs q k)).0 in
    one k.tokens p q (rw (← e) h.spelled) k.spelled

pub fault_excludes : FaultExcludes
fault_excludes bs (BadByte s) p f h = byte_end bs s h.tokens f (spelled_stop bs p h)
fault_excludes bs (BadToken s) p f h = token_end bs s h.tokens f (spelled_stop bs p h)
fault_excludes bs (EarlyEnd s) p f h =
    let e = (one_stop bs f.tokens h.tokens [] [] (early_stop bs s f) (spelled_stop bs p h)).0 in
    f.none p (rw e h.spelled)
fault_excludes bs (Memory want) p f h = f

pub one_fault : OneFault
one_fault bs (BadByte s) (BadByte t) f g =
    let e = (one_stop bs f.tokens g.tokens f.rest g.rest (byte_stop bs s f) (byte_stop bs t g)).1 in
    ap BadByte (f.there ∙ ap (spot_before bs) e ∙ sym g.there)
one_fault bs (BadByte s) (BadToken t) f g = absurd (byte_token bs s t f g)
one_fault bs (BadByte s) (EarlyEnd t) f g = absurd (byte_end bs s g.tokens f (early_stop bs t g))
one_fault bs (BadToken s) (BadByte t) f g = absurd (byte_token bs t s g f)
one_fault bs (BadToken s) (BadToken t) f g =
    let e = (one_stop bs f.tokens g.tokens f.at g.at (token_stop bs s f) (token_stop bs t g)).1 in
    ap BadToken (f.there ∙ ap (spot_before bs) e ∙ sym g.there)
one_fault bs (BadToken s) (EarlyEnd t) f g = absurd (token_end bs s g.tokens f (early_stop bs t g))
one_fault bs (EarlyEnd s) (BadByte t) f g = absurd (byte_end bs t f.tokens g (early_stop bs s f))
one_fault bs (EarlyEnd s) (BadToken t) f g = absurd (token_end bs t f.tokens g (early_stop bs s f))
one_fault bs (EarlyEnd s) (EarlyEnd t) f g = ap EarlyEnd (f.there ∙ sym g.there)
one_fault bs (Memory want) g f h = absurd f
one_fault bs (BadByte s) (Memory want) f g = absurd g
one_fault bs (BadToken s) (Memory want) f g = absurd g
one_fault bs (EarlyEnd s) (Memory want) f g = absurd g
