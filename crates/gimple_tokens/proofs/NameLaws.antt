-- The tests of names and digits.
use Rattle.std.proofs.Common.{◌≡◌, ◌↔◌, ℕ, Bool, true, false, ◌&&◌, [], ◌∷◌, Option, Some, None, IsTrue, refl, inl, inr}
use Rattle.gimple_tokens.specs.declared.token.Symbol.{Symbol}
use Rattle.gimple_ir.specs.Names.{Bytes, AllPass, starts_name, goes_on_name, IsNameText}
use Rattle.gimple_tokens.specs.Lexing.{all_pass, keyword, is_none, is_name_text}
use Rattle.gimple_tokens.proofs.Fronts.{test}
use Rattle.gimple_tokens.proofs.KeywordLaws.{no_keyword, no_symbol}

pub passes : (p : ℕ → Bool) (bs : Bytes) → all_pass p bs ≡ true → AllPass p bs
passes p [] e = tt
passes p (b ∷ bs) e =
    elim (test (p b)) [
      | inl h ↦ (h, passes p bs (rw h at e))
      | inr h ↦ let f : false ≡ true = rw h at e in absurd cc
    ]

passing : (p : ℕ → Bool) (bs : Bytes) → AllPass p bs → all_pass p bs ≡ true
passing p [] h = refl
passing p (b ∷ bs) h = rw h.0 (passing p bs h.1)

none_is : (o : Option Symbol) → is_none o ≡ true → o ≡ None
none_is None e = refl
none_is (Some x) e = absurd cc

both : (a b c : Bool) → (a && b && c) ≡ true → (a ≡ true) × (b ≡ true) × (c ≡ true)
both true true c e = (refl, refl, e)
both true false c e = absurd cc
both false b c e = absurd cc

name_from : (bs : Bytes) → is_name_text bs ≡ true → IsNameText bs
name_from [] e = absurd cc
name_from (b ∷ bs) e =
    let h = both (starts_name b) (all_pass goes_on_name bs) (is_none (keyword (b ∷ bs))) e in
    (h.0, passes goes_on_name bs h.1, no_symbol (b ∷ bs) (none_is (keyword (b ∷ bs)) h.2))

name_to : (bs : Bytes) → IsNameText bs → is_name_text bs ≡ true
name_to [] h = absurd h
name_to (b ∷ bs) h = rw (h.0, passing goes_on_name bs h.1, no_keyword (b ∷ bs) h.2) refl

pub name_tested : (bs : Bytes) → IsTrue (is_name_text bs) ↔ IsNameText bs
name_tested bs = (λ h. name_from bs h, λ h. name_to bs h)
