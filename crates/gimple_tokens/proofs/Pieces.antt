-- How pieces of canonical text lex, whatever follows.
use Rattle.std.proofs.Common.{◌≡◌, ℕ, ◌<◌, ◌^◌, ◌==◌, nat_le, Bool, true, false, ◌||◌, List, [], ◌∷◌, ◌++◌, length, Some, refl, ap, subst, ◌∙◌, arith, rules}
use Rattle.std.proofs.lemmas.Bool.{eqb-true}
use Rattle.std.proofs.lemmas.Bool.Decides.{nat_tests}
use Rattle.std.proofs.lemmas.Fmt.{digits_decimal, digits_value-decimal, decimal_nonempty}
use Rattle.std.proofs.lemmas.Str.Parse.{IsNumeralModel, numerals_by_fold}
use Rattle.std.specs.Fmt.{decimal}
use Rattle.gimple_tokens.specs.declared.token.Symbol.{Symbol}
use Rattle.gimple_tokens.specs.declared.token.Token.{Token}
use Rattle.gimple_tokens.specs.declared.token.Token.TheVariants as tok
use Rattle.gimple_ir.specs.Names.{Bytes, is_digit, starts_name, goes_on_name, AllPass, IsNameText}
use Rattle.gimple_tokens.specs.Lexing.{skip, front, back, keyword, word, word_at, token_at, Lexes, number_after, number_token}
use Rattle.gimple_tokens.proofs.KeywordLaws.{no_keyword}

-- the next byte does not pass
abbrev pub Stops : (ℕ → Bool) → Bytes → Type 0
Stops p [] = Unit {0}
Stops p (b ∷ bs) = p b ≡ false

pub front_is : (p : ℕ → Bool) (x rest : Bytes) → AllPass p x → Stops p rest → front p (x ++ rest) ≡ x
front_is p [] [] h stop = refl
front_is p [] (b ∷ bs) h stop = rw stop refl
front_is p (b ∷ bs) rest h stop = rw (h.0, front_is p bs rest h.1 stop) refl

pub back_is : (p : ℕ → Bool) (x rest : Bytes) → AllPass p x → Stops p rest → back p (x ++ rest) ≡ rest
back_is p [] [] h stop = refl
back_is p [] (b ∷ bs) h stop = rw stop refl
back_is p (b ∷ bs) rest h stop = rw (h.0, back_is p bs rest h.1 stop) refl

-- a byte that passes a test is none that does not
differs : (p : ℕ → Bool) (b c : ℕ) → p b ≡ true → p c ≡ false → (b == c) ≡ false
differs p b c pass fail = by (b == c) refl where
  by : (t : Bool) → (b == c) ≡ t → t ≡ false
  by false e = refl
  by true e = let same : b ≡ c = eqb-true b c e in let f : p b ≡ false = ap p same ∙ fail in absurd cc

-- where a token begins, nothing is skipped
stays : (p : ℕ → Bool) (b : ℕ) (bs : Bytes) → p b ≡ true → p 32 ≡ false → p 9 ≡ false → p 10 ≡ false → p 13 ≡ false → p 47 ≡ false → skip false (b ∷ bs) ≡ b ∷ bs
stays p b bs h a1 a2 a3 a4 a5 = rw (differs p b 32 h a1, differs p b 9 h a2, differs p b 10 h a3, differs p b 13 h a4, differs p b 47 h a5) refl

-- a word, whether it is a name or a keyword
pub word_lexes : (b : ℕ) (bs rest : Bytes) (ts : List Token) → starts_name b ≡ true → AllPass goes_on_name bs → Stops goes_on_name rest → Lexes rest ts → Lexes (b ∷ (bs ++ rest)) (word (b ∷ bs) (keyword (b ∷ bs)) ∷ ts)
word_lexes b bs rest ts starts pass stop l =
    let on : goes_on_name b ≡ true = rw starts refl in
    let e1 : skip false (b ∷ (bs ++ rest)) ≡ b ∷ (bs ++ rest) = stays starts_name b (bs ++ rest) starts refl refl refl refl refl in
    let f : front goes_on_name (b ∷ (bs ++ rest)) ≡ b ∷ bs = front_is goes_on_name (b ∷ bs) rest (on, pass) stop in
    let g : back goes_on_name (b ∷ (bs ++ rest)) ≡ rest = back_is goes_on_name (b ∷ bs) rest (on, pass) stop in
    let e2 : token_at (b ∷ (bs ++ rest)) ≡ Some (word_at (b ∷ (bs ++ rest))) = rw starts refl in
    let e3 : Some (word_at (b ∷ (bs ++ rest))) ≡ Some (word (b ∷ bs) (keyword (b ∷ bs)), rest) = rw (f, g) refl in
    (rest, ap token_at e1 ∙ e2 ∙ e3, l)

pub name_lexes : (x rest : Bytes) (ts : List Token) → IsNameText x → Stops goes_on_name rest → Lexes rest ts → Lexes (x ++ rest) (tok.Name x ∷ ts)
name_lexes [] rest ts h stop l = absurd h
name_lexes (b ∷ bs) rest ts h stop l = subst (λ o. Lexes (b ∷ (bs ++ rest)) (word (b ∷ bs) o ∷ ts)) (no_keyword (b ∷ bs) h.2) (word_lexes b bs rest ts h.0 h.1 stop l)

pub keyword_lexes : (b : ℕ) (bs : Bytes) (x : Symbol) (rest : Bytes) (ts : List Token) → keyword (b ∷ bs) ≡ Some x → starts_name b ≡ true → AllPass goes_on_name bs → Stops goes_on_name rest → Lexes rest ts → Lexes (b ∷ (bs ++ rest)) (tok.Fixed x ∷ ts)
keyword_lexes b bs x rest ts e starts pass stop l = subst (λ o. Lexes (b ∷ (bs ++ rest)) (word (b ∷ bs) o ∷ ts)) e (word_lexes b bs rest ts starts pass stop l)

own : IsNumeralModel (AllPass is_digit) (number_after 0)
own = numerals_by_fold (AllPass is_digit) (search rules) number_after (search rules)

digit_no_name : (b : ℕ) → is_digit b ≡ true → starts_name b ≡ false
digit_no_name b h = grind (arith, nat_tests)

digits_lex : (ds rest : Bytes) (ts : List Token) → AllPass is_digit ds → 0 < length ds → Stops is_digit rest → Lexes rest ts → Lexes (ds ++ rest) (number_token (number_after 0 ds) ∷ ts)
digits_lex [] rest ts h some stop l = absurd (omega arith)
digits_lex (b ∷ bs) rest ts h some stop l =
    let digit : is_digit b ≡ true = h.0 in
    let no_name : starts_name b ≡ false = digit_no_name b digit in
    let e1 : skip false (b ∷ (bs ++ rest)) ≡ b ∷ (bs ++ rest) = stays is_digit b (bs ++ rest) digit refl refl refl refl refl in
    let f : front is_digit (b ∷ (bs ++ rest)) ≡ b ∷ bs = front_is is_digit (b ∷ bs) rest h stop in
    let g : back is_digit (b ∷ (bs ++ rest)) ≡ rest = back_is is_digit (b ∷ bs) rest h stop in
    let e2 : token_at (b ∷ (bs ++ rest)) ≡ Some (number_token (number_after 0 (front is_digit (b ∷ (bs ++ rest)))), back is_digit (b ∷ (bs ++ rest))) = rw (no_name, digit) refl in
    let e3 : Some (number_token (number_after 0 (front is_digit (b ∷ (bs ++ rest)))), back is_digit (b ∷ (bs ++ rest))) ≡ Some (number_token (number_after 0 (b ∷ bs)), rest) = rw (f, g) refl in
    (rest, ap token_at e1 ∙ e2 ∙ e3, l)

within : (n : ℕ) → n < 2 ^ 64 → nat_le n 18446744073709551615 ≡ true
within n h = grind (arith, nat_tests)

small_token : (n : ℕ) → n < 2 ^ 64 → number_token n ≡ tok.Number n
small_token n h = rw (within n h) refl

pub number_lexes : (n : ℕ) (rest : Bytes) (ts : List Token) → n < 2 ^ 64 → Stops is_digit rest → Lexes rest ts → Lexes (decimal n ++ rest) (tok.Number n ∷ ts)
number_lexes n rest ts small stop l =
    let e : number_after 0 (decimal n) ≡ n = digits_value-decimal own n small in
    let h = digits_lex (decimal n) rest ts (digits_decimal own n small) (decimal_nonempty n small) stop l in
    subst (λ u. Lexes (decimal n ++ rest) (u ∷ ts)) (ap number_token e ∙ small_token n small) h

pub stops_digit : (rest : Bytes) → Stops goes_on_name rest → Stops is_digit rest
stops_digit [] h = tt
stops_digit (b ∷ bs) h = or_false (starts_name b) (is_digit b) (or_left (starts_name b || is_digit b) (b == 46) h) where
  or_left : (x y : Bool) → (x || y) ≡ false → x ≡ false
  or_left true y e = e
  or_left false y e = refl

  or_false : (x y : Bool) → (x || y) ≡ false → y ≡ false
  or_false true y e = absurd cc
  or_false false y e = e
