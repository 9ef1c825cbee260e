-- The names of the generated functions.
use Rattle.std.proofs.Common.{◌≡◌, ℕ, ◌<◌, ◌==◌, ◌^◌, Bool, true, false, ◌||◌, [], ◌∷◌, refl, rules}
use Rattle.std.specs.Fmt.{decimal}
use Rattle.std.specs.List.{list_any}
use Rattle.std.specs.Str.{bytes_eq}
use Rattle.std.specs.Str.Parse.{digits_value}
use Rattle.std.proofs.lemmas.Fmt.{decimal_injective, digits_decimal}
use Rattle.std.proofs.lemmas.Str.Parse.{IsNumeralModel, numerals_by_value}
use Rattle.gimple_ir.specs.Names.{Bytes, is_digit, starts_name, goes_on_name, AllPass, is_keyword, IsNameText}
use Rattle.gimple_core.proofs.NameLemmas.{same_name_true}
use Rattle.gimple_gen.specs.Generated.{function_name}

own : IsNumeralModel (AllPass is_digit) (digits_value 10)
own = numerals_by_value (AllPass is_digit) (search rules)

either : (a d c : Bool) → d ≡ true → a || d || c ≡ true
either true d c h = refl
either false true c h = refl
either false false c h = cc

digits_go_on : (bs : Bytes) → AllPass is_digit bs → AllPass goes_on_name bs
digits_go_on [] h = tt
digits_go_on (b ∷ bs) h = (either (starts_name b) (is_digit b) (b == 46) h.0, digits_go_on bs h.1)

pub is_name : (i : ℕ) → i < 2 ^ 64 → IsNameText (function_name i)
unfolding is_keyword
is_name i h = (refl, digits_go_on (decimal i) (digits_decimal own i h), refl)

pub names_differ : (i j : ℕ) → i < 2 ^ 64 → j < 2 ^ 64 → (i ≡ j → ⊥) → bytes_eq (function_name i) (function_name j) ≡ false
names_differ i j h k different = by (bytes_eq (function_name i) (function_name j)) refl
  where
    by : (b : Bool) → bytes_eq (function_name i) (function_name j) ≡ b → b ≡ false
    by true e =
        let same : 102 ∷ decimal i ≡ 102 ∷ decimal j = same_name_true (function_name i) (function_name j) e in
        let digits : decimal i ≡ decimal j = cc in
        absurd (different (decimal_injective i j h k digits))
    by false e = refl
