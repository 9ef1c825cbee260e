-- As many rows as functions, and in each as many values as formals.
use Rattle.std.proofs.Common.{◌≡◌, ℕ, ◌<◌, List, [], length, map, get_or, sym, ap, ◌∙◌, arith}
use Rattle.std.proofs.lemmas.List.{get_or-map, length-map}
use Rattle.gimple_ir.specs.declared.program.Function.{Function}
use Rattle.value_domain.specs.declared.abs_val.AbsVal.{AbsVal}
use Rattle.ipa_dumps.specs.CpTexts.{AreRows}

row_count : (fs : List Function) (rows : List (List AbsVal)) → AreRows fs rows → length rows ≡ length fs
row_count fs rows h = sym (length-map rows length) ∙ (ap length h ∙ length-map fs (λ f. length f.params))

pub row_length : (fs : List Function) (rows : List (List AbsVal)) (k : ℕ) (d : Function) → AreRows fs rows → k < length fs → length (get_or rows k []) ≡ length (get_or fs k d).params
row_length fs rows k d h low =
    let count = row_count fs rows h in
    sym (get_or-map length rows k [] 0 (omega (arith, count, low)))
    ∙ (ap (λ ns. get_or ns k 0) h ∙ get_or-map (λ f. length f.params) fs k d 0 low)
