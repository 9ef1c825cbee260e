-- A table of what is given of loads, made from the last fact on.
use Rattle.std.proofs.Common.{◌≡◌, ◌∙◌, ap, sym, subst, ℕ, ◌+◌, ◌<◌, ◌≤◌, ◌==◌, ◌&&◌, Bool, true, false, cond, List, ◌∷◌, length, drop, get_or, Option, Some, Bor, arith}
use Rattle.std.specs.List.{find}
use Rattle.std.proofs.lemmas.List.{drop_more}
use Rattle.std.specs.Map.{lookup}
use Rattle.std.specs.Option.{option_copied}
use Rattle.value_domain.specs.declared.abs_val.AbsVal.{AbsVal}
use Rattle.body_values.specs.declared.facts.LoadFact.{LoadFact}
use Rattle.body_values.specs.Flow.{is_point, fact_value}
use Rattle.body_values.specs.GivenLoads.{is_place, HasFirst}

abbrev Entries : Type 0
Entries = List ((ℕ × ℕ) × Bor AbsVal)

chosen : (b : Bool) (f : LoadFact) (v : Bor AbsVal) (o : Option (Bor AbsVal)) (g : Option LoadFact) → v.now ≡ f.value → option_copied o ≡ fact_value g → option_copied (cond b (Some v) o) ≡ fact_value (cond b (Some f) g)
chosen true f v o g e h = ap Some e
chosen false f v o g e h = h

-- a fact of the function that is put in comes before the others
pub put_in : (f : LoadFact) (v : Bor AbsVal) (facts : List LoadFact) (n : ℕ) (old new : Entries) → v.now ≡ f.value → (f.point.function == n) ≡ true →
    ((q : ℕ × ℕ) → lookup (is_place q.0 q.1) new ≡ cond (is_place f.point.block f.point.index q) (Some v) (lookup (is_place q.0 q.1) old)) → HasFirst old facts n → HasFirst new (f ∷ facts) n
put_in f v facts n old new e own put h k i =
    ap option_copied (put (k, i))
    ∙ chosen (is_place f.point.block f.point.index (k, i)) f v (lookup (is_place k i) old) (find (λ x. is_point x.point n k i) facts) e (h k i)
    ∙ ap (λ (b : Bool). fact_value (cond (b && is_place f.point.block f.point.index (k, i)) (Some f) (find (λ x. is_point x.point n k i) facts))) (sym own)

-- a fact of another function changes nothing
pub left_out : (f : LoadFact) (facts : List LoadFact) (n : ℕ) (old : Entries) → (f.point.function == n) ≡ false → HasFirst old facts n → HasFirst old (f ∷ facts) n
left_out f facts n old other h k i =
    h k i ∙ ap (λ (b : Bool). fact_value (cond (b && is_place f.point.block f.point.index (k, i)) (Some f) (find (λ x. is_point x.point n k i) facts))) (sym other)

-- one fact before the others
pub step_back : (facts : List LoadFact) (m at : ℕ) (f : LoadFact) (n : ℕ) (old new : Entries) → at ≡ m + 1 → at ≤ length facts → f ≡ get_or facts m f → ((gs : List LoadFact) → HasFirst old gs n → HasFirst new (f ∷ gs) n) →
    HasFirst old (drop at facts) n → HasFirst new (drop m facts) n
step_back facts m at f n old new e within is put h =
    let here : m < length facts = omega (arith, e, within) in
    let whole : drop m facts ≡ f ∷ drop (m + 1) facts = drop_more facts m f here ∙ ap (λ (g : LoadFact). g ∷ drop (m + 1) facts) (sym is) in
    subst (λ (gs : List LoadFact). HasFirst new gs n) (sym whole) (put (drop (m + 1) facts) (subst (λ (k : ℕ). HasFirst old (drop k facts) n) e h))
