-- What words give is within its limits.
use Rattle.std.proofs.Common.{◌≡◌, ℕ, List, [], ◌∷◌, ◌++◌, Bool, true, false, cond, eqb, Option, None, Some, unwrap_or, ap, sym, refl, subst, ◌∙◌, arith}
use Rattle.std.specs.Option.{option_or, IfSome}
use Rattle.std.proofs.lemmas.Bool.Decides.{nat_tests}
use Rattle.words.specs.declared.item.Param.{Param}
use Rattle.words.specs.declared.item.Param.TheVariants.{ValueListSize, EvalThreshold, UnitGrowth, LargeUnitInsns, MaxAggItems, MaxReplacements, PtrGrowthFactor, SraUnitGrowth, MaxBases, MaxRefs, MaxAccesses}
use Rattle.words.specs.declared.item.Item.{Item}
use Rattle.words.specs.declared.item.Item.TheVariants.{Source, Set, Workers}
use Rattle.words.specs.Items.{least_of, greatest_of}
use Rattle.words.specs.declared.options.SourceName.{SourceName}
use Rattle.words.specs.Sequence.{last_of, set_in, source_in, workers_in, param_number}
use Rattle.words.specs.Gathered.{gathered_of, param_in, params_of}
use Rattle.words.specs.Limits.{IsBetween, IsLawfulSource, AreWithin, HaveLimits, KeepsLimits}

abbrev pub AllKeep : List Item → Type 0
AllKeep [] = Unit {0}
AllKeep (i ∷ is) = KeepsLimits i × AllKeep is

pub all_more : (is : List Item) (i : Item) → AllKeep is → KeepsLimits i → AllKeep (is ++ i ∷ [])
all_more [] i h k = (k, tt)
all_more (x ∷ is) i h k = (h.0, all_more is i h.1 k)

either : {A : Type 0} (P : A → Type 0) (x y : Option A) → IfSome x P → IfSome y P → IfSome (option_or x y) P
either P None y h k = k
either P (Some a) y h k = h

or_default : (P : ℕ → Type 0) (x : Option ℕ) (d : ℕ) → IfSome x P → P d → P (unwrap_or x d)
or_default P None d h k = k
or_default P (Some a) d h k = h

abbrev param_at_number : ℕ → Param
param_at_number n =
    cond (eqb n 0) ValueListSize (cond (eqb n 1) EvalThreshold (cond (eqb n 2) UnitGrowth (cond (eqb n 3) LargeUnitInsns
    (cond (eqb n 4) MaxAggItems (cond (eqb n 5) MaxReplacements (cond (eqb n 6) PtrGrowthFactor (cond (eqb n 7) SraUnitGrowth
    (cond (eqb n 8) MaxBases (cond (eqb n 9) MaxRefs MaxAccesses)))))))))

back : (p : Param) → param_at_number (param_number p) ≡ p
back ValueListSize = refl
back EvalThreshold = refl
back UnitGrowth = refl
back LargeUnitInsns = refl
back MaxAggItems = refl
back MaxReplacements = refl
back PtrGrowthFactor = refl
back SraUnitGrowth = refl
back MaxBases = refl
back MaxRefs = refl
back MaxAccesses = refl

same_param : (p q : Param) → param_number p ≡ param_number q → q ≡ p
same_param p q e = sym (back q) ∙ (ap param_at_number (sym e) ∙ back p)

abbrev Fits : Param → ℕ → Type 0
Fits p v = IsBetween (least_of p) (greatest_of p) v

chosen : (p q : Param) (v : ℕ) (b : Bool) → (b ≡ true → q ≡ p) → Fits q v → IfSome (cond b (Some v) None) (Fits p)
chosen p q v true same h = subst (λ r. Fits r v) (same refl) h
chosen p q v false same h = tt

equal_numbers : (m n : ℕ) → eqb m n ≡ true → m ≡ n
equal_numbers m n h = grind (arith, nat_tests)

set_fits : (p : Param) (i : Item) → KeepsLimits i → IfSome (set_in p i) (Fits p)
set_fits p (Set q v) h = chosen p q v (eqb (param_number p) (param_number q)) (λ e. same_param p q (equal_numbers (param_number p) (param_number q) e)) h
set_fits p i h = tt

last_fits : (p : Param) (is : List Item) → AllKeep is → IfSome (last_of (set_in p) is) (Fits p)
last_fits p [] h = tt
last_fits p (i ∷ is) h = either (Fits p) (last_of (set_in p) is) (set_in p i) (last_fits p is h.1) (set_fits p i h.0)

param_fits : (p : Param) (d : ℕ) (is : List Item) → AllKeep is → Fits p d → Fits p (param_in is p d)
param_fits p d is h k = or_default (Fits p) (last_of (set_in p) is) d (last_fits p is h) k

workers_fit : (i : Item) → KeepsLimits i → IfSome (workers_in i) (IsBetween 1 64)
workers_fit (Workers n) h = h
workers_fit i h = tt

last_workers_fit : (is : List Item) → AllKeep is → IfSome (last_of workers_in is) (IsBetween 1 64)
last_workers_fit [] h = tt
last_workers_fit (i ∷ is) h = either (IsBetween 1 64) (last_of workers_in is) (workers_in i) (last_workers_fit is h.1) (workers_fit i h.0)

source_fits : (i : Item) → KeepsLimits i → IfSome (source_in i) IsLawfulSource
source_fits (Source source) h = h
source_fits i h = tt

last_source_fits : (is : List Item) → AllKeep is → IfSome (last_of source_in is) IsLawfulSource
last_source_fits [] h = tt
last_source_fits (i ∷ is) h = either IsLawfulSource (last_of source_in is) (source_in i) (last_source_fits is h.1) (source_fits i h.0)

params_within : (is : List Item) → AllKeep is → AreWithin (params_of is)
params_within is h = record {
  ipa_cp_value_list_size = param_fits ValueListSize 8 is h (omega arith, omega arith);
  ipa_cp_eval_threshold = param_fits EvalThreshold 500 is h (omega arith, omega arith);
  ipa_cp_unit_growth = param_fits UnitGrowth 10 is h (omega arith, omega arith);
  ipa_cp_large_unit_insns = param_fits LargeUnitInsns 16000 is h (omega arith, omega arith);
  ipa_max_agg_items = param_fits MaxAggItems 16 is h (omega arith, omega arith);
  ipa_sra_max_replacements = param_fits MaxReplacements 8 is h (omega arith, omega arith);
  ipa_sra_ptr_growth_factor = param_fits PtrGrowthFactor 2 is h (omega arith, omega arith);
  ipa_sra_unit_growth = param_fits SraUnitGrowth 10 is h (omega arith, omega arith);
  modref_max_bases = param_fits MaxBases 32 is h (omega arith, omega arith);
  modref_max_refs = param_fits MaxRefs 16 is h (omega arith, omega arith);
  modref_max_accesses = param_fits MaxAccesses 16 is h (omega arith, omega arith);
}

pub limits_of : (is : List Item) → AllKeep is → HaveLimits (gathered_of is)
limits_of is h = record {
  source = last_source_fits is h;
  params = params_within is h;
  workers = or_default (IsBetween 1 64) (last_of workers_in is) 1 (last_workers_fit is h) (omega arith, omega arith);
}
