-- The limits of numbers in words.
use Rattle.std.specs.Prelude.{ℕ, ◌≤◌, ⊤, IfSome}
use Rattle.gimple_ir.specs.declared.options.Params.{Params}
use Rattle.words.specs.declared.options.SourceName.{SourceName}
use Rattle.words.specs.declared.options.SourceName.TheVariants.{File, Generate}
use Rattle.words.specs.declared.options.Options.{Options}
use Rattle.words.specs.declared.gathered.Gathered.{Gathered}
use Rattle.words.specs.declared.item.Item.{Item}
use Rattle.words.specs.declared.item.Item.TheVariants.{Source, Set, Workers}
use Rattle.words.specs.Items.{least_of, greatest_of}

abbrev pub IsBetween : ℕ → ℕ → ℕ → Type 0
IsBetween least greatest n = (least ≤ n) × (n ≤ greatest)

-- each parameter's value is within the parameter's limits
pub record AreWithin (p : Params) : Type 0 where
  pub ipa_cp_value_list_size : IsBetween 1 64 p.ipa_cp_value_list_size
  pub ipa_cp_eval_threshold : IsBetween 0 1000000 p.ipa_cp_eval_threshold
  pub ipa_cp_unit_growth : IsBetween 0 1000 p.ipa_cp_unit_growth
  pub ipa_cp_large_unit_insns : IsBetween 0 1000000 p.ipa_cp_large_unit_insns
  pub ipa_max_agg_items : IsBetween 0 64 p.ipa_max_agg_items
  pub ipa_sra_max_replacements : IsBetween 0 64 p.ipa_sra_max_replacements
  pub ipa_sra_ptr_growth_factor : IsBetween 0 64 p.ipa_sra_ptr_growth_factor
  pub ipa_sra_unit_growth : IsBetween 0 1000 p.ipa_sra_unit_growth
  pub modref_max_bases : IsBetween 0 64 p.modref_max_bases
  pub modref_max_refs : IsBetween 0 1000 p.modref_max_refs
  pub modref_max_accesses : IsBetween 0 1000 p.modref_max_accesses

-- a program that is made by rule has 1 to 65,536 functions and `main`
abbrev pub IsLawfulSource : SourceName → Type 0
IsLawfulSource (File name) = ⊤
IsLawfulSource (Generate n) = IsBetween 1 65536 n

pub record HasLimits (o : Options) : Type 0 where
  pub source : IsLawfulSource o.source
  pub params : AreWithin o.params
  pub workers : IsBetween 1 64 o.workers

-- the number that a word gives is within its limits
abbrev pub KeepsLimits : Item → Type 0
KeepsLimits (Source source) = IsLawfulSource source
KeepsLimits (Set p v) = IsBetween (least_of p) (greatest_of p) v
KeepsLimits (Workers n) = IsBetween 1 64 n
KeepsLimits i = ⊤

-- the numbers among what words ask for are within their limits
pub record HaveLimits (g : Gathered) : Type 0 where
  pub source : IfSome g.source IsLawfulSource
  pub params : AreWithin g.params
  pub workers : IsBetween 1 64 g.workers
