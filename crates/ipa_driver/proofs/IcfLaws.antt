-- What identical code folding makes of a program may replace it.
use Rattle.std.proofs.Common.{◌≡◌, ℕ, ◌<◌, ◌≤◌, Bool, true, false, List, length, codes, refl, sym, ◌∙◌, subst, arith}
use Rattle.std.proofs.lemmas.Option.{slice_get_within}
use Rattle.gimple_ir.specs.declared.program.Program.{Program}
use Rattle.gimple_ir.specs.Size.{size_of_program}
use Rattle.gimple_core.specs.Accepted.{IsAccepted}
use Rattle.gimple_core.specs.Replacing.{Replaces}
use Rattle.gimple_core.specs.Run.{main_name}
use Rattle.gimple_core.specs.Sealed.{Sealed}
use Rattle.gimple_core.proofs.ReplacingLaws.{replaces_itself}
use Rattle.icf_classes.specs.Placed.{number_of}
use Rattle.icf_classes.specs.Congruence.{class_of, one_class, AreClasses}
use Rattle.icf_classes.proofs.Numbers.{main_there, named_at}
use Rattle.icf_classes.proofs.MergedLaws.{merging_replaces, merged_shrinks}
use Rattle.ipa_dumps.specs.Classes.{AreNumbers}
use Rattle.ipa_driver.specs.declared.legs.Leg.{Leg}
use Rattle.ipa_driver.specs.Icf.{FoldsIdentical}
use Rattle.ipa_driver.specs.Legs.{IsLeg}

-- ---- the numbers of classes are those of functions

module _ (p : Program) (accepted : IsAccepted p) (classes : List ℕ) (are : AreClasses p classes) where
  main_low : number_of p main_name < length p.functions
  main_low = let m = main_there p accepted in slice_get_within p.functions (number_of p main_name) m.0 (sym (named_at p main_name) ∙ m.1)

  by_main : (i : ℕ) → i < length p.functions → (b : Bool) → one_class classes i (number_of p main_name) ≡ b → class_of classes i < length p.functions
  by_main i l true e =
      let count = are.count in
      let r = are.representatives i (omega (arith, l, count)) in
      let same : class_of classes i ≡ number_of p main_name = r.main e in
      subst (λ n. n < length p.functions) (sym same) main_low
  by_main i l false e =
      let count = are.count in
      let r = are.representatives i (omega (arith, l, count)) in
      let low : class_of classes i ≤ i = r.first e i (are.congruence.reflexive i) in
      omega (arith, low, l)

  pub class_low : (i : ℕ) → i < length p.functions → class_of classes i < length p.functions
  class_low i l = by_main i l (one_class classes i (number_of p main_name)) refl

  pub class_numbers : AreNumbers classes (length p.functions)
  class_numbers i l = let count = are.count in class_low i (omega (arith, l, count))

-- ---- the leg

module _ (p : Sealed) (asked : Bool) (leg : Leg) (accepted : IsAccepted p.program) where
  folds_replaces : FoldsIdentical p asked leg → Replaces 1 p leg.program
  folds_replaces h = merging_replaces p leg.program h.classes accepted h.largest.classes h.merged h.mode

  folds_shrinks : FoldsIdentical p asked leg → size_of_program leg.program.program ≤ size_of_program p.program
  folds_shrinks h = merged_shrinks p.program leg.program.program accepted h.classes h.largest.classes h.merged

  pub icf_replaces : (on : Bool) → IsLeg on (codes "icf") FoldsIdentical p asked leg → Replaces 1 p leg.program
  icf_replaces true h = folds_replaces h
  icf_replaces false h = subst (λ (s : Sealed). Replaces 1 p s) (sym h.program) (replaces_itself p accepted)

  pub icf_shrinks : (on : Bool) → IsLeg on (codes "icf") FoldsIdentical p asked leg → size_of_program leg.program.program ≤ size_of_program p.program
  icf_shrinks true h = folds_shrinks h
  icf_shrinks false h = subst (λ (s : Sealed). size_of_program s.program ≤ size_of_program p.program) (sym h.program) (omega arith)
