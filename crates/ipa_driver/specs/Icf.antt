-- What identical code folding makes of a program.
use Rattle.std.specs.Prelude.{◌≡◌, ℕ, ◌-◌, Bool, List, length}
use Rattle.gimple_core.specs.Sealed.{Sealed}
use Rattle.icf_classes.specs.Congruence.{AreLargestClasses}
use Rattle.icf_classes.specs.Merged.{IsMerged}
use Rattle.ipa_dumps.specs.Classes.{icf_text}
use Rattle.ipa_driver.specs.declared.legs.Leg.{Leg}
use Rattle.ipa_driver.specs.Legs.{asked_text}
use Rattle.ipa_driver.specs.Summary.{no_counts}

-- The functions of each class of the largest congruence are one. The dump tells of the classes, and what is counted are
-- the functions that are left out.
pub record FoldsIdentical (p : Sealed) (asked : Bool) (leg : Leg) : Type 0 where
  pub classes : List ℕ
  pub largest : AreLargestClasses p.program classes
  pub merged : IsMerged p.program classes leg.program.program
  pub mode : leg.program.mode ≡ p.mode
  pub text : leg.text ≡ asked_text asked (icf_text p.program classes)
  pub counts : leg.counts ≡ record no_counts { merged = length p.program.functions - length leg.program.program.functions }
