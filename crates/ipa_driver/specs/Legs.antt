-- What one pass does, as the pipeline sees it.
use Rattle.std.specs.Prelude.{◌≡◌, ℕ, Bool, true, false, List, []}
use Rattle.gimple_core.specs.Sealed.{Sealed}
use Rattle.ipa_dumps.specs.Dumps.{header_text}
use Rattle.ipa_driver.specs.declared.legs.Leg.{Leg}
use Rattle.ipa_driver.specs.Summary.{no_counts}

-- What a pass says of the program that it gets, of whether its dump is asked for, and of its leg: the next program, the dump and the counts.
abbrev pub PassRule : Type 1
PassRule = Sealed → Bool → Leg → Type 0

-- a text where it is asked for; else no text is made
abbrev pub asked_text : Bool → List ℕ → List ℕ
asked_text true text = text
asked_text false text = []

-- a pass that does nothing: the same program, a dump of the header alone, and no counts
pub record IsIdle (name : List ℕ) (p : Sealed) (asked : Bool) (leg : Leg) : Type 0 where
  pub program : leg.program ≡ p
  pub text : leg.text ≡ asked_text asked (header_text name)
  pub counts : leg.counts ≡ no_counts

-- what a pass says where it is on; where it is off, it does nothing
abbrev pub IsLeg : Bool → List ℕ → PassRule → PassRule
IsLeg true name Rule p asked leg = Rule p asked leg
IsLeg false name Rule p asked leg = IsIdle name p asked leg

-- a pass that is not built does nothing where it is on, too
abbrev pub NotBuilt : List ℕ → PassRule
NotBuilt name p asked leg = IsIdle name p asked leg
