-- What is gathered of the calls of a program.
use Rattle.std.specs.Prelude.{◌≡◌, ℕ, ◌≤◌, List, length}
use Rattle.std.specs.List.{All}
use Rattle.gimple_core.specs.Sealed.{Sealed}
use Rattle.body_symbols.specs.Found.{Found}
use Rattle.cp_lattices.specs.declared.gift.Gift.{Gift}
use Rattle.cp_lattices.specs.Claims.{IsGood}
use Rattle.cp_lattices.specs.Few.{arguments_of_program}
use Rattle.cp_lattices.specs.Gifts.{Bodies, AreBodies, AreGifts}
use Rattle.cp_lattices.specs.Lattices.{making_of}

-- what is known of each argument where it stands fits, and is of its formal's scalar
abbrev pub AreGood : Sealed → ℕ → List Gift → Type 0
AreGood p most gifts = All (λ (gift : Gift). IsGood (making_of p most) gift.scalar gift.local) gifts

-- these are all gifts, by the symbols and by the values of each function from top facts
pub record WereGathered (p : Sealed) (most : ℕ) (symbols : List Found) (gifts : List Gift) : Type 0 where
  pub bodies : Bodies
  pub known : AreBodies p most bodies
  pub by : bodies.symbols ≡ symbols
  pub are : AreGifts p most bodies gifts
  pub good : AreGood p most gifts
  pub few : length gifts ≤ arguments_of_program p.program
