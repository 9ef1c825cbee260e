-- What is given of the loads of a function, and the table that it is found by.
use Rattle.std.specs.Prelude.{◌≡◌, ℕ, ◌==◌, ◌&&◌, Bool, List}
use Rattle.std.specs.Borrow.{Bor}
use Rattle.std.specs.Map.{lookup}
use Rattle.std.specs.Option.{option_copied}
use Rattle.value_domain.specs.declared.abs_val.AbsVal.{AbsVal}
use Rattle.body_values.specs.declared.facts.LoadFact.{LoadFact}
use Rattle.body_values.specs.Flow.{given_load}

-- facts of loads, of which those of the function of this number count
pub record GivenLoads : Type 0 where
  pub facts : List LoadFact
  pub function : ℕ

abbrev pub is_place : ℕ → ℕ → ℕ × ℕ → Bool
is_place k i at = (k == at.0) && (i == at.1)

-- a table has the value of the first fact at each point of the function, by the numbers of its block and its index
abbrev pub HasFirst : List ((ℕ × ℕ) × Bor AbsVal) → List LoadFact → ℕ → Type 0
HasFirst entries facts n = (k i : ℕ) → option_copied (lookup (is_place k i) entries) ≡ given_load facts n k i
