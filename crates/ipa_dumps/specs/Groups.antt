-- The members of classes, in a row for each number of a class.
use Rattle.std.specs.Prelude.{◌≡◌, ℕ, ◌<◌, List, [], length, slice_index_or}
use Rattle.ipa_dumps.specs.Classes.{members_from}

pub record AreGroups (classes : List ℕ) (n : ℕ) (groups : List (List ℕ)) : Type 0 where
  pub count : length groups ≡ n
  pub each : (class : ℕ) → class < n → slice_index_or groups class [] ≡ members_from classes class 0
