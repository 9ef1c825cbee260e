use Rattle.std.proofs.Common.{◌≡◌, ℕ, [], length, get_or}
use Rattle.ipa_dumps.proofs.classes.no_members.Given as goal

abbrev pub invariant-loop : goal.invariant-loop
invariant-loop l = (length l.groups.items ≡ l.counter) × ((class : ℕ) → get_or l.groups.items class [] ≡ [])
