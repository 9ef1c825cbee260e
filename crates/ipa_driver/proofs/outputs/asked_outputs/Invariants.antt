use Rattle.std.proofs.Common.{◌≡◌, ◌++◌}
use Rattle.ipa_driver.specs.Stores.{asked_outputs}
use Rattle.ipa_driver.proofs.outputs.asked_outputs.Given as goal

abbrev pub invariant-loop-row : goal.invariant-loop-row
invariant-loop-row l = l.outputs.items ++ asked_outputs l.row-iterator.rest.items ≡ asked_outputs l.fn.rows.items
