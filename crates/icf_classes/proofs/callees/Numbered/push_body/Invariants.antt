use Rattle.std.proofs.Common.{◌≡◌, ◌++◌, ℕ, List, drop}
use Rattle.icf_classes.specs.Placed.{callees_in_body}
use Rattle.icf_classes.proofs.callees.Numbered.push_body.Given as goal

abbrev pub invariant-loop-statement : goal.invariant-loop-statement
invariant-loop-statement l =
    (rest : List ℕ) → l.row.items ++ callees_in_body l.self (drop l.statement-index l.body) rest ≡ l.initial.row.items ++ callees_in_body l.self l.body rest
