use Rattle.std.proofs.Common.{◌≡◌, map, take}
use Rattle.name_tables.proofs.named_functions.names_of.Given as goal

abbrev pub invariant-loop-function : goal.invariant-loop-function
invariant-loop-function l = l.names ≡ map (λ f. f.name) (take l.function-index l.functions)
