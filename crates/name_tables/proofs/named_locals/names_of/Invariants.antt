use Rattle.std.proofs.Common.{◌≡◌, map, take}
use Rattle.name_tables.proofs.named_locals.names_of.Given as goal

abbrev pub invariant-loop-local : goal.invariant-loop-local
invariant-loop-local l = l.names ≡ map (λ d. d.name) (take l.local-index l.locals)
