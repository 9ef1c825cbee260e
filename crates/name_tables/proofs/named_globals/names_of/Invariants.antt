use Rattle.std.proofs.Common.{◌≡◌, map, take}
use Rattle.name_tables.proofs.named_globals.names_of.Given as goal

abbrev pub invariant-loop-global : goal.invariant-loop-global
invariant-loop-global l = l.names ≡ map (λ g. g.decl.name) (take l.global-index l.globals)
