use Rattle.std.proofs.Common.{◌≡◌, ◌++◌, drop, map}
use Rattle.icf_classes.proofs.placer.put_names.Given as goal

abbrev pub invariant-loop-register : goal.invariant-loop-register
invariant-loop-register l = l.names ++ map (λ r. r.name) (drop l.register-index l.registers) ≡ l.initial.names ++ map (λ r. r.name) l.registers
