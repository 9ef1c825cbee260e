use Rattle.std.proofs.Common.{◌≡◌, map, take}
use Rattle.icf_classes.specs.Settled.{settled_class}
use Rattle.icf_classes.proofs.largest.settled.Given as goal

abbrev pub invariant-loop-class : goal.invariant-loop-class
invariant-loop-class l = l.made ≡ map (settled_class l.of_main l.main) (take l.class-index l.classes)
