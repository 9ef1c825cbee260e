-- What the flow of a value along a gift is.
use Rattle.std.proofs.Common.{◌≡◌, sym, subst, Option, Some, Result, IfOk}
use Rattle.gimple_ir.specs.declared.options.Passes.{Passes}
use Rattle.value_domain.specs.declared.abs_val.AbsVal.{AbsVal}
use Rattle.cp_lattices.specs.declared.gift.Gift.{Gift}
use Rattle.cp_lattices.specs.Carried.{Making, given}
use Rattle.cp_lattices.specs.FormalEquations.{flow_of}

pub along_gift : {E : Type 0} (m : Making) (passes : Passes) (o : Option Gift) (gift : Gift) (a : AbsVal) (r : Result AbsVal E) → o ≡ Some gift → IfOk r (λ v. v ≡ given m passes gift.scalar gift.jump gift.local a) → IfOk r (λ v. v ≡ flow_of m passes o a)
along_gift m passes o gift a r e h = subst (λ x. IfOk r (λ v. v ≡ flow_of m passes x a)) (sym e) h
