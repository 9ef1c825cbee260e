-- What is given of a function of which nothing is known.
use Rattle.std.specs.Prelude.{[], map}
use Rattle.gimple_ir.specs.declared.declarations.Register.{Register}
use Rattle.gimple_ir.specs.declared.program.Function.{Function}
use Rattle.value_domain.specs.declared.abs_val.AbsVal.{AbsVal}
use Rattle.value_domain.specs.AbsOperators.{top_of}
use Rattle.body_values.specs.declared.facts.Facts.{Facts}

-- each value of the scalar of a register
abbrev pub top_value : Register → AbsVal
top_value r = top_of r.scalar

-- each value of the scalar of a formal, and nothing of loads
abbrev pub top_facts : Function → Facts
top_facts f = record { formals = map top_value f.params; loads = [] }
