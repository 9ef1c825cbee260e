-- The values of nodes as rows of the values of formals.
use Rattle.std.specs.Prelude.{ℕ, ◌+◌, List, [], ◌∷◌, slice_index_or}
use Rattle.gimple_ir.specs.declared.declarations.Register.{Register}
use Rattle.gimple_ir.specs.declared.program.Function.{Function}
use Rattle.value_domain.specs.declared.abs_val.AbsVal.{AbsVal}
use Rattle.value_domain.specs.Values.{none_val}
use Rattle.cp_lattices.specs.declared.numbering.Numbering.{Numbering}
use Rattle.cp_lattices.specs.Numbered.{node_of}

-- the value of the node of a formal
abbrev pub value_of : Numbering → List AbsVal → ℕ → ℕ → AbsVal
value_of g xs n i = slice_index_or xs (node_of g n i) none_val

-- a value for each formal of a function, from one of them on
unfoldable pub row_from : Numbering → List AbsVal → ℕ → ℕ → List Register → List AbsVal
row_from g xs n i [] = []
row_from g xs n i (r ∷ rs) = value_of g xs n i ∷ row_from g xs n (i + 1) rs

-- a row for each function, from one of them on
unfoldable pub rows_from : Numbering → List AbsVal → ℕ → List Function → List (List AbsVal)
rows_from g xs n [] = []
rows_from g xs n (f ∷ fs) = row_from g xs n 0 f.params ∷ rows_from g xs (n + 1) fs
