-- The dump of the values of formals: for each function a row with a value for each of its formals.
use Rattle.std.specs.Prelude.{◌≡◌, ℕ, ◌+◌, List, [], ◌∷◌, ◌++◌, length, map, slice_index_or, codes}
use Rattle.gimple_ir.specs.declared.program.Function.{Function}
use Rattle.gimple_ir.specs.declared.program.Program.{Program}
use Rattle.gimple_ir.specs.declared.declarations.Register.{Register}
use Rattle.value_domain.specs.declared.abs_val.AbsVal.{AbsVal}
use Rattle.value_domain.specs.Values.{none_val}
use Rattle.ipa_dumps.specs.Dumps.{header_text}
use Rattle.ipa_dumps.specs.ValueTexts.{value_text}

-- a row for each function, with a value for each formal
abbrev pub AreRows : List Function → List (List AbsVal) → Type 0
AreRows fs rows = map length rows ≡ map (λ f. length f.params) fs

unfoldable pub formal_text : Program → Function → Register → AbsVal → List ℕ
formal_text p f r a = codes "formal " ++ (f.name ++ (codes " " ++ (r.name ++ (codes ": " ++ (value_text p r.scalar a ++ codes "\n")))))

-- the lines of a function's formals from this number on
unfoldable pub formals_from : Program → Function → List AbsVal → ℕ → List Register → List ℕ
formals_from p f row k [] = []
formals_from p f row k (r ∷ rs) = formal_text p f r (slice_index_or row k none_val) ++ formals_from p f row (k + 1) rs

-- the lines of the functions from this number on
unfoldable pub rows_from : Program → List (List AbsVal) → ℕ → List Function → List ℕ
rows_from p rows k [] = []
rows_from p rows k (f ∷ fs) = formals_from p f (slice_index_or rows k []) 0 f.params ++ rows_from p rows (k + 1) fs

unfoldable pub cp_text : Program → List (List AbsVal) → List ℕ
cp_text p rows = header_text (codes "cp") ++ rows_from p rows 0 p.functions
