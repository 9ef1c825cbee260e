-- The checks of structs, globals, and the names of functions, in their order.
use Rattle.std.specs.Ordering.{int_eq}
use Rattle.std.specs.Prelude.{ℕ, ◌+◌, ◌==◌, ℤ, pos, Bool, true, false, not, ◌||◌, List, [], ◌∷◌, ◌++◌, length, nat_le, Option, Some, Err, if◌then◌else◌}
use Rattle.std.specs.List.{list_any}
use Rattle.std.specs.Str.{bytes_eq}
use Rattle.gimple_ir.specs.declared.scalar.Scalar.{Scalar}
use Rattle.gimple_ir.specs.declared.scalar.Scalar.TheVariants.{I32, I64}
use Rattle.gimple_ir.specs.declared.declarations.Shape.{Shape}
use Rattle.gimple_ir.specs.declared.declarations.Shape.TheVariants.{Plain, Named}
use Rattle.gimple_ir.specs.declared.declarations.Decl.{Decl}
use Rattle.gimple_ir.specs.declared.declarations.StructDef.{StructDef}
use Rattle.gimple_ir.specs.declared.declarations.Global.{Global}
use Rattle.gimple_ir.specs.declared.declarations.Register.{Register}
use Rattle.gimple_ir.specs.declared.operand.Operand.{Operand}
use Rattle.gimple_ir.specs.declared.operand.Operand.TheVariants.{Reg, Number, Null, Address}
use Rattle.gimple_ir.specs.declared.block.Block.{Block}
use Rattle.gimple_ir.specs.declared.program.Function.{Function}
use Rattle.gimple_ir.specs.declared.value.LayoutSlot.{LayoutSlot}
use Rattle.gimple_ir.specs.declared.fault.Site.TheVariants as site
use Rattle.gimple_core.specs.Operators.{in_scalar}
use Rattle.gimple_core.specs.Layout.{empty_layout, count_of, with_fields, struct_layouts, layout_of}
use Rattle.gimple_core.specs.Verdict.{Verdict, Judgement, ◌>>=◌, ◌>>◌, pure, demand, at}
use Rattle.gimple_core.specs.Env.{Env, Names, Targets, is_target, has, declared, structs_by_name}
use Rattle.gimple_core.specs.Statements.{is_pointer, blocks}
use Rattle.gimple_core.specs.Run.{main_name}

-- ---- sizes

abbrev pub is_size : ℕ → Bool
is_size n = nat_le n 16777216

-- the length of an array is not 0, and the size at most 2^24
unfoldable pub sized : List StructDef → Decl → Verdict (Unit {0})
sized structs decl = do
  demand (not (count_of decl.length == 0)) 12
  demand (is_size (layout_of structs decl).size) 12

-- the struct that a variable names is there
abbrev pub known_shape : Names StructDef → Shape → Verdict (Unit {0})
known_shape structs (Plain scalar) = pure tt
known_shape structs (Named name) = demand (has name structs) 1

-- ---- structs

-- the struct that a field names is an earlier one: T01 where there is none, T15 where it is this one or a later one
abbrev pub earlier_shape : Names StructDef → Names StructDef → Shape → Verdict (Unit {0})
earlier_shape all earlier (Plain scalar) = pure tt
earlier_shape all earlier (Named name) = do
  demand (has name all) 1
  demand (has name earlier) 15

-- each field of a struct, after earlier fields
unfoldable pub fields : List StructDef → List StructDef → Names Decl → List Decl → Verdict (Unit {0})
fields all earlier seen [] = pure tt
fields all earlier seen (f ∷ fs) = do
  more ← declared seen f.name f
  earlier_shape (structs_by_name all) (structs_by_name earlier) f.shape
  sized earlier f
  fields all earlier more fs

abbrev pub is_empty : List Decl → Bool
is_empty [] = true
is_empty (f ∷ fs) = false

-- the size of a struct behind these ones
abbrev pub struct_size : List StructDef → List Decl → ℕ
struct_size earlier fs = (with_fields (struct_layouts [] earlier) empty_layout fs).size

unfoldable pub one_struct : List StructDef → List StructDef → StructDef → Verdict (Unit {0})
one_struct all earlier s = do
  demand (not (has s.name (structs_by_name earlier))) 2
  fields all earlier [] s.fields
  demand (not (is_empty s.fields)) 12
  demand (is_size (struct_size earlier s.fields)) 12

-- each struct, after earlier ones
unfoldable pub structs : List StructDef → ℕ → List StructDef → List StructDef → Judgement (Unit {0})
structs all number earlier [] = pure tt
structs all number earlier (s ∷ ss) = do
  at (site.Struct number) (one_struct all earlier s)
  structs all (number + 1) (earlier ++ s ∷ []) ss

-- ---- globals

-- an item against the scalar of its slot; a name of a register has no meaning here
unfoldable pub item : Targets → Names Global → Scalar → Operand → Verdict (Unit {0})
item targets all scalar (Reg name) = Err 1
item targets all scalar (Number z) = do
  demand (not (is_pointer scalar)) 4
  demand (in_scalar scalar z) 13
item targets all scalar Null = demand (is_pointer scalar) 4
item targets all scalar (Address name offset) = do
  demand (is_pointer scalar) 4
  demand (in_scalar I64 offset) 13
  demand (has name all || not (is_target targets name) || int_eq offset (pos 0)) 11
  demand (has name all || is_target targets name) 1

-- each item against its slot
unfoldable pub items : Targets → Names Global → List LayoutSlot → List Operand → Verdict (Unit {0})
items targets all (slot ∷ slots) (x ∷ xs) = do
  item targets all slot.scalar x
  items targets all slots xs
items targets all slots [] = pure tt
items targets all [] (x ∷ xs) = pure tt

unfoldable pub one_global : List StructDef → Targets → Names Global → Names Global → Global → Verdict (Names Global)
one_global structs targets all earlier g = do
  more ← declared earlier g.decl.name g
  known_shape (structs_by_name structs) g.decl.shape
  sized structs g.decl
  demand (nat_le (length g.items) (length (layout_of structs g.decl).slots)) 11
  items targets all (layout_of structs g.decl).slots g.items
  pure more

-- each global, after earlier ones
unfoldable pub globals : List StructDef → Targets → Names Global → ℕ → Names Global → List Global → Judgement (Names Global)
globals structs targets all number earlier [] = pure earlier
globals structs targets all number earlier (g ∷ gs) = do
  more ← at (site.Global number) (one_global structs targets all earlier g)
  globals structs targets all (number + 1) more gs

-- ---- heads of functions

-- a function's name is no global's and no earlier function's
unfoldable pub head : Names Global → Names Function → Function → Verdict (Names Function)
head globals earlier f = do
  demand (not (has f.name globals)) 2
  declared earlier f.name f

unfoldable pub heads : Names Global → ℕ → Names Function → List Function → Judgement (Names Function)
heads globals number earlier [] = pure earlier
heads globals number earlier (f ∷ fs) = do
  more ← at (site.Statement number 0) (head globals earlier f)
  heads globals (number + 1) more fs

abbrev pub is_main : List Register → Option Scalar → Bool
is_main [] (Some I32) = true
is_main formals result = false

-- the function `main` is there, and is `i32 main ()`
unfoldable pub main : ℕ → List Function → Judgement (Unit {0})
main number [] = at site.Whole (Err 3)
main number (f ∷ fs) =
    if bytes_eq main_name f.name
    then at (site.Statement number 0) (demand (is_main f.params f.result) 3)
    else main (number + 1) fs

-- ---- names of a function

-- a name that is no global's and no function's
unfoldable pub is_free : Env → Names Function → List ℕ → Verdict (Unit {0})
is_free env functions name = do
  demand (not (has name env.globals)) 2
  demand (not (has name functions)) 2

unfoldable pub register : Env → Names Function → Register → Verdict Env
register env functions r = do
  is_free env functions r.name
  demand (not (has r.name env.locals)) 2
  more ← declared env.registers r.name r
  pure (record env { registers = more })

unfoldable pub registers : Env → Names Function → List Register → Verdict Env
registers env functions [] = pure env
registers env functions (r ∷ rs) = do
  more ← register env functions r
  registers more functions rs

unfoldable pub local : Env → Names Function → Decl → Verdict Env
local env functions d = do
  is_free env functions d.name
  demand (not (has d.name env.registers)) 2
  more ← declared env.locals d.name d
  known_shape (structs_by_name env.structs) d.shape
  sized env.structs d
  pure (record env { locals = more })

unfoldable pub locals : Env → Names Function → List Decl → Verdict Env
locals env functions [] = pure env
locals env functions (d ∷ ds) = do
  more ← local env functions d
  locals more functions ds

unfoldable pub new_label : List ℕ → ℕ → Verdict (List ℕ)
new_label earlier label = do
  demand (not (list_any (λ l. label == l) earlier)) 9
  pure (earlier ++ label ∷ [])

-- labels of blocks, after earlier ones
unfoldable pub labels : List ℕ → List Block → Verdict (List ℕ)
labels earlier [] = pure earlier
labels earlier (b ∷ bs) = do
  more ← new_label earlier b.label
  labels more bs

abbrev pub has_blocks : List Block → Bool
has_blocks [] = false
has_blocks (b ∷ bs) = true

-- what a function sees: its formals, locals and registers in order, then its labels
unfoldable pub own : Env → Names Function → Function → Verdict Env
own known functions f = do
  first ← registers (record known { locals = []; registers = []; labels = []; result = f.result }) functions f.params
  second ← locals first functions f.locals
  third ← registers second functions f.registers
  demand (has_blocks f.blocks) 10
  targets ← labels [] f.blocks
  pure (record third { labels = targets })

unfoldable pub one_function : Env → Names Function → ℕ → Function → Judgement (Unit {0})
one_function known callees number f = do
  env ← at (site.Statement number 0) (own known callees f)
  blocks env callees number 1 f.blocks

unfoldable pub functions : Env → Names Function → ℕ → List Function → Judgement (Unit {0})
functions known callees number [] = pure tt
functions known callees number (f ∷ fs) = do
  one_function known callees number f
  functions known callees (number + 1) fs
