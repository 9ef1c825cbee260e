-- What names mean in a function.
use Rattle.std.specs.Prelude.{ℕ, ◌==◌, if◌then◌else◌, Bool, true, false, ◌||◌, List, [], ◌∷◌, ◌++◌, map, is_some, Option, Some, None, Ok, Err}
use Rattle.std.specs.Str.{bytes_eq}
use Rattle.std.specs.Map.{lookup}
use Rattle.gimple_ir.specs.declared.scalar.Scalar.{Scalar}
use Rattle.gimple_ir.specs.declared.declarations.Decl.{Decl}
use Rattle.gimple_ir.specs.declared.declarations.StructDef.{StructDef}
use Rattle.gimple_ir.specs.declared.declarations.Global.{Global}
use Rattle.gimple_ir.specs.declared.declarations.Register.{Register}
use Rattle.gimple_ir.specs.declared.program.Function.{Function}
use Rattle.gimple_ir.specs.declared.program.Program.{Program}
use Rattle.gimple_core.specs.Verdict.{Verdict, ◌>>=◌, pure, found}

-- items under their names, in file order
abbrev pub Names : Type 0 → Type 0
Names T = List (List ℕ × T)

-- the first item of a name
abbrev pub named : {T : Type 0} → List ℕ → Names T → Option T
named name names = lookup (bytes_eq name) names

abbrev pub has : {T : Type 0} → List ℕ → Names T → Bool
has name names = is_some (named name names)

abbrev pub new_or_twice : {A : Type 0} → Bool → A → Verdict A
new_or_twice true more = Err 2
new_or_twice false more = Ok more

-- with one more item, or T02 where its name stands already
abbrev pub declared : {T : Type 0} → Names T → List ℕ → T → Verdict (Names T)
declared names name item = new_or_twice (has name names) (names ++ (name, item) ∷ [])

abbrev pub structs_by_name : List StructDef → Names StructDef
structs_by_name ss = map (λ s. (s.name, s)) ss

abbrev pub globals_by_name : List Global → Names Global
globals_by_name gs = map (λ g. (g.decl.name, g)) gs

abbrev pub functions_by_name : List Function → Names Function
functions_by_name fs = map (λ f. (f.name, f)) fs

abbrev pub decls_by_name : List Decl → Names Decl
decls_by_name ds = map (λ d. (d.name, d)) ds

abbrev pub registers_by_name : List Register → Names Register
registers_by_name rs = map (λ r. (r.name, r)) rs

-- the functions that may be addressed, and called through registers: those of a program of profile 2, none elsewhere
abbrev pub Targets : Type 0
Targets = Option (Names Function)

abbrev pub targets_of : Program → Targets
targets_of p = if p.profile == 2 then Some (functions_by_name p.functions) else None

abbrev pub is_target : Targets → List ℕ → Bool
is_target None name = false
is_target (Some functions) name = has name functions

-- what a function sees besides the functions that it calls by name: structs, globals and functions that may be addressed, and its own locals, registers, labels and result
pub record Env : Type 0 where
  pub targets : Targets
  pub structs : List StructDef
  pub globals : Names Global
  pub locals : Names Decl
  pub registers : Names Register
  pub labels : List ℕ
  pub result : Option Scalar

-- the scalar of a register
unfoldable pub scalar_of : Env → List ℕ → Verdict Scalar
scalar_of env name = do
  register ← found (named name env.registers) 1
  pure register.scalar

abbrev pub is_variable : Env → List ℕ → Bool
is_variable env name = has name env.locals || has name env.globals

abbrev pub local_or_global : Option Decl → Option Global → Option Decl
local_or_global (Some decl) global = Some decl
local_or_global None (Some global) = Some global.decl
local_or_global None None = None

-- the declaration of a variable
abbrev pub variable : Env → List ℕ → Option Decl
variable env name = local_or_global (named name env.locals) (named name env.globals)

abbrev pub is_constant : Option Global → Bool
is_constant (Some global) = global.constant
is_constant None = false
