-- What the names, statements and ends of a program without a type fault are.
use Rattle.std.specs.Ordering.{int_eq}
use Rattle.std.specs.Prelude.{◌≡◌, ℕ, ◌==◌, ◌++◌, true, false, ◌&&◌, ◌||◌, pos, List, [], ◌∷◌, map, is_some, Option, Some, None, ℤ}
use Rattle.std.specs.List.{list_any}
use Rattle.gimple_ir.specs.declared.scalar.Scalar.{Scalar}
use Rattle.gimple_ir.specs.declared.scalar.Scalar.TheVariants.{I32, I64, Ptr}
use Rattle.gimple_ir.specs.declared.scalar.Op.{Op}
use Rattle.gimple_ir.specs.declared.scalar.Cmp.{Cmp}
use Rattle.gimple_ir.specs.declared.operand.Operand.{Operand}
use Rattle.gimple_ir.specs.declared.operand.Operand.TheVariants.{Reg, Number, Null, Address}
use Rattle.gimple_ir.specs.declared.operand.Base.{Base}
use Rattle.gimple_ir.specs.declared.operand.Base.TheVariants.{Reg as RegBase, Variable}
use Rattle.gimple_ir.specs.declared.statement.Stmt.{Stmt}
use Rattle.gimple_ir.specs.declared.statement.Stmt.TheVariants.{Copy, Arith, Compare, Convert, Load, Store, Call, Indirect, Get, Put, Abort}
use Rattle.gimple_ir.specs.declared.block.Case.{Case}
use Rattle.gimple_ir.specs.declared.block.End.{End}
use Rattle.gimple_ir.specs.declared.block.End.TheVariants.{Goto, If, Switch, Return}
use Rattle.gimple_ir.specs.declared.block.Block.{Block}
use Rattle.gimple_ir.specs.declared.declarations.Decl.{Decl}
use Rattle.gimple_ir.specs.declared.declarations.Register.{Register}
use Rattle.gimple_ir.specs.declared.program.Function.{Function}
use Rattle.gimple_ir.specs.declared.program.Program.{Program}
use Rattle.gimple_core.specs.Operators.{in_scalar}
use Rattle.gimple_core.specs.Layout.{layout_of}
use Rattle.gimple_core.specs.Run.{function_named, main_name}
use Rattle.gimple_core.specs.Env.{Env, Names, named, targets_of, is_target, is_variable, variable, globals_by_name, functions_by_name, decls_by_name, registers_by_name}
use Rattle.gimple_core.specs.Accepted.{first_fault}
use Rattle.gimple_core.specs.Declarations.{has_blocks}
use Rattle.gimple_core.specs.Statements.{is_pointer, is_shift, is_add, is_order, is_printable, is_read_only, has_slot, scalars_of}

-- the name is a register of this scalar
abbrev pub IsRegister : Env → Scalar → List ℕ → Type 0
IsRegister env scalar name = (r : Register) × (named name env.registers ≡ Some r) × (r.scalar ≡ scalar)

-- the operand has this scalar
abbrev pub HasScalar : Env → Scalar → Operand → Type 0
HasScalar env scalar (Reg name) = IsRegister env scalar name
HasScalar env scalar (Number z) = (is_pointer scalar ≡ false) × (in_scalar scalar z ≡ true)
HasScalar env scalar Null = is_pointer scalar ≡ true
HasScalar env scalar (Address name offset) =
    (is_pointer scalar ≡ true) × ((is_variable env name || is_target env.targets name) ≡ true) × (in_scalar I64 offset ≡ true) × ((is_variable env name || int_eq offset (pos 0)) ≡ true)

-- a register of an integer scalar
abbrev pub IsIntegerRegister : Env → Scalar → Operand → Type 0
IsIntegerRegister env scalar (Reg name) = IsRegister env scalar name × (is_pointer scalar ≡ false)
IsIntegerRegister env scalar x = ⊥

-- the right side of integer arithmetic: for a shift a register of any integer scalar
abbrev pub IsCount : Env → Scalar → Operand → Type 0
IsCount env scalar (Reg name) = (own : Scalar) × IsRegister env own name × (is_pointer own ≡ false)
IsCount env scalar x = HasScalar env scalar x

abbrev pub ArithTyped : Env → Scalar → Operand → Op → Operand → Type 0
ArithTyped env scalar left op right =
    (is_pointer scalar ≡ true → (is_add op ≡ true) × HasScalar env Ptr left × HasScalar env I64 right)
    × (is_pointer scalar ≡ false → HasScalar env scalar left × (is_shift op ≡ true → IsCount env scalar right) × (is_shift op ≡ false → HasScalar env scalar right))

-- both sides have one scalar, and pointers are compared by `==` and `!=` alone
abbrev pub ComparedTyped : Env → Operand → Cmp → Operand → Type 0
ComparedTyped env left cmp right = (scalar : Scalar) × HasScalar env scalar left × HasScalar env scalar right × ((is_pointer scalar && is_order cmp) ≡ false)

-- a place with a slot, or behind a pointer register
abbrev pub PlaceTyped : Env → Scalar → Base → ℤ → Type 0
PlaceTyped env scalar (RegBase name) offset = IsRegister env Ptr name × (in_scalar I64 offset ≡ true)
PlaceTyped env scalar (Variable name) offset = (d : Decl) × (variable env name ≡ Some d) × (in_scalar I64 offset ≡ true) × (has_slot (layout_of env.structs d).slots offset scalar ≡ true)

-- each argument has the scalar of its formal
abbrev pub Fit : Env → List Scalar → List Operand → Type 0
Fit env [] [] = Unit {0}
Fit env (scalar ∷ scalars) (x ∷ xs) = HasScalar env scalar x × Fit env scalars xs
Fit env scalars xs = ⊥

-- the target of a call takes what the callee gives
abbrev pub TakesResult : Env → Option (List ℕ) → Option Scalar → Type 0
TakesResult env None result = Unit {0}
TakesResult env (Some name) (Some result) = IsRegister env result name
TakesResult env (Some name) None = ⊥

abbrev pub Printable : Env → Operand → Type 0
Printable env (Number z) = is_printable z ≡ true
Printable env x = (scalar : Scalar) × IsIntegerRegister env scalar x

abbrev pub StatementTyped : Env → Names Function → Stmt → Type 0
StatementTyped env functions (Copy to from) = (scalar : Scalar) × IsRegister env scalar to × HasScalar env scalar from
StatementTyped env functions (Arith to left op right) = (scalar : Scalar) × IsRegister env scalar to × ArithTyped env scalar left op right
StatementTyped env functions (Compare to left cmp right) = (scalar : Scalar) × IsRegister env scalar to × (is_pointer scalar ≡ false) × ComparedTyped env left cmp right
StatementTyped env functions (Convert to scalar from) = IsRegister env scalar to × (is_pointer scalar ≡ false) × ((own : Scalar) × IsIntegerRegister env own from)
StatementTyped env functions (Load to scalar place) = IsRegister env scalar to × PlaceTyped env scalar place.base place.offset
StatementTyped env functions (Store scalar place from) = PlaceTyped env scalar place.base place.offset × (is_read_only env place.base ≡ false) × HasScalar env scalar from
StatementTyped env functions (Call to callee xs) = (f : Function) × (named callee functions ≡ Some f) × Fit env (scalars_of f.params) xs × TakesResult env to f.result
StatementTyped env functions (Indirect to signature callee xs) = (is_some env.targets ≡ true) × IsRegister env Ptr callee × Fit env signature.params xs × TakesResult env to signature.result
StatementTyped env functions (Get to) = IsRegister env I64 to
StatementTyped env functions (Put from) = Printable env from
StatementTyped env functions Abort = Unit {0}

-- a block has this label
abbrev pub HasLabel : Env → ℕ → Type 0
HasLabel env label = list_any (λ l. label == l) env.labels ≡ true

abbrev pub CasesTyped : Env → Scalar → List Case → Type 0
CasesTyped env scalar [] = Unit {0}
CasesTyped env scalar (c ∷ cs) = (in_scalar scalar c.value ≡ true) × HasLabel env c.target × CasesTyped env scalar cs

abbrev pub ReturnTyped : Env → Option Operand → Option Scalar → Type 0
ReturnTyped env None None = Unit {0}
ReturnTyped env (Some x) (Some scalar) = HasScalar env scalar x
ReturnTyped env x result = ⊥

abbrev pub EndTyped : Env → End → Type 0
EndTyped env (Goto to) = HasLabel env to
EndTyped env (If left cmp right hit miss) = ComparedTyped env left cmp right × HasLabel env hit × HasLabel env miss
EndTyped env (Switch on cases other) = (scalar : Scalar) × IsIntegerRegister env scalar on × CasesTyped env scalar cases × HasLabel env other
EndTyped env (Return x) = ReturnTyped env x env.result

abbrev pub BodyTyped : Env → Names Function → List Stmt → Type 0
BodyTyped env functions [] = Unit {0}
BodyTyped env functions (x ∷ xs) = StatementTyped env functions x × BodyTyped env functions xs

abbrev pub BlocksTyped : Env → Names Function → List Block → Type 0
BlocksTyped env functions [] = Unit {0}
BlocksTyped env functions (b ∷ bs) = BodyTyped env functions b.body × EndTyped env b.end × BlocksTyped env functions bs

-- what a function of a program sees
abbrev pub env_of : Program → Function → Env
env_of p f = record {
  targets = targets_of p;
  structs = p.structs;
  globals = globals_by_name p.globals;
  locals = decls_by_name f.locals;
  registers = registers_by_name f.params ++ registers_by_name f.registers;
  labels = map (λ b. b.label) f.blocks;
  result = f.result;
}

-- each function is the first one of its name and has a block, and its statements and ends are typed
abbrev pub FunctionsTyped : Program → List Function → Type 0
FunctionsTyped p [] = Unit {0}
FunctionsTyped p (f ∷ fs) = (function_named f.name p.functions ≡ Some f) × (has_blocks f.blocks ≡ true) × BlocksTyped (env_of p f) (functions_by_name p.functions) f.blocks × FunctionsTyped p fs

-- there is a main without formals that gives an i32
abbrev pub MainTyped : Program → Type 0
MainTyped p = (f : Function) × (function_named main_name p.functions ≡ Some f) × (f.params ≡ []) × (f.result ≡ Some I32)

-- a program without a type fault is typed
abbrev pub AcceptedTyped : Type 0
AcceptedTyped = (p : Program) → first_fault p ≡ None → MainTyped p × FunctionsTyped p p.functions
