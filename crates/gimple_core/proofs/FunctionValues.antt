-- Function values come from addresses: where the names whose addresses are taken lie in a set, so do those of all function values.
use Rattle.std.proofs.Common.{◌≡◌, ℕ, ◌+◌, ℤ, List, [], ◌∷◌, refl, Option, Some, None, Result, All}
use Rattle.gimple_ir.specs.declared.scalar.Scalar.{Scalar}
use Rattle.gimple_ir.specs.declared.value.Value.{Value}
use Rattle.gimple_ir.specs.declared.value.Value.TheVariants.{Int, Null, At, Code}
use Rattle.gimple_ir.specs.declared.value.TrapKind.{TrapKind}
use Rattle.gimple_ir.specs.declared.operand.Operand.{Operand}
use Rattle.gimple_ir.specs.declared.declarations.Decl.{Decl}
use Rattle.gimple_ir.specs.declared.declarations.StructDef.{StructDef}
use Rattle.gimple_ir.specs.declared.declarations.Global.{Global}
use Rattle.gimple_ir.specs.declared.declarations.Register.{Register}
use Rattle.gimple_ir.specs.declared.statement.Stmt.{Stmt}
use Rattle.gimple_ir.specs.declared.program.Function.{Function}
use Rattle.gimple_core.specs.Memory.{Memory, moved_by, without_frame}
use Rattle.gimple_core.specs.State.{World, Scope, Setting, value_at, put_at}
use Rattle.gimple_core.specs.Run.{local_address, global_address, address_of_global, address_of, value_of, values_of, with_globals, with_locals, registers_made, act}
use Rattle.gimple_core.specs.Reach.{operands_of, TakesAddress, MentionsInItems}
use Rattle.gimple_core.proofs.ValuesIn.{IsOfAddresses}
use Rattle.gimple_core.proofs.ValuesIn as all
pub use Rattle.gimple_core.proofs.ValuesIn.{arguments_of_call}

module _ (K : List ℕ → Type 0) where
  -- a function value is of the set
  abbrev pub ValueIn : Value → Type 0
  ValueIn (Int z) = Unit {0}
  ValueIn Null = Unit {0}
  ValueIn (At object offset) = Unit {0}
  ValueIn (Code name) = K name

  pub moved_in : (v : Value) (by : ℤ) → ValueIn v → ValueIn (moved_by v by)
  unfolding moved_by
  moved_in (Int z) by h = tt
  moved_in Null by h = tt
  moved_in (At object offset) by h = tt
  moved_in (Code name) by h = h

  global_in : (name : List ℕ) (o : Option ℕ) → (global_address name o ≡ Code name → K name) → ValueIn (global_address name o)
  global_in name None k = k refl
  global_in name (Some j) k = tt

  local_in : (name : List ℕ) (serial : ℕ) (o global : Option ℕ) → (local_address serial o (global_address name global) ≡ Code name → K name) → ValueIn (local_address serial o (global_address name global))
  local_in name serial None global k = global_in name global k
  local_in name serial (Some j) global k = tt

  global_address_in : (globals : List Global) (name : List ℕ) → (address_of_global globals name ≡ Code name → K name) → ValueIn (address_of_global globals name)
  unfolding address_of_global
  global_address_in globals name k = global_in name _ k

  address_in : (globals : List Global) (scope : Scope) (name : List ℕ) → (address_of globals scope name ≡ Code name → K name) → ValueIn (address_of globals scope name)
  unfolding address_of address_of_global
  address_in globals scope name k = local_in name scope.serial _ _ k

  pub law : IsOfAddresses ValueIn
  law = record { number = λ z. tt; null = tt; moved = moved_in }

  abbrev pub MemoryIn : Memory → Type 0
  MemoryIn m = all.MemoryIn ValueIn law m

  -- the addresses among the operands that are function values are of the set
  abbrev pub OperandsIn : List Global → Scope → List Operand → Type 0
  OperandsIn globals scope xs = (name : List ℕ) → TakesAddress name xs → address_of globals scope name ≡ Code name → K name

  abbrev pub WorldIn : World → Type 0
  WorldIn d = all.WorldIn ValueIn law d

  abbrev pub ActedIn : Result World TrapKind → Type 0
  ActedIn r = all.ActedIn ValueIn law r

  addresses_in : (globals : List Global) (scope : Scope) (xs : List Operand) → OperandsIn globals scope xs → all.OperandsIn ValueIn law globals scope xs
  addresses_in globals scope xs k name t = address_in globals scope name (k name t)

  pub value_at_in : (vs : List Value) (o : Option ℕ) → All ValueIn vs → ValueIn (value_at vs o)
  value_at_in = all.value_at_in ValueIn law

  pub put_at_in : (vs : List Value) (o : Option ℕ) (v : Value) → ValueIn v → All ValueIn vs → All ValueIn (put_at vs o v)
  put_at_in = all.put_at_in ValueIn law

  pub first_in : (globals : List Global) (scope : Scope) (vs : List Value) (x : Operand) (xs : List Operand) → All ValueIn vs → OperandsIn globals scope (x ∷ xs) → ValueIn (value_of globals scope vs x)
  first_in globals scope vs x xs h k = all.first_in ValueIn law globals scope vs x xs h (addresses_in globals scope (x ∷ xs) k)

  pub values_of_in : (globals : List Global) (scope : Scope) (vs : List Value) (xs : List Operand) → All ValueIn vs → OperandsIn globals scope xs → All ValueIn (values_of globals scope vs xs)
  values_of_in globals scope vs xs h k = all.values_of_in ValueIn law globals scope vs xs h (addresses_in globals scope xs k)

  pub with_locals_in : (structs : List StructDef) (serial k : ℕ) (ds : List Decl) (m : Memory) → MemoryIn m → MemoryIn (with_locals structs serial k ds m)
  with_locals_in = all.with_locals_in ValueIn law

  pub with_globals_in : (structs : List StructDef) (globals : List Global) (k : ℕ) (gs : List Global) (m : Memory) → MemoryIn m →
      ((name : List ℕ) → MentionsInItems name gs → address_of_global globals name ≡ Code name → K name) → MemoryIn (with_globals structs globals k gs m)
  with_globals_in structs globals k gs m h items = all.with_globals_in ValueIn law structs globals k gs m h (λ name t. global_address_in globals name (items name t))

  pub without_frame_in : (serial : ℕ) (m : Memory) → MemoryIn m → MemoryIn (without_frame serial m)
  without_frame_in = all.without_frame_in ValueIn law

  pub registers_made_in : (f : Function) (vs : List Value) → All ValueIn vs → All ValueIn (registers_made f vs)
  registers_made_in = all.registers_made_in ValueIn law

  -- what a statement that is no call leaves
  pub act_in : (e : Setting) (scope : Scope) (x : Stmt) (d : World) → OperandsIn e.globals scope (operands_of x) → WorldIn d → ActedIn (act e scope x d)
  act_in e scope x d k w = all.act_in ValueIn law e scope x d (addresses_in e.globals scope (operands_of x) k) w
