-- What the access of a statement tells, whatever the statement.
use Rattle.std.proofs.Common.{◌≡◌, Bool, true, false, List, [], ◌∷◌, refl, Some, Result, Ok, Err, if◌then◌else◌}
use Rattle.gimple_ir.specs.declared.scalar.Scalar.{Scalar}
use Rattle.gimple_ir.specs.declared.statement.Stmt.{Stmt}
use Rattle.gimple_ir.specs.declared.statement.Stmt.TheVariants.{Copy, Arith, Compare, Convert, Load as LoadStmt, Store as StoreStmt, Call, Indirect, Get, Put, Abort}
use Rattle.gimple_ir.specs.declared.value.Value.{Value}
use Rattle.gimple_ir.specs.declared.value.TrapKind.{TrapKind}
use Rattle.gimple_ir.specs.declared.declarations.Global.{Global}
use Rattle.gimple_core.specs.declared.machine.FoundSlot.{FoundSlot}
use Rattle.gimple_core.specs.State.{State}
use Rattle.gimple_core.specs.Run.{Calling, call_of}
use Rattle.gimple_core.specs.Trace.{Event, Load, Store, access, accesses, load_event, store_event}
use Rattle.std.specs.List.{AllByRecursion}

module _ (P : Event → Type 0) (s : State) (loads : (scalar : Scalar) (f : FoundSlot) → P (Load s.top scalar f.object f.offset f.value)) (stores : (scalar : Scalar) (f : FoundSlot) (v : Value) → P (Store s.top scalar f.object f.offset v)) where
  store_all : (scalar : Scalar) (v : Value) (f : FoundSlot) (b : Bool) → AllByRecursion P (if b then [] else Store s.top scalar f.object f.offset v ∷ [])
  store_all scalar v f true = tt
  store_all scalar v f false = (stores scalar f v, tt)

  load_all : (scalar : Scalar) (r : Result FoundSlot TrapKind) → AllByRecursion P (load_event s.top scalar r)
  load_all scalar (Ok f) = (loads scalar f, tt)
  load_all scalar (Err k) = tt

  stores_all : (scalar : Scalar) (v : Value) (r : Result FoundSlot TrapKind) → AllByRecursion P (store_event s.top scalar v r)
  stores_all scalar v (Ok f) = store_all scalar v f f.constant
  stores_all scalar v (Err k) = tt

  accesses_all : (globals : List Global) (x : Stmt) → AllByRecursion P (accesses globals x s)
  accesses_all globals (Copy to from) = tt
  accesses_all globals (Arith to left op right) = tt
  accesses_all globals (Compare to left cmp right) = tt
  accesses_all globals (Convert to scalar from) = tt
  accesses_all globals (LoadStmt to scalar place) = load_all _ _
  accesses_all globals (StoreStmt scalar place from) = stores_all _ _ _
  accesses_all globals (Call to callee arguments) = tt
  accesses_all globals (Indirect to signature callee arguments) = tt
  accesses_all globals (Get to) = tt
  accesses_all globals (Put from) = tt
  accesses_all globals Abort = tt

  -- what holds of each load and each store of the running frame holds of what its statement tells
  pub access_all : (globals : List Global) (xs : List Stmt) → AllByRecursion P (access globals xs s)
  access_all globals [] = tt
  access_all globals (x ∷ xs) = accesses_all globals x

-- a call accesses nothing
pub no_access : (globals : List Global) (x : Stmt) (s : State) (c : Calling) → call_of x ≡ Some c → accesses globals x s ≡ []
no_access globals (Copy to from) s c e = refl
no_access globals (Arith to left op right) s c e = refl
no_access globals (Compare to left cmp right) s c e = refl
no_access globals (Convert to scalar from) s c e = refl
no_access globals (LoadStmt to scalar place) s c e = cc
no_access globals (StoreStmt scalar place from) s c e = cc
no_access globals (Call to callee arguments) s c e = refl
no_access globals (Indirect to signature callee arguments) s c e = refl
no_access globals (Get to) s c e = refl
no_access globals (Put from) s c e = refl
no_access globals Abort s c e = refl
