-- In a run of an accepted program only the statement `abort` traps with `Abort`, and each such program begins to run.
use Rattle.std.proofs.Common.{◌≡◌, ℕ, ◌==◌, ℤ, pos, negsuc, Bool, true, false, not, if◌then◌else◌, List, [], ◌∷◌, refl, sym, ◌∙◌, ap, subst, Option, Some, None, Result, Ok, Err, nat_lt}
use Rattle.std.specs.List.{find}
use Rattle.std.specs.Prelude.{◌+ℤ◌, ◌-ℤ◌, ◌*ℤ◌, ◌*◌, ◌^◌, ◌%◌, unsigned_abs, int_div, int_rem}
use Rattle.std.specs.Int.{int_shr}
use Rattle.gimple_ir.specs.declared.scalar.Scalar.{Scalar}
use Rattle.gimple_ir.specs.declared.scalar.Scalar.TheVariants.{I8, I16, I32, I64, U8, U16, U32, U64, Ptr}
use Rattle.gimple_ir.specs.declared.scalar.Mode.{Mode}
use Rattle.gimple_ir.specs.declared.scalar.Mode.TheVariants.{Trap, Wrap}
use Rattle.gimple_ir.specs.declared.scalar.Op.{Op}
use Rattle.gimple_ir.specs.declared.scalar.Op.TheVariants.{Add, Sub, Mul, Div, Rem, And, Or, Xor, Shl, Shr}
use Rattle.gimple_ir.specs.declared.statement.Stmt.{Stmt}
use Rattle.gimple_ir.specs.declared.statement.Stmt.TheVariants.{Copy, Arith, Compare, Convert, Load, Store, Call, Indirect, Get, Put, Abort}
use Rattle.gimple_ir.specs.declared.value.Value.{Value}
use Rattle.gimple_ir.specs.declared.value.Value.TheVariants.{Int, Null, At, Code}
use Rattle.gimple_ir.specs.declared.value.Object.{Object}
use Rattle.gimple_ir.specs.declared.value.TrapKind.{TrapKind}
use Rattle.gimple_ir.specs.declared.value.TrapKind.TheVariants.{Overflow, Divide, Shift, Bounds, ReadOnly, Abort as AbortTrap}
use Rattle.gimple_ir.specs.declared.declarations.StructDef.{StructDef}
use Rattle.gimple_ir.specs.declared.block.Block.{Block}
use Rattle.gimple_ir.specs.declared.program.Function.{Function}
use Rattle.gimple_ir.specs.declared.program.Program.{Program}
use Rattle.gimple_core.specs.declared.machine.Extent.{Extent}
use Rattle.gimple_core.specs.declared.machine.FoundSlot.{FoundSlot}
use Rattle.gimple_core.specs.declared.machine.MemorySlot.{MemorySlot}
use Rattle.gimple_core.specs.Sealed.{Sealed}
use Rattle.gimple_core.specs.Operators.{is_signed, in_scalar, is_count, low_bits, of_bits, modulus_of, wrapped, within, kept, unless_not, op_of}
use Rattle.gimple_core.specs.Memory.{Memory, found_at, found_extent, found_offset, found_slot, is_slot, put_slot, same_object}
use Rattle.gimple_core.specs.State.{Frame, World, State, Scope, Setting, scope_of, setting_of}
use Rattle.gimple_core.specs.Run.{Moves, Stops, Traps, Did, Goes, Reaches, Callee, Named, Through, Calling, call_of, called_function, taking, act, acted, arith_of, value_result, assign_result, loaded, stored, performed, resumed, stepped, Exit, ToLabel, Returns, exit_of, leave, jumped, labelled, returned, enter, entered, main_name, begun, begun_by}
use Rattle.gimple_core.specs.Declarations.{has_blocks}
use Rattle.gimple_core.proofs.ProgramTyped.{accepted_typed}
use Rattle.gimple_claims.specs.Checks.{MayTrap, IsCalled, NothingLost, AbortsOfAbort, RunsBegin}
use Rattle.gimple_claims.proofs.Checked.{functions_are_checked}
use Rattle.gimple_claims.proofs.Lost.{nothing_is_lost}

-- ---- no other statement gives `Abort`

abbrev is_abort : TrapKind → Bool
is_abort AbortTrap = true
is_abort kind = false

-- the result is no trap with `Abort`
abbrev is_other : {A : Type 0} → Result A TrapKind → Bool
is_other (Ok v) = true
is_other (Err kind) = not (is_abort kind)

within_other : (scalar : Scalar) (z : ℤ) → is_other (within scalar z) ≡ true
within_other scalar z = by (in_scalar scalar z)
  where
    by : (b : Bool) → is_other (if b then Ok z else Err Overflow) ≡ true
    by true = refl
    by false = refl

kept_other : (mode : Mode) (scalar : Scalar) (z : ℤ) → is_other (kept mode scalar z) ≡ true
kept_other Trap scalar z = by (is_signed scalar)
  where
    by : (a : Bool) → is_other (if a then within scalar z else Ok (wrapped scalar z)) ≡ true
    by true = within_other scalar z
    by false = refl
kept_other Wrap scalar z = refl

unless_other : (b : Bool) (kind : TrapKind) (r : Result ℤ TrapKind) → is_abort kind ≡ false → is_other r ≡ true → is_other (unless_not b kind r) ≡ true
unless_other true kind r e h = h
unless_other false kind r e h = ap not e

op_other : (mode : Mode) (op : Op) (scalar : Scalar) (l r : ℤ) → is_other (op_of mode op scalar l r) ≡ true
unfolding op_of
op_other mode Add scalar l r = kept_other mode scalar (l +ℤ r)
op_other mode Sub scalar l r = kept_other mode scalar (l -ℤ r)
op_other mode Mul scalar l r = kept_other mode scalar (l *ℤ r)
op_other mode Div scalar l r = unless_other (not (unsigned_abs r == 0)) Divide (within scalar (int_div l r)) refl (within_other scalar (int_div l r))
op_other mode Rem scalar l r =
    unless_other (not (unsigned_abs r == 0)) Divide (unless_not (in_scalar scalar (int_div l r)) Overflow (Ok (int_rem l r))) refl
    (unless_other (in_scalar scalar (int_div l r)) Overflow (Ok (int_rem l r)) refl refl)
op_other mode And scalar l r = refl
op_other mode Or scalar l r = refl
op_other mode Xor scalar l r = refl
op_other mode Shl scalar l r = unless_other (is_count scalar r) Shift (Ok (of_bits scalar (low_bits scalar l * 2 ^ unsigned_abs r % modulus_of scalar))) refl refl
op_other mode Shr scalar l r = unless_other (is_count scalar r) Shift (Ok (int_shr l (unsigned_abs r))) refl refl

value_other : (r : Result ℤ TrapKind) → is_other r ≡ true → is_other (value_result r) ≡ true
value_other (Ok z) h = refl
value_other (Err kind) h = h

arith_other : (mode : Mode) (scalar : Scalar) (l : Value) (op : Op) (r : Value) → is_other (arith_of mode scalar l op r) ≡ true
unfolding arith_of
arith_other mode Ptr l op r = refl
arith_other mode I8 l op r = value_other _ (op_other mode op I8 _ _)
arith_other mode I16 l op r = value_other _ (op_other mode op I16 _ _)
arith_other mode I32 l op r = value_other _ (op_other mode op I32 _ _)
arith_other mode I64 l op r = value_other _ (op_other mode op I64 _ _)
arith_other mode U8 l op r = value_other _ (op_other mode op U8 _ _)
arith_other mode U16 l op r = value_other _ (op_other mode op U16 _ _)
arith_other mode U32 l op r = value_other _ (op_other mode op U32 _ _)
arith_other mode U64 l op r = value_other _ (op_other mode op U64 _ _)

slot_other : (object : Object) (offset : ℕ) (constant : Bool) (o : Option MemorySlot) → is_other (found_slot object offset constant o) ≡ true
slot_other object offset constant None = refl
slot_other object offset constant (Some s) = refl

offset_other : (slots : List MemorySlot) (object : Object) (z : ℤ) (scalar : Scalar) (x : Extent) → is_other (found_offset slots object z scalar x) ≡ true
offset_other slots object (negsuc n) scalar x = refl
offset_other slots object (pos n) scalar x = by (nat_lt n x.size)
  where
    by : (b : Bool) → is_other (if b then found_slot object n x.constant (find (is_slot object n scalar) slots) else Err Bounds) ≡ true
    by true = slot_other object n x.constant (find (is_slot object n scalar) slots)
    by false = refl

extent_other : (slots : List MemorySlot) (object : Object) (z : ℤ) (scalar : Scalar) (o : Option Extent) → is_other (found_extent slots object z scalar o) ≡ true
extent_other slots object z scalar None = refl
extent_other slots object z scalar (Some x) = offset_other slots object z scalar x

found_other : (m : Memory) (v : Value) (scalar : Scalar) → is_other (found_at m v scalar) ≡ true
unfolding found_at
found_other m (Int z) scalar = refl
found_other m Null scalar = refl
found_other m (Code name) scalar = refl
found_other m (At object offset) scalar = extent_other m.slots object offset scalar (find (λ x. same_object x.object object) m.living)

assigned_other : (scope : Scope) (w : World) (to : List ℕ) (r : Result Value TrapKind) → is_other r ≡ true → is_other (assign_result scope w to r) ≡ true
assigned_other scope w to (Ok v) h = refl
assigned_other scope w to (Err kind) h = h

loaded_other : (scope : Scope) (w : World) (to : List ℕ) (r : Result FoundSlot TrapKind) → is_other r ≡ true → is_other (loaded scope w to r) ≡ true
loaded_other scope w to (Ok f) h = refl
loaded_other scope w to (Err kind) h = h

stored_other : (w : World) (scalar : Scalar) (v : Value) (r : Result FoundSlot TrapKind) → is_other r ≡ true → is_other (stored w scalar v r) ≡ true
stored_other w scalar v (Ok f) h = by f.constant
  where
    by : (b : Bool) → is_other (if b then Err ReadOnly else Ok (record w { memory = record w.memory { slots = put_slot w.memory.slots f.object f.offset scalar v } })) ≡ true
    by true = refl
    by false = refl
stored_other w scalar v (Err kind) h = h

no_other : {A : Type 0} (r : Result A TrapKind) → is_other r ≡ true → r ≡ Err AbortTrap → ⊥
no_other (Ok v) h e = cc
no_other (Err kind) h e = let same : kind ≡ AbortTrap = cc in let no : false ≡ true = ap (λ k. not (is_abort k)) (sym same) ∙ h in cc

act_aborts : (e : Setting) (scope : Scope) (x : Stmt) (w : World) → call_of x ≡ None → act e scope x w ≡ Err AbortTrap → x ≡ Abort
unfolding act
act_aborts e scope (Copy to from) w n h = cc
act_aborts e scope (Arith to left op right) w n h = absurd (no_other _ (assigned_other scope w to _ (arith_other e.mode _ _ op _)) h)
act_aborts e scope (Compare to left cmp right) w n h = cc
act_aborts e scope (Convert to scalar from) w n h = cc
act_aborts e scope (Load to scalar place) w n h = absurd (no_other _ (loaded_other scope w to _ (found_other w.memory _ scalar)) h)
act_aborts e scope (Store scalar place from) w n h = absurd (no_other _ (stored_other w scalar _ _ (found_other w.memory _ scalar)) h)
act_aborts e scope (Call to callee arguments) w n h = cc
act_aborts e scope (Indirect to signature callee arguments) w n h = cc
act_aborts e scope (Get to) w n h = cc
act_aborts e scope (Put from) w n h = cc
act_aborts e scope Abort w n h = refl

-- ---- the trap of a step

-- a trap with `Abort`
abbrev Aborts : Did → Type 0
Aborts (Goes t) = ⊥
Aborts (Reaches (Moves k t)) = ⊥
Aborts (Reaches (Stops o z)) = ⊥
Aborts (Reaches (Traps o kind)) = kind ≡ AbortTrap

acted_aborts : (s : State) (r : Result World TrapKind) → Aborts (acted s r) → r ≡ Err AbortTrap
acted_aborts s (Ok w) h = absurd h
acted_aborts s (Err kind) h = ap Err h

jumped_goes : (s : State) (o : Option (ℕ × Block)) (k : ℕ) (b : Block) → o ≡ Some (k, b) → Aborts (Reaches (jumped s o)) → ⊥
jumped_goes s None k b e h = cc
jumped_goes s (Some (j, c)) k b e h = h

returned_goes : (s : State) (v : Option Value) (fs : List Frame) → Aborts (Reaches (returned s v fs)) → ⊥
returned_goes s v [] h = h
returned_goes s v (f ∷ fs) h = h

leave_goes : (p : Program) (s : State) → NothingLost p s → s.top.rest ≡ [] → (z : Exit) → exit_of p.globals s.top.end s ≡ z → Aborts (Reaches (leave s z)) → ⊥
leave_goes p s lost e (ToLabel label) x h = let there = lost.jumps label e x in jumped_goes s (labelled label s.top.function.blocks) there.0 there.1 there.2 h
leave_goes p s lost e (Returns v) x h = returned_goes s v s.below h

entered_goes : (structs : List StructDef) (s : State) (takes : Option ℕ) (vs : List Value) (g : Function) (bs : List Block) → has_blocks bs ≡ true → Aborts (Reaches (entered structs s takes vs g bs)) → ⊥
entered_goes structs s takes vs g [] e h = cc
entered_goes structs s takes vs g (c ∷ ds) e h = h

may_not_abort : (c : Callee) (kind : TrapKind) → MayTrap c kind → kind ≡ AbortTrap → ⊥
may_not_abort c kind m e = no_trap c (subst (MayTrap c) e m)
  where
    no_trap : (c : Callee) → MayTrap c AbortTrap → ⊥
    no_trap (Named name) h = h
    no_trap (Through name signature) h = h

enter_goes : (structs : List StructDef) (s : State) (takes : Option ℕ) (vs : List Value) (c : Callee) (r : Result Function TrapKind) → IsCalled c r → Aborts (Reaches (enter structs s takes vs r)) → ⊥
enter_goes structs s takes vs c (Ok g) e h = entered_goes structs s takes vs g g.blocks e h
enter_goes structs s takes vs c (Err kind) e h = may_not_abort c kind e h

performed_aborts : (p : Sealed) (s : State) (x : Stmt) (xs : List Stmt) → NothingLost p.program s → s.top.rest ≡ x ∷ xs → (o : Option Calling) → call_of x ≡ o → Aborts (performed p o x (resumed s xs)) → x ≡ Abort
performed_aborts p s x xs lost e None n h = act_aborts (setting_of p) (scope_of s.top) x s.world n (acted_aborts (resumed s xs) (act (setting_of p) (scope_of s.top) x s.world) h)
performed_aborts p s x xs lost e (Some c) n h =
    absurd (enter_goes p.program.structs (resumed s xs) (taking (scope_of s.top) c.to) _ c.callee (called_function p.program.functions (scope_of s.top) s.world.registers c.callee) (lost.calls x xs c e n) h)

stepped_aborts : (p : Sealed) (s : State) (xs : List Stmt) → NothingLost p.program s → s.top.rest ≡ xs → Aborts (stepped p s xs) → (ys : List Stmt) × (xs ≡ Abort ∷ ys)
stepped_aborts p s [] lost e h = absurd (leave_goes p.program s lost e (exit_of p.program.globals s.top.end s) refl h)
stepped_aborts p s (x ∷ xs) lost e h = (xs, ap (λ y. y ∷ xs) (performed_aborts p s x xs lost e (call_of x) refl h))

pub aborts_of_abort : AbortsOfAbort
aborts_of_abort p accepted input past s output c e = stepped_aborts p s s.top.rest (nothing_is_lost p accepted input past s c) refl (subst Aborts (sym e) refl)

-- ---- the start

begins_with : (p : Program) (input : List ℤ) (f : Function) (bs : List Block) → has_blocks bs ≡ true → (s : State) × (begun p input f bs ≡ Some s)
begins_with p input f [] h = cc
begins_with p input f (b ∷ bs) h = (_, refl)

pub runs_begin : RunsBegin
runs_begin p accepted input =
    let main = (accepted_typed p.program accepted).0 in
    let first = begins_with p.program input main.0 main.0.blocks (functions_are_checked p.program accepted main_name main.0 main.1).some in
    (first.0, ap (begun_by p.program input) main.1 ∙ first.1)
