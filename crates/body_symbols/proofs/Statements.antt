-- What statements do to registers, and what the symbols after them say of it.
use Rattle.std.proofs.Common.{◌≡◌, ℕ, ℤ, pos, Bool, true, false, cond, List, refl, sym, ◌∙◌, ap, subst, Option, Some, None, Result, Ok, Err, slice_get, slice_set}
use Rattle.std.proofs.lemmas.List.Folds.{find_at}
use Rattle.std.specs.Str.{bytes_eq}
use Rattle.gimple_ir.specs.declared.scalar.Scalar.{Scalar}
use Rattle.gimple_ir.specs.declared.scalar.Scalar.TheVariants.{I8, I64, Ptr}
use Rattle.gimple_ir.specs.declared.scalar.Op.{Op}
use Rattle.gimple_ir.specs.declared.value.TrapKind.{TrapKind}
use Rattle.gimple_ir.specs.declared.value.TrapKind.TheVariants.{ReadOnly}
use Rattle.gimple_ir.specs.declared.value.Value.{Value}
use Rattle.gimple_ir.specs.declared.value.Value.TheVariants.{Int as IntValue}
use Rattle.gimple_ir.specs.declared.operand.Operand.{Operand}
use Rattle.gimple_ir.specs.declared.operand.Operand.TheVariants.{Reg, Number, Null as NullOperand, Address}
use Rattle.gimple_ir.specs.declared.declarations.Register.{Register}
use Rattle.gimple_ir.specs.declared.statement.Stmt.{Stmt}
use Rattle.gimple_ir.specs.declared.statement.Stmt.TheVariants.{Copy, Arith, Compare, Convert, Load, Store, Call, Indirect, Get, Put, Abort}
use Rattle.gimple_ir.specs.declared.program.Function.{Function}
use Rattle.gimple_core.specs.Sealed.{Sealed}
use Rattle.gimple_core.specs.declared.machine.FoundSlot.{FoundSlot}
use Rattle.gimple_core.specs.State.{World, Scope, setting_of, registers_of, register_place, scalar_in, scalar_or_pointer, put_at}
use Rattle.gimple_core.specs.Run.{Callee, Named, Through, Calling, call_of, act, assign_result, loaded, stored, got, taking, given, arith_of, compares, one_if, value_of}
use Rattle.gimple_core.specs.Verdict.{◌>>◌, demand}
use Rattle.gimple_core.specs.Env.{Names, scalar_of}
use Rattle.gimple_core.specs.Statements as s
use Rattle.gimple_core.specs.Statements.{is_pointer}
use Rattle.gimple_core.proofs.Passed.{first_passed, demanded}
use Rattle.gimple_core.proofs.ScalarLemmas.{same_scalar_true}
use Rattle.gimple_core.proofs.StepLemmas.{calling_stmt, call_is}
use Rattle.gimple_claims.specs.Checks.{env_of}
use Rattle.gimple_claims.proofs.TypedValues.{HasRegister, has_register}
use Rattle.fix_engine.specs.declared.lifted.Lifted.{Lifted}
use Rattle.fix_engine.specs.declared.lifted.Lifted.TheVariants.{NotReached, Reached}
use Rattle.block_flow.specs.Runs.{ReachedWith}
use Rattle.body_symbols.specs.declared.symbol.Symbol.{Symbol}
use Rattle.body_symbols.specs.declared.symbol.Symbol.TheVariants.{Unknown}
use Rattle.body_symbols.specs.Bodies.{Body, body_of, place_of, symbol_or, operand_symbol, arith_symbol, register_scalar, set_reached, set_result, change_of, changed}
use Rattle.body_symbols.specs.Claims.{Stands}
use Rattle.body_symbols.proofs.Standing.{KeepsScalar, Fits, any_fits, RowStands, put_stands, forget, keeps_at, operand_stands, address_keeps, is_ptr, arith_fits, compare_fits}

place_found : (b : Bool) (n i : ℕ) → cond b (Some n) None ≡ Some i → n ≡ i
place_found true n i h = cc
place_found false n i h = cc

-- the number of a register of a name, as a run says it
place_is : (rs : List Register) (name : List ℕ) (k : ℕ) → register_place rs name ≡ Some k → place_of rs name ≡ k
unfolding register_place
place_is rs name k e = place_found _ _ k e

-- the register that a check has found is that at the number of its name
register_is : (rs : List Register) (name : List ℕ) (scalar : Scalar) (r : Register) → HasRegister rs name scalar → slice_get rs (place_of rs name) ≡ Some r → r.scalar ≡ scalar
register_is rs name scalar r c e =
    let there : slice_get rs (place_of rs name) ≡ Some c.register = ap (slice_get rs) (place_is rs name c.place c.place_is) ∙ c.at in
    let same : Some r ≡ Some c.register = sym e ∙ there in
    ap scalar_or_pointer same ∙ c.scalar_is

scalar_same : (scope : Scope) (name : List ℕ) → scalar_in scope name ≡ register_scalar scope.declared name
unfolding scalar_in
scalar_same scope name = ap scalar_or_pointer (find_at (λ (r : Register). bytes_eq r.name name) scope.declared)

module _ (p : Sealed) (f : Function) (arguments : List Value) (serial : ℕ) where
  abbrev B : Body
  B = body_of p f

  abbrev scope : Scope
  scope = record { declared = registers_of f; locals = f.locals; serial = serial }

  abbrev Rows : List Symbol → List Value → Type 0
  Rows row vs = RowStands p.mode f arguments serial (registers_of f) row vs

  abbrev IsFit : Scalar → Symbol → Value → Type 0
  IsFit scalar a v = Fits p.mode f arguments serial scalar a v

  abbrev After : List Value → Lifted (List Symbol) → Type 0
  After vs x = ReachedWith (λ row. RowStands p.mode f arguments serial (registers_of f) row vs) x

  -- ---- what an assignment leaves

  assigned : (row : List Symbol) (vs : List Value) (to : List ℕ) (a : Symbol) (v : Value) → Rows row vs → ((r : Register) → slice_get (registers_of f) (place_of (registers_of f) to) ≡ Some r → IsFit r.scalar a v) →
      Rows (slice_set row (place_of (registers_of f) to) a) (put_at vs (register_place (registers_of f) to) v)
  assigned row vs to a v h g = put_stands p.mode f arguments serial (registers_of f) row vs to a v h g

  unknown : (row : List Symbol) (vs : List Value) (to : List ℕ) (v : Value) → Rows row vs → Rows (slice_set row (place_of (registers_of f) to) Unknown) (put_at vs (register_place (registers_of f) to) v)
  unknown row vs to v h = assigned row vs to Unknown v h (λ r e. any_fits p.mode f arguments serial r.scalar v)

  module _ (d : World) (row : List Symbol) (h : Rows row d.registers) where
    value : Operand → Value
    value x = value_of p.program.globals scope d.registers x

    stands : (x : Operand) → Stands p.mode f arguments serial (operand_symbol B row x) (value_of p.program.globals scope d.registers x)
    stands x = operand_stands p.mode f arguments serial B scope row d.registers refl refl refl h x

    -- a register that passes has a symbol that keeps its scalar
    register_keeps : (name : List ℕ) (scalar : Scalar) → scalar_of (env_of p.program f) name ≡ Ok scalar → KeepsScalar p.mode f arguments serial scalar (symbol_or (slice_get row (place_of (registers_of f) name)))
    register_keeps name scalar e =
        let c : HasRegister (registers_of f) name scalar = has_register p.program f (registers_of f) name scalar refl e in
        let there : slice_get (registers_of f) (place_of (registers_of f) name) ≡ Some c.register = ap (slice_get (registers_of f)) (place_is (registers_of f) name c.place c.place_is) ∙ c.at in
        subst (λ t. KeepsScalar p.mode f arguments serial t (symbol_or (slice_get row (place_of (registers_of f) name)))) c.scalar_is
        (keeps_at p.mode f arguments serial (registers_of f) row d.registers (place_of (registers_of f) name) c.register there h)

    -- so does an operand
    pub keeps : (wrong : ℕ) (scalar : Scalar) (x : Operand) → s.operand (env_of p.program f) wrong scalar x ≡ Ok tt → KeepsScalar p.mode f arguments serial scalar (operand_symbol (body_of p f) row x)
    unfolding s.operand operand_symbol
    keeps wrong scalar (Reg name) e =
        let own = first_passed (scalar_of (env_of p.program f) name) _ tt e in
        let same : own.0 ≡ scalar = same_scalar_true own.0 scalar (demanded _ wrong own.2) in
        register_keeps name scalar (subst (λ t. scalar_of (env_of p.program f) name ≡ Ok t) same own.1)
    keeps wrong scalar (Number z) e = tt
    keeps wrong scalar NullOperand e = tt
    keeps wrong scalar (Address name offset) e = address_keeps p.mode f arguments serial scalar p.program.globals f.locals name offset

    -- ---- statements

    copied : (names : Names Function) (to : List ℕ) (from : Operand) → s.statement (env_of p.program f) names (Copy to from) ≡ Ok tt → (r : Register) → slice_get (registers_of f) (place_of (registers_of f) to) ≡ Some r → IsFit r.scalar (operand_symbol B row from) (value_of p.program.globals scope d.registers from)
    unfolding s.statement
    copied names to from checked r e =
        let own = first_passed (scalar_of (env_of p.program f) to) _ tt checked in
        let same : r.scalar ≡ own.0 = register_is (registers_of f) to own.0 r (has_register p.program f (registers_of f) to own.0 refl own.1) e in
        record { stands = stands from; keeps = subst (λ t. KeepsScalar p.mode f arguments serial t (operand_symbol B row from)) (sym same) (keeps 4 own.0 from own.2) }

    left_by : (scalar : Scalar) (left : Operand) (op : Op) (right : Operand) (b : Bool) → (is_pointer scalar ≡ true → scalar ≡ Ptr) → is_pointer scalar ≡ b →
        (cond b (demand (s.is_add op) 4 >> (s.operand (env_of p.program f) 4 Ptr left >> s.operand (env_of p.program f) 4 I64 right)) (s.operand (env_of p.program f) 4 scalar left >> s.right_side (env_of p.program f) scalar op right)) ≡ Ok tt → s.operand (env_of p.program f) 4 scalar left ≡ Ok tt
    left_by scalar left op right true is e checked =
        let more = first_passed (demand (s.is_add op) 4) _ tt checked in
        subst (λ t. s.operand (env_of p.program f) 4 t left ≡ Ok tt) (sym (is e)) (first_passed (s.operand (env_of p.program f) 4 Ptr left) _ tt more.2).1
    left_by scalar left op right false is e checked = (first_passed (s.operand (env_of p.program f) 4 scalar left) _ tt checked).1

    left_passes : (scalar : Scalar) (left : Operand) (op : Op) (right : Operand) → s.arith (env_of p.program f) scalar left op right ≡ Ok tt → s.operand (env_of p.program f) 4 scalar left ≡ Ok tt
    unfolding s.arith
    left_passes scalar left op right checked = left_by scalar left op right (is_pointer scalar) (is_ptr scalar) refl checked

    left_keeps : (names : Names Function) (to : List ℕ) (left : Operand) (op : Op) (right : Operand) → s.statement (env_of p.program f) names (Arith to left op right) ≡ Ok tt → KeepsScalar p.mode f arguments serial (register_scalar (registers_of f) to) (operand_symbol B row left)
    unfolding s.statement
    left_keeps names to left op right checked =
        let own = first_passed (scalar_of (env_of p.program f) to) _ tt checked in
        let c : HasRegister (registers_of f) to own.0 = has_register p.program f (registers_of f) to own.0 refl own.1 in
        let same : register_scalar (registers_of f) to ≡ own.0 = ap (λ n. scalar_or_pointer (slice_get (registers_of f) n)) (place_is (registers_of f) to c.place c.place_is) ∙ (ap scalar_or_pointer c.at ∙ c.scalar_is) in
        subst (λ t. KeepsScalar p.mode f arguments serial t (operand_symbol B row left)) (sym same) (keeps 4 own.0 left (left_passes own.0 left op right own.2))

    abbrev fine : World → Result World TrapKind
    fine w = Ok w

    abbrev Done : Result World TrapKind → Stmt → Type 0
    Done (Ok w) x = After w.registers (changed row (change_of B row x))
    Done (Err kind) x = Unit {0}

    set_done : (vs : List Value) (to : List ℕ) (x : Lifted Symbol) (v : Value) → ReachedWith (λ a. IsFit (register_scalar (registers_of f) to) a v) x → After (put_at d.registers (register_place (registers_of f) to) v) (changed row (set_reached B to x))
    set_done vs to NotReached v g = absurd g
    set_done vs to (Reached a) v g = assigned row d.registers to a v h (λ r e. subst (λ t. IsFit t a v) (ap scalar_or_pointer e) g)

    arith_done : (names : Names Function) (to : List ℕ) (left : Operand) (op : Op) (right : Operand) → s.statement (env_of p.program f) names (Arith to left op right) ≡ Ok tt → (r : Result Value TrapKind) →
        arith_of p.mode (scalar_in scope to) (value_of p.program.globals scope d.registers left) op (value_of p.program.globals scope d.registers right) ≡ r → Done (assign_result scope d to r) (Arith to left op right)
    unfolding change_of
    arith_done names to left op right checked (Err kind) e = tt
    arith_done names to left op right checked (Ok v) e =
        let result : arith_of p.mode (register_scalar (registers_of f) to) (value_of p.program.globals scope d.registers left) op (value_of p.program.globals scope d.registers right) ≡ Ok v =
        subst (λ t. arith_of p.mode t (value_of p.program.globals scope d.registers left) op (value_of p.program.globals scope d.registers right) ≡ Ok v) (scalar_same scope to) e in
        set_done d.registers to (arith_symbol p.mode (register_scalar (registers_of f) to) (operand_symbol B row left) op (operand_symbol B row right)) v
        (arith_fits p.mode f arguments serial (register_scalar (registers_of f) to) (operand_symbol B row left) op (operand_symbol B row right) (value_of p.program.globals scope d.registers left) (value_of p.program.globals scope d.registers right) v (stands left) (left_keeps names to left op right checked) (stands right) result)

    load_done : (to : List ℕ) (r : Result FoundSlot TrapKind) → (x : Stmt) → changed row (change_of B row x) ≡ Reached (slice_set row (place_of (registers_of f) to) Unknown) → Done (loaded scope d to r) x
    load_done to (Err kind) x e = tt
    load_done to (Ok g) x e = subst (After (put_at d.registers (register_place (registers_of f) to) g.value)) (sym e) (unknown row d.registers to g.value h)

    store_by : (b : Bool) (w : World) (x : Stmt) → w.registers ≡ d.registers → changed row (change_of B row x) ≡ Reached row → Done (cond b (Err ReadOnly) (fine w)) x
    store_by true w x e r = tt
    store_by false w x e r = subst (After w.registers) (sym r) (subst (Rows row) (sym e) h)

    store_done : (scalar : Scalar) (v : Value) (r : Result FoundSlot TrapKind) (x : Stmt) → changed row (change_of B row x) ≡ Reached row → Done (stored d scalar v r) x
    store_done scalar v (Err kind) x e = tt
    store_done scalar v (Ok g) x e = store_by g.constant _ x refl e

    get_done : (to : List ℕ) (o : Option ℤ) → Rows (slice_set row (place_of (registers_of f) to) Unknown) (got scope d to o).registers
    get_done to None = unknown row d.registers to (IntValue (pos 0)) h
    get_done to (Some z) = unknown row d.registers to (IntValue z) h

    acted : (names : Names Function) (x : Stmt) → s.statement (env_of p.program f) names x ≡ Ok tt → Done (act (setting_of p) scope x d) x
    unfolding act change_of
    acted names (Copy to from) checked = assigned row d.registers to (operand_symbol B row from) (value_of p.program.globals scope d.registers from) h (copied names to from checked)
    acted names (Arith to left op right) checked = arith_done names to left op right checked _ refl
    acted names (Compare to left cmp right) checked =
        assigned row d.registers to _ (one_if (compares (value_of p.program.globals scope d.registers left) cmp (value_of p.program.globals scope d.registers right))) h
        (λ r e. compare_fits p.mode f arguments serial r.scalar (operand_symbol B row left) cmp (operand_symbol B row right) (value_of p.program.globals scope d.registers left) (value_of p.program.globals scope d.registers right) (stands left) (stands right))
    acted names (Convert to scalar from) checked = unknown row d.registers to _ h
    acted names (Load to scalar place) checked = load_done to _ (Load to scalar place) refl
    acted names (Store scalar place from) checked = store_done scalar (value_of p.program.globals scope d.registers from) _ (Store scalar place from) refl
    acted names (Call to callee xs) checked = tt
    acted names (Indirect to signature callee xs) checked = tt
    acted names (Get to) checked = get_done to (slice_get d.input d.taken)
    acted names (Put from) checked = h
    acted names Abort checked = tt

    pub statement_done : (names : Names Function) (x : Stmt) (w : World) → s.statement (env_of p.program f) names x ≡ Ok tt → act (setting_of p) scope x d ≡ Ok w → After w.registers (changed row (change_of B row x))
    statement_done names x w checked did = subst (λ r. Done r x) did (acted names x checked)

    -- ---- calls

    call_by : (to : Option (List ℕ)) (v : Option Value) → After (given d.registers (taking scope to) v) (changed row (set_result B to))
    call_by None None = h
    call_by None (Some v) = h
    call_by (Some to) None = forget p.mode f arguments serial (registers_of f) row d.registers (place_of (registers_of f) to) h
    call_by (Some to) (Some v) = unknown row d.registers to v h

    call_change : (to : Option (List ℕ)) (xs : List Operand) (callee : Callee) → changed row (change_of B row (calling_stmt to xs callee)) ≡ changed row (set_result B to)
    unfolding change_of
    call_change to xs (Named name) = refl
    call_change to xs (Through name signature) = refl

    pub call_done : (x : Stmt) (c : Calling) (v : Option Value) → call_of x ≡ Some c → After (given d.registers (taking scope c.to) v) (changed row (change_of B row x))
    call_done x c v e =
        subst (λ y. After (given d.registers (taking scope c.to) v) (changed row (change_of B row y))) (sym (call_is x c e)) (subst (After (given d.registers (taking scope c.to) v)) (sym (call_change c.to c.arguments c.callee)) (call_by c.to v))
