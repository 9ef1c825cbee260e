-- In each run of an accepted program registers and slots hold values of their scalars.
use Rattle.std.proofs.Common.{◌≡◌, ℕ, ◌+◌, ℤ, true, false, not, List, [], ◌∷◌, ◌++◌, map, length, length-append, append_assoc, refl, sym, ◌∙◌, ap, subst, arith, Option, Some, None, Ok, slice_get}
use Rattle.std.specs.Prelude.{nat_le}
use Rattle.std.specs.List.{AllByRecursion, list_all}
use Rattle.std.proofs.lemmas.List.{length-map}
use Rattle.std.proofs.lemmas.List.Folds.{list_all-append}
use Rattle.gimple_ir.specs.declared.scalar.Scalar.{Scalar}
use Rattle.gimple_ir.specs.declared.scalar.Scalar.TheVariants.{I64, Ptr}
use Rattle.gimple_ir.specs.declared.declarations.Register.{Register}
use Rattle.gimple_ir.specs.declared.declarations.Decl.{Decl}
use Rattle.gimple_ir.specs.declared.declarations.Global.{Global}
use Rattle.gimple_ir.specs.declared.declarations.StructDef.{StructDef}
use Rattle.gimple_ir.specs.declared.operand.Operand.{Operand}
use Rattle.gimple_ir.specs.declared.operand.Operand.TheVariants.{Reg, Number, Null as NullOperand, Address}
use Rattle.gimple_ir.specs.declared.value.Object.{Object}
use Rattle.gimple_ir.specs.declared.value.Object.TheVariants.{Global as GlobalObject, Local as LocalObject}
use Rattle.gimple_ir.specs.declared.value.LayoutSlot.{LayoutSlot}
use Rattle.gimple_ir.specs.declared.value.Value.{Value}
use Rattle.gimple_ir.specs.declared.value.Value.TheVariants.{Null}
use Rattle.gimple_ir.specs.declared.block.Block.{Block}
use Rattle.gimple_ir.specs.declared.block.End.{End}
use Rattle.gimple_ir.specs.declared.block.End.TheVariants.{Goto, If, Switch, Return}
use Rattle.gimple_ir.specs.declared.program.Function.{Function}
use Rattle.gimple_ir.specs.declared.program.Program.{Program}
use Rattle.gimple_core.specs.Sealed.{Sealed}
use Rattle.gimple_core.specs.declared.machine.MemorySlot.{MemorySlot}
use Rattle.gimple_core.specs.Layout.{layout_of}
use Rattle.gimple_core.specs.Operators.{in_scalar}
use Rattle.gimple_core.specs.Memory.{Memory, moved_by, is_elsewhere, without_frame}
use Rattle.gimple_core.specs.State.{Frame, World, State, Scope, scope_of, setting_of, registers_of, offset_in, is_of}
use Rattle.gimple_core.specs.Run.{Calling, Did, step, value_of, values_of, given, taking, values_made, registers_made, filled, item_value, address_of_global, with_object, with_locals, with_globals, no_memory, first_memory, Returns, exit_of, function_named, main_name, begun, begun_by}
use Rattle.gimple_core.specs.Verdict.{demand, at}
use Rattle.gimple_core.specs.Env.{Names, Targets, targets_of, declared, scalar_of, functions_by_name, globals_by_name}
use Rattle.gimple_core.specs.Statements as s
use Rattle.gimple_core.specs.Declarations as d
use Rattle.gimple_core.specs.Accepted.{checked, first_fault}
use Rattle.gimple_core.proofs.Passed.{err_no, first_passed, demanded, at_passed, no_fault}
use Rattle.gimple_core.proofs.ScalarLemmas.{same_scalar_true, pointer_is}
use Rattle.gimple_claims.specs.Checks.{env_of, StmtsPass}
use Rattle.gimple_claims.specs.Typed.{registers_typed, frame_typed, slots_typed, ValuesAreTyped}
use Rattle.gimple_claims.proofs.Comes.{InDid, holds_with}
use Rattle.gimple_claims.proofs.Steps.{Steps, acts, calls, jumps, leaves, stops, traps, step_is}
use Rattle.gimple_claims.proofs.Acts.{Acts, assigns, takes, prints, stores, acts_is}
use Rattle.gimple_claims.proofs.Callees.{CallPasses, call_passes}
use Rattle.gimple_claims.proofs.Lists.{all_kept}
use Rattle.gimple_claims.proofs.Checked.{ok_same}
use Rattle.gimple_claims.proofs.Lost.{Stands, stands}
use Rattle.gimple_claims.proofs.TypedValues.{zero_is, int_is, moved_is, address_of_global_is, operand_is, HasRegister, has_register, typed_put, typed_append}
use Rattle.gimple_claims.proofs.TypedStmts.{WorldTyped, acted_typed}

-- ---- new registers

made_zero : (rs : List Register) (k : ℕ) → registers_typed rs (values_made rs [] k) ≡ true
unfolding values_made
made_zero [] k = refl
made_zero (r ∷ rs) k = rw (zero_is r.scalar) (made_zero rs (k + 1))

get_seam : (pre : List Value) (v : Value) (vs : List Value) → slice_get (pre ++ v ∷ vs) (length pre) ≡ Some v
get_seam [] v vs = refl
get_seam (x ∷ pre) v vs = get_seam pre v vs

module _ (p : Program) (f : Function) (globals : List Global) (scope : Scope) (values : List Value) (d : scope.declared ≡ registers_of f) (t : registers_typed scope.declared values ≡ true) where
  made_from : (formals : List Register) (xs : List Operand) (pre : List Value) → s.arguments (env_of p f) (s.scalars_of formals) xs ≡ Ok tt → length xs ≡ length formals →
      registers_typed formals (values_made formals (pre ++ values_of globals scope values xs) (length pre)) ≡ true
  unfolding s.arguments values_made
  made_from [] xs pre h e = refl
  made_from (r ∷ rs) [] pre h e = absurd (omega (arith, e))
  made_from (r ∷ rs) (x ∷ xs) pre h e =
      let a = first_passed (s.operand (env_of p f) 6 r.scalar x) _ tt h in
      let v : Value = value_of globals scope values x in
      let vs : List Value = values_of globals scope values xs in
      let here : is_of r.scalar v ≡ true = operand_is p f globals scope values d t 6 r.scalar x a.1 in
      let next : registers_typed rs (values_made rs ((pre ++ v ∷ []) ++ vs) (length (pre ++ v ∷ []))) ≡ true = made_from rs xs (pre ++ v ∷ []) a.2 (omega (arith, e)) in
      let later : registers_typed rs (values_made rs (pre ++ v ∷ vs) (length pre + 1)) ≡ true =
      subst (λ n. registers_typed rs (values_made rs (pre ++ v ∷ vs) n) ≡ true) (length-append pre (v ∷ []))
      (subst (λ us. registers_typed rs (values_made rs us (length (pre ++ v ∷ []))) ≡ true) (append_assoc pre (v ∷ []) vs) next) in
      rw (get_seam pre v vs, here) later

-- ---- memory

filled_zero : (object : Object) (slots : List LayoutSlot) → slots_typed (filled object slots []) ≡ true
filled_zero object [] = refl
filled_zero object (x ∷ slots) = rw (zero_is x.scalar) (filled_zero object slots)

locals_typed : (structs : List StructDef) (serial k : ℕ) (ds : List Decl) (m : Memory) → slots_typed m.slots ≡ true → slots_typed (with_locals structs serial k ds m).slots ≡ true
unfolding with_locals
locals_typed structs serial k [] m h = h
locals_typed structs serial k (x ∷ ds) m h =
    locals_typed structs serial (k + 1) ds (with_object m (LocalObject serial k) (layout_of structs x) false [])
    (list_all-append (λ (y : MemorySlot). is_of y.scalar y.value) m.slots (filled (LocalObject serial k) (layout_of structs x).slots []) ∙ rw (h, filled_zero (LocalObject serial k) (layout_of structs x).slots) refl)

returned_typed : (serial : ℕ) (m : Memory) → slots_typed m.slots ≡ true → slots_typed (without_frame serial m).slots ≡ true
unfolding without_frame
returned_typed serial m h =
    all_kept (λ (x : MemorySlot). is_of x.scalar x.value) (λ (x : MemorySlot). is_of x.scalar x.value) (λ (x : MemorySlot). is_elsewhere serial x.object) (λ x e f. e) m.slots h

item_is : (globals : List Global) (targets : Targets) (names : Names Global) (scalar : Scalar) (x : Operand) → d.item targets names scalar x ≡ Ok tt → is_of scalar (item_value globals x) ≡ true
unfolding d.item
item_is globals targets names scalar (Reg name) h = absurd (err_no h)
item_is globals targets names scalar (Number z) h =
    let a = first_passed (demand (not (s.is_pointer scalar)) 4) _ tt h in
    int_is scalar z (demanded _ 4 a.1) (demanded _ 13 a.2)
item_is globals targets names scalar NullOperand h = let same : scalar ≡ Ptr = pointer_is scalar (demanded _ 4 h) in ap (λ a. is_of a Null) same
item_is globals targets names scalar (Address name offset) h =
    let a = first_passed (demand (s.is_pointer scalar) 4) _ tt h in
    let same : scalar ≡ Ptr = pointer_is scalar (demanded _ 4 a.1) in
    subst (λ a. is_of a (moved_by (address_of_global globals name) (offset_in offset)) ≡ true) (sym same) (moved_is (address_of_global globals name) (offset_in offset) (address_of_global_is globals name))

items_typed : (globals : List Global) (targets : Targets) (names : Names Global) (object : Object) (slots : List LayoutSlot) (xs : List Operand) → d.items targets names slots xs ≡ Ok tt → slots_typed (filled object slots (map (item_value globals) xs)) ≡ true
unfolding d.items
items_typed globals targets names object [] xs h = refl
items_typed globals targets names object (x ∷ slots) [] h = rw (zero_is x.scalar) (filled_zero object slots)
items_typed globals targets names object (x ∷ slots) (y ∷ ys) h =
    let a = first_passed (d.item targets names x.scalar y) _ tt h in
    rw (item_is globals targets names x.scalar y a.1) (items_typed globals targets names object slots ys a.2)

global_items : (structs : List StructDef) (targets : Targets) (all earlier out : Names Global) (g : Global) → d.one_global structs targets all earlier g ≡ Ok out → d.items targets all (layout_of structs g.decl).slots g.items ≡ Ok tt
unfolding d.one_global
global_items structs targets all earlier out g h =
    let more = first_passed (declared earlier g.decl.name g) _ out h in
    let shape = first_passed (d.known_shape _ g.decl.shape) _ out more.2 in
    let size = first_passed (d.sized structs g.decl) _ out shape.2 in
    let count = first_passed (demand (nat_le (length g.items) (length (layout_of structs g.decl).slots)) 11) _ out size.2 in
    let items = first_passed (d.items targets all (layout_of structs g.decl).slots g.items) _ out count.2 in
    items.1

globals_typed : (structs : List StructDef) (all : List Global) (targets : Targets) (names : Names Global) (number k : ℕ) (earlier out : Names Global) (gs : List Global) (m : Memory) → d.globals structs targets names number earlier gs ≡ Ok out → slots_typed m.slots ≡ true → slots_typed (with_globals structs all k gs m).slots ≡ true
unfolding d.globals with_globals
globals_typed structs all targets names number k earlier out [] m h e = e
globals_typed structs all targets names number k earlier out (g ∷ gs) m h e =
    let a = first_passed (at _ (d.one_global structs targets names earlier g)) _ out h in
    let items = global_items structs targets names earlier a.0 g (at_passed _ (d.one_global structs targets names earlier g) a.0 a.1) in
    globals_typed structs all targets names (number + 1) (k + 1) a.0 out gs (with_object m (GlobalObject k) (layout_of structs g.decl) g.constant (map (item_value all) g.items)) a.2
    (list_all-append (λ (y : MemorySlot). is_of y.scalar y.value) m.slots _ ∙ rw (e, items_typed all targets names (GlobalObject k) (layout_of structs g.decl).slots g.items items) refl)

pub first_typed : (p : Program) → first_fault p ≡ None → slots_typed (first_memory p).slots ≡ true
unfolding first_fault checked
first_typed p h =
    let all = no_fault (checked p) h in
    let a = first_passed (d.structs p.structs 0 [] p.structs) _ tt all in
    let b = first_passed (d.globals p.structs (targets_of p) (globals_by_name p.globals) 0 [] p.globals) _ tt a.2 in
    globals_typed p.structs p.globals (targets_of p) (globals_by_name p.globals) 0 0 [] b.0 p.globals no_memory b.1 refl

-- ---- a waiting frame takes a result of the scalar of the register that it goes to

abbrev Links : List Register → Option ℕ → Option Scalar → Type 0
Links declared None result = Unit {0}
Links declared (Some k) result = (r : Register) × (slice_get declared k ≡ Some r) × (result ≡ Some r.scalar)

abbrev FramesLinked : Option ℕ → Option Scalar → List Frame → Type 0
FramesLinked to result [] = Unit {0}
FramesLinked to result (r ∷ rs) = (frame_typed r.control r.registers ≡ true) × Links (registers_of r.control.function) to result × FramesLinked r.control.takes r.control.function.result rs

record Typed (input : List ℤ) (t : State) : Type 0 where
  world : WorldTyped (registers_of t.top.function) t.world
  below : FramesLinked t.top.takes t.top.function.result t.below
  input_same : t.world.input ≡ input

abbrev ResultIs : Option Scalar → Option Value → Type 0
ResultIs result None = Unit {0}
ResultIs result (Some v) = (scalar : Scalar) → result ≡ Some scalar → is_of scalar v ≡ true

given_typed : (declared : List Register) (values : List Value) (to : Option ℕ) (result : Option Scalar) (v : Option Value) → registers_typed declared values ≡ true → Links declared to result → ResultIs result v → registers_typed declared (given values to v) ≡ true
given_typed declared values to result None t l h = t
given_typed declared values None result (Some v) t l h = t
given_typed declared values (Some k) result (Some v) t l h = typed_put declared values k l.0 v t l.1 (h l.0.scalar l.2)

module _ (p : Program) (f : Function) (globals : List Global) (t : State) (d : t.top.function ≡ f) (c : registers_typed (registers_of t.top.function) t.world.registers ≡ true) where
  operand_result : (operand : Option Operand) (result : Option Scalar) (v : Option Value) → s.returned (env_of p f) operand result ≡ Ok tt → exit_of globals (Return operand) t ≡ Returns v → ResultIs result v
  unfolding s.returned
  operand_result None result v h x = let same : None ≡ v = cc in subst (ResultIs result) same tt
  operand_result (Some x) None v h e = absurd (err_no h)
  operand_result (Some x) (Some scalar) v h e =
      let same : Some (value_of globals (scope_of t.top) t.world.registers x) ≡ v = cc in
      subst (ResultIs (Some scalar)) same (λ a g.
      let scalars : scalar ≡ a = cc in
      subst (λ b. is_of b (value_of globals (scope_of t.top) t.world.registers x) ≡ true) scalars (operand_is p f globals (scope_of t.top) t.world.registers (ap registers_of d) c 16 scalar x h))

  end_result : (e : End) (v : Option Value) → s.ending (env_of p f) e ≡ Ok tt → exit_of globals e t ≡ Returns v → ResultIs f.result v
  unfolding s.ending
  end_result (Goto label) v h x = cc
  end_result (If left cmp right hit miss) v h x = cc
  end_result (Switch on cases other) v h x = cc
  end_result (Return operand) v h x = operand_result operand f.result v h x

-- the register that a call's result goes to
links_to : (p : Program) (f : Function) (scope : Scope) → scope.declared ≡ registers_of f → (to : Option (List ℕ)) (result target : Option Scalar) → s.target (env_of p f) to ≡ Ok target → s.result_fits target result ≡ Ok tt → Links scope.declared (taking scope to) result
links_to p f scope d None result target h g = tt
links_to p f scope d (Some name) result target h g =
    let a = first_passed (scalar_of (env_of p f) name) _ target h in
    fits result (has_register p f scope.declared name a.0 d a.1) (subst (λ z. s.result_fits z result ≡ Ok tt) (sym (ok_same a.2)) g)
  where
    fits : {scalar : Scalar} (r : Option Scalar) → HasRegister scope.declared name scalar → s.result_fits (Some scalar) r ≡ Ok tt → Links scope.declared (taking scope (Some name)) r
    fits None c g = absurd (err_no g)
    fits {scalar} (Some a) c g =
        let same : scalar ≡ a = same_scalar_true scalar a (demanded _ 4 g) in
        subst (λ o. Links scope.declared o (Some a)) (sym c.place_is) (c.register, c.at, ap Some (sym same ∙ sym c.scalar_is))

-- ---- each step

acted_input : (m w : World) → Acts m w → w.input ≡ m.input
acted_input m _ (assigns to v) = refl
acted_input m _ (takes to v) = refl
acted_input m _ (prints output) = refl
acted_input m _ (stores at scalar v f e c) = refl

module _ (p : Sealed) (input : List ℤ) (numbers : list_all (in_scalar I64) input ≡ true) where
  abbrev names : Names Function
  names = functions_by_name p.program.functions

  called_typed : (t : State) (c : Calling) (g : Function) → Typed input t → CallPasses (env_of p.program t.top.function) c (s.scalars_of g.params) g.result →
      (registers_typed (registers_of g) (registers_made g (values_of p.program.globals (scope_of t.top) t.world.registers c.arguments)) ≡ true) × Links (registers_of t.top.function) (taking (scope_of t.top) c.to) g.result
  called_typed t c g h a = (
    typed_append g.params g.registers (values_made g.params (values_of p.program.globals (scope_of t.top) t.world.registers c.arguments) 0) (values_made g.registers [] 0)
        (made_from p.program t.top.function p.program.globals (scope_of t.top) t.world.registers refl h.world.registers g.params c.arguments [] a.arguments (a.count ∙ length-map g.params (λ (r : Register). r.scalar)))
        (made_zero g.registers 0),
    links_to p.program t.top.function (scope_of t.top) refl c.to g.result a.target a.to a.fits,
  )

  typed_did : (t : State) → Stands p.program t → Typed input t → (e : Did) → Steps p t e → InDid (Typed input) e
  typed_did t u h _ (acts x xs w e n did) =
      let rest : StmtsPass (env_of p.program t.top.function) names (x ∷ xs) = subst (StmtsPass (env_of p.program t.top.function) names) e u.top.rest in
      record {
        world = acted_typed p.program t.top.function (setting_of p) (scope_of t.top) t.world refl h.world (ap (list_all (in_scalar I64)) h.input_same ∙ numbers) names x w rest.0 did;
        below = h.below;
        input_same = acted_input t.world w (acts_is (setting_of p) (scope_of t.top) x t.world w did) ∙ h.input_same;
      }
  typed_did t u h _ (calls x xs c g b bs e n f y) =
      let rest : StmtsPass (env_of p.program t.top.function) names (x ∷ xs) = subst (StmtsPass (env_of p.program t.top.function) names) e u.top.rest in
      let called = called_typed t c g h (call_passes (env_of p.program t.top.function) p.program.functions (scope_of t.top) t.world.registers x c g n rest.0 f) in
      record {
        world = record { registers = called.0; slots = locals_typed p.program.structs t.next 0 g.locals t.world.memory h.world.slots };
        below = (h.world.registers, called.1, h.below);
        input_same = h.input_same;
      }
  typed_did t u h _ (jumps label k b e x f) = record { world = record { registers = h.world.registers; slots = h.world.slots }; below = h.below; input_same = h.input_same }
  typed_did t u h _ (leaves v f fs e x y) =
      let rest : FramesLinked t.top.takes t.top.function.result (f ∷ fs) = subst (FramesLinked t.top.takes t.top.function.result) y h.below in
      record {
        world = record {
          registers = given_typed (registers_of f.control.function) f.registers t.top.takes t.top.function.result v rest.0 rest.1 (end_result p.program t.top.function p.program.globals t refl h.world.registers t.top.end v u.top.end x);
          slots = returned_typed t.top.serial t.world.memory h.world.slots;
        };
        below = rest.2;
        input_same = h.input_same;
      }
  typed_did t u h _ (stops o z) = tt
  typed_did t u h _ (traps o z) = tt

  abbrev TypedFirst : Option State → Type 0
  TypedFirst None = Unit {0}
  TypedFirst (Some t) = Typed input t

  begun_typed : (f : Function) (bs : List Block) → slots_typed (first_memory p.program).slots ≡ true → TypedFirst (begun p.program input f bs)
  begun_typed f [] m = tt
  begun_typed f (b ∷ bs) m = record {
    world = record {
      registers = typed_append f.params f.registers (values_made f.params [] 0) (values_made f.registers [] 0) (made_zero f.params 0) (made_zero f.registers 0);
      slots = locals_typed p.program.structs 0 0 f.locals (first_memory p.program) m;
    };
    below = tt;
    input_same = refl;
  }

  start_typed : (o : Option Function) → slots_typed (first_memory p.program).slots ≡ true → TypedFirst (begun_by p.program input o)
  start_typed None m = tt
  start_typed (Some f) m = begun_typed f f.blocks m

frames_typed : (to : Option ℕ) (result : Option Scalar) (fs : List Frame) → FramesLinked to result fs → AllByRecursion (λ (f : Frame). frame_typed f.control f.registers ≡ true) fs
frames_typed to result [] h = tt
frames_typed to result (f ∷ fs) h = (h.0, frames_typed f.control.takes f.control.function.result fs h.2)

pub values_are_typed : ValuesAreTyped
values_are_typed p accepted input numbers past t c =
    let h : Typed input t = holds_with p input (λ past u. Typed input u)
    (λ u e. subst (TypedFirst p input numbers) e (start_typed p input numbers (function_named main_name p.program.functions) (first_typed p.program accepted)))
    (λ past u comes h. typed_did p input numbers u (stands p accepted input past u comes) h (step p u) (step_is p u)) past t c in
    record { top = h.world.registers; below = frames_typed t.top.takes t.top.function.result t.below h.below; memory = h.world.slots }
