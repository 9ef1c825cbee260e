-- What a statement and an end do, by positions: two functions whose names differ do the same.
use Rattle.std.proofs.Common.{◌≡◌, ℕ, suc, ◌+◌, ◌==◌, ℤ, pos, Bool, true, false, not, cond, if◌then◌else◌, arith, List, [], ◌∷◌, ◌++◌, map, length, refl, sym, ◌∙◌, ap, Option, Some, None, Result, Ok, Err, slice_get, nat_lt}
use Rattle.std.specs.Option.{unwrap_or, option_map}
use Rattle.std.specs.List.{find, position, position_or_len}
use Rattle.std.specs.Str.{bytes_eq}
use Rattle.std.proofs.lemmas.Bool.{ltb-false}
use Rattle.std.proofs.lemmas.Option.{slice_get_past, slice_get-map}
use Rattle.std.proofs.lemmas.List.Folds.{find_at}
use Rattle.gimple_ir.specs.declared.scalar.Scalar.{Scalar}
use Rattle.gimple_ir.specs.declared.scalar.Scalar.TheVariants.{Ptr}
use Rattle.gimple_ir.specs.declared.scalar.Cmp.TheVariants.{Eq}
use Rattle.gimple_ir.specs.declared.operand.Operand.{Operand}
use Rattle.gimple_ir.specs.declared.operand.Operand.TheVariants.{Reg, Number, Null, Address}
use Rattle.gimple_ir.specs.declared.operand.Base.{Base}
use Rattle.gimple_ir.specs.declared.operand.Base.TheVariants.{Reg as RegBase, Variable}
use Rattle.gimple_ir.specs.declared.statement.Signature.{Signature}
use Rattle.gimple_ir.specs.declared.statement.Stmt.{Stmt}
use Rattle.gimple_ir.specs.declared.statement.Stmt.TheVariants.{Copy, Arith, Compare, Convert, Load, Store, Call, Indirect, Get, Put, Abort}
use Rattle.gimple_ir.specs.declared.block.Case.{Case}
use Rattle.gimple_ir.specs.declared.block.End.{End}
use Rattle.gimple_ir.specs.declared.block.End.TheVariants.{Goto, If, Switch, Return}
use Rattle.gimple_ir.specs.declared.block.Block.{Block}
use Rattle.gimple_ir.specs.declared.declarations.Decl.{Decl}
use Rattle.gimple_ir.specs.declared.declarations.Global.{Global}
use Rattle.gimple_ir.specs.declared.declarations.Register.{Register}
use Rattle.gimple_ir.specs.declared.declarations.StructDef.{StructDef}
use Rattle.gimple_ir.specs.declared.program.Function.{Function}
use Rattle.gimple_ir.specs.declared.value.Object.TheVariants.{Local as LocalObject}
use Rattle.gimple_ir.specs.declared.value.Value.{Value}
use Rattle.gimple_ir.specs.declared.value.Value.TheVariants as value
use Rattle.gimple_ir.specs.declared.value.TrapKind.{TrapKind}
use Rattle.gimple_ir.specs.declared.value.TrapKind.TheVariants.{Abort as AbortTrap}
use Rattle.gimple_ir.specs.declared.value.Layout.{Layout}
use Rattle.gimple_core.specs.declared.machine.FoundSlot.{FoundSlot}
use Rattle.gimple_core.specs.Layout.{layout_of}
use Rattle.gimple_core.specs.Memory.{Memory, moved_by, found_at}
use Rattle.gimple_core.specs.Operators.{cmp_of}
use Rattle.gimple_core.specs.Sealed.{Sealed}
use Rattle.gimple_core.specs.State.{World, State, Scope, Setting, setting_of, registers_of, register_place, value_at, value_in, scalar_or_pointer, scalar_in, put_at, offset_in, zero_of}
use Rattle.gimple_core.specs.Run.{local_address, address_of_global, address_of, value_of, base_value, values_of, arith_of, one_if, compares, converted, stored, put, any_number, with_object, with_locals, values_made, registers_made, Did, Reached, Reaches, act, acted, perform, function_named, called_by_name, called_through, enter, block_from, labelled, jumped, jump, case_target, case_for, returned, finish, taking, got}
use Rattle.icf_classes.specs.Placed as placed

-- ---- items by their places

abbrev pub item_at : {X : Type 0} → List X → Option ℕ → Option X
item_at xs None = None
item_at xs (Some k) = slice_get xs k

-- what is found stands at its place
found_place : {X : Type 0} (test : X → Bool) (xs : List X) → find test xs ≡ item_at xs (position test xs)
found_place {X} test xs = find_at test xs ∙ by (nat_lt (position_or_len test xs) (length xs)) refl
  where
    by : (b : Bool) → nat_lt (position_or_len test xs) (length xs) ≡ b → slice_get xs (position_or_len test xs) ≡ item_at xs (cond b (Some (position_or_len test xs)) None)
    by true e = refl
    by false e = slice_get_past xs (position_or_len test xs) (ltb-false (position_or_len test xs) (length xs) e)

-- ---- values

abbrev pub scalar_at : List Scalar → placed.Spot → Scalar
scalar_at scalars None = Ptr
scalar_at scalars (Some k) = unwrap_or (slice_get scalars k) Ptr

scalar_found : (o : Option Register) → scalar_or_pointer o ≡ unwrap_or (option_map placed.scalar_of o) Ptr
scalar_found None = refl
scalar_found (Some r) = refl

scalar_there : (rs : List Register) (o : Option ℕ) → scalar_or_pointer (item_at rs o) ≡ scalar_at (map placed.scalar_of rs) o
scalar_there rs None = refl
scalar_there rs (Some k) = scalar_found (slice_get rs k) ∙ ap (λ o. unwrap_or o Ptr) (sym (slice_get-map placed.scalar_of rs k))

abbrev pub seen_value : List Global → ℕ → placed.Seen → Value
seen_value globals serial (placed.Own k) = value.At (LocalObject serial k) (pos 0)
seen_value globals serial (placed.Outer name) = address_of_global globals name

abbrev pub operand_value : List Global → ℕ → List Value → placed.PlacedOperand → Value
operand_value globals serial vs (placed.Reg spot) = value_at vs spot
operand_value globals serial vs (placed.Number z) = value.Int z
operand_value globals serial vs placed.Null = value.Null
operand_value globals serial vs (placed.Address seen offset) = moved_by (seen_value globals serial seen) (offset_in offset)

abbrev pub base_at : List Global → ℕ → List Value → placed.PlacedBase → Value
base_at globals serial vs (placed.RegBase spot) = value_at vs spot
base_at globals serial vs (placed.Variable seen) = seen_value globals serial seen

abbrev pub operand_values : List Global → ℕ → List Value → List placed.PlacedOperand → List Value
operand_values globals serial vs xs = map (operand_value globals serial vs) xs

-- where a call of a function runs
abbrev pub scope_in : Function → ℕ → Scope
scope_in f serial = record { declared = registers_of f; locals = f.locals; serial = serial }

scalar_is : (f : Function) (serial : ℕ) (name : List ℕ) → scalar_in (scope_in f serial) name ≡ scalar_at (map placed.scalar_of (registers_of f)) (placed.spot_in f name)
unfolding scalar_in register_place
scalar_is f serial name =
    ap scalar_or_pointer (found_place (λ (r : Register). bytes_eq r.name name) (registers_of f)) ∙ scalar_there (registers_of f) (position (λ (r : Register). bytes_eq r.name name) (registers_of f))

seen_is : (globals : List Global) (serial : ℕ) (name : List ℕ) (o : Option ℕ) → local_address serial o (address_of_global globals name) ≡ seen_value globals serial (placed.seen_by name o)
seen_is globals serial name None = refl
seen_is globals serial name (Some k) = refl

address_is : (globals : List Global) (f : Function) (serial : ℕ) (name : List ℕ) → address_of globals (scope_in f serial) name ≡ seen_value globals serial (placed.seen_in f name)
unfolding address_of
address_is globals f serial name = seen_is globals serial name (position (λ (d : Decl). bytes_eq d.name name) f.locals)

value_is : (globals : List Global) (f : Function) (serial : ℕ) (vs : List Value) (x : Operand) → value_of globals (scope_in f serial) vs x ≡ operand_value globals serial vs (placed.placed_operand f x)
unfolding value_in
value_is globals f serial vs (Reg name) = refl
value_is globals f serial vs (Number z) = refl
value_is globals f serial vs Null = refl
value_is globals f serial vs (Address name offset) = ap (λ v. moved_by v (offset_in offset)) (address_is globals f serial name)

values_are : (globals : List Global) (f : Function) (serial : ℕ) (vs : List Value) (xs : List Operand) → values_of globals (scope_in f serial) vs xs ≡ operand_values globals serial vs (placed.placed_operands f xs)
values_are globals f serial vs [] = refl
values_are globals f serial vs (x ∷ xs) = λ i. value_is globals f serial vs x i ∷ values_are globals f serial vs xs i

base_is : (globals : List Global) (f : Function) (serial : ℕ) (vs : List Value) (b : Base) → base_value globals (scope_in f serial) vs b ≡ base_at globals serial vs (placed.placed_base f b)
unfolding value_in
base_is globals f serial vs (RegBase name) = refl
base_is globals f serial vs (Variable name) = address_is globals f serial name

-- ---- statements

abbrev pub put_in : World → placed.Spot → Value → World
put_in d spot v = record d { registers = put_at d.registers spot v }

abbrev pub result_in : World → placed.Spot → Result Value TrapKind → Result World TrapKind
result_in d spot (Ok v) = Ok (put_in d spot v)
result_in d spot (Err kind) = Err kind

abbrev pub loaded_in : World → placed.Spot → Result FoundSlot TrapKind → Result World TrapKind
loaded_in d spot (Err kind) = Err kind
loaded_in d spot (Ok f) = Ok (put_in d spot f.value)

abbrev pub got_in : World → placed.Spot → Option ℤ → World
got_in d spot None = put_in d spot (value.Int (pos 0))
got_in d spot (Some z) = record (put_in d spot (value.Int z)) { taken = d.taken + 1 }

abbrev pub taken_by : Option placed.Spot → Option ℕ
taken_by None = None
taken_by (Some spot) = spot

-- what a statement says: what it changes, or a call with the position that takes its result, and its arguments
pub data Meant : Type 0 where
  Acts : Result World TrapKind → Meant
  Calls : Option ℕ → List Value → Meant
  CallsThrough : Option ℕ → List Value → Signature → Value → Meant

unfoldable pub meant : Setting → List Scalar → ℕ → placed.PlacedStmt → World → Meant
meant e scalars serial (placed.Copy to from) d = Acts (Ok (put_in d to (operand_value e.globals serial d.registers from)))
meant e scalars serial (placed.Arith to left op right) d =
    Acts (result_in d to (arith_of e.mode (scalar_at scalars to) (operand_value e.globals serial d.registers left) op (operand_value e.globals serial d.registers right)))
meant e scalars serial (placed.Compare to left cmp right) d =
    Acts (Ok (put_in d to (one_if (compares (operand_value e.globals serial d.registers left) cmp (operand_value e.globals serial d.registers right)))))
meant e scalars serial (placed.Convert to scalar from) d = Acts (Ok (put_in d to (converted scalar (operand_value e.globals serial d.registers from))))
meant e scalars serial (placed.Load to scalar base offset) d = Acts (loaded_in d to (found_at d.memory (moved_by (base_at e.globals serial d.registers base) (offset_in offset)) scalar))
meant e scalars serial (placed.Store scalar base offset from) d =
    Acts (stored d scalar (operand_value e.globals serial d.registers from) (found_at d.memory (moved_by (base_at e.globals serial d.registers base) (offset_in offset)) scalar))
meant e scalars serial (placed.Call to arguments) d = Calls (taken_by to) (operand_values e.globals serial d.registers arguments)
meant e scalars serial (placed.Indirect to signature callee arguments) d = CallsThrough (taken_by to) (operand_values e.globals serial d.registers arguments) signature (value_at d.registers callee)
meant e scalars serial (placed.Get to) d = Acts (Ok (got_in d to (slice_get d.input d.taken)))
meant e scalars serial (placed.Put from) d = Acts (Ok (put d (operand_value e.globals serial d.registers from)))
meant e scalars serial placed.Abort d = Acts (Err AbortTrap)

-- the function that a statement calls by name
abbrev pub named_callee : Stmt → Option (List ℕ)
named_callee (Call to callee arguments) = Some callee
named_callee x = None

abbrev pub called_as : List Function → Option (List ℕ) → Result Function TrapKind
called_as fs None = Err AbortTrap
called_as fs (Some name) = called_by_name (function_named name fs)

abbrev pub done : Sealed → Option (List ℕ) → Meant → State → Did
done p callee (Acts r) s = acted s r
done p callee (Calls takes vs) s = Reaches (enter p.program.structs s takes vs (called_as p.program.functions callee))
done p callee (CallsThrough takes vs signature v) s = Reaches (enter p.program.structs s takes vs (called_through p.program.functions signature v))

taking_is : (f : Function) (serial : ℕ) (to : Option (List ℕ)) → taking (scope_in f serial) to ≡ taken_by (placed.placed_target f to)
taking_is f serial None = refl
taking_is f serial (Some name) = refl

module _ (p : Sealed) (s : State) where
  abbrev f : Function
  f = s.top.function

  abbrev gs : List Global
  gs = p.program.globals

  abbrev held : List Value
  held = s.world.registers

  -- a statement does what its placed form says
  pub does_as_placed : (x : Stmt) → perform p x s ≡ done p (named_callee x) (meant (setting_of p) (map placed.scalar_of (registers_of s.top.function)) s.top.serial (placed.placed_stmt s.top.function x) s.world) s
  unfolding act meant placed.placed_stmt value_in
  does_as_placed (Copy to from) = λ i. acted s (Ok (put_in s.world (placed.spot_in f to) (value_is gs f s.top.serial held from i)))
  does_as_placed (Arith to left op right) =
      λ i. acted s (result_in s.world (placed.spot_in f to) (arith_of p.mode (scalar_is f s.top.serial to i) (value_is gs f s.top.serial held left i) op (value_is gs f s.top.serial held right i)))
  does_as_placed (Compare to left cmp right) =
      λ i. acted s (Ok (put_in s.world (placed.spot_in f to) (one_if (compares (value_is gs f s.top.serial held left i) cmp (value_is gs f s.top.serial held right i)))))
  does_as_placed (Convert to scalar from) = λ i. acted s (Ok (put_in s.world (placed.spot_in f to) (converted scalar (value_is gs f s.top.serial held from i))))
  does_as_placed (Load to scalar place) = λ i. acted s (loaded_in s.world (placed.spot_in f to) (found_at s.world.memory (moved_by (base_is gs f s.top.serial held place.base i) (offset_in place.offset)) scalar))
  does_as_placed (Store scalar place from) =
      λ i. acted s (stored s.world scalar (value_is gs f s.top.serial held from i) (found_at s.world.memory (moved_by (base_is gs f s.top.serial held place.base i) (offset_in place.offset)) scalar))
  does_as_placed (Call to callee arguments) =
      λ i. Reaches (enter p.program.structs s (taking_is f s.top.serial to i) (values_are gs f s.top.serial held arguments i) (called_by_name (function_named callee p.program.functions)))
  does_as_placed (Indirect to signature callee arguments) =
      λ i. Reaches (enter p.program.structs s (taking_is f s.top.serial to i) (values_are gs f s.top.serial held arguments i) (called_through p.program.functions signature (value_at held (placed.spot_in f callee))))
  does_as_placed (Get to) = ap (λ (d : World). acted s (Ok d)) (got_is (slice_get s.world.input s.world.taken))
    where
      got_is : (o : Option ℤ) → got (scope_in f s.top.serial) s.world to o ≡ got_in s.world (placed.spot_in f to) o
      got_is None = refl
      got_is (Some z) = refl
  does_as_placed (Put from) = λ i. acted s (Ok (put s.world (value_is gs f s.top.serial held from i)))
  does_as_placed Abort = refl

-- ---- blocks

abbrev pub numbered : ℕ → Option Block → Option (ℕ × Block)
numbered k None = None
numbered k (Some b) = Some (k, b)

abbrev pub block_at : List Block → placed.Spot → Option (ℕ × Block)
block_at bs None = None
block_at bs (Some k) = numbered k (slice_get bs k)

labelled_from : (label k : ℕ) (bs : List Block) → block_from label k bs ≡ numbered (k + position_or_len (λ (b : Block). b.label == label) bs) (slice_get bs (position_or_len (λ (b : Block). b.label == label) bs))
unfolding block_from
labelled_from label k [] = refl
labelled_from label k (b ∷ bs) = by (b.label == label) (labelled_from label (k + 1) bs)
  where
    n : ℕ
    n = position_or_len (λ (c : Block). c.label == label) bs

    by : (t : Bool) → block_from label (k + 1) bs ≡ numbered (k + 1 + position_or_len (λ (c : Block). c.label == label) bs) (slice_get bs (position_or_len (λ (c : Block). c.label == label) bs)) →
        (if t then Some (k, b) else block_from label (k + 1) bs) ≡ numbered (k + cond (not t) (1 + position_or_len (λ (c : Block). c.label == label) bs) 0) (slice_get (b ∷ bs) (cond (not t) (1 + position_or_len (λ (c : Block). c.label == label) bs) 0))
    by true more = let e : k ≡ k + 0 = omega arith in λ i. Some (e i, b)
    by false more = more ∙ onward (position_or_len (λ (c : Block). c.label == label) bs)
      where
        onward : (m : ℕ) → numbered (k + 1 + m) (slice_get bs m) ≡ numbered (k + (1 + m)) (slice_get (b ∷ bs) (1 + m))
        onward m = let e : 1 + m ≡ suc m = omega arith in let a : k + 1 + m ≡ k + (1 + m) = omega arith in λ i. numbered (a i) (slice_get (b ∷ bs) (sym e i))

-- the first block of a label stands at its place
labelled_is : (label : ℕ) (bs : List Block) → labelled label bs ≡ block_at bs (position (λ (b : Block). b.label == label) bs)
labelled_is label bs = labelled_from label 0 bs ∙ by (nat_lt (position_or_len (λ (b : Block). b.label == label) bs) (length bs)) refl
  where
    by : (t : Bool) → nat_lt (position_or_len (λ (b : Block). b.label == label) bs) (length bs) ≡ t →
        numbered (0 + position_or_len (λ (b : Block). b.label == label) bs) (slice_get bs (position_or_len (λ (b : Block). b.label == label) bs)) ≡ block_at bs (cond t (Some (position_or_len (λ (b : Block). b.label == label) bs)) None)
    by true e = let z : 0 + position_or_len (λ (b : Block). b.label == label) bs ≡ position_or_len (λ (b : Block). b.label == label) bs = omega arith in λ i. numbered (z i) (slice_get bs (position_or_len (λ (b : Block). b.label == label) bs))
    by false e = ap (numbered (0 + position_or_len (λ (b : Block). b.label == label) bs)) (slice_get_past bs (position_or_len (λ (b : Block). b.label == label) bs) (ltb-false (position_or_len (λ (b : Block). b.label == label) bs) (length bs) e))

-- ---- ends

-- where an end leads: to the block at a place, or to a return of this value
pub data Leads : Type 0 where
  To : placed.Spot → Leads
  Gives : Option Value → Leads

abbrev pub spot_or : Option placed.PlacedCase → placed.Spot → placed.Spot
spot_or None other = other
spot_or (Some c) other = c.target

abbrev pub spot_for : ℤ → List placed.PlacedCase → placed.Spot → placed.Spot
spot_for z cases other = spot_or (find (λ c. cmp_of Eq z c.value) cases) other

unfoldable pub leads : List Global → ℕ → List Value → placed.PlacedEnd → Leads
leads globals serial vs (placed.Goto spot) = To spot
leads globals serial vs (placed.If left cmp right hit miss) = To (if compares (operand_value globals serial vs left) cmp (operand_value globals serial vs right) then hit else miss)
leads globals serial vs (placed.Switch on cases other) = To (spot_for (any_number (operand_value globals serial vs on)) cases other)
leads globals serial vs (placed.Return None) = Gives None
leads globals serial vs (placed.Return (Some x)) = Gives (Some (operand_value globals serial vs x))

abbrev pub left_by : Leads → State → Reached
left_by (To spot) s = jumped s (block_at s.top.function.blocks spot)
left_by (Gives v) s = returned s v s.below

spot_is : (f : Function) (z : ℤ) (cases : List Case) (other : ℕ) → placed.label_in f (case_for z cases other) ≡ spot_for z (map (placed.placed_case f) cases) (placed.label_in f other)
spot_is f z [] other = refl
spot_is f z (c ∷ cs) other = by (cmp_of Eq z c.value) (spot_is f z cs other)
  where
    by : (t : Bool) → placed.label_in f (case_for z cs other) ≡ spot_for z (map (placed.placed_case f) cs) (placed.label_in f other) →
        placed.label_in f (case_target (if t then Some c else find (λ c. cmp_of Eq z c.value) cs) other) ≡ spot_or (if t then Some (placed.placed_case f c) else find (λ c. cmp_of Eq z c.value) (map (placed.placed_case f) cs)) (placed.label_in f other)
    by true more = refl
    by false more = more

module _ (globals : List Global) (s : State) where
  abbrev here : Function
  here = s.top.function

  jumps : (label : ℕ) → jump s label ≡ jumped s (block_at s.top.function.blocks (placed.label_in s.top.function label))
  jumps label = ap (jumped s) (labelled_is label s.top.function.blocks)

  chosen : (t : Bool) (hit miss : ℕ) → jump s (if t then hit else miss) ≡ jumped s (block_at s.top.function.blocks (if t then placed.label_in s.top.function hit else placed.label_in s.top.function miss))
  chosen true hit miss = jumps hit
  chosen false hit miss = jumps miss

  -- an end leads where its placed form says
  pub ends_as_placed : (e : End) → finish globals e s ≡ left_by (leads globals s.top.serial s.world.registers (placed.placed_end s.top.function e)) s
  unfolding leads placed.placed_end
  ends_as_placed (Goto to) = jumps to
  ends_as_placed (If left cmp right hit miss) =
      chosen (compares (value_of globals (scope_in here s.top.serial) s.world.registers left) cmp (value_of globals (scope_in here s.top.serial) s.world.registers right)) hit miss
      ∙ (λ i. jumped s (block_at here.blocks (if compares (value_is globals here s.top.serial s.world.registers left i) cmp (value_is globals here s.top.serial s.world.registers right i) then placed.label_in here hit else placed.label_in here miss)))
  ends_as_placed (Switch on cases other) =
      jumps (case_for (any_number (value_of globals (scope_in here s.top.serial) s.world.registers on)) cases other)
      ∙ ((λ i. jumped s (block_at here.blocks (spot_is here (any_number (value_of globals (scope_in here s.top.serial) s.world.registers on)) cases other i)))
      ∙ (λ i. jumped s (block_at here.blocks (spot_for (any_number (value_is globals here s.top.serial s.world.registers on i)) (map (placed.placed_case here) cases) (placed.label_in here other)))))
  ends_as_placed (Return None) = refl
  ends_as_placed (Return (Some x)) = λ i. returned s (Some (value_is globals here s.top.serial s.world.registers x i)) s.below

-- ---- where a call begins

abbrev pub made_by : List Scalar → List Value → ℕ → List Value
made_by [] vs k = []
made_by (x ∷ xs) vs k = unwrap_or (slice_get vs k) (zero_of x) ∷ made_by xs vs (k + 1)

made_is : (rs : List Register) (vs : List Value) (k : ℕ) → values_made rs vs k ≡ made_by (map placed.scalar_of rs) vs k
unfolding values_made
made_is [] vs k = refl
made_is (r ∷ rs) vs k = ap (λ ws. unwrap_or (slice_get vs k) (zero_of r.scalar) ∷ ws) (made_is rs vs (k + 1))

pub registers_as_placed : (f : Function) (vs : List Value) → registers_made f vs ≡ made_by (map placed.scalar_of f.params) vs 0 ++ made_by (map placed.scalar_of f.registers) [] 0
registers_as_placed f vs = λ i. made_is f.params vs 0 i ++ made_is f.registers [] 0 i

abbrev pub local_layout : List StructDef → placed.PlacedLocal → Layout
local_layout structs d = layout_of structs (record { name = []; shape = d.shape; length = d.length })

abbrev pub with_placed : List StructDef → ℕ → ℕ → List placed.PlacedLocal → Memory → Memory
with_placed structs serial k [] m = m
with_placed structs serial k (d ∷ ds) m = with_placed structs serial (k + 1) ds (with_object m (LocalObject serial k) (local_layout structs d) false [])

layout_is : (structs : List StructDef) (d : Decl) → layout_of structs d ≡ local_layout structs (placed.placed_local d)
unfolding layout_of
layout_is structs d = refl

pub locals_as_placed : (structs : List StructDef) (serial k : ℕ) (ds : List Decl) (m : Memory) → with_locals structs serial k ds m ≡ with_placed structs serial k (map placed.placed_local ds) m
unfolding with_locals
locals_as_placed structs serial k [] m = refl
locals_as_placed structs serial k (d ∷ ds) m =
    locals_as_placed structs serial (k + 1) ds (with_object m (LocalObject serial k) (layout_of structs d) false [])
    ∙ (λ i. with_placed structs serial (k + 1) (map placed.placed_local ds) (with_object m (LocalObject serial k) (layout_is structs d i) false []))
