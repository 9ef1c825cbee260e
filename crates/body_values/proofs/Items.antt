-- What a read-only variable holds is in the value of its item.
use Rattle.std.proofs.Common.{◌≡◌, ℕ, zero, suc, ◌+◌, ◌<◌, nat_lt, ℤ, pos, negsuc, Bool, true, false, cond, not, ◌&&◌, if◌then◌else◌, List, [], ◌∷◌, map, filter, length, refl, sym, ◌∙◌, ap, subst, Option, Some, None, IfSome, Result, Ok, Err, slice_get, unwrap_or, rules, arith}
use Rattle.std.specs.List.{find, position_or_len}
use Rattle.std.proofs.lemmas.List.Folds.{find_at}
use Rattle.std.proofs.lemmas.Bool.{eq-eqb}
use Rattle.std.proofs.lemmas.Option.{slice_get_within}
use Rattle.gimple_ir.specs.declared.scalar.Scalar.{Scalar}
use Rattle.gimple_ir.specs.declared.scalar.Scalar.TheVariants.{I8, I16, I32, I64, U8, U16, U32, U64, Ptr}
use Rattle.gimple_ir.specs.declared.value.Value.{Value}
use Rattle.gimple_ir.specs.declared.value.Value.TheVariants.{At}
use Rattle.gimple_ir.specs.declared.value.Object.{Object}
use Rattle.gimple_ir.specs.declared.value.Object.TheVariants.{Global as GlobalObject}
use Rattle.gimple_ir.specs.declared.value.TrapKind.{TrapKind}
use Rattle.gimple_ir.specs.declared.value.TrapKind.TheVariants.{Bounds}
use Rattle.gimple_ir.specs.declared.value.LayoutSlot.{LayoutSlot}
use Rattle.gimple_ir.specs.declared.value.Constant.{Constant}
use Rattle.gimple_ir.specs.declared.value.Constant.TheVariants.{Int, Null as NullConstant, Global as GlobalConstant}
use Rattle.gimple_ir.specs.declared.operand.Operand.{Operand}
use Rattle.gimple_ir.specs.declared.operand.Operand.TheVariants.{Reg, Number as NumberOperand, Null, Address}
use Rattle.gimple_ir.specs.declared.operand.Base.{Base}
use Rattle.gimple_ir.specs.declared.operand.Base.TheVariants.{Reg as RegBase, Variable}
use Rattle.gimple_ir.specs.declared.operand.Place.{Place}
use Rattle.gimple_ir.specs.declared.declarations.Global.{Global}
use Rattle.gimple_ir.specs.declared.program.Function.{Function}
use Rattle.gimple_core.specs.Sealed.{Sealed}
use Rattle.gimple_core.specs.declared.machine.MemorySlot.{MemorySlot}
use Rattle.gimple_core.specs.declared.machine.Extent.{Extent}
use Rattle.gimple_core.specs.declared.machine.FoundSlot.{FoundSlot}
use Rattle.std.specs.Str.{bytes_eq}
use Rattle.gimple_core.specs.Layout.{layout_of}
use Rattle.gimple_core.specs.Operators.{in_scalar}
use Rattle.gimple_core.specs.Memory.{Memory, same_object, moved_by, is_slot, found_slot, found_offset, found_extent, found_at}
use Rattle.gimple_core.specs.State.{Scope, registers_of, zero_of, number_in, offset_in, is_of}
use Rattle.gimple_core.specs.Run.{filled, item_value as run_item, place_value, base_value, address_of, address_of_global, global_address}
use Rattle.gimple_core.specs.Verdict.{demand, found}
use Rattle.gimple_core.specs.Env.{variable}
use Rattle.gimple_core.specs.Statements as s
use Rattle.gimple_core.proofs.Passed.{first_passed, demanded}
use Rattle.gimple_core.proofs.ScalarLemmas.{same_scalar_true}
use Rattle.gimple_claims.specs.Laws.{HoldsGlobal, slots_of}
use Rattle.gimple_claims.specs.Checks.{env_of}
use Rattle.value_domain.specs.declared.abs_val.AbsVal.{AbsVal}
use Rattle.gimple_core.specs.Statements.{is_pointer}
use Rattle.value_domain.specs.Thresholds.{IsLawful}
use Rattle.value_domain.specs.Holding.{Holds, constant_of}
use Rattle.value_domain.proofs.AloneLaws.{alone_holds}
use Rattle.body_values.specs.declared.facts.Facts.{Facts}
use Rattle.body_values.specs.Bodies.{Body, is_local, global_place, address_constant, item_constant, constant_value, slot_place, slot_value, constant_slot, item_value}
use Rattle.body_values.specs.Flow.{body_of}
use Rattle.body_values.proofs.Held.{place_found}
use Rattle.body_values.proofs.Operands.{from_begin, local_free}

-- ---- what an access finds

pub record Slotted (slots : List MemorySlot) (object : Object) (z : ℤ) (scalar : Scalar) (x : FoundSlot) : Type 0 where
  pub offset : ℕ
  pub slot : MemorySlot
  pub is : z ≡ pos offset
  pub there : find (is_slot object offset scalar) slots ≡ Some slot
  pub value : slot.value ≡ x.value

slot_by : (object : Object) (m : ℕ) (c : Bool) (x : FoundSlot) (o : Option MemorySlot) → found_slot object m c o ≡ Ok x → (y : MemorySlot) × (o ≡ Some y) × (y.value ≡ x.value)
slot_by object m c x None e = cc
slot_by object m c x (Some y) e = let same : record { object = object; offset = m; value = y.value; constant = c } ≡ x = cc in (y, refl, ap (λ (z : FoundSlot). z.value) same)

bound_by : (b : Bool) (r : Result FoundSlot TrapKind) (x : FoundSlot) → (if b then r else Err Bounds) ≡ Ok x → r ≡ Ok x
bound_by true r x e = e
bound_by false r x e = cc

offset_by : (slots : List MemorySlot) (object : Object) (z : ℤ) (scalar : Scalar) (y : Extent) (x : FoundSlot) → found_offset slots object z scalar y ≡ Ok x → Slotted slots object z scalar x
offset_by slots object (pos m) scalar y x e =
    let f = slot_by object m y.constant x (find (is_slot object m scalar) slots) (bound_by (nat_lt m y.size) _ x e) in
    record { offset = m; slot = f.0; is = refl; there = f.1; value = f.2 }
offset_by slots object (negsuc m) scalar y x e = cc

extent_by : (slots : List MemorySlot) (object : Object) (z : ℤ) (scalar : Scalar) (o : Option Extent) (x : FoundSlot) → found_extent slots object z scalar o ≡ Ok x → Slotted slots object z scalar x
extent_by slots object z scalar None x e = cc
extent_by slots object z scalar (Some y) x e = offset_by slots object z scalar y x e

slotted : (m : Memory) (object : Object) (z : ℤ) (scalar : Scalar) (x : FoundSlot) → found_at m (At object z) scalar ≡ Ok x → Slotted m.slots object z scalar x
unfolding found_at
slotted m object z scalar x e = extent_by m.slots object z scalar _ x e

-- ---- among the slots of one variable

find_kept : (test keep : MemorySlot → Bool) → ((x : MemorySlot) → test x ≡ true → keep x ≡ true) → (xs : List MemorySlot) → find test (filter keep xs) ≡ find test xs
find_kept test keep h [] = refl
find_kept test keep h (x ∷ xs) = by (keep x) (test x) refl refl (find_kept test keep h xs)
  where
    by : (k t : Bool) → keep x ≡ k → test x ≡ t → find test (filter keep xs) ≡ find test xs → find test (if k then x ∷ filter keep xs else filter keep xs) ≡ cond t (Some x) (find test xs)
    by true t e f more = λ i. cond (f i) (Some x) (more i)
    by false true e f more = absurd (let g : keep x ≡ true = h x f in cc)
    by false false e f more = more

first_true : (a b c : Bool) → a && b && c ≡ true → a ≡ true
first_true true b c e = refl
first_true false b c e = cc

passed : (a b c : Bool) → a ≡ true → (a && b && c) ≡ (b && c)
passed true b c e = refl
passed false b c e = cc

same_self : (k : ℕ) → same_object (GlobalObject k) (GlobalObject k) ≡ true
same_self k = eq-eqb k k refl

both_true : (a b : Bool) → (a && b) ≡ true → b ≡ true
both_true true b e = e
both_true false b e = cc

abbrev item_or : List Value → ℕ → Scalar → Value
item_or vs n scalar = unwrap_or (slice_get vs n) (zero_of scalar)

onward : {X : Type 0} (x : X) (xs : List X) (n : ℕ) → slice_get (x ∷ xs) (1 + n) ≡ slice_get xs n
onward x xs n = let e : 1 + n ≡ suc n = omega arith in ap (slice_get (x ∷ xs)) e

find_filled : (k m : ℕ) (scalar : Scalar) (ls : List LayoutSlot) (vs : List Value) (y : MemorySlot) → find (is_slot (GlobalObject k) m scalar) (filled (GlobalObject k) ls vs) ≡ Some y → y.value ≡ item_or vs (position_or_len (s.is_slot_at (pos m) scalar) ls) scalar
find_filled k m scalar [] vs y e = cc
find_filled k m scalar (l ∷ ls) [] y e = by (s.is_slot_at (pos m) scalar l) refl (find_filled k m scalar ls [] y) (subst (λ b. cond b (Some made) (find (is_slot (GlobalObject k) m scalar) (filled (GlobalObject k) ls [])) ≡ Some y) (passed _ _ _ (same_self k)) e)
  where
    made : MemorySlot
    made = record { object = GlobalObject k; offset = l.offset; scalar = l.scalar; value = zero_of l.scalar }

    by : (b : Bool) → s.is_slot_at (pos m) scalar l ≡ b → (find (is_slot (GlobalObject k) m scalar) (filled (GlobalObject k) ls []) ≡ Some y → y.value ≡ item_or [] (position_or_len (s.is_slot_at (pos m) scalar) ls) scalar) →
        cond b (Some (record { object = GlobalObject k; offset = l.offset; scalar = l.scalar; value = zero_of l.scalar })) (find (is_slot (GlobalObject k) m scalar) (filled (GlobalObject k) ls [])) ≡ Some y → y.value ≡ zero_of scalar
    by true t more f =
        let same : record { object = GlobalObject k; offset = l.offset; scalar = l.scalar; value = zero_of l.scalar } ≡ y = cc in
        ap (λ (z : MemorySlot). z.value) (sym same) ∙ ap zero_of (same_scalar_true l.scalar scalar (both_true _ _ t))
    by false t more f = more f
find_filled k m scalar (l ∷ ls) (v ∷ vs) y e = by (s.is_slot_at (pos m) scalar l) (find_filled k m scalar ls vs y) (subst (λ b. cond b (Some made) (find (is_slot (GlobalObject k) m scalar) (filled (GlobalObject k) ls vs)) ≡ Some y) (passed _ _ _ (same_self k)) e)
  where
    made : MemorySlot
    made = record { object = GlobalObject k; offset = l.offset; scalar = l.scalar; value = v }

    by : (b : Bool) → (find (is_slot (GlobalObject k) m scalar) (filled (GlobalObject k) ls vs) ≡ Some y → y.value ≡ item_or vs (position_or_len (s.is_slot_at (pos m) scalar) ls) scalar) →
        cond b (Some (record { object = GlobalObject k; offset = l.offset; scalar = l.scalar; value = v })) (find (is_slot (GlobalObject k) m scalar) (filled (GlobalObject k) ls vs)) ≡ Some y →
        y.value ≡ item_or (v ∷ vs) (cond (not b) (1 + position_or_len (s.is_slot_at (pos m) scalar) ls) 0) scalar
    by true more f =
        let same : record { object = GlobalObject k; offset = l.offset; scalar = l.scalar; value = v } ≡ y = cc in
        ap (λ (z : MemorySlot). z.value) (sym same)
    by false more f = more f ∙ ap (λ o. unwrap_or o (zero_of scalar)) (sym (onward v vs (position_or_len (s.is_slot_at (pos m) scalar) ls)))

-- ---- items as constants

pub zero_is : (scalar : Scalar) → constant_of (zero_of scalar) ≡ Some (if is_pointer scalar then NullConstant else Int (pos 0))
zero_is I8 = refl
zero_is I16 = refl
zero_is I32 = refl
zero_is I64 = refl
zero_is U8 = refl
zero_is U16 = refl
zero_is U32 = refl
zero_is U64 = refl
zero_is Ptr = refl

address_by : (name : List ℕ) (offset : ℤ) (o : Option ℕ) → constant_of (moved_by (global_address name o) (offset_in offset)) ≡ address_constant o offset
unfolding moved_by
address_by name offset None = refl
address_by name offset (Some k) = ap (λ z. Some (GlobalConstant k z)) (from_begin offset)

address_is : (globals : List Global) (name : List ℕ) (offset : ℤ) → constant_of (moved_by (address_of_global globals name) (offset_in offset)) ≡ address_constant (global_place globals name) offset
unfolding address_of_global
address_is globals name offset = address_by name offset (global_place globals name)

constant_is : (globals : List Global) (scalar : Scalar) (x : Operand) → constant_of (run_item globals x) ≡ item_constant globals scalar (Some x)
constant_is globals scalar (Reg name) = refl
constant_is globals scalar (NumberOperand z) = refl
constant_is globals scalar Null = refl
constant_is globals scalar (Address name offset) = address_is globals name offset

item_is : (globals : List Global) (scalar : Scalar) (xs : List Operand) (j : ℕ) → constant_of (item_or (map (run_item globals) xs) j scalar) ≡ item_constant globals scalar (slice_get xs j)
item_is globals scalar [] j = zero_is scalar
item_is globals scalar (x ∷ xs) zero = constant_is globals scalar x
item_is globals scalar (x ∷ xs) (suc j) = item_is globals scalar xs j

-- ---- an access to a read-only variable by name

within_by : (z : ℤ) (b : Bool) → in_scalar I64 z ≡ b → b ≡ true → (if b then z else pos 0) ≡ z
within_by z true e f = refl
within_by z false e f = cc

offset_same : (z : ℤ) → in_scalar I64 z ≡ true → offset_in z ≡ z
unfolding number_in
offset_same z e = within_by z (in_scalar I64 z) refl e

module _ (p : Sealed) (n : ℕ) (f : Function) (facts : Facts) (most : ℕ) (ts : List ℤ) (law : IsLawful ts) (serial : ℕ) (values : List Value) (memory : Memory)
    (hold : (k : ℕ) (g : Global) → slice_get p.program.globals k ≡ Some g → HoldsGlobal p.program k g memory) where
  abbrev B : Body
  B = body_of p n f facts most ts

  abbrev scope : Scope
  scope = record { declared = registers_of f; locals = f.locals; serial = serial }

  constant_holds : (scalar : Scalar) (v : Value) (o : Option Constant) → is_of scalar v ≡ true → constant_of v ≡ o → IfSome (constant_value B scalar o) (Holds v)
  constant_holds scalar v None typed e = tt
  constant_holds scalar v (Some c) typed e = alone_holds most ts law scalar v c typed e

  place_of_global : (name : List ℕ) (g : Global) → find (λ (g : Global). bytes_eq g.decl.name name) p.program.globals ≡ Some g → (k : ℕ) × (slice_get p.program.globals k ≡ Some g) × (global_place p.program.globals name ≡ Some k)
  place_of_global name g e =
      let there : slice_get p.program.globals (position_or_len (λ (g : Global). bytes_eq g.decl.name name) p.program.globals) ≡ Some g = sym (find_at (λ (g : Global). bytes_eq g.decl.name name) p.program.globals) ∙ e in
      let within : position_or_len (λ (g : Global). bytes_eq g.decl.name name) p.program.globals < length p.program.globals = slice_get_within p.program.globals _ g there in
      (position_or_len (λ (g : Global). bytes_eq g.decl.name name) p.program.globals, there, search (rules, within))

  slot_holds : (k : ℕ) (g : Global) (scalar : Scalar) (offset : ℤ) (x : FoundSlot) → slice_get p.program.globals k ≡ Some g → g.constant ≡ true → found_at memory (At (GlobalObject k) offset) scalar ≡ Ok x → is_of scalar x.value ≡ true →
      (o : Option ℕ) → slot_place (layout_of p.program.structs g.decl).slots offset scalar ≡ o → IfSome (slot_value B scalar g o) (Holds x.value)
  slot_holds k g scalar offset x e c found typed None o = tt
  slot_holds k g scalar offset x e c found typed (Some j) o =
      let y : Slotted memory.slots (GlobalObject k) offset scalar x = slotted memory (GlobalObject k) offset scalar x found in
      let ls : List LayoutSlot = (layout_of p.program.structs g.decl).slots in
      let vs : List Value = map (run_item p.program.globals) g.items in
      let kept : find (is_slot (GlobalObject k) y.offset scalar) (slots_of k memory) ≡ Some y.slot =
      find_kept (is_slot (GlobalObject k) y.offset scalar) (λ (z : MemorySlot). same_object z.object (GlobalObject k)) (λ z t. first_true _ _ _ t) memory.slots ∙ y.there in
      let mine : find (is_slot (GlobalObject k) y.offset scalar) (filled (GlobalObject k) ls vs) ≡ Some y.slot = subst (λ zs. find (is_slot (GlobalObject k) y.offset scalar) zs ≡ Some y.slot) ((hold k g e).items c) kept in
      let value : y.slot.value ≡ item_or vs (position_or_len (s.is_slot_at (pos y.offset) scalar) ls) scalar = find_filled k y.offset scalar ls vs y.slot mine in
      let place : slot_place ls (pos y.offset) scalar ≡ Some j = subst (λ z. slot_place ls z scalar ≡ Some j) y.is o in
      let number : position_or_len (s.is_slot_at (pos y.offset) scalar) ls ≡ j = place_found _ _ j place in
      let whole : x.value ≡ item_or vs j scalar = sym y.value ∙ (value ∙ ap (λ m. item_or vs m scalar) number) in
      constant_holds scalar x.value (item_constant p.program.globals scalar (slice_get g.items j)) typed (ap constant_of whole ∙ item_is p.program.globals scalar g.items j)

  variable_holds : (name : List ℕ) (scalar : Scalar) (offset : ℤ) (x : FoundSlot) → is_local f.locals name ≡ false → in_scalar I64 offset ≡ true → found_at memory (moved_by (address_of p.program.globals scope name) (offset_in offset)) scalar ≡ Ok x → is_of scalar x.value ≡ true →
      (o : Option Global) → find (λ (g : Global). bytes_eq g.decl.name name) p.program.globals ≡ o → IfSome (constant_slot B scalar offset o) (Holds x.value)
  unfolding address_of_global moved_by
  variable_holds name scalar offset x free inside found typed None e = tt
  variable_holds name scalar offset x free inside found typed (Some g) e =
      let there = place_of_global name g e in
      let address : address_of p.program.globals scope name ≡ At (GlobalObject there.0) (pos 0) = local_free p.program.globals scope name free ∙ ap (global_address name) there.2 in
      let moved : moved_by (address_of p.program.globals scope name) (offset_in offset) ≡ At (GlobalObject there.0) offset =
      ap (λ v. moved_by v (offset_in offset)) address ∙ (ap (λ z. At (GlobalObject there.0) z) (from_begin offset) ∙ ap (λ z. At (GlobalObject there.0) z) (offset_same offset inside)) in
      let mine : found_at memory (At (GlobalObject there.0) offset) scalar ≡ Ok x = subst (λ v. found_at memory v scalar ≡ Ok x) moved found in
      by there.0 there.1 g.constant refl mine
    where
      by : (k : ℕ) → slice_get p.program.globals k ≡ Some g → (b : Bool) → g.constant ≡ b → found_at memory (At (GlobalObject k) offset) scalar ≡ Ok x → IfSome (cond b (slot_value B scalar g (slot_place (layout_of p.program.structs g.decl).slots offset scalar)) None) (Holds x.value)
      by k at true c m = slot_holds k g scalar offset x at c m typed (slot_place (layout_of p.program.structs g.decl).slots offset scalar) refl
      by k at false c m = tt

  unless_local : (name : List ℕ) (o : Option AbsVal) (v : Value) (b : Bool) → is_local f.locals name ≡ b → (is_local f.locals name ≡ false → IfSome o (Holds v)) → IfSome (cond b None o) (Holds v)
  unless_local name o v true e h = tt
  unless_local name o v false e h = h e

  pub item_holds : (scalar : Scalar) (place : Place) (x : FoundSlot) → found_at memory (place_value p.program.globals scope values place) scalar ≡ Ok x → s.place (env_of p.program f) scalar place ≡ Ok tt → is_of scalar x.value ≡ true → IfSome (item_value B scalar place) (Holds x.value)
  unfolding item_value s.place_at
  item_holds scalar place x got e typed = by place.base got e
    where
      by : (b : Base) → found_at memory (moved_by (base_value p.program.globals scope values b) (offset_in place.offset)) scalar ≡ Ok x → s.place_at (env_of p.program f) scalar b place.offset ≡ Ok tt → IfSome (item_value B scalar (record place { base = b })) (Holds x.value)
      by (RegBase name) g h = tt
      by (Variable name) g h =
          let a = first_passed (found (variable (env_of p.program f) name) 1) _ tt h in
          let c = first_passed (demand (in_scalar I64 place.offset) 13) _ tt a.2 in
          unless_local name _ x.value (is_local f.locals name) refl (λ free. variable_holds name scalar place.offset x free (demanded _ 13 c.1) g typed (find (λ (g : Global). bytes_eq g.decl.name name) p.program.globals) refl)
