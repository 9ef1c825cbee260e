-- A frame is a call that has begun, and only it accesses its private locals, by their names.
use Rattle.std.proofs.Common.{◌≡◌, ℕ, suc, ◌<◌, ℤ, pos, negsuc, Bool, true, false, arith, List, [], ◌∷◌, map, length, refl, sym, ◌∙◌, ap, subst, Option, Some, None, Result, Ok, Err, slice_get, nat_lt, if◌then◌else◌}
use Rattle.std.specs.List.{AllByRecursion, position}
use Rattle.std.specs.Str.{bytes_eq}
use Rattle.std.proofs.lemmas.List.Elements.{All-contains, All-from_recursion}
use Rattle.gimple_ir.specs.declared.scalar.Scalar.{Scalar}
use Rattle.gimple_ir.specs.declared.value.Value.{Value}
use Rattle.gimple_ir.specs.declared.value.Value.TheVariants.{Int, Null, At, Code}
use Rattle.gimple_ir.specs.declared.value.Object.{Object}
use Rattle.gimple_ir.specs.declared.value.Object.TheVariants.{Global as GlobalObject, Local as LocalObject}
use Rattle.gimple_ir.specs.declared.value.TrapKind.{TrapKind}
use Rattle.gimple_ir.specs.declared.operand.Base.{Base}
use Rattle.gimple_ir.specs.declared.operand.Base.TheVariants.{Reg as RegBase, Variable}
use Rattle.gimple_ir.specs.declared.operand.Place.{Place}
use Rattle.gimple_ir.specs.declared.declarations.Decl.{Decl}
use Rattle.gimple_ir.specs.declared.declarations.Global.{Global}
use Rattle.gimple_ir.specs.declared.statement.Stmt.{Stmt}
use Rattle.gimple_ir.specs.declared.statement.Stmt.TheVariants.{Copy, Arith, Compare, Convert, Load as LoadStmt, Store as StoreStmt, Call, Indirect, Get, Put, Abort}
use Rattle.gimple_ir.specs.declared.program.Function.{Function}
use Rattle.gimple_core.specs.declared.machine.Extent.{Extent}
use Rattle.gimple_core.specs.declared.machine.FoundSlot.{FoundSlot}
use Rattle.gimple_core.specs.declared.machine.MemorySlot.{MemorySlot}
use Rattle.gimple_core.specs.Sealed.{Sealed}
use Rattle.gimple_core.specs.Memory.{Memory, moved_by, found_at, found_extent, found_offset, found_slot}
use Rattle.gimple_core.specs.State.{Control, Frame, State, Scope, scope_of, value_in, offset_in}
use Rattle.gimple_core.specs.Run.{local_address, global_address, address_of_global, address_of, base_value, place_value, Did, step, main_name, function_named}
use Rattle.gimple_core.specs.Trace.{Event, At as AtPoint, Store, Leave, after, access, accesses, load_event, store_event, crossing, told_by, main_entry, EachAfter}
use Rattle.gimple_core.proofs.ValuesIn.{value_at_in}
use Rattle.gimple_claims.specs.Shapes.{controls}
use Rattle.gimple_claims.specs.Private.{IsPrivate, HasBegun, PointsTo, base_of, next_base, IsByName, AccessIsByName, FramesHaveBegun, PrivateLocalsByName}
use Rattle.gimple_claims.proofs.Comes.{InDid, IsKept, AtEach, each_append, holds}
use Rattle.gimple_claims.proofs.OneRun.{in_run}
use Rattle.gimple_claims.proofs.Private.{ValueOpen, law, Inside, inside, inside_point, value_lacks, function_own}
use Rattle.gimple_claims.proofs.Stack.{mid, told_mid}
use Rattle.gimple_claims.proofs.Steps.{Steps, acts, calls, jumps, leaves, stops, traps, step_is, IsFirst, start_first}
use Rattle.gimple_claims.proofs.Updates.{place_named}

-- ---- frames have begun

pub begun_more : (past : List Event) (e : Event) (serial : ℕ) (f : Function) → HasBegun past serial f → HasBegun (e ∷ past) serial f
begun_more past e serial f h =
    let within : h.there.0 < length past = h.there.1 in
    record { arguments = h.arguments; memory = h.memory; caller = h.caller; there = (suc h.there.0, omega (arith, within), h.there.2) }

begun_after : (past es : List Event) (serial : ℕ) (f : Function) → HasBegun past serial f → HasBegun (after past es) serial f
begun_after past [] serial f h = h
begun_after past (e ∷ es) serial f h = begun_after (e ∷ past) es serial f (begun_more past e serial f h)

abbrev ControlBegun : List Event → Control → Type 0
ControlBegun past c = HasBegun past c.serial c.function

record Begun (past : List Event) (s : State) : Type 0 where
  top : ControlBegun past s.top
  below : AllByRecursion (λ (f : Frame). ControlBegun past f.control) s.below

frames_more : (past : List Event) (e : Event) (fs : List Frame) → AllByRecursion (λ (f : Frame). ControlBegun past f.control) fs → AllByRecursion (λ (f : Frame). ControlBegun (e ∷ past) f.control) fs
frames_more past e [] h = tt
frames_more past e (f ∷ fs) h = (begun_more past e f.control.serial f.control.function h.0, frames_more past e fs h.1)

state_more : (past : List Event) (e : Event) (s : State) → Begun past s → Begun (e ∷ past) s
state_more past e s h = record { top = begun_more past e s.top.serial s.top.function h.top; below = frames_more past e s.below h.below }

state_after : (past es : List Event) (s : State) → Begun past s → Begun (after past es) s
state_after past [] s h = h
state_after past (e ∷ es) s h = state_after (e ∷ past) es s (state_more past e s h)

begun_did : (p : Sealed) (now : List Event) (s : State) → Begun now s → (d : Did) → Steps p s d → InDid (Begun (after now (crossing p.program.globals s.top.rest s d))) d
begun_did p now s h _ (acts x xs w e n r) = record { top = h.top; below = h.below }
begun_did p now s h _ (calls x xs c g b bs e n f y) = record {
  top = record { arguments = _; memory = s.world.memory; caller = Some s.top; there = (0, omega arith, refl) };
  below = (begun_more now _ s.top.serial s.top.function h.top, frames_more now _ s.below h.below);
}
begun_did p now s h _ (jumps label k b e x f) = record { top = h.top; below = h.below }
begun_did p now s h _ (leaves v f fs e x y) =
    let rest : AllByRecursion (λ (r : Frame). ControlBegun now r.control) (f ∷ fs) = subst (AllByRecursion (λ (r : Frame). ControlBegun now r.control)) y h.below in
    let more = frames_more now (Leave s.top.serial) (f ∷ fs) rest in
    record { top = more.0; below = more.1 }
begun_did p now s h _ (stops o z) = tt
begun_did p now s h _ (traps o k) = tt

begun_first : (p : Sealed) (s : State) → IsFirst (Some s) → Begun (main_entry p s ∷ []) s
begun_first p s h = record {
  top = record { arguments = []; memory = _; caller = None; there = (0, omega arith, refl) };
  below = subst (AllByRecursion (λ (f : Frame). ControlBegun (main_entry p s ∷ []) f.control)) (sym h.1) tt;
}

begun_kept : (p : Sealed) (input : List ℤ) → IsKept p input Begun
begun_kept p input = record {
  begin = λ s e. begun_first p s (subst IsFirst e (start_first p input (function_named main_name p.program.functions)));
  keep = λ past s h.
      subst (λ es. InDid (Begun es) (step p s)) (sym (told_mid p past s))
      (begun_did p (mid p past s) s (state_after (AtPoint s.top s.world ∷ past) (access p.program.globals s.top.rest s) s (state_more past (AtPoint s.top s.world) s h)) (step p s) (step_is p s));
}

frame_begun : (past : List Event) (fs : List Frame) → AllByRecursion (λ (f : Frame). ControlBegun past f.control) fs → AllByRecursion (ControlBegun past) (map (λ (f : Frame). f.control) fs)
frame_begun past [] h = tt
frame_begun past (f ∷ fs) h = (h.0, frame_begun past fs h.1)

pub frames_have_begun : FramesHaveBegun
frames_have_begun p input past s c d there =
    let h : Begun past s = holds p input Begun (begun_kept p input) past s c in
    let all : AllByRecursion (ControlBegun past) (controls s) = (h.top, frame_begun past s.below h.below) in
    All-contains (ControlBegun past) (controls s) d (All-from_recursion (ControlBegun past) (controls s) all) there

-- ---- where an access goes

abbrev FoundIn : Value → Result FoundSlot TrapKind → Type 0
FoundIn v (Ok f) = PointsTo f.object v
FoundIn v (Err kind) = Unit {0}

slot_found : (object : Object) (place : ℤ) (offset : ℕ) (constant : Bool) (o : Option MemorySlot) → FoundIn (At object place) (found_slot object offset constant o)
slot_found object place offset constant None = tt
slot_found object place offset constant (Some s) = refl

bounded_found : (v : Value) (b : Bool) (r : Result FoundSlot TrapKind) (kind : TrapKind) → FoundIn v r → FoundIn v (if b then r else Err kind)
bounded_found v true r kind h = h
bounded_found v false r kind h = tt

offset_found : (slots : List MemorySlot) (object : Object) (offset : ℤ) (scalar : Scalar) (x : Extent) → FoundIn (At object offset) (found_offset slots object offset scalar x)
offset_found slots object (pos n) scalar x = bounded_found (At object (pos n)) (nat_lt n x.size) _ _ (slot_found object (pos n) n x.constant _)
offset_found slots object (negsuc n) scalar x = tt

extent_found : (slots : List MemorySlot) (object : Object) (offset : ℤ) (scalar : Scalar) (o : Option Extent) → FoundIn (At object offset) (found_extent slots object offset scalar o)
extent_found slots object offset scalar None = tt
extent_found slots object offset scalar (Some x) = offset_found slots object offset scalar x

-- an access goes to the object to which the pointer points
pub found_in : (m : Memory) (v : Value) (scalar : Scalar) → FoundIn v (found_at m v scalar)
unfolding found_at
found_in m (Int z) scalar = tt
found_in m Null scalar = tt
found_in m (Code name) scalar = tt
found_in m (At object offset) scalar = extent_found m.slots object offset scalar _

-- and so does what it is moved from
moved_points : (object : Object) (v : Value) (by : ℤ) → PointsTo object (moved_by v by) → PointsTo object v
unfolding moved_by
moved_points object (Int z) by h = h
moved_points object Null by h = h
moved_points object (At other offset) by h = h
moved_points object (Code name) by h = h

global_points : (serial k : ℕ) (name : List ℕ) (o : Option ℕ) → PointsTo (LocalObject serial k) (global_address name o) → ⊥
global_points serial k name None h = h
global_points serial k name (Some j) h = let never : GlobalObject j ≡ LocalObject serial k = h in cc

global_address_points : (serial k : ℕ) (globals : List Global) (name : List ℕ) → PointsTo (LocalObject serial k) (address_of_global globals name) → ⊥
unfolding address_of_global
global_address_points serial k globals name h = global_points serial k name _ h

abbrev number_of : Object → ℕ
number_of (GlobalObject k) = k
number_of (LocalObject serial k) = k

abbrev serial_of : Object → ℕ
serial_of (GlobalObject k) = 0
serial_of (LocalObject serial k) = serial

local_points : (own serial k : ℕ) (o : Option ℕ) (v : Value) → (PointsTo (LocalObject serial k) v → ⊥) → PointsTo (LocalObject serial k) (local_address own o v) → (own ≡ serial) × (o ≡ Some k)
local_points own serial k None v never h = absurd (never h)
local_points own serial k (Some j) v never h = let same : LocalObject own j ≡ LocalObject serial k = h in (ap serial_of same, ap (λ x. Some (number_of x)) same)

address_points : (serial k : ℕ) (globals : List Global) (scope : Scope) (name : List ℕ) → PointsTo (LocalObject serial k) (address_of globals scope name) → (scope.serial ≡ serial) × (position (λ (d : Decl). bytes_eq d.name name) scope.locals ≡ Some k)
unfolding address_of
address_points serial k globals scope name h = local_points scope.serial serial k _ _ (global_address_points serial k globals name) h

-- ---- the accesses of a step

module _ (past : List Event) (s : State) (h : Inside past s) (f : Function) (serial k : ℕ) (begun : HasBegun past serial f) (private : IsPrivate f k) where
  register_lacks : (name : List ℕ) → PointsTo (LocalObject serial k) (value_in (scope_of s.top) s.world.registers name) → ⊥
  unfolding value_in
  register_lacks name to = value_lacks past s.next serial k f begun private _ (value_at_in (ValueOpen past s.next) (law past s.next) s.world.registers _ h.world.registers) to

  by_base : (globals : List Global) (b : Base) → PointsTo (LocalObject serial k) (base_value globals (scope_of s.top) s.world.registers b) → next_base s.top.rest ≡ Some b → IsByName f serial k s.top
  by_base globals (RegBase name) to e = absurd (register_lacks name to)
  by_base globals (Variable name) to e =
      let is = address_points serial k globals (scope_of s.top) name to in
      let same : f ≡ s.top.function = function_own past s.next s.top h.control serial f begun (sym is.0) in
      let x = place_named (λ (d : Decl). d.name) s.top.function.locals name k is.1 in
      record {
        own = is.0;
        function = sym same;
        decl = x.0;
        there = subst (λ (g : Function). slice_get g.locals k ≡ Some x.0) (sym same) x.1;
        base = e ∙ ap (λ n. Some (Variable n)) (sym x.2);
      }

  by_place : (globals : List Global) (place : Place) → PointsTo (LocalObject serial k) (place_value globals (scope_of s.top) s.world.registers place) → next_base s.top.rest ≡ Some place.base → IsByName f serial k s.top
  by_place globals place to e = by_base globals place.base (moved_points (LocalObject serial k) _ (offset_in place.offset) to) e

module _ (past : List Event) (s : State) (h : Inside past s) (globals : List Global) where
  access_by : (m : Memory) (scalar : Scalar) (place : Place) (x : FoundSlot) → found_at m (place_value globals (scope_of s.top) s.world.registers place) scalar ≡ Ok x → next_base s.top.rest ≡ Some place.base →
      (f : Function) (serial k : ℕ) → HasBegun past serial f → IsPrivate f k → x.object ≡ LocalObject serial k → IsByName f serial k s.top
  access_by m scalar place x e b f serial k begun private o =
      let to : PointsTo x.object (place_value globals (scope_of s.top) s.world.registers place) = subst (FoundIn (place_value globals (scope_of s.top) s.world.registers place)) e (found_in m (place_value globals (scope_of s.top) s.world.registers place) scalar) in
      by_place past s h f serial k begun private globals place (subst (λ (y : Object). PointsTo y (place_value globals (scope_of s.top) s.world.registers place)) o to) b

  load_by : (scalar : Scalar) (place : Place) (r : Result FoundSlot TrapKind) → found_at s.world.memory (place_value globals (scope_of s.top) s.world.registers place) scalar ≡ r → next_base s.top.rest ≡ Some place.base →
      EachAfter AccessIsByName past (load_event s.top scalar r)
  load_by scalar place (Ok x) e b = (access_by s.world.memory scalar place x e b, tt)
  load_by scalar place (Err kind) e b = tt

  store_if : (scalar : Scalar) (v : Value) (x : FoundSlot) (b : Bool) → AccessIsByName past (Store s.top scalar x.object x.offset v) → EachAfter AccessIsByName past (if b then [] else Store s.top scalar x.object x.offset v ∷ [])
  store_if scalar v x true h = tt
  store_if scalar v x false h = (h, tt)

  store_by : (scalar : Scalar) (place : Place) (v : Value) (r : Result FoundSlot TrapKind) → found_at s.world.memory (place_value globals (scope_of s.top) s.world.registers place) scalar ≡ r → next_base s.top.rest ≡ Some place.base →
      EachAfter AccessIsByName past (store_event s.top scalar v r)
  store_by scalar place v (Ok x) e b = store_if scalar v x x.constant (access_by s.world.memory scalar place x e b)
  store_by scalar place v (Err kind) e b = tt

  accesses_by : (x : Stmt) → next_base s.top.rest ≡ base_of x → EachAfter AccessIsByName past (accesses globals x s)
  accesses_by (Copy to from) e = tt
  accesses_by (Arith to left op right) e = tt
  accesses_by (Compare to left cmp right) e = tt
  accesses_by (Convert to scalar from) e = tt
  accesses_by (LoadStmt to scalar place) e = load_by scalar place _ refl e
  accesses_by (StoreStmt scalar place from) e = store_by scalar place _ _ refl e
  accesses_by (Call to callee arguments) e = tt
  accesses_by (Indirect to signature callee arguments) e = tt
  accesses_by (Get to) e = tt
  accesses_by (Put from) e = tt
  accesses_by Abort e = tt

  access_each : (xs : List Stmt) → s.top.rest ≡ xs → EachAfter AccessIsByName past (access globals xs s)
  access_each [] e = tt
  access_each (x ∷ xs) e = accesses_by x (ap next_base e)

crossing_by : (p : Sealed) (now : List Event) (s : State) (d : Did) → Steps p s d → EachAfter AccessIsByName now (crossing p.program.globals s.top.rest s d)
crossing_by p now s _ (acts x xs w e n r) = tt
crossing_by p now s _ (calls x xs c g b bs e n f y) = (tt, tt)
crossing_by p now s _ (jumps label k b e x f) = tt
crossing_by p now s _ (leaves v f fs e x y) = (tt, tt)
crossing_by p now s _ (stops o z) = (tt, tt)
crossing_by p now s _ (traps o k) = tt

by_each : (p : Sealed) (input : List ℤ) → AtEach p input AccessIsByName
unfolding told_by
by_each p input past s c = (
  tt,
  each_append AccessIsByName (AtPoint s.top s.world ∷ past) (access p.program.globals s.top.rest s) (crossing p.program.globals s.top.rest s (step p s))
      (access_each (AtPoint s.top s.world ∷ past) s (inside_point past s (inside p input past s c)) p.program.globals s.top.rest refl)
      (crossing_by p (mid p past s) s (step p s) (step_is p s)),
)

pub private_locals_by_name : PrivateLocalsByName
private_locals_by_name p input n = in_run p AccessIsByName input (λ s e. tt) (by_each p input) n
