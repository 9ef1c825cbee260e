-- What a tree holds, and what everything covers.
use Rattle.std.proofs.Common.{◌≡◌, ℕ, zero, suc, ◌==◌, ℤ, pos, Bool, true, false, ◌||◌, ◌⊎◌, inl, inr, List, [], ◌∷◌, map, refl, sym, ◌∙◌, ap, subst, Option, Some, None, IsSomeAnd, slice_get}
use Rattle.std.specs.List.{list_any}
use Rattle.std.proofs.lemmas.Bool.{eqb-true}
use Rattle.std.proofs.lemmas.Bool.Decides.{Decides-int_eq}
use Rattle.gimple_ir.specs.declared.scalar.Scalar.{Scalar}
use Rattle.gimple_ir.specs.declared.value.Value.{Value}
use Rattle.gimple_ir.specs.declared.value.Object.{Object}
use Rattle.gimple_ir.specs.declared.value.Object.TheVariants.{Global as GlobalObject}
use Rattle.gimple_ir.specs.declared.program.Function.{Function}
use Rattle.gimple_core.specs.Sealed.{Sealed}
use Rattle.gimple_core.specs.Memory.{Memory, same_scalar}
use Rattle.gimple_core.specs.Trace.{Event, Entry, At, Load, Store, Leave, EachAfter, Trace}
use Rattle.gimple_core.proofs.ScalarLemmas.{same_scalar_true}
use Rattle.fix_engine.specs.Bools.{and_left, and_right}
use Rattle.modref_trees.specs.declared.trees.TreeBase.{TreeBase}
use Rattle.modref_trees.specs.declared.trees.TreeBase.TheVariants.{Formal, Global, Any}
use Rattle.modref_trees.specs.declared.trees.Access.{Access}
use Rattle.modref_trees.specs.declared.trees.Tree.TheVariants.{All, Of}
use Rattle.modref_trees.specs.declared.trees.Summary.{Summary}
use Rattle.modref_trees.specs.Covers.{offset_holds, base_holds, holds, everything_of}
use Rattle.modref_trees.specs.Claims.{IsOffset, IsMoved, IsBase, Describes, SomeDescribes, Covered, CoversHold, EachOpen, TreesClaim, EverythingHolds}

-- ---- what holds describes more

offset_more : (o p : Option ℤ) (z : ℤ) → offset_holds o p ≡ true → IsOffset p z → IsOffset o z
offset_more None p z e h = tt
offset_more (Some x) None z e h = cc
offset_more (Some x) (Some y) z e h = h ∙ sym ((Decides-int_eq x y).0 e)

moved_more : (x : ℤ) (o p : Option ℤ) (z : ℤ) → offset_holds o p ≡ true → IsMoved x p z → IsMoved x o z
moved_more x None p z e h = tt
moved_more x (Some y) None z e h = cc
moved_more x (Some y) (Some w) z e h = subst (λ k. IsMoved x (Some k) z) (sym ((Decides-int_eq y w).0 e)) h

base_more : (arguments : List Value) (a b : TreeBase) (o p : Option ℤ) (object : Object) (z : ℤ) → base_holds a o b p ≡ true → IsBase arguments b p object z → IsBase arguments a o object z
base_more arguments Any b o p object z e h = tt
base_more arguments (Formal i) (Formal j) o p object z e h =
    let same : i ≡ j = eqb-true i j (and_left (i == j) (offset_holds o p) e) in
    (h.0, ap (slice_get arguments) same ∙ h.1, moved_more h.0 o p z (and_right (i == j) (offset_holds o p) e) h.2)
base_more arguments (Formal i) (Global k) o p object z e h = cc
base_more arguments (Formal i) Any o p object z e h = cc
base_more arguments (Global k) (Formal j) o p object z e h = cc
base_more arguments (Global k) (Global j) o p object z e h =
    let same : k ≡ j = eqb-true k j (and_left (k == j) (offset_holds o p) e) in
    (h.0 ∙ ap (λ n. GlobalObject n) (sym same), offset_more o p z (and_right (k == j) (offset_holds o p) e) h.1)
base_more arguments (Global k) Any o p object z e h = cc

access_more : (arguments : List Value) (a b : Access) (scalar : Scalar) (object : Object) (z : ℤ) → holds a b ≡ true → Describes arguments b scalar object z → Describes arguments a scalar object z
access_more arguments a b scalar object z e h =
    let same : a.scalar ≡ b.scalar = same_scalar_true a.scalar b.scalar (and_left (same_scalar a.scalar b.scalar) (base_holds a.base a.offset b.base b.offset) e) in
    record {
      scalar = same ∙ h.scalar;
      base = base_more arguments a.base b.base a.offset b.offset object z (and_right (same_scalar a.scalar b.scalar) (base_holds a.base a.offset b.base b.offset) e) h.base;
    }

some_more : (arguments : List Value) (accesses : List Access) (b : Access) (scalar : Scalar) (object : Object) (z : ℤ) → list_any (λ a. holds a b) accesses ≡ true → Describes arguments b scalar object z → SomeDescribes arguments accesses scalar object z
some_more arguments [] b scalar object z e h = cc
some_more arguments (a ∷ accesses) b scalar object z e h = by (holds a b) refl e (λ d. some_more arguments accesses b scalar object z d h)
  where
    by : (t : Bool) → holds a b ≡ t → (t || list_any (λ a. holds a b) accesses) ≡ true → (list_any (λ a. holds a b) accesses ≡ true → SomeDescribes arguments accesses scalar object z) → Describes arguments a scalar object z ⊎ SomeDescribes arguments accesses scalar object z
    by true d e rest = inl (access_more arguments a b scalar object z d h)
    by false d e rest = inr (rest e)

pub covers_hold : CoversHold
covers_hold All a arguments scalar object z e h = tt
covers_hold (Of accesses) a arguments scalar object z e h = some_more arguments accesses a scalar object z e h

-- ---- everything

open_always : (P : ℕ → Function → List Value → Memory → Type 0) → ((s : ℕ) (g : Function) (arguments : List Value) (m : Memory) → P s g arguments m) → (left : List ℕ) (past : List Event) → EachOpen P left past
open_always P h left [] = tt
open_always P h left (Entry s g arguments m caller ∷ past) = ((λ e. h s g arguments m), open_always P h left past)
open_always P h left (At c w ∷ past) = open_always P h left past
open_always P h left (Load c scalar object offset v ∷ past) = open_always P h left past
open_always P h left (Store c scalar object offset v ∷ past) = open_always P h left past
open_always P h left (Leave s ∷ past) = open_always P h (s ∷ left) past

all_loads : (fs : List Function) (n : ℕ) (g : Function) (arguments : List Value) (scalar : Scalar) (object : Object) (z : ℤ) → slice_get fs n ≡ Some g → IsSomeAnd (slice_get (map (λ (f : Function). record { loads = All; stores = All }) fs) n) (λ (t : Summary). Covered arguments t.loads scalar object z)
all_loads [] n g arguments scalar object z e = cc
all_loads (f ∷ fs) zero g arguments scalar object z e = tt
all_loads (f ∷ fs) (suc n) g arguments scalar object z e = all_loads fs n g arguments scalar object z e

all_stores : (fs : List Function) (n : ℕ) (g : Function) (arguments : List Value) (scalar : Scalar) (object : Object) (z : ℤ) → slice_get fs n ≡ Some g → IsSomeAnd (slice_get (map (λ (f : Function). record { loads = All; stores = All }) fs) n) (λ (t : Summary). Covered arguments t.stores scalar object z)
all_stores [] n g arguments scalar object z e = cc
all_stores (f ∷ fs) zero g arguments scalar object z e = tt
all_stores (f ∷ fs) (suc n) g arguments scalar object z e = all_stores fs n g arguments scalar object z e

one : (p : Sealed) (past : List Event) (e : Event) → TreesClaim p (everything_of p.program) past e
one p past (Entry serial g arguments m caller) = tt
one p past (At c w) = tt
one p past (Load c scalar object offset v) = open_always _ (λ s g arguments m n there l. all_loads p.program.functions n g arguments scalar object (pos offset) there) [] past
one p past (Store c scalar object offset v) = open_always _ (λ s g arguments m n there l. all_stores p.program.functions n g arguments scalar object (pos offset) there) [] past
one p past (Leave serial) = tt

each_event : (Q : List Event → Event → Type 0) → ((past : List Event) (e : Event) → Q past e) → (past es : List Event) → EachAfter Q past es
each_event Q h past [] = tt
each_event Q h past (e ∷ es) = (h past e, each_event Q h (e ∷ past) es)

pub everything_holds : EverythingHolds
everything_holds p input numbers turns = each_event (TreesClaim p (everything_of p.program)) (one p) [] (Trace p input turns)
