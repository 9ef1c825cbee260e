-- What trees promise of the runs of a program.
use Rattle.std.specs.Prelude.{◌≡◌, ◌+ℤ◌, ℕ, ◌==◌, ℤ, pos, Bool, true, false, ◌⊎◌, List, [], ◌∷◌, is_some, Option, Some, None, IsSomeAnd, slice_get}
use Rattle.std.specs.List.{find, list_any}
use Rattle.gimple_ir.specs.declared.scalar.Scalar.{Scalar}
use Rattle.gimple_ir.specs.declared.scalar.Scalar.TheVariants.{I64}
use Rattle.gimple_ir.specs.declared.value.Value.{Value}
use Rattle.gimple_ir.specs.declared.value.Value.TheVariants.{At as AtObject}
use Rattle.gimple_ir.specs.declared.value.Object.{Object}
use Rattle.gimple_ir.specs.declared.value.Object.TheVariants.{Global as GlobalObject}
use Rattle.gimple_ir.specs.declared.program.Function.{Function}
use Rattle.gimple_core.specs.Sealed.{Sealed}
use Rattle.gimple_core.specs.Operators.{wrapped}
use Rattle.gimple_core.specs.Memory.{Memory, same_object}
use Rattle.gimple_core.specs.Trace.{Event, Entry, At, Load, Store, Leave, InEachRun}
use Rattle.modref_trees.specs.declared.trees.TreeBase.{TreeBase}
use Rattle.modref_trees.specs.declared.trees.TreeBase.TheVariants.{Formal, Global, Any}
use Rattle.modref_trees.specs.declared.trees.Access.{Access}
use Rattle.modref_trees.specs.declared.trees.Tree.{Tree}
use Rattle.modref_trees.specs.declared.trees.Tree.TheVariants.{All, Of}
use Rattle.modref_trees.specs.declared.trees.Summary.{Summary}
use Rattle.modref_trees.specs.Covers.{covers, everything_of}

-- ---- what an access describes, in an activation with these arguments

-- this offset, or any
abbrev pub IsOffset : Option ℤ → ℤ → Type 0
IsOffset None z = Unit {0}
IsOffset (Some w) z = z ≡ w

-- that offset from the argument's own, modulo 2^64, or any
abbrev pub IsMoved : ℤ → Option ℤ → ℤ → Type 0
IsMoved x None z = Unit {0}
IsMoved x (Some w) z = z ≡ wrapped I64 (x +ℤ w)

abbrev pub PointsTo : Option Value → Option ℤ → Object → ℤ → Type 0
PointsTo v o object z = (x : ℤ) × (v ≡ Some (AtObject object x)) × IsMoved x o z

abbrev pub IsBase : List Value → TreeBase → Option ℤ → Object → ℤ → Type 0
IsBase arguments Any o object z = Unit {0}
IsBase arguments (Global k) o object z = (object ≡ GlobalObject k) × IsOffset o z
IsBase arguments (Formal i) o object z = PointsTo (slice_get arguments i) o object z

-- it describes an access of this scalar to this offset of this object
pub record Describes (arguments : List Value) (a : Access) (of : Scalar) (object : Object) (z : ℤ) : Type 0 where
  pub scalar : a.scalar ≡ of
  pub base : IsBase arguments a.base a.offset object z

abbrev pub SomeDescribes : List Value → List Access → Scalar → Object → ℤ → Type 0
SomeDescribes arguments [] scalar object z = ⊥
SomeDescribes arguments (a ∷ accesses) scalar object z = Describes arguments a scalar object z ⊎ SomeDescribes arguments accesses scalar object z

-- a tree is everything, or has an access that describes it
abbrev pub Covered : List Value → Tree → Scalar → Object → ℤ → Type 0
Covered arguments All scalar object z = Unit {0}
Covered arguments (Of accesses) scalar object z = SomeDescribes arguments accesses scalar object z

-- what a tree holds covers what the access describes
abbrev pub CoversHold : Type 0
CoversHold = (tree : Tree) (a : Access) (arguments : List Value) (scalar : Scalar) (object : Object) (z : ℤ) → covers tree a ≡ true → Describes arguments a scalar object z → Covered arguments tree scalar object z

-- ---- in each run

-- of each activation that has begun and not returned, by its serial, its function, its arguments and the memory as it was then;
-- those of the list have returned since
abbrev pub EachOpen : (ℕ → Function → List Value → Memory → Type 0) → List ℕ → List Event → Type 0
EachOpen P left [] = Unit {0}
EachOpen P left (Entry s g arguments m caller ∷ past) = (list_any (λ n. n == s) left ≡ false → P s g arguments m) × EachOpen P left past
EachOpen P left (At c w ∷ past) = EachOpen P left past
EachOpen P left (Load c scalar object offset v ∷ past) = EachOpen P left past
EachOpen P left (Store c scalar object offset v ∷ past) = EachOpen P left past
EachOpen P left (Leave s ∷ past) = EachOpen P (s ∷ left) past

abbrev pub lives : Object → Memory → Bool
lives object m = is_some (find (λ x. same_object x.object object) m.living)

-- the tree of each of them covers the access, where its object lived when the activation began
abbrev pub IsCovered : Sealed → List Summary → (Summary → Tree) → List Event → Scalar → Object → ℕ → Type 0
IsCovered p trees choose past scalar object offset =
    EachOpen (λ s g arguments m. (n : ℕ) → slice_get p.program.functions n ≡ Some g → lives object m ≡ true → IsSomeAnd (slice_get trees n) (λ t. Covered arguments (choose t) scalar object (pos offset))) [] past

-- so of each load with the trees of loads, and of each store with those of stores
abbrev pub TreesClaim : Sealed → List Summary → List Event → Event → Type 0
TreesClaim p trees past (Entry serial g arguments m caller) = Unit {0}
TreesClaim p trees past (At c w) = Unit {0}
TreesClaim p trees past (Load c scalar object offset v) = IsCovered p trees (λ t. t.loads) past scalar object offset
TreesClaim p trees past (Store c scalar object offset v) = IsCovered p trees (λ t. t.stores) past scalar object offset
TreesClaim p trees past (Leave serial) = Unit {0}

-- everything covers each access
abbrev pub EverythingHolds : Type 0
EverythingHolds = (p : Sealed) → InEachRun p (TreesClaim p (everything_of p.program))
