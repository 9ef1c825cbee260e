-- A memory with a frame's locals, by tests of objects.
use Rattle.std.proofs.Common.{◌≡◌, ℕ, ◌+◌, Bool, true, false, List, [], ◌∷◌, ◌++◌, filter, refl, ◌∙◌, ap, append-nil}
use Rattle.std.specs.List.{find, list_all}
use Rattle.std.proofs.lemmas.List.Elements.{filter-append}
use Rattle.std.proofs.lemmas.List.Folds.{list_all-append}
use Rattle.gimple_ir.specs.declared.declarations.Decl.{Decl}
use Rattle.gimple_ir.specs.declared.declarations.StructDef.{StructDef}
use Rattle.gimple_ir.specs.declared.value.Value.{Value}
use Rattle.gimple_ir.specs.declared.value.Object.{Object}
use Rattle.gimple_ir.specs.declared.value.Object.TheVariants.{Local}
use Rattle.gimple_ir.specs.declared.value.LayoutSlot.{LayoutSlot}
use Rattle.gimple_ir.specs.declared.value.Layout.{Layout}
use Rattle.gimple_core.specs.declared.machine.Extent.{Extent}
use Rattle.gimple_core.specs.declared.machine.MemorySlot.{MemorySlot}
use Rattle.gimple_core.specs.Layout.{layout_of}
use Rattle.gimple_core.specs.Memory.{Memory}
use Rattle.gimple_core.specs.Run.{with_object, with_locals, filled}
use Rattle.gimple_claims.proofs.Lists.{find_more}

module _ (test : Object → Bool) where
  abbrev pub on_extent : Extent → Bool
  on_extent x = test x.object

  abbrev pub on_slot : MemorySlot → Bool
  on_slot x = test x.object

  filled_none : (object : Object) (slots : List LayoutSlot) (vs : List Value) → test object ≡ false → filter on_slot (filled object slots vs) ≡ []
  filled_none object [] vs e = refl
  filled_none object (s ∷ ss) [] e = rw e (filled_none object ss [] e)
  filled_none object (s ∷ ss) (v ∷ vs) e = rw e (filled_none object ss vs e)

  -- an object that does not pass the test
  pub object_slots : (m : Memory) (object : Object) (l : Layout) (constant : Bool) (vs : List Value) → test object ≡ false → filter on_slot (with_object m object l constant vs).slots ≡ filter on_slot m.slots
  object_slots m object l constant vs e =
      filter-append on_slot m.slots (filled object l.slots vs) ∙ (ap (λ ys. filter on_slot m.slots ++ ys) (filled_none object l.slots vs e) ∙ append-nil (filter on_slot m.slots))

  -- a search that passes no local of the frame
  pub locals_find : (structs : List StructDef) (serial k : ℕ) (ds : List Decl) (m : Memory) → ((k : ℕ) → test (Local serial k) ≡ false) → find on_extent (with_locals structs serial k ds m).living ≡ find on_extent m.living
  unfolding with_locals
  locals_find structs serial k [] m h = refl
  locals_find structs serial k (d ∷ ds) m h =
      locals_find structs serial (k + 1) ds (with_object m (Local serial k) (layout_of structs d) false []) h ∙ find_more on_extent m.living _ (h k)

  pub locals_slots : (structs : List StructDef) (serial k : ℕ) (ds : List Decl) (m : Memory) → ((k : ℕ) → test (Local serial k) ≡ false) → filter on_slot (with_locals structs serial k ds m).slots ≡ filter on_slot m.slots
  unfolding with_locals
  locals_slots structs serial k [] m h = refl
  locals_slots structs serial k (d ∷ ds) m h =
      locals_slots structs serial (k + 1) ds (with_object m (Local serial k) (layout_of structs d) false []) h ∙ object_slots m (Local serial k) (layout_of structs d) false [] (h k)

  -- a test that each local of the frame passes
  pub locals_all : (structs : List StructDef) (serial k : ℕ) (ds : List Decl) (m : Memory) → ((k : ℕ) → test (Local serial k) ≡ true) → list_all on_extent m.living ≡ true → list_all on_extent (with_locals structs serial k ds m).living ≡ true
  unfolding with_locals
  locals_all structs serial k [] m h e = e
  locals_all structs serial k (d ∷ ds) m h e =
      locals_all structs serial (k + 1) ds (with_object m (Local serial k) (layout_of structs d) false []) h
      (list_all-append on_extent m.living _ ∙ rw (e, h k) refl)
