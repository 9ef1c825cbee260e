-- What slots hold after a store, and registers after an assignment.
use Rattle.std.proofs.Common.{◌≡◌, ℕ, ◌<◌, ℤ, pos, negsuc, Bool, true, false, List, [], ◌∷◌, length, refl, sym, ◌∙◌, ap, arith, Option, Some, None, Ok, Err, nat_lt, if◌then◌else◌, slice_get, slice_set, get_or}
use Rattle.std.specs.List.{find, position}
use Rattle.std.specs.Option.{option_map}
use Rattle.std.specs.Str.{bytes_eq}
use Rattle.std.proofs.lemmas.List.{get_or-set_same, get_or-set_other}
use Rattle.std.proofs.lemmas.List.Quantifiers.{position-Some}
use Rattle.std.proofs.lemmas.Option.{slice_get_within, slice_get-get_or, unwrap_or-slice_get}
use Rattle.gimple_ir.specs.declared.scalar.Scalar.{Scalar}
use Rattle.gimple_ir.specs.declared.value.Value.{Value}
use Rattle.gimple_ir.specs.declared.value.Value.TheVariants.{Int, Null, At, Code}
use Rattle.gimple_ir.specs.declared.value.Object.{Object}
use Rattle.gimple_ir.specs.declared.value.TrapKind.TheVariants.{Bounds}
use Rattle.gimple_ir.specs.declared.declarations.Register.{Register}
use Rattle.gimple_core.specs.declared.machine.Extent.{Extent}
use Rattle.gimple_core.specs.declared.machine.MemorySlot.{MemorySlot}
use Rattle.gimple_core.specs.declared.machine.FoundSlot.{FoundSlot}
use Rattle.gimple_core.specs.Names.{update_first}
use Rattle.gimple_core.specs.Memory.{Memory, is_slot, put_slot, found_at, found_extent, found_slot}
use Rattle.gimple_core.specs.State.{register_place, value_at, value_in, put_at}
use Rattle.gimple_core.proofs.NameLemmas.{same_name_true}
use Rattle.gimple_claims.specs.Updates.{StoredSlotsHold, OtherSlotsStay, StoredAccessesFind, OtherAccessesFind, AssignedRegistersHold, OtherRegistersStay, AssignmentsKeepCounts}
use Rattle.gimple_claims.proofs.Registers.{put_length}
use Rattle.gimple_claims.proofs.Slots.{put_other}

-- ---- slots

-- a search for what the change changes
find_changed : {X : Type 0} (test : X → Bool) (g : X → X) → ((x : X) → test (g x) ≡ test x) → (xs : List X) → find test (update_first test g xs) ≡ option_map g (find test xs)
unfolding update_first
find_changed test g h [] = refl
find_changed test g h (x ∷ xs) = by (test x) refl (find_changed test g h xs)
  where
    by : (b : Bool) → test x ≡ b → find test (update_first test g xs) ≡ option_map g (find test xs) → find test (if b then g x ∷ xs else x ∷ update_first test g xs) ≡ option_map g (if b then Some x else find test xs)
    by true e more = rw (h x ∙ e) refl
    by false e more = rw e more

-- the slot that is stored to, as a search finds it
pub put_found : (m : Memory) (object : Object) (offset : ℕ) (scalar : Scalar) (v : Value) →
    find (is_slot object offset scalar) (put_slot m.slots object offset scalar v) ≡ option_map (λ (s : MemorySlot). record s { value = v }) (find (is_slot object offset scalar) m.slots)
put_found m object offset scalar v = find_changed (is_slot object offset scalar) (λ (s : MemorySlot). record s { value = v }) (λ s. refl) m.slots

values_of_changed : (v : Value) (o : Option MemorySlot) → option_map (λ (s : MemorySlot). s.value) (option_map (λ (s : MemorySlot). record s { value = v }) o) ≡ option_map (λ (old : Value). v) (option_map (λ (s : MemorySlot). s.value) o)
values_of_changed v None = refl
values_of_changed v (Some s) = refl

pub stored_slots_hold : StoredSlotsHold
stored_slots_hold m object offset scalar v = ap (option_map (λ (s : MemorySlot). s.value)) (put_found m object offset scalar v) ∙ values_of_changed v (find (is_slot object offset scalar) m.slots)

pub other_slots_stay : OtherSlotsStay
other_slots_stay m object offset scalar v other place kind differs = ap (option_map (λ (s : MemorySlot). s.value)) (put_other other place kind object offset scalar v m.slots differs)

-- ---- accesses

slot_changed : (object : Object) (offset : ℕ) (constant : Bool) (v : Value) (o : Option MemorySlot) (x : FoundSlot) → found_slot object offset constant o ≡ Ok x →
    found_slot object offset constant (option_map (λ (s : MemorySlot). record s { value = v }) o) ≡ Ok (record x { value = v })
slot_changed object offset constant v None x e = cc
slot_changed object offset constant v (Some s) x e = let same : record { object = object; offset = offset; value = s.value; constant = constant } ≡ x = cc in λ i. Ok (record (same i) { value = v })

offset_changed : (m : Memory) (object : Object) (offset : ℕ) (scalar : Scalar) (v : Value) (y : Extent) (x : FoundSlot) (b : Bool) →
    (if b then found_slot object offset y.constant (find (is_slot object offset scalar) m.slots) else Err Bounds) ≡ Ok x →
    (if b then found_slot object offset y.constant (find (is_slot object offset scalar) (put_slot m.slots object offset scalar v)) else Err Bounds) ≡ Ok (record x { value = v })
offset_changed m object offset scalar v y x true e = ap (found_slot object offset y.constant) (put_found m object offset scalar v) ∙ slot_changed object offset y.constant v (find (is_slot object offset scalar) m.slots) x e
offset_changed m object offset scalar v y x false e = cc

extent_changed : (m : Memory) (object : Object) (offset : ℕ) (scalar : Scalar) (v : Value) (x : FoundSlot) (o : Option Extent) → found_extent m.slots object (pos offset) scalar o ≡ Ok x →
    found_extent (put_slot m.slots object offset scalar v) object (pos offset) scalar o ≡ Ok (record x { value = v })
extent_changed m object offset scalar v x None e = cc
extent_changed m object offset scalar v x (Some y) e = offset_changed m object offset scalar v y x (nat_lt offset y.size) e

pub stored_accesses_find : StoredAccessesFind
unfolding found_at
stored_accesses_find m object offset scalar v x e = extent_changed m object offset scalar v x _ e

extent_other : (m : Memory) (object : Object) (offset : ℕ) (scalar : Scalar) (v : Value) (other : Object) (place : ℤ) (kind : Scalar) → ((At object (pos offset) ≡ At other place) × (scalar ≡ kind) → ⊥) → (o : Option Extent) →
    found_extent (put_slot m.slots object offset scalar v) other place kind o ≡ found_extent m.slots other place kind o
extent_other m object offset scalar v other place kind differs None = refl
extent_other m object offset scalar v other (negsuc n) kind differs (Some y) = refl
extent_other m object offset scalar v other (pos n) kind differs (Some y) =
    ap (λ o. if nat_lt n y.size then found_slot other n y.constant o else Err Bounds)
    (put_other other n kind object offset scalar v m.slots (λ same. differs ((λ i. At (same.0 i) (pos (same.1 i))), same.2)))

pub other_accesses_find : OtherAccessesFind
unfolding found_at
other_accesses_find m object offset scalar v (Int z) kind differs = refl
other_accesses_find m object offset scalar v Null kind differs = refl
other_accesses_find m object offset scalar v (Code name) kind differs = refl
other_accesses_find m object offset scalar v (At other place) kind differs = extent_other m object offset scalar v other place kind differs _

-- ---- registers by position

pub put_here : (values : List Value) (k : ℕ) (v : Value) → k < length values → value_at (put_at values (Some k) v) (Some k) ≡ v
put_here values k v within = unwrap_or-slice_get (slice_set values k v) k Null ∙ get_or-set_same values k v Null within

pub put_there : (values : List Value) (k j : ℕ) (v : Value) → (j ≡ k → ⊥) → value_at (put_at values (Some k) v) (Some j) ≡ value_at values (Some j)
put_there values k j v differs = unwrap_or-slice_get (slice_set values k v) j Null ∙ (get_or-set_other values k j v Null differs ∙ sym (unwrap_or-slice_get values j Null))

-- ---- positions by name

module _ {X : Type 0} (key : X → List ℕ) where
  -- what stands at the position of a name has the name
  pub place_named : (xs : List X) (name : List ℕ) (k : ℕ) → position (λ x. bytes_eq (key x) name) xs ≡ Some k → (x : X) × (slice_get xs k ≡ Some x) × (key x ≡ name)
  place_named [] name k e = cc
  place_named (x ∷ xs) name k e =
      let h = position-Some (λ (y : X). bytes_eq (key y) name) (x ∷ xs) k x e in
      (get_or (x ∷ xs) k x, slice_get-get_or (x ∷ xs) k x h.0, same_name_true (key (get_or (x ∷ xs) k x)) name h.1)

  -- so two names with one position are the same
  pub one_name : (xs : List X) (name other : List ℕ) (k : ℕ) → position (λ x. bytes_eq (key x) name) xs ≡ Some k → position (λ x. bytes_eq (key x) other) xs ≡ Some k → name ≡ other
  one_name xs name other k e f =
      let a = place_named xs name k e in
      let b = place_named xs other k f in
      let items : Some a.0 ≡ Some b.0 = sym a.1 ∙ b.1 in
      let same : a.0 ≡ b.0 = cc in
      sym a.2 ∙ (ap key same ∙ b.2)

-- ---- registers by name

pub register_within : (declared : List Register) (name : List ℕ) (k : ℕ) → register_place declared name ≡ Some k → k < length declared
unfolding register_place
register_within declared name k e = let h = place_named (λ (r : Register). r.name) declared name k e in slice_get_within declared k h.0 h.1

pub one_register : (declared : List Register) (name other : List ℕ) (k : ℕ) → register_place declared name ≡ Some k → register_place declared other ≡ Some k → name ≡ other
unfolding register_place
one_register declared name other k e f = one_name (λ (r : Register). r.name) declared name other k e f

pub assigned_registers_hold : AssignedRegistersHold
unfolding value_in
assigned_registers_hold scope values name v k count e =
    let within : k < length scope.declared = register_within scope.declared name k e in
    rw e (put_here values k v (omega (arith, count, within)))

other_by : (declared : List Register) (values : List Value) (name other : List ℕ) (v : Value) → (name ≡ other → ⊥) → (o : Option ℕ) → register_place declared name ≡ o → (n : Option ℕ) → register_place declared other ≡ n → value_at (put_at values o v) n ≡ value_at values n
other_by declared values name other v differs None e n f = refl
other_by declared values name other v differs (Some k) e None f = refl
other_by declared values name other v differs (Some k) e (Some j) f = put_there values k j v (λ same. differs (one_register declared name other k e (f ∙ ap Some same)))

pub other_registers_stay : OtherRegistersStay
unfolding value_in
other_registers_stay scope values name other v differs = other_by scope.declared values name other v differs (register_place scope.declared name) refl (register_place scope.declared other) refl

pub assignments_keep_counts : AssignmentsKeepCounts
assignments_keep_counts scope values name v = put_length values (register_place scope.declared name) v
