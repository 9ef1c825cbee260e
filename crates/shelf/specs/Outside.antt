-- What a shelf means, and what its three calls do.
use Rattle.std.specs.Prelude.{◌≡◌, ◌⊎◌, ℕ, ◌+◌, ◌-◌, ◌^◌, ◌<◌, ◌≤◌, min, List, [], ◌++◌, length, take, fold, Option, None, Some, IfSome, IsSomeAnd}
use Rattle.std.specs.Option.{option_map}
use Rattle.std.specs.Ordering.{nat_cmp}
use Rattle.std.specs.Cmp.Lexicographic.{slice_cmp}
use Rattle.std.specs.FinMap.{FinMap, get, insert}
use Rattle.shelf.specs.declared.outside.Fetched.{Fetched}
use Rattle.shelf.specs.declared.outside.Fetched.TheVariants.{Done, Failed, Long, Memory}
use Rattle.shelf.specs.declared.outside.Stored.{Stored}
use Rattle.shelf.specs.declared.outside.Stored.TheVariants.{Done as StoredDone, Failed as StoredFailed}

-- from names to bytes
abbrev pub Contents : Type 0
Contents = FinMap (slice_cmp nat_cmp) (List ℕ)

abbrev pub at_name : Contents → List ℕ → Option (List ℕ)
at_name m name = get m name

abbrev pub put : Contents → List ℕ × List ℕ → Contents
put m pair = insert m pair.0 pair.1

-- each pair put in, the first one first
abbrev pub put_all : List (List ℕ × List ℕ) → Contents → Contents
put_all pairs m = fold put m pairs

-- Each of the first three is `None` where the shelf does not tell it. `sure` is how many bytes it surely takes.
pub record Meaning : Type 0 where
  pub sources : Option Contents
  pub stores : Option Contents
  pub told : Option (List ℕ)
  pub read_faults : ℕ
  pub write_faults : ℕ
  pub tell_faults : ℕ
  -- how many bytes the fetches have taken
  pub taken : ℕ
  pub sure : Option ℕ

pub record InRange (m : Meaning) : Type 0 where
  pub read : m.read_faults < 2 ^ 64
  pub write : m.write_faults < 2 ^ 64
  pub tell : m.tell_faults < 2 ^ 64
  pub taken : m.taken < 2 ^ 64

-- The count has risen by at least this much. One that stands at its end counts as risen, by any amount.
abbrev pub RoseBy : ℕ → ℕ → ℕ → Type 0
RoseBy amount before now = min (before + amount) (2 ^ 64 - 1) ≤ now

abbrev pub Rose : ℕ → ℕ → Type 0
Rose before now = RoseBy 1 before now

-- whatever a fetch answers
pub record Fetches (old new : Meaning) : Type 0 where
  pub sources : new.sources ≡ old.sources
  pub stores : new.stores ≡ old.stores
  pub told : new.told ≡ old.told
  pub write : new.write_faults ≡ old.write_faults
  pub tell : new.tell_faults ≡ old.tell_faults
  pub read : old.read_faults ≤ new.read_faults
  pub taken : old.taken ≤ new.taken
  pub sure : IfSome old.sure (λ r. (new.sure ≡ Some r) × (new.read_faults ≡ old.read_faults))

-- A fact of the source of this name, where sources are told. There is one then.
abbrev pub OnSource : Option Contents → List ℕ → (List ℕ → Type 0) → Type 0
OnSource sources name P = IfSome sources (λ m. IsSomeAnd (at_name m name) P)

-- sources are told, and lack this name
abbrev pub LacksSource : Option Contents → List ℕ → Type 0
LacksSource sources name = IsSomeAnd sources (λ m. at_name m name ≡ None)

-- when each answer of a fetch comes, and what it leaves in `into`
abbrev pub FetchAnswer : Meaning → Meaning → List ℕ → ℕ → Fetched → List ℕ → Type 0
FetchAnswer old new name limit Done into =
    OnSource old.sources name (λ bytes. into ≡ bytes) × (length into ≤ limit) × (new.read_faults ≡ old.read_faults)
FetchAnswer old new name limit Failed into =
    (Rose old.read_faults new.read_faults ⊎ LacksSource old.sources name) × (into ≡ [])
FetchAnswer old new name limit Long into =
    RoseBy (limit + 1) old.taken new.taken × OnSource old.sources name (λ bytes. limit < length bytes) × (into ≡ []) × (new.read_faults ≡ old.read_faults)
FetchAnswer old new name limit Memory into = (into ≡ []) × (new.read_faults ≡ old.read_faults)

-- the cost of a store
abbrev pub cost_of : List ℕ × List ℕ → ℕ
cost_of pair = 1 + length pair.0 + length pair.1

-- whatever a store answers
pub record Stores (old new : Meaning) (name bytes : List ℕ) : Type 0 where
  pub sources : new.sources ≡ old.sources
  pub told : new.told ≡ old.told
  pub read : new.read_faults ≡ old.read_faults
  pub tell : new.tell_faults ≡ old.tell_faults
  pub taken : new.taken ≡ old.taken
  pub write : old.write_faults ≤ new.write_faults
  pub sure : IfSome old.sure (λ r. cost_of (name, bytes) ≤ r → (new.sure ≡ Some (r - cost_of (name, bytes))) × (new.write_faults ≡ old.write_faults))

-- the stores with this pair put in, where they are told
abbrev pub Puts : Option Contents → Option Contents → List ℕ → List ℕ → Type 0
Puts old new name bytes = new ≡ option_map (λ m. put m (name, bytes)) old

-- When each answer of a store comes. What surely fits does not fail.
abbrev pub StoreAnswer : Meaning → Meaning → List ℕ → List ℕ → Stored → Type 0
StoreAnswer old new name bytes StoredDone =
    Puts old.stores new.stores name bytes × (new.write_faults ≡ old.write_faults)
StoreAnswer old new name bytes StoredFailed =
    Rose old.write_faults new.write_faults
    × ((new.stores ≡ old.stores) ⊎ ((k : ℕ) × Puts old.stores new.stores name (take k bytes)))
    × IfSome old.sure (λ r. r < cost_of (name, bytes))

-- the told bytes have grown by these, where they are told
abbrev pub Appends : Option (List ℕ) → Option (List ℕ) → List ℕ → Type 0
Appends old new bytes = new ≡ option_map (λ told. told ++ bytes) old

-- A tell was cut: its count rose, and a part of the bytes was told, where that is told.
pub record IsToldCut (old new : Meaning) (bytes : List ℕ) : Type 0 where
  pub rose : Rose old.tell_faults new.tell_faults
  pub kept : ℕ
  pub told : Appends old.told new.told (take kept bytes)

-- What a tell does. What surely fits is told whole.
pub record Tells (old new : Meaning) (bytes : List ℕ) : Type 0 where
  pub sources : new.sources ≡ old.sources
  pub stores : new.stores ≡ old.stores
  pub read : new.read_faults ≡ old.read_faults
  pub write : new.write_faults ≡ old.write_faults
  pub taken : new.taken ≡ old.taken
  pub tell : old.tell_faults ≤ new.tell_faults
  pub told : Appends old.told new.told bytes ⊎ IsToldCut old new bytes
  pub sure : IfSome old.sure (λ r. length bytes ≤ r → (new.sure ≡ Some (r - length bytes)) × (new.tell_faults ≡ old.tell_faults) × Appends old.told new.told bytes)
