-- Which edges are dirty, and how often each is out.
use Rattle.std.specs.Prelude.{◌≡◌, ℕ, ◌+◌, ◌-◌, ◌<◌, ◌&&◌, Bool, true, false, List, length, slice_index, slice_index_or, slice_set, nat_lt}

pub record Marks : Type 0 where
  pub dirty : List Bool
  pub out : List ℕ

-- the edge is dirty, and out fewer than 2^32 - 1 times
abbrev pub is_ready : List Bool → List ℕ → ℕ → Bool
is_ready dirty out e = slice_index_or dirty e false && nat_lt (slice_index out e) 4294967295

-- the least edge that is ready
pub record IsNextReady (dirty : List Bool) (out : List ℕ) (e : ℕ) : Type 0 where
  pub is_edge : e < length dirty
  pub ready : is_ready dirty out e ≡ true
  pub first : (d : ℕ) → d < e → is_ready dirty out d ≡ false

-- the edge is no longer dirty, and out once more
abbrev pub after_taken : Marks → ℕ → Marks
after_taken m e = record { dirty = slice_set m.dirty e false; out = slice_set m.out e (slice_index m.out e + 1) }

-- the edge is dirty, and out once less
abbrev pub after_given : Marks → ℕ → Marks
after_given m e = record { dirty = slice_set m.dirty e true; out = slice_set m.out e (slice_index m.out e - 1) }

-- the edges that are ready are marked
pub record AreReady (dirty : List Bool) (out : List ℕ) (ready : List Bool) : Type 0 where
  pub out_each : length out ≡ length dirty
  pub ready_each : length ready ≡ length dirty
  pub few : (e : ℕ) → slice_index out e < 4294967296
  pub ready_is : (e : ℕ) → e < length dirty → slice_index_or ready e false ≡ is_ready dirty out e
