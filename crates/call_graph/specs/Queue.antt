-- The components that do not stand yet, each known by its first node: what their edges lead to, and which are ready.
use Rattle.std.specs.Prelude.{◌≡◌, ◌↔◌, ℕ, ◌<◌, ◌⊎◌, Bool, true, false, List, [], ◌∷◌, ◌++◌, length, Contains, slice_index_or, Vec}
use Rattle.std.specs.declared.alloc.Global.{Global}
use Rattle.call_graph.specs.Firsts.{IsFirst}
use Rattle.call_graph.specs.Walk.{row_at}

abbrev pub flat : List (List ℕ) → List ℕ
flat [] = []
flat (c ∷ cs) = c ++ flat cs

-- the marks of first nodes say which nodes stand
abbrev pub SayStanding : ℕ → List ℕ → List ℕ → List Bool → Type 0
SayStanding n firsts s standing = (a : ℕ) → a < n → (slice_index_or standing (slice_index_or firsts a 0) false ≡ true) ↔ Contains s a

-- targets that stand are taken out of a list, and no others
pub record AreTrimmed (standing : List Bool) (old new : List ℕ) : Type 0 where
  pub fewer : (c : ℕ) → Contains new c → Contains old c
  pub kept : (c : ℕ) → Contains old c → slice_index_or standing c false ≡ false → Contains new c

-- all numbers are of nodes
pub record AreNodes (standing ready : List Bool) (waiting leaving : List (Vec ℕ Global)) : Type 0 where
  pub ready_each : length ready ≡ length standing
  pub waiting_each : length waiting ≡ length standing
  pub leaving_each : length leaving ≡ length standing
  pub ends : (r c : ℕ) → Contains (row_at leaving r) c → c < length standing
  pub waits : (c r : ℕ) → Contains (row_at waiting c) r → r < length standing

-- the component waits for a target of its edges that does not stand
abbrev pub Waits : List Bool → List (Vec ℕ Global) → List (Vec ℕ Global) → ℕ → Type 0
Waits standing waiting leaving r = (c : ℕ) × Contains (row_at leaving r) c × (slice_index_or standing c false ≡ false) × Contains (row_at waiting c) r

-- what is kept of the edges leads to all that does not stand; each component that does not stand is ready, waits, or is
-- still to be settled
pub record IsQueue (firsts : List ℕ) (between : ℕ → List ℕ) (rest : List ℕ) (standing ready : List Bool) (waiting leaving : List (Vec ℕ Global)) : Type 0 where
  pub left : (r c : ℕ) → Contains (between r) c → (slice_index_or standing c false ≡ true) ⊎ Contains (row_at leaving r) c
  pub sound : (r c : ℕ) → Contains (row_at leaving r) c → Contains (between r) c
  pub ready_is : (r : ℕ) → slice_index_or ready r false ≡ true → IsFirst firsts r × (slice_index_or standing r false ≡ false) × (row_at leaving r ≡ [])
  pub is_kept : (r : ℕ) → IsFirst firsts r → slice_index_or standing r false ≡ false → (slice_index_or ready r false ≡ true) ⊎ Contains rest r ⊎ Waits standing waiting leaving r
  pub waits_is : (r c : ℕ) → Contains (row_at waiting c) r → slice_index_or standing c false ≡ false → IsFirst firsts r × (slice_index_or standing r false ≡ false) × Contains (row_at leaving r) c
  pub rest_is : (r : ℕ) → Contains rest r → IsFirst firsts r × (slice_index_or standing r false ≡ false)

-- no component stands, is ready or waits, and all its edges are kept
pub record IsUnsettled (n : ℕ) (between : ℕ → List ℕ) (standing ready : List Bool) (waiting leaving : List (Vec ℕ Global)) : Type 0 where
  pub one_each : length standing ≡ n
  pub nodes : AreNodes standing ready waiting leaving
  pub none_stands : (a : ℕ) → slice_index_or standing a false ≡ false
  pub none_ready : (a : ℕ) → slice_index_or ready a false ≡ false
  pub none_waits : (c : ℕ) → row_at waiting c ≡ []
  pub all_left : (r : ℕ) → row_at leaving r ≡ between r
