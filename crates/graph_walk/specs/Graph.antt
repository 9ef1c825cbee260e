-- Directed graphs on numbers, each given by what the edges of a node lead to: what a node reaches, and the first nodes of strong components.
use Rattle.std.specs.Prelude.{◌≡◌, ◌↔◌, ℕ, ◌<◌, ◌≤◌, Bool, true, false, List, length, Contains, slice_index_or}

-- a node reaches itself, and the targets of the edges from what it reaches
pub data Leads (out : ℕ → List ℕ) (root : ℕ) : ℕ → Type 0 where
  start : Leads out root root
  along : (a b : ℕ) → Leads out root a → Contains (out a) b → Leads out root b

-- the marks, one a node, say what the root reaches
pub record AreMarks (out : ℕ → List ℕ) (n root : ℕ) (marks : List Bool) : Type 0 where
  pub one_each : length marks ≡ n
  pub exact : (a : ℕ) → a < n → (slice_index_or marks a false ≡ true) ↔ Leads out root a

-- what a node reaches over nodes that are no walls, itself included
pub data LeadsPast (out : ℕ → List ℕ) (walls : List Bool) (root : ℕ) : ℕ → Type 0 where
  start_past : slice_index_or walls root false ≡ false → LeadsPast out walls root root
  along_past : (a b : ℕ) → LeadsPast out walls root a → Contains (out a) b → slice_index_or walls b false ≡ false → LeadsPast out walls root b

-- each of the two reaches the other
abbrev pub AreMutual : (ℕ → List ℕ) → ℕ → ℕ → Type 0
AreMutual out a b = Leads out a b × Leads out b a

-- one number a node: the first node of its component
pub record AreFirsts (out : ℕ → List ℕ) (n : ℕ) (firsts : List ℕ) : Type 0 where
  pub one_each : length firsts ≡ n
  pub of_component : (a : ℕ) → a < n → AreMutual out a (slice_index_or firsts a 0)
  pub least : (a b : ℕ) → a < n → AreMutual out a b → b < n → slice_index_or firsts a 0 ≤ b
