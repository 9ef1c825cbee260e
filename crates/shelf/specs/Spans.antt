-- Names and bytes in one buffer.
use Rattle.std.specs.Prelude.{ℕ, ◌-◌, ◌≤◌, ◌<◌, List, [], ◌∷◌, length, take, drop, slice_index_or}
use Rattle.shelf.specs.declared.log.Span.{Span}

abbrev pub entry_at : List ℕ → Span → List ℕ × List ℕ
entry_at bytes s = (take (s.middle - s.from) (drop s.from bytes), take (s.to - s.middle) (drop s.middle bytes))

abbrev pub entries_of : List ℕ → List Span → List (List ℕ × List ℕ)
entries_of bytes [] = []
entries_of bytes (s ∷ ss) = entry_at bytes s ∷ entries_of bytes ss

-- each span lies within the bytes
pub record IsWithin (n : ℕ) (s : Span) : Type 0 where
  pub starts : s.from ≤ s.middle
  pub ends : s.middle ≤ s.to
  pub inside : s.to ≤ n

abbrev pub AreWithin : List ℕ → List Span → Type 0
AreWithin bytes ss = (k : ℕ) (d : Span) → k < length ss → IsWithin (length bytes) (slice_index_or ss k d)
