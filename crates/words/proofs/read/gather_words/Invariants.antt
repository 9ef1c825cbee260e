use Rattle.std.proofs.Common.{◌≡◌, ◌+◌, drop, List}
use Rattle.words.specs.declared.item.Item.{Item}
use Rattle.words.specs.Gathered.{gathered_of, map_gathered, gathered_words}
use Rattle.words.specs.Sequence.{items_from}
use Rattle.words.proofs.Bounds.{AllKeep}
use Rattle.words.proofs.read.gather_words.Given as goal

abbrev pub invariant-loop-i : goal.invariant-loop-i
invariant-loop-i l =
    (seen : List Item) × (l.gathered ≡ gathered_of seen)
    × (map_gathered (items_from seen (l.i + 1) l.pending (drop l.i l.words)) ≡ gathered_words l.words)
    × AllKeep seen
