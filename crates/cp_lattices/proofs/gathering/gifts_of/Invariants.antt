use Rattle.cp_lattices.specs.GiftLists.{WereGatheredBelow}
use Rattle.cp_lattices.proofs.gathering.gifts_of.Given as goal

abbrev pub invariant-loop-number : goal.invariant-loop-number
invariant-loop-number g l = WereGatheredBelow l.tables.program l.tables.size l.symbols l.number l.gifts
