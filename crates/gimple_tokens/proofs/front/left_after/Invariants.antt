use Rattle.std.proofs.Common.{◌≡◌, ◌-◌, false}
use Rattle.gimple_tokens.specs.Lexing.{skip}
use Rattle.gimple_tokens.specs.Front.{walk}
use Rattle.gimple_tokens.proofs.front.left_after.Given as goal

abbrev pub invariant-loop-turn : goal.invariant-loop-turn
invariant-loop-turn l = walk l.count (skip false l.fn.bytes) ≡ walk (l.count - l._turn) l.rest
