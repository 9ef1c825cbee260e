use Rattle.std.proofs.Common.{◌≡◌, drop}
use Rattle.gimple_core.specs.Run.{same_scalars}
use Rattle.gimple_exec.proofs.SignatureLemmas.{scalars_of}
use Rattle.gimple_exec.proofs.indexed.have_scalars.Given as goal

abbrev pub invariant-loop-k : goal.invariant-loop-k
invariant-loop-k l = same_scalars (scalars_of (drop l.k l.params)) (drop l.k l.scalars) ≡ same_scalars (scalars_of l.params) l.scalars
