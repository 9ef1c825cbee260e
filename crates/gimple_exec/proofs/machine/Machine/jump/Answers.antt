use Rattle.std.proofs.Common.{arith}
use Rattle.gimple_exec.proofs.MachineLemmas.{goes_some, goes_past}
use Rattle.gimple_exec.proofs.machine.Machine.jump.Goals as goal

pub returns : goal.returns
returns c =
    let count = c.block_count.ensures in
    rw c.in-Some.is (goes_some c.args.program.now c.args.self.now c.in-Some.k (omega (arith, count)) c.requires)

pub returns-then-k-block_count : goal.returns-then-k-block_count
returns-then-k-block_count c =
    let count = c.block_count.ensures in
    rw c.in-Some.is (goes_past c.args.program.now c.args.self.now c.in-Some.k (omega (arith, count)))
