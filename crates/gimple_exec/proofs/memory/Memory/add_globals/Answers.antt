use Rattle.std.proofs.Common.{◌∙◌, sym}
use Rattle.gimple_exec.proofs.MadeLemmas.{globals_more, globals_all}
use Rattle.gimple_exec.proofs.memory.Memory.add_globals.Goals as goal

pub returns : goal.returns
returns c =
    sym (globals_all c.args.structs.now c.args.named.now c.loop-k.k c.args.globals.now c.loop-k.self c.loop-k-test.false) ∙ c.loop-k.invariant

pub loop-k-preserved : goal.loop-k-preserved
loop-k-preserved c =
    rw (c.in_ok-add_object.ensures, c.in_ok-layout.ensures, c.as_slice-in-loop-k.ensures.value, c.in_ok-values.ensures, c.as_slice.ensures)
    (globals_more c.args.structs.now c.args.named.now c.loop-k.k c.args.globals.now c.loop-k.self c.index-globals-k.result c.loop-k-test.true c.index-globals-k.is ∙ c.loop-k.invariant)
