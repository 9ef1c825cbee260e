use Rattle.gimple_exec.proofs.MachineLemmas.{opens_empty, enters, spent, sparing, sparing_sound}
use Rattle.std.proofs.Common.{arith}
use Rattle.gimple_exec.proofs.machine.Machine.enter.Goals as goal

pub returns-then-is_bodiless : goal.returns-then-is_bodiless
returns-then-is_bodiless c =
    opens_empty c.args.program.now c.args.self.now _ _ c.args.k (c.is_bodiless.ensures.0 c.if-is_bodiless.true)

pub returns : goal.returns
returns c =
    enters c.args.program.now (sparing c.args.self.now c.spare_row-row.new.rows) _ _ c.args.k c.in_ok-registers.registers.items _ c.requires.within
    (λ e. let t = c.is_bodiless.ensures.1 e in let f = c.if-is_bodiless.false in cc)
    c.in_ok-registers.ensures c.in_ok-begin.ensures (sparing_sound c.args.program.now c.args.self.now c.spare_row-row.new.rows c.requires.sound)

pub returns-then-self-from : goal.returns-then-self-from
returns-then-self-from c =
    spent c.args.program.now c.args.self.now _ _ c.args.k
    (λ e. let t = c.is_bodiless.ensures.1 e in let f = c.if-is_bodiless.false in cc)
    (omega arith)
