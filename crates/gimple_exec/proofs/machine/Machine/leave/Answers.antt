use Rattle.std.proofs.Common.{◌∙◌, ap, Vec, Global as Heap}
use Rattle.gimple_ir.specs.declared.value.Value.{Value}
use Rattle.gimple_exec.proofs.MachineLemmas.{leave_arrives}
use Rattle.gimple_exec.proofs.machine.Machine.leave.Goals as goal

pub returns-in-Some : goal.returns-in-Some
returns-in-Some c =
    leave_arrives c.args.program.now c.args.self.now (record c.args.self.now { below = c.pop.new.self }) c.args.value c.in-Some.waiting c.replace-row.new.dest c.leave.new.self c.spare.new.rows
    c.in-Some.ensures.items (ap (λ (v : Vec Value Heap). v.items) c.replace-row.ensures.after ∙ c.give.ensures) c.leave.ensures c.requires
