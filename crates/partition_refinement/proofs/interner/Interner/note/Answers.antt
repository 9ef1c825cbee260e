use Rattle.std.proofs.Common.{Vec, Global, ℤ, List, map, arith}
use Rattle.partition_refinement.proofs.Noting.{number_fits, numbers_kept, rows_kept}
use Rattle.partition_refinement.proofs.interner.Interner.note.Goals as goal

abbrev rows : List (Vec ℤ Global) → List (List ℤ)
rows keys = map (λ row. row.items) keys

pub invariant_of-self : goal.invariant_of-self
invariant_of-self c = rw c.in_err-reserve.ensures.items c.self.invariant

pub invariant_of-self-in_err-number : goal.invariant_of-self-in_err-number
invariant_of-self-in_err-number c = rw (c.in_err-number.ensures.unchanged, c.in_ok-reserve.ensures.items) c.self.invariant

pub overflow_cast-number : goal.overflow_cast-number
overflow_cast-number c =
    let small = number_fits (rows c.self.inside.distinct.keys) (rows c.number_of.new.distinct.keys) c.args.self.now c.self.inside.numbers.items c.args.row.items c.in_ok-number.number c.in_ok-number.ensures.noted c.self.view_is c.self.invariant.few c.requires in
    omega (arith, small)

pub invariant_of-self-in_err-push : goal.invariant_of-self-in_err-push
invariant_of-self-in_err-push c = absurd (omega (arith, c.in_ok-reserve.ensures.ok, c.in_err-push.ensures.full))

pub invariant_of-self-2 : goal.invariant_of-self-2
invariant_of-self-2 c = rw (c.in_ok-push.ensures.items, c.in_ok-reserve.ensures.items) (numbers_kept (rows c.self.inside.distinct.keys) (rows c.number_of.new.distinct.keys) c.self.inside.numbers.items c.args.row.items c.in_ok-number.number c.self.invariant c.in_ok-number.ensures.noted)

pub returns : goal.returns
returns c = rw (c.in_ok-push.ensures.items, c.in_ok-reserve.ensures.items, ← c.self.view_is) (rows_kept (rows c.self.inside.distinct.keys) (rows c.number_of.new.distinct.keys) c.self.inside.numbers.items c.args.row.items c.in_ok-number.number c.self.invariant c.in_ok-number.ensures.noted)
