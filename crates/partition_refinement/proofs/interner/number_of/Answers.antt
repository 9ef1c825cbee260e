use Rattle.std.proofs.Common.{Vec, Global, ℤ, refl}
use Rattle.std.specs.Cmp.Lexicographic.{pointwise}
use Rattle.std.specs.Ordering.{int_eq}
use Rattle.std.proofs.lemmas.Bool.Decides.{Decides-int_eq}
use Rattle.std.proofs.lemmas.Slice.Eq.{slice_eq-Decides}
use Rattle.partition_refinement.proofs.Noting.{noted}
use Rattle.partition_refinement.proofs.interner.number_of.Goals as goal

pub returns-clause-noted : goal.returns-clause-noted
returns-clause-noted c =
    let stored = c.in_ok-number.ensures.stored in
    noted (λ (row : Vec ℤ Global). row.items) (λ (x y : Vec ℤ Global). pointwise int_eq x.items y.items) (λ x y. slice_eq-Decides Decides-int_eq x.items y.items (pointwise int_eq x.items y.items) refl) c.args.row c.args.distinct.now.keys c.insert_full.new.self.keys c.in_ok-number.number stored.0 c.in_ok-number.ensures.keys stored.1 stored.2
