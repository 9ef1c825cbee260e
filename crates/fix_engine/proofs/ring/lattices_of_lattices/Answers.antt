use Rattle.std.proofs.Common.{rules, ◌≡◌, Bool, true, false, List, [], ◌∷◌, refl, sym, subst}
use Rattle.fix_engine.specs.Rows.{FitsRows}
use Rattle.fix_engine.specs.Truth.{FitsAny}
use Rattle.fix_engine.proofs.ring.lattices_of_lattices.Goals as goal

two_fit : (xs : List Bool) → xs ≡ false ∷ true ∷ [] → FitsRows FitsAny (2 ∷ []) xs
two_fit xs is = let P : List Bool → Type 0 = λ ys. FitsRows FitsAny (2 ∷ []) ys in subst P (sym is) (refl, (tt, (tt, tt)))

pub leq-requires : goal.leq-requires
leq-requires g c = (1 ∷ 2 ∷ [], tt, (two_fit c.new.result (search rules), tt))

pub join-requires : goal.join-requires
join-requires g c = (1 ∷ 2 ∷ [], tt, (two_fit c.new.result (search rules), tt))
