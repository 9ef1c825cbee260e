use Rattle.std.proofs.Common.{rules, ◌≡◌, true, set, get_or, sym, ap, subst, ◌∙◌}
use Rattle.std.proofs.lemmas.List.{get_or_read_under}
use Rattle.fix_engine.proofs.Rising.{joined_below}
use Rattle.fix_board.proofs.joining.join_into.Goals as goal

pub leq-requires : goal.leq-requires
leq-requires g c =
    let x = c.index_mut-into.result.now in
    let h = c.requires.alike x in
    let P : g.row.V.Denot → Type 0 = λ v. g.V.Lattice.fits h.0 v in
    (h.0, h.2, subst P (sym c.index_mut-into.ensures.value) h.1)

pub join-requires : goal.join-requires
join-requires g c =
    let x = c.index_mut-into.result.now in
    let h = c.requires.alike x in
    let P : g.row.V.Denot → Type 0 = λ v. g.V.Lattice.fits h.0 v in
    (h.0, subst P (sym c.index_mut-into.ensures.value) h.1, h.2)

pub returns-then-leq-clause-values : goal.returns-then-leq-clause-values
returns-then-leq-clause-values g c = λ d.
    let xs = c.args.values.now.items in
    let n = c.args.node in
    let h = c.requires.alike d in
    let is = get_or_read_under xs n c.args.values.now.len c.index_mut-into.result.now d c.index_mut-into.ensures.value c.requires.node (search rules) in
    let low : g.V.Lattice.below c.args.found.now (get_or xs n d) ≡ true = cc (is, c.if-leq.ensures) in
    let same = joined_below g.met.V.Lattice.laws h.0 (get_or xs n d) c.args.found.now h.1 h.2 low in
    ap (set xs n) (is ∙ sym same)
