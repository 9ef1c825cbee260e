use Rattle.fix_engine.specs.Lattice.{AreAlike}
use Rattle.fix_engine.specs.Rows.{FitsRows}
use Rattle.fix_engine.proofs.RowsSteps.{kind_of_items}
use Rattle.fix_engine.proofs.rows.RowsLattice.join.Goals as goal

pub joined_items-requires-clause-fits : goal.joined_items-requires-clause-fits
joined_items-requires-clause-fits g c =
    let alike : AreAlike (FitsRows g.V.Lattice.fits) c.self.inside.items.items c.other.inside.items.items = rw (c.self.view_is, c.other.view_is) c.requires in
    rw (c.as_slice.ensures.value, c.as_slice-2.ensures.value) (kind_of_items g.V.Lattice.fits c.self.inside.items.items c.other.inside.items.items alike)
