-- What code makes abstract values with.
use Rattle.cp_lattices.specs.declared.carry.Maker.{Maker}
use Rattle.cp_lattices.specs.Carried.{Making}

abbrev pub making : Maker → Making
making m = record { mode = m.mode; limits = m.limits.now }
