use Rattle.fix_engine.proofs.ring.all_of_the_ring.Given as goal

abbrev pub ghosts-counted : goal.ghosts-counted
ghosts-counted g a = record { name = a.blank.name; parts = a.blank.parts }
