use Rattle.value_rows.proofs.values.known_number.Goals as goal

pub known-requires : goal.known-requires
known-requires c = record { of = c.requires.of }
