use Rattle.body_fold.proofs.Goods.{register_of}
use Rattle.body_fold.proofs.folder.Folder.known_register.Goals as goal

pub known-requires-2 : goal.known-requires-2
known-requires-2 c = record { of = register_of c.args.self.now.scene c.args.row.now c.known.ensures c.requires.fit _ c.args.name.now _ c.in_ok-value.ensures }
