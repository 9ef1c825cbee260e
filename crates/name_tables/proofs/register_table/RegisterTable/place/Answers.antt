use Rattle.std.proofs.Common.{◌∙◌, ap, List, ℕ, Vec, Global}
use Rattle.std.specs.List.{position_or_len}
use Rattle.std.specs.Option.{unwrap_or}
use Rattle.std.specs.Str.{bytes_eq}
use Rattle.gimple_ir.specs.declared.declarations.Register.{Register}
use Rattle.name_tables.proofs.Naming.{register_place}
use Rattle.name_tables.proofs.register_table.RegisterTable.place.Goals as goal

pub returns-then-len-gt-FEW : goal.returns-then-len-gt-FEW
returns-then-len-gt-FEW c =
    c.unwrap_or.ensures
    ∙ ap (λ (n : ℕ). unwrap_or c.get_index_of-found.result n) c.len-then-len-gt-FEW.ensures
    ∙ register_place (λ (k : Vec ℕ Global). k.items) c.as_slice.result.now c.args.name.now c.self.inside.names.keys c.self.inside.registers c.get_index_of-found.result c.as_slice.ensures c.get_index_of-found.ensures.index (c.self.invariant c.if-self.true)
    ∙ ap (λ (rs : List Register). position_or_len (λ r. bytes_eq r.name c.args.name.now) rs) c.self.view_is
