use Rattle.std.proofs.Common.{◌∙◌, ap, sym, List, ℕ, slice_get}
use Rattle.std.specs.List.{position_or_len}
use Rattle.std.proofs.lemmas.List.Folds.{find_at}
use Rattle.std.specs.Str.{bytes_eq}
use Rattle.gimple_ir.specs.declared.declarations.Register.{Register}
use Rattle.name_tables.proofs.register_table.RegisterTable.named.Goals as goal

pub returns : goal.returns
returns c =
    c.get.ensures.value
    ∙ ap (λ (k : ℕ). slice_get c.self.inside.registers k) c.place.ensures
    ∙ ap (λ (rs : List Register). slice_get rs (position_or_len (λ r. bytes_eq r.name c.args.name.now) c.args.self.now)) c.self.view_is
    ∙ sym (find_at (λ (r : Register). bytes_eq r.name c.args.name.now) c.args.self.now)
