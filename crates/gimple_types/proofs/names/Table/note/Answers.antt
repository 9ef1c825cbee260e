use Rattle.std.proofs.Common.{◌≡◌, ap, sym, ◌∙◌, not, is_some, true, false, [], ◌∷◌, ◌++◌}
use Rattle.indexmap.proofs.CallerLemmas.{insert_entry-new}
use Rattle.gimple_types.proofs.TableLemmas.{found_plain, plain_pushed, noted_old, noted_new}
use Rattle.struct_tables.proofs.KeptLemmas.{no_value}
use Rattle.gimple_core.specs.Env.{named}
use Rattle.gimple_types.specs.Tables.{plain}
use Rattle.gimple_types.proofs.names.Table.note.Goals as goal

pub returns-then-contains_key-clause-new : goal.returns-then-contains_key-clause-new
returns-then-contains_key-clause-new g c =
    let there : is_some (named c.args.name.now c.args.self.now) ≡ true
    = ap (λ l. is_some (named c.args.name.now l)) (sym c.self.view_is) ∙ found_plain c.args.name.now c.self.inside.map.entries ∙ sym c.contains_key.ensures ∙ c.if-contains_key.true in
    ap not (sym there)

pub returns-then-contains_key-clause-ok : goal.returns-then-contains_key-clause-ok
returns-then-contains_key-clause-ok g c =
    let there : is_some (named c.args.name.now c.args.self.now) ≡ true
    = ap (λ l. is_some (named c.args.name.now l)) (sym c.self.view_is) ∙ found_plain c.args.name.now c.self.inside.map.entries ∙ sym c.contains_key.ensures ∙ c.if-contains_key.true in
    noted_old c.args.self.now c.args.name.now c.args.item.now there

pub returns-clause-new : goal.returns-clause-new
returns-clause-new g c =
    let there : is_some (named c.args.name.now c.args.self.now) ≡ false
    = ap (λ l. is_some (named c.args.name.now l)) (sym c.self.view_is) ∙ found_plain c.args.name.now c.self.inside.map.entries ∙ sym c.contains_key.ensures ∙ c.if-contains_key.false in
    ap not (sym there)

pub returns-clause-ok : goal.returns-clause-ok
returns-clause-ok g c =
    let there : is_some (named c.args.name.now c.args.self.now) ≡ false
    = ap (λ l. is_some (named c.args.name.now l)) (sym c.self.view_is) ∙ found_plain c.args.name.now c.self.inside.map.entries ∙ sym c.contains_key.ensures ∙ c.if-contains_key.false in
    let gone = no_value _ (sym c.contains_key.ensures ∙ c.if-contains_key.false) in
    ap plain (c.in_ok-insert.ensures.entries ∙ insert_entry-new _ c.self.inside.map c.args.name c.args.item gone)
    ∙ plain_pushed c.self.inside.map.entries c.args.name c.args.item
    ∙ ap (λ l. l ++ (c.args.name.now, c.args.item.now) ∷ []) c.self.view_is
    ∙ noted_new c.args.self.now c.args.name.now c.args.item.now there
