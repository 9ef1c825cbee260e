use Rattle.std.proofs.Common.{◌≡◌, ◌↔◌, ◌+◌, ◌^◌, ◌<◌, ◌++◌, ℕ, Bool, true, List, length, set, slice_get, Some, rules, sym, ◌∙◌, ap, subst}
use Rattle.gimple_ir.specs.declared.declarations.Register.{Register}
use Rattle.gimple_ir.specs.declared.program.Function.{Function}
use Rattle.gimple_ir.specs.declared.program.Program.{Program}
use Rattle.gimple_core.specs.Reach.{IsAddressed}
use Rattle.cp_lattices.specs.Numbered.{nodes_from}
use Rattle.cp_lattices.proofs.Numberings.{few_nodes, all_at, numbered_more}
use Rattle.cp_lattices.proofs.numbering.put.Goals as goal

pub overflow_cast-first : goal.overflow_cast-first
overflow_cast-first c = let few = few_nodes c.args.program.now c.args.numbering.now c.requires.numbered c.requires.few in search rules

pub overflow_add-first : goal.overflow_add-first
overflow_add-first c = let few = few_nodes c.args.program.now c.args.numbering.now c.requires.numbered c.requires.few in search rules

pub push_formals-requires : goal.push_formals-requires
push_formals-requires c =
    let own : slice_get c.args.program.now.program.functions c.args.function ≡ Some c.in-Some.known.now = ap (λ (p : Program). slice_get p.functions c.args.function) (sym c.program.ensures.same) ∙ sym c.in-Some.ensures.value in
    let few = all_at (λ (f : Function). length f.params < 2 ^ 32) c.args.program.now.program.functions c.args.function c.in-Some.known.now c.requires.countable.formals own in
    search rules

pub returns-clause-numbered : goal.returns-clause-numbered
returns-clause-numbered c =
    let own : slice_get c.args.program.now.program.functions c.args.function ≡ Some c.in-Some.known.now = ap (λ (p : Program). slice_get p.functions c.args.function) (sym c.program.ensures.same) ∙ sym c.in-Some.ensures.value in
    let is : (c.is_marked-addressed.result ≡ true) ↔ IsAddressed c.args.program.now.program c.in-Some.known.now.name =
    subst (λ (b : Bool). (b ≡ true) ↔ IsAddressed c.args.program.now.program c.in-Some.known.now.name) (sym c.is_marked-addressed.ensures) (c.requires.marks.exact c.args.function c.in-Some.known.now own) in
    let zeroth : c.first_of.result ≡ 0 = search rules in
    numbered_more c.args.program.now c.args.numbering.now _ c.args.function c.in-Some.known.now c.is_marked-addressed.result c.requires.numbered own is
    (sym c.first_of.ensures ∙ zeroth)
    (c.in_ok-push_formals.ensures ∙ ap (λ (rs : List Register). c.args.numbering.now.nodes ++ nodes_from c.args.function c.is_marked-addressed.result 0 rs) c.as_slice.ensures)
    (c.set.ensures ∙ ap (λ (k : ℕ). set c.args.numbering.now.firsts c.args.function (k + 1)) c.len.ensures)
