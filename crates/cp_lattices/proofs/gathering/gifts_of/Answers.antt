use Rattle.std.proofs.Common.{◌≡◌, ◌≤◌, None, length, sym, ◌∙◌, ap, subst, arith, slice_get}
use Rattle.std.specs.Option.{option_copied}
use Rattle.gimple_ir.specs.declared.program.Program.{Program}
use Rattle.cp_lattices.specs.GiftLists.{WereGatheredBelow}
use Rattle.cp_lattices.proofs.FunctionGifts.{first_none, none_missing, next_function, were_gathered}
use Rattle.cp_lattices.proofs.gathering.gifts_of.Goals as goal

pub loop-number-init : goal.loop-number-init
loop-number-init g c = subst (WereGatheredBelow c.args.tables.now.program c.args.tables.now.size c.args.symbols.now 0) (sym c.new-gifts.ensures) (first_none c.args.tables.now.program c.args.tables.now.size c.args.symbols.now)

pub unreachable-requires : goal.unreachable-requires
unreachable-requires g c =
    let count : c.len-count.result ≡ length c.args.tables.now.program.program.functions = c.len-count.ensures ∙ ap (λ (q : Program). length q.functions) c.program.ensures.same in
    let missing : None ≡ slice_get c.args.symbols.now c.loop-number.number = subst (λ o. option_copied o ≡ slice_get c.args.symbols.now c.loop-number.number) c.in_default.is c.get.ensures in
    none_missing c.args.tables.now.program c.args.tables.now.size c.args.symbols.now c.loop-number.number c.len-count.result c.loop-number-test.true (count ∙ sym c.requires.symbols.count) missing

pub loop-number-preserved : goal.loop-number-preserved
loop-number-preserved g c =
    next_function c.args.tables.now.program c.args.tables.now.size c.args.symbols.now c.loop-number.number c.loop-number.gifts c.put_function.new.gifts c.in-Some.own.now (sym c.in-Some.ensures) c.loop-number.invariant c.in_ok-put_function.ensures

pub returns : goal.returns
returns g c =
    let count : c.len-count.result ≡ length c.args.tables.now.program.program.functions = c.len-count.ensures ∙ ap (λ (q : Program). length q.functions) c.program.ensures.same in
    let past = c.loop-number-test.false in
    let end : c.loop-number.number ≤ c.len-count.result = c.loop-number.auto.number-end in
    were_gathered c.args.tables.now.program c.args.tables.now.size c.args.symbols.now c.loop-number.number c.loop-number.gifts (omega (arith, past, end, count)) c.requires.symbols c.loop-number.invariant
