use Rattle.std.proofs.Common.{rules, ◌≡◌, ◌∙◌, ap, sym, subst, map, length}
use Rattle.gimple_core.specs.Run.{main_name}
use Rattle.icf_classes.specs.Placed.{number_of, callees_of}
use Rattle.icf_classes.specs.Codes.{AreFormClasses}
use Rattle.icf_classes.specs.Settled.{settled_classes}
use Rattle.icf_classes.proofs.Settling.{rows_count, rows_below, largest_found}
use Rattle.icf_classes.proofs.largest.classes.Goals as goal

pub refine-requires-clause-count : goal.refine-requires-clause-count
refine-requires-clause-count c =
    let first : c.as_slice.result.now ≡ c.in_ok-first.first.items = search rules in
    let items : c.as_slice-2.result.now ≡ c.in_ok-rows.rows.items = search rules in
    let forms : AreFormClasses c.args.program.now.program c.in_ok-first.first.items = search rules in
    let rows : map (λ row. row.items) c.in_ok-rows.rows.items ≡ map (callees_of c.args.program.now.program) c.args.program.now.program.functions = search rules in
    ap length items ∙ (rows_count (λ row. row.items) c.args.program.now.program c.in_ok-first.first.items c.in_ok-rows.rows.items forms rows ∙ sym (ap length first))

pub refine-requires-clause-items : goal.refine-requires-clause-items
refine-requires-clause-items c =
    let first : c.as_slice.result.now ≡ c.in_ok-first.first.items = search rules in
    let items : c.as_slice-2.result.now ≡ c.in_ok-rows.rows.items = search rules in
    let forms : AreFormClasses c.args.program.now.program c.in_ok-first.first.items = search rules in
    let rows : map (λ row. row.items) c.in_ok-rows.rows.items ≡ map (callees_of c.args.program.now.program) c.args.program.now.program.functions = search rules in
    rows_below c.args.program.now.program c.program-source.ensures.accepted c.as_slice.result.now _ (subst (AreFormClasses c.args.program.now.program) (sym first) forms) (ap (λ rs. map (λ row. row.items) rs) items ∙ rows)

pub returns : goal.returns
returns c =
    let first : c.as_slice.result.now ≡ c.in_ok-first.first.items = search rules in
    let items : c.as_slice-2.result.now ≡ c.in_ok-rows.rows.items = search rules in
    let forms : AreFormClasses c.args.program.now.program c.in_ok-first.first.items = search rules in
    let rows : map (λ row. row.items) c.in_ok-rows.rows.items ≡ map (callees_of c.args.program.now.program) c.args.program.now.program.functions = search rules in
    let main : c.number-main.result ≡ number_of c.args.program.now.program main_name = search rules in
    let settled : c.in_ok-representatives.representatives ≡ settled_classes c.in_ok-classes.classes.items c.number-main.result = search rules in
    record {
      largest = largest_found c.args.program.now.program c.program-source.ensures.accepted c.as_slice.result.now _ (subst (AreFormClasses c.args.program.now.program) (sym first) forms) (ap (λ rs. map (λ row. row.items) rs) items ∙ rows)
          c.in_ok-classes.classes.items c.in_ok-classes.ensures c.number-main.result main c.in_ok-representatives.representatives settled;
    }
