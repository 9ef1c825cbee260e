use Rattle.std.proofs.Common.{rules, ◌≡◌, [], not, Ok, refl, sym, ap, ◌∙◌, subst}
use Rattle.gimple_core.specs.Declarations as spec
use Rattle.gimple_core.specs.Verdict.{demand}
use Rattle.gimple_types.specs.Seen.{known_of, seen}
use Rattle.gimple_types.specs.Verdicts.{Becomes}
use Rattle.gimple_core.specs.Env.{Env}
use Rattle.gimple_core.proofs.ProgramTyped.{registers_are, locals_are}
use Rattle.gimple_types.proofs.NameLemmas.{not_empty}
use Rattle.gimple_types.proofs.declare.own.Goals as goal

pub returns-in_err-labels : goal.returns-in_err-labels
unfolding spec.own
returns-in_err-labels c =
    let first : Env = record (known_of c.args.known.now) { locals = []; registers = []; labels = []; result = c.args.function.now.result } in
    let e1 : spec.registers first c.args.known.now.functions c.args.function.now.params ≡ Ok (seen c.args.known.now c.registers.new.own) = search rules in
    let e2 : spec.locals (seen c.args.known.now c.registers.new.own) c.args.known.now.functions c.args.function.now.locals ≡ Ok (seen c.args.known.now c.locals.new.own) = search rules in
    let e3 : spec.registers (seen c.args.known.now c.locals.new.own) c.args.known.now.functions c.args.function.now.registers ≡ Ok (seen c.args.known.now c.registers-2.new.own) = search rules in
    let b : not c.is_empty.result ≡ spec.has_blocks c.args.function.now.blocks = not_empty c.args.function.now.blocks c.is_empty.result c.is_empty.ensures in
    let e4 : demand (spec.has_blocks c.args.function.now.blocks) 10 ≡ Ok tt = search rules in
    let n : c.registers-2.new.own.labels ≡ [] =
    ap (λ (e : Env). e.labels) (registers_are _ _ c.args.known.now.functions c.args.function.now.registers e3) ∙ ap (λ (e : Env). e.labels) (locals_are _ _ c.args.known.now.functions c.args.function.now.locals e2) ∙ ap (λ (e : Env). e.labels) (registers_are first _ c.args.known.now.functions c.args.function.now.params e1) in
    let k : spec.labels c.registers-2.new.own.labels c.as_slice-4.result.now ≡ spec.labels [] c.args.function.now.blocks = ap (λ ls. spec.labels ls c.as_slice-4.result.now) n ∙ ap (spec.labels []) c.as_slice-4.ensures in
    let m : Becomes (spec.labels [] c.args.function.now.blocks) c.labels.result c.labels.new.own = subst (λ v. Becomes v c.labels.result c.labels.new.own) k c.labels.ensures in
    rw e1 (rw e2 (rw e3 (rw e4 (search rules))))

pub returns : goal.returns
unfolding spec.own
returns c =
    let first : Env = record (known_of c.args.known.now) { locals = []; registers = []; labels = []; result = c.args.function.now.result } in
    let e1 : spec.registers first c.args.known.now.functions c.args.function.now.params ≡ Ok (seen c.args.known.now c.registers.new.own) = search rules in
    let e2 : spec.locals (seen c.args.known.now c.registers.new.own) c.args.known.now.functions c.args.function.now.locals ≡ Ok (seen c.args.known.now c.locals.new.own) = search rules in
    let e3 : spec.registers (seen c.args.known.now c.locals.new.own) c.args.known.now.functions c.args.function.now.registers ≡ Ok (seen c.args.known.now c.registers-2.new.own) = search rules in
    let b : not c.is_empty.result ≡ spec.has_blocks c.args.function.now.blocks = not_empty c.args.function.now.blocks c.is_empty.result c.is_empty.ensures in
    let e4 : demand (spec.has_blocks c.args.function.now.blocks) 10 ≡ Ok tt = search rules in
    let n : c.registers-2.new.own.labels ≡ [] =
    ap (λ (e : Env). e.labels) (registers_are _ _ c.args.known.now.functions c.args.function.now.registers e3) ∙ ap (λ (e : Env). e.labels) (locals_are _ _ c.args.known.now.functions c.args.function.now.locals e2) ∙ ap (λ (e : Env). e.labels) (registers_are first _ c.args.known.now.functions c.args.function.now.params e1) in
    let k : spec.labels c.registers-2.new.own.labels c.as_slice-4.result.now ≡ spec.labels [] c.args.function.now.blocks = ap (λ ls. spec.labels ls c.as_slice-4.result.now) n ∙ ap (spec.labels []) c.as_slice-4.ensures in
    let m : spec.labels [] c.args.function.now.blocks ≡ Ok c.labels.new.own = sym k ∙ c.in_ok-labels.ensures in
    rw e1 (rw e2 (rw e3 (rw e4 (rw m refl))))
