use Rattle.std.proofs.Common.{◌≡◌, ◌∙◌, sym, subst, ◌<◌, ◌^◌, length}
use Rattle.std.specs.List.{All}
use Rattle.std.specs.Prelude.{IfOk}
use Rattle.gimple_ir.specs.declared.program.Program.{Program}
use Rattle.gimple_core.specs.Sealed.{Sealed}
use Rattle.gimple_core.specs.Run.{Run}
use Rattle.gimple_exec.specs.Machines.{IsLimited}
use Rattle.gimple_exec.proofs.Accepted.{limited}
use Rattle.gimple_exec.proofs.interpreter.run.Goals as goal

pub new-requires : goal.new-requires
new-requires c = record {
  limits = subst IsLimited (λ i. record { program = sym c.program.ensures.same i; mode = sym c.mode-mode.ensures i }) (limited c.args.program.now c.program.ensures.accepted c.requires.globals c.requires.locals);
  locals = subst (λ (p : Program). All (λ f. length f.locals < 2 ^ 32) p.functions) (sym c.program.ensures.same) c.requires.locals;
}

pub run_indexed-requires : goal.run_indexed-requires
run_indexed-requires c =
    let same : c.in_ok-indexed.indexed ≡ c.args.program.now = c.in_ok-indexed.ensures ∙ (λ i. record { program = c.program.ensures.same i; mode = c.mode-mode.ensures i }) in
    subst IsLimited (sym same) (limited c.args.program.now c.program.ensures.accepted c.requires.globals c.requires.locals)

pub returns : goal.returns
returns c =
    let same : c.in_ok-indexed.indexed ≡ c.args.program.now = c.in_ok-indexed.ensures ∙ (λ i. record { program = c.program.ensures.same i; mode = c.mode-mode.ensures i }) in
    subst (λ (p : Sealed). IfOk c.run_indexed.result (λ o. o ≡ Run p c.args.input.now c.args.turns)) same c.run_indexed.ensures
