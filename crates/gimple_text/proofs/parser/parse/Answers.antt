use Rattle.std.proofs.Common.{subst, ap, length}
use Rattle.std.specs.Prelude.{IfOk, IfErr}
use Rattle.gimple_ir.specs.declared.program.Program.{Program}
use Rattle.gimple_grammar.specs.Grammar.{IsProgram}
use Rattle.gimple_grammar.specs.TokenFaults.{FaultOf, ReadsAs}
use Rattle.gimple_text.proofs.Composed.{is_found, is_only, fault_of}
use Rattle.gimple_text.proofs.SizeLaws.{counts_result, countable_result}
use Rattle.gimple_text.proofs.parser.parse.Goals as goal

pub returns-in-Ok-clause-found : goal.returns-in-Ok-clause-found
returns-in-Ok-clause-found c =
    is_found c.args.bytes.now c.in-Ok.lexed.tokens.items c.in-Ok.lexed.left (length c.as_slice-tokens.result.now) c.read-found.result c.judge.result c.in-Ok.ensures
    (subst (λ z. IfOk c.read-found.result (λ p. IsProgram p z)) c.as_slice-tokens.ensures.value c.read-found.ensures.found) c.judge.ensures

pub returns-in-Ok-clause-counts : goal.returns-in-Ok-clause-counts
returns-in-Ok-clause-counts c = counts_result c.args.bytes.now c.judge.result (returns-in-Ok-clause-found c)

pub returns-in-Ok-clause-countable : goal.returns-in-Ok-clause-countable
returns-in-Ok-clause-countable c = countable_result c.args.bytes.now c.judge.result c.requires (returns-in-Ok-clause-found c)

pub returns-in-Ok-clause-only : goal.returns-in-Ok-clause-only
returns-in-Ok-clause-only c =
    is_only c.args.bytes.now c.in-Ok.lexed.tokens.items c.in-Ok.lexed.left (length c.as_slice-tokens.result.now) c.read-found.result c.judge.result c.in-Ok.ensures
    (subst (λ z. (p : Program) → IsProgram p z → ReadsAs p c.read-found.result) c.as_slice-tokens.ensures.value c.read-found.ensures.only) c.judge.ensures

pub returns-in-Ok-clause-fault : goal.returns-in-Ok-clause-fault
returns-in-Ok-clause-fault c =
    fault_of c.args.bytes.now c.in-Ok.lexed.tokens.items c.in-Ok.lexed.left (length c.as_slice-tokens.result.now) c.read-found.result c.judge.result c.in-Ok.ensures (ap length c.as_slice-tokens.ensures.value)
    (subst (λ z. IfOk c.read-found.result (λ p. IsProgram p z)) c.as_slice-tokens.ensures.value c.read-found.ensures.found)
    (subst (λ z. IfErr c.read-found.result (FaultOf z)) c.as_slice-tokens.ensures.value c.read-found.ensures.fault) c.judge.ensures
