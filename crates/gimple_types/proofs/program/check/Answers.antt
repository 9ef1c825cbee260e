use Rattle.std.proofs.Common.{rules, ◌≡◌, ◌==◌, [], Ok, IfErr}
use Rattle.gimple_ir.specs.declared.program.Program.{Program}
use Rattle.gimple_core.specs.Accepted.{known_env}
use Rattle.gimple_core.specs.Declarations as spec
use Rattle.gimple_core.specs.Env.{globals_by_name, targets_of}
use Rattle.gimple_types.specs.Seen.{targets_if}
use Rattle.gimple_types.specs.Verdicts.{Gives, Judges, Refuses}
use Rattle.gimple_types.proofs.ProgramLemmas.{heads_refuse, functions_pass, functions_refuse}
use Rattle.gimple_types.proofs.program.check.Goals as goal

pub returns-in_err-callees-clause-err : goal.returns-in_err-callees-clause-err
returns-in_err-callees-clause-err c =
    let p : Program = c.args.program.now in
    let e1 : spec.structs p.structs 0 [] p.structs ≡ Ok tt = search rules in
    let same : c.in_ok-structs.structs ≡ p.structs = search rules in
    let e2 : spec.globals p.structs (targets_of p) (globals_by_name p.globals) 0 [] p.globals ≡ Ok c.in_ok-variables.variables = search rules in
    let j : Gives (spec.heads c.in_ok-variables.variables 0 [] p.functions) c.heads.result = search rules in
    let refused : IfErr c.heads.result (Refuses p) = heads_refuse p c.in_ok-variables.variables e1 e2 _ j in
    search rules

pub returns-clause-ok : goal.returns-clause-ok
returns-clause-ok c =
    let p : Program = c.args.program.now in
    let e1 : spec.structs p.structs 0 [] p.structs ≡ Ok tt = search rules in
    let same : c.in_ok-structs.structs ≡ p.structs = search rules in
    let e2 : spec.globals p.structs (targets_of p) (globals_by_name p.globals) 0 [] p.globals ≡ Ok c.in_ok-variables.variables = search rules in
    let e3 : spec.heads c.in_ok-variables.variables 0 [] p.functions ≡ Ok c.in_ok-callees.callees = search rules in
    let e4 : spec.main 0 p.functions ≡ Ok tt = search rules in
    let j : Judges (spec.functions (known_env p.structs (targets_if (p.profile == 2) c.in_ok-callees.callees) c.in_ok-variables.variables) c.in_ok-callees.callees 0 p.functions) c.functions.result tt = search rules in
    functions_pass p c.in_ok-variables.variables e1 e2 c.in_ok-callees.callees e3 e4 c.functions.result j

pub returns-clause-err : goal.returns-clause-err
returns-clause-err c =
    let p : Program = c.args.program.now in
    let e1 : spec.structs p.structs 0 [] p.structs ≡ Ok tt = search rules in
    let same : c.in_ok-structs.structs ≡ p.structs = search rules in
    let e2 : spec.globals p.structs (targets_of p) (globals_by_name p.globals) 0 [] p.globals ≡ Ok c.in_ok-variables.variables = search rules in
    let e3 : spec.heads c.in_ok-variables.variables 0 [] p.functions ≡ Ok c.in_ok-callees.callees = search rules in
    let e4 : spec.main 0 p.functions ≡ Ok tt = search rules in
    let j : Judges (spec.functions (known_env p.structs (targets_if (p.profile == 2) c.in_ok-callees.callees) c.in_ok-variables.variables) c.in_ok-callees.callees 0 p.functions) c.functions.result tt = search rules in
    functions_refuse p c.in_ok-variables.variables e1 e2 c.in_ok-callees.callees e3 e4 c.functions.result j
