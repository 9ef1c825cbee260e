-- From an accepted program to the checks of each of its functions.
use Rattle.std.proofs.Common.{◌≡◌, ℕ, ◌+◌, true, List, [], ◌∷◌, ◌++◌, map, length, subst, None, Ok}
use Rattle.std.specs.List.{AllByRecursion}
use Rattle.std.specs.Str.{bytes_eq}
use Rattle.gimple_ir.specs.declared.statement.Stmt.{Stmt}
use Rattle.gimple_ir.specs.declared.block.Block.{Block}
use Rattle.gimple_ir.specs.declared.program.Function.{Function}
use Rattle.gimple_ir.specs.declared.program.Program.{Program}
use Rattle.gimple_core.specs.Run.{function_named}
use Rattle.gimple_core.specs.Verdict.{pure, at}
use Rattle.gimple_core.specs.Env.{Env, Names, targets_of, globals_by_name, functions_by_name, decls_by_name, registers_by_name}
use Rattle.gimple_core.specs.Statements as s
use Rattle.gimple_core.specs.Declarations as d
use Rattle.gimple_core.specs.Accepted.{checked, first_fault, known_env}
use Rattle.gimple_core.proofs.ProgramTyped.{own_is, own_has_blocks, globals_are}
use Rattle.gimple_core.proofs.Passed.{first_passed, at_passed, no_fault}
use Rattle.gimple_core.proofs.Heads.{heads_are}
use Rattle.gimple_claims.specs.Checks.{StmtsPass, BlocksPass, IsChecked, FunctionsAreChecked}
use Rattle.gimple_claims.proofs.Lists.{all_found}

pub ok_same : {A E : Type 0} {a b : A} → pure {E = E} a ≡ Ok b → a ≡ b
ok_same e = cc

-- ---- what a function sees

pub record Sees (known : Env) (f : Function) (env : Env) : Type 0 where
  pub some : d.has_blocks f.blocks ≡ true
  pub same : env ≡ record known { locals = decls_by_name f.locals; registers = registers_by_name f.params ++ registers_by_name f.registers; labels = map (λ b. b.label) f.blocks; result = f.result }

pub sees : (known env : Env) (names : Names Function) (f : Function) → d.own known names f ≡ Ok env → Sees known f env
sees known env names f h = record { some = own_has_blocks known env names f h; same = own_is known env names f h }

-- ---- bodies

body_passes : (env : Env) (names : Names Function) (index number : ℕ) (xs : List Stmt) → s.body env names index number xs ≡ Ok tt → StmtsPass env names xs
unfolding s.body
body_passes env names index number [] h = tt
body_passes env names index number (x ∷ xs) h =
    let p = first_passed (at _ (s.statement env names x)) _ tt h in
    (at_passed _ (s.statement env names x) tt p.1, body_passes env names index (number + 1) xs p.2)

pub blocks_pass : (env : Env) (names : Names Function) (index number : ℕ) (bs : List Block) → s.blocks env names index number bs ≡ Ok tt → BlocksPass env names bs
unfolding s.blocks
blocks_pass env names index number [] h = tt
blocks_pass env names index number (b ∷ bs) h =
    let p = first_passed (s.body env names index number b.body) _ tt h in
    let q = first_passed (at _ (s.ending env b.end)) _ tt p.2 in
    (record { body = body_passes env names index number b.body p.1; end = at_passed _ (s.ending env b.end) tt q.1 }, blocks_pass env names index (number + length b.body + 1) bs q.2)

module _ (p : Program) where
  abbrev names : Names Function
  names = functions_by_name p.functions

  function_checked : (number : ℕ) (f : Function) → d.one_function (known_env p.structs (targets_of p) (globals_by_name p.globals)) names number f ≡ Ok tt → IsChecked p f
  unfolding d.one_function
  function_checked number f h =
      let e = first_passed (at _ (d.own (known_env p.structs (targets_of p) (globals_by_name p.globals)) names f)) _ tt h in
      let k = sees (known_env p.structs (targets_of p) (globals_by_name p.globals)) e.0 names f (at_passed _ (d.own (known_env p.structs (targets_of p) (globals_by_name p.globals)) names f) e.0 e.1) in
      record { some = k.some; blocks = subst (λ env. BlocksPass env names f.blocks) k.same (blocks_pass e.0 names number 1 f.blocks e.2) }

  functions_checked : (number : ℕ) (fs : List Function) → d.functions (known_env p.structs (targets_of p) (globals_by_name p.globals)) names number fs ≡ Ok tt → AllByRecursion (IsChecked p) fs
  unfolding d.functions
  functions_checked number [] h = tt
  functions_checked number (f ∷ fs) h =
      let e = first_passed (d.one_function (known_env p.structs (targets_of p) (globals_by_name p.globals)) names number f) _ tt h in
      (function_checked number f e.1, functions_checked (number + 1) fs e.2)

  all_checked : first_fault p ≡ None → AllByRecursion (IsChecked p) p.functions
  unfolding first_fault checked
  all_checked h =
      let all = no_fault (checked p) h in
      let a = first_passed (d.structs p.structs 0 [] p.structs) _ tt all in
      let b = first_passed (d.globals p.structs (targets_of p) (globals_by_name p.globals) 0 [] p.globals) _ tt a.2 in
      let c = first_passed (d.heads b.0 0 [] p.functions) _ tt b.2 in
      let m = first_passed (d.main 0 p.functions) _ tt c.2 in
      let variables = globals_are p.structs (targets_of p) (globals_by_name p.globals) 0 [] b.0 p.globals b.1 in
      let callees = heads_are b.0 0 [] c.0 p.functions c.1 in
      functions_checked 0 p.functions (subst (λ t. d.functions (known_env p.structs (targets_of p) (globals_by_name p.globals)) t 0 p.functions ≡ Ok tt) callees
      (subst (λ v. d.functions (known_env p.structs (targets_of p) v) c.0 0 p.functions ≡ Ok tt) variables m.2))

pub functions_are_checked : FunctionsAreChecked
unfolding function_named
functions_are_checked p h name f e = all_found (IsChecked p) (λ g. bytes_eq g.name name) p.functions f (all_checked p h) e
