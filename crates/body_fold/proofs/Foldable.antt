-- What the code asks of a function that is folded, and that it is folded then.
use Rattle.std.proofs.Common.{◌≡◌, ℕ, zero, suc, ◌<◌, ◌≤◌, ◌^◌, Bool, true, false, List, [], ◌∷◌, ◌++◌, length, get_or, sym, ◌∙◌, ap, subst, arith, Some, slice_get}
use Rattle.std.specs.Prelude.{sum_by, find, IfSome}
use Rattle.std.proofs.lemmas.List.Sums.{sum_by-cons}
use Rattle.std.proofs.lemmas.Option.{slice_get_within}
use Rattle.gimple_ir.specs.declared.block.Block.{Block}
use Rattle.gimple_ir.specs.declared.declarations.Global.{Global}
use Rattle.gimple_ir.specs.declared.declarations.Register.{Register}
use Rattle.gimple_ir.specs.declared.declarations.StructDef.{StructDef}
use Rattle.gimple_ir.specs.declared.program.Function.{Function}
use Rattle.gimple_ir.specs.declared.program.Program.{Program}
use Rattle.gimple_core.specs.Sealed.{Sealed}
use Rattle.gimple_core.specs.Layout.{layout_of}
use Rattle.std.specs.Str.{bytes_eq}
use Rattle.gimple_core.specs.Accepted.{IsAccepted}
use Rattle.gimple_ir.specs.Size.{size_of_function, size_of_program}
use Rattle.gimple_core.specs.Verdict.{at}
use Rattle.gimple_core.specs.Env.{Env, targets_of, functions_by_name, globals_by_name}
use Rattle.gimple_core.specs.Declarations as d
use Rattle.gimple_core.specs.Accepted.{known_env}
use Rattle.gimple_core.proofs.Passed.{first_passed, at_passed}
use Rattle.gimple_claims.specs.Checks.{env_of, BlocksPass, IsChecked}
use Rattle.gimple_claims.proofs.Checked.{sees, blocks_pass}
use Rattle.graph_walk.specs.Graph.{AreMarks}
use Rattle.fix_engine.specs.declared.lifted.Lifted.{Lifted}
use Rattle.value_domain.specs.declared.abs_val.AbsVal.{AbsVal}
use Rattle.value_domain.specs.Values.{FitsWith}
use Rattle.value_domain.specs.Thresholds.{Limits, IsLawful}
use Rattle.value_domain.proofs.LawfulLemmas.{list_lawful}
use Rattle.body_values.specs.Flow.{given_load}
use Rattle.body_values.specs.Found.{Found, AreFound, found_row}
use Rattle.block_flow.specs.System.{AreFew}
use Rattle.body_values.specs.Rows.{LiftedFits}
use Rattle.body_values.specs.Scenes.{IsReady}
use Rattle.body_values.specs.Setting.{WereFound}
use Rattle.body_values.specs.System.{FactsFit}
use Rattle.body_values.proofs.FoundWhereLaws.{row_fits}
use Rattle.gimple_core.proofs.AcceptedLayouts.{global_layout}
use Rattle.body_values.proofs.Settled.{are_few}
use Rattle.body_fold.specs.declared.folder.Folder.{Folder}
use Rattle.body_fold.specs.Fold.{IsFolded}
use Rattle.body_fold.specs.Folders.{folding_in, NamesMean, IsFolder, folding_by, IsFoldOf}
use Rattle.body_fold.specs.Blocks.{PointsFit, stmt_in, end_in, blocks_in}
use Rattle.body_fold.specs.Links.{out_of, marked_blocks}
use Rattle.body_fold.specs.Settings.{IsFolderOf, IsFoldable}
use Rattle.body_fold.proofs.Linking.{as_many, kept_marks, marked_kept}
use Rattle.body_fold.proofs.Names.{Parts, parts, function_at, names_mean}

-- ---- a function of a program without a type fault

checked_function : (p : Program) (n : ℕ) (f : Function) → IsAccepted p → slice_get p.functions n ≡ Some f → IsChecked p f
unfolding d.one_function
checked_function p n f h own =
    let a : Parts p = parts p h in
    let known : Env = known_env p.structs (targets_of p) (globals_by_name p.globals) in
    let one = function_at known (functions_by_name p.functions) 0 p.functions n f a.functions own in
    let e = first_passed (at _ (d.own known (functions_by_name p.functions) f)) _ tt one.1 in
    let k = sees known e.0 (functions_by_name p.functions) f (at_passed _ (d.own known (functions_by_name p.functions) f) e.0 e.1) in
    record { some = k.some; blocks = subst (λ env. BlocksPass env (functions_by_name p.functions) f.blocks) k.same (blocks_pass e.0 (functions_by_name p.functions) one.0 1 f.blocks e.2) }

some_blocks : (bs : List Block) → d.has_blocks bs ≡ true → 0 < length bs
some_blocks [] h = cc
some_blocks (b ∷ bs) h = omega arith

function_within : (fs : List Function) (k : ℕ) (f : Function) → slice_get fs k ≡ Some f → size_of_function f ≤ sum_by size_of_function fs
function_within [] k f e = cc
function_within (x ∷ fs) zero f e =
    let is : x ≡ f = cc in
    let same : size_of_function x ≡ size_of_function f = ap size_of_function is in
    omega (arith, same, sum_by-cons size_of_function x fs)
function_within (x ∷ fs) (suc k) f e = let rest = function_within fs k f e in omega (arith, rest, sum_by-cons size_of_function x fs)

same_function : {f g : Function} → Some f ≡ Some g → f ≡ g
same_function e = cc

pub number_within : (p : Sealed) (n : ℕ) (t : Found) → WereFound p n t → n < length p.program.functions
number_within p n t w = slice_get_within p.program.functions n w.function w.own

pub foldable : (p : Sealed) (n : ℕ) (f : Function) (t : Found) → slice_get p.program.functions n ≡ Some f → IsAccepted p.program → length p.program.globals < 2 ^ 32 → size_of_program p.program < 2 ^ 32 → WereFound p n t → IsFoldable p n f t
foldable p n f t own accepted globals size w =
    let same : w.function ≡ f = same_function (sym w.own ∙ own) in
    record {
      own = own;
      accepted = accepted;
      globals = globals;
      size = let within = function_within p.program.functions n f own in omega (arith, within, size);
      facts = w.facts;
      fit = subst (λ (g : Function). FactsFit g w.facts t.limits.size t.limits.ends) same w.fit;
      ends = w.ends;
      found = subst (λ (g : Function). AreFound p n g w.facts t.limits t) same w.are;
    }

-- ---- what its folder keeps

abbrev AreSmall : List StructDef → List Global → Type 0
AreSmall structs globals = (name : List ℕ) (g : Global) → find (λ g. bytes_eq g.decl.name name) globals ≡ Some g → (layout_of structs g.decl).size ≤ 2 ^ 24

module _ (s : Folder) (p : Sealed) (n : ℕ) (f : Function) (t : Found) (h : IsFolderOf s p f t) (g : IsFoldable p n f t) where
  law : IsLawful t.limits.ends
  law = subst IsLawful (sym g.ends) (list_lawful p.program)

  registers_are : s.scene.registers.now ≡ f.params ++ f.registers
  registers_are = h.registers ∙ g.found.registers

  ready : IsReady s.scene
  ready = record {
    few = subst (λ (gs : List Global). length gs < 2 ^ 32) (sym h.globals) g.globals;
    small = subst (λ (gs : List Global). AreSmall s.scene.structs.now gs) (sym h.globals) (subst (λ (ss : List StructDef). AreSmall ss p.program.globals) (sym h.structs) (λ name x e. (global_layout p.program g.accepted name x e).size));
    loads = λ k i. subst (λ loads. IfSome (given_load loads s.scene.loads.now.function k i) (FitsWith s.scene.limits.now.size s.scene.limits.now.ends)) (sym h.loads) tt;
  }

  pub is_folder : IsFolder s
  is_folder = record {
    tables = h.tables ∙ sym h.program;
    structs = h.structs ∙ ap (λ (q : Sealed). q.program.structs) (sym h.program);
    globals = h.globals ∙ ap (λ (q : Sealed). q.program.globals) (sym h.program);
    locals = h.locals ∙ ap (λ (x : Function). x.locals) (sym h.function);
    registers = registers_are ∙ ap (λ (x : Function). x.params ++ x.registers) (sym h.function);
    ready = ready;
    mean = subst (λ (q : Sealed). NamesMean q.program.globals s.function.now.locals) (sym h.program) (subst (λ (x : Function). NamesMean p.program.globals x.locals) (sym h.function) (names_mean p.program n f g.accepted g.own));
  }

  pub points_fit : PointsFit s.scene t
  points_fit k i =
      subst (λ (rs : List Register). LiftedFits s.scene.limits.now.size s.scene.limits.now.ends (length rs) (found_row t.rows k i)) (sym registers_are)
      (subst (λ (l : Limits). LiftedFits l.size l.ends (length (f.params ++ f.registers)) (found_row t.rows k i)) (sym h.limits) (row_fits p n f g.facts t.limits t law g.fit g.found k i))

  pub are_numbered : AreFew s.function.now.blocks 0
  are_numbered = subst (λ (x : Function). AreFew x.blocks 0) (sym h.function) (are_few f.blocks 0 g.size (omega arith))

  checked : IsChecked p.program f
  checked = checked_function p.program n f g.accepted g.own

  pub blocks_checked : BlocksPass (folding_in s).env (folding_in s).names s.function.now.blocks
  blocks_checked =
      subst (λ (q : Sealed). BlocksPass (env_of q.program s.function.now) (functions_by_name q.program.functions) s.function.now.blocks) (sym h.program)
      (subst (λ (x : Function). BlocksPass (env_of p.program x) (functions_by_name p.program.functions) x.blocks) (sym h.function) checked.blocks)

  some : 0 < length s.function.now.blocks
  some = subst (λ (x : Function). 0 < length x.blocks) (sym h.function) (some_blocks f.blocks checked.some)

  pub some_new : (bs : List Block) → bs ≡ blocks_in s t → 0 < length bs
  some_new bs e = let one = some in let same = ap length e in let more = as_many (stmt_in s t) (end_in s t) 0 s.function.now.blocks in omega (arith, one, same, more)

  pub few_new : (bs : List Block) → bs ≡ blocks_in s t → length bs < 2 ^ 32
  few_new bs e = let few = are_numbered.blocks_few in let same = ap length e in let more = as_many (stmt_in s t) (end_in s t) 0 s.function.now.blocks in omega (arith, few, same, more)

  -- ---- what it makes

  is_folding : folding_in s ≡ folding_by p f t.limits
  is_folding = λ i. record {
    env = env_of (h.program i).program (h.function i);
    names = functions_by_name (h.program i).program.functions;
    body = record {
      structs = h.structs i;
      globals = h.globals i;
      mode = (h.program i).mode;
      locals = h.locals i;
      registers = registers_are i;
      most = (h.limits i).size;
      ends = (h.limits i).ends;
      loads = given_load (h.loads i) s.scene.loads.now.function;
    };
  }

  abbrev points : ℕ → ℕ → Lifted (List AbsVal)
  points k i = found_row t.rows k i

  folded_here : (marks : List Bool) → AreMarks (out_of (blocks_in s t)) (length (blocks_in s t)) 0 marks → IsFolded (folding_in s) points s.function.now (record s.function.now { blocks = marked_blocks marks (blocks_in s t) })
  unfolding stmt_in end_in
  folded_here marks are = record {
    keep = λ k. get_or marks k false;
    kept = kept_marks (stmt_in s t) (end_in s t) s.function.now.blocks marks some are;
    is = λ i. record s.function.now { blocks = marked_kept (stmt_in s t) (end_in s t) marks s.function.now.blocks (are.one_each ∙ as_many (stmt_in s t) (end_in s t) 0 s.function.now.blocks) i };
  }

  pub folded_so : (bs kept : List Block) (marks : List Bool) (made : Function) → bs ≡ blocks_in s t → AreMarks (out_of bs) (length bs) 0 marks → kept ≡ marked_blocks marks bs → made ≡ record f { blocks = kept } → IsFoldOf p n t made
  folded_so bs kept marks made new are left is =
      let here = folded_here marks (subst (λ ys. AreMarks (out_of ys) (length ys) 0 marks) new are) in
      let whole : record s.function.now { blocks = marked_blocks marks (blocks_in s t) } ≡ made = (λ i. record (h.function i) { blocks = sym (left ∙ ap (marked_blocks marks) new) i }) ∙ sym is in
      record {
        function = f;
        own = g.own;
        folded = subst (λ S. IsFolded S points f made) is_folding (subst (λ (x : Function). IsFolded (folding_in s) points x made) h.function (subst (IsFolded (folding_in s) points s.function.now) whole here));
      }
