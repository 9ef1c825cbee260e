-- A program with its functions folded has no type fault.
use Rattle.std.proofs.Common.{◌≡◌, ℕ, zero, suc, ◌+◌, ◌==◌, ℤ, Bool, true, false, not, cond, ◌||◌, if◌then◌else◌, List, [], ◌∷◌, ◌++◌, map, length, refl, sym, ◌∙◌, ap, subst, arith, Option, Some, None, Ok, slice_get}
use Rattle.std.specs.Prelude.{is_some}
use Rattle.std.specs.List.{find, list_any}
use Rattle.std.specs.Str.{bytes_eq}
use Rattle.gimple_ir.specs.declared.declarations.Register.{Register}
use Rattle.gimple_ir.specs.declared.declarations.Global.{Global}
use Rattle.gimple_ir.specs.declared.scalar.Scalar.{Scalar}
use Rattle.gimple_ir.specs.declared.statement.Stmt.{Stmt}
use Rattle.gimple_ir.specs.declared.block.Block.{Block}
use Rattle.gimple_ir.specs.declared.block.End.{End}
use Rattle.gimple_ir.specs.declared.program.Function.{Function}
use Rattle.gimple_ir.specs.declared.program.Program.{Program}
use Rattle.gimple_core.specs.Sealed.{Sealed, with_functions}
use Rattle.gimple_ir.specs.declared.fault.Site.TheVariants as site
use Rattle.gimple_core.specs.Run.{main_name}
use Rattle.gimple_core.specs.Verdict.{demand, at}
use Rattle.gimple_core.specs.Env.{Env, Names, Targets, has, targets_of, globals_by_name, functions_by_name}
use Rattle.gimple_core.specs.Statements as s
use Rattle.gimple_core.specs.Declarations as d
use Rattle.gimple_core.specs.Accepted.{checked, first_fault, known_env}
use Rattle.gimple_core.proofs.Passed.{first_passed, both_pass, demanded, demand_passes, at_passed, at_passes, no_fault_of}
use Rattle.gimple_core.proofs.EnvLemmas.{has_append, named_find, declared_new, declares}
use Rattle.gimple_core.proofs.Heads.{heads_are}
use Rattle.gimple_core.proofs.ProgramTyped.{labels_are}
use Rattle.gimple_claims.specs.Checks.{env_of, StmtsPass, BlockPasses, BlocksPass}
use Rattle.gimple_claims.specs.Kept.{new_body, new_blocks}
use Rattle.gimple_claims.proofs.Blocks.{label_there}
use Rattle.gimple_claims.proofs.Kept.{NewAt, kept_new}
use Rattle.fix_engine.specs.declared.lifted.Lifted.{Lifted}
use Rattle.fix_engine.specs.declared.lifted.Lifted.TheVariants.{NotReached, Reached}
use Rattle.value_domain.specs.declared.abs_val.AbsVal.{AbsVal}
use Rattle.body_values.specs.declared.facts.Facts.{Facts}
use Rattle.block_flow.specs.Branches.{block_place, place_or}
use Rattle.body_values.specs.Flow.{body_of, values_at}
use Rattle.body_fold.specs.Fold.{Folding, stmt_at, end_at, new_stmt, new_end, IsLinked, first, linked}
use Rattle.body_values.specs.Found.{Found}
use Rattle.body_fold.specs.Claims.{FoldsTo, FoldsAreAccepted}
use Rattle.body_fold.proofs.FoldsBy.{folding_of, FoldsBy, folds_by}
use Rattle.body_fold.proofs.Names.{Parts, parts}
use Rattle.body_fold.proofs.Relabelled.{seen_with, SameTargets, statement_seen, heads_of, SameHeads, statement_heads, same_targets, globals_same, own_labels, own_seen, function_seen}
use Rattle.gimple_claims.proofs.Checked.{sees, blocks_pass}
use Rattle.body_fold.proofs.Passing.{stmt_passes, end_passes, LabelsPass, ending_listed, ending_seen}
use Rattle.body_fold.proofs.Labels.{block_number, block_listed, labels_kept}

-- ---- functions replaced by ones that look alike from outside

record Face : Type 0 where
  name : List ℕ
  params : List Register
  result : Option Scalar

abbrev face : Function → Face
face f = record { name = f.name; params = f.params; result = f.result }

abbrev first_face : Face → List Face → Face
first_face x [] = x
first_face x (y ∷ ys) = y

abbrev later_faces : List Face → List Face
later_faces [] = []
later_faces (y ∷ ys) = ys

abbrev Alike : List Function → List Function → Type 0
Alike fs gs = map face fs ≡ map face gs

heads_same : (f g : Function) (fs gs : List Function) → Alike (f ∷ fs) (g ∷ gs) → face f ≡ face g
heads_same f g fs gs e = ap (first_face (face f)) e

all_faces : (fs gs : List Function) → length gs ≡ length fs → ((n : ℕ) (f g : Function) → slice_get fs n ≡ Some f → slice_get gs n ≡ Some g → face g ≡ face f) → Alike fs gs
all_faces [] [] e h = refl
all_faces [] (g ∷ gs) e h = absurd (omega (arith, e))
all_faces (f ∷ fs) [] e h = absurd (omega (arith, e))
all_faces (f ∷ fs) (g ∷ gs) e h =
    let here : face g ≡ face f = h 0 f g refl refl in
    let rest : Alike fs gs = all_faces fs gs (omega (arith, e)) (λ n x y a b. h (suc n) x y a b) in
    λ i. sym here i ∷ rest i

found_alike : (name : List ℕ) (fs gs : List Function) → Alike fs gs → heads_of (find (λ (f : Function). bytes_eq f.name name) gs) ≡ heads_of (find (λ (f : Function). bytes_eq f.name name) fs)
found_alike name [] [] e = refl
found_alike name [] (g ∷ gs) e = cc
found_alike name (f ∷ fs) [] e = cc
found_alike name (f ∷ fs) (g ∷ gs) e =
    let same : face f ≡ face g = heads_same f g fs gs e in
    by (bytes_eq g.name name) (bytes_eq f.name name) (ap (λ (x : Face). bytes_eq x.name name) (sym same)) same (found_alike name fs gs (ap later_faces e))
  where
    by : (a b : Bool) → a ≡ b → face f ≡ face g → heads_of (find (λ (f : Function). bytes_eq f.name name) gs) ≡ heads_of (find (λ (f : Function). bytes_eq f.name name) fs) →
        heads_of (if a then Some g else find (λ (f : Function). bytes_eq f.name name) gs) ≡ heads_of (if b then Some f else find (λ (f : Function). bytes_eq f.name name) fs)
    by true true t same more = λ i. Some (record { params = (sym same i).params; result = (sym same i).result })
    by true false t same more = cc
    by false true t same more = cc
    by false false t same more = more

tables_alike : (fs gs : List Function) → Alike fs gs → SameHeads (functions_by_name gs) (functions_by_name fs)
tables_alike fs gs e name = ap heads_of (named_find (λ (f : Function). f.name) name gs) ∙ (found_alike name fs gs e ∙ sym (ap heads_of (named_find (λ (f : Function). f.name) name fs)))

some_if : (b : Bool) (f : Function) → is_some (cond b (Some f) None) ≡ b
some_if true f = refl
some_if false f = refl

one_named : (f g : Function) → f.name ≡ g.name → (name : List ℕ) → has name ((g.name, g) ∷ []) ≡ has name ((f.name, f) ∷ [])
one_named f g e name = some_if (bytes_eq name g.name) g ∙ (ap (bytes_eq name) (sym e) ∙ sym (some_if (bytes_eq name f.name) f))

heads_alike : (globals : Names Global) (number : ℕ) (some more out : Names Function) (fs gs : List Function) → Alike fs gs → ((name : List ℕ) → has name some ≡ has name more) → d.heads globals number more fs ≡ Ok out →
    (table : Names Function) × (d.heads globals number some gs ≡ Ok table)
unfolding d.heads d.head
heads_alike globals number some more out [] [] e t h = (some, refl)
heads_alike globals number some more out [] (g ∷ gs) e t h = cc
heads_alike globals number some more out (f ∷ fs) [] e t h = cc
heads_alike globals number some more out (f ∷ fs) (g ∷ gs) e t h =
    let a = first_passed (at _ (d.head globals more f)) _ out h in
    let one = at_passed _ (d.head globals more f) a.0 a.1 in
    let b = first_passed (demand (not (has f.name globals)) 2) _ a.0 one in
    let c = declared_new more f.name f a.0 b.2 in
    let names : f.name ≡ g.name = ap (λ (x : Face). x.name) (heads_same f g fs gs e) in
    let fresh : has g.name some ≡ false = t g.name ∙ (ap (λ n. has n more) (sym names) ∙ c.0) in
    let rest = heads_alike globals (number + 1) (some ++ (g.name, g) ∷ []) (more ++ (f.name, f) ∷ []) out fs gs (ap later_faces e) (grown names) (subst (λ z. d.heads globals (number + 1) z fs ≡ Ok out) c.1 a.2) in (
      rest.0,
      both_pass (at (site.Statement number 0) (d.head globals some g)) _ (some ++ (g.name, g) ∷ []) rest.0
          (at_passes _ (d.head globals some g) _ (both_pass (demand (not (has g.name globals)) 2) _ tt _ (ap (λ n. demand (not (has n globals)) 2) (sym names) ∙ b.1) (declares some g.name g fresh))) rest.1,
    )
  where
    grown : f.name ≡ g.name → (name : List ℕ) → has name (some ++ (g.name, g) ∷ []) ≡ has name (more ++ (f.name, f) ∷ [])
    grown names name = has_append name some ((g.name, g) ∷ []) ∙ (λ i. t name i || one_named f g names name i) ∙ sym (has_append name more ((f.name, f) ∷ []))

main_alike : (number : ℕ) (fs gs : List Function) → Alike fs gs → d.main number gs ≡ d.main number fs
unfolding d.main
main_alike number [] [] e = refl
main_alike number [] (g ∷ gs) e = cc
main_alike number (f ∷ fs) [] e = cc
main_alike number (f ∷ fs) (g ∷ gs) e =
    let same : face g ≡ face f = sym (heads_same f g fs gs e) in
    λ i. if bytes_eq main_name (same i).name then at (site.Statement number 0) (demand (d.is_main (same i).params (same i).result) 3) else main_alike (number + 1) fs gs (ap later_faces e) i

-- ---- the other functions

module _ (known : Env) (names more : Names Function) (heads : SameHeads names more) (ts : Targets) (h : SameTargets ts known.targets) where
  -- where one passes, so does what stands in its place
  abbrev pub PassesToo : Function → Function → Type 0
  PassesToo f g = (number : ℕ) → d.one_function known more number f ≡ Ok tt → d.one_function (record known { targets = ts }) names number g ≡ Ok tt

  pub stays_passes : (f : Function) → PassesToo f f
  stays_passes f number e = function_seen names more heads ts known h number f e

  pub functions_pass : (number : ℕ) (fs gs : List Function) → length gs ≡ length fs → d.functions known more number fs ≡ Ok tt → ((n : ℕ) (f g : Function) → slice_get fs n ≡ Some f → slice_get gs n ≡ Some g → PassesToo f g) →
      d.functions (record known { targets = ts }) names number gs ≡ Ok tt
  unfolding d.functions
  functions_pass number [] [] e p new = refl
  functions_pass number [] (g ∷ gs) e p new = absurd (omega (arith, e))
  functions_pass number (f ∷ fs) [] e p new = refl
  functions_pass number (f ∷ fs) (g ∷ gs) e p new =
      let a = first_passed (d.one_function known more number f) _ tt p in
      both_pass (d.one_function (record known { targets = ts }) names number g) _ tt tt (new 0 f g refl refl number a.1) (functions_pass (number + 1) fs gs (omega (arith, e)) a.2 (λ n x y k l. new (suc n) x y k l))

-- ---- the folded function

module _ (q : Sealed) (n : ℕ) (f : Function) (facts : Facts) (most : ℕ) (ts : List ℤ) (values : ℕ → ℕ → Lifted (List AbsVal)) (names : Names Function) (heads : SameHeads names (functions_by_name q.program.functions))
    (us : Targets) (alike : SameTargets us (targets_of q.program)) (keep : ℕ → Bool) where
  abbrev p : Program
  p = q.program

  abbrev S : Folding
  S = folding_of q n f facts most ts

  -- what the folded function sees, with these labels
  abbrev seen : List ℕ → Env
  seen ls = seen_with (env_of p f) us ls

  abbrev put : ℕ → ℕ → Stmt → Stmt
  put k i x = new_stmt S values k i x

  abbrev end : ℕ → End → End
  end k e = new_end S f.blocks values k e

  abbrev new : List Block
  new = new_blocks put end keep 0 f.blocks

  at_passes_stmt : (k i : ℕ) (x : Stmt) (v : Lifted (List AbsVal)) → s.statement (env_of p f) (functions_by_name p.functions) x ≡ Ok tt → s.statement (env_of p f) (functions_by_name p.functions) (stmt_at S k i x v) ≡ Ok tt
  at_passes_stmt k i x NotReached h = h
  at_passes_stmt k i x (Reached row) h = stmt_passes p f S row refl refl k i x h

  at_passes_end : (e : End) (v : Lifted (List AbsVal)) → s.ending (env_of p f) e ≡ Ok tt → s.ending (env_of p f) (end_at S e v) ≡ Ok tt
  at_passes_end e NotReached h = h
  at_passes_end e (Reached row) h = end_passes p f S row refl refl e h

  body_new : (ls : List ℕ) (index number k i : ℕ) (xs : List Stmt) → StmtsPass (env_of p f) (functions_by_name p.functions) xs → s.body (seen ls) names index number (new_body put k i xs) ≡ Ok tt
  unfolding s.body
  body_new ls index number k i [] h = refl
  body_new ls index number k i (x ∷ xs) h =
      let one : s.statement (seen ls) names (put k i x) ≡ Ok tt =
      statement_heads (seen ls) names (functions_by_name p.functions) heads (put k i x) ∙ (statement_seen (env_of p f) us ls alike (functions_by_name p.functions) (put k i x) ∙ at_passes_stmt k i x (values k i) h.0) in
      both_pass (at (site.Statement index number) (s.statement (seen ls) names (put k i x))) _ tt tt (at_passes _ (s.statement (seen ls) names (put k i x)) tt one) (body_new ls index (number + 1) k (i + 1) xs h.1)

  abbrev EndsPass : List ℕ → ℕ → List Block → Type 0
  EndsPass ls k bs = (j m : ℕ) (b : Block) → slice_get bs j ≡ Some b → k + j ≡ m → keep m ≡ true → LabelsPass (seen ls) (end m b.end)

  later_ends : (ls : List ℕ) (k : ℕ) (b : Block) (bs : List Block) → EndsPass ls k (b ∷ bs) → EndsPass ls (k + 1) bs
  later_ends ls k b bs h j m c e a t = h (suc j) m c e (omega (arith, a)) t

  blocks_new : (ls : List ℕ) (index number k : ℕ) (bs : List Block) → BlocksPass (env_of p f) (functions_by_name p.functions) bs → EndsPass ls k bs → s.blocks (seen ls) names index number (new_blocks put end keep k bs) ≡ Ok tt
  unfolding s.blocks
  blocks_new ls index number k [] h ends = refl
  blocks_new ls index number k (b ∷ bs) h ends = by (keep k) refl (λ m. blocks_new ls index m (k + 1) bs h.1 (later_ends ls k b bs ends))
    where
      made : Block
      made = record { label = b.label; body = new_body put k 0 b.body; end = end k b.end }

      by : (t : Bool) → keep k ≡ t → ((m : ℕ) → s.blocks (seen ls) names index m (new_blocks put end keep (k + 1) bs) ≡ Ok tt) → s.blocks (seen ls) names index number (if t then made ∷ new_blocks put end keep (k + 1) bs else new_blocks put end keep (k + 1) bs) ≡ Ok tt
      by true t more =
          let passes : s.ending (seen ls) (end k b.end) ≡ Ok tt =
          ending_seen (env_of p f) us ls alike (end k b.end) (at_passes_end b.end _ h.0.end) (ends 0 k b refl (omega arith) t) in
          both_pass (s.body (seen ls) names index number made.body) _ tt tt (body_new ls index number k 0 b.body h.0.body)
          (both_pass (at (site.Statement index (number + length made.body)) (s.ending (seen ls) made.end)) _ tt tt (at_passes _ (s.ending (seen ls) made.end) tt passes)
          (more (number + length made.body + 1)))
      by false t more = more number

  -- ---- the labels of the kept ends

  module _ (kept : (k : ℕ) → IsLinked f.blocks (end) k → keep k ≡ true) (reaches : (k : ℕ) → keep k ≡ true → IsLinked f.blocks (end) k) where
    block_passes : (bs : List Block) (j : ℕ) (b : Block) → BlocksPass (env_of p f) (functions_by_name p.functions) bs → slice_get bs j ≡ Some b → BlockPasses (env_of p f) (functions_by_name p.functions) b
    block_passes [] j b h e = cc
    block_passes (x ∷ xs) zero b h e = let same : x ≡ b = cc in subst (BlockPasses (env_of p f) (functions_by_name p.functions)) same h.0
    block_passes (x ∷ xs) (suc j) b h e = block_passes xs j b h.1 e

    new_listed : (b : Block) (m : ℕ) (o : Option (ℕ × Block)) → NewAt put end m b o → (c : ℕ × Block) × (o ≡ Some c)
    new_listed b m o h = ((h.number, h.block), h.found)

    label_kept : (ls : List ℕ) (label : ℕ) → ls ≡ map (λ (b : Block). b.label) new → s.label (env_of p f) label ≡ Ok tt → keep (place_or (block_place label f.blocks)) ≡ true → s.label (seen ls) label ≡ Ok tt
    unfolding s.label
    label_kept ls label e h k =
        let (m, b, there) = label_there label f.blocks (demanded _ 8 h) in
        let c = new_listed b m _ (kept_new put end keep label f.blocks m b there (subst (λ j. keep j ≡ true) (block_number label f.blocks m b there) k)) in
        demand_passes _ 8 (ap (λ qs. list_any (λ l. label == l) qs) e ∙ block_listed label new c.0 c.1)

    ends_pass : (ls : List ℕ) → ls ≡ map (λ (b : Block). b.label) new → BlocksPass (env_of p f) (functions_by_name p.functions) f.blocks → EndsPass ls 0 f.blocks
    ends_pass ls e h j m b found same t slot label listed =
        let here : slice_get f.blocks m ≡ Some b = subst (λ z. slice_get f.blocks z ≡ Some b) (omega (arith, same)) found in
        let passes : s.ending (env_of p f) (end m b.end) ≡ Ok tt = at_passes_end b.end _ (block_passes f.blocks m b h here).end in
        label_kept ls label e (ending_listed (env_of p f) (end m b.end) passes slot label listed) (kept _ (linked m b slot label (reaches m t) here listed))

    some_new : (bs : List Block) → d.has_blocks bs ≡ true → (t : Bool) → t ≡ keep 0 → t ≡ true → d.has_blocks (new_blocks put end keep 0 bs) ≡ true
    some_new [] h t e k = cc
    some_new (b ∷ bs) h t e k = rw (sym e ∙ k) refl

    -- the folded function passes
    pub one_passes : (number index : ℕ) → d.one_function (known_env p.structs (targets_of p) (globals_by_name p.globals)) (functions_by_name p.functions) number f ≡ Ok tt →
        d.one_function (known_env p.structs us (globals_by_name p.globals)) names index (record f { blocks = new }) ≡ Ok tt
    unfolding d.one_function
    one_passes number index h =
        let known : Env = known_env p.structs (targets_of p) (globals_by_name p.globals) in
        let a = first_passed (at _ (d.own known (functions_by_name p.functions) f)) _ tt h in
        let own = at_passed _ (d.own known (functions_by_name p.functions) f) a.0 a.1 in
        let sight = sees known a.0 (functions_by_name p.functions) f own in
        let same : a.0 ≡ env_of p f = sight.same in
        let blocks : BlocksPass (env_of p f) (functions_by_name p.functions) f.blocks = subst (λ e. BlocksPass e (functions_by_name p.functions) f.blocks) same (blocks_pass a.0 (functions_by_name p.functions) number 1 f.blocks a.2) in
        let ls = labels_kept put end keep 0 [] [] a.0.labels f.blocks (λ l q. q) (own_labels known a.0 (functions_by_name p.functions) f own) in
        let are : ls.0 ≡ map (λ (b : Block). b.label) new = labels_are [] ls.0 new ls.1 in
        let now : Env = known_env p.structs us (globals_by_name p.globals) in
        let sees_this : d.own now names (record f { blocks = new }) ≡ Ok (seen ls.0) =
        own_seen names (functions_by_name p.functions) heads us known (env_of p f) f new ls.0 (own ∙ ap Ok same) (some_new f.blocks sight.some (keep 0) refl (kept 0 first)) ls.1 in
        both_pass (at (site.Statement index 0) (d.own now names (record f { blocks = new }))) _ (seen ls.0) tt (at_passes _ (d.own now names (record f { blocks = new })) _ sees_this)
        (blocks_new ls.0 index 1 0 f.blocks blocks (ends_pass ls.0 are blocks))

-- ---- the whole program

to_face : (p : Sealed) (n : ℕ) (f g : Function) (o : Option Facts) → FoldsTo p n f g o → face g ≡ face f
to_face p n f g None same = ap face same
to_face p n f g (Some facts) folds = ap face (folds_by p n f facts folds.0 g folds.1).folded.is

to_passes : (q : Sealed) (names : Names Function) (heads : SameHeads names (functions_by_name q.program.functions)) (us : Targets) (alike : SameTargets us (targets_of q.program)) (n : ℕ) (f g : Function) (o : Option Facts) → FoldsTo q n f g o →
    PassesToo (known_env q.program.structs (targets_of q.program) (globals_by_name q.program.globals)) names (functions_by_name q.program.functions) heads us alike f g
to_passes q names heads us alike n f g None same =
    let known : Env = known_env q.program.structs (targets_of q.program) (globals_by_name q.program.globals) in
    subst (PassesToo known names (functions_by_name q.program.functions) heads us alike f) (sym same) (stays_passes known names (functions_by_name q.program.functions) heads us alike f)
to_passes q names heads us alike n f g (Some facts) folds =
    let t : Found = folds.0 in
    let by : FoldsBy q n f facts t.limits.size t.limits.ends folds.1.values.begins g = folds_by q n f facts t g folds.1 in
    λ number e.
    subst (λ (z : Function). d.one_function (known_env q.program.structs us (globals_by_name q.program.globals)) names number z ≡ Ok tt) (sym by.folded.is)
    (one_passes q n f facts t.limits.size t.limits.ends (values_at (body_of q n f facts t.limits.size t.limits.ends) f.blocks folds.1.values.begins) names heads us alike by.folded.keep (λ k. (by.folded.kept k).1) (λ k. (by.folded.kept k).0) number number e)

pub folds_are_accepted : FoldsAreAccepted
unfolding first_fault checked
folds_are_accepted q facts gs folds =
    let p : Program = q.program in
    let a : Parts p = parts p folds.accepted in
    let known : Env = known_env p.structs (targets_of p) (globals_by_name p.globals) in
    let us : Targets = targets_of (with_functions q gs).program in
    let alike : Alike p.functions gs = all_faces p.functions gs folds.count (λ n f g own made. to_face q n f g (facts n) (folds.each n f g own made)) in
    let heads : SameHeads (functions_by_name gs) (functions_by_name p.functions) = tables_alike p.functions gs alike in
    let same : SameTargets us (targets_of p) = same_targets (p.profile == 2) (functions_by_name gs) (functions_by_name p.functions) heads in
    let table = heads_alike (globals_by_name p.globals) 0 [] [] (functions_by_name p.functions) p.functions gs alike (λ name. refl) a.heads in
    let table_is : table.0 ≡ functions_by_name gs = heads_are (globals_by_name p.globals) 0 [] table.0 gs table.1 in
    no_fault_of (checked (with_functions q gs).program)
    (both_pass (d.structs p.structs 0 [] p.structs) _ tt tt a.structs
    (both_pass (d.globals p.structs us (globals_by_name p.globals) 0 [] p.globals) _ (globals_by_name p.globals) tt (globals_same p.structs us (targets_of p) same (globals_by_name p.globals) 0 [] p.globals ∙ a.globals)
    (both_pass (d.heads (globals_by_name p.globals) 0 [] gs) _ (functions_by_name gs) tt (table.1 ∙ ap Ok table_is)
    (both_pass (d.main 0 gs) _ tt tt (main_alike 0 p.functions gs alike ∙ a.main)
    (functions_pass known (functions_by_name gs) (functions_by_name p.functions) heads us same 0 p.functions gs folds.count a.functions
    (λ n f g own made. to_passes q (functions_by_name gs) heads us same n f g (facts n) (folds.each n f g own made)))))))
