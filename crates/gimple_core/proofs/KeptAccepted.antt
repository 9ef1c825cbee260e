-- A program without the functions outside a closed set of names has no type fault where the program has none.
use Rattle.std.proofs.Common.{◌≡◌, ℕ, ◌+◌, ◌==◌, Bool, true, false, not, cond, ◌||◌, List, [], ◌∷◌, ◌++◌, length, nat_le, filter, is_some, Option, Some, None, Ok, IsTrue, refl, sym, ap, ◌∙◌, subst, append_assoc, append-nil, if◌then◌else◌, true≢false, pos}
use Rattle.std.specs.Ordering.{int_eq}
use Rattle.std.specs.List.{All}
use Rattle.std.specs.Str.{bytes_eq}
use Rattle.std.specs.Cmp.Lexicographic.{bytes_decides}
use Rattle.std.proofs.lemmas.List.Elements.{All-head, All-tail}
use Rattle.gimple_ir.specs.declared.scalar.Scalar.{Scalar}
use Rattle.gimple_ir.specs.declared.scalar.Scalar.TheVariants.{I64}
use Rattle.gimple_ir.specs.declared.operand.Operand.{Operand}
use Rattle.gimple_ir.specs.declared.operand.Operand.TheVariants.{Reg, Number, Null, Address}
use Rattle.gimple_ir.specs.declared.value.LayoutSlot.{LayoutSlot}
use Rattle.gimple_ir.specs.declared.statement.Stmt.{Stmt}
use Rattle.gimple_ir.specs.declared.statement.Stmt.TheVariants.{Copy, Arith, Compare, Convert, Load, Store, Call, Indirect, Get, Put, Abort}
use Rattle.gimple_ir.specs.declared.block.Case.{Case}
use Rattle.gimple_ir.specs.declared.block.End.{End}
use Rattle.gimple_ir.specs.declared.block.End.TheVariants.{Goto, If, Switch, Return}
use Rattle.gimple_ir.specs.declared.block.Block.{Block}
use Rattle.gimple_ir.specs.declared.declarations.Decl.{Decl}
use Rattle.gimple_ir.specs.declared.declarations.Global.{Global}
use Rattle.gimple_ir.specs.declared.declarations.Register.{Register}
use Rattle.gimple_ir.specs.declared.program.Function.{Function}
use Rattle.gimple_ir.specs.declared.program.Program.{Program}
use Rattle.gimple_ir.specs.declared.fault.Site.TheVariants as site
use Rattle.gimple_core.specs.Layout.{layout_of}
use Rattle.gimple_core.specs.Operators.{in_scalar}
use Rattle.gimple_core.specs.Run.{Named, function_named, main_name}
use Rattle.gimple_core.specs.Reach.{Mentions, MentionsIn, MentionsInBlocks, MentionsInItems, operands_of, operands_of_end, IsClosed, IsWithoutUnreached, with_kept}
use Rattle.gimple_core.specs.Verdict.{Verdict, ◌>>=◌, ◌>>◌, pure, demand, at}
use Rattle.gimple_core.specs.Env.{Env, Names, Targets, targets_of, named, has, declared, structs_by_name, functions_by_name, globals_by_name}
use Rattle.gimple_core.specs.Statements as s
use Rattle.gimple_core.specs.Declarations as d
use Rattle.gimple_core.specs.Accepted.{checked, first_fault, known_env}
use Rattle.gimple_core.proofs.NameLemmas.{same_name_true}
use Rattle.gimple_core.proofs.Passed.{first_passed, both_pass, demanded, demand_passes, at_passed, at_passes, not_true, no_fault, no_fault_of}
use Rattle.gimple_core.proofs.EnvLemmas.{named_find, has_append}
use Rattle.gimple_core.proofs.Heads.{head_passed, head_passes, heads_are, heads_find, Each}
use Rattle.gimple_core.proofs.SameChecks.{SameTarget, Alike, all_alike, statement_re, compared_re, integer_re, returned_re}
use Rattle.gimple_core.proofs.ProgramTyped.{own_is}
use Rattle.gimple_core.proofs.Dropping.{first_kept, reached_closed}

-- what the first table has, the second one has
abbrev Fewer : Names Function → Names Function → Type 0
Fewer some more = (name : List ℕ) → has name some ≡ true → has name more ≡ true

not_fewer : (some more : Names Function) → Fewer some more → (name : List ℕ) → not (has name more) ≡ true → not (has name some) ≡ true
not_fewer some more fewer name h = by (has name some) (has name more) (fewer name) h
  where
    by : (a b : Bool) → (a ≡ true → b ≡ true) → not b ≡ true → not a ≡ true
    by true b f k = let e = f refl in cc
    by false b f k = refl

-- what a function sees beside other functions that may be addressed
abbrev seeing : Targets → Env → Env
seeing ts env = record env { targets = ts }

seeing_ok : (ts : Targets) (a b : Env) → (let r : Verdict Env = Ok a in r) ≡ Ok b → (let r : Verdict Env = Ok (seeing ts a) in r) ≡ Ok (seeing ts b)
seeing_ok ts a b h = let e : a ≡ b = cc in ap (λ (x : Env). pure (seeing ts x)) e

-- ---- the names of a function

free_kept : (env : Env) (ts : Targets) (some more : Names Function) → Fewer some more → (name : List ℕ) → d.is_free env more name ≡ Ok tt → d.is_free (seeing ts env) some name ≡ Ok tt
unfolding d.is_free
free_kept env ts some more fewer name h =
    let p = first_passed (demand (not (has name env.globals)) 2) _ tt h in
    both_pass _ _ tt tt p.1 (demand_passes _ 2 (not_fewer some more fewer name (demanded _ 2 p.2)))

register_kept : (env out : Env) (ts : Targets) (some more : Names Function) → Fewer some more → (r : Register) → d.register env more r ≡ Ok out → d.register (seeing ts env) some r ≡ Ok (seeing ts out)
unfolding d.register
register_kept env out ts some more fewer r h =
    let p = first_passed (d.is_free env more r.name) _ out h in
    let q = first_passed (demand (not (has r.name env.locals)) 2) _ out p.2 in
    let t = first_passed (declared env.registers r.name r) _ out q.2 in
    both_pass (d.is_free (seeing ts env) some r.name) _ tt _ (free_kept env ts some more fewer r.name p.1)
    (both_pass (demand (not (has r.name env.locals)) 2) _ tt _ q.1
    (both_pass (declared env.registers r.name r) _ t.0 _ t.1 (seeing_ok ts (record env { registers = t.0 }) out t.2)))

registers_kept : (env out : Env) (ts : Targets) (some more : Names Function) → Fewer some more → (rs : List Register) → d.registers env more rs ≡ Ok out → d.registers (seeing ts env) some rs ≡ Ok (seeing ts out)
unfolding d.registers
registers_kept env out ts some more fewer [] h = seeing_ok ts env out h
registers_kept env out ts some more fewer (r ∷ rs) h =
    let p = first_passed (d.register env more r) _ out h in
    both_pass (d.register (seeing ts env) some r) _ (seeing ts p.0) _ (register_kept env p.0 ts some more fewer r p.1) (registers_kept p.0 out ts some more fewer rs p.2)

local_kept : (env out : Env) (ts : Targets) (some more : Names Function) → Fewer some more → (x : Decl) → d.local env more x ≡ Ok out → d.local (seeing ts env) some x ≡ Ok (seeing ts out)
unfolding d.local
local_kept env out ts some more fewer x h =
    let p = first_passed (d.is_free env more x.name) _ out h in
    let q = first_passed (demand (not (has x.name env.registers)) 2) _ out p.2 in
    let t = first_passed (declared env.locals x.name x) _ out q.2 in
    let u = first_passed (d.known_shape (structs_by_name env.structs) x.shape) _ out t.2 in
    let v = first_passed (d.sized env.structs x) _ out u.2 in
    both_pass (d.is_free (seeing ts env) some x.name) _ tt _ (free_kept env ts some more fewer x.name p.1)
    (both_pass (demand (not (has x.name env.registers)) 2) _ tt _ q.1
    (both_pass (declared env.locals x.name x) _ t.0 _ t.1
    (both_pass (d.known_shape (structs_by_name env.structs) x.shape) _ tt _ u.1
    (both_pass (d.sized env.structs x) _ tt _ v.1 (seeing_ok ts (record env { locals = t.0 }) out v.2)))))

locals_kept : (env out : Env) (ts : Targets) (some more : Names Function) → Fewer some more → (xs : List Decl) → d.locals env more xs ≡ Ok out → d.locals (seeing ts env) some xs ≡ Ok (seeing ts out)
unfolding d.locals
locals_kept env out ts some more fewer [] h = seeing_ok ts env out h
locals_kept env out ts some more fewer (x ∷ xs) h =
    let p = first_passed (d.local env more x) _ out h in
    both_pass (d.local (seeing ts env) some x) _ (seeing ts p.0) _ (local_kept env p.0 ts some more fewer x p.1) (locals_kept p.0 out ts some more fewer xs p.2)

own_kept : (known out : Env) (ts : Targets) (some more : Names Function) → Fewer some more → (f : Function) → d.own known more f ≡ Ok out → d.own (seeing ts known) some f ≡ Ok (seeing ts out)
unfolding d.own
own_kept known out ts some more fewer f h =
    let first = record known { locals = []; registers = []; labels = []; result = f.result } in
    let p = first_passed (d.registers first more f.params) _ out h in
    let q = first_passed (d.locals p.0 more f.locals) _ out p.2 in
    let r = first_passed (d.registers q.0 more f.registers) _ out q.2 in
    let t = first_passed (demand (d.has_blocks f.blocks) 10) _ out r.2 in
    let u = first_passed (d.labels [] f.blocks) _ out t.2 in
    both_pass (d.registers (seeing ts first) some f.params) _ (seeing ts p.0) _ (registers_kept first p.0 ts some more fewer f.params p.1)
    (both_pass (d.locals (seeing ts p.0) some f.locals) _ (seeing ts q.0) _ (locals_kept p.0 q.0 ts some more fewer f.locals q.1)
    (both_pass (d.registers (seeing ts q.0) some f.registers) _ (seeing ts r.0) _ (registers_kept q.0 r.0 ts some more fewer f.registers r.1)
    (both_pass (demand (d.has_blocks f.blocks) 10) _ tt _ t.1
    (both_pass (d.labels [] f.blocks) _ u.0 _ u.1 (seeing_ok ts (record r.0 { labels = u.0 }) out u.2)))))

-- ---- the statements of a function

-- the callees of the calls mean the same
abbrev Agrees : Names Function → Names Function → List ℕ → Type 0
Agrees some more name = named name some ≡ named name more

-- what a statement mentions means the same in both programs
abbrev MeansSame : Targets → Targets → Names Function → Names Function → List ℕ → Type 0
MeansSame ts us some more name = Agrees some more name × SameTarget ts us name

callee_kept : (env : Env) (some more : Names Function) (x : Stmt) → ((name : List ℕ) → Mentions name x → Agrees some more name) → s.statement env some x ≡ s.statement env more x
unfolding s.statement s.called
callee_kept env some more (Copy to from) a = refl
callee_kept env some more (Arith to left op right) a = refl
callee_kept env some more (Compare to left cmp right) a = refl
callee_kept env some more (Convert to scalar from) a = refl
callee_kept env some more (Load to scalar from) a = refl
callee_kept env some more (Store scalar to from) a = refl
callee_kept env some more (Call to callee xs) a = rw (a callee (Mentions.calls (record { to = to; callee = Named callee; arguments = xs }) refl refl)) refl
callee_kept env some more (Indirect to signature callee xs) a = refl
callee_kept env some more (Get to) a = refl
callee_kept env some more (Put from) a = refl
callee_kept env some more Abort a = refl

module _ (ts : Targets) (some more : Names Function) where
  statement_kept : (env : Env) (x : Stmt) → is_some ts ≡ is_some env.targets → ((name : List ℕ) → Mentions name x → MeansSame ts env.targets some more name) → s.statement env more x ≡ Ok tt → s.statement (seeing ts env) some x ≡ Ok tt
  statement_kept env x e a h =
      statement_re env ts env.labels some x e (all_alike ts env.targets (operands_of x) (λ name t. (a name (Mentions.addresses t)).1))
      ∙ callee_kept env some more x (λ name m. (a name m).0) ∙ h

  body_kept : (env : Env) (index other number place : ℕ) (xs : List Stmt) → is_some ts ≡ is_some env.targets → ((name : List ℕ) → MentionsIn name xs → MeansSame ts env.targets some more name) → s.body env more index number xs ≡ Ok tt → s.body (seeing ts env) some other place xs ≡ Ok tt
  unfolding s.body
  body_kept env index other number place [] e a h = refl
  body_kept env index other number place (x ∷ xs) e a h =
      let p = first_passed (at _ (s.statement env more x)) _ tt h in
      both_pass _ _ tt tt (at_passes _ (s.statement (seeing ts env) some x) tt (statement_kept env x e (λ name m. a name (MentionsIn.here x xs m)) (at_passed _ (s.statement env more x) tt p.1)))
      (body_kept env index other (number + 1) (place + 1) xs e (λ name m. a name (MentionsIn.later x xs m)) p.2)

  case_labels_kept : (env : Env) (cs : List Case) → s.case_labels (seeing ts env) cs ≡ s.case_labels env cs
  unfolding s.case_labels s.label
  case_labels_kept env [] = refl
  case_labels_kept env (c ∷ cs) = λ i. s.label env c.target >> case_labels_kept env cs i

  ending_kept : (env : Env) (end : End) → All (Alike ts env.targets) (operands_of_end end) → s.ending (seeing ts env) end ≡ s.ending env end
  unfolding s.ending s.label
  ending_kept env (Goto to) a = refl
  ending_kept env (If left cmp right hit miss) a =
      let one = All-head (Alike ts env.targets) left (right ∷ []) a in
      let two = All-head (Alike ts env.targets) right [] (All-tail (Alike ts env.targets) left (right ∷ []) a) in
      λ i. compared_re env ts env.labels left cmp right one two i >> (s.label env hit >> s.label env miss)
  ending_kept env (Switch on cases other) a = λ i. integer_re env ts env.labels on i >>= (λ scalar. s.case_values scalar [] cases >> (case_labels_kept env cases i >> s.label env other))
  ending_kept env (Return x) a = returned_re env ts env.labels x env.result a

  blocks_kept : (env : Env) (index other number place : ℕ) (bs : List Block) → is_some ts ≡ is_some env.targets → ((name : List ℕ) → MentionsInBlocks name bs → MeansSame ts env.targets some more name) → s.blocks env more index number bs ≡ Ok tt → s.blocks (seeing ts env) some other place bs ≡ Ok tt
  unfolding s.blocks
  blocks_kept env index other number place [] e a h = refl
  blocks_kept env index other number place (b ∷ bs) e a h =
      let p = first_passed (s.body env more index number b.body) _ tt h in
      let q = first_passed (at _ (s.ending env b.end)) _ tt p.2 in
      let alike = all_alike ts env.targets (operands_of_end b.end) (λ name t. (a name (MentionsInBlocks.end b bs t)).1) in
      both_pass _ _ tt tt (body_kept env index other number place b.body e (λ name m. a name (MentionsInBlocks.body b bs m)) p.1)
      (both_pass _ _ tt tt (at_passes _ (s.ending (seeing ts env) b.end) tt (ending_kept env b.end alike ∙ at_passed _ (s.ending env b.end) tt q.1))
      (blocks_kept env index other (number + length b.body + 1) (place + length b.body + 1) bs e (λ name m. a name (MentionsInBlocks.later b bs m)) q.2))

  function_kept : (known : Env) (number place : ℕ) (f : Function) → is_some ts ≡ is_some known.targets → Fewer some more → ((name : List ℕ) → MentionsInBlocks name f.blocks → MeansSame ts known.targets some more name) → d.one_function known more number f ≡ Ok tt → d.one_function (seeing ts known) some place f ≡ Ok tt
  unfolding d.one_function
  function_kept known number place f e fewer a h =
      let p = first_passed (at _ (d.own known more f)) _ tt h in
      let own = at_passed _ (d.own known more f) p.0 p.1 in
      let same : known.targets ≡ p.0.targets = sym (ap (λ (x : Env). x.targets) (own_is known p.0 more f own)) in
      both_pass (at _ (d.own (seeing ts known) some f)) _ (seeing ts p.0) tt (at_passes _ (d.own (seeing ts known) some f) (seeing ts p.0) (own_kept known p.0 ts some more fewer f own))
      (blocks_kept p.0 number place 1 1 f.blocks (e ∙ ap is_some same) (λ name m. subst (λ us. MeansSame ts us some more name) same (a name m)) p.2)

-- ---- the heads of functions

fewer_more : (some more : Names Function) (e : List ℕ × Function) → Fewer some more → Fewer some (more ++ e ∷ [])
fewer_more some more e fewer name h = has_append name more (e ∷ []) ∙ rw (fewer name h) refl

fewer_both : (some more : Names Function) (e : List ℕ × Function) → Fewer some more → Fewer (some ++ e ∷ []) (more ++ e ∷ [])
fewer_both some more e fewer name h =
    has_append name more (e ∷ []) ∙ by (has name some) (has name more) (has name (e ∷ [])) (fewer name) (sym (has_append name some (e ∷ [])) ∙ h)
  where
    by : (a b c : Bool) → (a ≡ true → b ≡ true) → a || c ≡ true → b || c ≡ true
    by true b c f k = rw (f refl) refl
    by false true c f k = refl
    by false false c f k = k

lacks_too : (some more : Names Function) → Fewer some more → (name : List ℕ) → has name more ≡ false → has name some ≡ false
lacks_too some more fewer name h = not_true _ (not_fewer some more fewer name (ap not h))

heads_kept : (gs : Names Global) (keep : Function → Bool) (number place : ℕ) (some more out : Names Function) (fs : List Function) → Fewer some more → d.heads gs number more fs ≡ Ok out → d.heads gs place some (filter keep fs) ≡ Ok (some ++ functions_by_name (filter keep fs))
unfolding d.heads
heads_kept gs keep number place some more out [] fewer h = ap Ok (sym (append-nil some))
heads_kept gs keep number place some more out (f ∷ fs) fewer h =
    let p = first_passed (at _ (d.head gs more f)) _ out h in
    let q = head_passed gs more p.0 f (at_passed _ (d.head gs more f) p.0 p.1) in
    let e : List ℕ × Function = (f.name, f) in
    let grown = subst (λ t. d.heads gs (number + 1) t fs ≡ Ok out) q.2 p.2 in
    by (keep f)
    (both_pass (at _ (d.head gs some f)) _ (some ++ e ∷ []) _ (at_passes _ (d.head gs some f) (some ++ e ∷ []) (head_passes gs some f q.0 (lacks_too some more fewer f.name q.1)))
    (heads_kept gs keep (number + 1) (place + 1) (some ++ e ∷ []) (more ++ e ∷ []) out fs (fewer_both some more e fewer) grown ∙ ap Ok (append_assoc some (e ∷ []) (functions_by_name (filter keep fs)))))
    (heads_kept gs keep (number + 1) place some (more ++ e ∷ []) out fs (fewer_more some more e fewer) grown)
  where
    by : (c : Bool) → d.heads gs place some (f ∷ filter keep fs) ≡ Ok (some ++ functions_by_name (f ∷ filter keep fs)) → d.heads gs place some (filter keep fs) ≡ Ok (some ++ functions_by_name (filter keep fs)) → d.heads gs place some (cond c (f ∷ filter keep fs) (filter keep fs)) ≡ Ok (some ++ functions_by_name (cond c (f ∷ filter keep fs) (filter keep fs)))
    by true a b = a
    by false a b = b

-- ---- main

main_kept : (keeps : List ℕ → Bool) (number place : ℕ) (fs : List Function) → IsTrue (keeps main_name) → d.main number fs ≡ Ok tt → d.main place (filter (λ f. keeps f.name) fs) ≡ Ok tt
unfolding d.main
main_kept keeps number place [] k h = h
main_kept keeps number place (f ∷ fs) k h =
    by (filter (λ g. keeps g.name) fs) (λ q. main_kept keeps (number + 1) q fs k) (bytes_eq main_name f.name) (keeps f.name) refl refl h
  where
    by : (rest : List Function) → ((q : ℕ) → d.main (number + 1) fs ≡ Ok tt → d.main q rest ≡ Ok tt) → (a b : Bool) → bytes_eq main_name f.name ≡ a → keeps f.name ≡ b → (if a then at (site.Statement number 0) (demand (d.is_main f.params f.result) 3) else d.main (number + 1) fs) ≡ Ok tt → d.main place (cond b (f ∷ rest) rest) ≡ Ok tt
    by rest more true true e x y = rw e (at_passes _ (demand (d.is_main f.params f.result) 3) tt (at_passed _ (demand (d.is_main f.params f.result) 3) tt y))
    by rest more true false e x y = let same : main_name ≡ f.name = (bytes_decides main_name f.name).0 e in absurd (true≢false (sym k ∙ ap keeps same ∙ x))
    by rest more false true e x y = rw e (more (place + 1) y)
    by rest more false false e x y = more place y

-- ---- all functions

functions_kept : (ts : Targets) (known : Env) (keep : Function → Bool) (some more : Names Function) (number place : ℕ) (fs : List Function) → is_some ts ≡ is_some known.targets → Fewer some more → Each (λ f. keep f ≡ true → (name : List ℕ) → MentionsInBlocks name f.blocks → MeansSame ts known.targets some more name) fs → d.functions known more number fs ≡ Ok tt → d.functions (seeing ts known) some place (filter keep fs) ≡ Ok tt
unfolding d.functions
functions_kept ts known keep some more number place [] e fewer a h = refl
functions_kept ts known keep some more number place (f ∷ fs) e fewer a h =
    let p = first_passed (d.one_function known more number f) _ tt h in
    by (λ q. functions_kept ts known keep some more (number + 1) q fs e fewer a.1 p.2) (keep f) refl p.1
  where
    by : ((q : ℕ) → d.functions (seeing ts known) some q (filter keep fs) ≡ Ok tt) → (c : Bool) → keep f ≡ c → d.one_function known more number f ≡ Ok tt → d.functions (seeing ts known) some place (cond c (f ∷ filter keep fs) (filter keep fs)) ≡ Ok tt
    by rest true k x = both_pass (d.one_function (seeing ts known) some place f) _ tt tt (function_kept ts some more known number place f e fewer (a.0 k) x) (rest (place + 1))
    by rest false k x = rest place

-- ---- the whole program

nothing_fewer : (more : Names Function) → Fewer [] more
nothing_fewer more name h = cc

first_fewer : (name : List ℕ) (e : List ℕ × Function) (some more : Names Function) → (has name some ≡ true → has name more ≡ true) → has name (e ∷ some) ≡ true → has name (e ∷ more) ≡ true
first_fewer name e some more fewer h = by (bytes_eq name e.0) h
  where
    by : (a : Bool) → is_some (cond a (Some e.1) (named name some)) ≡ true → is_some (cond a (Some e.1) (named name more)) ≡ true
    by true k = refl
    by false k = fewer k

later_has : (name : List ℕ) (e : List ℕ × Function) (more : Names Function) → has name more ≡ true → has name (e ∷ more) ≡ true
later_has name e more h = by (bytes_eq name e.0)
  where
    by : (a : Bool) → is_some (cond a (Some e.1) (named name more)) ≡ true
    by true = refl
    by false = h

kept_fewer : (keep : Function → Bool) (fs : List Function) → Fewer (functions_by_name (filter keep fs)) (functions_by_name fs)
kept_fewer keep [] name h = h
kept_fewer keep (f ∷ fs) name h = by (keep f) (kept_fewer keep fs name) h
  where
    by : (c : Bool) → (has name (functions_by_name (filter keep fs)) ≡ true → has name (functions_by_name fs) ≡ true) → has name (functions_by_name (cond c (f ∷ filter keep fs) (filter keep fs))) ≡ true → has name (functions_by_name (f ∷ fs)) ≡ true
    by true more k = first_fewer name (f.name, f) (functions_by_name (filter keep fs)) (functions_by_name fs) more k
    by false more k = later_has name (f.name, f) (functions_by_name fs) (more k)

-- a name means the same in both tables where it is kept if a function has it
agrees_by : (keeps : List ℕ → Bool) (fs : List Function) (name : List ℕ) (o : Option Function) → function_named name fs ≡ o → ((g : Function) → o ≡ Some g → IsTrue (keeps name)) → Agrees (functions_by_name (filter (λ f. keeps f.name) fs)) (functions_by_name fs) name
unfolding function_named
agrees_by keeps fs name (Some g) e k =
    named_find (λ f. f.name) name (filter (λ f. keeps f.name) fs)
    ∙ first_kept (λ (f : Function). bytes_eq f.name name) (λ (f : Function). keeps f.name) (λ f t. rw (same_name_true f.name name t) (k g refl)) fs
    ∙ sym (named_find (λ f. f.name) name fs)
agrees_by keeps fs name None e k =
    let none : named name (functions_by_name fs) ≡ None = named_find (λ f. f.name) name fs ∙ e in
    both_none _ _ (kept_fewer (λ f. keeps f.name) fs name) none
  where
    both_none : (some more : Option Function) → (is_some some ≡ true → is_some more ≡ true) → more ≡ None → some ≡ more
    both_none None more fewer n = sym n
    both_none (Some g) None fewer n = let f = fewer refl in cc
    both_none (Some g) (Some f) fewer n = cc

targets_agree : (b : Bool) (some more : Names Function) (name : List ℕ) → Agrees some more name → SameTarget (if b then Some some else None) (if b then Some more else None) name
targets_agree true some more name a = ap is_some a
targets_agree false some more name a = refl

both_some : (b : Bool) (some more : Names Function) → is_some (let ts : Targets = if b then Some some else None in ts) ≡ is_some (let ts : Targets = if b then Some more else None in ts)
both_some true some more = refl
both_some false some more = refl

module _ (p : Program) (keeps : List ℕ → Bool) (closed : IsClosed p keeps) where
  abbrev kept : Names Function
  kept = functions_by_name (filter (λ f. keeps f.name) p.functions)

  abbrev all : Names Function
  all = functions_by_name p.functions

  means_same : (name : List ℕ) → ((g : Function) → function_named name p.functions ≡ Some g → IsTrue (keeps name)) → MeansSame (targets_of (with_kept keeps p)) (targets_of p) kept all name
  means_same name k =
      let agrees = agrees_by keeps p.functions name (function_named name p.functions) refl k in
      (agrees, targets_agree (p.profile == 2) kept all name agrees)

  -- what the kept functions mention stays within the set
  mentions_kept : (fs : List Function) → Each (λ f. named f.name all ≡ Some f) fs → Each (λ f. keeps f.name ≡ true → (name : List ℕ) → MentionsInBlocks name f.blocks → MeansSame (targets_of (with_kept keeps p)) (targets_of p) kept all name) fs
  unfolding function_named
  mentions_kept [] u = tt
  mentions_kept (f ∷ fs) u =
      (λ k name m. means_same name (λ g e. closed.bodies f.name f name g k (sym (named_find (λ h. h.name) f.name p.functions) ∙ u.0) m e), mentions_kept fs u.1)

  -- ---- globals

  item_kept : (gs : Names Global) (scalar : Scalar) (x : Operand) → Alike (targets_of (with_kept keeps p)) (targets_of p) x → d.item (targets_of (with_kept keeps p)) gs scalar x ≡ d.item (targets_of p) gs scalar x
  unfolding d.item
  item_kept gs scalar (Reg name) a = refl
  item_kept gs scalar (Number z) a = refl
  item_kept gs scalar Null a = refl
  item_kept gs scalar (Address name offset) a =
      λ i. demand (s.is_pointer scalar) 4 >> (demand (in_scalar I64 offset) 13 >> (demand (has name gs || not (a i) || int_eq offset (pos 0)) 11 >> demand (has name gs || a i) 1))

  items_kept : (gs : Names Global) (slots : List LayoutSlot) (xs : List Operand) → All (Alike (targets_of (with_kept keeps p)) (targets_of p)) xs → d.items (targets_of (with_kept keeps p)) gs slots xs ≡ d.items (targets_of p) gs slots xs
  unfolding d.items
  items_kept gs [] [] a = refl
  items_kept gs [] (x ∷ xs) a = refl
  items_kept gs (slot ∷ slots) [] a = refl
  items_kept gs (slot ∷ slots) (x ∷ xs) a =
      λ i. item_kept gs slot.scalar x (All-head (Alike (targets_of (with_kept keeps p)) (targets_of p)) x xs a) i >> items_kept gs slots xs (All-tail (Alike (targets_of (with_kept keeps p)) (targets_of p)) x xs a) i

  global_kept : (everywhere earlier : Names Global) (g : Global) → All (Alike (targets_of (with_kept keeps p)) (targets_of p)) g.items → d.one_global p.structs (targets_of (with_kept keeps p)) everywhere earlier g ≡ d.one_global p.structs (targets_of p) everywhere earlier g
  unfolding d.one_global
  global_kept everywhere earlier g a =
      λ i. declared earlier g.decl.name g >>= (λ more. d.known_shape (structs_by_name p.structs) g.decl.shape >> (d.sized p.structs g.decl
      >> (demand (nat_le (length g.items) (length (layout_of p.structs g.decl).slots)) 11 >> (items_kept everywhere (layout_of p.structs g.decl).slots g.items a i >> pure more))))

  globals_kept : (everywhere : Names Global) (number : ℕ) (earlier : Names Global) (gs : List Global) → ((name : List ℕ) → MentionsInItems name gs → SameTarget (targets_of (with_kept keeps p)) (targets_of p) name) → d.globals p.structs (targets_of (with_kept keeps p)) everywhere number earlier gs ≡ d.globals p.structs (targets_of p) everywhere number earlier gs
  unfolding d.globals
  globals_kept everywhere number earlier [] a = refl
  globals_kept everywhere number earlier (g ∷ gs) a =
      let alike = all_alike (targets_of (with_kept keeps p)) (targets_of p) g.items (λ name t. a name (MentionsInItems.here g gs t)) in
      λ i. at (site.Global number) (global_kept everywhere earlier g alike i) >>= (λ more. globals_kept everywhere (number + 1) more gs (λ name m. a name (MentionsInItems.later g gs m)) i)

-- a program without the functions outside a closed set has no type fault where the program has none
pub kept_accepted : (p : Program) (keeps : List ℕ → Bool) → IsClosed p keeps → first_fault p ≡ None → first_fault (with_kept keeps p) ≡ None
unfolding first_fault checked
kept_accepted p keeps closed h =
    let keep : Function → Bool = λ f. keeps f.name in
    let all = no_fault _ h in
    let a = first_passed (d.structs p.structs 0 [] p.structs) _ tt all in
    let b = first_passed (d.globals p.structs (targets_of p) (globals_by_name p.globals) 0 [] p.globals) _ tt a.2 in
    let c = first_passed (d.heads b.0 0 [] p.functions) _ tt b.2 in
    let m = first_passed (d.main 0 p.functions) _ tt c.2 in
    let same : c.0 ≡ functions_by_name p.functions = heads_are b.0 0 [] c.0 p.functions c.1 in
    let items = globals_kept p keeps closed (globals_by_name p.globals) 0 [] p.globals (λ name t. (means_same p keeps closed name (λ g e. closed.items name g t e)).1) in
    no_fault_of _
    (both_pass (d.structs p.structs 0 [] p.structs) _ tt tt a.1
    (both_pass (d.globals p.structs (targets_of (with_kept keeps p)) (globals_by_name p.globals) 0 [] p.globals) _ b.0 tt (items ∙ b.1)
    (both_pass (d.heads b.0 0 [] (filter keep p.functions)) _ (functions_by_name (filter keep p.functions)) tt (heads_kept b.0 keep 0 0 [] [] c.0 p.functions (nothing_fewer []) c.1)
    (both_pass (d.main 0 (filter keep p.functions)) _ tt tt (main_kept keeps 0 0 p.functions closed.main m.1)
    (functions_kept (targets_of (with_kept keeps p)) (known_env p.structs (targets_of p) b.0) keep (functions_by_name (filter keep p.functions)) (functions_by_name p.functions) 0 0 p.functions
    (both_some (p.profile == 2) (functions_by_name (filter keep p.functions)) (functions_by_name p.functions)) (kept_fewer keep p.functions)
    (mentions_kept p keeps closed p.functions (subst (λ t. Each (λ f. named f.name t ≡ Some f) p.functions) same (heads_find b.0 0 [] c.0 p.functions c.1)))
    (subst (λ t. d.functions (known_env p.structs (targets_of p) b.0) t 0 p.functions ≡ Ok tt) same m.2))))))

-- the reached functions of a program without a type fault have none
pub reached_accepted : (p q : Program) → first_fault p ≡ None → IsWithoutUnreached p q → first_fault q ≡ None
reached_accepted p q h w = subst (λ r. first_fault r ≡ None) (sym w.program) (kept_accepted p w.keeps (reached_closed p w.keeps w.reached) h)
