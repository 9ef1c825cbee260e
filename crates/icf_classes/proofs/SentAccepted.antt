-- A program whose calls are sent to functions that are alike has no type fault where the program has none.
use Rattle.std.proofs.Common.{◌≡◌, ℕ, ◌+◌, ◌==◌, Bool, true, false, not, cond, ◌||◌, List, [], ◌∷◌, ◌++◌, map, length, nat_le, Option, Some, None, Ok, refl, sym, ap, ◌∙◌, subst, append_assoc, append-nil, if◌then◌else◌, pos}
use Rattle.std.specs.Ordering.{int_eq}
use Rattle.std.specs.Option.{option_map, is_some}
use Rattle.std.specs.List.{All, list_any}
use Rattle.std.specs.Str.{bytes_eq}
use Rattle.std.proofs.lemmas.List.{length-map}
use Rattle.std.proofs.lemmas.List.Elements.{All-head, All-tail}
use Rattle.gimple_ir.specs.declared.scalar.Scalar.{Scalar}
use Rattle.gimple_ir.specs.declared.scalar.Scalar.TheVariants.{I64}
use Rattle.gimple_ir.specs.declared.operand.Operand.{Operand}
use Rattle.gimple_ir.specs.declared.operand.Operand.TheVariants.{Reg, Number, Null, Address}
use Rattle.gimple_ir.specs.declared.value.LayoutSlot.{LayoutSlot}
use Rattle.gimple_ir.specs.declared.statement.Stmt.{Stmt}
use Rattle.gimple_ir.specs.declared.statement.Stmt.TheVariants.{Copy, Arith, Compare, Convert, Load, Store, Call, Indirect, Get, Put, Abort}
use Rattle.gimple_ir.specs.declared.block.Case.{Case}
use Rattle.gimple_ir.specs.declared.block.End.{End}
use Rattle.gimple_ir.specs.declared.block.End.TheVariants.{Goto, If, Switch, Return}
use Rattle.gimple_ir.specs.declared.block.Block.{Block}
use Rattle.gimple_ir.specs.declared.declarations.Decl.{Decl}
use Rattle.gimple_ir.specs.declared.declarations.Global.{Global}
use Rattle.gimple_ir.specs.declared.declarations.Register.{Register}
use Rattle.gimple_ir.specs.declared.program.Function.{Function}
use Rattle.gimple_ir.specs.declared.program.Program.{Program}
use Rattle.gimple_ir.specs.declared.fault.Site.TheVariants as site
use Rattle.gimple_core.specs.Layout.{layout_of}
use Rattle.gimple_core.specs.Operators.{in_scalar}
use Rattle.gimple_core.specs.Run.{function_named, main_name}
use Rattle.gimple_core.specs.Reach.{operands_of, operands_of_end}
use Rattle.gimple_core.specs.Verdict.{Verdict, ◌>>=◌, ◌>>◌, pure, demand, found, at}
use Rattle.gimple_core.specs.Env.{Env, Names, Targets, targets_of, named, has, declared, structs_by_name, functions_by_name, globals_by_name}
use Rattle.gimple_core.specs.Statements as s
use Rattle.gimple_core.specs.Declarations as d
use Rattle.gimple_core.specs.Accepted.{IsAccepted, checked, first_fault, known_env}
use Rattle.gimple_core.proofs.Passed.{first_passed, both_pass, at_passed, at_passes, no_fault, no_fault_of}
use Rattle.gimple_core.proofs.EnvLemmas.{named_find, has_append}
use Rattle.gimple_core.proofs.Heads.{head_passed, head_passes, heads_are}
use Rattle.gimple_core.proofs.SameChecks.{SameTarget, Alike, all_alike, statement_re, compared_re, integer_re, returned_re}
use Rattle.gimple_core.proofs.ProgramTyped.{own_is}
use Rattle.icf_classes.specs.Placed as placed
use Rattle.icf_classes.specs.Placed.{number_of}
use Rattle.icf_classes.specs.Congruence.{Relation}
use Rattle.icf_classes.specs.Merged.{sent_stmt, sent_body, sent_block, sent_function, sent_program}
use Rattle.icf_classes.proofs.Sending.{MeetAlike, Sends, found_sent}

-- both tables have the same names
abbrev SameNames : Names Function → Names Function → Type 0
SameNames some more = (name : List ℕ) → has name some ≡ has name more

-- what a call looks at in its callee
abbrev HeadsAlike : Option Function → Option Function → Type 0
HeadsAlike None None = Unit {0}
HeadsAlike None (Some f) = ⊥
HeadsAlike (Some g) None = ⊥
HeadsAlike (Some g) (Some f) = (s.scalars_of g.params ≡ s.scalars_of f.params) × (g.result ≡ f.result)

called_alike : (env : Env) (target : Option (List ℕ)) (xs : List Operand) (o r : Option Function) → HeadsAlike o r →
    (s.target env target >>= (λ scalar. found o 1 >>= (λ function. demand (length xs == length function.params) 5 >> (s.arguments env (s.scalars_of function.params) xs >> s.result_fits scalar function.result)))) ≡
    (s.target env target >>= (λ scalar. found r 1 >>= (λ function. demand (length xs == length function.params) 5 >> (s.arguments env (s.scalars_of function.params) xs >> s.result_fits scalar function.result))))
called_alike env target xs None None e = refl
called_alike env target xs None (Some f) e = absurd e
called_alike env target xs (Some g) None e = absurd e
called_alike env target xs (Some g) (Some f) e =
    let long : length g.params ≡ length f.params = sym (length-map g.params placed.scalar_of) ∙ (ap (λ (ss : List Scalar). length ss) e.0 ∙ length-map f.params placed.scalar_of) in
    λ i. s.target env target >>= (λ scalar. demand (length xs == long i) 5 >> (s.arguments env (e.0 i) xs >> s.result_fits scalar (e.1 i)))

-- what a function sees beside other functions that may be addressed
abbrev seeing : Targets → Env → Env
seeing ts env = record env { targets = ts }

seeing_ok : (ts : Targets) (a b : Env) → (let r : Verdict Env = Ok a in r) ≡ Ok b → (let r : Verdict Env = Ok (seeing ts a) in r) ≡ Ok (seeing ts b)
seeing_ok ts a b h = let e : a ≡ b = cc in ap (λ (x : Env). pure (seeing ts x)) e

some_same : {X Y : Type 0} (g : X → Y) (o : Option X) → is_some (option_map g o) ≡ is_some o
some_same g None = refl
some_same g (Some x) = refl

-- ---- the names of a function

module _ (ts : Targets) (some more : Names Function) (same : SameNames some more) where
  free_sent : (env : Env) (name : List ℕ) → d.is_free (seeing ts env) some name ≡ d.is_free env more name
  unfolding d.is_free
  free_sent env name = λ i. demand (not (has name env.globals)) 2 >> demand (not (same name i)) 2

  register_sent : (env out : Env) (r : Register) → d.register env more r ≡ Ok out → d.register (seeing ts env) some r ≡ Ok (seeing ts out)
  unfolding d.register
  register_sent env out r h =
      let p = first_passed (d.is_free env more r.name) _ out h in
      let q = first_passed (demand (not (has r.name env.locals)) 2) _ out p.2 in
      let t = first_passed (declared env.registers r.name r) _ out q.2 in
      both_pass (d.is_free (seeing ts env) some r.name) _ tt _ (free_sent env r.name ∙ p.1)
      (both_pass (demand (not (has r.name env.locals)) 2) _ tt _ q.1
      (both_pass (declared env.registers r.name r) _ t.0 _ t.1 (seeing_ok ts (record env { registers = t.0 }) out t.2)))

  registers_sent : (env out : Env) (rs : List Register) → d.registers env more rs ≡ Ok out → d.registers (seeing ts env) some rs ≡ Ok (seeing ts out)
  unfolding d.registers
  registers_sent env out [] h = seeing_ok ts env out h
  registers_sent env out (r ∷ rs) h =
      let p = first_passed (d.register env more r) _ out h in
      both_pass (d.register (seeing ts env) some r) _ (seeing ts p.0) _ (register_sent env p.0 r p.1) (registers_sent p.0 out rs p.2)

  local_sent : (env out : Env) (x : Decl) → d.local env more x ≡ Ok out → d.local (seeing ts env) some x ≡ Ok (seeing ts out)
  unfolding d.local
  local_sent env out x h =
      let p = first_passed (d.is_free env more x.name) _ out h in
      let q = first_passed (demand (not (has x.name env.registers)) 2) _ out p.2 in
      let t = first_passed (declared env.locals x.name x) _ out q.2 in
      let u = first_passed (d.known_shape (structs_by_name env.structs) x.shape) _ out t.2 in
      let v = first_passed (d.sized env.structs x) _ out u.2 in
      both_pass (d.is_free (seeing ts env) some x.name) _ tt _ (free_sent env x.name ∙ p.1)
      (both_pass (demand (not (has x.name env.registers)) 2) _ tt _ q.1
      (both_pass (declared env.locals x.name x) _ t.0 _ t.1
      (both_pass (d.known_shape (structs_by_name env.structs) x.shape) _ tt _ u.1
      (both_pass (d.sized env.structs x) _ tt _ v.1 (seeing_ok ts (record env { locals = t.0 }) out v.2)))))

  locals_sent : (env out : Env) (xs : List Decl) → d.locals env more xs ≡ Ok out → d.locals (seeing ts env) some xs ≡ Ok (seeing ts out)
  unfolding d.locals
  locals_sent env out [] h = seeing_ok ts env out h
  locals_sent env out (x ∷ xs) h =
      let p = first_passed (d.local env more x) _ out h in
      both_pass (d.local (seeing ts env) some x) _ (seeing ts p.0) _ (local_sent env p.0 x p.1) (locals_sent p.0 out xs p.2)

  labels_sent : (to : List ℕ → List ℕ) (earlier : List ℕ) (bs : List Block) → d.labels earlier (map (sent_block to) bs) ≡ d.labels earlier bs
  unfolding d.labels d.new_label
  labels_sent to earlier [] = refl
  labels_sent to earlier (b ∷ bs) = λ i. (demand (not (list_any (λ l. b.label == l) earlier)) 9 >> pure (earlier ++ b.label ∷ [])) >>= (λ more. labels_sent to more bs i)

  blocks_there : (to : List ℕ → List ℕ) (bs : List Block) → d.has_blocks (map (sent_block to) bs) ≡ d.has_blocks bs
  blocks_there to [] = refl
  blocks_there to (b ∷ bs) = refl

  own_sent : (to : List ℕ → List ℕ) (known out : Env) (f : Function) → d.own known more f ≡ Ok out → d.own (seeing ts known) some (sent_function to f) ≡ Ok (seeing ts out)
  unfolding d.own
  own_sent to known out f h =
      let first = record known { locals = []; registers = []; labels = []; result = f.result } in
      let p = first_passed (d.registers first more f.params) _ out h in
      let q = first_passed (d.locals p.0 more f.locals) _ out p.2 in
      let r = first_passed (d.registers q.0 more f.registers) _ out q.2 in
      let t = first_passed (demand (d.has_blocks f.blocks) 10) _ out r.2 in
      let u = first_passed (d.labels [] f.blocks) _ out t.2 in
      both_pass (d.registers (seeing ts first) some f.params) _ (seeing ts p.0) _ (registers_sent first p.0 f.params p.1)
      (both_pass (d.locals (seeing ts p.0) some f.locals) _ (seeing ts q.0) _ (locals_sent p.0 q.0 f.locals q.1)
      (both_pass (d.registers (seeing ts q.0) some f.registers) _ (seeing ts r.0) _ (registers_sent q.0 r.0 f.registers r.1)
      (both_pass (demand (d.has_blocks (map (sent_block to) f.blocks)) 10) _ tt _ (ap (λ b. demand b 10) (blocks_there to f.blocks) ∙ t.1)
      (both_pass (d.labels [] (map (sent_block to) f.blocks)) _ u.0 _ (labels_sent to [] f.blocks ∙ u.1) (seeing_ok ts (record r.0 { labels = u.0 }) out u.2)))))

-- ---- its statements

module _ (to : List ℕ → List ℕ) (ts : Targets) (some more : Names Function) (heads : (callee : List ℕ) → HeadsAlike (named (to callee) some) (named callee more)) where
  callee_checked : (env : Env) (x : Stmt) → s.statement env some (sent_stmt to x) ≡ s.statement env more x
  unfolding s.statement s.called
  callee_checked env (Copy target from) = refl
  callee_checked env (Arith target left op right) = refl
  callee_checked env (Compare target left cmp right) = refl
  callee_checked env (Convert target scalar from) = refl
  callee_checked env (Load target scalar place) = refl
  callee_checked env (Store scalar place from) = refl
  callee_checked env (Call target callee xs) = called_alike env target xs (named (to callee) some) (named callee more) (heads callee)
  callee_checked env (Indirect target signature callee xs) = refl
  callee_checked env (Get target) = refl
  callee_checked env (Put from) = refl
  callee_checked env Abort = refl

  -- the functions that may be addressed have the same names
  abbrev TargetsAlike : Env → Type 0
  TargetsAlike env = (is_some ts ≡ is_some env.targets) × ((name : List ℕ) → SameTarget ts env.targets name)

  statement_checked : (env : Env) (x : Stmt) → TargetsAlike env → s.statement (seeing ts env) some (sent_stmt to x) ≡ s.statement env more x
  statement_checked env x a =
      statement_re env ts env.labels some (sent_stmt to x) a.0 (all_alike ts env.targets (operands_of (sent_stmt to x)) (λ name t. a.1 name)) ∙ callee_checked env x

  body_checked : (env : Env) (index other number place : ℕ) (xs : List Stmt) → TargetsAlike env → s.body env more index number xs ≡ Ok tt → s.body (seeing ts env) some other place (sent_body to xs) ≡ Ok tt
  unfolding s.body
  body_checked env index other number place [] a h = refl
  body_checked env index other number place (x ∷ xs) a h =
      let p = first_passed (at _ (s.statement env more x)) _ tt h in
      both_pass _ _ tt tt (at_passes _ (s.statement (seeing ts env) some (sent_stmt to x)) tt (statement_checked env x a ∙ at_passed _ (s.statement env more x) tt p.1))
      (body_checked env index other (number + 1) (place + 1) xs a p.2)

  case_labels_checked : (env : Env) (cs : List Case) → s.case_labels (seeing ts env) cs ≡ s.case_labels env cs
  unfolding s.case_labels s.label
  case_labels_checked env [] = refl
  case_labels_checked env (c ∷ cs) = λ i. s.label env c.target >> case_labels_checked env cs i

  ending_checked : (env : Env) (end : End) → All (Alike ts env.targets) (operands_of_end end) → s.ending (seeing ts env) end ≡ s.ending env end
  unfolding s.ending s.label
  ending_checked env (Goto label) a = refl
  ending_checked env (If left cmp right hit miss) a =
      let one = All-head (Alike ts env.targets) left (right ∷ []) a in
      let two = All-head (Alike ts env.targets) right [] (All-tail (Alike ts env.targets) left (right ∷ []) a) in
      λ i. compared_re env ts env.labels left cmp right one two i >> (s.label env hit >> s.label env miss)
  ending_checked env (Switch on cases other) a = λ i. integer_re env ts env.labels on i >>= (λ scalar. s.case_values scalar [] cases >> (case_labels_checked env cases i >> s.label env other))
  ending_checked env (Return x) a = returned_re env ts env.labels x env.result a

  blocks_checked : (env : Env) (index other number place : ℕ) (bs : List Block) → TargetsAlike env → s.blocks env more index number bs ≡ Ok tt → s.blocks (seeing ts env) some other place (map (sent_block to) bs) ≡ Ok tt
  unfolding s.blocks
  blocks_checked env index other number place [] a h = refl
  blocks_checked env index other number place (b ∷ bs) a h =
      let p = first_passed (s.body env more index number b.body) _ tt h in
      let q = first_passed (at _ (s.ending env b.end)) _ tt p.2 in
      let alike = all_alike ts env.targets (operands_of_end b.end) (λ name t. a.1 name) in
      both_pass _ _ tt tt (body_checked env index other number place b.body a p.1)
      (both_pass _ _ tt tt (at_passes _ (s.ending (seeing ts env) b.end) tt (ending_checked env b.end alike ∙ at_passed _ (s.ending env b.end) tt q.1))
      (blocks_checked env index other (number + length b.body + 1) (place + length (sent_body to b.body) + 1) bs a q.2))

  -- ---- functions

  module _ (same : SameNames some more) where
    function_checked : (known : Env) (number place : ℕ) (f : Function) → TargetsAlike known → d.one_function known more number f ≡ Ok tt → d.one_function (seeing ts known) some place (sent_function to f) ≡ Ok tt
    unfolding d.one_function
    function_checked known number place f a h =
        let p = first_passed (at _ (d.own known more f)) _ tt h in
        let own = at_passed _ (d.own known more f) p.0 p.1 in
        let targets : known.targets ≡ p.0.targets = sym (ap (λ (x : Env). x.targets) (own_is known p.0 more f own)) in
        both_pass (at _ (d.own (seeing ts known) some (sent_function to f))) _ (seeing ts p.0) tt (at_passes _ (d.own (seeing ts known) some (sent_function to f)) (seeing ts p.0) (own_sent ts some more same to known p.0 f own))
        (blocks_checked p.0 number place 1 1 f.blocks (a.0 ∙ ap is_some targets, λ name. subst (λ us. SameTarget ts us name) targets (a.1 name)) p.2)

    functions_checked : (known : Env) (number place : ℕ) (fs : List Function) → TargetsAlike known → d.functions known more number fs ≡ Ok tt → d.functions (seeing ts known) some place (map (sent_function to) fs) ≡ Ok tt
    unfolding d.functions
    functions_checked known number place [] a h = refl
    functions_checked known number place (f ∷ fs) a h =
        let p = first_passed (d.one_function known more number f) _ tt h in
        both_pass (d.one_function (seeing ts known) some place (sent_function to f)) _ tt tt (function_checked known number place f a p.1) (functions_checked known (number + 1) (place + 1) fs a p.2)

-- ---- heads of functions, and main

one_more : (some more : Names Function) (name : List ℕ) (f g : Function) → SameNames some more → SameNames (some ++ (name, g) ∷ []) (more ++ (name, f) ∷ [])
one_more some more name f g same other =
    has_append other some ((name, g) ∷ []) ∙ ((λ i. same other i || by (bytes_eq other name) i) ∙ sym (has_append other more ((name, f) ∷ [])))
  where
    by : (b : Bool) → is_some (cond b (Some g) None) ≡ is_some (cond b (Some f) None)
    by true = refl
    by false = refl

heads_checked : (to : List ℕ → List ℕ) (gs : Names Global) (number place : ℕ) (some more out : Names Function) (fs : List Function) → SameNames some more → d.heads gs number more fs ≡ Ok out →
    d.heads gs place some (map (sent_function to) fs) ≡ Ok (some ++ functions_by_name (map (sent_function to) fs))
unfolding d.heads
heads_checked to gs number place some more out [] same h = ap Ok (sym (append-nil some))
heads_checked to gs number place some more out (f ∷ fs) same h =
    let p = first_passed (at _ (d.head gs more f)) _ out h in
    let q = head_passed gs more p.0 f (at_passed _ (d.head gs more f) p.0 p.1) in
    let g : Function = sent_function to f in
    let e : List ℕ × Function = (f.name, g) in
    let grown = subst (λ t. d.heads gs (number + 1) t fs ≡ Ok out) q.2 p.2 in
    both_pass (at _ (d.head gs some g)) _ (some ++ e ∷ []) _ (at_passes _ (d.head gs some g) (some ++ e ∷ []) (head_passes gs some g q.0 (same f.name ∙ q.1)))
    (heads_checked to gs (number + 1) (place + 1) (some ++ e ∷ []) (more ++ (f.name, f) ∷ []) out fs (one_more some more f.name f g same) grown ∙ ap Ok (append_assoc some (e ∷ []) (functions_by_name (map (sent_function to) fs))))

main_checked : (to : List ℕ → List ℕ) (number : ℕ) (fs : List Function) → d.main number (map (sent_function to) fs) ≡ d.main number fs
unfolding d.main
main_checked to number [] = refl
main_checked to number (f ∷ fs) = λ i. if bytes_eq main_name f.name then at (site.Statement number 0) (demand (d.is_main f.params f.result) 3) else main_checked to (number + 1) fs i

-- ---- globals

module _ (ts us : Targets) (same : (name : List ℕ) → SameTarget ts us name) where
  item_checked : (gs : Names Global) (scalar : Scalar) (x : Operand) → d.item ts gs scalar x ≡ d.item us gs scalar x
  unfolding d.item
  item_checked gs scalar (Reg name) = refl
  item_checked gs scalar (Number z) = refl
  item_checked gs scalar Null = refl
  item_checked gs scalar (Address name offset) =
      λ i. demand (s.is_pointer scalar) 4 >> (demand (in_scalar I64 offset) 13 >> (demand (has name gs || not (same name i) || int_eq offset (pos 0)) 11 >> demand (has name gs || same name i) 1))

  items_checked : (gs : Names Global) (slots : List LayoutSlot) (xs : List Operand) → d.items ts gs slots xs ≡ d.items us gs slots xs
  unfolding d.items
  items_checked gs [] [] = refl
  items_checked gs [] (x ∷ xs) = refl
  items_checked gs (slot ∷ slots) [] = refl
  items_checked gs (slot ∷ slots) (x ∷ xs) = λ i. item_checked gs slot.scalar x i >> items_checked gs slots xs i

  module _ (p : Program) where
    global_checked : (everywhere earlier : Names Global) (g : Global) → d.one_global p.structs ts everywhere earlier g ≡ d.one_global p.structs us everywhere earlier g
    unfolding d.one_global
    global_checked everywhere earlier g =
        λ i. declared earlier g.decl.name g >>= (λ more. d.known_shape (structs_by_name p.structs) g.decl.shape >> (d.sized p.structs g.decl
        >> (demand (nat_le (length g.items) (length (layout_of p.structs g.decl).slots)) 11 >> (items_checked everywhere (layout_of p.structs g.decl).slots g.items i >> pure more))))

    globals_checked : (everywhere : Names Global) (number : ℕ) (earlier : Names Global) (gs : List Global) → d.globals p.structs ts everywhere number earlier gs ≡ d.globals p.structs us everywhere number earlier gs
    unfolding d.globals
    globals_checked everywhere number earlier [] = refl
    globals_checked everywhere number earlier (g ∷ gs) = λ i. at (site.Global number) (global_checked everywhere earlier g i) >>= (λ more. globals_checked everywhere (number + 1) more gs i)

-- ---- the whole program

targets_same : (b : Bool) (some more : Names Function) → SameNames some more → (name : List ℕ) → SameTarget (if b then Some some else None) (if b then Some more else None) name
targets_same true some more same name = same name
targets_same false some more same name = refl

targets_both : (b : Bool) (some more : Names Function) → is_some (let ts : Targets = if b then Some some else None in ts) ≡ is_some (let ts : Targets = if b then Some more else None in ts)
targets_both true some more = refl
targets_both false some more = refl

heads_met : (to : List ℕ → List ℕ) (R : Relation) (p : Program) (o r : Option Function) → MeetAlike R p o r → HeadsAlike (option_map (sent_function to) r) o
heads_met to R p None None m = tt
heads_met to R p None (Some g) m = absurd m
heads_met to R p (Some f) None m = absurd m
heads_met to R p (Some f) (Some g) m = (ap (λ (z : placed.PlacedFunction). z.params) (sym m.form), ap (λ (z : placed.PlacedFunction). z.result) (sym m.form))

module _ (R : Relation) (reflexive : (i : ℕ) → R i i ≡ true) (p : Program) (to : List ℕ → List ℕ) (sends : Sends R p to) where
  abbrev some : Names Function
  some = functions_by_name (map (sent_function to) p.functions)

  abbrev more : Names Function
  more = functions_by_name p.functions

  named_sent : (name : List ℕ) → named name (functions_by_name (map (sent_function to) p.functions)) ≡ option_map (sent_function to) (function_named name p.functions)
  unfolding function_named
  named_sent name = named_find (λ (f : Function). f.name) name (map (sent_function to) p.functions) ∙ found_sent to name p.functions

  named_before : (name : List ℕ) → named name (functions_by_name p.functions) ≡ function_named name p.functions
  unfolding function_named
  named_before name = named_find (λ (f : Function). f.name) name p.functions

  same_names : SameNames (functions_by_name (map (sent_function to) p.functions)) (functions_by_name p.functions)
  same_names name = ap is_some (named_sent name) ∙ (some_same (sent_function to) (function_named name p.functions) ∙ sym (ap is_some (named_before name)))

  heads_alike : (callee : List ℕ) → HeadsAlike (named (to callee) (functions_by_name (map (sent_function to) p.functions))) (named callee (functions_by_name p.functions))
  heads_alike callee =
      subst (λ o. HeadsAlike o (named callee (functions_by_name p.functions))) (sym (named_sent (to callee)))
      (subst (λ o. HeadsAlike (option_map (sent_function to) (function_named (to callee) p.functions)) o) (sym (named_before callee))
      (heads_met to R p (function_named callee p.functions) (function_named (to callee) p.functions) (sends.found callee callee (reflexive (number_of p callee)))))

  -- where calls are sent to functions that are alike, no type fault comes
  pub sent_accepted : IsAccepted p → IsAccepted (sent_program to p)
  unfolding first_fault checked
  sent_accepted h =
      let a = first_passed (d.structs p.structs 0 [] p.structs) _ tt (no_fault _ h) in
      let b = first_passed (d.globals p.structs (targets_of p) (globals_by_name p.globals) 0 [] p.globals) _ tt a.2 in
      let c = first_passed (d.heads b.0 0 [] p.functions) _ tt b.2 in
      let m = first_passed (d.main 0 p.functions) _ tt c.2 in
      let table : c.0 ≡ functions_by_name p.functions = heads_are b.0 0 [] c.0 p.functions c.1 in
      let targets = targets_same (p.profile == 2) some more same_names in
      let both = targets_both (p.profile == 2) some more in
      let items = globals_checked (targets_of (sent_program to p)) (targets_of p) targets p (globals_by_name p.globals) 0 [] p.globals in
      no_fault_of _
      (both_pass (d.structs p.structs 0 [] p.structs) _ tt tt a.1
      (both_pass (d.globals p.structs (targets_of (sent_program to p)) (globals_by_name p.globals) 0 [] p.globals) _ b.0 tt (items ∙ b.1)
      (both_pass (d.heads b.0 0 [] (map (sent_function to) p.functions)) _ (functions_by_name (map (sent_function to) p.functions)) tt (heads_checked to b.0 0 0 [] [] c.0 p.functions (λ name. refl) c.1)
      (both_pass (d.main 0 (map (sent_function to) p.functions)) _ tt tt (main_checked to 0 p.functions ∙ m.1)
      (functions_checked to (targets_of (sent_program to p)) some more heads_alike same_names (known_env p.structs (targets_of p) b.0) 0 0 p.functions (both, targets)
      (subst (λ t. d.functions (known_env p.structs (targets_of p) b.0) t 0 p.functions ≡ Ok tt) table m.2))))))
