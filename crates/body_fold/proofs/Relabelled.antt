-- The checks of statements look at neither labels nor the bodies of functions.
use Rattle.std.proofs.Common.{◌≡◌, ℕ, ◌+◌, ◌==◌, Bool, true, false, not, ◌||◌, if◌then◌else◌, List, [], ◌∷◌, length, nat_le, refl, sym, ◌∙◌, ap, subst, Option, Some, None, Ok, pos}
use Rattle.std.specs.Prelude.{is_some}
use Rattle.std.specs.Ordering.{int_eq}
use Rattle.std.specs.List.{All}
use Rattle.std.proofs.lemmas.List.Elements.{All-head}
use Rattle.gimple_ir.specs.declared.scalar.Scalar.{Scalar}
use Rattle.gimple_ir.specs.declared.scalar.Scalar.TheVariants.{I64}
use Rattle.gimple_ir.specs.declared.scalar.Cmp.{Cmp}
use Rattle.gimple_ir.specs.declared.operand.Operand.{Operand}
use Rattle.gimple_ir.specs.declared.operand.Operand.TheVariants.{Reg, Number, Null, Address}
use Rattle.gimple_ir.specs.declared.declarations.Register.{Register}
use Rattle.gimple_ir.specs.declared.declarations.Decl.{Decl}
use Rattle.gimple_ir.specs.declared.declarations.StructDef.{StructDef}
use Rattle.gimple_ir.specs.declared.declarations.Global.{Global}
use Rattle.gimple_ir.specs.declared.value.LayoutSlot.{LayoutSlot}
use Rattle.gimple_ir.specs.declared.statement.Stmt.{Stmt}
use Rattle.gimple_ir.specs.declared.statement.Stmt.TheVariants.{Copy, Arith, Compare, Convert, Load, Store, Call, Indirect, Get, Put, Abort}
use Rattle.gimple_ir.specs.declared.block.Block.{Block}
use Rattle.gimple_ir.specs.declared.block.Case.{Case}
use Rattle.gimple_ir.specs.declared.block.End.{End}
use Rattle.gimple_ir.specs.declared.block.End.TheVariants.{Goto, If, Switch, Return}
use Rattle.gimple_ir.specs.declared.program.Function.{Function}
use Rattle.gimple_ir.specs.declared.fault.Site.TheVariants as site
use Rattle.gimple_core.specs.Layout.{layout_of}
use Rattle.gimple_core.specs.Operators.{in_scalar}
use Rattle.gimple_core.specs.Reach.{operands_of, operands_of_end}
use Rattle.gimple_core.specs.Verdict.{Verdict, ◌>>=◌, ◌>>◌, pure, demand, found, at}
use Rattle.gimple_core.specs.Env.{Env, Names, Targets, has, named, declared, structs_by_name}
use Rattle.gimple_core.specs.Statements as s
use Rattle.gimple_core.specs.Declarations as d
use Rattle.gimple_core.proofs.Passed.{first_passed, both_pass, demand_passes, at_passed, at_passes}
use Rattle.gimple_core.proofs.ProgramTyped.{own_is, own_has_blocks}
use Rattle.gimple_core.proofs.SameChecks.{SameTarget, Alike, all_alike, statement_re, compared_re, integer_re, returned_re}

-- the same but for the functions that may be addressed and the labels
abbrev pub seen_with : Env → Targets → List ℕ → Env
seen_with env ts ls = record env { targets = ts; labels = ls }

-- both or neither let functions be addressed, and functions of the same names
pub record SameTargets (a b : Targets) : Type 0 where
  pub some : is_some a ≡ is_some b
  pub same : (name : List ℕ) → SameTarget a b name

module _ (env : Env) (ts : Targets) (ls : List ℕ) (h : SameTargets ts env.targets) where
  all_so : (xs : List Operand) → All (Alike ts env.targets) xs
  all_so xs = all_alike ts env.targets xs (λ name t. h.same name)

  one_so : (x : Operand) → Alike ts env.targets x
  one_so x = All-head (Alike ts env.targets) x [] (all_so (x ∷ []))

  pub statement_seen : (names : Names Function) (x : Stmt) → s.statement (record env { targets = ts; labels = ls }) names x ≡ s.statement env names x
  statement_seen names x = statement_re env ts ls names x h.some (all_so (operands_of x))

  pub compared_seen : (left : Operand) (cmp : Cmp) (right : Operand) → s.compared (record env { targets = ts; labels = ls }) left cmp right ≡ s.compared env left cmp right
  compared_seen left cmp right = compared_re env ts ls left cmp right (one_so left) (one_so right)

  pub integer_seen : (x : Operand) → s.integer (record env { targets = ts; labels = ls }) x ≡ s.integer env x
  integer_seen x = integer_re env ts ls x

  pub returned_seen : (x : Option Operand) (result : Option Scalar) → s.returned (record env { targets = ts; labels = ls }) x result ≡ s.returned env x result
  returned_seen x result = returned_re env ts ls x result (all_so (operands_of_end (Return x)))

-- ---- the same heads of functions

-- what a call looks at in its callee
pub record Head : Type 0 where
  pub params : List Register
  pub result : Option Scalar

abbrev pub head_of : Function → Head
head_of f = record { params = f.params; result = f.result }

abbrev pub heads_of : Option Function → Option Head
heads_of None = None
heads_of (Some f) = Some (head_of f)

abbrev pub SameHeads : Names Function → Names Function → Type 0
SameHeads names more = (name : List ℕ) → heads_of (named name names) ≡ heads_of (named name more)

called_by : (env : Env) (to : Option (List ℕ)) (xs : List Operand) (o r : Option Function) → heads_of o ≡ heads_of r →
    (s.target env to >>= (λ scalar. found o 1 >>= (λ function. demand (length xs == length function.params) 5 >> (s.arguments env (s.scalars_of function.params) xs >> s.result_fits scalar function.result)))) ≡
    (s.target env to >>= (λ scalar. found r 1 >>= (λ function. demand (length xs == length function.params) 5 >> (s.arguments env (s.scalars_of function.params) xs >> s.result_fits scalar function.result))))
called_by env to xs None None e = refl
called_by env to xs None (Some g) e = cc
called_by env to xs (Some f) None e = cc
called_by env to xs (Some f) (Some g) e =
    let same : head_of f ≡ head_of g = cc in
    λ i. s.target env to >>= (λ scalar. demand (length xs == length (same i).params) 5 >> (s.arguments env (s.scalars_of (same i).params) xs >> s.result_fits scalar (same i).result))

pub statement_heads : (env : Env) (names more : Names Function) → SameHeads names more → (x : Stmt) → s.statement env names x ≡ s.statement env more x
unfolding s.statement s.called
statement_heads env names more e (Copy to from) = refl
statement_heads env names more e (Arith to left op right) = refl
statement_heads env names more e (Compare to left cmp right) = refl
statement_heads env names more e (Convert to scalar from) = refl
statement_heads env names more e (Load to scalar place) = refl
statement_heads env names more e (Store scalar place from) = refl
statement_heads env names more e (Call to callee xs) = called_by env to xs (named callee names) (named callee more) (e callee)
statement_heads env names more e (Indirect to signature callee xs) = refl
statement_heads env names more e (Get to) = refl
statement_heads env names more e (Put from) = refl
statement_heads env names more e Abort = refl

some_heads : (o : Option Function) → is_some o ≡ is_some (heads_of o)
some_heads None = refl
some_heads (Some f) = refl

has_same : (names more : Names Function) → SameHeads names more → (name : List ℕ) → has name names ≡ has name more
has_same names more e name = some_heads (named name names) ∙ (ap is_some (e name) ∙ sym (some_heads (named name more)))

-- the functions of a program that may be addressed
pub same_targets : (b : Bool) (names more : Names Function) → SameHeads names more → SameTargets (if b then Some names else None) (if b then Some more else None)
same_targets true names more e = record { some = refl; same = λ name. has_same names more e name }
same_targets false names more e = record { some = refl; same = λ name. refl }

-- ---- globals

module _ (structs : List StructDef) (a b : Targets) (h : SameTargets a b) where
  item_same : (all : Names Global) (scalar : Scalar) (x : Operand) → d.item a all scalar x ≡ d.item b all scalar x
  unfolding d.item
  item_same all scalar (Reg name) = refl
  item_same all scalar (Number z) = refl
  item_same all scalar Null = refl
  item_same all scalar (Address name offset) =
      λ i. demand (s.is_pointer scalar) 4 >> (demand (in_scalar I64 offset) 13 >> (demand (has name all || not (h.same name i) || int_eq offset (pos 0)) 11 >> demand (has name all || h.same name i) 1))

  items_same : (all : Names Global) (slots : List LayoutSlot) (xs : List Operand) → d.items a all slots xs ≡ d.items b all slots xs
  unfolding d.items
  items_same all [] [] = refl
  items_same all [] (x ∷ xs) = refl
  items_same all (slot ∷ slots) [] = refl
  items_same all (slot ∷ slots) (x ∷ xs) = λ i. item_same all slot.scalar x i >> items_same all slots xs i

  global_same : (all earlier : Names Global) (g : Global) → d.one_global structs a all earlier g ≡ d.one_global structs b all earlier g
  unfolding d.one_global
  global_same all earlier g =
      λ i. declared earlier g.decl.name g >>= (λ more. d.known_shape (structs_by_name structs) g.decl.shape >> (d.sized structs g.decl
      >> (demand (nat_le (length g.items) (length (layout_of structs g.decl).slots)) 11 >> (items_same all (layout_of structs g.decl).slots g.items i >> pure more))))

  pub globals_same : (all : Names Global) (number : ℕ) (earlier : Names Global) (gs : List Global) → d.globals structs a all number earlier gs ≡ d.globals structs b all number earlier gs
  unfolding d.globals
  globals_same all number earlier [] = refl
  globals_same all number earlier (g ∷ gs) = λ i. at (site.Global number) (global_same all earlier g i) >>= (λ more. globals_same all (number + 1) more gs i)

-- ---- the names of a function

seen_ok : (ts : Targets) (a b : Env) → (let r : Verdict Env = Ok a in r) ≡ Ok b → (let r : Verdict Env = Ok (record a { targets = ts }) in r) ≡ Ok (record b { targets = ts })
seen_ok ts a b h = let e : a ≡ b = cc in ap (λ (x : Env). pure (record x { targets = ts })) e

labelled_ok : (ts : Targets) (ls : List ℕ) (a b : Env) → (let r : Verdict Env = Ok a in r) ≡ Ok b → (let r : Verdict Env = Ok (seen_with a ts ls) in r) ≡ Ok (seen_with b ts ls)
labelled_ok ts ls a b h = let e : a ≡ b = cc in ap (λ (x : Env). pure (seen_with x ts ls)) e

-- the labels that a function sees are its own
pub own_labels : (known out : Env) (names : Names Function) (f : Function) → d.own known names f ≡ Ok out → d.labels [] f.blocks ≡ Ok out.labels
unfolding d.own
own_labels known out names f h =
    let first : Env = record known { locals = []; registers = []; labels = []; result = f.result } in
    let p = first_passed (d.registers first names f.params) _ out h in
    let q = first_passed (d.locals p.0 names f.locals) _ out p.2 in
    let r = first_passed (d.registers q.0 names f.registers) _ out q.2 in
    let k = first_passed (demand (d.has_blocks f.blocks) 10) _ out r.2 in
    let t = first_passed (d.labels [] f.blocks) _ out k.2 in
    let same : record r.0 { labels = t.0 } ≡ out = cc in
    subst (λ (e : Env). d.labels [] f.blocks ≡ Ok e.labels) same t.1

module _ (names more : Names Function) (e : SameHeads names more) (ts : Targets) where
  -- with the other functions that may be addressed
  abbrev seeing : Env → Env
  seeing env = record env { targets = ts }

  free_same : (env : Env) (name : List ℕ) → d.is_free (seeing env) names name ≡ d.is_free env more name
  unfolding d.is_free
  free_same env name = λ i. demand (not (has name env.globals)) 2 >> demand (not (has_same names more e name i)) 2

  register_seen : (env out : Env) (r : Register) → d.register env more r ≡ Ok out → d.register (seeing env) names r ≡ Ok (seeing out)
  unfolding d.register
  register_seen env out r h =
      let p = first_passed (d.is_free env more r.name) _ out h in
      let q = first_passed (demand (not (has r.name env.locals)) 2) _ out p.2 in
      let t = first_passed (declared env.registers r.name r) _ out q.2 in
      both_pass (d.is_free (seeing env) names r.name) _ tt _ (free_same env r.name ∙ p.1)
      (both_pass (demand (not (has r.name env.locals)) 2) _ tt _ q.1
      (both_pass (declared env.registers r.name r) _ t.0 _ t.1 (seen_ok ts (record env { registers = t.0 }) out t.2)))

  registers_seen : (env out : Env) (rs : List Register) → d.registers env more rs ≡ Ok out → d.registers (seeing env) names rs ≡ Ok (seeing out)
  unfolding d.registers
  registers_seen env out [] h = seen_ok ts env out h
  registers_seen env out (r ∷ rs) h =
      let p = first_passed (d.register env more r) _ out h in
      both_pass (d.register (seeing env) names r) _ (seeing p.0) _ (register_seen env p.0 r p.1) (registers_seen p.0 out rs p.2)

  local_seen : (env out : Env) (x : Decl) → d.local env more x ≡ Ok out → d.local (seeing env) names x ≡ Ok (seeing out)
  unfolding d.local
  local_seen env out x h =
      let p = first_passed (d.is_free env more x.name) _ out h in
      let q = first_passed (demand (not (has x.name env.registers)) 2) _ out p.2 in
      let t = first_passed (declared env.locals x.name x) _ out q.2 in
      let u = first_passed (d.known_shape (structs_by_name env.structs) x.shape) _ out t.2 in
      let v = first_passed (d.sized env.structs x) _ out u.2 in
      both_pass (d.is_free (seeing env) names x.name) _ tt _ (free_same env x.name ∙ p.1)
      (both_pass (demand (not (has x.name env.registers)) 2) _ tt _ q.1
      (both_pass (declared env.locals x.name x) _ t.0 _ t.1
      (both_pass (d.known_shape (structs_by_name env.structs) x.shape) _ tt _ u.1
      (both_pass (d.sized env.structs x) _ tt _ v.1 (seen_ok ts (record env { locals = t.0 }) out v.2)))))

  locals_seen : (env out : Env) (xs : List Decl) → d.locals env more xs ≡ Ok out → d.locals (seeing env) names xs ≡ Ok (seeing out)
  unfolding d.locals
  locals_seen env out [] h = seen_ok ts env out h
  locals_seen env out (x ∷ xs) h =
      let p = first_passed (d.local env more x) _ out h in
      both_pass (d.local (seeing env) names x) _ (seeing p.0) _ (local_seen env p.0 x p.1) (locals_seen p.0 out xs p.2)

  -- with other blocks too
  pub own_seen : (known out : Env) (f : Function) (bs : List Block) (ls : List ℕ) → d.own known more f ≡ Ok out → d.has_blocks bs ≡ true → d.labels [] bs ≡ Ok ls →
      d.own (record known { targets = ts }) names (record f { blocks = bs }) ≡ Ok (record out { targets = ts; labels = ls })
  unfolding d.own
  own_seen known out f bs ls h some labels =
      let first : Env = record known { locals = []; registers = []; labels = []; result = f.result } in
      let p = first_passed (d.registers first more f.params) _ out h in
      let q = first_passed (d.locals p.0 more f.locals) _ out p.2 in
      let r = first_passed (d.registers q.0 more f.registers) _ out q.2 in
      let k = first_passed (demand (d.has_blocks f.blocks) 10) _ out r.2 in
      let t = first_passed (d.labels [] f.blocks) _ out k.2 in
      both_pass (d.registers (seeing first) names f.params) _ (seeing p.0) _ (registers_seen first p.0 f.params p.1)
      (both_pass (d.locals (seeing p.0) names f.locals) _ (seeing q.0) _ (locals_seen p.0 q.0 f.locals q.1)
      (both_pass (d.registers (seeing q.0) names f.registers) _ (seeing r.0) _ (registers_seen q.0 r.0 f.registers r.1)
      (both_pass (demand (d.has_blocks bs) 10) _ tt _ (demand_passes _ 10 some)
      (both_pass (d.labels [] bs) _ ls _ labels (labelled_ok ts ls (record r.0 { labels = t.0 }) out t.2)))))

  -- ---- bodies

  case_labels_seen : (env : Env) (cs : List Case) → s.case_labels (seeing env) cs ≡ s.case_labels env cs
  unfolding s.case_labels s.label
  case_labels_seen env [] = refl
  case_labels_seen env (c ∷ cs) = λ i. s.label env c.target >> case_labels_seen env cs i

  ending_seen : (env : Env) → SameTargets ts env.targets → (end : End) → s.ending (seeing env) end ≡ s.ending env end
  unfolding s.ending s.label
  ending_seen env h (Goto to) = refl
  ending_seen env h (If left cmp right hit miss) = λ i. compared_seen env ts env.labels h left cmp right i >> (s.label env hit >> s.label env miss)
  ending_seen env h (Switch on cases other) = λ i. integer_seen env ts env.labels h on i >>= (λ scalar. s.case_values scalar [] cases >> (case_labels_seen env cases i >> s.label env other))
  ending_seen env h (Return x) = returned_seen env ts env.labels h x env.result

  body_seen : (env : Env) → SameTargets ts env.targets → (index number : ℕ) (xs : List Stmt) → s.body (seeing env) names index number xs ≡ s.body env more index number xs
  unfolding s.body
  body_seen env h index number [] = refl
  body_seen env h index number (x ∷ xs) =
      let one : s.statement (seeing env) names x ≡ s.statement env more x = statement_heads (seeing env) names more e x ∙ statement_seen env ts env.labels h more x in
      λ i. at (site.Statement index number) (one i) >> body_seen env h index (number + 1) xs i

  blocks_seen : (env : Env) → SameTargets ts env.targets → (index number : ℕ) (bs : List Block) → s.blocks (seeing env) names index number bs ≡ s.blocks env more index number bs
  unfolding s.blocks
  blocks_seen env h index number [] = refl
  blocks_seen env h index number (b ∷ bs) =
      λ i. body_seen env h index number b.body i >> (at (site.Statement index (number + length b.body)) (ending_seen env h b.end i) >> blocks_seen env h index (number + length b.body + 1) bs i)

  -- a function passes with the one table where it passes with the other
  pub function_seen : (known : Env) → SameTargets ts known.targets → (number : ℕ) (f : Function) → d.one_function known more number f ≡ Ok tt → d.one_function (record known { targets = ts }) names number f ≡ Ok tt
  unfolding d.one_function
  function_seen known h number f passes =
      let p = first_passed (at _ (d.own known more f)) _ tt passes in
      let own = at_passed _ (d.own known more f) p.0 p.1 in
      let same : SameTargets ts p.0.targets = subst (SameTargets ts) (sym (ap (λ (x : Env). x.targets) (own_is known p.0 more f own))) h in
      let seen : d.own (record known { targets = ts }) names f ≡ Ok (seeing p.0) =
      own_seen known p.0 f f.blocks p.0.labels own (own_has_blocks known p.0 more f own) (own_labels known p.0 more f own) in
      both_pass (at (site.Statement number 0) (d.own (record known { targets = ts }) names f)) _ (seeing p.0) tt (at_passes _ (d.own (record known { targets = ts }) names f) (seeing p.0) seen) (blocks_seen p.0 same number 1 f.blocks ∙ p.2)
