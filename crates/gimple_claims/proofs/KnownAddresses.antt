-- In a program without a type fault each address is that of a variable or of a function.
use Rattle.std.proofs.Common.{◌≡◌, ℕ, ◌+◌, ◌<◌, ◌≤◌, ◌==◌, ◌||◌, pos, Bool, true, false, not, List, [], ◌∷◌, length, refl, sym, ◌∙◌, ap, subst, arith, rules, Option, Some, None, Ok, All, is_some, if◌then◌else◌, slice_get}
use Rattle.std.specs.Prelude.{nat_le}
use Rattle.std.specs.List.{AllByRecursion, find, position, position_or_len}
use Rattle.std.proofs.lemmas.Bool.{leb-true}
use Rattle.std.proofs.lemmas.List.Elements.{All-nil, All-cons}
use Rattle.std.proofs.lemmas.List.Folds.{find_at}
use Rattle.std.proofs.lemmas.Option.{slice_get_within}
use Rattle.std.specs.Str.{bytes_eq}
use Rattle.gimple_ir.specs.declared.scalar.Scalar.{Scalar}
use Rattle.gimple_ir.specs.declared.scalar.Scalar.TheVariants.{I64, Ptr}
use Rattle.gimple_ir.specs.declared.scalar.Op.{Op}
use Rattle.gimple_ir.specs.declared.operand.Operand.{Operand}
use Rattle.gimple_ir.specs.declared.operand.Operand.TheVariants.{Reg, Number, Null as NullOperand, Address}
use Rattle.gimple_ir.specs.declared.value.LayoutSlot.{LayoutSlot}
use Rattle.gimple_ir.specs.declared.value.Value.TheVariants.{Code}
use Rattle.gimple_ir.specs.declared.declarations.Decl.{Decl}
use Rattle.gimple_ir.specs.declared.declarations.Global.{Global}
use Rattle.gimple_ir.specs.declared.declarations.StructDef.{StructDef}
use Rattle.gimple_ir.specs.declared.statement.Stmt.{Stmt}
use Rattle.gimple_ir.specs.declared.statement.Stmt.TheVariants.{Copy, Arith, Compare, Convert, Load, Store, Call, Indirect, Get, Put, Abort}
use Rattle.gimple_ir.specs.declared.block.End.{End}
use Rattle.gimple_ir.specs.declared.block.End.TheVariants.{Goto, If, Switch, Return}
use Rattle.gimple_ir.specs.declared.block.Block.{Block}
use Rattle.gimple_ir.specs.declared.program.Function.{Function}
use Rattle.gimple_ir.specs.declared.program.Program.{Program}
use Rattle.std.specs.Ordering.{int_eq}
use Rattle.gimple_core.specs.Operators.{in_scalar}
use Rattle.gimple_core.specs.Layout.{layout_of}
use Rattle.gimple_core.specs.State.{Scope}
use Rattle.gimple_core.specs.Run.{local_address, global_address, address_of_global, address_of, function_named}
use Rattle.gimple_core.specs.Reach.{operands_of, operands_of_end, TakesAddress, MentionsInItems, here, later}
use Rattle.gimple_core.specs.Verdict.{demand, at}
use Rattle.gimple_core.specs.Env.{Env, Names, Targets, named, has, is_target, is_variable, targets_of, declared, globals_by_name, functions_by_name, decls_by_name, structs_by_name}
use Rattle.gimple_core.specs.Statements.{is_pointer, is_shift}
use Rattle.gimple_core.specs.Declarations as d
use Rattle.gimple_core.specs.Typed.{HasScalar, IsIntegerRegister, IsCount, ArithTyped, Fit, Printable, StatementTyped, EndTyped, ReturnTyped, BodyTyped, BlocksTyped, env_of}
use Rattle.gimple_core.specs.Accepted.{checked, first_fault}
use Rattle.gimple_core.proofs.Passed.{first_passed, demanded, at_passed, no_fault}
use Rattle.gimple_core.proofs.EnvLemmas.{named_find}

-- ---- the operands of a typed statement

abbrev IsKnown : Env → List ℕ → Type 0
IsKnown env name = is_variable env name || is_target env.targets name ≡ true

abbrev OperandKnown : Env → Operand → Type 0
OperandKnown env (Reg name) = Unit {0}
OperandKnown env (Number z) = Unit {0}
OperandKnown env NullOperand = Unit {0}
OperandKnown env (Address name offset) = IsKnown env name

-- the addresses among the operands are known
abbrev pub AddressesKnown : Env → List Operand → Type 0
AddressesKnown env xs = (name : List ℕ) → TakesAddress name xs → IsKnown env name

all_known : (env : Env) (xs : List Operand) → All (OperandKnown env) xs → AddressesKnown env xs
all_known env xs h name t = subst (OperandKnown env) t.1.2 (h t.1.0 (Address name t.0) t.1.1)

module _ (env : Env) where
  operand_known : (scalar : Scalar) (x : Operand) → HasScalar env scalar x → OperandKnown env x
  operand_known scalar (Reg name) h = tt
  operand_known scalar (Number z) h = tt
  operand_known scalar NullOperand h = tt
  operand_known scalar (Address name offset) h = h.1

  integer_known : (scalar : Scalar) (x : Operand) → IsIntegerRegister env scalar x → OperandKnown env x
  integer_known scalar (Reg name) h = tt
  integer_known scalar (Number z) h = tt
  integer_known scalar NullOperand h = tt
  integer_known scalar (Address name offset) h = absurd h

  count_known : (scalar : Scalar) (x : Operand) → IsCount env scalar x → OperandKnown env x
  count_known scalar (Reg name) h = tt
  count_known scalar (Number z) h = tt
  count_known scalar NullOperand h = tt
  count_known scalar (Address name offset) h = h.1

  printed_known : (x : Operand) → Printable env x → OperandKnown env x
  printed_known (Reg name) h = tt
  printed_known (Number z) h = tt
  printed_known NullOperand h = tt
  printed_known (Address name offset) h = absurd h.1

  one_known : (x : Operand) → OperandKnown env x → All (OperandKnown env) (x ∷ [])
  one_known x h = All-cons (OperandKnown env) x [] h (All-nil (OperandKnown env))

  two_known : (x y : Operand) → OperandKnown env x → OperandKnown env y → All (OperandKnown env) (x ∷ y ∷ [])
  two_known x y h k = All-cons (OperandKnown env) x (y ∷ []) h (one_known y k)

  arith_by : (scalar : Scalar) (left : Operand) (op : Op) (right : Operand) → ArithTyped env scalar left op right → (a : Bool) → is_pointer scalar ≡ a → (b : Bool) → is_shift op ≡ b → All (OperandKnown env) (left ∷ right ∷ [])
  arith_by scalar left op right h true e b f = let t = h.0 e in two_known left right (operand_known Ptr left t.1) (operand_known I64 right t.2)
  arith_by scalar left op right h false e true f = let t = h.1 e in two_known left right (operand_known scalar left t.0) (count_known scalar right (t.1 f))
  arith_by scalar left op right h false e false f = let t = h.1 e in two_known left right (operand_known scalar left t.0) (operand_known scalar right (t.2 f))

  fit_known : (scalars : List Scalar) (xs : List Operand) → Fit env scalars xs → All (OperandKnown env) xs
  fit_known [] [] h = All-nil (OperandKnown env)
  fit_known [] (x ∷ xs) h = absurd h
  fit_known (scalar ∷ scalars) [] h = absurd h
  fit_known (scalar ∷ scalars) (x ∷ xs) h = All-cons (OperandKnown env) x xs (operand_known scalar x h.0) (fit_known scalars xs h.1)

  operands_known : (functions : Names Function) (x : Stmt) → StatementTyped env functions x → All (OperandKnown env) (operands_of x)
  operands_known functions (Copy to from) h = one_known from (operand_known h.0 from h.2)
  operands_known functions (Arith to left op right) h = arith_by h.0 left op right h.2 (is_pointer h.0) refl (is_shift op) refl
  operands_known functions (Compare to left cmp right) h = two_known left right (operand_known h.3.0 left h.3.1) (operand_known h.3.0 right h.3.2)
  operands_known functions (Convert to scalar from) h = one_known from (integer_known h.2.0 from h.2.1)
  operands_known functions (Load to scalar place) h = All-nil (OperandKnown env)
  operands_known functions (Store scalar place from) h = one_known from (operand_known scalar from h.2)
  operands_known functions (Call to callee xs) h = fit_known _ xs h.2
  operands_known functions (Indirect to signature callee xs) h = fit_known signature.params xs h.2
  operands_known functions (Get to) h = All-nil (OperandKnown env)
  operands_known functions (Put from) h = one_known from (printed_known from h)
  operands_known functions Abort h = All-nil (OperandKnown env)

  returned_known : (x : Option Operand) (result : Option Scalar) → ReturnTyped env x result → All (OperandKnown env) (operands_of_end (Return x))
  returned_known None result h = All-nil (OperandKnown env)
  returned_known (Some x) None h = absurd h
  returned_known (Some x) (Some scalar) h = one_known x (operand_known scalar x h)

  end_known : (e : End) → EndTyped env e → All (OperandKnown env) (operands_of_end e)
  end_known (Goto to) h = All-nil (OperandKnown env)
  end_known (If left cmp right hit miss) h = two_known left right (operand_known h.0.0 left h.0.1) (operand_known h.0.0 right h.0.2)
  end_known (Switch on cases other) h = one_known on (integer_known h.0 on h.1)
  end_known (Return x) h = returned_known x env.result h

  -- the addresses in a block are known
  pub record BlockKnown (b : Block) : Type 0 where
    pub body : AllByRecursion (λ (x : Stmt). AddressesKnown env (operands_of x)) b.body
    pub end : AddressesKnown env (operands_of_end b.end)

  body_known : (functions : Names Function) (xs : List Stmt) → BodyTyped env functions xs → AllByRecursion (λ (x : Stmt). AddressesKnown env (operands_of x)) xs
  body_known functions [] h = tt
  body_known functions (x ∷ xs) h = (all_known env (operands_of x) (operands_known functions x h.0), body_known functions xs h.1)

  pub blocks_known : (functions : Names Function) (bs : List Block) → BlocksTyped env functions bs → AllByRecursion BlockKnown bs
  blocks_known functions [] h = tt
  blocks_known functions (b ∷ bs) h = (record { body = body_known functions b.body h.0; end = all_known env (operands_of_end b.end) (end_known b.end h.1) }, blocks_known functions bs h.2)

-- ---- a known name whose address is a function value is that of a function

position_none : {X : Type 0} (test : X → Bool) (xs : List X) → position test xs ≡ None → find test xs ≡ None
position_none {X = X} test xs e = by (find test xs) refl
  where
    by : (o : Option X) → find test xs ≡ o → o ≡ None
    by None f = refl
    by (Some x) f =
        let there : slice_get xs (position_or_len test xs) ≡ Some x = sym (find_at test xs) ∙ f in
        let within : position_or_len test xs < length xs = slice_get_within xs (position_or_len test xs) x there in
        let place : position test xs ≡ Some (position_or_len test xs) = search (rules, within) in
        let no : Some (position_or_len test xs) ≡ None = sym place ∙ e in
        cc

some_named : (fs : List Function) (name : List ℕ) (o : Option Function) → named name (functions_by_name fs) ≡ o → is_some o ≡ true → (f : Function) × (function_named name fs ≡ Some f)
unfolding function_named
some_named fs name None e h = cc
some_named fs name (Some f) e h = (f, sym (named_find (λ (g : Function). g.name) name fs) ∙ e)

target_named : (p : Program) (name : List ℕ) (b : Bool) → is_target (if b then Some (functions_by_name p.functions) else None) name ≡ true → (f : Function) × (function_named name p.functions ≡ Some f)
target_named p name true h = some_named p.functions name (named name (functions_by_name p.functions)) refl h
target_named p name false h = cc

global_code : (name : List ℕ) (o : Option ℕ) → global_address name o ≡ Code name → o ≡ None
global_code name None e = refl
global_code name (Some k) e = cc

local_code : (name : List ℕ) (serial : ℕ) (o global : Option ℕ) → local_address serial o (global_address name global) ≡ Code name → (o ≡ None) × (global ≡ None)
local_code name serial None global e = (refl, global_code name global e)
local_code name serial (Some k) global e = cc

no_global : (globals : List Global) (name : List ℕ) → position (λ (g : Global). bytes_eq g.decl.name name) globals ≡ None → has name (globals_by_name globals) ≡ false
no_global globals name e = ap is_some (named_find (λ (g : Global). g.decl.name) name globals ∙ position_none (λ (g : Global). bytes_eq g.decl.name name) globals e)

no_local : (locals : List Decl) (name : List ℕ) → position (λ (x : Decl). bytes_eq x.name name) locals ≡ None → has name (decls_by_name locals) ≡ false
no_local locals name e = ap is_some (named_find (λ (x : Decl). x.name) name locals ∙ position_none (λ (x : Decl). bytes_eq x.name name) locals e)

item_function : (p : Program) (name : List ℕ) → has name (globals_by_name p.globals) || is_target (targets_of p) name ≡ true → address_of_global p.globals name ≡ Code name → (f : Function) × (function_named name p.functions ≡ Some f)
unfolding address_of_global
item_function p name known e =
    let none : has name (globals_by_name p.globals) ≡ false = no_global p.globals name (global_code name _ e) in
    target_named p name (p.profile == 2) (ap (λ b. b || is_target (targets_of p) name) (sym none) ∙ known)

pub address_function : (p : Program) (f : Function) (scope : Scope) (name : List ℕ) → scope.locals ≡ f.locals → IsKnown (env_of p f) name → address_of p.globals scope name ≡ Code name → (g : Function) × (function_named name p.functions ≡ Some g)
unfolding address_of address_of_global
address_function p f scope name same known e =
    let none = local_code name scope.serial _ _ e in
    let globals : has name (globals_by_name p.globals) ≡ false = no_global p.globals name none.1 in
    let locals : has name (decls_by_name f.locals) ≡ false = no_local f.locals name (ap (position (λ (x : Decl). bytes_eq x.name name)) (sym same) ∙ none.0) in
    target_named p name (p.profile == 2) ((λ i. (sym locals i || sym globals i) || is_target (targets_of p) name) ∙ known)

-- ---- items

abbrev ItemKnown : Targets → Names Global → Operand → Type 0
ItemKnown ts all (Reg name) = Unit {0}
ItemKnown ts all (Number z) = Unit {0}
ItemKnown ts all NullOperand = Unit {0}
ItemKnown ts all (Address name offset) = has name all || is_target ts name ≡ true

item_known : (ts : Targets) (all : Names Global) (scalar : Scalar) (x : Operand) → d.item ts all scalar x ≡ Ok tt → ItemKnown ts all x
unfolding d.item
item_known ts all scalar (Reg name) h = tt
item_known ts all scalar (Number z) h = tt
item_known ts all scalar NullOperand h = tt
item_known ts all scalar (Address name offset) h =
    let a = first_passed (demand (is_pointer scalar) 4) _ tt h in
    let b = first_passed (demand (in_scalar I64 offset) 13) _ tt a.2 in
    let c = first_passed (demand (has name all || not (is_target ts name) || int_eq offset (pos 0)) 11) _ tt b.2 in
    demanded (has name all || is_target ts name) 1 c.2

items_known : (ts : Targets) (all : Names Global) (slots : List LayoutSlot) (xs : List Operand) → d.items ts all slots xs ≡ Ok tt → length xs ≤ length slots → All (ItemKnown ts all) xs
unfolding d.items
items_known ts all slots [] h l = All-nil (ItemKnown ts all)
items_known ts all [] (x ∷ xs) h l = absurd (omega (arith, l))
items_known ts all (slot ∷ slots) (x ∷ xs) h l =
    let a = first_passed (d.item ts all slot.scalar x) _ tt h in
    All-cons (ItemKnown ts all) x xs (item_known ts all slot.scalar x a.1) (items_known ts all slots xs a.2 (omega (arith, l)))

global_known : (structs : List StructDef) (ts : Targets) (all earlier out : Names Global) (g : Global) → d.one_global structs ts all earlier g ≡ Ok out → All (ItemKnown ts all) g.items
unfolding d.one_global
global_known structs ts all earlier out g h =
    let a = first_passed (declared earlier g.decl.name g) _ out h in
    let b = first_passed (d.known_shape (structs_by_name structs) g.decl.shape) _ out a.2 in
    let c = first_passed (d.sized structs g.decl) _ out b.2 in
    let n = first_passed (demand (nat_le (length g.items) (length (layout_of structs g.decl).slots)) 11) _ out c.2 in
    let items = first_passed (d.items ts all (layout_of structs g.decl).slots g.items) _ out n.2 in
    let few : nat_le (length g.items) (length (layout_of structs g.decl).slots) ≡ true = demanded _ 11 n.1 in
    items_known ts all (layout_of structs g.decl).slots g.items items.1 (leb-true (length g.items) (length (layout_of structs g.decl).slots) few)

globals_known : (structs : List StructDef) (ts : Targets) (all : Names Global) (name : List ℕ) (number : ℕ) (earlier out : Names Global) (gs : List Global) → d.globals structs ts all number earlier gs ≡ Ok out → MentionsInItems name gs → has name all || is_target ts name ≡ true
unfolding d.globals
globals_known structs ts all name number earlier out _ h (here g gs t) =
    let a = first_passed (at _ (d.one_global structs ts all earlier g)) _ out h in
    subst (ItemKnown ts all) t.1.2 (global_known structs ts all earlier a.0 g (at_passed _ (d.one_global structs ts all earlier g) a.0 a.1) t.1.0 (Address name t.0) t.1.1)
globals_known structs ts all name number earlier out _ h (later g gs m) =
    let a = first_passed (at _ (d.one_global structs ts all earlier g)) _ out h in
    globals_known structs ts all name (number + 1) a.0 out gs a.2 m

-- a function value in an item is of a function
pub item_names : (p : Program) → first_fault p ≡ None → (name : List ℕ) → MentionsInItems name p.globals → address_of_global p.globals name ≡ Code name → (f : Function) × (function_named name p.functions ≡ Some f)
unfolding first_fault checked
item_names p h name m e =
    let all = no_fault (checked p) h in
    let a = first_passed (d.structs p.structs 0 [] p.structs) _ tt all in
    let b = first_passed (d.globals p.structs (targets_of p) (globals_by_name p.globals) 0 [] p.globals) _ tt a.2 in
    item_function p name (globals_known p.structs (targets_of p) (globals_by_name p.globals) name 0 [] b.0 p.globals b.1 m) e
