-- A program has no more parts than its text has bytes.
use Rattle.std.proofs.Common.{◌≡◌, ℕ, ◌+◌, ◌≤◌, ◌<◌, ◌^◌, List, [], ◌∷◌, length, sum_by, false, refl, None, Some, Result, Ok, Err, IfOk, ap, arith, length-append}
use Rattle.std.specs.List.{All}
use Rattle.std.proofs.lemmas.List.Elements.{All-nil, All-cons}
use Rattle.std.proofs.lemmas.List.Sums.{sum_by-cons}
use Rattle.gimple_ir.specs.declared.statement.Stmt.{Stmt}
use Rattle.gimple_ir.specs.declared.block.Case.{Case}
use Rattle.gimple_ir.specs.declared.block.End.{End}
use Rattle.gimple_ir.specs.declared.block.End.TheVariants.{Goto, If, Switch, Return}
use Rattle.gimple_ir.specs.declared.block.Block.{Block}
use Rattle.gimple_ir.specs.declared.declarations.Decl.{Decl}
use Rattle.gimple_ir.specs.declared.declarations.StructDef.{StructDef}
use Rattle.gimple_ir.specs.declared.declarations.Global.{Global}
use Rattle.gimple_ir.specs.declared.declarations.Register.{Register}
use Rattle.gimple_ir.specs.declared.program.Function.{Function}
use Rattle.gimple_ir.specs.declared.program.Program.{Program}
use Rattle.gimple_ir.specs.Size.{size_of_block, size_of_function, branches_of_end, branches_of_function}
use Rattle.gimple_ir.specs.Counts.{CountsWithin, IsCountable}
use Rattle.gimple_ir.proofs.CountLaws.{counts_grow}
use Rattle.gimple_tokens.specs.declared.token.Token.{Token}
use Rattle.gimple_ir.specs.Names.{Bytes}
use Rattle.gimple_tokens.specs.Lexing.{LexesFrom, skip}
use Rattle.gimple_tokens.proofs.Runs.{shorter, skip_length}
use Rattle.token_law.specs.Reading.{Tokens}
use Rattle.token_law.specs.Languages.{IsMany, IsAfterComma, IsSeparated}
use Rattle.gimple_grammar.specs.Grammar.{IsStmt, IsCase, IsEnd, IsBlock, IsField, IsLocal, IsStruct, IsGlobal, IsRegister, IsFunction, IsProgram}
use Rattle.gimple_text.specs.declared.fault.TextFault.{TextFault}
use Rattle.gimple_text.specs.Parse.{Spells}

-- ---- measures

-- a struct's fields, and one for the struct
abbrev width : StructDef → ℕ
width x = 1 + length x.fields

-- a function's statements and ends, and one for the function
abbrev weight : Function → ℕ
weight f = 1 + size_of_function f

-- the parts of a program: its structs and their fields, its globals, and its functions and their statements and ends
abbrev pub parts_of_program : Program → ℕ
parts_of_program p = sum_by width p.structs + (length p.globals + (length p.functions + sum_by size_of_function p.functions))

-- ---- the tokens of each part

module _ {A : Type 0} (S : A → Tokens → Type 0) (m : A → ℕ) (each : (x : A) (ts : Tokens) → S x ts → m x ≤ length ts) where
  pub many_size : (xs : List A) (ts : Tokens) → IsMany S xs ts → sum_by m xs ≤ length ts
  many_size [] ts h = omega arith
  many_size (x ∷ xs) ts h = omega (arith, sum_by-cons m x xs, each x h.0 h.2, many_size xs h.1 h.3, length-append h.0 h.1, ap length h.4)

  pub comma_size : (x : A) (ts : Tokens) → IsAfterComma S x ts → m x ≤ length ts
  comma_size x ts h = omega (arith, each x h.0 h.1, ap length h.2)

counted : {A : Type 0} (xs : List A) → sum_by (λ _. 1) xs ≡ length xs
counted [] = refl
counted (x ∷ xs) = omega (arith, sum_by-cons (λ _. 1) x xs, counted xs)

stmt_size : (profile : ℕ) (x : Stmt) (ts : Tokens) → IsStmt profile x ts → 1 ≤ length ts
stmt_size profile x ts h = omega (arith, simp length-append at (ap length h.2))

end_size : (e : End) (ts : Tokens) → IsEnd e ts → 1 ≤ length ts
end_size (Goto n) ts h = omega (arith, ap length h)
end_size (If l c r first second) ts h = omega (arith, ap length h.4)
end_size (Switch on cases other) ts h = omega (arith, ap length h.4)
end_size (Return None) ts h = omega (arith, ap length h)
end_size (Return (Some o)) ts h = omega (arith, ap length h.2)

block_size : (profile : ℕ) (b : Block) (ts : Tokens) → IsBlock profile b ts → size_of_block b ≤ length ts
block_size profile b ts h =
    omega (arith, many_size (IsStmt profile) (λ _. 1) (stmt_size profile) b.body h.0 h.2, counted b.body, end_size b.end h.1 h.3, simp length-append at (ap length h.4))

field_size : (d : Decl) (ts : Tokens) → IsField d ts → 1 ≤ length ts
field_size d ts h = omega (arith, simp length-append at (ap length h))

struct_size : (x : StructDef) (ts : Tokens) → IsStruct x ts → width x ≤ length ts
struct_size x ts h = omega (arith, many_size IsField (λ _. 1) field_size x.fields h.0 h.1, counted x.fields, simp length-append at (ap length h.2))

global_size : (g : Global) (ts : Tokens) → IsGlobal g ts → 1 ≤ length ts
global_size g ts h = omega (arith, ap length h.2)

function_size : (profile : ℕ) (f : Function) (ts : Tokens) → IsFunction profile f ts → weight f ≤ length ts
function_size profile f ts h = omega (arith, many_size (IsBlock profile) size_of_block (block_size profile) f.blocks h.4 h.9, simp length-append at (ap length h.10))

weights : (fs : List Function) → sum_by weight fs ≡ length fs + sum_by size_of_function fs
weights [] = refl
weights (f ∷ fs) = omega (arith, sum_by-cons weight f fs, sum_by-cons size_of_function f fs, weights fs)

widths : (xs : List StructDef) → length xs ≤ sum_by width xs
widths [] = omega arith
widths (x ∷ xs) = omega (arith, sum_by-cons width x xs, widths xs)

tokens_size : (p : Program) (ts : Tokens) → IsProgram p ts → 3 + parts_of_program p ≤ length ts
tokens_size p ts h = omega (
  arith,
  many_size IsStruct width struct_size p.structs h.0 h.3,
  many_size IsGlobal (λ _. 1) global_size p.globals h.1 h.4,
  counted p.globals,
  many_size (IsFunction p.profile) weight (function_size p.profile) p.functions h.2 h.5,
  weights p.functions,
  simp length-append at (ap length h.6),
)

-- ---- the parts of one function

case_size : (c : Case) (ts : Tokens) → IsCase c ts → 1 ≤ length ts
case_size c ts h = omega (arith, ap length h.2)

end_branches : (e : End) (ts : Tokens) → IsEnd e ts → branches_of_end e ≤ length ts
end_branches (Goto n) ts h = omega (arith, ap length h)
end_branches (If l c r first second) ts h = omega (arith, ap length h.4)
end_branches (Switch on cases other) ts h =
    omega (arith, many_size IsCase (λ _. 1) case_size cases h.1 h.3, counted cases, simp length-append at (ap length h.4))
end_branches (Return x) ts h = omega arith

block_branches : (profile : ℕ) (b : Block) (ts : Tokens) → IsBlock profile b ts → branches_of_end b.end ≤ length ts
block_branches profile b ts h = omega (arith, end_branches b.end h.1 h.3, simp length-append at (ap length h.4))

function_branches : (profile : ℕ) (f : Function) (ts : Tokens) → IsFunction profile f ts → branches_of_function f ≤ length ts
function_branches profile f ts h = omega (arith, many_size (IsBlock profile) (λ b. branches_of_end b.end) (block_branches profile) f.blocks h.4 h.9, simp length-append at (ap length h.10))

local_size : (d : Decl) (ts : Tokens) → IsLocal d ts → 1 ≤ length ts
local_size d ts h = omega (arith, ap length h)

function_locals : (profile : ℕ) (f : Function) (ts : Tokens) → IsFunction profile f ts → length f.locals ≤ length ts
function_locals profile f ts h = omega (arith, many_size IsLocal (λ _. 1) local_size f.locals h.2 h.7, counted f.locals, simp length-append at (ap length h.10))

-- parts with commas between, each of a token or more
pub separated_size : {A : Type 0} (S : A → Tokens → Type 0) → ((x : A) (ts : Tokens) → S x ts → 1 ≤ length ts) → (xs : List A) (ts : Tokens) → IsSeparated S xs ts → length xs ≤ length ts
separated_size S each [] ts h = omega arith
separated_size S each (x ∷ xs) ts h =
    omega (arith, each x h.0 h.2, many_size (IsAfterComma S) (λ _. 1) (comma_size S (λ _. 1) each) xs h.1 h.3, counted xs, length-append h.0 h.1, ap length h.4)

register_size : (x : Register) (ts : Tokens) → IsRegister x ts → 1 ≤ length ts
register_size x ts h = omega (arith, ap length h)

pub function_formals : (profile : ℕ) (f : Function) (ts : Tokens) → IsFunction profile f ts → length f.params ≤ length ts
function_formals profile f ts h = omega (arith, separated_size IsRegister register_size f.params h.1 h.6, simp length-append at (ap length h.10))

-- a number of each function that its tokens bound is below what bounds all tokens
module _ (profile : ℕ) (m : Function → ℕ) (each : (f : Function) (ts : Tokens) → IsFunction profile f ts → m f ≤ length ts) where
  each_few : (n : ℕ) (fs : List Function) (ts : Tokens) → IsMany (IsFunction profile) fs ts → length ts < n → All (λ f. m f < n) fs
  each_few n [] ts h k = All-nil (λ f. m f < n)
  each_few n (f ∷ fs) ts h k =
      let sum = length-append h.0 h.1 in
      let whole = ap length h.4 in
      All-cons (λ f. m f < n) f fs (omega (arith, each f h.0 h.2, sum, whole)) (each_few n fs h.1 h.3 (omega (arith, sum, whole)))

-- ---- the bytes of a text

-- each token is a byte or more
lexed_from : (bs : Bytes) (ts : List Token) → LexesFrom bs ts → length ts ≤ length bs
lexed_from bs [] h = omega arith
lexed_from bs (t ∷ ts) h = omega (arith, shorter bs t h.0 h.1, lexed_from (skip false h.0) ts h.2)

spelled_size : (bs : Bytes) (p : Program) → Spells bs p → 3 + parts_of_program p ≤ length bs
spelled_size bs p h = omega (arith, tokens_size p h.tokens h.spelled, lexed_from (skip false bs) h.tokens h.lexed, skip_length false bs)

-- ---- counts

narrow : (n : ℕ) (xs : List StructDef) → sum_by width xs < n → All (λ (x : StructDef). length x.fields < n) xs
narrow n [] h = All-nil (λ (x : StructDef). length x.fields < n)
narrow n (x ∷ xs) h =
    let e = sum_by-cons width x xs in
    All-cons (λ (x : StructDef). length x.fields < n) x xs (omega (arith, e)) (narrow n xs (omega (arith, e)))

-- the tokens of a program's functions are fewer than the text's bytes
functions_below : (bs : Bytes) (p : Program) (h : Spells bs p) → length h.spelled.2 < length bs
functions_below bs p h =
    omega (arith, simp length-append at (ap length h.spelled.6), lexed_from (skip false bs) h.tokens h.lexed, skip_length false bs)

-- what the tokens of each function bound, the bytes of a text bound in sum
pub functions_size : (m : Function → ℕ) → ((profile : ℕ) (f : Function) (ts : Tokens) → IsFunction profile f ts → m f ≤ length ts) → (bs : Bytes) (p : Program) → Spells bs p → sum_by m p.functions < length bs
functions_size m each bs p h = omega (arith, many_size (IsFunction p.profile) m (each p.profile) p.functions h.spelled.2 h.spelled.5, functions_below bs p h)

-- a text spells a program of fewer parts of each kind than it has bytes
pub counts : (bs : Bytes) (p : Program) → Spells bs p → CountsWithin (length bs) p
counts bs p h =
    let size = spelled_size bs p h in
    let n = length bs in
    let few = functions_below bs p h in
    record {
      structs = omega (arith, widths p.structs);
      fields = narrow n p.structs (omega arith);
      globals = omega arith;
      functions = omega arith;
      size = omega arith;
      formals = each_few p.profile (λ f. length f.params) (function_formals p.profile) n p.functions h.spelled.2 h.spelled.5 few;
      locals = each_few p.profile (λ f. length f.locals) (function_locals p.profile) n p.functions h.spelled.2 h.spelled.5 few;
      branches = each_few p.profile branches_of_function (function_branches p.profile) n p.functions h.spelled.2 h.spelled.5 few;
    }

-- what a text of fewer than 2^32 bytes spells can be counted
pub countable : (bs : Bytes) (p : Program) → Spells bs p → length bs < 2 ^ 32 → IsCountable p
countable bs p h k = counts_grow (length bs) (2 ^ 32) p (omega arith) (counts bs p h)

pub counts_result : (bs : Bytes) (r : Result Program TextFault) → IfOk r (λ p. Spells bs p) → IfOk r (CountsWithin (length bs))
counts_result bs (Ok p) h = counts bs p h
counts_result bs (Err e) h = tt

pub countable_result : (bs : Bytes) (r : Result Program TextFault) → length bs < 2 ^ 32 → IfOk r (λ p. Spells bs p) → IfOk r IsCountable
countable_result bs (Ok p) k h = countable bs p h k
countable_result bs (Err e) k h = tt
