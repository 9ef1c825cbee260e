-- The tokens of the canonical text spell the program.
use Rattle.std.proofs.Common.{ℕ, zero, suc, List, [], ◌∷◌, ◌++◌, Option, Some, None, refl, inl, inr}
use Rattle.std.specs.Prelude.{ℤ, pos, negsuc}
use Rattle.std.specs.List.{flat_map}
use Rattle.gimple_ir.specs.declared.operand.Operand.{Operand}
use Rattle.gimple_ir.specs.declared.operand.Operand.TheVariants.{Reg, Number, Null, Address}
use Rattle.gimple_ir.specs.declared.operand.Place.{Place}
use Rattle.gimple_ir.specs.declared.scalar.Scalar.{Scalar}
use Rattle.gimple_ir.specs.declared.statement.Signature.{Signature}
use Rattle.gimple_ir.specs.declared.statement.Stmt.{Stmt}
use Rattle.gimple_ir.specs.declared.statement.Stmt.TheVariants.{Copy, Arith, Compare, Convert, Load, Store, Call, Indirect, Get, Put, Abort}
use Rattle.gimple_ir.specs.declared.block.Case.{Case}
use Rattle.gimple_ir.specs.declared.block.End.{End}
use Rattle.gimple_ir.specs.declared.block.End.TheVariants.{Goto, If, Switch, Return}
use Rattle.gimple_ir.specs.declared.block.Block.{Block}
use Rattle.gimple_ir.specs.declared.declarations.Decl.{Decl}
use Rattle.gimple_ir.specs.declared.declarations.StructDef.{StructDef}
use Rattle.gimple_ir.specs.declared.declarations.Global.{Global}
use Rattle.gimple_ir.specs.declared.declarations.Register.{Register}
use Rattle.gimple_ir.specs.declared.program.Function.{Function}
use Rattle.gimple_ir.specs.declared.program.Program.{Program}
use Rattle.gimple_tokens.specs.declared.token.Symbol.TheVariants as s
use Rattle.gimple_tokens.specs.declared.token.Token.TheVariants as tok
use Rattle.token_law.specs.Reading.{Tokens}
use Rattle.token_law.specs.Languages.{IsMany, IsAfterComma, IsSeparated}
use Rattle.gimple_grammar.specs.Grammar.{IsSigned, IsOffset, IsItem, IsOperand, IsArguments, IsPlace, IsResult, IsScalar, IsSignature, IsSimple, IsStmt, IsCase, IsEnd, IsBlock, IsField, IsStruct, IsItems, IsGlobal, IsRegister, IsDeclared, IsLocal, IsFunction, IsProgram}
use Rattle.gimple_ir.specs.Spellable.{AllOf, IsSpellableOperand, IsSpellableItem, IsSpellableStmt, IsSpellableCase, IsSpellableEnd, IsSpellableBlock, IsSpellableDecl, IsSpellableStruct, IsSpellableGlobal, IsSpellableRegister, IsSpellableFunction, IsSpellable}
use Rattle.gimple_text.proofs.CanonTokens.{signed_tokens, offset_tokens, operand_tokens, more_tokens, separated_tokens, place_tokens, result_token, scalar_tokens, signature_tokens, simple_tokens, statement_tokens, case_tokens, end_tokens, block_tokens, field_tokens, struct_tokens, items_tokens, global_tokens, register_tokens, declared_tokens, local_tokens, function_tokens, program_tokens}

module _ {A : Type 0} (S : A → Tokens → Type 0) (tokens : A → Tokens) (ok : A → Type 0) (spelled : (x : A) → ok x → S x (tokens x)) where
  pub many_spelled : (xs : List A) → AllOf ok xs → IsMany S xs (flat_map tokens xs)
  many_spelled [] h = refl
  many_spelled (x ∷ xs) h = (tokens x, flat_map tokens xs, spelled x h.0, many_spelled xs h.1, refl)

  more_spelled : (xs : List A) → AllOf ok xs → IsMany (IsAfterComma S) xs (more_tokens tokens xs)
  more_spelled [] h = refl
  more_spelled (x ∷ xs) h = (tok.Fixed s.Comma ∷ tokens x, more_tokens tokens xs, (tokens x, spelled x h.0, refl), more_spelled xs h.1, refl)

  pub separated_spelled : (xs : List A) → AllOf ok xs → IsSeparated S xs (separated_tokens tokens xs)
  separated_spelled [] h = refl
  separated_spelled (x ∷ xs) h = (tokens x, more_tokens tokens xs, spelled x h.0, more_spelled xs h.1, refl)

signed_spelled : (z : ℤ) → IsSigned z (signed_tokens z)
signed_spelled (pos n) = inl (n, refl, refl)
signed_spelled (negsuc n) = inr (suc n, refl, refl)

offset_spelled : (z : ℤ) → IsOffset z (offset_tokens z)
offset_spelled (pos zero) = inr (refl, refl)
offset_spelled (pos (suc n)) = inl (tok.Number (suc n) ∷ [], inl (suc n, refl, refl), refl)
offset_spelled (negsuc n) = inl (tok.Fixed s.Minus ∷ tok.Number (suc n) ∷ [], inr (suc n, refl, refl), refl)

operand_spelled : (o : Operand) → IsSpellableOperand o → IsOperand o (operand_tokens o)
operand_spelled (Reg x) h = refl
operand_spelled (Number z) h = signed_spelled z
operand_spelled Null h = refl
operand_spelled (Address x z) h = (offset_tokens z, offset_spelled z, refl)

item_spelled : (o : Operand) → IsSpellableItem o → IsItem o (operand_tokens o)
item_spelled (Reg x) h = absurd h
item_spelled (Number z) h = signed_spelled z
item_spelled Null h = refl
item_spelled (Address x z) h = (offset_tokens z, offset_spelled z, refl)

arguments_spelled : (xs : List Operand) → AllOf IsSpellableOperand xs → IsArguments xs (tok.Fixed s.Open ∷ (separated_tokens operand_tokens xs ++ tok.Fixed s.Close ∷ []))
arguments_spelled xs h = (separated_tokens operand_tokens xs, separated_spelled IsOperand operand_tokens IsSpellableOperand operand_spelled xs h, refl)

place_spelled : (p : Place) → IsPlace p (place_tokens p)
place_spelled p = (offset_tokens p.offset, offset_spelled p.offset, refl)

result_spelled : (o : Option Scalar) → IsResult o (result_token o ∷ [])
result_spelled None = refl
result_spelled (Some k) = refl

no_condition : (xs : List Scalar) → AllOf (λ k. Unit {0}) xs
no_condition [] = tt
no_condition (x ∷ xs) = (tt, no_condition xs)

signature_spelled : (g : Signature) → IsSignature g (signature_tokens g)
signature_spelled g = (
  result_token g.result ∷ [],
  separated_tokens scalar_tokens g.params,
  result_spelled g.result,
  separated_spelled IsScalar scalar_tokens (λ k. Unit {0}) (λ k h. refl) g.params (no_condition g.params),
  refl,
)

simple_spelled : (profile : ℕ) (b : Stmt) → IsSpellableStmt profile b → IsSimple profile b (simple_tokens b)
simple_spelled profile (Copy x from) h = (operand_tokens from, operand_spelled from h.1, refl)
simple_spelled profile (Arith x l o r) h = (operand_tokens l, operand_tokens r, operand_spelled l h.1, operand_spelled r h.2, refl)
simple_spelled profile (Compare x l c r) h = (operand_tokens l, operand_tokens r, operand_spelled l h.1, operand_spelled r h.2, refl)
simple_spelled profile (Convert x k from) h = (operand_tokens from, operand_spelled from h.1, refl)
simple_spelled profile (Load x k place) h = (place_tokens place, place_spelled place, refl)
simple_spelled profile (Store k place from) h = (place_tokens place, operand_tokens from, place_spelled place, operand_spelled from h.1, refl)
simple_spelled profile (Call None f xs) h = (tok.Fixed s.Open ∷ (separated_tokens operand_tokens xs ++ tok.Fixed s.Close ∷ []), arguments_spelled xs h.2, refl)
simple_spelled profile (Call (Some x) f xs) h = (tok.Fixed s.Open ∷ (separated_tokens operand_tokens xs ++ tok.Fixed s.Close ∷ []), arguments_spelled xs h.2, refl)
simple_spelled profile (Indirect None g x xs) h = (signature_tokens g, tok.Fixed s.Open ∷ (separated_tokens operand_tokens xs ++ tok.Fixed s.Close ∷ []), signature_spelled g, arguments_spelled xs h.2, refl, h.3)
simple_spelled profile (Indirect (Some x) g y xs) h = (signature_tokens g, tok.Fixed s.Open ∷ (separated_tokens operand_tokens xs ++ tok.Fixed s.Close ∷ []), signature_spelled g, arguments_spelled xs h.2, refl, h.3)
simple_spelled profile (Get x) h = refl
simple_spelled profile (Put from) h = (operand_tokens from, operand_spelled from h, refl)
simple_spelled profile Abort h = refl

statement_spelled : (profile : ℕ) (b : Stmt) → IsSpellableStmt profile b → IsStmt profile b (statement_tokens b)
statement_spelled profile b h = (simple_tokens b, simple_spelled profile b h, refl)

case_spelled : (c : Case) → IsSpellableCase c → IsCase c (case_tokens c)
case_spelled c h = (signed_tokens c.value, signed_spelled c.value, refl)

end_spelled : (d : End) → IsSpellableEnd d → IsEnd d (end_tokens d)
end_spelled (Goto n) h = refl
end_spelled (If l c r first second) h = (operand_tokens l, operand_tokens r, operand_spelled l h.0, operand_spelled r h.1, refl)
end_spelled (Switch on cases other) h = (operand_tokens on, flat_map case_tokens cases, operand_spelled on h.0, many_spelled IsCase case_tokens IsSpellableCase case_spelled cases h.1, refl)
end_spelled (Return None) h = refl
end_spelled (Return (Some o)) h = (operand_tokens o, operand_spelled o h, refl)

block_spelled : (profile : ℕ) (b : Block) → IsSpellableBlock profile b → IsBlock profile b (block_tokens b)
block_spelled profile b h = (flat_map statement_tokens b.body, end_tokens b.end, many_spelled (IsStmt profile) statement_tokens (IsSpellableStmt profile) (statement_spelled profile) b.body h.1, end_spelled b.end h.2, refl)

field_spelled : (d : Decl) → IsSpellableDecl d → IsField d (field_tokens d)
field_spelled d h = refl

struct_spelled : (x : StructDef) → IsSpellableStruct x → IsStruct x (struct_tokens x)
struct_spelled x h = (flat_map field_tokens x.fields, many_spelled IsField field_tokens IsSpellableDecl field_spelled x.fields h.1, refl)

items_spelled : (xs : List Operand) → AllOf IsSpellableItem xs → IsItems xs (items_tokens xs)
items_spelled [] h = refl
items_spelled (x ∷ xs) h = (separated_tokens operand_tokens (x ∷ xs), separated_spelled IsItem operand_tokens IsSpellableItem item_spelled (x ∷ xs) h, refl)

global_spelled : (g : Global) → IsSpellableGlobal g → IsGlobal g (global_tokens g)
global_spelled g h = (items_tokens g.items, items_spelled g.items h.1, refl)

register_spelled : (r : Register) → IsSpellableRegister r → IsRegister r (register_tokens r)
register_spelled r h = refl

declared_spelled : (r : Register) → IsSpellableRegister r → IsDeclared r (declared_tokens r)
declared_spelled r h = refl

local_spelled : (d : Decl) → IsSpellableDecl d → IsLocal d (local_tokens d)
local_spelled d h = refl

function_spelled : (profile : ℕ) (f : Function) → IsSpellableFunction profile f → IsFunction profile f (function_tokens f)
function_spelled profile f h = (
  result_token f.result ∷ [],
  separated_tokens register_tokens f.params,
  flat_map local_tokens f.locals,
  flat_map declared_tokens f.registers,
  flat_map block_tokens f.blocks,
  result_spelled f.result,
  separated_spelled IsRegister register_tokens IsSpellableRegister register_spelled f.params h.params,
  many_spelled IsLocal local_tokens IsSpellableDecl local_spelled f.locals h.locals,
  many_spelled IsDeclared declared_tokens IsSpellableRegister declared_spelled f.registers h.registers,
  many_spelled (IsBlock profile) block_tokens (IsSpellableBlock profile) (block_spelled profile) f.blocks h.blocks,
  refl,
)

pub program_spelled : (p : Program) → IsSpellable p → IsProgram p (program_tokens p)
program_spelled p h = (
  flat_map struct_tokens p.structs,
  flat_map global_tokens p.globals,
  flat_map function_tokens p.functions,
  many_spelled IsStruct struct_tokens IsSpellableStruct struct_spelled p.structs h.structs,
  many_spelled IsGlobal global_tokens IsSpellableGlobal global_spelled p.globals h.globals,
  many_spelled (IsFunction p.profile) function_tokens (IsSpellableFunction p.profile) (function_spelled p.profile) p.functions h.functions,
  refl,
  h.profile,
)
