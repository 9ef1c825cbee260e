-- What tokens that bytes can have spell has names and numbers that bytes can have.
use Rattle.std.proofs.Common.{◌≡◌, ℕ, zero, suc, ◌<◌, ◌^◌, List, [], ◌∷◌, ◌++◌, Option, Some, None, refl, sym, subst, lit<, inl, inr}
use Rattle.std.specs.Prelude.{ℤ, pos}
use Rattle.gimple_ir.specs.declared.operand.Operand.{Operand}
use Rattle.gimple_ir.specs.declared.operand.Operand.TheVariants.{Reg, Number, Null, Address}
use Rattle.gimple_ir.specs.declared.operand.Base.{Base}
use Rattle.gimple_ir.specs.declared.operand.Base.TheVariants as base
use Rattle.gimple_ir.specs.declared.operand.Place.{Place}
use Rattle.gimple_ir.specs.declared.statement.Stmt.{Stmt}
use Rattle.gimple_ir.specs.declared.statement.Stmt.TheVariants.{Copy, Arith, Compare, Convert, Load, Store, Call, Indirect, Get, Put, Abort}
use Rattle.gimple_ir.specs.declared.block.Case.{Case}
use Rattle.gimple_ir.specs.declared.block.End.{End}
use Rattle.gimple_ir.specs.declared.block.End.TheVariants.{Goto, If, Switch, Return}
use Rattle.gimple_ir.specs.declared.block.Block.{Block}
use Rattle.gimple_ir.specs.declared.declarations.Shape.{Shape}
use Rattle.gimple_ir.specs.declared.declarations.Shape.TheVariants.{Plain, Named}
use Rattle.gimple_ir.specs.declared.declarations.Decl.{Decl}
use Rattle.gimple_ir.specs.declared.declarations.StructDef.{StructDef}
use Rattle.gimple_ir.specs.declared.declarations.Global.{Global}
use Rattle.gimple_ir.specs.declared.declarations.Register.{Register}
use Rattle.gimple_ir.specs.declared.program.Function.{Function}
use Rattle.gimple_ir.specs.declared.program.Program.{Program}
use Rattle.gimple_tokens.specs.declared.token.Symbol.{Symbol}
use Rattle.gimple_tokens.specs.declared.token.Symbol.TheVariants as s
use Rattle.gimple_tokens.specs.declared.token.Token.TheVariants as tok
use Rattle.gimple_ir.specs.Names.{IsNameText}
use Rattle.gimple_tokens.specs.Lexing.{AllReal}
use Rattle.gimple_tokens.proofs.Real.{front_real, back_real}
use Rattle.token_law.specs.Reading.{Tokens}
use Rattle.token_law.specs.Languages.{IsMany, IsAfterComma, IsSeparated}
use Rattle.gimple_grammar.specs.Grammar.{negative, scalar_symbol, op_symbol, cmp_symbol, IsSigned, IsOffset, IsAddress, IsItem, IsOperand, IsArguments, base_tokens, IsPlace, mem_tokens, IsSimple, IsStmt, target_tokens, goto_tokens, IsCase, IsEnd, IsBlock, shape_tokens, length_tokens, decl_tokens, IsField, IsStruct, const_tokens, IsItems, IsGlobal, IsRegister, IsDeclared, IsLocal, IsFunction, IsProgram}
use Rattle.gimple_ir.specs.Spellable.{AllOf, IsSpellableNumber, IsSpellableOperand, IsSpellableItem, IsSpellableBase, IsSpellablePlace, IsSpellableStmt, IsSpellableCase, IsSpellableEnd, IsSpellableBlock, IsSpellableShape, IsSpellableLength, IsSpellableDecl, IsSpellableStruct, IsSpellableGlobal, IsSpellableRegister, IsSpellableFunction, IsSpellable}

-- the parts of tokens that bytes can have
both : (ts a b : Tokens) → ts ≡ a ++ b → AllReal ts → AllReal a × AllReal b
both ts a b e r = let q : AllReal (a ++ b) = subst AllReal e r in (front_real a b q, back_real a b q)

module _ {A : Type 0} (S : A → Tokens → Type 0) (ok : A → Type 0) (item : (x : A) (ts : Tokens) → S x ts → AllReal ts → ok x) where
  many_ok : (xs : List A) (ts : Tokens) → IsMany S xs ts → AllReal ts → AllOf ok xs
  many_ok [] ts h r = tt
  many_ok (x ∷ xs) ts h r = let q = both ts h.0 h.1 h.4 r in (item x h.0 h.2 q.0, many_ok xs h.1 h.3 q.1)

  comma_ok : (x : A) (ts : Tokens) → IsAfterComma S x ts → AllReal ts → ok x
  comma_ok x ts h r = let q : AllReal (tok.Fixed s.Comma ∷ h.0) = subst AllReal h.2 r in item x h.0 h.1 q.1

module _ {A : Type 0} (S : A → Tokens → Type 0) (ok : A → Type 0) (item : (x : A) (ts : Tokens) → S x ts → AllReal ts → ok x) where
  separated_ok : (xs : List A) (ts : Tokens) → IsSeparated S xs ts → AllReal ts → AllOf ok xs
  separated_ok [] ts h r = tt
  separated_ok (x ∷ xs) ts h r = let q = both ts h.0 h.1 h.4 r in (item x h.0 h.2 q.0, many_ok (IsAfterComma S) ok (comma_ok S ok item) xs h.1 h.3 q.1)

negative_ok : (n : ℕ) → n < 2 ^ 64 → IsSpellableNumber (negative n)
negative_ok zero h = h
negative_ok (suc n) h = h

signed_ok : (z : ℤ) (ts : Tokens) → IsSigned z ts → AllReal ts → IsSpellableNumber z
signed_ok z ts h r =
    elim h [
      | inl a ↦ let q : AllReal (tok.Number a.0 ∷ []) = subst AllReal a.2 r in subst IsSpellableNumber (sym a.1) q.0
      | inr b ↦ let q : AllReal (tok.Fixed s.Minus ∷ tok.Number b.0 ∷ []) = subst AllReal b.2 r in subst IsSpellableNumber (sym b.1) (negative_ok b.0 q.1.0)
    ]

zero_ok : IsSpellableNumber (pos 0)
zero_ok = lit< tt

offset_ok : (z : ℤ) (ts : Tokens) → IsOffset z ts → AllReal ts → IsSpellableNumber z
offset_ok z ts h r =
    elim h [
      | inl a ↦ let q : AllReal (tok.Fixed s.At ∷ a.0) = subst AllReal a.2 r in signed_ok z a.0 a.1 q.1
      | inr b ↦ subst IsSpellableNumber (sym b.0) zero_ok
    ]

address_ok : (x : List ℕ) (z : ℤ) (ts : Tokens) → IsAddress x z ts → AllReal ts → IsNameText x × IsSpellableNumber z
address_ok x z ts h r = let q : AllReal (tok.Fixed s.Ampersand ∷ tok.Name x ∷ h.0) = subst AllReal h.2 r in (q.1.0, offset_ok z h.0 h.1 q.1.1)

operand_ok : (o : Operand) (ts : Tokens) → IsOperand o ts → AllReal ts → IsSpellableOperand o
operand_ok (Reg x) ts h r = let q : AllReal (tok.Name x ∷ []) = subst AllReal h r in q.0
operand_ok (Number z) ts h r = signed_ok z ts h r
operand_ok Null ts h r = tt
operand_ok (Address x z) ts h r = address_ok x z ts h r

item_ok : (o : Operand) (ts : Tokens) → IsItem o ts → AllReal ts → IsSpellableItem o
item_ok (Reg x) ts h r = h
item_ok (Number z) ts h r = signed_ok z ts h r
item_ok Null ts h r = tt
item_ok (Address x z) ts h r = address_ok x z ts h r

arguments_ok : (xs : List Operand) (ts : Tokens) → IsArguments xs ts → AllReal ts → AllOf IsSpellableOperand xs
arguments_ok xs ts h r = let q : AllReal (tok.Fixed s.Open ∷ (h.0 ++ tok.Fixed s.Close ∷ [])) = subst AllReal h.2 r in separated_ok IsOperand IsSpellableOperand operand_ok xs h.0 h.1 (front_real h.0 (tok.Fixed s.Close ∷ []) q.1)

base_ok : (b : Base) → AllReal (base_tokens b) → IsSpellableBase b
base_ok (base.Reg x) r = r.0
base_ok (base.Variable x) r = r.1.0

place_ok : (p : Place) (ts : Tokens) → IsPlace p ts → AllReal ts → IsSpellablePlace p
place_ok p ts h r =
    let t1 : Tokens = h.0 ++ tok.Fixed s.CloseBracket ∷ [] in
    let q : AllReal (tok.Fixed s.OpenBracket ∷ (base_tokens p.base ++ t1)) = subst AllReal h.2 r in
    let w = both (base_tokens p.base ++ t1) (base_tokens p.base) t1 refl q.1 in
    (base_ok p.base w.0, offset_ok p.offset h.0 h.1 (front_real h.0 (tok.Fixed s.CloseBracket ∷ []) w.1))

-- a target and two operands with a symbol between
pair_ok : (x : List ℕ) (l r : Operand) (y : Symbol) (a b ts : Tokens) → IsOperand l a → IsOperand r b → ts ≡ tok.Name x ∷ tok.Fixed s.Assign ∷ a ++ tok.Fixed y ∷ b → AllReal ts → IsNameText x × IsSpellableOperand l × IsSpellableOperand r
pair_ok x l r y a b ts h k e real =
    let q : AllReal (tok.Name x ∷ tok.Fixed s.Assign ∷ (a ++ tok.Fixed y ∷ b)) = subst AllReal e real in
    let w = both (a ++ tok.Fixed y ∷ b) a (tok.Fixed y ∷ b) refl q.1.1 in
    (q.0, operand_ok l a h w.0, operand_ok r b k w.1.1)

simple_ok : (profile : ℕ) (b : Stmt) (ts : Tokens) → IsSimple profile b ts → AllReal ts → IsSpellableStmt profile b
simple_ok profile (Copy x from) ts h r = let q : AllReal (tok.Name x ∷ tok.Fixed s.Assign ∷ h.0) = subst AllReal h.2 r in (q.0, operand_ok from h.0 h.1 q.1.1)
simple_ok profile (Arith x l o c) ts h r = pair_ok x l c (op_symbol o) h.0 h.1 ts h.2 h.3 h.4 r
simple_ok profile (Compare x l o c) ts h r = pair_ok x l c (cmp_symbol o) h.0 h.1 ts h.2 h.3 h.4 r
simple_ok profile (Convert x k from) ts h r = let q : AllReal (tok.Name x ∷ tok.Fixed s.Assign ∷ tok.Fixed s.Open ∷ tok.Fixed (scalar_symbol k) ∷ tok.Fixed s.Close ∷ h.0) = subst AllReal h.2 r in (q.0, operand_ok from h.0 h.1 q.1.1.1.1.1)
simple_ok profile (Load x k place) ts h r = let q : AllReal (tok.Name x ∷ tok.Fixed s.Assign ∷ (mem_tokens k ++ h.0)) = subst AllReal h.2 r in (q.0, place_ok place h.0 h.1 q.1.1.1.1.1.1)
simple_ok profile (Store k place from) ts h r =
    let q : AllReal (mem_tokens k ++ (h.0 ++ tok.Fixed s.Assign ∷ h.1)) = subst AllReal h.4 r in
    let w = both (h.0 ++ tok.Fixed s.Assign ∷ h.1) h.0 (tok.Fixed s.Assign ∷ h.1) refl q.1.1.1.1 in
    (place_ok place h.0 h.2 w.0, operand_ok from h.1 h.3 w.1.1)
simple_ok profile (Call None f xs) ts h r = let q : AllReal (tok.Name f ∷ h.0) = subst AllReal h.2 r in (tt, q.0, arguments_ok xs h.0 h.1 q.1)
simple_ok profile (Call (Some x) f xs) ts h r = let q : AllReal (tok.Name x ∷ tok.Fixed s.Assign ∷ tok.Name f ∷ h.0) = subst AllReal h.2 r in (q.0, q.1.1.0, arguments_ok xs h.0 h.1 q.1.1.1)
simple_ok profile (Indirect None g x xs) ts h r =
    let q : AllReal (tok.Fixed s.Star ∷ (h.0 ++ (tok.Name x ∷ h.1))) = subst AllReal h.4 r in
    let w = back_real h.0 (tok.Name x ∷ h.1) q.1 in
    (tt, w.0, arguments_ok xs h.1 h.3 w.1, h.5)
simple_ok profile (Indirect (Some x) g y xs) ts h r =
    let q : AllReal (tok.Name x ∷ tok.Fixed s.Assign ∷ tok.Fixed s.Star ∷ (h.0 ++ (tok.Name y ∷ h.1))) = subst AllReal h.4 r in
    let w = back_real h.0 (tok.Name y ∷ h.1) q.1.1.1 in
    (q.0, w.0, arguments_ok xs h.1 h.3 w.1, h.5)
simple_ok profile (Get x) ts h r = let q : AllReal (tok.Name x ∷ tok.Fixed s.Assign ∷ tok.Fixed s.Getint ∷ tok.Fixed s.Open ∷ tok.Fixed s.Close ∷ []) = subst AllReal h r in q.0
simple_ok profile (Put from) ts h r = let q : AllReal (tok.Fixed s.Putint ∷ tok.Fixed s.Open ∷ (h.0 ++ tok.Fixed s.Close ∷ [])) = subst AllReal h.2 r in operand_ok from h.0 h.1 (front_real h.0 (tok.Fixed s.Close ∷ []) q.1.1)
simple_ok profile Abort ts h r = tt

statement_ok : (profile : ℕ) (b : Stmt) (ts : Tokens) → IsStmt profile b ts → AllReal ts → IsSpellableStmt profile b
statement_ok profile b ts h r = simple_ok profile b h.0 h.1 (both ts h.0 (tok.Fixed s.Semi ∷ []) h.2 r).0

case_ok : (c : Case) (ts : Tokens) → IsCase c ts → AllReal ts → IsSpellableCase c
case_ok c ts h r =
    let t1 : Tokens = tok.Fixed s.Colon ∷ (target_tokens c.target ++ tok.Fixed s.Semi ∷ []) in
    let q : AllReal (tok.Fixed s.Case ∷ (h.0 ++ t1)) = subst AllReal h.2 r in
    let w = both (h.0 ++ t1) h.0 t1 refl q.1 in
    (signed_ok c.value h.0 h.1 w.0, w.1.1.1.1.0)

end_ok : (d : End) (ts : Tokens) → IsEnd d ts → AllReal ts → IsSpellableEnd d
end_ok (Goto n) ts h r = let q : AllReal (goto_tokens n) = subst AllReal h r in q.1.1.1.0
end_ok (If l c o first second) ts h r =
    let t1 : Tokens = goto_tokens first ++ tok.Fixed s.Else ∷ goto_tokens second in
    let t2 : Tokens = h.1 ++ (tok.Fixed s.Close ∷ t1) in
    let q : AllReal (tok.Fixed s.If ∷ tok.Fixed s.Open ∷ (h.0 ++ (tok.Fixed (cmp_symbol c) ∷ t2))) = subst AllReal h.4 r in
    let w = both (h.0 ++ (tok.Fixed (cmp_symbol c) ∷ t2)) h.0 (tok.Fixed (cmp_symbol c) ∷ t2) refl q.1.1 in
    let v = both t2 h.1 (tok.Fixed s.Close ∷ t1) refl w.1.1 in
    let u = both t1 (goto_tokens first) (tok.Fixed s.Else ∷ goto_tokens second) refl v.1.1 in
    (operand_ok l h.0 h.2 w.0, operand_ok o h.1 h.3 v.0, u.0.1.1.1.0, u.1.1.1.1.1.0)
end_ok (Switch on cases other) ts h r =
    let t1 : Tokens = tok.Fixed s.Default ∷ tok.Fixed s.Colon ∷ (target_tokens other ++ tok.Fixed s.Semi ∷ tok.Fixed s.CloseBrace ∷ []) in
    let t2 : Tokens = tok.Fixed s.Close ∷ tok.Fixed s.OpenBrace ∷ (h.1 ++ t1) in
    let q : AllReal (tok.Fixed s.Switch ∷ tok.Fixed s.Open ∷ (h.0 ++ t2)) = subst AllReal h.4 r in
    let w = both (h.0 ++ t2) h.0 t2 refl q.1.1 in
    let v = both (h.1 ++ t1) h.1 t1 refl w.1.1.1 in
    (operand_ok on h.0 h.2 w.0, many_ok IsCase IsSpellableCase case_ok cases h.1 h.3 v.0, v.1.1.1.1.1.0)
end_ok (Return None) ts h r = tt
end_ok (Return (Some o)) ts h r = let q : AllReal (tok.Fixed s.Return ∷ (h.0 ++ tok.Fixed s.Semi ∷ [])) = subst AllReal h.2 r in operand_ok o h.0 h.1 (front_real h.0 (tok.Fixed s.Semi ∷ []) q.1)

block_ok : (profile : ℕ) (b : Block) (ts : Tokens) → IsBlock profile b ts → AllReal ts → IsSpellableBlock profile b
block_ok profile b ts h r =
    let q : AllReal (target_tokens b.label ++ (tok.Fixed s.Colon ∷ (h.0 ++ h.1))) = subst AllReal h.4 r in
    let w = both (h.0 ++ h.1) h.0 h.1 refl q.1.1.1.1.1 in
    (q.1.1.0, many_ok (IsStmt profile) (IsSpellableStmt profile) (statement_ok profile) b.body h.0 h.2 w.0, end_ok b.end h.1 h.3 w.1)

-- ---- declarations

shape_ok : (f : Shape) (m : Tokens) → AllReal (shape_tokens f ++ m) → IsSpellableShape f × AllReal m
shape_ok (Plain k) m r = (tt, r.1)
shape_ok (Named x) m r = (r.1.0, r.1.1)

length_ok : (n : Option ℕ) → AllReal (length_tokens n) → IsSpellableLength n
length_ok None r = tt
length_ok (Some n) r = r.1.0

decl_ok : (d : Decl) → AllReal (decl_tokens d) → IsSpellableDecl d
decl_ok d r = let w = shape_ok d.shape (tok.Name d.name ∷ length_tokens d.length) r in (w.1.0, w.0, length_ok d.length w.1.1)

field_ok : (d : Decl) (ts : Tokens) → IsField d ts → AllReal ts → IsSpellableDecl d
field_ok d ts h r = decl_ok d (both ts (decl_tokens d) (tok.Fixed s.Semi ∷ []) h r).0

struct_ok : (x : StructDef) (ts : Tokens) → IsStruct x ts → AllReal ts → IsSpellableStruct x
struct_ok x ts h r =
    let t1 : Tokens = tok.Fixed s.CloseBrace ∷ tok.Fixed s.Semi ∷ [] in
    let q : AllReal (tok.Fixed s.Struct ∷ tok.Name x.name ∷ tok.Fixed s.OpenBrace ∷ (h.0 ++ t1)) = subst AllReal h.2 r in
    (q.1.0, many_ok IsField IsSpellableDecl field_ok x.fields h.0 h.1 (front_real h.0 t1 q.1.1.1))

items_ok : (xs : List Operand) (ts : Tokens) → IsItems xs ts → AllReal ts → AllOf IsSpellableItem xs
items_ok [] ts h r = tt
items_ok (x ∷ xs) ts h r =
    let t1 : Tokens = tok.Fixed s.CloseBrace ∷ [] in
    let q : AllReal (tok.Fixed s.Assign ∷ tok.Fixed s.OpenBrace ∷ (h.0 ++ t1)) = subst AllReal h.2 r in
    separated_ok IsItem IsSpellableItem item_ok (x ∷ xs) h.0 h.1 (front_real h.0 t1 q.1.1)

global_ok : (g : Global) (ts : Tokens) → IsGlobal g ts → AllReal ts → IsSpellableGlobal g
global_ok g ts h r =
    let t1 : Tokens = h.0 ++ tok.Fixed s.Semi ∷ [] in
    let t2 : Tokens = decl_tokens g.decl ++ t1 in
    let q : AllReal (tok.Fixed s.Global ∷ (const_tokens g.constant ++ t2)) = subst AllReal h.2 r in
    let w = both t2 (decl_tokens g.decl) t1 refl (back_real (const_tokens g.constant) t2 q.1) in
    (decl_ok g.decl w.0, items_ok g.items h.0 h.1 (front_real h.0 (tok.Fixed s.Semi ∷ []) w.1))

register_ok : (x : Register) (ts : Tokens) → IsRegister x ts → AllReal ts → IsSpellableRegister x
register_ok x ts h r = let q : AllReal (tok.Fixed (scalar_symbol x.scalar) ∷ tok.Name x.name ∷ []) = subst AllReal h r in q.1.0

declared_ok : (x : Register) (ts : Tokens) → IsDeclared x ts → AllReal ts → IsSpellableRegister x
declared_ok x ts h r = let q : AllReal (tok.Fixed (scalar_symbol x.scalar) ∷ tok.Name x.name ∷ tok.Fixed s.Semi ∷ []) = subst AllReal h r in q.1.0

local_ok : (d : Decl) (ts : Tokens) → IsLocal d ts → AllReal ts → IsSpellableDecl d
local_ok d ts h r = let q : AllReal (tok.Fixed s.Local ∷ (decl_tokens d ++ tok.Fixed s.Semi ∷ [])) = subst AllReal h r in decl_ok d (front_real (decl_tokens d) (tok.Fixed s.Semi ∷ []) q.1)

-- ---- functions and programs

function_ok : (profile : ℕ) (f : Function) (ts : Tokens) → IsFunction profile f ts → AllReal ts → IsSpellableFunction profile f
function_ok profile f ts h r =
    let t1 : Tokens = h.4 ++ tok.Fixed s.CloseBrace ∷ [] in
    let t2 : Tokens = h.3 ++ t1 in
    let t3 : Tokens = h.2 ++ t2 in
    let t4 : Tokens = tok.Fixed s.Close ∷ tok.Fixed s.OpenBrace ∷ t3 in
    let t5 : Tokens = h.1 ++ t4 in
    let q = both ts h.0 (tok.Name f.name ∷ tok.Fixed s.Open ∷ t5) h.10 r in
    let w = both t5 h.1 t4 refl q.1.1.1 in
    let v = both t3 h.2 t2 refl w.1.1.1 in
    let u = both t2 h.3 t1 refl v.1 in
    record {
      name = q.1.0;
      params = separated_ok IsRegister IsSpellableRegister register_ok f.params h.1 h.6 w.0;
      locals = many_ok IsLocal IsSpellableDecl local_ok f.locals h.2 h.7 v.0;
      registers = many_ok IsDeclared IsSpellableRegister declared_ok f.registers h.3 h.8 u.0;
      blocks = many_ok (IsBlock profile) (IsSpellableBlock profile) (block_ok profile) f.blocks h.4 h.9 (front_real h.4 (tok.Fixed s.CloseBrace ∷ []) u.1);
    }

pub program_ok : (p : Program) (ts : Tokens) → IsProgram p ts → AllReal ts → IsSpellable p
program_ok p ts h r =
    let q : AllReal (tok.Fixed s.Gimple ∷ tok.Number p.profile ∷ tok.Fixed s.Semi ∷ (h.0 ++ (h.1 ++ h.2))) = subst AllReal h.6 r in
    let w = both (h.0 ++ (h.1 ++ h.2)) h.0 (h.1 ++ h.2) refl q.1.1.1 in
    let v = both (h.1 ++ h.2) h.1 h.2 refl w.1 in
    record {
      profile = h.7;
      structs = many_ok IsStruct IsSpellableStruct struct_ok p.structs h.0 h.3 w.0;
      globals = many_ok IsGlobal IsSpellableGlobal global_ok p.globals h.1 h.4 v.0;
      functions = many_ok (IsFunction p.profile) (IsSpellableFunction p.profile) (function_ok p.profile) p.functions h.2 h.5 v.1;
    }
