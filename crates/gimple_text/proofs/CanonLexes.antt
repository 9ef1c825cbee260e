-- The canonical text lexes to its tokens, whatever follows.
use Rattle.std.proofs.Common.{◌≡◌, ℕ, zero, suc, ◌<◌, ◌^◌, Bool, true, false, List, [], ◌∷◌, ◌++◌, Option, Some, None, refl, sym, subst, append_assoc, lit<, inl, inr}
use Rattle.std.specs.Prelude.{codes, ℤ, pos, negsuc}
use Rattle.std.specs.List.{flat_map}
use Rattle.std.specs.Fmt.{decimal, signed_decimal}
use Rattle.std.proofs.lemmas.List.{append-nil}
use Rattle.gimple_ir.specs.declared.operand.Operand.{Operand}
use Rattle.gimple_ir.specs.declared.operand.Operand.TheVariants.{Reg, Number, Null, Address}
use Rattle.gimple_ir.specs.declared.operand.Base.{Base}
use Rattle.gimple_ir.specs.declared.operand.Base.TheVariants as base
use Rattle.gimple_ir.specs.declared.operand.Place.{Place}
use Rattle.gimple_ir.specs.declared.scalar.Op.{Op}
use Rattle.gimple_ir.specs.declared.scalar.Op.TheVariants as op
use Rattle.gimple_ir.specs.declared.scalar.Cmp.{Cmp}
use Rattle.gimple_ir.specs.declared.scalar.Cmp.TheVariants as cmp
use Rattle.gimple_ir.specs.declared.scalar.Scalar.{Scalar}
use Rattle.gimple_ir.specs.declared.scalar.Scalar.TheVariants as kind
use Rattle.gimple_ir.specs.declared.statement.Signature.{Signature}
use Rattle.gimple_ir.specs.declared.statement.Stmt.{Stmt}
use Rattle.gimple_ir.specs.declared.statement.Stmt.TheVariants.{Copy, Arith, Compare, Convert, Load, Store, Call, Indirect, Get, Put, Abort}
use Rattle.gimple_ir.specs.declared.block.Case.{Case}
use Rattle.gimple_ir.specs.declared.block.End.{End}
use Rattle.gimple_ir.specs.declared.block.End.TheVariants.{Goto, If, Switch, Return}
use Rattle.gimple_ir.specs.declared.block.Block.{Block}
use Rattle.gimple_ir.specs.declared.declarations.Shape.{Shape}
use Rattle.gimple_ir.specs.declared.declarations.Shape.TheVariants.{Plain, Named}
use Rattle.gimple_ir.specs.declared.declarations.Decl.{Decl}
use Rattle.gimple_ir.specs.declared.declarations.StructDef.{StructDef}
use Rattle.gimple_ir.specs.declared.declarations.Global.{Global}
use Rattle.gimple_ir.specs.declared.declarations.Register.{Register}
use Rattle.gimple_ir.specs.declared.program.Function.{Function}
use Rattle.gimple_ir.specs.declared.program.Program.{Program}
use Rattle.gimple_tokens.specs.declared.token.Symbol.TheVariants as s
use Rattle.gimple_tokens.specs.declared.token.Token.TheVariants as tok
use Rattle.gimple_ir.specs.Names.{Bytes, goes_on_name, IsNameText}
use Rattle.gimple_tokens.specs.Lexing.{keyword, token_at, Lexes}
use Rattle.gimple_tokens.proofs.Pieces.{Stops, stops_digit, name_lexes, keyword_lexes, number_lexes}
use Rattle.token_law.specs.Reading.{Tokens}
use Rattle.gimple_grammar.specs.Grammar.{scalar_symbol, op_symbol, cmp_symbol, base_tokens, target_tokens, goto_tokens, shape_tokens, length_tokens, decl_tokens, const_tokens}
use Rattle.gimple_ir.specs.Spellable.{AllOf, IsSpellableNumber, IsSpellableOperand, IsSpellableItem, IsSpellableBase, IsSpellablePlace, IsProfile, IsSpellableStmt, IsSpellableCase, IsSpellableEnd, IsSpellableBlock, IsSpellableShape, IsSpellableLength, IsSpellableDecl, IsSpellableStruct, IsSpellableGlobal, IsSpellableRegister, IsSpellableFunction, IsSpellable}
use Rattle.gimple_text.specs.Canon.{scalar_text, offset_text, operand_text, op_text, cmp_text, more_text, separated_text, base_text, mem_text, target_text, goto_text, signature_text, branches_text, simple_text, statement_text, case_text, end_text, block_text, shape_text, length_text, decl_text, field_text, struct_text, const_text, items_text, global_text, result_text, header_text, register_text, register_line, local_text, function_text, canon}
use Rattle.gimple_text.proofs.CanonTokens.{signed_tokens, offset_tokens, operand_tokens, more_tokens, separated_tokens, access_tokens, result_token, scalar_tokens, signature_tokens, simple_tokens, statement_tokens, case_tokens, end_tokens, block_tokens, field_tokens, struct_tokens, items_tokens, global_tokens, register_tokens, declared_tokens, local_tokens, function_tokens, program_tokens}

recut : (bs cs : Bytes) (ts us : Tokens) → bs ≡ cs → ts ≡ us → Lexes cs us → Lexes bs ts
recut bs cs ts us e f h = subst (λ z. Lexes z ts) (sym e) (subst (λ z. Lexes cs z) (sym f) h)

-- ---- lists

module _ {A : Type 0} (text : A → Bytes) (tokens : A → Tokens) (ok : A → Type 0) where
  pub lines_lex : ((x : A) (rest : Bytes) (ts : Tokens) → ok x → Lexes rest ts → Lexes (text x ++ rest) (tokens x ++ ts))
      → (xs : List A) (rest : Bytes) (ts : Tokens) → AllOf ok xs → Lexes rest ts → Lexes (flat_map text xs ++ rest) (flat_map tokens xs ++ ts)
  lines_lex line [] rest ts h l = l
  lines_lex line (x ∷ xs) rest ts h l =
      recut ((text x ++ flat_map text xs) ++ rest) (text x ++ (flat_map text xs ++ rest)) ((tokens x ++ flat_map tokens xs) ++ ts) (tokens x ++ (flat_map tokens xs ++ ts))
      (append_assoc (text x) (flat_map text xs) rest) (append_assoc (tokens x) (flat_map tokens xs) ts)
      (line x (flat_map text xs ++ rest) (flat_map tokens xs ++ ts) h.0 (lines_lex line xs rest ts h.1 l))

  -- what follows an item in a list does not go on with a name
  more_stops : (xs : List A) (rest : Bytes) → Stops goes_on_name rest → Stops goes_on_name (more_text text xs ++ rest)
  more_stops [] rest stop = stop
  more_stops (x ∷ xs) rest stop = refl

  abbrev ItemLexes : Type 0
  ItemLexes = (x : A) (rest : Bytes) (ts : Tokens) → ok x → Stops goes_on_name rest → Lexes rest ts → Lexes (text x ++ rest) (tokens x ++ ts)

  more_lex : ItemLexes → (xs : List A) (rest : Bytes) (ts : Tokens) → AllOf ok xs → Stops goes_on_name rest → Lexes rest ts → Lexes (more_text text xs ++ rest) (more_tokens tokens xs ++ ts)
  more_lex item [] rest ts h stop l = l
  more_lex item (x ∷ xs) rest ts h stop l = (
    32 ∷ ((text x ++ more_text text xs) ++ rest),
    refl,
    recut ((text x ++ more_text text xs) ++ rest) (text x ++ (more_text text xs ++ rest)) ((tokens x ++ more_tokens tokens xs) ++ ts) (tokens x ++ (more_tokens tokens xs ++ ts))
        (append_assoc (text x) (more_text text xs) rest) (append_assoc (tokens x) (more_tokens tokens xs) ts)
        (item x (more_text text xs ++ rest) (more_tokens tokens xs ++ ts) h.0 (more_stops xs rest stop) (more_lex item xs rest ts h.1 stop l)),
  )

  pub separated_lex : ItemLexes → (xs : List A) (rest : Bytes) (ts : Tokens) → AllOf ok xs → Stops goes_on_name rest → Lexes rest ts → Lexes (separated_text text xs ++ rest) (separated_tokens tokens xs ++ ts)
  separated_lex item [] rest ts h stop l = l
  separated_lex item (x ∷ xs) rest ts h stop l =
      recut ((text x ++ more_text text xs) ++ rest) (text x ++ (more_text text xs ++ rest)) ((tokens x ++ more_tokens tokens xs) ++ ts) (tokens x ++ (more_tokens tokens xs ++ ts))
      (append_assoc (text x) (more_text text xs) rest) (append_assoc (tokens x) (more_tokens tokens xs) ts)
      (item x (more_text text xs ++ rest) (more_tokens tokens xs ++ ts) h.0 (more_stops xs rest stop) (more_lex item xs rest ts h.1 stop l))

-- ---- words and operands

scalar_lexes : (k : Scalar) (rest : Bytes) (ts : Tokens) → Stops goes_on_name rest → Lexes rest ts → Lexes (scalar_text k ++ rest) (tok.Fixed (scalar_symbol k) ∷ ts)
unfolding keyword
scalar_lexes kind.I8 rest ts stop l = keyword_lexes 105 (codes "8") s.I8 rest ts refl refl (refl, tt) stop l
scalar_lexes kind.I16 rest ts stop l = keyword_lexes 105 (codes "16") s.I16 rest ts refl refl (refl, (refl, tt)) stop l
scalar_lexes kind.I32 rest ts stop l = keyword_lexes 105 (codes "32") s.I32 rest ts refl refl (refl, (refl, tt)) stop l
scalar_lexes kind.I64 rest ts stop l = keyword_lexes 105 (codes "64") s.I64 rest ts refl refl (refl, (refl, tt)) stop l
scalar_lexes kind.U8 rest ts stop l = keyword_lexes 117 (codes "8") s.U8 rest ts refl refl (refl, tt) stop l
scalar_lexes kind.U16 rest ts stop l = keyword_lexes 117 (codes "16") s.U16 rest ts refl refl (refl, (refl, tt)) stop l
scalar_lexes kind.U32 rest ts stop l = keyword_lexes 117 (codes "32") s.U32 rest ts refl refl (refl, (refl, tt)) stop l
scalar_lexes kind.U64 rest ts stop l = keyword_lexes 117 (codes "64") s.U64 rest ts refl refl (refl, (refl, tt)) stop l
scalar_lexes kind.Ptr rest ts stop l = keyword_lexes 112 (codes "tr") s.Ptr rest ts refl refl (refl, (refl, tt)) stop l

signed_lexes : (z : ℤ) (rest : Bytes) (ts : Tokens) → IsSpellableNumber z → Stops goes_on_name rest → Lexes rest ts → Lexes (signed_decimal z ++ rest) (signed_tokens z ++ ts)
signed_lexes (pos n) rest ts h stop l = number_lexes n rest ts h (stops_digit rest stop) l
signed_lexes (negsuc n) rest ts h stop l = (decimal (suc n) ++ rest, refl, number_lexes (suc n) rest ts h (stops_digit rest stop) l)

offset_lexes : (z : ℤ) (rest : Bytes) (ts : Tokens) → IsSpellableNumber z → Stops goes_on_name rest → Lexes rest ts → Lexes (offset_text z ++ rest) (offset_tokens z ++ ts)
offset_lexes (pos zero) rest ts h stop l = l
offset_lexes (pos (suc n)) rest ts h stop l = (signed_decimal (pos (suc n)) ++ rest, refl, signed_lexes (pos (suc n)) rest ts h stop l)
offset_lexes (negsuc n) rest ts h stop l = (signed_decimal (negsuc n) ++ rest, refl, signed_lexes (negsuc n) rest ts h stop l)

offset_stops : (z : ℤ) (rest : Bytes) → Stops goes_on_name rest → Stops goes_on_name (offset_text z ++ rest)
offset_stops (pos zero) rest stop = stop
offset_stops (pos (suc n)) rest stop = refl
offset_stops (negsuc n) rest stop = refl

address_lexes : (x : Bytes) (z : ℤ) (rest : Bytes) (ts : Tokens) → IsNameText x → IsSpellableNumber z → Stops goes_on_name rest → Lexes rest ts → Lexes (operand_text (Address x z) ++ rest) (operand_tokens (Address x z) ++ ts)
address_lexes x z rest ts h k stop l =
    let name = name_lexes x (offset_text z ++ rest) (offset_tokens z ++ ts) h (offset_stops z rest stop) (offset_lexes z rest ts k stop l) in
    ((x ++ offset_text z) ++ rest, refl, recut ((x ++ offset_text z) ++ rest) (x ++ (offset_text z ++ rest)) (tok.Name x ∷ (offset_tokens z ++ ts)) (tok.Name x ∷ (offset_tokens z ++ ts)) (append_assoc x (offset_text z) rest) refl name)

operand_lexes : (o : Operand) (rest : Bytes) (ts : Tokens) → IsSpellableOperand o → Stops goes_on_name rest → Lexes rest ts → Lexes (operand_text o ++ rest) (operand_tokens o ++ ts)
unfolding keyword
operand_lexes (Reg x) rest ts h stop l = name_lexes x rest ts h stop l
operand_lexes (Number z) rest ts h stop l = signed_lexes z rest ts h stop l
operand_lexes Null rest ts h stop l = keyword_lexes 110 (codes "ull") s.Null rest ts refl refl (refl, (refl, (refl, tt))) stop l
operand_lexes (Address x z) rest ts h stop l = address_lexes x z rest ts h.0 h.1 stop l

operands_lex : (xs : List Operand) (rest : Bytes) (ts : Tokens) → AllOf IsSpellableOperand xs → Stops goes_on_name rest → Lexes rest ts → Lexes (separated_text operand_text xs ++ rest) (separated_tokens operand_tokens xs ++ ts)
operands_lex = separated_lex operand_text operand_tokens IsSpellableOperand operand_lexes

item_operand : (o : Operand) → IsSpellableItem o → IsSpellableOperand o
item_operand (Reg x) h = absurd h
item_operand (Number z) h = h
item_operand Null h = h
item_operand (Address x z) h = h

item_lexes : (o : Operand) (rest : Bytes) (ts : Tokens) → IsSpellableItem o → Stops goes_on_name rest → Lexes rest ts → Lexes (operand_text o ++ rest) (operand_tokens o ++ ts)
item_lexes o rest ts h stop l = operand_lexes o rest ts (item_operand o h) stop l

-- ---- places

less_lexes : (k : Scalar) (rest : Bytes) (ts : Tokens) → Lexes (scalar_text k ++ rest) ts → Lexes (60 ∷ (scalar_text k ++ rest)) (tok.Fixed s.Less ∷ ts)
less_lexes kind.I8 rest ts l = (scalar_text kind.I8 ++ rest, refl, l)
less_lexes kind.I16 rest ts l = (scalar_text kind.I16 ++ rest, refl, l)
less_lexes kind.I32 rest ts l = (scalar_text kind.I32 ++ rest, refl, l)
less_lexes kind.I64 rest ts l = (scalar_text kind.I64 ++ rest, refl, l)
less_lexes kind.U8 rest ts l = (scalar_text kind.U8 ++ rest, refl, l)
less_lexes kind.U16 rest ts l = (scalar_text kind.U16 ++ rest, refl, l)
less_lexes kind.U32 rest ts l = (scalar_text kind.U32 ++ rest, refl, l)
less_lexes kind.U64 rest ts l = (scalar_text kind.U64 ++ rest, refl, l)
less_lexes kind.Ptr rest ts l = (scalar_text kind.Ptr ++ rest, refl, l)

base_lexes : (b : Base) (rest : Bytes) (ts : Tokens) → IsSpellableBase b → Stops goes_on_name rest → Lexes rest ts → Lexes (base_text b ++ rest) (base_tokens b ++ ts)
base_lexes (base.Reg x) rest ts h stop l = name_lexes x rest ts h stop l
base_lexes (base.Variable x) rest ts h stop l = (x ++ rest, refl, name_lexes x rest ts h stop l)

mem_lexes : (k : Scalar) (p : Place) (rest : Bytes) (ts : Tokens) → IsSpellablePlace p → Lexes rest ts → Lexes (mem_text k p ++ rest) (access_tokens k p ++ ts)
unfolding keyword
mem_lexes k p rest ts h l =
    let b1 : Bytes = offset_text p.offset ++ (93 ∷ rest) in
    let t1 : Tokens = offset_tokens p.offset ++ (tok.Fixed s.CloseBracket ∷ ts) in
    let k1 = offset_lexes p.offset (93 ∷ rest) (tok.Fixed s.CloseBracket ∷ ts) h.1 refl (rest, refl, l) in
    let k2 = base_lexes p.base b1 t1 h.0 (offset_stops p.offset (93 ∷ rest) refl) k1 in
    let b2 : Bytes = base_text p.base ++ b1 in
    let t2 : Tokens = base_tokens p.base ++ t1 in
    let k3 : Lexes (62 ∷ 32 ∷ 91 ∷ b2) (tok.Fixed s.Greater ∷ tok.Fixed s.OpenBracket ∷ t2) = (32 ∷ 91 ∷ b2, refl, (b2, refl, k2)) in
    let b3 : Bytes = 62 ∷ 32 ∷ 91 ∷ b2 in
    let t3 : Tokens = tok.Fixed s.Greater ∷ tok.Fixed s.OpenBracket ∷ t2 in
    let k4 = less_lexes k b3 (tok.Fixed (scalar_symbol k) ∷ t3) (scalar_lexes k b3 t3 refl k3) in
    recut (mem_text k p ++ rest) (codes "MEM <" ++ (scalar_text k ++ b3)) (access_tokens k p ++ ts) (tok.Fixed s.Mem ∷ tok.Fixed s.Less ∷ tok.Fixed (scalar_symbol k) ∷ t3) (simp append_assoc) (simp append_assoc)
    (32 ∷ 60 ∷ (scalar_text k ++ b3), refl, k4)

-- ---- statements

assign_lexes : (x rest : Bytes) (ts : Tokens) → IsNameText x → Lexes rest ts → Lexes (x ++ (codes " = " ++ rest)) (tok.Name x ∷ tok.Fixed s.Assign ∷ ts)
assign_lexes x rest ts h l = name_lexes x (codes " = " ++ rest) (tok.Fixed s.Assign ∷ ts) h refl (32 ∷ rest, refl, l)

op_lexes : (o : Op) (rest : Bytes) (ts : Tokens) → Lexes rest ts → Lexes (op_text o ++ rest) (tok.Fixed (op_symbol o) ∷ ts)
op_lexes op.Add rest ts l = (32 ∷ rest, refl, l)
op_lexes op.Sub rest ts l = (32 ∷ rest, refl, l)
op_lexes op.Mul rest ts l = (32 ∷ rest, refl, l)
op_lexes op.Div rest ts l = (32 ∷ rest, refl, l)
op_lexes op.Rem rest ts l = (32 ∷ rest, refl, l)
op_lexes op.And rest ts l = (32 ∷ rest, refl, l)
op_lexes op.Or rest ts l = (32 ∷ rest, refl, l)
op_lexes op.Xor rest ts l = (32 ∷ rest, refl, l)
op_lexes op.Shl rest ts l = (32 ∷ rest, refl, l)
op_lexes op.Shr rest ts l = (32 ∷ rest, refl, l)

op_stops : (o : Op) (rest : Bytes) → Stops goes_on_name (op_text o ++ rest)
op_stops op.Add rest = refl
op_stops op.Sub rest = refl
op_stops op.Mul rest = refl
op_stops op.Div rest = refl
op_stops op.Rem rest = refl
op_stops op.And rest = refl
op_stops op.Or rest = refl
op_stops op.Xor rest = refl
op_stops op.Shl rest = refl
op_stops op.Shr rest = refl

cmp_lexes : (c : Cmp) (rest : Bytes) (ts : Tokens) → Lexes rest ts → Lexes (cmp_text c ++ rest) (tok.Fixed (cmp_symbol c) ∷ ts)
cmp_lexes cmp.Eq rest ts l = (32 ∷ rest, refl, l)
cmp_lexes cmp.Ne rest ts l = (32 ∷ rest, refl, l)
cmp_lexes cmp.Lt rest ts l = (32 ∷ rest, refl, l)
cmp_lexes cmp.Le rest ts l = (32 ∷ rest, refl, l)
cmp_lexes cmp.Gt rest ts l = (32 ∷ rest, refl, l)
cmp_lexes cmp.Ge rest ts l = (32 ∷ rest, refl, l)

cmp_stops : (c : Cmp) (rest : Bytes) → Stops goes_on_name (cmp_text c ++ rest)
cmp_stops cmp.Eq rest = refl
cmp_stops cmp.Ne rest = refl
cmp_stops cmp.Lt rest = refl
cmp_stops cmp.Le rest = refl
cmp_stops cmp.Gt rest = refl
cmp_stops cmp.Ge rest = refl

call_lexes : (f : Bytes) (xs : List Operand) (rest : Bytes) (ts : Tokens) → IsNameText f → AllOf IsSpellableOperand xs → Lexes rest ts
    → Lexes (f ++ (codes " (" ++ (separated_text operand_text xs ++ (codes ")" ++ rest)))) (tok.Name f ∷ tok.Fixed s.Open ∷ (separated_tokens operand_tokens xs ++ tok.Fixed s.Close ∷ ts))
call_lexes f xs rest ts h k l =
    let e1 : Lexes (codes ")" ++ rest) (tok.Fixed s.Close ∷ ts) = (rest, refl, l) in
    let e2 = operands_lex xs (codes ")" ++ rest) (tok.Fixed s.Close ∷ ts) k refl e1 in
    name_lexes f (codes " (" ++ (separated_text operand_text xs ++ (codes ")" ++ rest))) (tok.Fixed s.Open ∷ (separated_tokens operand_tokens xs ++ tok.Fixed s.Close ∷ ts)) h refl (separated_text operand_text xs ++ (codes ")" ++ rest), refl, e2)

result_lexes : (o : Option Scalar) (rest : Bytes) (ts : Tokens) → Lexes rest ts → Lexes (result_text o ++ (32 ∷ rest)) (result_token o ∷ ts)
unfolding keyword
result_lexes None rest ts l = (32 ∷ rest, refl, l)
result_lexes (Some k) rest ts l = scalar_lexes k (32 ∷ rest) ts refl l

less_result : (o : Option Scalar) (rest : Bytes) (ts : Tokens) → Lexes (result_text o ++ rest) ts → Lexes (60 ∷ (result_text o ++ rest)) (tok.Fixed s.Less ∷ ts)
less_result None rest ts l = (result_text None ++ rest, refl, l)
less_result (Some k) rest ts l = less_lexes k rest ts l

no_condition : (xs : List Scalar) → AllOf (λ k. Unit {0}) xs
no_condition [] = tt
no_condition (x ∷ xs) = (tt, no_condition xs)

signature_lexes : (g : Signature) (rest : Bytes) (ts : Tokens) → Lexes rest ts → Lexes (signature_text g ++ rest) (tok.Fixed s.Star ∷ (signature_tokens g ++ ts))
unfolding signature_text
signature_lexes g rest ts l =
    let b1 : Bytes = 41 ∷ 62 ∷ 32 ∷ rest in
    let t1 : Tokens = tok.Fixed s.Close ∷ tok.Fixed s.Greater ∷ ts in
    let k1 : Lexes b1 t1 = (62 ∷ 32 ∷ rest, refl, (32 ∷ rest, refl, l)) in
    let k2 = separated_lex scalar_text scalar_tokens (λ k. Unit {0}) (λ k rest ts h stop l. scalar_lexes k rest ts stop l) g.params b1 t1 (no_condition g.params) refl k1 in
    let b2 : Bytes = separated_text scalar_text g.params ++ b1 in
    let t2 : Tokens = separated_tokens scalar_tokens g.params ++ t1 in
    let k3 = result_lexes g.result (40 ∷ b2) (tok.Fixed s.Open ∷ t2) (b2, refl, k2) in
    let k4 = less_result g.result (32 ∷ 40 ∷ b2) (result_token g.result ∷ tok.Fixed s.Open ∷ t2) k3 in
    let b3 : Bytes = 60 ∷ (result_text g.result ++ (32 ∷ 40 ∷ b2)) in
    recut (signature_text g ++ rest) (42 ∷ b3) (tok.Fixed s.Star ∷ (signature_tokens g ++ ts)) (tok.Fixed s.Star ∷ tok.Fixed s.Less ∷ result_token g.result ∷ tok.Fixed s.Open ∷ t2) (simp append_assoc) (simp append_assoc)
    (b3, refl, k4)

simple_lexes : (profile : ℕ) (b : Stmt) (rest : Bytes) (ts : Tokens) → IsSpellableStmt profile b → Stops goes_on_name rest → Lexes rest ts → Lexes (simple_text b ++ rest) (simple_tokens b ++ ts)
unfolding keyword
simple_lexes profile (Copy x from) rest ts h stop l =
    recut (simple_text (Copy x from) ++ rest) (x ++ (codes " = " ++ (operand_text from ++ rest)))
    (simple_tokens (Copy x from) ++ ts) (tok.Name x ∷ tok.Fixed s.Assign ∷ (operand_tokens from ++ ts)) (simp append_assoc) refl
    (assign_lexes x (operand_text from ++ rest) (operand_tokens from ++ ts) h.0 (operand_lexes from rest ts h.1 stop l))
simple_lexes profile (Arith x a o c) rest ts h stop l =
    recut (simple_text (Arith x a o c) ++ rest) (x ++ (codes " = " ++ (operand_text a ++ (op_text o ++ (operand_text c ++ rest)))))
    (simple_tokens (Arith x a o c) ++ ts) (tok.Name x ∷ tok.Fixed s.Assign ∷ (operand_tokens a ++ (tok.Fixed (op_symbol o) ∷ (operand_tokens c ++ ts)))) (simp append_assoc) (simp append_assoc)
    (assign_lexes x (operand_text a ++ (op_text o ++ (operand_text c ++ rest))) (operand_tokens a ++ (tok.Fixed (op_symbol o) ∷ (operand_tokens c ++ ts))) h.0
    (operand_lexes a (op_text o ++ (operand_text c ++ rest)) (tok.Fixed (op_symbol o) ∷ (operand_tokens c ++ ts)) h.1 (op_stops o (operand_text c ++ rest))
    (op_lexes o (operand_text c ++ rest) (operand_tokens c ++ ts) (operand_lexes c rest ts h.2 stop l))))
simple_lexes profile (Compare x a o c) rest ts h stop l =
    recut (simple_text (Compare x a o c) ++ rest) (x ++ (codes " = " ++ (operand_text a ++ (cmp_text o ++ (operand_text c ++ rest)))))
    (simple_tokens (Compare x a o c) ++ ts) (tok.Name x ∷ tok.Fixed s.Assign ∷ (operand_tokens a ++ (tok.Fixed (cmp_symbol o) ∷ (operand_tokens c ++ ts)))) (simp append_assoc) (simp append_assoc)
    (assign_lexes x (operand_text a ++ (cmp_text o ++ (operand_text c ++ rest))) (operand_tokens a ++ (tok.Fixed (cmp_symbol o) ∷ (operand_tokens c ++ ts))) h.0
    (operand_lexes a (cmp_text o ++ (operand_text c ++ rest)) (tok.Fixed (cmp_symbol o) ∷ (operand_tokens c ++ ts)) h.1 (cmp_stops o (operand_text c ++ rest))
    (cmp_lexes o (operand_text c ++ rest) (operand_tokens c ++ ts) (operand_lexes c rest ts h.2 stop l))))
simple_lexes profile (Convert x k from) rest ts h stop l =
    let b1 : Bytes = operand_text from ++ rest in
    let t1 : Tokens = operand_tokens from ++ ts in
    let k1 : Lexes (41 ∷ 32 ∷ b1) (tok.Fixed s.Close ∷ t1) = (32 ∷ b1, refl, operand_lexes from rest ts h.1 stop l) in
    let k2 = scalar_lexes k (41 ∷ 32 ∷ b1) (tok.Fixed s.Close ∷ t1) refl k1 in
    let b2 : Bytes = scalar_text k ++ (41 ∷ 32 ∷ b1) in
    let t2 : Tokens = tok.Fixed (scalar_symbol k) ∷ tok.Fixed s.Close ∷ t1 in
    recut (simple_text (Convert x k from) ++ rest) (x ++ (codes " = " ++ (40 ∷ b2))) (simple_tokens (Convert x k from) ++ ts) (tok.Name x ∷ tok.Fixed s.Assign ∷ tok.Fixed s.Open ∷ t2) (simp append_assoc) refl
    (assign_lexes x (40 ∷ b2) (tok.Fixed s.Open ∷ t2) h.0 (b2, refl, k2))
simple_lexes profile (Load x k place) rest ts h stop l =
    recut (simple_text (Load x k place) ++ rest) (x ++ (codes " = " ++ (mem_text k place ++ rest))) (simple_tokens (Load x k place) ++ ts) (tok.Name x ∷ tok.Fixed s.Assign ∷ (access_tokens k place ++ ts)) (simp append_assoc) refl
    (assign_lexes x (mem_text k place ++ rest) (access_tokens k place ++ ts) h.0 (mem_lexes k place rest ts h.1 l))
simple_lexes profile (Store k place from) rest ts h stop l =
    let b1 : Bytes = codes " = " ++ (operand_text from ++ rest) in
    let t1 : Tokens = tok.Fixed s.Assign ∷ (operand_tokens from ++ ts) in
    let k1 : Lexes b1 t1 = (32 ∷ (operand_text from ++ rest), refl, operand_lexes from rest ts h.1 stop l) in
    recut (simple_text (Store k place from) ++ rest) (mem_text k place ++ b1) (simple_tokens (Store k place from) ++ ts) (access_tokens k place ++ t1) (simp append_assoc) (simp append_assoc)
    (mem_lexes k place b1 t1 h.0 k1)
simple_lexes profile (Call None f xs) rest ts h stop l =
    recut (simple_text (Call None f xs) ++ rest) (f ++ (codes " (" ++ (separated_text operand_text xs ++ (codes ")" ++ rest))))
    (simple_tokens (Call None f xs) ++ ts) (tok.Name f ∷ tok.Fixed s.Open ∷ (separated_tokens operand_tokens xs ++ tok.Fixed s.Close ∷ ts)) (simp append_assoc) (simp append_assoc)
    (call_lexes f xs rest ts h.1 h.2 l)
simple_lexes profile (Call (Some x) f xs) rest ts h stop l =
    recut (simple_text (Call (Some x) f xs) ++ rest) (x ++ (codes " = " ++ (f ++ (codes " (" ++ (separated_text operand_text xs ++ (codes ")" ++ rest))))))
    (simple_tokens (Call (Some x) f xs) ++ ts) (tok.Name x ∷ tok.Fixed s.Assign ∷ tok.Name f ∷ tok.Fixed s.Open ∷ (separated_tokens operand_tokens xs ++ tok.Fixed s.Close ∷ ts)) (simp append_assoc) (simp append_assoc)
    (assign_lexes x (f ++ (codes " (" ++ (separated_text operand_text xs ++ (codes ")" ++ rest)))) (tok.Name f ∷ tok.Fixed s.Open ∷ (separated_tokens operand_tokens xs ++ tok.Fixed s.Close ∷ ts)) h.0 (call_lexes f xs rest ts h.1 h.2 l))
simple_lexes profile (Indirect None g x xs) rest ts h stop l =
    let b1 : Bytes = x ++ (codes " (" ++ (separated_text operand_text xs ++ (codes ")" ++ rest))) in
    let t1 : Tokens = tok.Name x ∷ tok.Fixed s.Open ∷ (separated_tokens operand_tokens xs ++ tok.Fixed s.Close ∷ ts) in
    recut (simple_text (Indirect None g x xs) ++ rest) (signature_text g ++ b1)
    (simple_tokens (Indirect None g x xs) ++ ts) (tok.Fixed s.Star ∷ (signature_tokens g ++ t1)) (simp append_assoc) (simp append_assoc)
    (signature_lexes g b1 t1 (call_lexes x xs rest ts h.1 h.2 l))
simple_lexes profile (Indirect (Some x) g y xs) rest ts h stop l =
    let b1 : Bytes = y ++ (codes " (" ++ (separated_text operand_text xs ++ (codes ")" ++ rest))) in
    let t1 : Tokens = tok.Name y ∷ tok.Fixed s.Open ∷ (separated_tokens operand_tokens xs ++ tok.Fixed s.Close ∷ ts) in
    recut (simple_text (Indirect (Some x) g y xs) ++ rest) (x ++ (codes " = " ++ (signature_text g ++ b1)))
    (simple_tokens (Indirect (Some x) g y xs) ++ ts) (tok.Name x ∷ tok.Fixed s.Assign ∷ tok.Fixed s.Star ∷ (signature_tokens g ++ t1)) (simp append_assoc) (simp append_assoc)
    (assign_lexes x (signature_text g ++ b1) (tok.Fixed s.Star ∷ (signature_tokens g ++ t1)) h.0 (signature_lexes g b1 t1 (call_lexes y xs rest ts h.1 h.2 l)))
simple_lexes profile (Get x) rest ts h stop l =
    recut (simple_text (Get x) ++ rest) (x ++ (codes " = " ++ (codes "getint ()" ++ rest))) (simple_tokens (Get x) ++ ts) (simple_tokens (Get x) ++ ts) (simp append_assoc) refl
    (assign_lexes x (codes "getint ()" ++ rest) (tok.Fixed s.Getint ∷ tok.Fixed s.Open ∷ tok.Fixed s.Close ∷ ts) h (32 ∷ 40 ∷ 41 ∷ rest, refl, (41 ∷ rest, refl, (rest, refl, l))))
simple_lexes profile (Put from) rest ts h stop l =
    recut (simple_text (Put from) ++ rest) (codes "putint (" ++ (operand_text from ++ (codes ")" ++ rest)))
    (simple_tokens (Put from) ++ ts) (tok.Fixed s.Putint ∷ tok.Fixed s.Open ∷ (operand_tokens from ++ tok.Fixed s.Close ∷ ts)) (simp append_assoc) (simp append_assoc)
    (codes " (" ++ (operand_text from ++ (codes ")" ++ rest)), refl, (operand_text from ++ (codes ")" ++ rest), refl, operand_lexes from (codes ")" ++ rest) (tok.Fixed s.Close ∷ ts) h refl (rest, refl, l)))
simple_lexes profile Abort rest ts h stop l = (32 ∷ 40 ∷ 41 ∷ rest, refl, (41 ∷ rest, refl, (rest, refl, l)))

statement_lexes : (profile : ℕ) (b : Stmt) (rest : Bytes) (ts : Tokens) → IsSpellableStmt profile b → Lexes rest ts → Lexes (statement_text b ++ rest) (statement_tokens b ++ ts)
statement_lexes profile b rest ts h l =
    recut (statement_text b ++ rest) (codes "    " ++ (simple_text b ++ (59 ∷ 10 ∷ rest))) (statement_tokens b ++ ts) (simple_tokens b ++ tok.Fixed s.Semi ∷ ts) (simp append_assoc) (simp append_assoc)
    (simple_lexes profile b (59 ∷ 10 ∷ rest) (tok.Fixed s.Semi ∷ ts) h refl (10 ∷ rest, refl, l))

-- ---- ends and blocks

-- the byte that follows makes no mark of two bytes with the last one
target_lexes : (n : ℕ) (rest : Bytes) (ts : Tokens) → n < 2 ^ 64 → token_at (62 ∷ rest) ≡ Some (tok.Fixed s.Greater, rest) → Lexes rest ts → Lexes (target_text n ++ rest) (target_tokens n ++ ts)
unfolding keyword
target_lexes n rest ts h apart l =
    let number = number_lexes n (62 ∷ rest) (tok.Fixed s.Greater ∷ ts) h refl (rest, apart, l) in
    let digits : Bytes = (decimal n ++ 62 ∷ []) ++ rest in (
      98 ∷ 98 ∷ 32 ∷ digits,
      refl,
      (32 ∷ digits, refl, recut digits (decimal n ++ (62 ∷ rest)) (tok.Number n ∷ tok.Fixed s.Greater ∷ ts) (tok.Number n ∷ tok.Fixed s.Greater ∷ ts) (append_assoc (decimal n) (62 ∷ []) rest) refl number),
    )

goto_lexes : (n : ℕ) (rest : Bytes) (ts : Tokens) → n < 2 ^ 64 → Lexes rest ts → Lexes (goto_text n ++ rest) (goto_tokens n ++ ts)
unfolding keyword
goto_lexes n rest ts h l =
    let target = target_lexes n (59 ∷ rest) (tok.Fixed s.Semi ∷ ts) h refl (rest, refl, l) in (
      32 ∷ ((target_text n ++ 59 ∷ []) ++ rest),
      refl,
      recut ((target_text n ++ 59 ∷ []) ++ rest) (target_text n ++ (59 ∷ rest)) (target_tokens n ++ tok.Fixed s.Semi ∷ ts) (target_tokens n ++ tok.Fixed s.Semi ∷ ts) (append_assoc (target_text n) (59 ∷ []) rest) refl target,
    )

case_lexes : (c : Case) (rest : Bytes) (ts : Tokens) → IsSpellableCase c → Lexes rest ts → Lexes (case_text c ++ rest) (case_tokens c ++ ts)
unfolding keyword
case_lexes c rest ts h l =
    let k1 = target_lexes c.target (59 ∷ 32 ∷ rest) (tok.Fixed s.Semi ∷ ts) h.1 refl (32 ∷ rest, refl, l) in
    let b1 : Bytes = target_text c.target ++ (59 ∷ 32 ∷ rest) in
    let t1 : Tokens = target_tokens c.target ++ (tok.Fixed s.Semi ∷ ts) in
    let k2 : Lexes (58 ∷ 32 ∷ b1) (tok.Fixed s.Colon ∷ t1) = (32 ∷ b1, refl, k1) in
    let k3 = signed_lexes c.value (58 ∷ 32 ∷ b1) (tok.Fixed s.Colon ∷ t1) h.0 refl k2 in
    let b3 : Bytes = signed_decimal c.value ++ (58 ∷ 32 ∷ b1) in
    let t3 : Tokens = signed_tokens c.value ++ (tok.Fixed s.Colon ∷ t1) in
    recut (case_text c ++ rest) (codes "case " ++ b3) (case_tokens c ++ ts) (tok.Fixed s.Case ∷ t3) (simp append_assoc) (simp append_assoc) (32 ∷ b3, refl, k3)

switch_lexes : (on : Operand) (cases : List Case) (other : ℕ) (rest : Bytes) (ts : Tokens) → IsSpellableOperand on → AllOf IsSpellableCase cases → other < 2 ^ 64 → Lexes rest ts → Lexes (end_text (Switch on cases other) ++ rest) (end_tokens (Switch on cases other) ++ ts)
unfolding keyword
switch_lexes on cases other rest ts ho hc hn l =
    let k0 : Lexes (59 ∷ 32 ∷ 125 ∷ rest) (tok.Fixed s.Semi ∷ tok.Fixed s.CloseBrace ∷ ts) = (32 ∷ 125 ∷ rest, refl, (rest, refl, l)) in
    let k1 = target_lexes other (59 ∷ 32 ∷ 125 ∷ rest) (tok.Fixed s.Semi ∷ tok.Fixed s.CloseBrace ∷ ts) hn refl k0 in
    let b1 : Bytes = target_text other ++ (59 ∷ 32 ∷ 125 ∷ rest) in
    let t1 : Tokens = target_tokens other ++ (tok.Fixed s.Semi ∷ tok.Fixed s.CloseBrace ∷ ts) in
    let k2 : Lexes (codes "default: " ++ b1) (tok.Fixed s.Default ∷ tok.Fixed s.Colon ∷ t1) = (58 ∷ 32 ∷ b1, refl, (32 ∷ b1, refl, k1)) in
    let b2 : Bytes = codes "default: " ++ b1 in
    let t2 : Tokens = tok.Fixed s.Default ∷ tok.Fixed s.Colon ∷ t1 in
    let k3 = lines_lex case_text case_tokens IsSpellableCase case_lexes cases b2 t2 hc k2 in
    let b3 : Bytes = flat_map case_text cases ++ b2 in
    let t3 : Tokens = flat_map case_tokens cases ++ t2 in
    let k4 : Lexes (codes ") { " ++ b3) (tok.Fixed s.Close ∷ tok.Fixed s.OpenBrace ∷ t3) = (32 ∷ 123 ∷ 32 ∷ b3, refl, (32 ∷ b3, refl, k3)) in
    let k5 = operand_lexes on (codes ") { " ++ b3) (tok.Fixed s.Close ∷ tok.Fixed s.OpenBrace ∷ t3) ho refl k4 in
    let b5 : Bytes = operand_text on ++ (codes ") { " ++ b3) in
    let t5 : Tokens = operand_tokens on ++ (tok.Fixed s.Close ∷ tok.Fixed s.OpenBrace ∷ t3) in
    recut (end_text (Switch on cases other) ++ rest) (codes "switch (" ++ b5) (end_tokens (Switch on cases other) ++ ts) (tok.Fixed s.Switch ∷ tok.Fixed s.Open ∷ t5) (simp append_assoc) (simp append_assoc) (32 ∷ 40 ∷ b5, refl, (b5, refl, k5))

end_lexes : (d : End) (rest : Bytes) (ts : Tokens) → IsSpellableEnd d → Lexes rest ts → Lexes (end_text d ++ rest) (end_tokens d ++ ts)
unfolding keyword branches_text
end_lexes (Goto n) rest ts h l = goto_lexes n rest ts h l
end_lexes (If a c b first second) rest ts h l =
    let k1 = goto_lexes second rest ts h.3 l in
    let b1 : Bytes = goto_text second ++ rest in
    let t1 : Tokens = goto_tokens second ++ ts in
    let k2 : Lexes (codes " else " ++ b1) (tok.Fixed s.Else ∷ t1) = (32 ∷ b1, refl, k1) in
    let k3 = goto_lexes first (codes " else " ++ b1) (tok.Fixed s.Else ∷ t1) h.2 k2 in
    let b3 : Bytes = goto_text first ++ (codes " else " ++ b1) in
    let t3 : Tokens = goto_tokens first ++ (tok.Fixed s.Else ∷ t1) in
    let k4 : Lexes (codes ") " ++ b3) (tok.Fixed s.Close ∷ t3) = (32 ∷ b3, refl, k3) in
    let k5 = operand_lexes b (codes ") " ++ b3) (tok.Fixed s.Close ∷ t3) h.1 refl k4 in
    let b5 : Bytes = operand_text b ++ (codes ") " ++ b3) in
    let t5 : Tokens = operand_tokens b ++ (tok.Fixed s.Close ∷ t3) in
    let k6 = operand_lexes a (cmp_text c ++ b5) (tok.Fixed (cmp_symbol c) ∷ t5) h.0 (cmp_stops c b5) (cmp_lexes c b5 t5 k5) in
    let b6 : Bytes = operand_text a ++ (cmp_text c ++ b5) in
    let t6 : Tokens = operand_tokens a ++ (tok.Fixed (cmp_symbol c) ∷ t5) in
    recut (end_text (If a c b first second) ++ rest) (codes "if (" ++ b6) (end_tokens (If a c b first second) ++ ts) (tok.Fixed s.If ∷ tok.Fixed s.Open ∷ t6) (simp append_assoc) (simp append_assoc)
    (32 ∷ 40 ∷ b6, refl, (b6, refl, k6))
end_lexes (Switch on cases other) rest ts h l = switch_lexes on cases other rest ts h.0 h.1 h.2 l
end_lexes (Return None) rest ts h l = (59 ∷ rest, refl, (rest, refl, l))
end_lexes (Return (Some o)) rest ts h l =
    recut (end_text (Return (Some o)) ++ rest) (codes "return " ++ (operand_text o ++ (59 ∷ rest))) (end_tokens (Return (Some o)) ++ ts) (tok.Fixed s.Return ∷ (operand_tokens o ++ tok.Fixed s.Semi ∷ ts)) (simp append_assoc) (simp append_assoc)
    (32 ∷ (operand_text o ++ (59 ∷ rest)), refl, operand_lexes o (59 ∷ rest) (tok.Fixed s.Semi ∷ ts) h refl (rest, refl, l))

block_lexes : (profile : ℕ) (b : Block) (rest : Bytes) (ts : Tokens) → IsSpellableBlock profile b → Lexes rest ts → Lexes (block_text b ++ rest) (block_tokens b ++ ts)
block_lexes profile b rest ts h l =
    let k1 = end_lexes b.end (10 ∷ rest) ts h.2 l in
    let b1 : Bytes = codes "    " ++ (end_text b.end ++ (10 ∷ rest)) in
    let t1 : Tokens = end_tokens b.end ++ ts in
    let k2 = lines_lex statement_text statement_tokens (IsSpellableStmt profile) (statement_lexes profile) b.body b1 t1 h.1 k1 in
    let b2 : Bytes = flat_map statement_text b.body ++ b1 in
    let t2 : Tokens = flat_map statement_tokens b.body ++ t1 in
    let k3 = target_lexes b.label (58 ∷ 10 ∷ b2) (tok.Fixed s.Colon ∷ t2) h.0 refl (10 ∷ b2, refl, k2) in
    recut (block_text b ++ rest) (codes "  " ++ (target_text b.label ++ (58 ∷ 10 ∷ b2))) (block_tokens b ++ ts) (target_tokens b.label ++ (tok.Fixed s.Colon ∷ t2)) (simp append_assoc) (simp append_assoc) k3

-- ---- declarations

shape_lexes : (f : Shape) (rest : Bytes) (ts : Tokens) → IsSpellableShape f → Lexes rest ts → Lexes (shape_text f ++ (32 ∷ rest)) (shape_tokens f ++ ts)
unfolding keyword
shape_lexes (Plain k) rest ts h l = scalar_lexes k (32 ∷ rest) ts refl l
shape_lexes (Named x) rest ts h l = (32 ∷ (x ++ (32 ∷ rest)), refl, name_lexes x (32 ∷ rest) ts h refl l)

length_lexes : (n : Option ℕ) (rest : Bytes) (ts : Tokens) → IsSpellableLength n → Lexes rest ts → Lexes (length_text n ++ rest) (length_tokens n ++ ts)
length_lexes None rest ts h l = l
length_lexes (Some n) rest ts h l =
    let k = number_lexes n (93 ∷ rest) (tok.Fixed s.CloseBracket ∷ ts) h refl (rest, refl, l) in
    ((decimal n ++ 93 ∷ []) ++ rest, refl, recut ((decimal n ++ 93 ∷ []) ++ rest) (decimal n ++ (93 ∷ rest)) (tok.Number n ∷ tok.Fixed s.CloseBracket ∷ ts) (tok.Number n ∷ tok.Fixed s.CloseBracket ∷ ts) (append_assoc (decimal n) (93 ∷ []) rest) refl k)

length_stops : (n : Option ℕ) (rest : Bytes) → Stops goes_on_name rest → Stops goes_on_name (length_text n ++ rest)
length_stops None rest stop = stop
length_stops (Some n) rest stop = refl

decl_lexes : (d : Decl) (rest : Bytes) (ts : Tokens) → IsSpellableDecl d → Stops goes_on_name rest → Lexes rest ts → Lexes (decl_text d ++ rest) (decl_tokens d ++ ts)
decl_lexes d rest ts h stop l =
    let k1 = length_lexes d.length rest ts h.2 l in
    let b1 : Bytes = length_text d.length ++ rest in
    let t1 : Tokens = length_tokens d.length ++ ts in
    let k2 = name_lexes d.name b1 t1 h.0 (length_stops d.length rest stop) k1 in
    let k3 = shape_lexes d.shape (d.name ++ b1) (tok.Name d.name ∷ t1) h.1 k2 in
    recut (decl_text d ++ rest) (shape_text d.shape ++ (32 ∷ (d.name ++ b1))) (decl_tokens d ++ ts) (shape_tokens d.shape ++ (tok.Name d.name ∷ t1)) (simp append_assoc) (simp append_assoc) k3

field_lexes : (d : Decl) (rest : Bytes) (ts : Tokens) → IsSpellableDecl d → Lexes rest ts → Lexes (field_text d ++ rest) (field_tokens d ++ ts)
field_lexes d rest ts h l =
    recut (field_text d ++ rest) (codes "  " ++ (decl_text d ++ (59 ∷ 10 ∷ rest))) (field_tokens d ++ ts) (decl_tokens d ++ (tok.Fixed s.Semi ∷ ts)) (simp append_assoc) (simp append_assoc)
    (decl_lexes d (59 ∷ 10 ∷ rest) (tok.Fixed s.Semi ∷ ts) h refl (10 ∷ rest, refl, l))

struct_lexes : (x : StructDef) (rest : Bytes) (ts : Tokens) → IsSpellableStruct x → Lexes rest ts → Lexes (struct_text x ++ rest) (struct_tokens x ++ ts)
unfolding keyword
struct_lexes x rest ts h l =
    let b0 : Bytes = 125 ∷ 59 ∷ 10 ∷ rest in
    let t0 : Tokens = tok.Fixed s.CloseBrace ∷ tok.Fixed s.Semi ∷ ts in
    let k0 : Lexes b0 t0 = (59 ∷ 10 ∷ rest, refl, (10 ∷ rest, refl, l)) in
    let k1 = lines_lex field_text field_tokens IsSpellableDecl field_lexes x.fields b0 t0 h.1 k0 in
    let b1 : Bytes = flat_map field_text x.fields ++ b0 in
    let t1 : Tokens = flat_map field_tokens x.fields ++ t0 in
    let k2 = name_lexes x.name (32 ∷ 123 ∷ 10 ∷ b1) (tok.Fixed s.OpenBrace ∷ t1) h.0 refl (10 ∷ b1, refl, k1) in
    let b2 : Bytes = x.name ++ (32 ∷ 123 ∷ 10 ∷ b1) in
    recut (struct_text x ++ rest) (codes "struct " ++ b2) (struct_tokens x ++ ts) (tok.Fixed s.Struct ∷ tok.Name x.name ∷ tok.Fixed s.OpenBrace ∷ t1) (simp append_assoc) (simp append_assoc) (32 ∷ b2, refl, k2)

const_lexes : (b : Bool) (rest : Bytes) (ts : Tokens) → Lexes rest ts → Lexes (const_text b ++ rest) (const_tokens b ++ ts)
unfolding keyword
const_lexes false rest ts l = l
const_lexes true rest ts l = (32 ∷ rest, refl, l)

items_lexes : (xs : List Operand) (rest : Bytes) (ts : Tokens) → AllOf IsSpellableItem xs → Lexes rest ts → Lexes (items_text xs ++ rest) (items_tokens xs ++ ts)
items_lexes [] rest ts h l = l
items_lexes (x ∷ xs) rest ts h l =
    let k1 = separated_lex operand_text operand_tokens IsSpellableItem item_lexes (x ∷ xs) (125 ∷ rest) (tok.Fixed s.CloseBrace ∷ ts) h refl (rest, refl, l) in
    let b1 : Bytes = separated_text operand_text (x ∷ xs) ++ (125 ∷ rest) in
    let t1 : Tokens = separated_tokens operand_tokens (x ∷ xs) ++ (tok.Fixed s.CloseBrace ∷ ts) in
    recut (items_text (x ∷ xs) ++ rest) (codes " = {" ++ b1) (items_tokens (x ∷ xs) ++ ts) (tok.Fixed s.Assign ∷ tok.Fixed s.OpenBrace ∷ t1) (simp append_assoc) (simp append_assoc) (32 ∷ 123 ∷ b1, refl, (b1, refl, k1))

items_stop : (xs : List Operand) (rest : Bytes) → Stops goes_on_name rest → Stops goes_on_name (items_text xs ++ rest)
items_stop [] rest stop = stop
items_stop (x ∷ xs) rest stop = refl

global_lexes : (g : Global) (rest : Bytes) (ts : Tokens) → IsSpellableGlobal g → Lexes rest ts → Lexes (global_text g ++ rest) (global_tokens g ++ ts)
unfolding keyword
global_lexes g rest ts h l =
    let b0 : Bytes = 59 ∷ 10 ∷ rest in
    let t0 : Tokens = tok.Fixed s.Semi ∷ ts in
    let k1 = items_lexes g.items b0 t0 h.1 (10 ∷ rest, refl, l) in
    let b1 : Bytes = items_text g.items ++ b0 in
    let t1 : Tokens = items_tokens g.items ++ t0 in
    let k2 = decl_lexes g.decl b1 t1 h.0 (items_stop g.items b0 refl) k1 in
    let b2 : Bytes = decl_text g.decl ++ b1 in
    let t2 : Tokens = decl_tokens g.decl ++ t1 in
    let k3 = const_lexes g.constant b2 t2 k2 in
    let b3 : Bytes = const_text g.constant ++ b2 in
    let t3 : Tokens = const_tokens g.constant ++ t2 in
    recut (global_text g ++ rest) (codes "global " ++ b3) (global_tokens g ++ ts) (tok.Fixed s.Global ∷ t3) (simp append_assoc) (simp append_assoc) (32 ∷ b3, refl, k3)

-- ---- functions and programs

register_lexes : (r : Register) (rest : Bytes) (ts : Tokens) → IsSpellableRegister r → Stops goes_on_name rest → Lexes rest ts → Lexes (register_text r ++ rest) (register_tokens r ++ ts)
register_lexes r rest ts h stop l =
    recut (register_text r ++ rest) (scalar_text r.scalar ++ (32 ∷ (r.name ++ rest))) (register_tokens r ++ ts) (register_tokens r ++ ts) (simp append_assoc) refl
    (scalar_lexes r.scalar (32 ∷ (r.name ++ rest)) (tok.Name r.name ∷ ts) refl (name_lexes r.name rest ts h stop l))

register_line_lexes : (r : Register) (rest : Bytes) (ts : Tokens) → IsSpellableRegister r → Lexes rest ts → Lexes (register_line r ++ rest) (declared_tokens r ++ ts)
register_line_lexes r rest ts h l =
    recut (register_line r ++ rest) (codes "  " ++ (register_text r ++ (59 ∷ 10 ∷ rest))) (declared_tokens r ++ ts) (register_tokens r ++ (tok.Fixed s.Semi ∷ ts)) (simp append_assoc) refl
    (register_lexes r (59 ∷ 10 ∷ rest) (tok.Fixed s.Semi ∷ ts) h refl (10 ∷ rest, refl, l))

local_lexes : (d : Decl) (rest : Bytes) (ts : Tokens) → IsSpellableDecl d → Lexes rest ts → Lexes (local_text d ++ rest) (local_tokens d ++ ts)
unfolding keyword
local_lexes d rest ts h l =
    let k1 = decl_lexes d (59 ∷ 10 ∷ rest) (tok.Fixed s.Semi ∷ ts) h refl (10 ∷ rest, refl, l) in
    let b1 : Bytes = decl_text d ++ (59 ∷ 10 ∷ rest) in
    let t1 : Tokens = decl_tokens d ++ (tok.Fixed s.Semi ∷ ts) in
    recut (local_text d ++ rest) (codes "  local " ++ b1) (local_tokens d ++ ts) (tok.Fixed s.Local ∷ t1) (simp append_assoc) (simp append_assoc) (32 ∷ b1, refl, k1)

function_lexes : (profile : ℕ) (f : Function) (rest : Bytes) (ts : Tokens) → IsSpellableFunction profile f → Lexes rest ts → Lexes (function_text f ++ rest) (function_tokens f ++ ts)
function_lexes profile f rest ts h l =
    let b0 : Bytes = 125 ∷ 10 ∷ rest in
    let t0 : Tokens = tok.Fixed s.CloseBrace ∷ ts in
    let k0 : Lexes b0 t0 = (10 ∷ rest, refl, l) in
    let k1 = lines_lex block_text block_tokens (IsSpellableBlock profile) (block_lexes profile) f.blocks b0 t0 h.blocks k0 in
    let b1 : Bytes = flat_map block_text f.blocks ++ b0 in
    let t1 : Tokens = flat_map block_tokens f.blocks ++ t0 in
    let k2 = lines_lex register_line declared_tokens IsSpellableRegister register_line_lexes f.registers b1 t1 h.registers k1 in
    let b2 : Bytes = flat_map register_line f.registers ++ b1 in
    let t2 : Tokens = flat_map declared_tokens f.registers ++ t1 in
    let k3 = lines_lex local_text local_tokens IsSpellableDecl local_lexes f.locals b2 t2 h.locals k2 in
    let b3 : Bytes = flat_map local_text f.locals ++ b2 in
    let t3 : Tokens = flat_map local_tokens f.locals ++ t2 in
    let b4 : Bytes = 41 ∷ 32 ∷ 123 ∷ 10 ∷ b3 in
    let t4 : Tokens = tok.Fixed s.Close ∷ tok.Fixed s.OpenBrace ∷ t3 in
    let k4 : Lexes b4 t4 = (32 ∷ 123 ∷ 10 ∷ b3, refl, (10 ∷ b3, refl, k3)) in
    let k5 = separated_lex register_text register_tokens IsSpellableRegister register_lexes f.params b4 t4 h.params refl k4 in
    let b5 : Bytes = separated_text register_text f.params ++ b4 in
    let t5 : Tokens = separated_tokens register_tokens f.params ++ t4 in
    let k6 = name_lexes f.name (32 ∷ 40 ∷ b5) (tok.Fixed s.Open ∷ t5) h.name refl (b5, refl, k5) in
    let k7 = result_lexes f.result (f.name ++ (32 ∷ 40 ∷ b5)) (tok.Name f.name ∷ tok.Fixed s.Open ∷ t5) k6 in
    recut (function_text f ++ rest) (result_text f.result ++ (32 ∷ (f.name ++ (32 ∷ 40 ∷ b5)))) (function_tokens f ++ ts) (result_token f.result ∷ tok.Name f.name ∷ tok.Fixed s.Open ∷ t5) (simp append_assoc) (simp append_assoc) k7

profile_small : (n : ℕ) → IsProfile n → n < 2 ^ 64
profile_small n h = elim h [ inl e ↦ rw e (lit< tt) | inr e ↦ rw e (lit< tt) ]

pub canon_lexes : (p : Program) → IsSpellable p → Lexes (canon p) (program_tokens p)
unfolding keyword canon header_text
canon_lexes p h =
    let k1 = lines_lex function_text function_tokens (IsSpellableFunction p.profile) (function_lexes p.profile) p.functions [] [] h.functions refl in
    let b1 : Bytes = flat_map function_text p.functions in
    let t1 : Tokens = flat_map function_tokens p.functions in
    let k2 : Lexes b1 t1 = recut b1 (b1 ++ []) t1 (t1 ++ []) (sym (append-nil b1)) (sym (append-nil t1)) k1 in
    let k3 = lines_lex global_text global_tokens IsSpellableGlobal global_lexes p.globals b1 t1 h.globals k2 in
    let b3 : Bytes = flat_map global_text p.globals ++ b1 in
    let t3 : Tokens = flat_map global_tokens p.globals ++ t1 in
    let k4 = lines_lex struct_text struct_tokens IsSpellableStruct struct_lexes p.structs b3 t3 h.structs k3 in
    let b4 : Bytes = flat_map struct_text p.structs ++ b3 in
    let t4 : Tokens = flat_map struct_tokens p.structs ++ t3 in
    let k5 = number_lexes p.profile (59 ∷ 10 ∷ b4) (tok.Fixed s.Semi ∷ t4) (profile_small p.profile h.profile) refl (10 ∷ b4, refl, k4) in
    let b5 : Bytes = decimal p.profile ++ (59 ∷ 10 ∷ b4) in
    recut (canon p) (codes "gimple " ++ b5) (program_tokens p) (tok.Fixed s.Gimple ∷ tok.Number p.profile ∷ tok.Fixed s.Semi ∷ t4) (simp append_assoc) refl (32 ∷ b5, refl, k5)
