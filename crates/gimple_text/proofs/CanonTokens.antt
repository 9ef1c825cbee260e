-- The tokens of the canonical text.
use Rattle.std.specs.Prelude.{ℕ, zero, suc, List, [], ◌∷◌, ◌++◌, Option, Some, None, ℤ, pos, negsuc}
use Rattle.std.specs.List.{flat_map}
use Rattle.gimple_ir.specs.declared.operand.Operand.{Operand}
use Rattle.gimple_ir.specs.declared.operand.Operand.TheVariants.{Reg, Number, Null, Address}
use Rattle.gimple_ir.specs.declared.operand.Place.{Place}
use Rattle.gimple_ir.specs.declared.scalar.Scalar.{Scalar}
use Rattle.gimple_ir.specs.declared.statement.Signature.{Signature}
use Rattle.gimple_ir.specs.declared.statement.Stmt.{Stmt}
use Rattle.gimple_ir.specs.declared.statement.Stmt.TheVariants.{Copy, Arith, Compare, Convert, Load, Store, Call, Indirect, Get, Put, Abort}
use Rattle.gimple_ir.specs.declared.block.Case.{Case}
use Rattle.gimple_ir.specs.declared.block.End.{End}
use Rattle.gimple_ir.specs.declared.block.End.TheVariants.{Goto, If, Switch, Return}
use Rattle.gimple_ir.specs.declared.block.Block.{Block}
use Rattle.gimple_ir.specs.declared.declarations.Decl.{Decl}
use Rattle.gimple_ir.specs.declared.declarations.StructDef.{StructDef}
use Rattle.gimple_ir.specs.declared.declarations.Global.{Global}
use Rattle.gimple_ir.specs.declared.declarations.Register.{Register}
use Rattle.gimple_ir.specs.declared.program.Function.{Function}
use Rattle.gimple_ir.specs.declared.program.Program.{Program}
use Rattle.gimple_tokens.specs.declared.token.Symbol.TheVariants as s
use Rattle.gimple_tokens.specs.declared.token.Token.{Token}
use Rattle.gimple_tokens.specs.declared.token.Token.TheVariants as tok
use Rattle.token_law.specs.Reading.{Tokens}
use Rattle.gimple_grammar.specs.Grammar.{scalar_symbol, op_symbol, cmp_symbol, base_tokens, mem_tokens, to_tokens, target_tokens, goto_tokens, decl_tokens, const_tokens}

abbrev pub signed_tokens : ℤ → Tokens
signed_tokens (pos n) = tok.Number n ∷ []
signed_tokens (negsuc n) = tok.Fixed s.Minus ∷ tok.Number (suc n) ∷ []

abbrev pub offset_tokens : ℤ → Tokens
offset_tokens (pos zero) = []
offset_tokens (pos (suc n)) = tok.Fixed s.At ∷ tok.Number (suc n) ∷ []
offset_tokens (negsuc n) = tok.Fixed s.At ∷ tok.Fixed s.Minus ∷ tok.Number (suc n) ∷ []

abbrev pub operand_tokens : Operand → Tokens
operand_tokens (Reg x) = tok.Name x ∷ []
operand_tokens (Number z) = signed_tokens z
operand_tokens Null = tok.Fixed s.Null ∷ []
operand_tokens (Address x z) = tok.Fixed s.Ampersand ∷ tok.Name x ∷ offset_tokens z

abbrev pub more_tokens : {A : Type 0} → (A → Tokens) → List A → Tokens
more_tokens item [] = []
more_tokens item (x ∷ xs) = tok.Fixed s.Comma ∷ (item x ++ more_tokens item xs)

abbrev pub separated_tokens : {A : Type 0} → (A → Tokens) → List A → Tokens
separated_tokens item [] = []
separated_tokens item (x ∷ xs) = item x ++ more_tokens item xs

abbrev pub call_tokens : List ℕ → List Operand → Tokens
call_tokens f xs = tok.Name f ∷ tok.Fixed s.Open ∷ (separated_tokens operand_tokens xs ++ tok.Fixed s.Close ∷ [])

abbrev pub place_tokens : Place → Tokens
place_tokens p = tok.Fixed s.OpenBracket ∷ (base_tokens p.base ++ (offset_tokens p.offset ++ tok.Fixed s.CloseBracket ∷ []))

abbrev pub access_tokens : Scalar → Place → Tokens
access_tokens k p = mem_tokens k ++ place_tokens p

abbrev pub result_token : Option Scalar → Token
result_token None = tok.Fixed s.Void
result_token (Some k) = tok.Fixed (scalar_symbol k)

abbrev pub scalar_tokens : Scalar → Tokens
scalar_tokens k = tok.Fixed (scalar_symbol k) ∷ []

abbrev pub signature_tokens : Signature → Tokens
signature_tokens g = tok.Fixed s.Less ∷ result_token g.result ∷ tok.Fixed s.Open ∷ (separated_tokens scalar_tokens g.params ++ tok.Fixed s.Close ∷ tok.Fixed s.Greater ∷ [])

abbrev pub simple_tokens : Stmt → Tokens
simple_tokens (Copy x from) = tok.Name x ∷ tok.Fixed s.Assign ∷ operand_tokens from
simple_tokens (Arith x l o r) = tok.Name x ∷ tok.Fixed s.Assign ∷ (operand_tokens l ++ (tok.Fixed (op_symbol o) ∷ operand_tokens r))
simple_tokens (Compare x l c r) = tok.Name x ∷ tok.Fixed s.Assign ∷ (operand_tokens l ++ (tok.Fixed (cmp_symbol c) ∷ operand_tokens r))
simple_tokens (Convert x k from) = tok.Name x ∷ tok.Fixed s.Assign ∷ tok.Fixed s.Open ∷ tok.Fixed (scalar_symbol k) ∷ tok.Fixed s.Close ∷ operand_tokens from
simple_tokens (Load x k place) = tok.Name x ∷ tok.Fixed s.Assign ∷ access_tokens k place
simple_tokens (Store k place from) = mem_tokens k ++ (place_tokens place ++ (tok.Fixed s.Assign ∷ operand_tokens from))
simple_tokens (Call to f xs) = to_tokens to ++ call_tokens f xs
simple_tokens (Indirect to g x xs) = to_tokens to ++ (tok.Fixed s.Star ∷ (signature_tokens g ++ call_tokens x xs))
simple_tokens (Get x) = tok.Name x ∷ tok.Fixed s.Assign ∷ tok.Fixed s.Getint ∷ tok.Fixed s.Open ∷ tok.Fixed s.Close ∷ []
simple_tokens (Put from) = tok.Fixed s.Putint ∷ tok.Fixed s.Open ∷ (operand_tokens from ++ tok.Fixed s.Close ∷ [])
simple_tokens Abort = tok.Fixed s.Abort ∷ tok.Fixed s.Open ∷ tok.Fixed s.Close ∷ []

abbrev pub statement_tokens : Stmt → Tokens
statement_tokens b = simple_tokens b ++ tok.Fixed s.Semi ∷ []

abbrev pub case_tokens : Case → Tokens
case_tokens c = tok.Fixed s.Case ∷ (signed_tokens c.value ++ (tok.Fixed s.Colon ∷ (target_tokens c.target ++ tok.Fixed s.Semi ∷ [])))

abbrev pub end_tokens : End → Tokens
end_tokens (Goto n) = goto_tokens n
end_tokens (If l c r first second) = tok.Fixed s.If ∷ tok.Fixed s.Open ∷ (operand_tokens l ++ (tok.Fixed (cmp_symbol c) ∷ (operand_tokens r ++ (tok.Fixed s.Close ∷ (goto_tokens first ++ (tok.Fixed s.Else ∷ goto_tokens second))))))
end_tokens (Switch on cases other) = tok.Fixed s.Switch ∷ tok.Fixed s.Open ∷ (operand_tokens on ++ (tok.Fixed s.Close ∷ tok.Fixed s.OpenBrace ∷ (flat_map case_tokens cases ++ (tok.Fixed s.Default ∷ tok.Fixed s.Colon ∷ (target_tokens other ++ tok.Fixed s.Semi ∷ tok.Fixed s.CloseBrace ∷ [])))))
end_tokens (Return None) = tok.Fixed s.Return ∷ tok.Fixed s.Semi ∷ []
end_tokens (Return (Some o)) = tok.Fixed s.Return ∷ (operand_tokens o ++ tok.Fixed s.Semi ∷ [])

abbrev pub block_tokens : Block → Tokens
block_tokens b = target_tokens b.label ++ (tok.Fixed s.Colon ∷ (flat_map statement_tokens b.body ++ end_tokens b.end))

abbrev pub field_tokens : Decl → Tokens
field_tokens d = decl_tokens d ++ tok.Fixed s.Semi ∷ []

abbrev pub struct_tokens : StructDef → Tokens
struct_tokens x = tok.Fixed s.Struct ∷ tok.Name x.name ∷ tok.Fixed s.OpenBrace ∷ (flat_map field_tokens x.fields ++ tok.Fixed s.CloseBrace ∷ tok.Fixed s.Semi ∷ [])

abbrev pub items_tokens : List Operand → Tokens
items_tokens [] = []
items_tokens (x ∷ xs) = tok.Fixed s.Assign ∷ tok.Fixed s.OpenBrace ∷ (separated_tokens operand_tokens (x ∷ xs) ++ tok.Fixed s.CloseBrace ∷ [])

abbrev pub global_tokens : Global → Tokens
global_tokens g = tok.Fixed s.Global ∷ (const_tokens g.constant ++ (decl_tokens g.decl ++ (items_tokens g.items ++ tok.Fixed s.Semi ∷ [])))

abbrev pub register_tokens : Register → Tokens
register_tokens r = tok.Fixed (scalar_symbol r.scalar) ∷ tok.Name r.name ∷ []

abbrev pub declared_tokens : Register → Tokens
declared_tokens r = tok.Fixed (scalar_symbol r.scalar) ∷ tok.Name r.name ∷ tok.Fixed s.Semi ∷ []

abbrev pub local_tokens : Decl → Tokens
local_tokens d = tok.Fixed s.Local ∷ (decl_tokens d ++ tok.Fixed s.Semi ∷ [])

abbrev pub function_tokens : Function → Tokens
function_tokens f = result_token f.result ∷ tok.Name f.name ∷ tok.Fixed s.Open ∷ (separated_tokens register_tokens f.params ++ (tok.Fixed s.Close ∷ tok.Fixed s.OpenBrace ∷ (flat_map local_tokens f.locals ++ (flat_map declared_tokens f.registers ++ (flat_map block_tokens f.blocks ++ tok.Fixed s.CloseBrace ∷ [])))))

abbrev pub program_tokens : Program → Tokens
program_tokens p = tok.Fixed s.Gimple ∷ tok.Number p.profile ∷ tok.Fixed s.Semi ∷ (flat_map struct_tokens p.structs ++ (flat_map global_tokens p.globals ++ flat_map function_tokens p.functions))
