-- The checks of a statement look at no labels, and of the functions that may be addressed only at the names that the statement addresses.
use Rattle.std.proofs.Common.{◌≡◌, ℕ, ◌==◌, not, cond, ◌||◌, ◌&&◌, List, [], ◌∷◌, length, is_some, Option, Some, None, refl, ap, ℤ, pos}
use Rattle.std.specs.Ordering.{int_eq}
use Rattle.std.specs.List.{All, Contains}
use Rattle.std.proofs.lemmas.List.Elements.{All-head, All-tail, All-weaker, All-contains_itself}
use Rattle.gimple_ir.specs.declared.scalar.Scalar.{Scalar}
use Rattle.gimple_ir.specs.declared.scalar.Scalar.TheVariants.{I64, Ptr}
use Rattle.gimple_ir.specs.declared.scalar.Op.{Op}
use Rattle.gimple_ir.specs.declared.scalar.Cmp.{Cmp}
use Rattle.gimple_ir.specs.declared.operand.Operand.{Operand}
use Rattle.gimple_ir.specs.declared.operand.Operand.TheVariants.{Reg, Number, Null, Address}
use Rattle.gimple_ir.specs.declared.operand.Base.{Base}
use Rattle.gimple_ir.specs.declared.operand.Base.TheVariants.{Reg as RegBase, Variable}
use Rattle.gimple_ir.specs.declared.statement.Stmt.{Stmt}
use Rattle.gimple_ir.specs.declared.statement.Stmt.TheVariants.{Copy, Arith, Compare, Convert, Load, Store, Call, Indirect, Get, Put, Abort}
use Rattle.gimple_ir.specs.declared.block.End.TheVariants.{Return}
use Rattle.gimple_ir.specs.declared.program.Function.{Function}
use Rattle.gimple_core.specs.Memory.{same_scalar}
use Rattle.gimple_core.specs.Operators.{in_scalar}
use Rattle.gimple_core.specs.Verdict.{Verdict, ◌>>=◌, ◌>>◌, demand, found}
use Rattle.gimple_core.specs.Env.{Env, Names, Targets, named, is_target, is_variable, scalar_of}
use Rattle.gimple_core.specs.Reach.{TakesAddress, operands_of, operands_of_end}
use Rattle.gimple_core.specs.Statements as s

-- the name may be addressed with the one set of functions where it may with the other
abbrev pub SameTarget : Targets → Targets → List ℕ → Type 0
SameTarget a b name = is_target a name ≡ is_target b name

-- the name that an operand addresses, if any
abbrev pub Alike : Targets → Targets → Operand → Type 0
Alike a b (Address name offset) = SameTarget a b name
Alike a b x = Unit {0}

module _ (a b : Targets) (xs : List Operand) (same : (name : List ℕ) → TakesAddress name xs → SameTarget a b name) where
  alike_one : (x : Operand) → Contains xs x → Alike a b x
  alike_one (Reg name) c = tt
  alike_one (Number z) c = tt
  alike_one Null c = tt
  alike_one (Address name offset) c = same name (offset, c)

  pub all_alike : All (Alike a b) xs
  all_alike = All-weaker (Contains xs) (Alike a b) alike_one xs (All-contains_itself xs)

found_either : {A : Type 0} (a b : Option A) (code : ℕ) (v : Verdict (Unit {0})) → is_some a ≡ is_some b → (found a code >>= (λ x. v)) ≡ (found b code >>= (λ x. v))
found_either None None code v e = refl
found_either (Some x) (Some y) code v e = refl
found_either None (Some y) code v e = cc
found_either (Some x) None code v e = cc

module _ (env : Env) (ts : Targets) (ls : List ℕ) where
  abbrev other : Env
  other = record env { targets = ts; labels = ls }

  abbrev Same : Operand → Type 0
  Same x = Alike ts env.targets x

  pub operand_re : (wrong : ℕ) (scalar : Scalar) (x : Operand) → Alike ts env.targets x → s.operand (record env { targets = ts; labels = ls }) wrong scalar x ≡ s.operand env wrong scalar x
  unfolding s.operand scalar_of
  operand_re wrong scalar (Reg name) e = refl
  operand_re wrong scalar (Number z) e = refl
  operand_re wrong scalar Null e = refl
  operand_re wrong scalar (Address name offset) e =
      λ i. demand (s.is_pointer scalar) wrong >> (demand (is_variable env name || e i) 1 >> (demand (in_scalar I64 offset) 13 >> demand (is_variable env name || int_eq offset (pos 0)) 11))

  scalar_re : (name : List ℕ) → scalar_of other name ≡ scalar_of env name
  unfolding scalar_of
  scalar_re name = refl

  count_re : (scalar : Scalar) (x : Operand) → Same x → s.count other scalar x ≡ s.count env scalar x
  unfolding s.count scalar_of
  count_re scalar (Reg name) e = refl
  count_re scalar (Number z) e = operand_re 4 scalar (Number z) e
  count_re scalar Null e = operand_re 4 scalar Null e
  count_re scalar (Address name offset) e = operand_re 4 scalar (Address name offset) e

  right_re : (scalar : Scalar) (op : Op) (x : Operand) → Same x → s.right_side other scalar op x ≡ s.right_side env scalar op x
  unfolding s.right_side
  right_re scalar op x e = λ i. cond (s.is_shift op) (count_re scalar x e i) (operand_re 4 scalar x e i)

  arith_re : (scalar : Scalar) (left : Operand) (op : Op) (right : Operand) → Same left → Same right → s.arith other scalar left op right ≡ s.arith env scalar left op right
  unfolding s.arith
  arith_re scalar left op right l r =
      λ i. cond (s.is_pointer scalar) (demand (s.is_add op) 4 >> (operand_re 4 Ptr left l i >> operand_re 4 I64 right r i)) (operand_re 4 scalar left l i >> right_re scalar op right r i)

  common_re : (left right : Operand) → s.common_scalar other left right ≡ s.common_scalar env left right
  unfolding s.common_scalar scalar_of
  common_re (Reg m) right = refl
  common_re (Number z) (Reg m) = refl
  common_re Null (Reg m) = refl
  common_re (Address name offset) (Reg m) = refl
  common_re (Number z) (Number y) = refl
  common_re (Number z) Null = refl
  common_re (Number z) (Address name by) = refl
  common_re Null (Number y) = refl
  common_re Null Null = refl
  common_re Null (Address name by) = refl
  common_re (Address name offset) (Number y) = refl
  common_re (Address name offset) Null = refl
  common_re (Address name offset) (Address n by) = refl

  pub compared_re : (left : Operand) (cmp : Cmp) (right : Operand) → Alike ts env.targets left → Alike ts env.targets right →
      s.compared (record env { targets = ts; labels = ls }) left cmp right ≡ s.compared env left cmp right
  unfolding s.compared
  compared_re left cmp right l r =
      λ i. common_re left right i >>= (λ scalar. operand_re 4 scalar left l i >> (operand_re 4 scalar right r i >> demand (not (s.is_pointer scalar && s.is_order cmp)) 4))

  pub integer_re : (x : Operand) → s.integer (record env { targets = ts; labels = ls }) x ≡ s.integer env x
  unfolding s.integer scalar_of
  integer_re (Reg name) = refl
  integer_re (Number z) = refl
  integer_re Null = refl
  integer_re (Address name offset) = refl

  converted_re : (to scalar : Scalar) (from : Operand) → s.converted other to scalar from ≡ s.converted env to scalar from
  unfolding s.converted
  converted_re to scalar from = λ i. integer_re from i >>= (λ own. demand (not (s.is_pointer scalar)) 4 >> demand (same_scalar scalar to) 4)

  place_re : (scalar : Scalar) (base : Base) (offset : ℤ) → s.place_at other scalar base offset ≡ s.place_at env scalar base offset
  unfolding s.place_at scalar_of
  place_re scalar (RegBase name) offset = refl
  place_re scalar (Variable name) offset = refl

  arguments_re : (scalars : List Scalar) (xs : List Operand) → All (Alike ts env.targets) xs → s.arguments other scalars xs ≡ s.arguments env scalars xs
  unfolding s.arguments
  arguments_re [] xs e = refl
  arguments_re (scalar ∷ scalars) [] e = refl
  arguments_re (scalar ∷ scalars) (x ∷ xs) e = λ i. operand_re 6 scalar x (All-head (Alike ts env.targets) x xs e) i >> arguments_re scalars xs (All-tail (Alike ts env.targets) x xs e) i

  printed_re : (x : Operand) → s.printed other x ≡ s.printed env x
  unfolding s.printed scalar_of
  printed_re (Reg name) = refl
  printed_re (Number z) = refl
  printed_re Null = refl
  printed_re (Address name offset) = refl

  target_re : (to : Option (List ℕ)) → s.target other to ≡ s.target env to
  unfolding scalar_of
  target_re None = refl
  target_re (Some name) = refl

  first : (x : Operand) (xs : List Operand) → All (Alike ts env.targets) (x ∷ xs) → Same x
  first x xs e = All-head (Alike ts env.targets) x xs e

  second : (x y : Operand) → All (Alike ts env.targets) (x ∷ y ∷ []) → Same y
  second x y e = first y [] (All-tail (Alike ts env.targets) x (y ∷ []) e)

  -- a statement passes with the one environment where it passes with the other
  pub statement_re : (names : Names Function) (x : Stmt) → is_some ts ≡ is_some env.targets → All (Alike ts env.targets) (operands_of x) →
      s.statement (record env { targets = ts; labels = ls }) names x ≡ s.statement env names x
  unfolding s.statement s.called s.called_through
  statement_re names (Copy to from) some e = λ i. scalar_re to i >>= (λ scalar. operand_re 4 scalar from (first from [] e) i)
  statement_re names (Arith to left op right) some e = λ i. scalar_re to i >>= (λ scalar. arith_re scalar left op right (first left (right ∷ []) e) (second left right e) i)
  statement_re names (Compare to left cmp right) some e = λ i. scalar_re to i >>= (λ scalar. demand (not (s.is_pointer scalar)) 4 >> compared_re left cmp right (first left (right ∷ []) e) (second left right e) i)
  statement_re names (Convert to scalar from) some e = λ i. scalar_re to i >>= (λ own. converted_re own scalar from i)
  statement_re names (Load to scalar place) some e = λ i. scalar_re to i >>= (λ own. demand (same_scalar scalar own) 4 >> place_re scalar place.base place.offset i)
  statement_re names (Store scalar place from) some e = λ i. place_re scalar place.base place.offset i >> (demand (not (s.is_read_only env place.base)) 14 >> operand_re 4 scalar from (first from [] e) i)
  statement_re names (Call to callee xs) some e =
      λ i. target_re to i >>= (λ scalar. found (named callee names) 1 >>= (λ function. demand (length xs == length function.params) 5 >> (arguments_re (s.scalars_of function.params) xs e i >> s.result_fits scalar function.result)))
  statement_re names (Indirect to signature callee xs) some e =
      λ i. target_re to i >>= (λ scalar. found_either ts env.targets 1 (scalar_re callee i >>= (λ own. demand (s.is_pointer own) 4 >> (demand (length xs == length signature.params) 5 >> (arguments_re signature.params xs e i >> s.result_fits scalar signature.result)))) some i)
  statement_re names (Get to) some e = λ i. scalar_re to i >>= (λ own. demand (same_scalar own I64) 4)
  statement_re names (Put from) some e = printed_re from
  statement_re names Abort some e = refl

  pub returned_re : (x : Option Operand) (result : Option Scalar) → All (Alike ts env.targets) (operands_of_end (Return x)) → s.returned (record env { targets = ts; labels = ls }) x result ≡ s.returned env x result
  unfolding s.returned
  returned_re None None e = refl
  returned_re None (Some scalar) e = refl
  returned_re (Some x) None e = refl
  returned_re (Some x) (Some scalar) e = operand_re 16 scalar x (first x [] e)
