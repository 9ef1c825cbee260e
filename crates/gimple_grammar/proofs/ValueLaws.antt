-- The readers of numbers, operands and places.
use Rattle.std.proofs.Common.{◌≡◌, ℕ, Bool, true, false, not, List, [], ◌∷◌, ◌++◌, Some, None, refl, sym, ap, ◌∙◌, rules, inl, inr}
use Rattle.std.proofs.lemmas.List.{append-nil}
use Rattle.std.specs.Prelude.{ℤ, pos}
use denote.Enum.Bare.{sameb, same_true}
use Rattle.gimple_tokens.specs.contracts.token.Symbol.{the_type}
use Rattle.gimple_ir.specs.declared.operand.Operand.{Operand}
use Rattle.gimple_ir.specs.declared.operand.Operand.TheVariants.{Reg, Number, Null, Address}
use Rattle.gimple_ir.specs.declared.operand.Base.{Base}
use Rattle.gimple_ir.specs.declared.operand.Base.TheVariants as base
use Rattle.gimple_ir.specs.declared.scalar.Op.{Op}
use Rattle.gimple_ir.specs.declared.scalar.Op.TheVariants as op
use Rattle.gimple_ir.specs.declared.scalar.Cmp.{Cmp}
use Rattle.gimple_ir.specs.declared.scalar.Cmp.TheVariants as cmp
use Rattle.gimple_ir.specs.declared.scalar.Scalar.{Scalar}
use Rattle.gimple_ir.specs.declared.scalar.Scalar.TheVariants as kind
use Rattle.gimple_tokens.specs.declared.token.Symbol.{Symbol}
use Rattle.gimple_tokens.specs.declared.token.Symbol.TheVariants as s
use Rattle.gimple_tokens.specs.declared.token.Token.TheVariants as tok
use Rattle.token_law.specs.Reading.{Tokens, ◌>>=◌, ◌>>◌, pure, lookup, sees, sees_name, fixed, name, number}
use Rattle.token_law.proofs.ReadsExactly.{ReadsExactly, IsEither, IsPure, Avoids, never, pure_exact, choose_exact, recast, widen}
use Rattle.token_law.proofs.Leaves.{IsKeyed, IsKey, sees_head, sees_name_head, sees_self, seen_other, fixed_exact, name_exact, number_exact, keyed_exact, one_of_exact}
use Rattle.token_law.proofs.Lists.{after, then_symbol, ends_with, separated_exact}
use Rattle.gimple_grammar.specs.Grammar.{negative, scalar_symbol, op_symbol, cmp_symbol, IsSigned, IsOffset, IsAddress, IsItem, IsOperand, IsArguments, base_tokens, IsPlace, mem_tokens}
use Rattle.gimple_grammar.specs.Readers.{scalars, ops, cmps, scalar, operator, comparison, signed, offset, address, literal, item, operand, arguments, based, place, mem}

-- ---- symbols

pub scalar_found : (k : Scalar) → lookup scalar_symbol scalars (scalar_symbol k) ≡ Some k
scalar_found kind.I8 = refl
scalar_found kind.I16 = refl
scalar_found kind.I32 = refl
scalar_found kind.I64 = refl
scalar_found kind.U8 = refl
scalar_found kind.U16 = refl
scalar_found kind.U32 = refl
scalar_found kind.U64 = refl
scalar_found kind.Ptr = refl

pub op_found : (o : Op) → lookup op_symbol ops (op_symbol o) ≡ Some o
op_found op.Add = refl
op_found op.Sub = refl
op_found op.Mul = refl
op_found op.Div = refl
op_found op.Rem = refl
op_found op.And = refl
op_found op.Or = refl
op_found op.Xor = refl
op_found op.Shl = refl
op_found op.Shr = refl

pub cmp_found : (c : Cmp) → lookup cmp_symbol cmps (cmp_symbol c) ≡ Some c
cmp_found cmp.Eq = refl
cmp_found cmp.Ne = refl
cmp_found cmp.Lt = refl
cmp_found cmp.Le = refl
cmp_found cmp.Gt = refl
cmp_found cmp.Ge = refl

pub scalar_exact : ReadsExactly scalar (IsKey scalar_symbol) never
unfolding scalar
scalar_exact = one_of_exact scalar_symbol scalars scalar_found kind.I8

pub operator_exact : ReadsExactly operator (IsKey op_symbol) never
unfolding operator
operator_exact = one_of_exact op_symbol ops op_found op.Add

pub comparison_exact : ReadsExactly comparison (IsKey cmp_symbol) never
unfolding comparison
comparison_exact = one_of_exact cmp_symbol cmps cmp_found cmp.Eq

-- a symbol is none of these
pub scalar_differs : (y : Symbol) → lookup scalar_symbol scalars y ≡ None → (k : Scalar) (m : Tokens) → sees y (tok.Fixed (scalar_symbol k) ∷ m) ≡ false
unfolding sees
scalar_differs y e k m = differs_by (sameb the_type (scalar_symbol k) y) refl where
  differs_by : (b : Bool) → sameb the_type (scalar_symbol k) y ≡ b → b ≡ false
  differs_by false h = refl
  differs_by true h = let g : scalar_symbol k ≡ y = same_true the_type (search rules) (scalar_symbol k) y h in let f : Some k ≡ None = sym (scalar_found k) ∙ ap (lookup scalar_symbol scalars) g ∙ e in absurd cc

pub op_differs : (y : Symbol) → lookup op_symbol ops y ≡ None → (o : Op) (m : Tokens) → sees y (tok.Fixed (op_symbol o) ∷ m) ≡ false
unfolding sees
op_differs y e o m = differs_by (sameb the_type (op_symbol o) y) refl where
  differs_by : (b : Bool) → sameb the_type (op_symbol o) y ≡ b → b ≡ false
  differs_by false h = refl
  differs_by true h = let g : op_symbol o ≡ y = same_true the_type (search rules) (op_symbol o) y h in let f : Some o ≡ None = sym (op_found o) ∙ ap (lookup op_symbol ops) g ∙ e in absurd cc

pub cmp_differs : (y : Symbol) → lookup cmp_symbol cmps y ≡ None → (c : Cmp) (m : Tokens) → sees y (tok.Fixed (cmp_symbol c) ∷ m) ≡ false
unfolding sees
cmp_differs y e c m = differs_by (sameb the_type (cmp_symbol c) y) refl where
  differs_by : (b : Bool) → sameb the_type (cmp_symbol c) y ≡ b → b ≡ false
  differs_by false h = refl
  differs_by true h = let g : cmp_symbol c ≡ y = same_true the_type (search rules) (cmp_symbol c) y h in let f : Some c ≡ None = sym (cmp_found c) ∙ ap (lookup cmp_symbol cmps) g ∙ e in absurd cc

-- ---- signed numbers and offsets

abbrev IsMinus : ℤ → Tokens → Type 0
IsMinus z ts = (n : ℕ) × (z ≡ negative n) × (ts ≡ tok.Fixed s.Minus ∷ tok.Number n ∷ [])

abbrev IsPlain : ℤ → Tokens → Type 0
IsPlain z ts = (n : ℕ) × (z ≡ pos n) × (ts ≡ tok.Number n ∷ [])

minus_exact : ReadsExactly (fixed s.Minus >>= λ _. number >>= λ n. pure (negative n)) IsMinus never
minus_exact = recast (after (fixed_exact s.Minus) (λ _. after number_exact (λ n. pure_exact (negative n))))
    (λ z ts h. (h.4.0, h.4.4.0, cc))
    (λ z ts h. (tt, tok.Fixed s.Minus ∷ [], tok.Number h.0 ∷ [], refl, (h.0, tok.Number h.0 ∷ [], [], refl, (h.1, refl), refl), h.2))

plain_exact : ReadsExactly (number >>= λ n. pure (pos n)) IsPlain never
plain_exact = recast (after number_exact (λ n. pure_exact (pos n)))
    (λ z ts h. (h.0, h.4.0, cc))
    (λ z ts h. (h.0, tok.Number h.0 ∷ [], [], refl, (h.1, refl), h.2))

pub signed_exact : ReadsExactly signed IsSigned never
unfolding signed sees
signed_exact = recast (choose_exact (sees s.Minus) (sees_head s.Minus) _ _ IsMinus IsPlain never minus_exact plain_exact
    (λ z pre rest h stop. rw h.2 (sees_self s.Minus (tok.Number h.0 ∷ rest)))
    (λ z pre rest h stop. rw h.2 refl))
    (λ z ts h. elim h [ inl a ↦ inr a | inr b ↦ inl b ])
    (λ z ts h. elim h [ inl a ↦ inr a | inr b ↦ inl b ])

signed_no_name : (z : ℤ) (pre rest : Tokens) → IsSigned z pre → sees_name (pre ++ rest) ≡ false
unfolding sees_name
signed_no_name z pre rest h = elim h [ inl a ↦ rw a.2 refl | inr b ↦ rw b.2 refl ]

signed_avoids : (y : Symbol) → sameb the_type s.Minus y ≡ false → Avoids (sees y) IsSigned
unfolding sees
signed_avoids y e z pre rest h = elim h [ inl a ↦ rw a.2 refl | inr b ↦ rw b.2 e ]

abbrev IsAt : ℤ → Tokens → Type 0
IsAt z ts = (a : Tokens) × IsSigned z a × (ts ≡ tok.Fixed s.At ∷ a)

at_exact : ReadsExactly (fixed s.At >> signed) IsAt never
at_exact = recast (after (fixed_exact s.At) (λ _. signed_exact))
    (λ z ts h. (h.2, h.4, cc))
    (λ z ts h. (tt, tok.Fixed s.At ∷ [], h.0, refl, h.1, h.2))

pub offset_exact : ReadsExactly offset IsOffset (sees s.At)
unfolding offset
offset_exact = choose_exact (sees s.At) (sees_head s.At) _ _ IsAt (IsPure (pos 0)) (sees s.At)
    (widen at_exact (λ rest e. refl))
    (widen (pure_exact (pos 0)) (λ rest e. refl))
    (λ z pre rest h stop. rw h.2 (sees_self s.At (h.0 ++ rest)))
    (λ z pre rest h stop. rw h.1 stop)

-- ---- operands

abbrev IsAddressed : Operand → Tokens → Type 0
IsAddressed o ts = (x : List ℕ) × (z : ℤ) × (o ≡ Address x z) × IsAddress x z ts

address_exact : ReadsExactly address IsAddressed (sees s.At)
unfolding address
address_exact = recast (after (fixed_exact s.Ampersand) (λ _. after name_exact (λ x. ends_with (λ z. Address x z) offset_exact)))
    (λ o ts h.
    let n = h.4 in
    let f = n.4 in
    let g : n.2 ≡ f.1 = f.5 ∙ ap (λ y. f.1 ++ y) f.4.1 ∙ append-nil f.1 in
    (n.0, f.0, f.4.0, (f.1, f.3, cc)))
    (λ o ts h. (tt, tok.Fixed s.Ampersand ∷ [], tok.Name h.0 ∷ h.3.0, refl, (h.0, tok.Name h.0 ∷ [], h.3.0, refl, (h.1, h.3.0, [], h.3.1, (h.2, refl), sym (append-nil h.3.0)), refl), h.3.2))

abbrev IsLiteral : Operand → Tokens → Type 0
IsLiteral o ts = (z : ℤ) × (o ≡ Number z) × IsSigned z ts

literal_exact : ReadsExactly literal IsLiteral never
unfolding literal
literal_exact = recast (after signed_exact (λ z. pure_exact (Number z)))
    (λ o ts h. (h.0, h.4.0, let e : ts ≡ h.1 = h.5 ∙ ap (λ y. h.1 ++ y) h.4.1 ∙ append-nil h.1 in rw e h.3))
    (λ o ts h. (h.0, ts, [], h.2, (h.1, refl), sym (append-nil ts)))

abbrev Items : Operand → Tokens → Type 0
Items = IsEither (IsKeyed s.Null Null) (IsEither IsAddressed IsLiteral)

item_to : (o : Operand) (ts : Tokens) → Items o ts → IsItem o ts
item_to o ts h = elim h [ inl a ↦ rw a.0 a.1 | inr k ↦ elim k [ inl b ↦ rw b.2 b.3 | inr c ↦ rw c.1 c.2 ] ]

item_from : (o : Operand) (ts : Tokens) → IsItem o ts → Items o ts
item_from (Reg x) ts h = absurd h
item_from (Number z) ts h = inr (inr (z, refl, h))
item_from Null ts h = inl (refl, h)
item_from (Address x z) ts h = inr (inl (x, z, refl, h))

pub item_exact : ReadsExactly item IsItem (sees s.At)
unfolding item sees
item_exact = recast (choose_exact (sees s.Null) (sees_head s.Null) _ _ (IsKeyed s.Null Null) (IsEither IsAddressed IsLiteral) (sees s.At)
    (widen (keyed_exact s.Null Null) (λ rest e. refl))
    (choose_exact (sees s.Ampersand) (sees_head s.Ampersand) _ _ IsAddressed IsLiteral (sees s.At) address_exact (widen literal_exact (λ rest e. refl))
    (λ o pre rest h stop. rw h.3.2 refl)
    (λ o pre rest h stop. signed_avoids s.Ampersand refl h.0 pre rest h.2))
    (λ o pre rest h stop. rw h.1 refl)
    (λ o pre rest h stop. elim h [ inl b ↦ rw b.3.2 refl | inr c ↦ signed_avoids s.Null refl c.0 pre rest c.2 ]))
    item_to item_from

pub item_no_name : Avoids sees_name IsItem
unfolding sees_name
item_no_name (Reg x) pre rest h = absurd h
item_no_name (Number z) pre rest h = signed_no_name z pre rest h
item_no_name Null pre rest h = rw h refl
item_no_name (Address x z) pre rest h = rw h.2 refl

pub item_avoids : (y : Symbol) → sameb the_type s.Minus y ≡ false → sameb the_type s.Null y ≡ false → sameb the_type s.Ampersand y ≡ false → Avoids (sees y) IsItem
unfolding sees
item_avoids y e f g (Reg x) pre rest h = absurd h
item_avoids y e f g (Number z) pre rest h = signed_avoids y e z pre rest h
item_avoids y e f g Null pre rest h = rw h f
item_avoids y e f g (Address x z) pre rest h = rw h.2 g

abbrev IsReg : Operand → Tokens → Type 0
IsReg o ts = (x : List ℕ) × (o ≡ Reg x) × (ts ≡ tok.Name x ∷ [])

reg_exact : ReadsExactly (name >>= λ n. pure (Reg n)) IsReg never
reg_exact = recast (after name_exact (λ n. pure_exact (Reg n)))
    (λ o ts h. (h.0, h.4.0, cc))
    (λ o ts h. (h.0, tok.Name h.0 ∷ [], [], refl, (h.1, refl), h.2))

pub item_operand : (o : Operand) (ts : Tokens) → IsItem o ts → IsOperand o ts
item_operand (Reg x) ts h = absurd h
item_operand (Number z) ts h = h
item_operand Null ts h = h
item_operand (Address x z) ts h = h

operand_from : (o : Operand) (ts : Tokens) → IsOperand o ts → IsEither IsReg IsItem o ts
operand_from (Reg x) ts h = inl (x, refl, h)
operand_from (Number z) ts h = inr h
operand_from Null ts h = inr h
operand_from (Address x z) ts h = inr h

pub operand_exact : ReadsExactly operand IsOperand (sees s.At)
unfolding operand sees_name
operand_exact = recast (choose_exact sees_name sees_name_head _ _ IsReg IsItem (sees s.At) (widen reg_exact (λ rest e. refl)) item_exact
    (λ o pre rest h stop. rw h.2 refl)
    (λ o pre rest h stop. item_no_name o pre rest h))
    (λ o ts h. elim h [ inl a ↦ rw a.1 a.2 | inr b ↦ item_operand o ts b ])
    operand_from

pub operand_avoids : (y : Symbol) → sameb the_type s.Minus y ≡ false → sameb the_type s.Null y ≡ false → sameb the_type s.Ampersand y ≡ false → Avoids (sees y) IsOperand
unfolding sees
operand_avoids y e f g (Reg x) pre rest h = rw h refl
operand_avoids y e f g (Number z) pre rest h = signed_avoids y e z pre rest h
operand_avoids y e f g Null pre rest h = rw h f
operand_avoids y e f g (Address x z) pre rest h = rw h.2 g

-- ---- arguments

pub arguments_exact : ReadsExactly arguments IsArguments never
unfolding arguments
arguments_exact = recast (after (fixed_exact s.Open) (λ _. then_symbol s.Close (separated_exact operand IsOperand (sees s.At) operand_exact (λ ts e. seen_other s.Comma s.At ts refl e) (λ rest e. seen_other s.Close s.At rest refl e) (operand_avoids s.Close refl refl refl))
    (λ rest e. ap not e)
    (λ xs. pure_exact xs)))
    (λ xs ts h. (h.4.1, rw h.4.4.4.0 h.4.3, let e : ts ≡ tok.Fixed s.Open ∷ h.2 = cc in let f : h.4.2 ≡ tok.Fixed s.Close ∷ [] = cc in e ∙ ap (λ y. tok.Fixed s.Open ∷ y) h.4.5 ∙ ap (λ y. tok.Fixed s.Open ∷ h.4.1 ++ y) f))
    (λ xs ts h. (tt, tok.Fixed s.Open ∷ [], h.0 ++ tok.Fixed s.Close ∷ [], refl, (xs, h.0, tok.Fixed s.Close ∷ [], h.1, (tt, tok.Fixed s.Close ∷ [], [], refl, (refl, refl), refl), refl), h.2))

-- ---- places

abbrev IsBase : Base → Tokens → Type 0
IsBase b ts = ts ≡ base_tokens b

abbrev IsBaseReg : Base → Tokens → Type 0
IsBaseReg b ts = (x : List ℕ) × (b ≡ base.Reg x) × (ts ≡ tok.Name x ∷ [])

abbrev IsBaseVariable : Base → Tokens → Type 0
IsBaseVariable b ts = (x : List ℕ) × (b ≡ base.Variable x) × (ts ≡ tok.Fixed s.Ampersand ∷ tok.Name x ∷ [])

base_from : (b : Base) (ts : Tokens) → IsBase b ts → IsEither IsBaseReg IsBaseVariable b ts
base_from (base.Reg x) ts h = inl (x, refl, h)
base_from (base.Variable x) ts h = inr (x, refl, h)

based_exact : ReadsExactly based IsBase never
unfolding based sees_name
based_exact = recast (choose_exact sees_name sees_name_head _ _ IsBaseReg IsBaseVariable never
    (recast (after name_exact (λ n. pure_exact (base.Reg n)))
    (λ b ts h. (h.0, h.4.0, cc))
    (λ b ts h. (h.0, tok.Name h.0 ∷ [], [], refl, (h.1, refl), h.2)))
    (recast (after (fixed_exact s.Ampersand) (λ _. after name_exact (λ n. pure_exact (base.Variable n))))
    (λ b ts h. (h.4.0, h.4.4.0, cc))
    (λ b ts h. (tt, tok.Fixed s.Ampersand ∷ [], tok.Name h.0 ∷ [], refl, (h.0, tok.Name h.0 ∷ [], [], refl, (h.1, refl), refl), h.2)))
    (λ b pre rest h stop. rw h.2 refl)
    (λ b pre rest h stop. rw h.2 refl))
    (λ b ts h. elim h [ inl a ↦ rw a.1 a.2 | inr c ↦ rw c.1 c.2 ])
    base_from

pub place_exact : ReadsExactly place IsPlace never
unfolding place
place_exact = recast (after (fixed_exact s.OpenBracket) (λ _. after based_exact (λ b. then_symbol s.CloseBracket offset_exact (λ rest e. seen_other s.CloseBracket s.At rest refl e) (λ z. pure_exact (record { base = b; offset = z })))))
    (λ p ts h.
    let b = h.4 in
    let z = b.4 in
    let e : p ≡ record { base = b.0; offset = z.0 } = z.4.4.0 in
    let f : z.2 ≡ tok.Fixed s.CloseBracket ∷ [] = cc in
    rw e (z.1, z.3, cc))
    (λ p ts h. (
      tt,
      tok.Fixed s.OpenBracket ∷ [],
      base_tokens p.base ++ (h.0 ++ tok.Fixed s.CloseBracket ∷ []),
      refl,
      (p.base, base_tokens p.base, h.0 ++ tok.Fixed s.CloseBracket ∷ [], refl, (p.offset, h.0, tok.Fixed s.CloseBracket ∷ [], h.1, (tt, tok.Fixed s.CloseBracket ∷ [], [], refl, (refl, refl), refl), refl), refl),
      h.2,
    ))

abbrev pub IsMem : Scalar → Tokens → Type 0
IsMem k ts = ts ≡ mem_tokens k

pub mem_exact : ReadsExactly mem IsMem never
unfolding mem
mem_exact = recast (after (fixed_exact s.Mem) (λ _. after (fixed_exact s.Less) (λ _. after scalar_exact (λ k. after (fixed_exact s.Greater) (λ _. pure_exact k)))))
    (λ k ts h. let e : k ≡ h.4.4.0 = h.4.4.4.4.0 in rw e (cc))
    (λ k ts h. (
      tt,
      tok.Fixed s.Mem ∷ [],
      tok.Fixed s.Less ∷ tok.Fixed (scalar_symbol k) ∷ tok.Fixed s.Greater ∷ [],
      refl,
      (
        tt,
        tok.Fixed s.Less ∷ [],
        tok.Fixed (scalar_symbol k) ∷ tok.Fixed s.Greater ∷ [],
        refl,
        (k, tok.Fixed (scalar_symbol k) ∷ [], tok.Fixed s.Greater ∷ [], refl, (tt, tok.Fixed s.Greater ∷ [], [], refl, (refl, refl), refl), refl),
        refl,
      ),
      h,
    ))
