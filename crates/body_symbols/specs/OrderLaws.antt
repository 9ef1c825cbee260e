-- The order of symbols keeps the laws of a lattice.
use Rattle.std.specs.Prelude.{◌≡◌, ◌≢◌, ℕ, ◌<◌, ◌≤◌, ◌==◌, ℤ, Bool, true, false, cond, if◌then◌else◌, ◌&&◌, List, Option, Some, None, refl}
use Rattle.std.proofs.Common.{arith, ap, sym, subst, ◌∙◌}
use Rattle.std.specs.Ordering.{int_eq}
use Rattle.std.proofs.lemmas.Bool.{eqb-true, eq-eqb}
use Rattle.std.proofs.lemmas.Bool.Decides.{Decides-int_eq}
use Rattle.gimple_ir.specs.declared.scalar.Op.{Op}
use Rattle.gimple_ir.specs.declared.scalar.Op.TheVariants.{Add, Sub, Mul, Div, Rem, And, Or, Xor, Shl, Shr}
use Rattle.gimple_ir.specs.declared.value.Constant.{Constant}
use Rattle.gimple_ir.specs.declared.value.Constant.TheVariants.{Int, Null, Global as GlobalAddress}
use Rattle.fix_engine.specs.Bools.{and_left, and_right, both}
use Rattle.fix_engine.specs.Lattice.{LatticeLaws}
use Rattle.body_symbols.specs.declared.symbol.Variable.{Variable}
use Rattle.body_symbols.specs.declared.symbol.Variable.TheVariants.{Global, Local}
use Rattle.body_symbols.specs.declared.symbol.Symbol.{Symbol}
use Rattle.body_symbols.specs.declared.symbol.Symbol.TheVariants.{Const, Formal, FormalOp, FormalAt, VariableAt, Unknown}
use Rattle.body_symbols.specs.Order.{op_number, same_op, same_constant, same_variable, offset_below, symbol_below, widened, symbol_joined, FitsSymbol, symbol_height, offset_rank, symbol_rank}

-- ---- the same parts

int_self : (z : ℤ) → int_eq z z ≡ true
int_self z = (Decides-int_eq z z).1 refl

int_same : (z w : ℤ) → int_eq z w ≡ true → z ≡ w
int_same z w e = (Decides-int_eq z w).0 e

nat_self : (n : ℕ) → (n == n) ≡ true
nat_self n = eq-eqb n n refl

constant_self : (c : Constant) → same_constant c c ≡ true
constant_self (Int z) = int_self z
constant_self Null = refl
constant_self (GlobalAddress k o) = both (k == k) (int_eq o o) (nat_self k) (int_self o)

constant_same : (c d : Constant) → same_constant c d ≡ true → c ≡ d
constant_same (Int z) (Int w) e = ap (λ x. Int x) (int_same z w e)
constant_same (Int z) Null e = cc
constant_same (Int z) (GlobalAddress j p) e = cc
constant_same Null (Int w) e = cc
constant_same Null Null e = refl
constant_same Null (GlobalAddress j p) e = cc
constant_same (GlobalAddress k o) (Int w) e = cc
constant_same (GlobalAddress k o) Null e = cc
constant_same (GlobalAddress k o) (GlobalAddress j p) e =
    let m : k ≡ j = eqb-true k j (and_left (k == j) (int_eq o p) e) in
    let z : o ≡ p = int_same o p (and_right (k == j) (int_eq o p) e) in
    λ i. GlobalAddress (m i) (z i)

variable_self : (v : Variable) → same_variable v v ≡ true
variable_self (Global k) = nat_self k
variable_self (Local k) = nat_self k

variable_same : (v w : Variable) → same_variable v w ≡ true → v ≡ w
variable_same (Global k) (Global j) e = ap (λ n. Global n) (eqb-true k j e)
variable_same (Global k) (Local j) e = cc
variable_same (Local k) (Global j) e = cc
variable_same (Local k) (Local j) e = ap (λ n. Local n) (eqb-true k j e)

abbrev op_of_number : ℕ → Op
op_of_number n =
    if n == 0 then Add else if n == 1 then Sub else if n == 2 then Mul else if n == 3 then Div else if n == 4 then Rem else if n == 5 then And else if n == 6 then Or else if n == 7 then Xor else if n == 8 then Shl else Shr

op_back : (op : Op) → op_of_number (op_number op) ≡ op
op_back Add = refl
op_back Sub = refl
op_back Mul = refl
op_back Div = refl
op_back Rem = refl
op_back And = refl
op_back Or = refl
op_back Xor = refl
op_back Shl = refl
op_back Shr = refl

op_same : (o p : Op) → same_op o p ≡ true → o ≡ p
op_same o p e = sym (op_back o) ∙ (ap op_of_number (eqb-true (op_number o) (op_number p) e) ∙ op_back p)

offset_self : (o : Option ℤ) → offset_below o o ≡ true
offset_self None = refl
offset_self (Some z) = int_self z

any_offset : (o : Option ℤ) → offset_below o None ≡ true
any_offset None = refl
any_offset (Some z) = refl

-- ---- the order

pub symbol_self : (a : Symbol) → symbol_below a a ≡ true
symbol_self (Const c) = constant_self c
symbol_self (Formal i) = nat_self i
symbol_self (FormalOp i op z) = both (i == i) (same_op op op && int_eq z z) (nat_self i) (both (same_op op op) (int_eq z z) (nat_self (op_number op)) (int_self z))
symbol_self (FormalAt i o) = both (i == i) (offset_below o o) (nat_self i) (offset_self o)
symbol_self (VariableAt v o) = both (same_variable v v) (offset_below o o) (variable_self v) (offset_self o)
symbol_self Unknown = refl

pub below_unknown : (a : Symbol) → symbol_below a Unknown ≡ true
below_unknown (Const c) = refl
below_unknown (Formal i) = refl
below_unknown (FormalOp i op z) = refl
below_unknown (FormalAt i o) = refl
below_unknown (VariableAt v o) = refl
below_unknown Unknown = refl

-- what a symbol below another one can be
module _ (P : Symbol → Symbol → Type 0) (same : (a : Symbol) → P a a) (top : (a : Symbol) → P a Unknown) (formal : (i : ℕ) (z : ℤ) → P (FormalAt i (Some z)) (FormalAt i None)) (variable : (v : Variable) (z : ℤ) → P (VariableAt v (Some z)) (VariableAt v None)) where
  equal : (a b : Symbol) → a ≡ b → P a b
  equal a b e = subst (P a) e (same a)

  formal_rise : (i j : ℕ) (o p : Option ℤ) → i ≡ j → offset_below o p ≡ true → P (FormalAt i o) (FormalAt j p)
  formal_rise i j None None m e = equal (FormalAt i None) (FormalAt j None) (ap (λ n. FormalAt n None) m)
  formal_rise i j None (Some w) m e = cc
  formal_rise i j (Some z) None m e = subst (λ n. P (FormalAt i (Some z)) (FormalAt n None)) m (formal i z)
  formal_rise i j (Some z) (Some w) m e = let n : z ≡ w = int_same z w e in equal (FormalAt i (Some z)) (FormalAt j (Some w)) (λ k. FormalAt (m k) (Some (n k)))

  variable_rise : (v u : Variable) (o p : Option ℤ) → v ≡ u → offset_below o p ≡ true → P (VariableAt v o) (VariableAt u p)
  variable_rise v u None None m e = equal (VariableAt v None) (VariableAt u None) (ap (λ n. VariableAt n None) m)
  variable_rise v u None (Some w) m e = cc
  variable_rise v u (Some z) None m e = subst (λ n. P (VariableAt v (Some z)) (VariableAt n None)) m (variable v z)
  variable_rise v u (Some z) (Some w) m e = let n : z ≡ w = int_same z w e in equal (VariableAt v (Some z)) (VariableAt u (Some w)) (λ k. VariableAt (m k) (Some (n k)))

  op_rise : (i j : ℕ) (op other : Op) (z w : ℤ) → symbol_below (FormalOp i op z) (FormalOp j other w) ≡ true → P (FormalOp i op z) (FormalOp j other w)
  op_rise i j op other z w e =
      let m : i ≡ j = eqb-true i j (and_left (i == j) (same_op op other && int_eq z w) e) in
      let rest : (same_op op other && int_eq z w) ≡ true = and_right (i == j) (same_op op other && int_eq z w) e in
      let o : op ≡ other = op_same op other (and_left (same_op op other) (int_eq z w) rest) in
      let n : z ≡ w = int_same z w (and_right (same_op op other) (int_eq z w) rest) in
      equal (FormalOp i op z) (FormalOp j other w) (λ k. FormalOp (m k) (o k) (n k))

  pub rise_cases : (a b : Symbol) → symbol_below a b ≡ true → P a b
  rise_cases a Unknown e = top a
  rise_cases (Const c) (Const d) e = equal (Const c) (Const d) (ap (λ x. Const x) (constant_same c d e))
  rise_cases (Const c) (Formal j) e = cc
  rise_cases (Const c) (FormalOp j other w) e = cc
  rise_cases (Const c) (FormalAt j p) e = cc
  rise_cases (Const c) (VariableAt u p) e = cc
  rise_cases (Formal i) (Const d) e = cc
  rise_cases (Formal i) (Formal j) e = equal (Formal i) (Formal j) (ap (λ n. Formal n) (eqb-true i j e))
  rise_cases (Formal i) (FormalOp j other w) e = cc
  rise_cases (Formal i) (FormalAt j p) e = cc
  rise_cases (Formal i) (VariableAt u p) e = cc
  rise_cases (FormalOp i op z) (Const d) e = cc
  rise_cases (FormalOp i op z) (Formal j) e = cc
  rise_cases (FormalOp i op z) (FormalOp j other w) e = op_rise i j op other z w e
  rise_cases (FormalOp i op z) (FormalAt j p) e = cc
  rise_cases (FormalOp i op z) (VariableAt u p) e = cc
  rise_cases (FormalAt i o) (Const d) e = cc
  rise_cases (FormalAt i o) (Formal j) e = cc
  rise_cases (FormalAt i o) (FormalOp j other w) e = cc
  rise_cases (FormalAt i o) (FormalAt j p) e = formal_rise i j o p (eqb-true i j (and_left (i == j) (offset_below o p) e)) (and_right (i == j) (offset_below o p) e)
  rise_cases (FormalAt i o) (VariableAt u p) e = cc
  rise_cases (VariableAt v o) (Const d) e = cc
  rise_cases (VariableAt v o) (Formal j) e = cc
  rise_cases (VariableAt v o) (FormalOp j other w) e = cc
  rise_cases (VariableAt v o) (FormalAt j p) e = cc
  rise_cases (VariableAt v o) (VariableAt u p) e = variable_rise v u o p (variable_same v u (and_left (same_variable v u) (offset_below o p) e)) (and_right (same_variable v u) (offset_below o p) e)
  rise_cases Unknown (Const d) e = cc
  rise_cases Unknown (Formal j) e = cc
  rise_cases Unknown (FormalOp j other w) e = cc
  rise_cases Unknown (FormalAt j p) e = cc
  rise_cases Unknown (VariableAt u p) e = cc

above_unknown : (b : Symbol) → symbol_below Unknown b ≡ true → Unknown ≡ b
above_unknown (Const d) e = cc
above_unknown (Formal j) e = cc
above_unknown (FormalOp j other w) e = cc
above_unknown (FormalAt j p) e = cc
above_unknown (VariableAt u p) e = cc
above_unknown Unknown e = refl

known_offset : (b : Bool) (z : ℤ) → (b && offset_below None (Some z)) ≡ true → ⊥
known_offset true z e = cc
known_offset false z e = cc

antisymmetric : (a b : Symbol) → symbol_below a b ≡ true → symbol_below b a ≡ true → a ≡ b
antisymmetric a b p q = rise_cases (λ a b. symbol_below b a ≡ true → a ≡ b) (λ a e. refl) (λ a e. sym (above_unknown a e)) (λ i z e. absurd (known_offset (i == i) z e)) (λ v z e. absurd (known_offset (same_variable v v) z e)) a b p q

offset_more : (z : ℤ) (p : Option ℤ) (b : Bool) → (b && offset_below None p) ≡ true → (b && offset_below (Some z) p) ≡ true
offset_more z None b e = e
offset_more z (Some w) b e = absurd (known_offset b w e)

formal_more : (i : ℕ) (z : ℤ) (c : Symbol) → symbol_below (FormalAt i None) c ≡ true → symbol_below (FormalAt i (Some z)) c ≡ true
formal_more i z (Const d) e = cc
formal_more i z (Formal j) e = cc
formal_more i z (FormalOp j other w) e = cc
formal_more i z (FormalAt j p) e = offset_more z p (i == j) e
formal_more i z (VariableAt u p) e = cc
formal_more i z Unknown e = refl

variable_more : (v : Variable) (z : ℤ) (c : Symbol) → symbol_below (VariableAt v None) c ≡ true → symbol_below (VariableAt v (Some z)) c ≡ true
variable_more v z (Const d) e = cc
variable_more v z (Formal j) e = cc
variable_more v z (FormalOp j other w) e = cc
variable_more v z (FormalAt j p) e = cc
variable_more v z (VariableAt u p) e = offset_more z p (same_variable v u) e
variable_more v z Unknown e = refl

pub symbol_transitive : (a b c : Symbol) → symbol_below a b ≡ true → symbol_below b c ≡ true → symbol_below a c ≡ true
symbol_transitive a b c p q =
    rise_cases (λ a b. symbol_below b c ≡ true → symbol_below a c ≡ true) (λ a e. e) (λ a e. subst (λ x. symbol_below a x ≡ true) (above_unknown c e) (below_unknown a)) (λ i z e. formal_more i z c e) (λ v z e. variable_more v z c e) a b p q

-- ---- joins

joined_cases : (P : Symbol → Type 0) (a b : Symbol) → (symbol_below a b ≡ true → P b) → (symbol_below b a ≡ true → P a) → (symbol_below a b ≡ false → symbol_below b a ≡ false → P (widened a b)) → P (symbol_joined a b)
joined_cases P a b f g h = by (symbol_below a b) refl (symbol_below b a) refl
  where
    by : (s : Bool) → symbol_below a b ≡ s → (t : Bool) → symbol_below b a ≡ t → P (cond s b (cond t a (widened a b)))
    by true e t d = f e
    by false e true d = g d
    by false e false d = h e d

formal_wider : (i : ℕ) (o : Option ℤ) (b : Bool) → symbol_below (FormalAt i o) (cond b (FormalAt i None) Unknown) ≡ true
formal_wider i o true = both (i == i) (offset_below o None) (nat_self i) (any_offset o)
formal_wider i o false = refl

variable_wider : (v : Variable) (o : Option ℤ) (b : Bool) → symbol_below (VariableAt v o) (cond b (VariableAt v None) Unknown) ≡ true
variable_wider v o true = both (same_variable v v) (offset_below o None) (variable_self v) (any_offset o)
variable_wider v o false = refl

widened_left : (a b : Symbol) → symbol_below a (widened a b) ≡ true
widened_left (Const c) b = refl
widened_left (Formal i) b = refl
widened_left (FormalOp i op z) b = refl
widened_left (FormalAt i o) (Const d) = refl
widened_left (FormalAt i o) (Formal j) = refl
widened_left (FormalAt i o) (FormalOp j other w) = refl
widened_left (FormalAt i o) (FormalAt j p) = formal_wider i o (i == j)
widened_left (FormalAt i o) (VariableAt u p) = refl
widened_left (FormalAt i o) Unknown = refl
widened_left (VariableAt v o) (Const d) = refl
widened_left (VariableAt v o) (Formal j) = refl
widened_left (VariableAt v o) (FormalOp j other w) = refl
widened_left (VariableAt v o) (FormalAt j p) = refl
widened_left (VariableAt v o) (VariableAt u p) = variable_wider v o (same_variable v u)
widened_left (VariableAt v o) Unknown = refl
widened_left Unknown b = refl

formal_right : (i j : ℕ) (p : Option ℤ) (b : Bool) → (i == j) ≡ b → symbol_below (FormalAt j p) (cond b (FormalAt i None) Unknown) ≡ true
formal_right i j p true e = both (j == i) (offset_below p None) (eq-eqb j i (sym (eqb-true i j e))) (any_offset p)
formal_right i j p false e = refl

variable_right : (v u : Variable) (p : Option ℤ) (b : Bool) → same_variable v u ≡ b → symbol_below (VariableAt u p) (cond b (VariableAt v None) Unknown) ≡ true
variable_right v u p true e =
    subst (λ x. symbol_below (VariableAt u p) (VariableAt x None) ≡ true) (sym (variable_same v u e)) (both (same_variable u u) (offset_below p None) (variable_self u) (any_offset p))
variable_right v u p false e = refl

widened_right : (a b : Symbol) → symbol_below b (widened a b) ≡ true
widened_right (Const c) b = below_unknown b
widened_right (Formal i) b = below_unknown b
widened_right (FormalOp i op z) b = below_unknown b
widened_right (FormalAt i o) (Const d) = refl
widened_right (FormalAt i o) (Formal j) = refl
widened_right (FormalAt i o) (FormalOp j other w) = refl
widened_right (FormalAt i o) (FormalAt j p) = formal_right i j p (i == j) refl
widened_right (FormalAt i o) (VariableAt u p) = refl
widened_right (FormalAt i o) Unknown = refl
widened_right (VariableAt v o) (Const d) = refl
widened_right (VariableAt v o) (Formal j) = refl
widened_right (VariableAt v o) (FormalOp j other w) = refl
widened_right (VariableAt v o) (FormalAt j p) = refl
widened_right (VariableAt v o) (VariableAt u p) = variable_right v u p (same_variable v u) refl
widened_right (VariableAt v o) Unknown = refl
widened_right Unknown b = below_unknown b

formal_least : (i j : ℕ) (b : Bool) → (i == j) ≡ b → i ≡ j → symbol_below (cond b (FormalAt i None) Unknown) (FormalAt i None) ≡ true
formal_least i j true e m = symbol_self (FormalAt i None)
formal_least i j false e m = let t : (i == j) ≡ true = eq-eqb i j m in cc

variable_least : (v u : Variable) (b : Bool) → same_variable v u ≡ b → v ≡ u → symbol_below (cond b (VariableAt v None) Unknown) (VariableAt v None) ≡ true
variable_least v u true e m = symbol_self (VariableAt v None)
variable_least v u false e m = let t : same_variable v u ≡ true = subst (λ x. same_variable v x ≡ true) m (variable_self v) in cc

formal_both : (i : ℕ) (z : ℤ) (b : Symbol) → symbol_below b (FormalAt i None) ≡ true → symbol_below (widened (FormalAt i (Some z)) b) (FormalAt i None) ≡ true
formal_both i z (Const d) e = cc
formal_both i z (Formal j) e = cc
formal_both i z (FormalOp j other w) e = cc
formal_both i z (FormalAt j p) e = formal_least i j (i == j) refl (sym (eqb-true j i (and_left (j == i) (offset_below p None) e)))
formal_both i z (VariableAt u p) e = cc
formal_both i z Unknown e = cc

variable_both : (v : Variable) (z : ℤ) (b : Symbol) → symbol_below b (VariableAt v None) ≡ true → symbol_below (widened (VariableAt v (Some z)) b) (VariableAt v None) ≡ true
variable_both v z (Const d) e = cc
variable_both v z (Formal j) e = cc
variable_both v z (FormalOp j other w) e = cc
variable_both v z (FormalAt j p) e = cc
variable_both v z (VariableAt u p) e = variable_least v u (same_variable v u) refl (sym (variable_same u v (and_left (same_variable u v) (offset_below p None) e)))
variable_both v z Unknown e = cc

widened_least : (a b c : Symbol) → symbol_below a c ≡ true → symbol_below b c ≡ true → symbol_below b a ≡ false → symbol_below (widened a b) c ≡ true
widened_least a b c p q n =
    rise_cases (λ a c. symbol_below b c ≡ true → symbol_below b a ≡ false → symbol_below (widened a b) c ≡ true) (λ a e d. absurd (let t : true ≡ false = sym e ∙ d in cc)) (λ a e d. below_unknown (widened a b)) (λ i z e d. formal_both i z b e) (λ v z e d. variable_both v z b e) a c p q n

least_above : (a b c : Symbol) → symbol_below a c ≡ true → symbol_below b c ≡ true → symbol_below (symbol_joined a b) c ≡ true
least_above a b c p q = joined_cases (λ x. symbol_below x c ≡ true) a b (λ e. q) (λ e. p) (λ e d. widened_least a b c p q d)

-- any offset is above each one
pub same_base : (i : ℕ) (o : Option ℤ) → symbol_below (FormalAt i o) (FormalAt i None) ≡ true
same_base i o = both (i == i) (offset_below o None) (nat_self i) (any_offset o)

pub same_variable_base : (v : Variable) (o : Option ℤ) → symbol_below (VariableAt v o) (VariableAt v None) ≡ true
same_variable_base v o = both (same_variable v v) (offset_below o None) (variable_self v) (any_offset o)

-- ---- ranks

offset_bounded : (o : Option ℤ) → offset_rank o ≤ 2
offset_bounded None = omega arith
offset_bounded (Some z) = omega arith

offset_some : (o : Option ℤ) → 0 < offset_rank o
offset_some None = omega arith
offset_some (Some z) = omega arith

rank_bounded : (k : List ℕ) (a : Symbol) → symbol_rank k a ≤ 2
rank_bounded k (Const c) = omega arith
rank_bounded k (Formal i) = omega arith
rank_bounded k (FormalOp i op z) = omega arith
rank_bounded k (FormalAt i o) = offset_bounded o
rank_bounded k (VariableAt v o) = offset_bounded o
rank_bounded k Unknown = omega arith

rank_some : (k : List ℕ) (a : Symbol) → (a ≡ Unknown → ⊥) → 0 < symbol_rank k a
rank_some k (Const c) n = omega arith
rank_some k (Formal i) n = omega arith
rank_some k (FormalOp i op z) n = omega arith
rank_some k (FormalAt i o) n = offset_some o
rank_some k (VariableAt v o) n = offset_some o
rank_some k Unknown n = absurd (n refl)

rank_falls : (k : List ℕ) (a b : Symbol) → symbol_below a b ≡ true → a ≢ b → symbol_rank k b < symbol_rank k a
rank_falls k a b p n =
    rise_cases (λ a b. (a ≡ b → ⊥) → symbol_rank k b < symbol_rank k a) (λ a d. absurd (d refl)) (λ a d. rank_some k a d) (λ i z d. omega arith) (λ v z d. omega arith) a b p n

pub symbol_laws : LatticeLaws FitsSymbol symbol_height symbol_rank symbol_below symbol_joined
symbol_laws = record {
  reflexive = λ k a f. symbol_self a;
  antisymmetric = λ k a b f g p q. antisymmetric a b p q;
  transitive = λ k a b c f g h p q. symbol_transitive a b c p q;
  join_fits = λ k a b f g. tt;
  above_left = λ k a b f g. joined_cases (λ x. symbol_below a x ≡ true) a b (λ e. e) (λ e. symbol_self a) (λ e d. widened_left a b);
  above_right = λ k a b f g. joined_cases (λ x. symbol_below b x ≡ true) a b (λ e. symbol_self b) (λ e. e) (λ e d. widened_right a b);
  least_above = λ k a b c f g h p q. least_above a b c p q;
  rank_bounded = λ k a f. rank_bounded k a;
  rank_falls = λ k a b f g p n. rank_falls k a b p n;
}
