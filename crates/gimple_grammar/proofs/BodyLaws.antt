-- The readers of statements.
use Rattle.std.proofs.Common.{◌≡◌, ℕ, ◌==◌, Bool, true, false, not, List, [], ◌∷◌, ◌++◌, Option, Some, None, refl, sym, ap, ◌∙◌, append_assoc, inl, inr}
use Rattle.std.proofs.lemmas.Bool.{eqb-true}
use Rattle.std.proofs.lemmas.List.{append-nil}
use denote.Enum.Bare.{sameb}
use Rattle.gimple_tokens.specs.contracts.token.Symbol.{the_type}
use Rattle.gimple_ir.specs.declared.operand.Operand.{Operand}
use Rattle.gimple_ir.specs.declared.operand.Operand.TheVariants.{Reg, Number, Null, Address}
use Rattle.gimple_ir.specs.declared.operand.Place.{Place}
use Rattle.gimple_ir.specs.declared.scalar.Op.{Op}
use Rattle.gimple_ir.specs.declared.scalar.Cmp.{Cmp}
use Rattle.gimple_ir.specs.declared.scalar.Cmp.TheVariants as cmp
use Rattle.gimple_ir.specs.declared.scalar.Scalar.{Scalar}
use Rattle.gimple_ir.specs.declared.statement.Stmt.{Stmt}
use Rattle.gimple_ir.specs.declared.statement.Stmt.TheVariants.{Copy, Arith, Compare, Convert, Load, Store, Call, Indirect, Get, Put, Abort}
use Rattle.gimple_tokens.specs.declared.token.Symbol.{Symbol}
use Rattle.gimple_tokens.specs.declared.token.Symbol.TheVariants as s
use Rattle.gimple_tokens.specs.declared.token.Token.TheVariants as tok
use Rattle.token_law.specs.Reading.{Tokens, Parser, ◌>>=◌, pure, choose, many, lookup, sees, sees_name, sees_one, not_before, name}
use Rattle.token_law.proofs.ReadsExactly.{ReadsExactly, IsHeadTest, IsThen, IsEither, IsAllowed, IsPure, Avoids, never, pure_exact, then_exact, choose_exact, allowed_exact, recast, widen, front_avoids}
use Rattle.token_law.proofs.Many.{IsMore, many_exact}
use Rattle.token_law.proofs.Leaves.{sees_head, sees_name_head, sees_one_head, sees_self, sees_one_self, before_sees, before_other, seen_other, seen_one, fixed_exact, name_exact}
use Rattle.token_law.proofs.Lists.{after, then_symbol, ends_with}
use Rattle.gimple_grammar.specs.Grammar.{scalar_symbol, op_symbol, cmp_symbol, IsItem, IsOperand, IsArguments, IsPlace, mem_tokens, IsSimple, IsStmt}
use Rattle.gimple_grammar.specs.Readers.{ops, cmps, operator, comparison, sees_operator, sees_comparison, item, operand, arguments, place, indirect, begins_indirect, tail, after_name, convert, load, get, right_side, named, put, stop, store, simple, statement, begins_statement}
use Rattle.gimple_grammar.proofs.ValueLaws.{op_found, cmp_found, op_differs, cmp_differs, scalar_exact, operator_exact, comparison_exact, item_exact, item_no_name, item_avoids, item_operand, operand_exact, arguments_exact, place_exact, mem_exact}
use Rattle.gimple_grammar.proofs.SignatureLaws.{IsIndirect, indirect_exact}

pub semi_at : (rest : Tokens) → not_before s.Semi rest ≡ false → sees s.At rest ≡ false
semi_at rest e = before_other s.Semi s.At rest refl e

-- ---- the right side of an assignment

abbrev IsArith : List ℕ → Operand → Stmt → Tokens → Type 0
IsArith x left b ts = (o : Op) × (r : Operand) × (a : Tokens) × (b ≡ Arith x left o r) × IsOperand r a × (ts ≡ tok.Fixed (op_symbol o) ∷ a)

arith_exact : (x : List ℕ) (left : Operand) → ReadsExactly (operator >>= λ o. operand >>= λ right. pure (Arith x left o right)) (IsArith x left) (sees s.At)
arith_exact x left = recast (after operator_exact (λ o. ends_with (λ right. Arith x left o right) operand_exact))
    (λ b ts h. let r = h.4 in let g : h.2 ≡ r.1 = r.5 ∙ ap (λ y. r.1 ++ y) r.4.1 ∙ append-nil r.1 in (h.0, r.0, r.1, r.4.0, r.3, cc))
    (λ b ts h. (h.0, tok.Fixed (op_symbol h.0) ∷ [], h.2, refl, (h.1, h.2, [], h.4, (h.3, refl), sym (append-nil h.2)), h.5))

abbrev IsComparison : List ℕ → Operand → Stmt → Tokens → Type 0
IsComparison x left b ts = (c : Cmp) × (r : Operand) × (a : Tokens) × (b ≡ Compare x left c r) × IsOperand r a × (ts ≡ tok.Fixed (cmp_symbol c) ∷ a)

compare_exact : (x : List ℕ) (left : Operand) → ReadsExactly (comparison >>= λ c. operand >>= λ right. pure (Compare x left c right)) (IsComparison x left) (sees s.At)
compare_exact x left = recast (after comparison_exact (λ c. ends_with (λ right. Compare x left c right) operand_exact))
    (λ b ts h. let r = h.4 in let g : h.2 ≡ r.1 = r.5 ∙ ap (λ y. r.1 ++ y) r.4.1 ∙ append-nil r.1 in (h.0, r.0, r.1, r.4.0, r.3, cc))
    (λ b ts h. (h.0, tok.Fixed (cmp_symbol h.0) ∷ [], h.2, refl, (h.1, h.2, [], h.4, (h.3, refl), sym (append-nil h.2)), h.5))

cmp_no_op : (c : Cmp) (m : Tokens) → sees_one op_symbol ops (tok.Fixed (cmp_symbol c) ∷ m) ≡ false
cmp_no_op cmp.Eq m = refl
cmp_no_op cmp.Ne m = refl
cmp_no_op cmp.Lt m = refl
cmp_no_op cmp.Le m = refl
cmp_no_op cmp.Gt m = refl
cmp_no_op cmp.Ge m = refl

abbrev IsTail : List ℕ → Operand → Stmt → Tokens → Type 0
IsTail x left = IsEither (IsArith x left) (IsEither (IsComparison x left) (IsPure (Copy x left)))

tail_exact : (x : List ℕ) (left : Operand) → ReadsExactly (tail x left) (IsTail x left) (not_before s.Semi)
unfolding tail sees_operator sees_comparison
tail_exact x left = choose_exact sees_operator (sees_one_head op_symbol ops) _ _ (IsArith x left) (IsEither (IsComparison x left) (IsPure (Copy x left))) (not_before s.Semi)
    (widen (arith_exact x left) semi_at)
    (choose_exact sees_comparison (sees_one_head cmp_symbol cmps) _ _ (IsComparison x left) (IsPure (Copy x left)) (not_before s.Semi)
    (widen (compare_exact x left) semi_at)
    (widen (pure_exact (Copy x left)) (λ rest e. refl))
    (λ b pre rest h stop. rw h.5 (sees_one_self cmp_symbol cmps cmp_found h.0 (h.2 ++ rest)))
    (λ b pre rest h stop. rw h.1 (seen_one cmp_symbol cmps s.Semi rest refl (before_sees s.Semi rest stop))))
    (λ b pre rest h stop. rw h.5 (sees_one_self op_symbol ops op_found h.0 (h.2 ++ rest)))
    (λ b pre rest h stop. elim h [ inl c ↦ rw c.5 (cmp_no_op c.0 (c.2 ++ rest)) | inr d ↦ rw d.1 (seen_one op_symbol ops s.Semi rest refl (before_sees s.Semi rest stop)) ])

tail_avoids : (y : Symbol) → lookup op_symbol ops y ≡ None → lookup cmp_symbol cmps y ≡ None → sameb the_type s.Semi y ≡ false → (x : List ℕ) (left : Operand) (b : Stmt) (pre rest : Tokens) → IsTail x left b pre → not_before s.Semi rest ≡ false → sees y (pre ++ rest) ≡ false
tail_avoids y e f g x left b pre rest h stop =
    elim h [
      | inl a ↦ rw a.5 (op_differs y e a.0 (a.2 ++ rest))
      | inr k ↦ elim k [ inl c ↦ rw c.5 (cmp_differs y f c.0 (c.2 ++ rest)) | inr d ↦ rw d.1 (before_other s.Semi y rest g stop) ]
    ]

abbrev IsCall : Option (List ℕ) → List ℕ → Stmt → Tokens → Type 0
IsCall to f b ts = (xs : List Operand) × (b ≡ Call to f xs) × IsArguments xs ts

call_exact : (to : Option (List ℕ)) (f : List ℕ) → ReadsExactly (arguments >>= λ xs. pure (Call to f xs)) (IsCall to f) never
call_exact to f = recast (after arguments_exact (λ xs. pure_exact (Call to f xs)))
    (λ b ts h. (h.0, h.4.0, let e : ts ≡ h.1 = h.5 ∙ ap (λ y. h.1 ++ y) h.4.1 ∙ append-nil h.1 in rw e h.3))
    (λ b ts h. (h.0, ts, [], h.2, (h.1, refl), sym (append-nil ts)))

abbrev IsAfterName : List ℕ → List ℕ → Stmt → Tokens → Type 0
IsAfterName x y = IsEither (IsCall (Some x) y) (IsTail x (Reg y))

after_name_exact : (x y : List ℕ) → ReadsExactly (after_name x y) (IsAfterName x y) (not_before s.Semi)
unfolding after_name
after_name_exact x y = choose_exact (sees s.Open) (sees_head s.Open) _ _ (IsCall (Some x) y) (IsTail x (Reg y)) (not_before s.Semi)
    (widen (call_exact (Some x) y) (λ rest e. refl))
    (tail_exact x (Reg y))
    (λ b pre rest h stop. rw h.2.2 (sees_self s.Open ((h.2.0 ++ tok.Fixed s.Close ∷ []) ++ rest)))
    (λ b pre rest h stop. tail_avoids s.Open refl refl refl x (Reg y) b pre rest h stop)

abbrev IsFromName : List ℕ → Stmt → Tokens → Type 0
IsFromName x b ts = (y : List ℕ) × (a : Tokens) × IsAfterName x y b a × (ts ≡ tok.Name y ∷ a)

from_name_exact : (x : List ℕ) → ReadsExactly (name >>= λ y. after_name x y) (IsFromName x) (not_before s.Semi)
from_name_exact x = recast (after name_exact (λ y. after_name_exact x y))
    (λ b ts h. (h.0, h.2, h.4, cc))
    (λ b ts h. (h.0, tok.Name h.0 ∷ [], h.1, refl, h.2, h.3))

abbrev IsConvert : List ℕ → Stmt → Tokens → Type 0
IsConvert x b ts = (k : Scalar) × (o : Operand) × (a : Tokens) × (b ≡ Convert x k o) × IsOperand o a × (ts ≡ tok.Fixed s.Open ∷ tok.Fixed (scalar_symbol k) ∷ tok.Fixed s.Close ∷ a)

convert_exact : (x : List ℕ) → ReadsExactly (convert x) (IsConvert x) (sees s.At)
unfolding convert
convert_exact x = recast (after (fixed_exact s.Open) (λ _. after scalar_exact (λ k. after (fixed_exact s.Close) (λ _. ends_with (λ from. Convert x k from) operand_exact))))
    (λ b ts h.
    let k = h.4 in
    let o = k.4.4 in
    let g : k.4.2 ≡ o.1 = o.5 ∙ ap (λ y. o.1 ++ y) o.4.1 ∙ append-nil o.1 in
    (k.0, o.0, o.1, o.4.0, o.3, cc))
    (λ b ts h. (
      tt,
      tok.Fixed s.Open ∷ [],
      tok.Fixed (scalar_symbol h.0) ∷ tok.Fixed s.Close ∷ h.2,
      refl,
      (h.0, tok.Fixed (scalar_symbol h.0) ∷ [], tok.Fixed s.Close ∷ h.2, refl, (tt, tok.Fixed s.Close ∷ [], h.2, refl, (h.1, h.2, [], h.4, (h.3, refl), sym (append-nil h.2)), refl), refl),
      h.5,
    ))

abbrev IsLoad : List ℕ → Stmt → Tokens → Type 0
IsLoad x b ts = (k : Scalar) × (p : Place) × (a : Tokens) × (b ≡ Load x k p) × IsPlace p a × (ts ≡ mem_tokens k ++ a)

load_exact : (x : List ℕ) → ReadsExactly (load x) (IsLoad x) never
unfolding load
load_exact x = recast (after mem_exact (λ k. ends_with (λ p. Load x k p) place_exact))
    (λ b ts h. let p = h.4 in let g : h.2 ≡ p.1 = p.5 ∙ ap (λ y. p.1 ++ y) p.4.1 ∙ append-nil p.1 in (h.0, p.0, p.1, p.4.0, p.3, cc))
    (λ b ts h. (h.0, mem_tokens h.0, h.2, refl, (h.1, h.2, [], h.4, (h.3, refl), sym (append-nil h.2)), h.5))

abbrev IsGet : List ℕ → Stmt → Tokens → Type 0
IsGet x b ts = (b ≡ Get x) × (ts ≡ tok.Fixed s.Getint ∷ tok.Fixed s.Open ∷ tok.Fixed s.Close ∷ [])

get_exact : (x : List ℕ) → ReadsExactly (get x) (IsGet x) never
unfolding get
get_exact x = recast (after (fixed_exact s.Getint) (λ _. after (fixed_exact s.Open) (λ _. after (fixed_exact s.Close) (λ _. pure_exact (Get x)))))
    (λ b ts h. (h.4.4.4.0, cc))
    (λ b ts h. (tt, tok.Fixed s.Getint ∷ [], tok.Fixed s.Open ∷ tok.Fixed s.Close ∷ [], refl, (tt, tok.Fixed s.Open ∷ [], tok.Fixed s.Close ∷ [], refl, (tt, tok.Fixed s.Close ∷ [], [], refl, (h.0, refl), refl), refl), h.1))

abbrev IsFromItem : List ℕ → Stmt → Tokens → Type 0
IsFromItem x = IsThen IsItem (λ o. IsTail x o)

from_item_exact : (x : List ℕ) → ReadsExactly (item >>= λ left. tail x left) (IsFromItem x) (not_before s.Semi)
from_item_exact x = then_exact item _ _ _ (sees s.At) (not_before s.Semi) item_exact (λ o. tail_exact x o) (λ o b y rest h stop. tail_avoids s.At refl refl refl x o b y rest h stop)

-- an item comes first
item_first : (test : Tokens → Bool) → Avoids test IsItem → (x : List ℕ) (b : Stmt) (pre rest : Tokens) → IsFromItem x b pre → test (pre ++ rest) ≡ false
item_first test avoids x b pre rest h = front_avoids test IsItem avoids h.0 h.1 h.2 pre rest h.3 h.5

-- an indirect call where the profile has them
abbrev IsAllowedCall : ℕ → Option (List ℕ) → Stmt → Tokens → Type 0
IsAllowedCall profile to = IsAllowed (profile == 2) (IsIndirect to)

abbrev Right5 : ℕ → List ℕ → Stmt → Tokens → Type 0
Right5 profile x = IsEither (IsAllowedCall profile (Some x)) (IsFromItem x)

abbrev Right4 : ℕ → List ℕ → Stmt → Tokens → Type 0
Right4 profile x = IsEither (IsGet x) (Right5 profile x)

abbrev Right3 : ℕ → List ℕ → Stmt → Tokens → Type 0
Right3 profile x = IsEither (IsLoad x) (Right4 profile x)

abbrev Right2 : ℕ → List ℕ → Stmt → Tokens → Type 0
Right2 profile x = IsEither (IsConvert x) (Right3 profile x)

abbrev IsRight : ℕ → List ℕ → Stmt → Tokens → Type 0
IsRight profile x = IsEither (IsFromName x) (Right2 profile x)

-- a star or an item comes first
right5_first : (test : Tokens → Bool) → ((m : Tokens) → test (tok.Fixed s.Star ∷ m) ≡ false) → Avoids test IsItem → (profile : ℕ) (x : List ℕ) (b : Stmt) (pre rest : Tokens) → Right5 profile x b pre → test (pre ++ rest) ≡ false
right5_first test star avoids profile x b pre rest h = elim h [ inl i ↦ rw i.1.8 (star _) | inr c ↦ item_first test avoids x b pre rest c ]

abbrev read5 : ℕ → List ℕ → Parser Stmt
read5 profile x = choose (begins_indirect profile) (indirect (Some x)) (item >>= λ left. tail x left)

abbrev read4 : ℕ → List ℕ → Parser Stmt
read4 profile x = choose (sees s.Getint) (get x) (read5 profile x)

abbrev read3 : ℕ → List ℕ → Parser Stmt
read3 profile x = choose (sees s.Mem) (load x) (read4 profile x)

right5_exact : (profile : ℕ) (x : List ℕ) → ReadsExactly (read5 profile x) (Right5 profile x) (not_before s.Semi)
right5_exact profile x = allowed_exact (sees s.Star) (sees_head s.Star) _ _ (IsIndirect (Some x)) (IsFromItem x) (not_before s.Semi) (profile == 2)
    (widen (indirect_exact (Some x)) (λ rest e. refl))
    (from_item_exact x)
    (λ b pre rest h stop. rw h.8 (sees_self s.Star _))
    (λ b pre rest h stop. item_first (sees s.Star) (item_avoids s.Star refl refl refl) x b pre rest h)

right4_exact : (profile : ℕ) (x : List ℕ) → ReadsExactly (read4 profile x) (Right4 profile x) (not_before s.Semi)
unfolding sees
right4_exact profile x = choose_exact (sees s.Getint) (sees_head s.Getint) _ _ (IsGet x) (Right5 profile x) (not_before s.Semi)
    (widen (get_exact x) (λ rest e. refl))
    (right5_exact profile x)
    (λ b pre rest h stop. rw h.1 refl)
    (λ b pre rest h stop. right5_first (sees s.Getint) (λ m. refl) (item_avoids s.Getint refl refl refl) profile x b pre rest h)

right3_exact : (profile : ℕ) (x : List ℕ) → ReadsExactly (read3 profile x) (Right3 profile x) (not_before s.Semi)
unfolding sees
right3_exact profile x = choose_exact (sees s.Mem) (sees_head s.Mem) _ _ (IsLoad x) (Right4 profile x) (not_before s.Semi)
    (widen (load_exact x) (λ rest e. refl))
    (right4_exact profile x)
    (λ b pre rest h stop. rw h.5 refl)
    (λ b pre rest h stop. elim h [ inl a ↦ rw a.1 refl | inr c ↦ right5_first (sees s.Mem) (λ m. refl) (item_avoids s.Mem refl refl refl) profile x b pre rest c ])

right2_exact : (profile : ℕ) (x : List ℕ) → ReadsExactly (choose (sees s.Open) (convert x) (read3 profile x)) (Right2 profile x) (not_before s.Semi)
unfolding sees
right2_exact profile x = choose_exact (sees s.Open) (sees_head s.Open) _ _ (IsConvert x) (Right3 profile x) (not_before s.Semi)
    (widen (convert_exact x) semi_at)
    (right3_exact profile x)
    (λ b pre rest h stop. rw h.5 refl)
    (λ b pre rest h stop. elim h [ inl l ↦ rw l.5 refl | inr k ↦ elim k [ inl a ↦ rw a.1 refl | inr c ↦ right5_first (sees s.Open) (λ m. refl) (item_avoids s.Open refl refl refl) profile x b pre rest c ] ])

right_exact : (profile : ℕ) (x : List ℕ) → ReadsExactly (right_side profile x) (IsRight profile x) (not_before s.Semi)
unfolding right_side sees_name
right_exact profile x = choose_exact sees_name sees_name_head _ _ (IsFromName x) (Right2 profile x) (not_before s.Semi)
    (from_name_exact x)
    (right2_exact profile x)
    (λ b pre rest h stop. rw h.3 refl)
    (λ b pre rest h stop. elim h [ inl v ↦ rw v.5 refl | inr w ↦ elim w [ inl l ↦ rw l.5 refl | inr k ↦ elim k [ inl a ↦ rw a.1 refl | inr c ↦ right5_first sees_name (λ m. refl) item_no_name profile x b pre rest c ] ] ])

-- ---- statements

abbrev IsAssigned : ℕ → List ℕ → Stmt → Tokens → Type 0
IsAssigned profile x b ts = (a : Tokens) × IsRight profile x b a × (ts ≡ tok.Fixed s.Assign ∷ a)

abbrev IsNamed : ℕ → List ℕ → Stmt → Tokens → Type 0
IsNamed profile x = IsEither (IsAssigned profile x) (IsCall None x)

named_exact : (profile : ℕ) (x : List ℕ) → ReadsExactly (named profile x) (IsNamed profile x) (not_before s.Semi)
unfolding named sees
named_exact profile x = choose_exact (sees s.Assign) (sees_head s.Assign) _ _ (IsAssigned profile x) (IsCall None x) (not_before s.Semi)
    (recast (after (fixed_exact s.Assign) (λ _. right_exact profile x))
    (λ b ts h. (h.2, h.4, cc))
    (λ b ts h. (tt, tok.Fixed s.Assign ∷ [], h.0, refl, h.1, h.2)))
    (widen (call_exact None x) (λ rest e. refl))
    (λ b pre rest h stop. rw h.2 (sees_self s.Assign (h.0 ++ rest)))
    (λ b pre rest h stop. rw h.2.2 refl)

abbrev IsPut : Stmt → Tokens → Type 0
IsPut b ts = (o : Operand) × (a : Tokens) × (b ≡ Put o) × IsOperand o a × (ts ≡ tok.Fixed s.Putint ∷ tok.Fixed s.Open ∷ a ++ tok.Fixed s.Close ∷ [])

put_exact : ReadsExactly put IsPut never
unfolding put
put_exact = recast (after (fixed_exact s.Putint) (λ _. after (fixed_exact s.Open) (λ _. then_symbol s.Close operand_exact (λ rest e. seen_other s.Close s.At rest refl e) (λ x. pure_exact (Put x)))))
    (λ b ts h.
    let o = h.4.4 in
    let e : ts ≡ tok.Fixed s.Putint ∷ tok.Fixed s.Open ∷ h.4.2 = cc in
    let f : o.2 ≡ tok.Fixed s.Close ∷ [] = cc in
    (o.0, o.1, o.4.4.0, o.3, e ∙ ap (λ y. tok.Fixed s.Putint ∷ tok.Fixed s.Open ∷ y) (o.5 ∙ ap (λ y. o.1 ++ y) f)))
    (λ b ts h. (
      tt,
      tok.Fixed s.Putint ∷ [],
      tok.Fixed s.Open ∷ h.1 ++ tok.Fixed s.Close ∷ [],
      refl,
      (
        tt,
        tok.Fixed s.Open ∷ [],
        h.1 ++ tok.Fixed s.Close ∷ [],
        refl,
        (h.0, h.1, tok.Fixed s.Close ∷ [], h.3, (tt, tok.Fixed s.Close ∷ [], [], refl, (h.2, refl), refl), refl),
        refl,
      ),
      h.4,
    ))

abbrev IsStop : Stmt → Tokens → Type 0
IsStop b ts = (b ≡ Abort) × (ts ≡ tok.Fixed s.Abort ∷ tok.Fixed s.Open ∷ tok.Fixed s.Close ∷ [])

stop_exact : ReadsExactly stop IsStop never
unfolding stop
stop_exact = recast (after (fixed_exact s.Abort) (λ _. after (fixed_exact s.Open) (λ _. after (fixed_exact s.Close) (λ _. pure_exact Abort))))
    (λ b ts h. (h.4.4.4.0, cc))
    (λ b ts h. (tt, tok.Fixed s.Abort ∷ [], tok.Fixed s.Open ∷ tok.Fixed s.Close ∷ [], refl, (tt, tok.Fixed s.Open ∷ [], tok.Fixed s.Close ∷ [], refl, (tt, tok.Fixed s.Close ∷ [], [], refl, (h.0, refl), refl), refl), h.1))

abbrev IsStore : Stmt → Tokens → Type 0
IsStore b ts = (k : Scalar) × (p : Place) × (o : Operand) × (a : Tokens) × (c : Tokens) × (b ≡ Store k p o) × IsPlace p a × IsOperand o c × (ts ≡ mem_tokens k ++ (a ++ tok.Fixed s.Assign ∷ c))

store_exact : ReadsExactly store IsStore (sees s.At)
unfolding store
store_exact = recast (after mem_exact (λ k. after place_exact (λ p. after (fixed_exact s.Assign) (λ _. ends_with (λ from. Store k p from) operand_exact))))
    (λ b ts h.
    let p = h.4 in
    let o = p.4.4 in
    let g : p.4.2 ≡ o.1 = o.5 ∙ ap (λ y. o.1 ++ y) o.4.1 ∙ append-nil o.1 in
    let f : p.2 ≡ tok.Fixed s.Assign ∷ o.1 = cc in
    (h.0, p.0, o.0, p.1, o.1, o.4.0, p.3, o.3, cc))
    (λ b ts h. (
      h.0,
      mem_tokens h.0,
      h.3 ++ tok.Fixed s.Assign ∷ h.4,
      refl,
      (h.1, h.3, tok.Fixed s.Assign ∷ h.4, h.6, (tt, tok.Fixed s.Assign ∷ [], h.4, refl, (h.2, h.4, [], h.7, (h.5, refl), sym (append-nil h.4)), refl), refl),
      h.8,
    ))

abbrev IsOther : ℕ → Stmt → Tokens → Type 0
IsOther profile b ts = (x : List ℕ) × (a : Tokens) × IsNamed profile x b a × (ts ≡ tok.Name x ∷ a)

abbrev Simples4 : ℕ → Stmt → Tokens → Type 0
Simples4 profile = IsEither (IsAllowedCall profile None) (IsOther profile)

abbrev Simples : ℕ → Stmt → Tokens → Type 0
Simples profile = IsEither IsPut (IsEither IsStop (IsEither IsStore (Simples4 profile)))

tail_to : (profile : ℕ) (x : List ℕ) (left : Operand) (b : Stmt) (o c ts : Tokens) → IsOperand left o → IsTail x left b c → ts ≡ tok.Name x ∷ tok.Fixed s.Assign ∷ o ++ c → IsSimple profile b ts
tail_to profile x left b o c ts io h e =
    elim h [
      | inl p ↦ rw p.3 (o, p.2, io, p.4, e ∙ ap (λ y. tok.Name x ∷ tok.Fixed s.Assign ∷ o ++ y) p.5)
      | inr q ↦
          elim q [
            | inl m ↦ rw m.3 (o, m.2, io, m.4, e ∙ ap (λ y. tok.Name x ∷ tok.Fixed s.Assign ∷ o ++ y) m.5)
            | inr r ↦ rw r.0 (o, io, e ∙ ap (λ y. tok.Name x ∷ tok.Fixed s.Assign ∷ o ++ y) r.1 ∙ ap (λ y. tok.Name x ∷ tok.Fixed s.Assign ∷ y) (append-nil o))
          ]
    ]

from_name_to : (profile : ℕ) (x : List ℕ) (b : Stmt) (a ts : Tokens) → IsFromName x b a → ts ≡ tok.Name x ∷ tok.Fixed s.Assign ∷ a → IsSimple profile b ts
from_name_to profile x b a ts p e =
    elim p.2 [
      | inl q ↦ rw q.1 (p.1, q.2, e ∙ ap (λ y. tok.Name x ∷ tok.Fixed s.Assign ∷ y) p.3)
      | inr q ↦ tail_to profile x (Reg p.0) b (tok.Name p.0 ∷ []) p.1 ts refl q (e ∙ ap (λ y. tok.Name x ∷ tok.Fixed s.Assign ∷ y) p.3)
    ]

right5_to : (profile : ℕ) (x : List ℕ) (b : Stmt) (a ts : Tokens) → Right5 profile x b a → ts ≡ tok.Name x ∷ tok.Fixed s.Assign ∷ a → IsSimple profile b ts
right5_to profile x b a ts h e =
    elim h [
      | inl i ↦ let v = i.1 in rw v.5 (v.3, v.4, v.6, v.7, e ∙ ap (λ y. tok.Name x ∷ tok.Fixed s.Assign ∷ y) v.8, eqb-true profile 2 i.0)
      | inr p ↦ tail_to profile x p.0 b p.1 p.2 ts (item_operand p.0 p.1 p.3) p.4 (e ∙ ap (λ y. tok.Name x ∷ tok.Fixed s.Assign ∷ y) p.5)
    ]

right_to : (profile : ℕ) (x : List ℕ) (b : Stmt) (a ts : Tokens) → IsRight profile x b a → ts ≡ tok.Name x ∷ tok.Fixed s.Assign ∷ a → IsSimple profile b ts
right_to profile x b a ts h e =
    elim h [
      | inl p ↦ from_name_to profile x b a ts p e
      | inr k ↦
          elim k [
            | inl v ↦ rw v.3 (v.2, v.4, e ∙ ap (λ y. tok.Name x ∷ tok.Fixed s.Assign ∷ y) v.5)
            | inr k ↦
                elim k [
                  | inl l ↦ rw l.3 (l.2, l.4, e ∙ ap (λ y. tok.Name x ∷ tok.Fixed s.Assign ∷ y) l.5)
                  | inr k ↦
                      elim k [
                        | inl g ↦ rw g.0 (e ∙ ap (λ y. tok.Name x ∷ tok.Fixed s.Assign ∷ y) g.1)
                        | inr k ↦ right5_to profile x b a ts k e
                      ]
                ]
          ]
    ]

simples4_to : (profile : ℕ) (b : Stmt) (ts : Tokens) → Simples4 profile b ts → IsSimple profile b ts
simples4_to profile b ts h =
    elim h [
      | inl i ↦ let v = i.1 in rw v.5 (v.3, v.4, v.6, v.7, v.8, eqb-true profile 2 i.0)
      | inr p ↦
          elim p.2 [
            | inl q ↦ right_to profile p.0 b q.0 ts q.1 (p.3 ∙ ap (λ y. tok.Name p.0 ∷ y) q.2)
            | inr q ↦ rw q.1 (p.1, q.2, p.3)
          ]
    ]

simple_to : (profile : ℕ) (b : Stmt) (ts : Tokens) → Simples profile b ts → IsSimple profile b ts
simple_to profile b ts h =
    elim h [
      | inl p ↦ rw p.2 (p.1, p.3, p.4)
      | inr k ↦
          elim k [
            | inl a ↦ rw a.0 a.1
            | inr k ↦
                elim k [
                  | inl m ↦ rw m.5 (m.3, m.4, m.6, m.7, m.8)
                  | inr k ↦ simples4_to profile b ts k
                ]
          ]
    ]

-- an assignment, from its right side
assigned : (profile : ℕ) (x : List ℕ) (b : Stmt) (a ts : Tokens) → IsRight profile x b a → ts ≡ tok.Name x ∷ tok.Fixed s.Assign ∷ a → Simples profile b ts
assigned profile x b a ts h e = inr (inr (inr (inr (x, tok.Fixed s.Assign ∷ a, inl (a, h, refl), e))))

allowed : (profile : ℕ) → profile ≡ 2 → (profile == 2) ≡ true
allowed profile e = rw e refl

-- a right side, from its first operand and the rest
right_from : (profile : ℕ) (x : List ℕ) (left : Operand) (b : Stmt) (o c : Tokens) → IsOperand left o → IsTail x left b c → IsRight profile x b (o ++ c)
right_from profile x (Reg y) b o c io h = inl (y, c, inr h, ap (λ z. z ++ c) io)
right_from profile x (Number z) b o c io h = inr (inr (inr (inr (inr (Number z, o, c, io, h, refl)))))
right_from profile x Null b o c io h = inr (inr (inr (inr (inr (Null, o, c, io, h, refl)))))
right_from profile x (Address y z) b o c io h = inr (inr (inr (inr (inr (Address y z, o, c, io, h, refl)))))

simple_from : (profile : ℕ) (b : Stmt) (ts : Tokens) → IsSimple profile b ts → Simples profile b ts
simple_from profile (Copy x from) ts h = assigned profile x (Copy x from) (h.0 ++ []) ts (right_from profile x from (Copy x from) h.0 [] h.1 (inr (inr (refl, refl)))) (h.2 ∙ ap (λ y. tok.Name x ∷ tok.Fixed s.Assign ∷ y) (sym (append-nil h.0)))
simple_from profile (Arith x l o r) ts h = assigned profile x (Arith x l o r) (h.0 ++ tok.Fixed (op_symbol o) ∷ h.1) ts (right_from profile x l (Arith x l o r) h.0 (tok.Fixed (op_symbol o) ∷ h.1) h.2 (inl (o, r, h.1, refl, h.3, refl))) h.4
simple_from profile (Compare x l c r) ts h = assigned profile x (Compare x l c r) (h.0 ++ tok.Fixed (cmp_symbol c) ∷ h.1) ts (right_from profile x l (Compare x l c r) h.0 (tok.Fixed (cmp_symbol c) ∷ h.1) h.2 (inr (inl (c, r, h.1, refl, h.3, refl)))) h.4
simple_from profile (Convert x k from) ts h = assigned profile x (Convert x k from) (tok.Fixed s.Open ∷ tok.Fixed (scalar_symbol k) ∷ tok.Fixed s.Close ∷ h.0) ts (inr (inl (k, from, h.0, refl, h.1, refl))) h.2
simple_from profile (Load x k place) ts h = assigned profile x (Load x k place) (mem_tokens k ++ h.0) ts (inr (inr (inl (k, place, h.0, refl, h.1, refl)))) h.2
simple_from profile (Store k place from) ts h = inr (inr (inl (k, place, from, h.0, h.1, refl, h.2, h.3, h.4)))
simple_from profile (Call None f xs) ts h = inr (inr (inr (inr (f, h.0, inr (xs, refl, h.1), h.2))))
simple_from profile (Call (Some x) f xs) ts h = assigned profile x (Call (Some x) f xs) (tok.Name f ∷ h.0) ts (inl (f, h.0, inl (xs, refl, h.1), refl)) h.2
simple_from profile (Indirect None g y xs) ts h = inr (inr (inr (inl (allowed profile h.5, (g, y, xs, h.0, h.1, refl, h.2, h.3, h.4)))))
simple_from profile (Indirect (Some x) g y xs) ts h = assigned profile x (Indirect (Some x) g y xs) (tok.Fixed s.Star ∷ h.0 ++ (tok.Name y ∷ h.1)) ts (inr (inr (inr (inr (inl (allowed profile h.5, (g, y, xs, h.0, h.1, refl, h.2, h.3, refl))))))) h.4
simple_from profile (Get x) ts h = assigned profile x (Get x) (tok.Fixed s.Getint ∷ tok.Fixed s.Open ∷ tok.Fixed s.Close ∷ []) ts (inr (inr (inr (inl (refl, refl))))) h
simple_from profile (Put from) ts h = inl (from, h.0, refl, h.1, h.2)
simple_from profile Abort ts h = inr (inl (refl, h))

other_exact : (profile : ℕ) → ReadsExactly (name >>= λ x. named profile x) (IsOther profile) (not_before s.Semi)
other_exact profile = recast (after name_exact (named_exact profile))
    (λ b ts h. (h.0, h.2, h.4, cc))
    (λ b ts h. (h.0, tok.Name h.0 ∷ [], h.1, refl, h.2, h.3))

simples4_exact : (profile : ℕ) → ReadsExactly (choose (begins_indirect profile) (indirect None) (name >>= λ x. named profile x)) (Simples4 profile) (not_before s.Semi)
unfolding sees
simples4_exact profile = allowed_exact (sees s.Star) (sees_head s.Star) _ _ (IsIndirect None) (IsOther profile) (not_before s.Semi) (profile == 2)
    (widen (indirect_exact None) (λ rest e. refl))
    (other_exact profile)
    (λ b pre rest h stop. rw h.8 refl)
    (λ b pre rest h stop. rw h.3 refl)

-- a star or a name comes first
simples4_first : (test : Tokens → Bool) → ((m : Tokens) → test (tok.Fixed s.Star ∷ m) ≡ false) → ((x : List ℕ) (m : Tokens) → test (tok.Name x ∷ m) ≡ false) → (profile : ℕ) (b : Stmt) (pre rest : Tokens) → Simples4 profile b pre → test (pre ++ rest) ≡ false
simples4_first test star named profile b pre rest h = elim h [ inl i ↦ rw i.1.8 (star _) | inr o ↦ rw o.3 (named o.0 _) ]

simple_exact : (profile : ℕ) → ReadsExactly (simple profile) (IsSimple profile) (not_before s.Semi)
unfolding simple sees
simple_exact profile = recast (choose_exact (sees s.Putint) (sees_head s.Putint) _ _ IsPut (IsEither IsStop (IsEither IsStore (Simples4 profile))) (not_before s.Semi)
    (widen put_exact (λ rest e. refl))
    (choose_exact (sees s.Abort) (sees_head s.Abort) _ _ IsStop (IsEither IsStore (Simples4 profile)) (not_before s.Semi)
    (widen stop_exact (λ rest e. refl))
    (choose_exact (sees s.Mem) (sees_head s.Mem) _ _ IsStore (Simples4 profile) (not_before s.Semi)
    (widen store_exact semi_at)
    (simples4_exact profile)
    (λ b pre rest h stop. rw h.8 refl)
    (λ b pre rest h stop. simples4_first (sees s.Mem) (λ m. refl) (λ x m. refl) profile b pre rest h))
    (λ b pre rest h stop. rw h.1 refl)
    (λ b pre rest h stop. elim h [ inl m ↦ rw m.8 refl | inr o ↦ simples4_first (sees s.Abort) (λ m. refl) (λ x m. refl) profile b pre rest o ]))
    (λ b pre rest h stop. rw h.4 refl)
    (λ b pre rest h stop. elim h [ inl a ↦ rw a.1 refl | inr k ↦ elim k [ inl m ↦ rw m.8 refl | inr o ↦ simples4_first (sees s.Putint) (λ m. refl) (λ x m. refl) profile b pre rest o ] ]))
    (simple_to profile) (simple_from profile)

pub statement_exact : (profile : ℕ) → ReadsExactly (statement profile) (IsStmt profile) never
unfolding statement
statement_exact profile = recast (then_symbol s.Semi (simple_exact profile) (λ rest e. ap not e) (λ found. pure_exact found))
    (λ b ts h. (h.1, rw h.4.4.0 h.3, let f : h.2 ≡ tok.Fixed s.Semi ∷ [] = cc in h.5 ∙ ap (λ y. h.1 ++ y) f))
    (λ b ts h. (b, h.0, tok.Fixed s.Semi ∷ [], h.1, (tt, tok.Fixed s.Semi ∷ [], [], refl, (refl, refl), refl), h.2))

-- what a statement begins with
simple_begins : (profile : ℕ) (b : Stmt) (pre rest : Tokens) → IsSimple profile b pre → begins_statement profile (pre ++ rest) ≡ true
unfolding sees sees_name
simple_begins profile (Copy x from) pre rest h = rw h.2 refl
simple_begins profile (Arith x l o r) pre rest h = rw h.4 refl
simple_begins profile (Compare x l c r) pre rest h = rw h.4 refl
simple_begins profile (Convert x k from) pre rest h = rw h.2 refl
simple_begins profile (Load x k place) pre rest h = rw h.2 refl
simple_begins profile (Store k place from) pre rest h = rw h.4 refl
simple_begins profile (Call None f xs) pre rest h = rw h.2 refl
simple_begins profile (Call (Some x) f xs) pre rest h = rw h.2 refl
simple_begins profile (Indirect None g y xs) pre rest h = rw h.4 (allowed profile h.5)
simple_begins profile (Indirect (Some x) g y xs) pre rest h = rw h.4 refl
simple_begins profile (Get x) pre rest h = rw h refl
simple_begins profile (Put from) pre rest h = rw h.2 refl
simple_begins profile Abort pre rest h = rw h refl

statement_begins : (profile : ℕ) (b : Stmt) (pre rest : Tokens) → IsStmt profile b pre → begins_statement profile (pre ++ rest) ≡ true
statement_begins profile b pre rest h = let e : pre ++ rest ≡ h.0 ++ (tok.Fixed s.Semi ∷ [] ++ rest) = rw h.2 (append_assoc h.0 (tok.Fixed s.Semi ∷ []) rest) in rw e (simple_begins profile b h.0 (tok.Fixed s.Semi ∷ [] ++ rest) h.1)

begins_head : (profile : ℕ) → IsHeadTest (begins_statement profile)
unfolding sees sees_name
begins_head profile = record { none = refl; same = λ t m m'. elim t as (λ t. begins_statement profile (t ∷ m) ≡ begins_statement profile (t ∷ m')) [ tok.Name n ↦ refl | tok.Number n ↦ refl | tok.Huge ↦ refl | tok.Fixed y ↦ refl ] }

pub statements_exact : (profile : ℕ) → ReadsExactly (many (begins_statement profile) (statement profile) []) (IsMore (IsStmt profile) []) (begins_statement profile)
statements_exact profile = many_exact (begins_statement profile) (begins_head profile) (statement profile) (IsStmt profile) never (begins_statement profile) (statement_exact profile) (statement_begins profile) (λ ts e. refl) (λ rest e. e) (λ rest e. refl) []
