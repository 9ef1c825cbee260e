-- A program has no more gifts than its calls by name have arguments.
use Rattle.std.proofs.Common.{◌≡◌, ℕ, zero, suc, ◌≤◌, List, [], ◌∷◌, ◌++◌, append_assoc, length, length-append, sum_by, Option, Some, None, refl, sym, ◌∙◌, ap, subst, arith, slice_get}
use Rattle.std.specs.Prelude.{position, slice_index_or}
use Rattle.std.specs.Str.{bytes_eq}
use Rattle.std.proofs.lemmas.List.Sums.{sum_by-cons}
use Rattle.gimple_ir.specs.declared.block.Block.{Block}
use Rattle.gimple_ir.specs.declared.declarations.Register.{Register}
use Rattle.gimple_ir.specs.declared.operand.Operand.{Operand}
use Rattle.gimple_ir.specs.declared.point.Point.{Point}
use Rattle.gimple_ir.specs.declared.program.Function.{Function}
use Rattle.gimple_ir.specs.declared.statement.Stmt.{Stmt}
use Rattle.gimple_ir.specs.declared.statement.Stmt.TheVariants.{Copy, Arith, Compare, Convert, Load, Store, Call, Indirect, Get, Put, Abort}
use Rattle.gimple_core.specs.Sealed.{Sealed}
use Rattle.fix_engine.specs.declared.lifted.Lifted.{Lifted}
use Rattle.fix_engine.specs.declared.lifted.Lifted.TheVariants.{NotReached, Reached}
use Rattle.value_domain.specs.declared.abs_val.AbsVal.{AbsVal}
use Rattle.body_symbols.specs.declared.jumps.JumpFn.{JumpFn}
use Rattle.body_symbols.specs.Found.{Found}
use Rattle.body_values.specs.Bodies.{Body}
use Rattle.cp_lattices.specs.declared.gift.Gift.{Gift}
use Rattle.cp_lattices.specs.Few.{arguments_of_stmt, arguments_of_block, arguments_of_function, arguments_of_program}
use Rattle.cp_lattices.specs.Gifts.{Bodies}
use Rattle.cp_lattices.specs.GiftLists.{lists_below, Giver, argument_gifts, given_callee, given_named, jumps_there, call_gifts, statement_gifts, point_gifts, block_gifts, function_gifts, giver_of, top_rows, own_gifts, gifts_below}

-- ---- lists under numbers

first_apart : (n : ℕ) (f : ℕ → List Gift) → lists_below (suc n) f ≡ f 0 ++ lists_below n (λ k. f (suc k))
unfolding lists_below
first_apart zero f = sym (append_nil (f 0))
  where
    append_nil : (xs : List Gift) → xs ++ [] ≡ xs
    append_nil [] = refl
    append_nil (x ∷ xs) = ap (λ ys. x ∷ ys) (append_nil xs)
first_apart (suc n) f = ap (λ ys. ys ++ f (suc n)) (first_apart n f) ∙ append_assoc (f 0) (lists_below n (λ k. f (suc k))) (f (suc n))

count_within : {X : Type 0} (g : X → ℕ) (xs : List X) (f : ℕ → List Gift) → ((k : ℕ) (x : X) → slice_get xs k ≡ Some x → length (f k) ≤ g x) → length (lists_below (length xs) f) ≤ sum_by g xs
unfolding lists_below
count_within g [] f h = omega arith
count_within g (x ∷ xs) f h =
    let one = h 0 x refl in
    let rest = count_within g xs (λ k. f (suc k)) (λ k y e. h (suc k) y e) in
    let apart = ap length (first_apart (length xs) f) ∙ length-append (f 0) (lists_below (length xs) (λ k. f (suc k))) in
    omega (arith, one, rest, apart, sum_by-cons g x xs)

ones_within : (n : ℕ) (f : ℕ → List Gift) → ((k : ℕ) → length (f k) ≤ 1) → length (lists_below n f) ≤ n
unfolding lists_below
ones_within zero f h = omega arith
ones_within (suc n) f h = let one = h n in let rest = ones_within n f h in omega (arith, one, rest, length-append (lists_below n f) (f n))

-- ---- a call

one_argument : (B : Body) (n m j : ℕ) (row : List AbsVal) (r : Option Register) (x : Option Operand) (f : Option JumpFn) → length (argument_gifts B n m j row r x f) ≤ 1
one_argument B n m j row None x f = omega arith
one_argument B n m j row (Some r) None f = omega arith
one_argument B n m j row (Some r) (Some x) None = omega arith
one_argument B n m j row (Some r) (Some x) (Some f) = omega arith

callee_count : (B : Body) (n m : ℕ) (row : List AbsVal) (xs : List Operand) (fs : List JumpFn) (o : Option Function) → length (given_callee B n m row xs fs o) ≤ length xs
callee_count B n m row xs fs None = omega arith
callee_count B n m row xs fs (Some g) =
    ones_within (length xs) (λ j. argument_gifts B n m j row (slice_get g.params j) (slice_get xs j) (slice_get fs j)) (λ j. one_argument B n m j row (slice_get g.params j) (slice_get xs j) (slice_get fs j))

named_count : (G : Giver) (row : List AbsVal) (xs : List Operand) (fs : List JumpFn) (o : Option ℕ) → length (given_named G row xs fs o) ≤ length xs
named_count G row xs fs None = omega arith
named_count G row xs fs (Some m) = callee_count G.body G.number m row xs fs (slice_get G.program.functions m)

statement_count : (G : Giver) (at : Point) (file : Lifted (List AbsVal)) (x : Stmt) → length (statement_gifts G at file x) ≤ arguments_of_stmt x
unfolding statement_gifts call_gifts
statement_count G at NotReached x = omega arith
statement_count G at (Reached row) (Call to name xs) = named_count G row xs (jumps_there G at) (position (λ f. bytes_eq f.name name) G.program.functions)
statement_count G at (Reached row) (Copy to from) = omega arith
statement_count G at (Reached row) (Arith to left op right) = omega arith
statement_count G at (Reached row) (Compare to left cmp right) = omega arith
statement_count G at (Reached row) (Convert to scalar from) = omega arith
statement_count G at (Reached row) (Load to scalar place) = omega arith
statement_count G at (Reached row) (Store scalar place from) = omega arith
statement_count G at (Reached row) (Indirect to signature callee xs) = omega arith
statement_count G at (Reached row) (Get to) = omega arith
statement_count G at (Reached row) (Put from) = omega arith
statement_count G at (Reached row) Abort = omega arith

-- ---- a body

module _ (G : Giver) (rows : ℕ → ℕ → Lifted (List AbsVal)) where
  at_most : (k i : ℕ) (o : Option Stmt) (x : Stmt) → o ≡ Some x → length (point_gifts G rows k i o) ≤ arguments_of_stmt x
  at_most k i o x e = subst (λ y. length (point_gifts G rows k i y) ≤ arguments_of_stmt x) (sym e) (statement_count G (record { function = G.number; block = k; index = i }) (rows k i) x)

  block_count : (k : ℕ) (o : Option Block) (b : Block) → o ≡ Some b → length (block_gifts G rows k o) ≤ arguments_of_block b
  block_count k o b e =
      subst (λ y. length (block_gifts G rows k y) ≤ arguments_of_block b) (sym e)
      (count_within arguments_of_stmt b.body (λ i. point_gifts G rows k i (slice_get b.body i)) (λ i x there. at_most k i (slice_get b.body i) x there))

  function_count : length (function_gifts G rows) ≤ arguments_of_function G.function
  function_count = count_within arguments_of_block G.function.blocks (λ k. block_gifts G rows k (slice_get G.function.blocks k)) (λ k b there. block_count k (slice_get G.function.blocks k) b there)

-- ---- a program

own_count : (p : Sealed) (most n : ℕ) (begins : List (Lifted (List AbsVal))) (o : Option Function) (s : Option Found) (f : Function) → o ≡ Some f → length (own_gifts p most n begins o s) ≤ arguments_of_function f
own_count p most n begins o None f e = subst (λ y. length (own_gifts p most n begins y None) ≤ arguments_of_function f) (sym e) (omega arith)
own_count p most n begins o (Some s) f e = subst (λ y. length (own_gifts p most n begins y (Some s)) ≤ arguments_of_function f) (sym e) (function_count (giver_of p most n f s) (top_rows p most n f begins))

pub gifts_count : (p : Sealed) (most : ℕ) (bodies : Bodies) (gifts : List Gift) → gifts ≡ gifts_below p most bodies (length p.program.functions) → length gifts ≤ arguments_of_program p.program
gifts_count p most bodies gifts e =
    subst (λ (ys : List Gift). length ys ≤ arguments_of_program p.program) (sym e)
    (count_within arguments_of_function p.program.functions (λ n. own_gifts p most n (slice_index_or bodies.begins n []) (slice_get p.program.functions n) (slice_get bodies.symbols n))
    (λ n f own. own_count p most n (slice_index_or bodies.begins n []) (slice_get p.program.functions n) (slice_get bodies.symbols n) f own))
