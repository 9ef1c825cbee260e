-- A source has few enough formals and arguments for all passes.
use Rattle.std.proofs.Common.{◌≡◌, ℕ, zero, suc, ◌+◌, ◌*◌, ◌%◌, ◌==◌, ◌≤◌, Bool, true, false, if◌then◌else◌, not, List, [], ◌∷◌, ◌++◌, length, map, filter, sum_by, codes, refl, sym, ap, subst, arith, length-append, inl, inr}
use Rattle.std.specs.List.{range_with_len, flat_map}
use Rattle.std.proofs.lemmas.List.Sums.{sum_by-append, sum_by-cons}
use Rattle.std.proofs.lemmas.List.Concat.{flat_map-cons}
use Rattle.std.proofs.lemmas.List.Filters.{sum_by-filter_both}
use Rattle.gimple_ir.specs.declared.block.Block.{Block}
use Rattle.gimple_ir.specs.declared.operand.Operand.{Operand}
use Rattle.gimple_ir.specs.declared.operand.Operand.TheVariants.{Reg, Number, Null, Address}
use Rattle.gimple_ir.specs.declared.program.Function.{Function}
use Rattle.gimple_ir.specs.declared.program.Program.{Program}
use Rattle.gimple_ir.specs.declared.statement.Stmt.{Stmt}
use Rattle.gimple_ir.specs.declared.statement.Stmt.TheVariants.{Copy, Arith, Compare, Convert, Load, Store, Call, Indirect, Get, Put, Abort}
use Rattle.gimple_ir.specs.Names.{Bytes}
use Rattle.gimple_core.specs.Reach.{IsWithoutUnreached}
use Rattle.gimple_core.specs.Sealed.{Sealed}
use Rattle.gimple_gen.specs.Generated.{first_block, calling_block, last_block, function_of, asks, asked, main_block, main_of, generated}
use Rattle.token_law.specs.Reading.{Tokens}
use Rattle.gimple_grammar.specs.Grammar.{IsOperand, IsArguments, IsSimple, IsStmt, IsBlock, IsFunction}
use Rattle.gimple_text.specs.Parse.{Spells}
use Rattle.gimple_text.proofs.SizeLaws.{many_size, separated_size, function_formals, functions_size}
use Rattle.icf_classes.specs.Merged.{IsMerged, sent, sent_stmt, sent_block, sent_function, is_kept}
use Rattle.icf_classes.proofs.MergedLaws.{sum_mapped}
use Rattle.cp_lattices.specs.Few.{arguments_of_stmt, arguments_of_block, arguments_of_function, HasFewArguments}
use Rattle.ipa_driver.specs.declared.legs.Leg.{Leg}
use Rattle.ipa_driver.specs.Icf.{FoldsIdentical}
use Rattle.ipa_driver.specs.Legs.{IsLeg}
use Rattle.ipa_driver.specs.Verdict.{LIMIT}

-- ---- the tokens of arguments

operand_size : (x : Operand) (ts : Tokens) → IsOperand x ts → 1 ≤ length ts
operand_size (Reg x) ts h = omega (arith, ap length h)
operand_size (Number z) ts (inl h) = omega (arith, ap length h.2)
operand_size (Number z) ts (inr h) = omega (arith, ap length h.2)
operand_size Null ts h = omega (arith, ap length h)
operand_size (Address x z) ts h = omega (arith, ap length h.2)

arguments_size : (xs : List Operand) (ts : Tokens) → IsArguments xs ts → length xs ≤ length ts
arguments_size xs ts h = omega (arith, separated_size IsOperand operand_size xs h.0 h.1, simp length-append at (ap length h.2))

simple_arguments : (profile : ℕ) (x : Stmt) (ts : Tokens) → IsSimple profile x ts → arguments_of_stmt x ≤ length ts
simple_arguments profile (Call to f xs) ts h = omega (arith, arguments_size xs h.0 h.1, simp length-append at (ap length h.2))
simple_arguments profile (Copy to from) ts h = omega arith
simple_arguments profile (Arith to left op right) ts h = omega arith
simple_arguments profile (Compare to left cmp right) ts h = omega arith
simple_arguments profile (Convert to scalar from) ts h = omega arith
simple_arguments profile (Load to scalar place) ts h = omega arith
simple_arguments profile (Store scalar place from) ts h = omega arith
simple_arguments profile (Indirect to g x xs) ts h = omega arith
simple_arguments profile (Get x) ts h = omega arith
simple_arguments profile (Put from) ts h = omega arith
simple_arguments profile Abort ts h = omega arith

stmt_arguments : (profile : ℕ) (x : Stmt) (ts : Tokens) → IsStmt profile x ts → arguments_of_stmt x ≤ length ts
stmt_arguments profile x ts h = omega (arith, simple_arguments profile x h.0 h.1, simp length-append at (ap length h.2))

block_arguments : (profile : ℕ) (b : Block) (ts : Tokens) → IsBlock profile b ts → arguments_of_block b ≤ length ts
block_arguments profile b ts h = omega (arith, many_size (IsStmt profile) arguments_of_stmt (stmt_arguments profile) b.body h.0 h.2, simp length-append at (ap length h.4))

function_arguments : (profile : ℕ) (f : Function) (ts : Tokens) → IsFunction profile f ts → arguments_of_function f ≤ length ts
function_arguments profile f ts h = omega (arith, many_size (IsBlock profile) arguments_of_block (block_arguments profile) f.blocks h.4 h.9, simp length-append at (ap length h.10))

-- a text within the limit spells a program with few
pub few_spelled : (bs : Bytes) (p : Program) → Spells bs p → length bs ≤ LIMIT → HasFewArguments p
few_spelled bs p h within = record {
  formals = let n = functions_size (λ (f : Function). length f.params) function_formals bs p h in omega (arith, n, within);
  arguments = let n = functions_size arguments_of_function function_arguments bs p h in omega (arith, n, within);
}

-- ---- generated programs

formals_of : (n i : ℕ) → length (function_of n i).params ≡ 2
unfolding function_of
formals_of n i = refl

arguments_of : (n i : ℕ) → arguments_of_function (function_of n i) ≡ 2
unfolding function_of first_block calling_block last_block
arguments_of n i = refl

main_formals : (n : ℕ) → length (main_of n).params ≡ 0
unfolding main_of
main_formals n = refl

asked_arguments : (k : ℕ) → sum_by arguments_of_stmt (asked k) ≤ 2
unfolding asked
asked_arguments k = by (k % 64 == 0)
  where
    by : (c : Bool) → sum_by arguments_of_stmt (if c then asks k else []) ≤ 2
    by true = omega arith
    by false = omega arith

body_arguments : (k m : ℕ) → sum_by arguments_of_stmt (flat_map asked (range_with_len k m)) ≤ 2 * m
body_arguments k zero = omega arith
body_arguments k (suc m) =
    let rest : List Stmt = flat_map asked (range_with_len (k + 1) m) in
    rw (flat_map-cons asked k (range_with_len (k + 1) m)) (omega (arith, sum_by-append arguments_of_stmt (asked k) rest, asked_arguments k, body_arguments (k + 1) m))

main_arguments : (n : ℕ) → arguments_of_function (main_of n) ≤ 2 * n
unfolding main_of main_block
main_arguments n = omega (arith, sum_by-cons arguments_of_block (main_block n) [], body_arguments 0 n)

-- a number of each function of a generated program, in sum
module _ (m : Function → ℕ) (n : ℕ) (each : (i : ℕ) → m (function_of n i) ≡ 2) where
  made_sum : (k c : ℕ) → sum_by m (map (function_of n) (range_with_len k c)) ≡ 2 * c
  made_sum k zero = refl
  made_sum k (suc c) = omega (arith, sum_by-cons m (function_of n k) (map (function_of n) (range_with_len (k + 1) c)), each k, made_sum (k + 1) c)

  whole_sum : sum_by m (map (function_of n) (range_with_len 0 n) ++ main_of n ∷ []) ≡ 2 * n + m (main_of n)
  whole_sum = omega (arith, sum_by-append m (map (function_of n) (range_with_len 0 n)) (main_of n ∷ []), sum_by-cons m (main_of n) [], made_sum 0 n)

pub few_generated : (n : ℕ) → n ≤ 65536 → HasFewArguments (generated n)
unfolding generated
few_generated n small = record {
  formals = omega (arith, small, whole_sum (λ (f : Function). length f.params) n (formals_of n), main_formals n);
  arguments = omega (arith, small, whole_sum arguments_of_function n (arguments_of n), main_arguments n);
}

-- ---- what passes make

kept_sum : (m : Function → ℕ) (keeps : Function → Bool) (fs : List Function) → sum_by m (filter keeps fs) ≤ sum_by m fs
kept_sum m keeps fs = let both = sum_by-filter_both keeps (λ f. not (keeps f)) (λ f. refl) m fs in omega (arith, both)

few_kept : (keeps : Function → Bool) (p : Program) → HasFewArguments p → HasFewArguments (record p { functions = filter keeps p.functions })
few_kept keeps p h = record {
  formals = omega (arith, h.formals, kept_sum (λ (f : Function). length f.params) keeps p.functions);
  arguments = omega (arith, h.arguments, kept_sum arguments_of_function keeps p.functions);
}

pub few_reached : (p q : Program) → IsWithoutUnreached p q → HasFewArguments p → HasFewArguments q
few_reached p q w h = subst HasFewArguments (sym w.program) (few_kept (λ (f : Function). w.keeps f.name) p h)

module _ (to : List ℕ → List ℕ) where
  sent_arguments : (x : Stmt) → arguments_of_stmt (sent_stmt to x) ≡ arguments_of_stmt x
  sent_arguments (Call target callee arguments) = refl
  sent_arguments (Copy target from) = refl
  sent_arguments (Arith target left op right) = refl
  sent_arguments (Compare target left cmp right) = refl
  sent_arguments (Convert target scalar from) = refl
  sent_arguments (Load target scalar place) = refl
  sent_arguments (Store scalar place from) = refl
  sent_arguments (Indirect target signature callee arguments) = refl
  sent_arguments (Get target) = refl
  sent_arguments (Put from) = refl
  sent_arguments Abort = refl

  sent_in_block : (b : Block) → arguments_of_block (sent_block to b) ≡ arguments_of_block b
  sent_in_block b = sum_mapped arguments_of_stmt arguments_of_stmt (sent_stmt to) sent_arguments b.body

  sent_in_function : (f : Function) → arguments_of_function (sent_function to f) ≡ arguments_of_function f
  sent_in_function f = sum_mapped arguments_of_block arguments_of_block (sent_block to) sent_in_block f.blocks

  few_sent : (p : Program) → HasFewArguments p → HasFewArguments (record p { functions = map (sent_function to) p.functions })
  few_sent p h = record {
    formals = omega (arith, h.formals, sum_mapped (λ (f : Function). length f.params) (λ (f : Function). length f.params) (sent_function to) (λ f. refl) p.functions);
    arguments = omega (arith, h.arguments, sum_mapped arguments_of_function arguments_of_function (sent_function to) sent_in_function p.functions);
  }

few_merged : (p : Program) (classes : List ℕ) (q : Program) → IsMerged p classes q → HasFewArguments p → HasFewArguments q
few_merged p classes q m h =
    let to = sent p m.stays classes in
    subst HasFewArguments (sym m.program) (few_kept (λ (f : Function). is_kept p m.stays classes f.name) (record p { functions = map (sent_function to) p.functions }) (few_sent to p h))

pub few_folded : (on : Bool) (p : Sealed) (wanted : Bool) (leg : Leg) → IsLeg on (codes "icf") FoldsIdentical p wanted leg → HasFewArguments p.program → HasFewArguments leg.program.program
few_folded true p wanted leg h few = few_merged p.program h.classes leg.program.program h.merged few
few_folded false p wanted leg h few = subst (λ (s : Sealed). HasFewArguments s.program) (sym h.program) few
