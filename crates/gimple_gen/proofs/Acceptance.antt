-- Generated programs have no type fault.
use Rattle.std.proofs.Common.{◌≡◌, ℕ, zero, suc, ◌+◌, ◌%◌, ◌==◌, ◌<◌, ◌≤◌, ◌^◌, Bool, true, false, if◌then◌else◌, ◌||◌, List, [], ◌∷◌, ◌++◌, map, codes, Some, None, Ok, refl, sym, ap, ◌∙◌, subst, append_assoc, append-nil, pos, arith}
use Rattle.std.specs.List.{range_with_len, flat_map}
use Rattle.std.specs.Str.{bytes_eq}
use Rattle.std.proofs.lemmas.Int.{ints}
use Rattle.gimple_ir.specs.Spellable.{AllOf}
use Rattle.gimple_ir.specs.declared.scalar.Scalar.TheVariants.{I32}
use Rattle.gimple_ir.specs.declared.scalar.Op.TheVariants.{Add, Sub, Xor}
use Rattle.gimple_ir.specs.declared.block.Block.{Block}
use Rattle.gimple_ir.specs.declared.statement.Stmt.TheVariants.{Arith, Call, Put}
use Rattle.gimple_core.proofs.RangeLemmas.{pos_in}
use Rattle.gimple_ir.specs.declared.operand.Operand.TheVariants.{Reg, Number}
use Rattle.gimple_ir.specs.declared.statement.Stmt.{Stmt}
use Rattle.gimple_ir.specs.declared.program.Function.{Function}
use Rattle.gimple_core.specs.Run.{main_name}
use Rattle.gimple_core.specs.Operators.{in_scalar}
use Rattle.gimple_core.specs.Verdict.{at}
use Rattle.gimple_core.specs.Env.{Env, Names, named, has, functions_by_name, scalar_of}
use Rattle.gimple_core.specs.Statements as s
use Rattle.gimple_core.specs.Declarations as d
use Rattle.gimple_core.specs.Accepted.{IsAccepted, checked, first_fault, known_env}
use Rattle.gimple_core.proofs.Passed.{both_pass, at_passes, no_fault_of}
use Rattle.gimple_core.proofs.EnvLemmas.{has_append}
use Rattle.gimple_core.proofs.Heads.{head_passes, heads_find, Each}
use Rattle.gimple_gen.specs.Generated.{function_name, callee_of, constant_of, argument_of, word, first_block, calling_block, last_block, function_of, asks, asked, main_block, main_of, generated}
use Rattle.gimple_gen.proofs.Ranges.{all_flat}
use Rattle.gimple_gen.proofs.Naming.{names_differ}

-- ---- the table of functions

-- functions k to k + m, and main
abbrev functions_from : ℕ → ℕ → ℕ → List Function
functions_from n k m = map (function_of n) (range_with_len k m) ++ main_of n ∷ []

-- no function has a name of one letter, but for f and m
lacks : (c n k m : ℕ) → (c == 102) ≡ false → (c == 109) ≡ false → has (c ∷ []) (functions_by_name (functions_from n k m)) ≡ false
unfolding function_of main_of
lacks c n k zero f g = rw g refl
lacks c n k (suc m) f g = rw f (lacks c n (k + 1) m f g)

one_name : (name other : List ℕ) (f : Function) → bytes_eq name other ≡ false → has name ((other, f) ∷ []) ≡ false
one_name name other f h = rw h refl

heads_pass : (n number k m : ℕ) (earlier : Names Function) → k + m ≤ 65536 → ((i : ℕ) → k ≤ i → i < k + m → has (function_name i) earlier ≡ false) → has main_name earlier ≡ false → d.heads [] number earlier (functions_from n k m) ≡ Ok (earlier ++ functions_by_name (functions_from n k m))
unfolding d.heads function_of main_of
heads_pass n number k zero earlier few fresh last =
    both_pass (at _ (d.head [] earlier (main_of n))) _ (earlier ++ (main_name, main_of n) ∷ []) _ (at_passes _ (d.head [] earlier (main_of n)) _ (head_passes [] earlier (main_of n) refl last)) refl
heads_pass n number k (suc m) earlier few fresh last =
    let e : List ℕ × Function = (function_name k, function_of n k) in
    let rest : Names Function = functions_by_name (functions_from n (k + 1) m) in
    both_pass (at _ (d.head [] earlier (function_of n k))) _ (earlier ++ e ∷ []) _
    (at_passes _ (d.head [] earlier (function_of n k)) _ (head_passes [] earlier (function_of n k) refl (fresh k (omega arith) (omega arith))))
    (heads_pass n (number + 1) (k + 1) m (earlier ++ e ∷ []) (omega arith)
    (λ i above less. has_append (function_name i) earlier (e ∷ []) ∙ rw (fresh i (omega arith) (omega arith)) (one_name (function_name i) (function_name k) (function_of n k) (names_differ i k (omega arith) (omega arith) (λ same. omega arith))))
    (has_append main_name earlier (e ∷ []) ∙ rw last refl)
    ∙ ap Ok (append_assoc earlier (e ∷ []) rest))

each_at : (P : Function → Type 0) (f : ℕ → Function) (rest : List Function) (k m i : ℕ) → i < m → Each P (map f (range_with_len k m) ++ rest) → P (f (k + i))
each_at P f rest k zero i h e = absurd (omega arith)
each_at P f rest k (suc m) zero h e = let same : k ≡ k + 0 = omega arith in subst (λ j. P (f j)) same e.0
each_at P f rest k (suc m) (suc i) h e = let same : k + 1 + i ≡ k + suc i = omega arith in subst (λ j. P (f j)) same (each_at P f rest (k + 1) m i (omega arith) e.1)

main_passes : (n number k m : ℕ) → d.main number (functions_from n k m) ≡ Ok tt
unfolding d.main function_of main_of
main_passes n number k zero = refl
main_passes n number k (suc m) = main_passes n (number + 1) (k + 1) m

-- what the checks of bodies need of the table
record Serves (n : ℕ) (callees : Names Function) : Type 0 where
  a : has (codes "a") callees ≡ false
  b : has (codes "b") callees ≡ false
  r : has (codes "r") callees ≡ false
  t : has (codes "t") callees ≡ false
  u : has (codes "u") callees ≡ false
  finds : (i : ℕ) → i < n → named (function_name i) callees ≡ Some (function_of n i)

-- ---- bodies

abbrev Passes : Env → Names Function → Stmt → Type 0
Passes env callees x = s.statement env callees x ≡ Ok tt

body_passes : (env : Env) (callees : Names Function) (index number : ℕ) (xs : List Stmt) → AllOf (Passes env callees) xs → s.body env callees index number xs ≡ Ok tt
unfolding s.body
body_passes env callees index number [] h = refl
body_passes env callees index number (x ∷ xs) h =
    both_pass (at _ (s.statement env callees x)) _ tt tt (at_passes _ (s.statement env callees x) tt h.0) (body_passes env callees index (number + 1) xs h.1)

abbrev known : Env
known = known_env [] None []

-- ---- one of the functions

abbrev function_env : Env
function_env = record known {
  registers = (codes "a", word (codes "a")) ∷ (codes "b", word (codes "b")) ∷ (codes "t", word (codes "t")) ∷ (codes "u", word (codes "u")) ∷ [];
  labels = 2 ∷ 3 ∷ 4 ∷ [];
  result = Some I32;
}

small : (c : ℕ) → c < 100 → in_scalar I32 (pos c) ≡ true
small c h = pos_in I32 c (omega (arith, h))

own_passes : (n i : ℕ) (callees : Names Function) → Serves n callees → d.own known callees (function_of n i) ≡ Ok function_env
unfolding d.own d.registers d.register d.is_free d.locals d.labels d.new_label function_of first_block calling_block last_block
own_passes n i callees v = rw (v.a, v.b, v.t, v.u) refl

add_passes : (callees : Names Function) (i : ℕ) → Passes function_env callees (Arith (codes "t") (Reg (codes "a")) Add (Number (pos (constant_of i))))
unfolding s.statement s.arith s.right_side s.operand scalar_of
add_passes callees i = rw (small (constant_of i) (omega arith)) refl

subtract_passes : (callees : Names Function) → Passes function_env callees (Arith (codes "b") (Reg (codes "b")) Sub (Number (pos 1)))
unfolding s.statement s.arith s.right_side s.operand scalar_of
subtract_passes callees = refl

mix_passes : (callees : Names Function) → Passes function_env callees (Arith (codes "t") (Reg (codes "t")) Xor (Reg (codes "u")))
unfolding s.statement s.arith s.right_side s.operand scalar_of
mix_passes callees = refl

argument_passes : (i : ℕ) → s.operand function_env 6 I32 (argument_of i) ≡ Ok tt
unfolding argument_of s.operand scalar_of
argument_passes i = by (i % 3 == 0)
  where
    by : (c : Bool) → s.operand function_env 6 I32 (if c then Number (pos (i % 5)) else Reg (codes "t")) ≡ Ok tt
    by true = rw (small (i % 5) (omega arith)) refl
    by false = refl

second_passes : s.operand function_env 6 I32 (Reg (codes "b")) ≡ Ok tt
unfolding s.operand scalar_of
second_passes = refl

both_arguments : (i : ℕ) → s.arguments function_env (I32 ∷ I32 ∷ []) (argument_of i ∷ Reg (codes "b") ∷ []) ≡ Ok tt
unfolding s.arguments
both_arguments i = both_pass (s.operand function_env 6 I32 (argument_of i)) _ tt tt (argument_passes i) (both_pass (s.operand function_env 6 I32 (Reg (codes "b"))) _ tt tt second_passes refl)

call_passes : (n i : ℕ) (callees : Names Function) → 1 ≤ n → Serves n callees → Passes function_env callees (Call (Some (codes "u")) (function_name (callee_of n i)) (argument_of i ∷ Reg (codes "b") ∷ []))
unfolding s.statement s.called scalar_of function_of
call_passes n i callees some v = rw (v.finds (callee_of n i) (omega (arith, some)), both_arguments i) refl

block_passes : (env : Env) (callees : Names Function) (index number : ℕ) (b : Block) (rest : List Block) → s.body env callees index number b.body ≡ Ok tt → s.ending env b.end ≡ Ok tt → ((m : ℕ) → s.blocks env callees index m rest ≡ Ok tt) → s.blocks env callees index number (b ∷ rest) ≡ Ok tt
unfolding s.blocks
block_passes env callees index number b rest h k more =
    both_pass (s.body env callees index number b.body) _ tt tt h
    (both_pass (at _ (s.ending env b.end)) _ tt tt (at_passes _ (s.ending env b.end) tt k) (more _))

none_left : (env : Env) (callees : Names Function) (index number : ℕ) → s.blocks env callees index number [] ≡ Ok tt
unfolding s.blocks
none_left env callees index number = refl

first_ends : (i : ℕ) → s.ending function_env (first_block i).end ≡ Ok tt
unfolding first_block s.ending s.compared s.common_scalar s.operand scalar_of s.label
first_ends i = refl

calling_ends : (n i : ℕ) → s.ending function_env (calling_block n i).end ≡ Ok tt
unfolding calling_block s.ending s.label
calling_ends n i = refl

last_ends : s.ending function_env last_block.end ≡ Ok tt
unfolding last_block s.ending s.returned s.operand scalar_of
last_ends = refl

first_body : (i : ℕ) (callees : Names Function) (index number : ℕ) → s.body function_env callees index number (first_block i).body ≡ Ok tt
unfolding first_block
first_body i callees index number = body_passes function_env callees index number _ (add_passes callees i, tt)

calling_body : (n i : ℕ) (callees : Names Function) (index number : ℕ) → 1 ≤ n → Serves n callees → s.body function_env callees index number (calling_block n i).body ≡ Ok tt
unfolding calling_block
calling_body n i callees index number some v = body_passes function_env callees index number _ (subtract_passes callees, (call_passes n i callees some v, (mix_passes callees, tt)))

last_body : (callees : Names Function) (index number : ℕ) → s.body function_env callees index number last_block.body ≡ Ok tt
unfolding last_block
last_body callees index number = body_passes function_env callees index number [] tt

blocks_pass : (n i : ℕ) (callees : Names Function) (index number : ℕ) → 1 ≤ n → Serves n callees → s.blocks function_env callees index number (first_block i ∷ calling_block n i ∷ last_block ∷ []) ≡ Ok tt
blocks_pass n i callees index number some v =
    block_passes function_env callees index number (first_block i) _ (first_body i callees index number) (first_ends i)
    (λ m. block_passes function_env callees index m (calling_block n i) _ (calling_body n i callees index m some v) (calling_ends n i)
    (λ k. block_passes function_env callees index k last_block [] (last_body callees index k) last_ends (none_left function_env callees index)))

function_passes : (n i number : ℕ) (callees : Names Function) → 1 ≤ n → Serves n callees → d.one_function known callees number (function_of n i) ≡ Ok tt
unfolding d.one_function function_of
function_passes n i number callees some v = both_pass (at _ (d.own known callees (function_of n i))) _ function_env tt (at_passes _ (d.own known callees (function_of n i)) function_env (own_passes n i callees v)) (blocks_pass n i callees number 1 some v)

-- ---- main

abbrev main_env : Env
main_env = record known { registers = (codes "r", word (codes "r")) ∷ []; labels = 2 ∷ []; result = Some I32 }

own_main_passes : (n : ℕ) (callees : Names Function) → Serves n callees → d.own known callees (main_of n) ≡ Ok main_env
unfolding d.own d.registers d.register d.is_free d.locals d.labels d.new_label main_of main_block
own_main_passes n callees v = rw v.r refl

ask_passes : (n k : ℕ) (callees : Names Function) → k < n → Serves n callees → Passes main_env callees (Call (Some (codes "r")) (function_name k) (Number (pos 1) ∷ Number (pos 3) ∷ []))
unfolding s.statement s.called s.arguments s.operand scalar_of function_of
ask_passes n k callees less v = rw (v.finds k less) refl

print_passes : (callees : Names Function) → Passes main_env callees (Put (Reg (codes "r")))
unfolding s.statement s.printed scalar_of
print_passes callees = refl

asked_passes : (n k : ℕ) (callees : Names Function) → k < n → Serves n callees → AllOf (Passes main_env callees) (asked k)
unfolding asked
asked_passes n k callees less v = by (k % 64 == 0)
  where
    by : (c : Bool) → AllOf (Passes main_env callees) (if c then asks k else [])
    by true = (ask_passes n k callees less v, (print_passes callees, tt))
    by false = tt

main_body : (n : ℕ) (callees : Names Function) (index number : ℕ) → Serves n callees → s.body main_env callees index number (main_block n).body ≡ Ok tt
unfolding main_block
main_body n callees index number v = body_passes main_env callees index number _ (all_flat (Passes main_env callees) asked 0 n (λ k less. asked_passes n k callees (omega (arith, less)) v))

main_ends : (n : ℕ) → s.ending main_env (main_block n).end ≡ Ok tt
unfolding main_block s.ending s.returned s.operand
main_ends n = refl

main_function_passes : (n number : ℕ) (callees : Names Function) → Serves n callees → d.one_function known callees number (main_of n) ≡ Ok tt
unfolding d.one_function main_of
main_function_passes n number callees v = both_pass (at _ (d.own known callees (main_of n))) _ main_env tt (at_passes _ (d.own known callees (main_of n)) main_env (own_main_passes n callees v)) (block_passes main_env callees number 1 (main_block n) [] (main_body n callees number 1 v) (main_ends n) (none_left main_env callees number))

-- ---- the program

functions_pass : (n k m number : ℕ) (callees : Names Function) → 1 ≤ n → Serves n callees → d.functions known callees number (functions_from n k m) ≡ Ok tt
unfolding d.functions
functions_pass n k zero number callees some v = both_pass (d.one_function known callees number (main_of n)) _ tt tt (main_function_passes n number callees v) refl
functions_pass n k (suc m) number callees some v = both_pass (d.one_function known callees number (function_of n k)) _ tt tt (function_passes n k number callees some v) (functions_pass n (k + 1) m (number + 1) callees some v)

abbrev table : ℕ → Names Function
table n = functions_by_name (functions_from n 0 n)

heads_are_there : (n : ℕ) → n ≤ 65536 → d.heads [] 0 [] (functions_from n 0 n) ≡ Ok (table n)
heads_are_there n few = heads_pass n 0 0 n [] (omega (arith, few)) (λ i above less. refl) refl

found : (n i : ℕ) → n ≤ 65536 → i < n → named (function_name i) (table n) ≡ Some (function_of n i)
unfolding function_of
found n i few less =
    let each = heads_find [] 0 [] (table n) (functions_from n 0 n) (heads_are_there n few) in
    let here = each_at (λ (f : Function). named f.name (table n) ≡ Some f) (function_of n) (main_of n ∷ []) 0 n i less each in
    let same : 0 + i ≡ i = omega arith in
    subst (λ j. named (function_name j) (table n) ≡ Some (function_of n j)) same here

serves : (n : ℕ) → n ≤ 65536 → Serves n (table n)
serves n few = record {
  a = lacks 97 n 0 n refl refl;
  b = lacks 98 n 0 n refl refl;
  r = lacks 114 n 0 n refl refl;
  t = lacks 116 n 0 n refl refl;
  u = lacks 117 n 0 n refl refl;
  finds = λ i less. found n i few less;
}

pub generated_accepted : (n : ℕ) → 1 ≤ n → n ≤ 65536 → IsAccepted (generated n)
unfolding first_fault checked d.structs d.globals generated
generated_accepted n some few =
    no_fault_of _
    (both_pass (d.heads [] 0 [] (functions_from n 0 n)) _ (table n) tt (heads_are_there n few)
    (both_pass (d.main 0 (functions_from n 0 n)) _ tt tt (main_passes n 0 0 n)
    (functions_pass n 0 n 0 (table n) some (serves n few))))
