-- A text can spell each generated program.
use Rattle.std.proofs.Common.{◌≡◌, ℕ, ◌+◌, ◌*◌, ◌%◌, ◌==◌, ◌<◌, ◌≤◌, ◌^◌, Bool, true, false, if◌then◌else◌, List, [], ◌∷◌, codes, refl, inl, pos, arith}
use Rattle.std.specs.List.{range_with_len, flat_map}
use Rattle.gimple_ir.specs.Names.{is_keyword, IsNameText}
use Rattle.gimple_ir.specs.declared.operand.Operand.{Operand}
use Rattle.gimple_ir.specs.declared.operand.Operand.TheVariants.{Reg, Number}
use Rattle.gimple_ir.specs.declared.program.Function.{Function}
use Rattle.gimple_ir.specs.Spellable.{AllOf, IsSpellableOperand, IsSpellableStmt, IsSpellableBlock, IsSpellableFunction, IsSpellable}
use Rattle.gimple_core.specs.Run.{main_name}
use Rattle.gimple_gen.specs.Generated.{callee_of, function_name, argument_of, first_block, calling_block, last_block, function_of, asks, asked, main_block, main_of, generated}
use Rattle.gimple_gen.proofs.Ranges.{all_made, all_flat}
use Rattle.gimple_gen.proofs.Naming.{is_name}

a_name : IsNameText (codes "a")
unfolding is_keyword
a_name = (refl, tt, refl)

b_name : IsNameText (codes "b")
unfolding is_keyword
b_name = (refl, tt, refl)

r_name : IsNameText (codes "r")
unfolding is_keyword
r_name = (refl, tt, refl)

t_name : IsNameText (codes "t")
unfolding is_keyword
t_name = (refl, tt, refl)

u_name : IsNameText (codes "u")
unfolding is_keyword
u_name = (refl, tt, refl)

the_main_name : IsNameText main_name
unfolding is_keyword
the_main_name = (refl, (refl, (refl, (refl, tt))), refl)

within : (n k : ℕ) → n < k → k ≤ 65536 → n < 2 ^ 64
within n k h le = omega arith

argument_spellable : (i : ℕ) → IsSpellableOperand (argument_of i)
unfolding argument_of
argument_spellable i = by (i % 3 == 0)
  where
    small : i % 5 < 2 ^ 64
    small = omega arith

    by : (c : Bool) → IsSpellableOperand (if c then Number (pos (i % 5)) else Reg (codes "t"))
    by true = small
    by false = t_name

-- the function that is called has a name below the number of functions
callee_within : (n i : ℕ) → 1 ≤ n → n ≤ 65536 → callee_of n i < 2 ^ 64
callee_within n i some few = within (callee_of n i) n (omega arith) few

first_spellable : (i : ℕ) → IsSpellableBlock 1 (first_block i)
unfolding first_block
first_spellable i = (omega arith, ((t_name, a_name, omega arith), tt), (b_name, omega arith, omega arith, omega arith))

calling_spellable : (n i : ℕ) → 1 ≤ n → n ≤ 65536 → IsSpellableBlock 1 (calling_block n i)
unfolding calling_block
calling_spellable n i some few = (
  omega arith,
  ((b_name, b_name, omega arith), ((u_name, is_name (callee_of n i) (callee_within n i some few), (argument_spellable i, (b_name, tt))), ((t_name, t_name, u_name), tt))),
  omega arith,
)

last_spellable : IsSpellableBlock 1 last_block
unfolding last_block
last_spellable = (omega arith, tt, t_name)

function_spellable : (n : ℕ) → 1 ≤ n → n ≤ 65536 → (i : ℕ) → i < n → IsSpellableFunction 1 (function_of n i)
unfolding function_of
function_spellable n some few i less = record {
  name = is_name i (within i n less few);
  params = (a_name, (b_name, tt));
  locals = tt;
  registers = (t_name, (u_name, tt));
  blocks = (first_spellable i, (calling_spellable n i some few, (last_spellable, tt)));
}

asked_spellable : (k : ℕ) → k < 2 ^ 64 → AllOf (IsSpellableStmt 1) (asked k)
unfolding asked
asked_spellable k h = by (k % 64 == 0)
  where
    by : (c : Bool) → AllOf (IsSpellableStmt 1) (if c then asks k else [])
    by true = ((r_name, is_name k h, (omega arith, (omega arith, tt))), (r_name, tt))
    by false = tt

main_spellable : (n : ℕ) → n ≤ 65536 → IsSpellableFunction 1 (main_of n)
unfolding main_of main_block
main_spellable n few = record {
  name = the_main_name;
  params = tt;
  locals = tt;
  registers = (r_name, tt);
  blocks = ((omega arith, all_flat (IsSpellableStmt 1) asked 0 n (λ i less. asked_spellable i (within i n (omega (arith, less)) few)), omega arith), tt);
}

pub generated_spellable : (n : ℕ) → 1 ≤ n → n ≤ 65536 → IsSpellable (generated n)
unfolding generated
generated_spellable n some few = record {
  profile = inl refl;
  structs = tt;
  globals = tt;
  functions = all_made (IsSpellableFunction 1) (function_of n) (main_of n) 0 n (λ i less. function_spellable n some few i (omega (arith, less))) (main_spellable n few);
}
