-- How many parts generated programs have.
use Rattle.std.proofs.Common.{◌≡◌, ℕ, zero, suc, ◌+◌, ◌*◌, ◌%◌, ◌==◌, ◌<◌, ◌≤◌, ◌^◌, Bool, true, false, if◌then◌else◌, List, [], ◌∷◌, ◌++◌, length, map, sum_by, refl, arith, length-append}
use Rattle.std.specs.List.{range_with_len, flat_map, All}
use Rattle.std.proofs.lemmas.List.Elements.{All-nil}
use Rattle.std.proofs.lemmas.List.Sums.{sum_by-append, sum_by-cons}
use Rattle.std.proofs.lemmas.List.Concat.{flat_map-cons}
use Rattle.std.proofs.lemmas.List.FromFn.{length-map-range_with_len}
use Rattle.gimple_ir.specs.declared.program.Function.{Function}
use Rattle.gimple_ir.specs.declared.declarations.StructDef.{StructDef}
use Rattle.gimple_ir.specs.declared.statement.Stmt.{Stmt}
use Rattle.gimple_ir.specs.Size.{size_of_block, size_of_function, branches_of_function}
use Rattle.gimple_ir.specs.Counts.{CountsWithin, IsCountable}
use Rattle.gimple_gen.specs.Generated.{first_block, calling_block, last_block, function_of, asks, asked, main_block, main_of, generated}
use Rattle.gimple_gen.proofs.Ranges.{all_made, all_from}

function_size : (n i : ℕ) → size_of_function (function_of n i) ≡ 7
unfolding function_of first_block calling_block last_block
function_size n i = refl

function_branches : (n i : ℕ) → branches_of_function (function_of n i) ≡ 3
unfolding function_of first_block calling_block last_block
function_branches n i = refl

sizes : (n k m : ℕ) → sum_by size_of_function (map (function_of n) (range_with_len k m)) ≡ 7 * m
sizes n k zero = refl
sizes n k (suc m) = omega (arith, sum_by-cons size_of_function (function_of n k) (map (function_of n) (range_with_len (k + 1) m)), function_size n k, sizes n (k + 1) m)

asked_length : (k : ℕ) → length (asked k) ≤ 2
unfolding asked
asked_length k = by (k % 64 == 0)
  where
    by : (c : Bool) → length (if c then asks k else []) ≤ 2
    by true = omega arith
    by false = omega arith

body_length : (k m : ℕ) → length (flat_map asked (range_with_len k m)) ≤ 2 * m
body_length k zero = omega arith
body_length k (suc m) =
    let rest : List Stmt = flat_map asked (range_with_len (k + 1) m) in
    rw (flat_map-cons asked k (range_with_len (k + 1) m)) (omega (arith, length-append (asked k) rest, asked_length k, body_length (k + 1) m))

main_size : (n : ℕ) → size_of_function (main_of n) ≤ 2 * n + 1
unfolding main_of main_block
main_size n = omega (arith, sum_by-cons size_of_block (main_block n) [], body_length 0 n)

main_branches : (n : ℕ) → branches_of_function (main_of n) ≡ 0
unfolding main_of main_block
main_branches n = refl

each : (n : ℕ) (P : Function → Type 0) → ((i : ℕ) → P (function_of n i)) → P (main_of n) → All P (map (function_of n) (range_with_len 0 n) ++ main_of n ∷ [])
each n P h k = all_from P _ (all_made P (function_of n) (main_of n) 0 n (λ i less. h i) k)

formals_few : (n i : ℕ) → length (function_of n i).params < 2 ^ 32
unfolding function_of
formals_few n i = omega arith

locals_few : (n i : ℕ) → length (function_of n i).locals < 2 ^ 32
unfolding function_of
locals_few n i = omega arith

main_formals_few : (n : ℕ) → length (main_of n).params < 2 ^ 32
unfolding main_of
main_formals_few n = omega arith

main_locals_few : (n : ℕ) → length (main_of n).locals < 2 ^ 32
unfolding main_of
main_locals_few n = omega arith

whole_size : (n : ℕ) → n ≤ 65536 → sum_by size_of_function (map (function_of n) (range_with_len 0 n) ++ main_of n ∷ []) < 2 ^ 32
whole_size n few =
    let apart = sum_by-append size_of_function (map (function_of n) (range_with_len 0 n)) (main_of n ∷ []) in
    let last = sum_by-cons size_of_function (main_of n) [] in
    omega (arith, apart, last, sizes n 0 n, main_size n)

whole_length : (n : ℕ) → n ≤ 65536 → length (map (function_of n) (range_with_len 0 n) ++ main_of n ∷ []) < 2 ^ 32
whole_length n few = omega (arith, length-append (map (function_of n) (range_with_len 0 n)) (main_of n ∷ []), length-map-range_with_len (function_of n) 0 n)

pub generated_countable : (n : ℕ) → n ≤ 65536 → IsCountable (generated n)
unfolding generated
generated_countable n few = record {
  structs = omega arith;
  fields = All-nil (λ (s : StructDef). length s.fields < 2 ^ 32);
  globals = omega arith;
  functions = whole_length n few;
  size = whole_size n few;
  formals = each n (λ (f : Function). length f.params < 2 ^ 32) (formals_few n) (main_formals_few n);
  locals = each n (λ (f : Function). length f.locals < 2 ^ 32) (locals_few n) (main_locals_few n);
  branches = each n (λ (f : Function). branches_of_function f < 2 ^ 32) (λ i. omega (arith, function_branches n i)) (omega (arith, main_branches n));
}
