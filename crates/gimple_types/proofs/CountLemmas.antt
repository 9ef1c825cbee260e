-- Functions of a program whose size is below 2^32.
use Rattle.std.proofs.Common.{◌↔◌, ◌<◌, ◌^◌, length, List, [], ◌∷◌, sum_by, arith}
use Rattle.std.specs.List.{All}
use Rattle.std.proofs.lemmas.List.Elements.{All-nil, All-cons, All-weaker}
use Rattle.std.proofs.lemmas.List.Sums.{sum_by-cons}
use Rattle.gimple_ir.specs.declared.program.Function.{Function}
use Rattle.gimple_ir.specs.declared.program.Program.{Program}
use Rattle.gimple_ir.specs.Counts.{IsCountable}
use Rattle.gimple_ir.specs.Size.{size_of_function, size_of_program, branches_of_function}
use Rattle.gimple_types.specs.Counted.{IsNarrow, IsNumbered}

-- the parts of a program are numbered where those of its structs and functions are
pub counted : (p : Program) → (length p.structs < 2 ^ 32) × (length p.globals < 2 ^ 32) × (length p.functions < 2 ^ 32) × All IsNarrow p.structs × All IsNumbered p.functions × (size_of_program p < 2 ^ 32) ↔ IsCountable p
unfolding IsNumbered
counted p = (
  (λ k. record {
    structs = k.0;
    fields = k.3;
    globals = k.1;
    functions = k.2;
    size = k.5;
    formals = All-weaker IsNumbered (λ (f : Function). length f.params < 2 ^ 32) (λ f n. n.0) p.functions k.4;
    locals = All-weaker IsNumbered (λ (f : Function). length f.locals < 2 ^ 32) (λ f n. n.1) p.functions k.4;
    branches = All-weaker IsNumbered (λ (f : Function). branches_of_function f < 2 ^ 32) (λ f n. n.2) p.functions k.4;
  }),
  (λ c. (c.structs, c.globals, c.functions, c.fields, numbered p.functions c.formals c.locals c.branches, c.size)),
)
  where
    numbered : (fs : List Function) → All (λ (f : Function). length f.params < 2 ^ 32) fs → All (λ (f : Function). length f.locals < 2 ^ 32) fs → All (λ (f : Function). branches_of_function f < 2 ^ 32) fs → All IsNumbered fs
    numbered fs a b c = λ k d h. (a k d h, b k d h, c k d h)

-- each of them has fewer than 2^32 statements
pub are_short : (fs : List Function) → sum_by size_of_function fs < 2 ^ 32 → All (λ (f : Function). size_of_function f < 2 ^ 32) fs
are_short [] h = All-nil (λ (f : Function). size_of_function f < 2 ^ 32)
are_short (f ∷ fs) h =
    let e = sum_by-cons size_of_function f fs in
    let a : size_of_function f < 2 ^ 32 = omega (arith, h, e) in
    let b : sum_by size_of_function fs < 2 ^ 32 = omega (arith, h, e) in
    All-cons (λ (f : Function). size_of_function f < 2 ^ 32) f fs a (are_short fs b)
