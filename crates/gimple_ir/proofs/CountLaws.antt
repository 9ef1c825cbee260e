-- Larger limits of counts.
use Rattle.std.proofs.Common.{ℕ, ◌<◌, ◌≤◌, length, arith}
use Rattle.std.proofs.lemmas.List.Elements.{All-weaker}
use Rattle.gimple_ir.specs.declared.declarations.StructDef.{StructDef}
use Rattle.gimple_ir.specs.declared.program.Function.{Function}
use Rattle.gimple_ir.specs.declared.program.Program.{Program}
use Rattle.gimple_ir.specs.Size.{branches_of_function}
use Rattle.gimple_ir.specs.Counts.{CountsWithin}

pub counts_grow : (m n : ℕ) (p : Program) → m ≤ n → CountsWithin m p → CountsWithin n p
counts_grow m n p le h = record {
  structs = omega (arith, h.structs);
  fields = All-weaker (λ (s : StructDef). length s.fields < m) (λ s. length s.fields < n) (λ s k. omega arith) p.structs h.fields;
  globals = omega (arith, h.globals);
  functions = omega (arith, h.functions);
  size = omega (arith, h.size);
  formals = All-weaker (λ (f : Function). length f.params < m) (λ f. length f.params < n) (λ f k. omega arith) p.functions h.formals;
  locals = All-weaker (λ (f : Function). length f.locals < m) (λ f. length f.locals < n) (λ f k. omega arith) p.functions h.locals;
  branches = All-weaker (λ (f : Function). branches_of_function f < m) (λ f. branches_of_function f < n) (λ f k. omega arith) p.functions h.branches;
}
