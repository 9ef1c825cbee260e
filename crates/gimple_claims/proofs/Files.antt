-- The file at a point, as a relation and as a function.
use Rattle.std.proofs.Common.{◌≡◌, ℕ, ◌+◌, List, [], ◌∷◌, ◌++◌, refl, sym, ◌∙◌, ap, subst, append_assoc, length, length-append, take, Option, Some, arith, slice_get}
use Rattle.std.specs.Option.{option_and_then}
use Rattle.std.proofs.Math.Seq.{take-append_seam}
use Rattle.gimple_ir.specs.declared.program.Function.{Function}
use Rattle.gimple_ir.specs.declared.block.Block.{Block}
use Rattle.gimple_ir.specs.declared.statement.Stmt.{Stmt}
use Rattle.gimple_ir.specs.declared.block.End.{End}
use Rattle.gimple_claims.specs.Bodies.{BodyFlow, IsBlock, first, jumped, StateAt, begin, next, carried, body_of, file_at}
use Rattle.gimple_claims.proofs.Blocks.{label_at}

block_found : (f : Function) (k : ℕ) (b : Block) → IsBlock f k b → slice_get f.blocks k ≡ Some b
block_found f k b (first bs e z) = subst (λ cs. slice_get cs k ≡ Some b) (sym e) (subst (λ n. slice_get (b ∷ bs) n ≡ Some b) (sym z) refl)
block_found f k b (jumped label e) = label_at label k f.blocks b e

carried_more : {A : Type 0} (flow : ℕ → ℕ → Stmt → A → Option A) (k i j : ℕ) (xs : List Stmt) (x : Stmt) (o : Option A) → i + length xs ≡ j → carried flow k i (xs ++ x ∷ []) o ≡ option_and_then (flow k j x) (carried flow k i xs o)
carried_more flow k i j [] x o e = let same : i ≡ j = omega (arith, e) in ap (λ n. option_and_then (flow k n x) o) same
carried_more flow k i j (y ∷ ys) x o e = carried_more flow k (i + 1) j ys x (option_and_then (flow k i y) o) (omega (arith, e))

pub record Placed {A : Type 0} (f : Function) (F : BodyFlow A) (sol : ℕ → Option A) (k i : ℕ) (xs : List Stmt) (e : End) (a : A) : Type 0 where
  pub block : Block
  pub done : List Stmt
  pub found : slice_get f.blocks k ≡ Some block
  pub body : block.body ≡ done ++ xs
  pub index : length done ≡ i
  pub end : e ≡ block.end
  pub file : carried F.flow k 0 done (sol k) ≡ Some a

pub placed : {A : Type 0} (f : Function) (F : BodyFlow A) (sol : ℕ → Option A) (k i : ℕ) (xs : List Stmt) (e : End) (a : A) → StateAt f F sol k i xs e a → Placed f F sol k i xs e a
placed f F sol _ _ _ _ _ (begin k b a is e) = record { block = b; done = []; found = block_found f k b is; body = refl; index = refl; end = refl; file = e }
placed f F sol _ _ _ _ _ (next k i x xs e a c at g) =
    let h : Placed f F sol k i (x ∷ xs) e a = placed f F sol k i (x ∷ xs) e a at in
    let n : length h.done ≡ i = h.index in
    record {
      block = h.block;
      done = h.done ++ x ∷ [];
      found = h.found;
      body = h.body ∙ sym (append_assoc h.done (x ∷ []) xs);
      index = length-append h.done (x ∷ []) ∙ omega (arith, n);
      end = h.end;
      file = carried_more F.flow k 0 i h.done x (sol k) (omega (arith, n)) ∙ (ap (option_and_then (F.flow k i x)) h.file ∙ g);
    }

pub file_is : {A : Type 0} (f : Function) (F : BodyFlow A) (sol : ℕ → Option A) (k i : ℕ) (xs : List Stmt) (e : End) (a : A) → StateAt f F sol k i xs e a → file_at F sol f.blocks k i ≡ Some a
unfolding file_at
file_is f F sol k i xs e a at =
    let h : Placed f F sol k i xs e a = placed f F sol k i xs e a at in
    ap (λ o. carried F.flow k 0 (take i (body_of o)) (sol k)) h.found ∙
    (ap (λ ys. carried F.flow k 0 (take i ys) (sol k)) h.body ∙
    (ap (λ n. carried F.flow k 0 (take n (h.done ++ xs)) (sol k)) (sym h.index) ∙
    (ap (λ ys. carried F.flow k 0 ys (sol k)) (take-append_seam h.done xs) ∙ h.file)))
