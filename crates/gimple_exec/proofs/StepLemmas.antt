-- The next statement, by its place.
use Rattle.std.proofs.Common.{◌≡◌, ◌∙◌, ap, sym, refl, subst, ℕ, zero, suc, ◌+◌, ◌<◌, length, arith, List, [], ◌∷◌, map, drop, slice_get, Some, None, add-one}
use Rattle.gimple_core.specs.Sealed.{Sealed}
use Rattle.gimple_ir.specs.declared.block.Block.{Block}
use Rattle.gimple_ir.specs.declared.statement.Stmt.{Stmt}
use Rattle.gimple_core.specs.State.{State}
use Rattle.gimple_core.specs.Run.{Did, Goes, Reaches, Reached, finish, perform, step, stepped, walk, then_walk, resumed}
use Rattle.gimple_core.proofs.Simulation.{KeepsRest, perform_rest}
use Rattle.gimple_core.proofs.StepLemmas.{walk_step}
use Rattle.gimple_lowered.specs.declared.types.Instruction.{Instruction}
use Rattle.gimple_lowered.specs.declared.types.Piece.{Piece}
use Rattle.gimple_lowered.specs.Lowered.{instruction_of, piece_of}
use Rattle.gimple_lowered.specs.Meaning.{performs, ends}
use Rattle.gimple_lowered.proofs.Meanings.{performs_as, ends_as}
use Rattle.gimple_exec.specs.declared.machine.Reach.{Reach}
use Rattle.gimple_exec.specs.declared.machine.Machine.{Machine}
use Rattle.gimple_exec.specs.Tables.{names_at}
use Rattle.gimple_exec.specs.Machines.{state_of, function_of, block_of, Arrives, ArrivesBy}

drop_none : {X : Type 0} (xs : List X) (i : ℕ) → slice_get xs i ≡ None → drop i xs ≡ []
drop_none [] zero e = refl
drop_none [] (suc i) e = refl
drop_none (x ∷ xs) zero e = cc
drop_none (x ∷ xs) (suc i) e = drop_none xs i e

drop_some : {X : Type 0} (xs : List X) (i : ℕ) (y : X) → slice_get xs i ≡ Some y → drop i xs ≡ y ∷ drop (suc i) xs
drop_some [] zero y e = cc
drop_some [] (suc i) y e = cc
drop_some (x ∷ xs) zero y e = let same : x ≡ y = cc in ap (λ z. z ∷ xs) same
drop_some (x ∷ xs) (suc i) y e = drop_some xs i y e

-- the machine with its index moved on
abbrev pub moved_on : Machine → Machine
moved_on m = record m { top = record m.top { index = m.top.index + 1 } }

pub step_end : (p : Sealed) (m : Machine) (b : Block) → b ≡ block_of (function_of p m.top.function) m.top.block → slice_get b.body m.top.index ≡ None → step p (state_of p m) ≡ Reaches (finish p.program.globals b.end (state_of p m))
step_end p m b e g =
    let rest : drop m.top.index (block_of (function_of p m.top.function) m.top.block).body ≡ [] = subst (λ (c : Block). drop m.top.index c.body ≡ []) e (drop_none b.body m.top.index g) in
    ap (stepped p (state_of p m)) rest ∙ ap (λ (c : Block). Reaches (finish p.program.globals c.end (state_of p m))) (sym e)

pub step_stmt : (p : Sealed) (m : Machine) (b : Block) (x : Stmt) → b ≡ block_of (function_of p m.top.function) m.top.block → slice_get b.body m.top.index ≡ Some x → step p (state_of p m) ≡ perform p x (state_of p (moved_on m))
step_stmt p m b x e g =
    let rest : drop m.top.index (block_of (function_of p m.top.function) m.top.block).body ≡ x ∷ drop (suc m.top.index) (block_of (function_of p m.top.function) m.top.block).body = subst (λ (c : Block). drop m.top.index c.body ≡ x ∷ drop (suc m.top.index) c.body) e (drop_some b.body m.top.index x g) in
    ap (stepped p (state_of p m)) rest ∙ rw add-one refl

-- ---- a step by the lowered form

no_item : {X Y : Type 0} (f : X → Y) (xs : List X) (i : ℕ) → slice_get (map f xs) i ≡ None → slice_get xs i ≡ None
no_item f [] zero e = refl
no_item f [] (suc i) e = refl
no_item f (x ∷ xs) zero e = cc
no_item f (x ∷ xs) (suc i) e = no_item f xs i e

item_of : {X Y : Type 0} (f : X → Y) (xs : List X) (i : ℕ) (y : Y) → slice_get (map f xs) i ≡ Some y → (x : X) × (slice_get xs i ≡ Some x) × (f x ≡ y)
item_of f [] zero y e = cc
item_of f [] (suc i) y e = cc
item_of f (x ∷ xs) zero y e = let same : f x ≡ y = cc in (x, refl, same)
item_of f (x ∷ xs) (suc i) y e = item_of f xs i y e

pub step_ends : (p : Sealed) (m : Machine) (c : Piece) → c ≡ piece_of (names_at p m.top.function) (block_of (function_of p m.top.function) m.top.block) → slice_get c.body m.top.index ≡ None → step p (state_of p m) ≡ Reaches (ends c.end (state_of p m))
step_ends p m c e g =
    let none = no_item (instruction_of (names_at p m.top.function)) (block_of (function_of p m.top.function) m.top.block).body m.top.index (ap (λ (d : Piece). slice_get d.body m.top.index) (sym e) ∙ g) in
    step_end p m (block_of (function_of p m.top.function) m.top.block) refl none
    ∙ ap Reaches (sym (ends_as p (state_of p m) (block_of (function_of p m.top.function) m.top.block).end))
    ∙ ap (λ (d : Piece). Reaches (ends d.end (state_of p m))) (sym e)

pub step_does : (p : Sealed) (m : Machine) (c : Piece) (x : Instruction) → c ≡ piece_of (names_at p m.top.function) (block_of (function_of p m.top.function) m.top.block) → slice_get c.body m.top.index ≡ Some x → step p (state_of p m) ≡ performs p x (state_of p (moved_on m))
step_does p m c x e g =
    let (y, there, same) = item_of (instruction_of (names_at p m.top.function)) (block_of (function_of p m.top.function) m.top.block).body m.top.index x (ap (λ (d : Piece). slice_get d.body m.top.index) (sym e) ∙ g) in
    step_stmt p m (block_of (function_of p m.top.function) m.top.block) y refl there
    ∙ sym (performs_as p (state_of p (moved_on m)) y)
    ∙ ap (λ (i : Instruction). performs p i (state_of p (moved_on m))) same

-- ---- walks

-- the walk goes on from the state that a step goes to
pub walk_goes : (p : Sealed) (s t : State) → step p s ≡ Goes t → walk p s.top.rest s ≡ walk p t.top.rest t
walk_goes p s t e = walk_step p s.top.rest s ∙ ap (λ d. then_walk d (λ u. walk p u.top.rest u)) e

ends_by : (p : Sealed) (n : ℕ) (reach : Reach) (m : Machine) (d : Did) (r : Reached) → r ≡ then_walk d (λ u. walk p u.top.rest u) → ArrivesBy p n reach d m → Arrives p n reach r m
ends_by p n reach m (Goes t) r e a = absurd a
ends_by p n reach m (Reaches q) r e a = subst (λ v. Arrives p n reach v m) (sym e) a

-- the walk ends where a step does
pub walk_ends : (p : Sealed) (s : State) (n : ℕ) (reach : Reach) (m : Machine) → ArrivesBy p n reach (step p s) m → Arrives p n reach (walk p s.top.rest s) m
walk_ends p s n reach m a = ends_by p n reach m (step p s) (walk p s.top.rest s) (walk_step p s.top.rest s) a

rest_goes : (p : Sealed) (s t : State) (xs : List Stmt) → stepped p s xs ≡ Goes t → length t.top.rest < length xs
rest_goes p s t [] e = cc
rest_goes p s t (x ∷ xs) e =
    let k : t.top.rest ≡ xs = subst (KeepsRest xs) e (perform_rest p x (resumed s xs)) in
    let l : length t.top.rest ≡ length xs = ap length k in
    omega (arith, l)

-- a step that goes on leaves fewer statements
pub step_shortens : (p : Sealed) (s t : State) → step p s ≡ Goes t → length t.top.rest < length s.top.rest
step_shortens p s t e = rest_goes p s t s.top.rest e
