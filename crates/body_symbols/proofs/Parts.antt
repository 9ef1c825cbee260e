-- What the symbols of a function are made from, and what they are.
use Rattle.std.proofs.Common.{◌≡◌, ℕ, zero, suc, ◌+◌, ◌<◌, ◌≤◌, ◌^◌, nat_le, cond, List, [], ◌∷◌, ◌++◌, take, drop, length, get_or, sum_by, Option, Some, None, IsSomeAnd, slice_get, refl, sym, ◌∙◌, ap, subst, arith}
use Rattle.std.proofs.lemmas.List.{drop_more, append_assoc}
use Rattle.std.proofs.lemmas.Option.{slice_get_within, slice_get-get_or, get_or_from_slice_get}
use Rattle.std.proofs.lemmas.List.Sums.{sum_by-cons}
use Rattle.std.specs.List.{All}
use Rattle.gimple_ir.specs.declared.scalar.Mode.{Mode}
use Rattle.gimple_ir.specs.declared.declarations.Decl.{Decl}
use Rattle.gimple_ir.specs.declared.declarations.Global.{Global}
use Rattle.gimple_ir.specs.declared.declarations.Register.{Register}
use Rattle.gimple_ir.specs.declared.statement.Stmt.{Stmt}
use Rattle.gimple_ir.specs.declared.block.Block.{Block}
use Rattle.gimple_ir.specs.declared.program.Function.{Function}
use Rattle.gimple_ir.specs.declared.program.Program.{Program}
use Rattle.gimple_ir.specs.Counts.{IsCountable}
use Rattle.gimple_ir.specs.Size.{size_of_block, size_of_function, branches_of_function}
use Rattle.gimple_core.specs.Sealed.{Sealed}
use Rattle.fix_engine.specs.declared.lifted.Lifted.{Lifted}
use Rattle.fix_engine.specs.declared.lifted.Lifted.TheVariants.{NotReached, Reached}
use Rattle.block_flow.specs.Steps.{where_reached, after_statements}
use Rattle.block_flow.specs.System.{value_or, body_at, point_value}
use Rattle.block_flow.proofs.BranchCounts.{function_branches}
use Rattle.body_symbols.specs.declared.symbol.Symbol.{Symbol}
use Rattle.body_symbols.specs.declared.change.Change.{Change}
use Rattle.body_symbols.specs.Bodies.{Body, body_of, change_of, changed}
use Rattle.body_symbols.specs.Found.{OfFunction, Found, changed_row, changed_by, row_after, row_in, change_at, changes_of, block_changes, is_index, point_row, AreSymbols}
use Rattle.body_symbols.specs.Parts.{AreParts, IsNumbered}

-- ---- the changes of blocks

value_there : (begins : List (Lifted (List Symbol))) (at : ℕ) (x : Lifted (List Symbol)) → at < length begins → x ≡ get_or begins at x → value_or (slice_get begins at) ≡ x
value_there [] at x l e = absurd (omega (arith, l))
value_there (y ∷ begins) zero x l e = sym e
value_there (y ∷ begins) (suc at) x l e = value_there begins at x (omega (arith, l)) e

pub more_blocks : (B : Body) (begins : List (Lifted (List Symbol))) (blocks : List Block) (all new goal : List (List Change)) (at : ℕ) (x : Lifted (List Symbol)) (b : Block) (cs : List Change) → at < length blocks → at < length begins → b ≡ get_or blocks at b → x ≡ get_or begins at x →
    cs ≡ changes_of B x b.body → new ≡ all ++ cs ∷ [] → all ++ block_changes B begins at (drop at blocks) ≡ goal → new ++ block_changes B begins (at + 1) (drop (at + 1) blocks) ≡ goal
more_blocks B begins blocks all new goal at x b cs l m is from made push before =
    let here : drop at blocks ≡ b ∷ drop (at + 1) blocks = drop_more blocks at b l ∙ ap (λ y. y ∷ drop (at + 1) blocks) (sym is) in
    let first : changes_of B (value_or (slice_get begins at)) b.body ≡ cs = ap (λ y. changes_of B y b.body) (value_there begins at x m from) ∙ sym made in
    let ahead : block_changes B begins at (drop at blocks) ≡ cs ∷ block_changes B begins (at + 1) (drop (at + 1) blocks) = ap (block_changes B begins at) here ∙ ap (λ y. y ∷ block_changes B begins (at + 1) (drop (at + 1) blocks)) first in
    ap (λ ys. ys ++ block_changes B begins (at + 1) (drop (at + 1) blocks)) push ∙ (append_assoc all (cs ∷ []) (block_changes B begins (at + 1) (drop (at + 1) blocks)) ∙ (ap (λ ys. all ++ ys) (sym ahead) ∙ before))

-- ---- the symbols at points

changes_count : (B : Body) (x : Lifted (List Symbol)) (ss : List Stmt) → length (changes_of B x ss) ≡ length ss
changes_count B x [] = refl
changes_count B x (s ∷ ss) = ap suc (changes_count B (changed_row x (change_at B x s)) ss)

one_is : (B : Body) (k j : ℕ) (s : Stmt) (x : Lifted (List Symbol)) → changed_row x (change_at B x s) ≡ where_reached x (λ row. changed row (change_of B row s))
one_is B k j s NotReached = refl
one_is B k j s (Reached row) = refl

changes_are : (B : Body) (k j i : ℕ) (ss : List Stmt) (x : Lifted (List Symbol)) → changed_by x (take i (changes_of B x ss)) ≡ after_statements (λ k i s row. changed row (change_of B row s)) k j (take i ss) x
changes_are B k j zero [] x = refl
changes_are B k j zero (s ∷ ss) x = refl
changes_are B k j (suc i) [] x = refl
changes_are B k j (suc i) (s ∷ ss) x =
    changes_are B k (j + 1) i ss (changed_row x (change_at B x s)) ∙ ap (λ y. after_statements (λ k i s row. changed row (change_of B row s)) k (j + 1) (take i ss) y) (one_is B k j s x)

row_is : (B : Body) (k i : ℕ) (ss : List Stmt) (x : Lifted (List Symbol)) → row_after x (changes_of B x ss) i ≡ cond (nat_le i (length ss)) (after_statements (λ k i s row. changed row (change_of B row s)) k 0 (take i ss) x) NotReached
row_is B k i ss x = (λ n. cond (nat_le i (changes_count B x ss n)) (changes_are B k 0 i ss x n) NotReached)

changes_at : (B : Body) (begins : List (Lifted (List Symbol))) (j k n : ℕ) (bs : List Block) (b : Block) → j + k ≡ n → slice_get bs k ≡ Some b → slice_get (block_changes B begins j bs) k ≡ Some (changes_of B (value_or (slice_get begins n)) b.body)
changes_at B begins j k n [] b e h = cc
changes_at B begins j zero n (x ∷ bs) b e h = let same : x ≡ b = cc in let m : j ≡ n = omega (arith, e) in λ i. Some (changes_of B (value_or (slice_get begins (m i))) (same i).body)
changes_at B begins j (suc k) n (x ∷ bs) b e h = changes_at B begins (j + 1) k n bs b (omega (arith, e)) h

changes_none : (B : Body) (begins : List (Lifted (List Symbol))) (j k : ℕ) (bs : List Block) → slice_get bs k ≡ None → slice_get (block_changes B begins j bs) k ≡ None
changes_none B begins j k [] h = refl
changes_none B begins j zero (x ∷ bs) h = cc
changes_none B begins j (suc k) (x ∷ bs) h = changes_none B begins (j + 1) k bs h

no_more : (xs : List (Lifted (List Symbol))) (i : ℕ) → slice_get xs i ≡ None → length xs ≤ i
no_more [] i e = omega arith
no_more (x ∷ xs) zero e = cc
no_more (x ∷ xs) (suc i) e = let rest = no_more xs i e in omega (arith, rest)

none_in : (o : Option (Lifted (List Symbol))) (i : ℕ) → row_in o None i ≡ NotReached
none_in None i = refl
none_in (Some x) i = refl

module _ (B : Body) (blocks : List Block) (begins : List (Lifted (List Symbol))) (l : length begins ≡ length blocks) (k i : ℕ) where
  abbrev Goal : Option (Lifted (List Symbol)) → Option (List Change) → Option Block → Type 0
  Goal x cs o = row_in x cs i ≡ cond (is_index o i) (after_statements (λ k i s row. changed row (change_of B row s)) k 0 (take i (body_at o)) (value_or x)) NotReached

  block_there : (b : Block) → slice_get blocks k ≡ Some b → (o : Option (Lifted (List Symbol))) → slice_get begins k ≡ o → Goal o (Some (changes_of B (value_or o) b.body)) (Some b)
  block_there b e None h = let past = no_more begins k h in let in_blocks = slice_get_within blocks k b e in absurd (omega (arith, past, in_blocks, l))
  block_there b e (Some x) h = row_is B k i b.body x

  by_block : (o : Option Block) → slice_get blocks k ≡ o → Goal (slice_get begins k) (slice_get (block_changes B begins 0 blocks) k) o
  by_block None e = ap (λ cs. row_in (slice_get begins k) cs i) (changes_none B begins 0 k blocks e) ∙ none_in (slice_get begins k) i
  by_block (Some b) e = subst (λ cs. Goal (slice_get begins k) cs (Some b)) (sym (changes_at B begins 0 k k blocks b (omega arith) e)) (block_there b e (slice_get begins k) refl)

  pub row_at_point : row_in (slice_get begins k) (slice_get (block_changes B begins 0 blocks) k) i ≡ point_row B blocks begins k i
  unfolding point_value
  row_at_point = by_block (slice_get blocks k) refl

-- ---- the symbols of a function

abbrev body_by : List Global → Mode → List Decl → List Register → ℕ → Body
body_by gs m ds rs n = record { globals = gs; mode = m; locals = ds; registers = rs; formals = n }

are_by : (p : Sealed) (n : ℕ) (f : Function) (rs : List Register) (begins : List (Lifted (List Symbol))) (changes : List (List Change)) → rs ≡ f.params ++ f.registers → AreParts (body_of p f) f.blocks begins changes → AreSymbols p n f (record { function = n; registers = rs; begins = begins; changes = changes })
are_by p n f rs begins changes r h = record {
  least = h.least;
  points = λ k i. ap (λ cs. row_in (slice_get begins k) (slice_get cs k) i) h.are ∙ row_at_point (body_of p f) f.blocks begins h.least.solves.one_each k i;
  function = refl;
  registers = r;
}

-- what a scene of these parts makes
pub symbols_are : (p : Sealed) (n : ℕ) (f : Function) (B : Body) (gs : List Global) (m : Mode) (ds : List Decl) (rs : List Register) (count : ℕ) (blocks : List Block) (begins : List (Lifted (List Symbol))) (changes : List (List Change)) →
    B ≡ record { globals = gs; mode = m; locals = ds; registers = rs; formals = count } → gs ≡ p.program.globals → m ≡ p.mode → ds ≡ f.locals → rs ≡ f.params ++ f.registers → count ≡ length f.params → blocks ≡ f.blocks → AreParts B blocks begins changes →
    AreSymbols p n f (record { function = n; registers = rs; begins = begins; changes = changes })
symbols_are p n f B gs m ds rs count blocks begins changes e g o d r c k h =
    let same : B ≡ body_of p f = e ∙ (λ i. body_by (g i) (o i) (d i) (r i) (c i)) in
    are_by p n f rs begins changes r (subst (λ bs. AreParts (body_of p f) bs begins changes) k (subst (λ C. AreParts C blocks begins changes) same h))

-- ---- numbers

blocks_within : (bs : List Block) → length bs ≤ sum_by size_of_block bs
blocks_within [] = omega arith
blocks_within (b ∷ bs) = let rest = blocks_within bs in omega (arith, rest, sum_by-cons size_of_block b bs)

body_within : (bs : List Block) (k : ℕ) (b : Block) → slice_get bs k ≡ Some b → length b.body ≤ sum_by size_of_block bs
body_within [] k b e = cc
body_within (x ∷ bs) zero b e =
    let is : x ≡ b = cc in
    let same : length x.body ≡ length b.body = ap (λ (y : Block). length y.body) is in
    omega (arith, same, sum_by-cons size_of_block x bs)
body_within (x ∷ bs) (suc k) b e = let rest = body_within bs k b e in omega (arith, rest, sum_by-cons size_of_block x bs)

function_within : (fs : List Function) (k : ℕ) (f : Function) → slice_get fs k ≡ Some f → size_of_function f ≤ sum_by size_of_function fs
function_within [] k f e = cc
function_within (x ∷ fs) zero f e =
    let is : x ≡ f = cc in
    let same : size_of_function x ≡ size_of_function f = ap size_of_function is in
    omega (arith, same, sum_by-cons size_of_function x fs)
function_within (x ∷ fs) (suc k) f e = let rest = function_within fs k f e in omega (arith, rest, sum_by-cons size_of_function x fs)

of_all : (P : Function → Type 0) (fs : List Function) (k : ℕ) (f : Function) → slice_get fs k ≡ Some f → All P fs → P f
of_all P fs k f e h = subst P (get_or_from_slice_get fs k f f e) (h k f (slice_get_within fs k f e))

pub is_numbered : (p : Program) (k : ℕ) (f : Function) → slice_get p.functions k ≡ Some f → IsCountable p → IsNumbered f
is_numbered p k f e h =
    let size = function_within p.functions k f e in
    let all = h.size in
    let branches : branches_of_function f < 2 ^ 32 = of_all (λ (g : Function). branches_of_function g < 2 ^ 32) p.functions k f e h.branches in
    record {
      formals = of_all (λ (g : Function). length g.params < 2 ^ 32) p.functions k f e h.formals;
      locals = of_all (λ (g : Function). length g.locals < 2 ^ 32) p.functions k f e h.locals;
      few = record {
        blocks_few = let w = blocks_within f.blocks in omega (arith, w, size, all);
        branches_few = subst (λ n. n < 2 ^ 32) (sym (function_branches f)) branches;
        bodies_few = λ j b x. let w = body_within f.blocks j b x in omega (arith, w, size, all);
      };
    }

-- ---- the function of a number

pub numbered : (q p : Program) (fs : List Function) (n : ℕ) (f : Function) → q ≡ p → fs ≡ q.functions → n < length p.functions → f ≡ get_or fs n f → slice_get p.functions n ≡ Some f
numbered q p fs n f e g l is =
    let all : fs ≡ p.functions = g ∙ ap (λ (x : Program). x.functions) e in
    let here : f ≡ get_or p.functions n f = subst (λ (xs : List Function). f ≡ get_or xs n f) all is in
    slice_get-get_or p.functions n f l ∙ ap Some (sym here)

pub of_function : (p : Sealed) (n : ℕ) (f : Function) (t : Found) → slice_get p.program.functions n ≡ Some f → AreSymbols p n f t → OfFunction p.program n (λ g. AreSymbols p n g t)
of_function p n f t there h = subst (λ o. IsSomeAnd o (λ g. AreSymbols p n g t)) (sym there) h
