-- What the code asks of a function and of its values.
use Rattle.std.proofs.Common.{◌≡◌, ℕ, zero, suc, ◌+◌, ◌<◌, ◌≤◌, ◌^◌, nat_le, ℤ, Bool, true, false, cond, List, [], ◌∷◌, ◌++◌, take, length, Option, Some, None, IsSomeAnd, slice_get, get_or, refl, sym, ◌∙◌, ap, subst, arith}
use Rattle.std.specs.Prelude.{slice_index_or, sum_by, find}
use Rattle.std.proofs.lemmas.Bool.Decides.{nat_tests}
use Rattle.std.proofs.lemmas.Bool.{leb-true}
use Rattle.std.proofs.lemmas.List.Sums.{sum_by-cons}
use Rattle.std.proofs.lemmas.Option.{slice_get-get_or}
use Rattle.gimple_ir.specs.declared.statement.Stmt.{Stmt}
use Rattle.gimple_ir.specs.declared.declarations.Decl.{Decl}
use Rattle.gimple_ir.specs.declared.declarations.Global.{Global}
use Rattle.gimple_ir.specs.declared.declarations.Register.{Register}
use Rattle.gimple_ir.specs.declared.declarations.StructDef.{StructDef}
use Rattle.gimple_ir.specs.declared.block.Block.{Block}
use Rattle.gimple_ir.specs.declared.program.Function.{Function}
use Rattle.gimple_ir.specs.declared.program.Program.{Program}
use Rattle.gimple_core.specs.Layout.{layout_of}
use Rattle.std.specs.Str.{bytes_eq}
use Rattle.gimple_core.specs.Sealed.{Sealed}
use Rattle.gimple_core.specs.Accepted.{IsAccepted}
use Rattle.gimple_ir.specs.Size.{size_of_block, size_of_function, size_of_program, branches_of_function}
use Rattle.fix_engine.specs.Bools.{both}
use Rattle.fix_engine.specs.Rows.{Each}
use Rattle.fix_engine.specs.Least.{value_at}
use Rattle.fix_engine.specs.declared.lifted.Lifted.{Lifted}
use Rattle.fix_engine.specs.declared.lifted.Lifted.TheVariants.{NotReached}
use Rattle.block_flow.specs.Steps.{where_reached, after_statements}
use Rattle.block_flow.specs.System.{equations_of, body_at, value_or, point_value, AreFew}
use Rattle.block_flow.proofs.BranchCounts.{function_branches}
use Rattle.value_domain.specs.declared.abs_val.AbsVal.{AbsVal}
use Rattle.value_domain.specs.Values.{FitsWith}
use Rattle.value_domain.specs.Thresholds.{Limits, IsLawful, thresholds_list}
use Rattle.value_domain.proofs.LawfulLemmas.{list_lawful}
use Rattle.body_values.specs.declared.facts.Facts.{Facts}
use Rattle.body_values.specs.declared.facts.LoadFact.{LoadFact}
use Rattle.body_values.specs.declared.scene.Scene.{Scene}
use Rattle.body_values.specs.Bodies.{Body, after_stmt}
use Rattle.body_values.specs.Fitting.{fits_by, is_fitting, file_by, is_file}
use Rattle.body_values.specs.Flow.{given_load, body_of, entry_row, steps_of}
use Rattle.body_values.specs.GivenLoads.{GivenLoads}
use Rattle.body_values.specs.Found.{OfFunction, Found, AreFound, found_row, is_index, point_row}
use Rattle.body_values.specs.PointRows.{rows_from, block_rows}
use Rattle.body_values.specs.Ready.{loads_by, Carried, lawful_of}
use Rattle.body_values.specs.Scenes.{body_in, FitsIn}
use Rattle.body_values.specs.Setting.{IsGiven, IsSceneBy, IsSceneOf, AreBegins, AreRows, WereFound}
use Rattle.body_values.specs.System.{FactsFit, file_from, entry_fits}
use Rattle.gimple_core.proofs.AcceptedLayouts.{global_layout}

-- ---- what a flow carries

are_loads : (most : ℕ) (ts : List ℤ) (loads : List LoadFact) → Each (λ x. FitsWith most ts x.value) loads → loads_by most ts loads ≡ true
are_loads most ts [] h = refl
are_loads most ts (x ∷ loads) h = both (fits_by most ts x.value) (loads_by most ts loads) (is_fitting most ts x.value h.0) (are_loads most ts loads h.1)

abbrev AreSmall : List StructDef → List Global → Type 0
AreSmall structs globals = (name : List ℕ) (g : Global) → find (λ g. bytes_eq g.decl.name name) globals ≡ Some g → (layout_of structs g.decl).size ≤ 2 ^ 24

-- a scene of the function's parts
pub scene_is : (s : Scene) (p : Sealed) (n : ℕ) (f : Function) (facts : Facts) (limits : Limits) (structs : List StructDef) (globals : List Global) (locals slots : List Decl) (rs : List Register) (loads : GivenLoads) (given : List LoadFact) → IsSceneBy s p structs globals locals rs loads limits →
    structs ≡ p.program.structs → globals ≡ p.program.globals → locals ≡ slots → slots ≡ f.locals → rs ≡ f.params ++ f.registers → loads ≡ record { facts = given; function = n } → given ≡ facts.loads → IsSceneOf s p n f facts limits
scene_is s p n f facts limits structs globals locals slots rs loads given h z a b c d e g = record {
  program = h.program;
  structs = h.known ∙ z;
  globals = h.named ∙ a;
  locals = h.own ∙ (b ∙ c);
  registers = h.registers ∙ d;
  loads = h.given ∙ (e ∙ (λ i. record { facts = g i; function = n }));
  thresholds = h.thresholds;
}

pub carried_of : (s : Scene) (p : Sealed) (n : ℕ) (f : Function) (facts : Facts) (limits : Limits) → IsSceneOf s p n f facts limits → IsGiven p.program f facts limits → Carried s
carried_of s p n f facts limits h g =
    let loads : loads_by s.limits.now.size s.limits.now.ends s.loads.now.facts ≡ loads_by limits.size limits.ends facts.loads = λ i. loads_by (h.thresholds i).size (h.thresholds i).ends (h.loads i).facts in
    record {
      few = subst (λ (gs : List Global). length gs < 2 ^ 32) (sym h.globals) g.globals;
      small = subst (λ (gs : List Global). AreSmall s.structs.now gs) (sym h.globals) (subst (λ (ss : List StructDef). AreSmall ss p.program.globals) (sym h.structs) (λ name x e. (global_layout p.program g.accepted name x e).size));
      ends = ap (λ (l : Limits). l.ends) h.thresholds ∙ (g.ends ∙ ap (λ (q : Sealed). thresholds_list q.program) (sym h.program));
      loads = loads ∙ are_loads limits.size limits.ends facts.loads g.fit.loads;
    }

pub entry_passes : (s : Scene) (p : Sealed) (n : ℕ) (f : Function) (facts : Facts) (limits : Limits) (e : Lifted (List AbsVal)) → IsSceneOf s p n f facts limits → IsGiven p.program f facts limits → e ≡ entry_row f facts.formals limits.size limits.ends →
    file_by s.limits.now.size s.limits.now.ends (length s.registers.now) e ≡ true
entry_passes s p n f facts limits e h g k =
    let law : IsLawful limits.ends = subst IsLawful (sym g.ends) (list_lawful p.program) in
    let same : file_by s.limits.now.size s.limits.now.ends (length s.registers.now) e ≡ file_by limits.size limits.ends (length (f.params ++ f.registers)) (entry_row f facts.formals limits.size limits.ends) =
    λ i. file_by (h.thresholds i).size (h.thresholds i).ends (length (h.registers i)) (k i) in
    same ∙ is_file limits.size limits.ends (length (f.params ++ f.registers)) (entry_row f facts.formals limits.size limits.ends) (entry_fits f facts limits.size limits.ends law g.fit)

-- ---- numbers

blocks_within : (bs : List Block) → length bs ≤ sum_by size_of_block bs
blocks_within [] = omega arith
blocks_within (b ∷ bs) = let rest = blocks_within bs in omega (arith, rest, sum_by-cons size_of_block b bs)

body_within : (bs : List Block) (k : ℕ) (b : Block) → slice_get bs k ≡ Some b → length b.body ≤ sum_by size_of_block bs
body_within [] k b e = cc
body_within (x ∷ bs) zero b e =
    let is : x ≡ b = cc in
    let same : length x.body ≡ length b.body = ap (λ (y : Block). length y.body) is in
    omega (arith, same, sum_by-cons size_of_block x bs)
body_within (x ∷ bs) (suc k) b e = let rest = body_within bs k b e in omega (arith, rest, sum_by-cons size_of_block x bs)

pub are_few : (bs : List Block) (branches : ℕ) → sum_by size_of_block bs < 2 ^ 32 → branches < 2 ^ 32 → AreFew bs branches
are_few bs branches h g = record {
  blocks_few = let w = blocks_within bs in omega (arith, w, h);
  branches_few = g;
  bodies_few = λ k b e. let w = body_within bs k b e in omega (arith, w, h);
}

pub fewer : (bs : List Block) (branches : ℕ) → AreFew bs branches → AreFew bs 0
fewer bs branches h = record { blocks_few = h.blocks_few; branches_few = omega arith; bodies_few = h.bodies_few }

function_within : (fs : List Function) (k : ℕ) (f : Function) → slice_get fs k ≡ Some f → size_of_function f ≤ sum_by size_of_function fs
function_within [] k f e = cc
function_within (x ∷ fs) zero f e =
    let is : x ≡ f = cc in
    let same : size_of_function x ≡ size_of_function f = ap size_of_function is in
    omega (arith, same, sum_by-cons size_of_function x fs)
function_within (x ∷ fs) (suc k) f e = let rest = function_within fs k f e in omega (arith, rest, sum_by-cons size_of_function x fs)

-- ---- that the solution fits

each_of : (P : Lifted (List AbsVal) → Type 0) (xs : List (Lifted (List AbsVal))) (d : ℕ → Lifted (List AbsVal)) → ((n : ℕ) → n < length xs → P (slice_index_or xs n (d n))) → Each P xs
each_of P [] d h = tt
each_of P (x ∷ xs) d h = (h 0 (omega arith), each_of P xs (λ n. d (suc n)) (λ n l. h (suc n) (omega (arith, l))))

pub begins_fit : (s : Scene) (blocks : List Block) (e : Lifted (List AbsVal)) (xs : List (Lifted (List AbsVal))) → Carried s → AreBegins (body_in s) blocks e xs → Each (FitsIn s) xs
begins_fit s blocks e xs c h =
    each_of (FitsIn s) xs (equations_of (steps_of (body_in s) e) blocks).start
    (λ n l. file_from s.limits.now.size s.limits.now.ends (length s.registers.now) (value_at (equations_of (steps_of (body_in s) e) blocks) xs n) (lawful_of s c) (h.solves.fit n (subst (λ m. n < m) h.solves.one_each l)))

pub rows_are : (B : Body) (blocks : List Block) (e : Lifted (List AbsVal)) (xs : List (Lifted (List AbsVal))) (rows : List (List (Lifted (List AbsVal)))) → AreBegins B blocks e xs → rows ≡ block_rows B 0 blocks xs → AreRows B blocks e rows
rows_are B blocks e xs rows h are = record { begins = xs; least = h; are = are }

-- ---- the rows

row_in : (B : Body) (k j : ℕ) (ss : List Stmt) (x : Lifted (List AbsVal)) (i : ℕ) → i ≤ length ss → value_or (slice_get (rows_from B k j ss x) i) ≡ after_statements (after_stmt B) k j (take i ss) x
row_in B k j [] x zero l = refl
row_in B k j [] x (suc i) l = absurd (omega (arith, l))
row_in B k j (s ∷ ss) x zero l = refl
row_in B k j (s ∷ ss) x (suc i) l = row_in B k (j + 1) ss (where_reached x (after_stmt B k j s)) i (omega (arith, l))

row_past : (B : Body) (k j : ℕ) (ss : List Stmt) (x : Lifted (List AbsVal)) (i : ℕ) → length ss < i → value_or (slice_get (rows_from B k j ss x) i) ≡ NotReached
row_past B k j [] x zero l = absurd (omega (arith, l))
row_past B k j [] x (suc i) l = refl
row_past B k j (s ∷ ss) x zero l = absurd (omega (arith, l))
row_past B k j (s ∷ ss) x (suc i) l = row_past B k (j + 1) ss (where_reached x (after_stmt B k j s)) i (omega (arith, l))

past : (i n : ℕ) → nat_le i n ≡ false → n < i
past i n h = grind (arith, nat_tests, h)

row_of_block : (B : Body) (k : ℕ) (ss : List Stmt) (x : Lifted (List AbsVal)) (i : ℕ) → value_or (slice_get (rows_from B k 0 ss x) i) ≡ cond (nat_le i (length ss)) (after_statements (after_stmt B) k 0 (take i ss) x) NotReached
row_of_block B k ss x i = by (nat_le i (length ss)) refl
  where
    by : (b : Bool) → nat_le i (length ss) ≡ b → value_or (slice_get (rows_from B k 0 ss x) i) ≡ cond b (after_statements (after_stmt B) k 0 (take i ss) x) NotReached
    by true e = row_in B k 0 ss x i (leb-true i (length ss) e)
    by false e = row_past B k 0 ss x i (past i (length ss) e)

row_of : (B : Body) (j : ℕ) (bs : List Block) (xs : List (Lifted (List AbsVal))) → length xs ≡ length bs → (k i : ℕ) →
    found_row (block_rows B j bs xs) k i ≡ cond (is_index (slice_get bs k) i) (after_statements (after_stmt B) (j + k) 0 (take i (body_at (slice_get bs k))) (value_or (slice_get xs k))) NotReached
row_of B j [] xs e k i = refl
row_of B j (b ∷ bs) [] e k i = absurd (omega (arith, e))
row_of B j (b ∷ bs) (x ∷ xs) e zero i =
    let z : j ≡ j + 0 = omega arith in
    row_of_block B j b.body x i ∙ ap (λ (m : ℕ). cond (nat_le i (length b.body)) (after_statements (after_stmt B) m 0 (take i b.body) x) NotReached) z
row_of B j (b ∷ bs) (x ∷ xs) e (suc k) i =
    let z : (j + 1) + k ≡ j + suc k = omega arith in
    row_of B (j + 1) bs xs (omega (arith, e)) k i
    ∙ ap (λ (m : ℕ). cond (is_index (slice_get bs k) i) (after_statements (after_stmt B) m 0 (take i (body_at (slice_get bs k))) (value_or (slice_get xs k))) NotReached) z

row_at_point : (B : Body) (bs : List Block) (xs : List (Lifted (List AbsVal))) → length xs ≡ length bs → (k i : ℕ) → found_row (block_rows B 0 bs xs) k i ≡ point_row B bs xs k i
unfolding point_value
row_at_point B bs xs e k i =
    let z : 0 + k ≡ k = omega arith in
    row_of B 0 bs xs e k i
    ∙ ap (λ (m : ℕ). cond (is_index (slice_get bs k) i) (after_statements (after_stmt B) m 0 (take i (body_at (slice_get bs k))) (value_or (slice_get xs k))) NotReached) z

-- ---- the values

body_is : (s : Scene) (p : Sealed) (n : ℕ) (f : Function) (facts : Facts) (limits : Limits) → IsSceneOf s p n f facts limits → body_in s ≡ body_of p n f facts limits.size limits.ends
body_is s p n f facts limits h = λ i. record {
  structs = h.structs i;
  globals = h.globals i;
  mode = (h.program i).mode;
  locals = h.locals i;
  registers = h.registers i;
  most = (h.thresholds i).size;
  ends = (h.thresholds i).ends;
  loads = given_load (h.loads i).facts (h.loads i).function;
}

found_by : (p : Sealed) (n : ℕ) (f : Function) (facts : Facts) (limits : Limits) (rs : List Register) (rows : List (List (Lifted (List AbsVal)))) → rs ≡ f.params ++ f.registers →
    AreRows (body_of p n f facts limits.size limits.ends) f.blocks (entry_row f facts.formals limits.size limits.ends) rows → AreFound p n f facts limits (record { function = n; registers = rs; limits = limits; rows = rows })
found_by p n f facts limits rs rows e r = record {
  begins = r.begins;
  values = r.least;
  points = λ k i. ap (λ (ys : List (List (Lifted (List AbsVal)))). found_row ys k i) r.are ∙ row_at_point (body_of p n f facts limits.size limits.ends) f.blocks r.begins r.least.solves.one_each k i;
  function = refl;
  registers = e;
  made_with = refl;
}

pub found_of : (s : Scene) (p : Sealed) (n : ℕ) (f : Function) (facts : Facts) (limits : Limits) (rs : List Register) (blocks : List Block) (entry : Lifted (List AbsVal)) (rows : List (List (Lifted (List AbsVal)))) → IsSceneOf s p n f facts limits →
    rs ≡ f.params ++ f.registers → blocks ≡ f.blocks → entry ≡ entry_row f facts.formals limits.size limits.ends → AreRows (body_in s) blocks entry rows → AreFound p n f facts limits (record { function = n; registers = rs; limits = limits; rows = rows })
found_of s p n f facts limits rs blocks entry rows h e b k r =
    found_by p n f facts limits rs rows e
    (subst (λ B. AreRows B f.blocks (entry_row f facts.formals limits.size limits.ends) rows) (body_is s p n f facts limits h)
    (subst (λ x. AreRows (body_in s) f.blocks x rows) k (subst (λ bs. AreRows (body_in s) bs entry rows) b r)))

-- ---- of a function by its number

of_function : (P : Function → Type 0) (o : Option Function) (f : Function) → o ≡ Some f → IsSomeAnd o P → P f
of_function P None f e h = cc
of_function P (Some g) f e h = let same : g ≡ f = cc in subst P same h

to_function : (P : Function → Type 0) (o : Option Function) (f : Function) → o ≡ Some f → P f → IsSomeAnd o P
to_function P o f e h = subst (λ x. IsSomeAnd x P) (sym e) h

-- what stands at a number
pub numbered : (q p : Program) (fs : List Function) (n : ℕ) (f : Function) → q ≡ p → fs ≡ q.functions → n < length p.functions → f ≡ get_or fs n f → slice_get p.functions n ≡ Some f
numbered q p fs n f e g l is =
    let all : fs ≡ p.functions = g ∙ ap (λ (x : Program). x.functions) e in
    let here : f ≡ get_or p.functions n f = subst (λ (xs : List Function). f ≡ get_or xs n f) all is in
    slice_get-get_or p.functions n f l ∙ ap Some (sym here)

pub given_by : (p : Program) (n : ℕ) (f : Function) (facts : Facts) (most : ℕ) (limits : Limits) → slice_get p.functions n ≡ Some f → IsAccepted p → length p.globals < 2 ^ 32 → size_of_program p < 2 ^ 32 →
    OfFunction p n (λ f. branches_of_function f < 2 ^ 32) → OfFunction p n (λ f. FactsFit f facts most (thresholds_list p)) → limits.size ≡ most → limits.ends ≡ thresholds_list p → IsGiven p f facts limits
given_by p n f facts most limits e accepted globals size branches fit m ts = record {
  accepted = accepted;
  globals = globals;
  size = let w = function_within p.functions n f e in omega (arith, w, size);
  branches = subst (λ k. k < 2 ^ 32) (sym (function_branches f)) (of_function (λ f. branches_of_function f < 2 ^ 32) (slice_get p.functions n) f e branches);
  ends = ts;
  fit = subst (λ us. FactsFit f facts limits.size us) (sym ts) (subst (λ k. FactsFit f facts k (thresholds_list p)) (sym m) (of_function (λ f. FactsFit f facts most (thresholds_list p)) (slice_get p.functions n) f e fit));
}

pub found_in : (p : Sealed) (n : ℕ) (f : Function) (facts : Facts) (most : ℕ) (limits : Limits) (t : Found) → slice_get p.program.functions n ≡ Some f → limits.size ≡ most → limits.ends ≡ thresholds_list p.program → AreFound p n f facts limits t →
    OfFunction p.program n (λ f. AreFound p n f facts (record { size = most; ends = thresholds_list p.program }) t)
found_in p n f facts most limits t e m ts h =
    let same : limits ≡ record { size = most; ends = thresholds_list p.program } = λ i. record { size = m i; ends = ts i } in
    to_function (λ f. AreFound p n f facts (record { size = most; ends = thresholds_list p.program }) t) (slice_get p.program.functions n) f e (subst (λ l. AreFound p n f facts l t) same h)

pub were_found : (p : Sealed) (n : ℕ) (f : Function) (facts : Facts) (limits : Limits) (t : Found) → slice_get p.program.functions n ≡ Some f → IsGiven p.program f facts limits → AreFound p n f facts limits t → WereFound p n t
were_found p n f facts limits t e given h = record {
  function = f;
  own = e;
  facts = facts;
  fit = subst (λ (l : Limits). FactsFit f facts l.size l.ends) (sym h.made_with) given.fit;
  ends = ap (λ (l : Limits). l.ends) h.made_with ∙ given.ends;
  are = subst (λ (l : Limits). AreFound p n f facts l t) (sym h.made_with) h;
}
