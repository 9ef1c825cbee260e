-- Each solution of the equations holds at each point of each activation in every run.
use Rattle.std.proofs.Common.{◌≡◌, ℕ, ◌+◌, ◌<◌, ℤ, Bool, true, List, [], ◌∷◌, ◌++◌, length, length-append, take, refl, sym, ◌∙◌, ap, subst, append-nil, append_assoc, arith, Option, Some, None, slice_get}
use Rattle.std.specs.List.{list_all}
use Rattle.std.proofs.Math.Seq.{take-append_seam}
use Rattle.std.proofs.lemmas.Option.{slice_get_within}
use Rattle.gimple_ir.specs.declared.scalar.Scalar.TheVariants.{I64}
use Rattle.gimple_ir.specs.declared.value.Value.{Value}
use Rattle.gimple_ir.specs.declared.statement.Stmt.{Stmt}
use Rattle.gimple_ir.specs.declared.block.Block.{Block}
use Rattle.gimple_ir.specs.declared.block.End.{End}
use Rattle.gimple_ir.specs.declared.program.Function.{Function}
use Rattle.gimple_core.specs.Sealed.{Sealed}
use Rattle.gimple_core.specs.Operators.{in_scalar}
use Rattle.gimple_core.specs.Accepted.{first_fault}
use Rattle.gimple_core.specs.Memory.{Memory}
use Rattle.gimple_core.specs.State.{Control, World, State}
use Rattle.gimple_core.specs.Run.{Did, Goes, Reaches, Moves, Stops, Traps, step, resumed, labelled, registers_made, control_made, with_locals, function_named}
use Rattle.gimple_core.specs.Trace.{Event, Entry, At, Load, Store, Leave, told, after, InEachRun}
use Rattle.gimple_claims.specs.Typed.{frame_typed}
use Rattle.gimple_claims.proofs.Comes.{Comes, InDid}
use Rattle.gimple_claims.proofs.Blocks.{label_at}
use Rattle.gimple_claims.proofs.Points.{IsQuiet, points_each}
use Rattle.gimple_claims.proofs.OneRun.{in_run}
use Rattle.gimple_claims.proofs.Typed.{values_are_typed}
use Rattle.gimple_claims.proofs.Activation.{Activation, here}
use Rattle.fix_engine.specs.declared.lifted.Lifted.{Lifted}
use Rattle.fix_engine.specs.declared.lifted.Lifted.TheVariants.{NotReached, Reached}
use Rattle.fix_engine.specs.Lifted.{FitsLifted, lifted_below}
use Rattle.block_flow.specs.Branches.{place_or, block_place, labels_of}
use Rattle.block_flow.specs.Steps.{BodySteps, StepsLaws, where_reached, after_statements}
use Rattle.block_flow.specs.System.{Solves, value_or, body_at, point_value}
use Rattle.block_flow.specs.Runs.{ReachedWith, Assertion, IsSound, PointClaim}
use Rattle.block_flow.proofs.BranchCounts.{label_place}
use Rattle.block_flow.proofs.Solved.{value_fits, first_above, next_above}

-- ---- where a control is

-- it is in a block of the function, behind these statements of it, and this is so of the value there
pub record Stands {A : Type 0} (f : Function) (T : BodySteps A) (xs : List (Lifted A)) (c : Control) (P : Lifted A → Type 0) : Type 0 where
  pub block : Block
  pub done : List Stmt
  pub found : slice_get f.blocks c.block ≡ Some block
  pub body : block.body ≡ done ++ c.rest
  pub index : length done ≡ c.index
  pub end : c.end ≡ block.end
  pub says : P (after_statements T.statement c.block 0 done (value_or (slice_get xs c.block)))

statements_more : {A : Type 0} (T : BodySteps A) (k i j : ℕ) (ss : List Stmt) (x : Stmt) (y : Lifted A) → i + length ss ≡ j → after_statements T.statement k i (ss ++ x ∷ []) y ≡ where_reached (after_statements T.statement k i ss y) (T.statement k j x)
statements_more T k i j [] x y e = let same : i ≡ j = omega (arith, e) in ap (λ n. where_reached y (T.statement k n x)) same
statements_more T k i j (s ∷ ss) x y e = statements_more T k (i + 1) j ss x (where_reached y (T.statement k i s)) (omega (arith, e))

-- the value at its point
stands_value : {A : Type 0} (f : Function) (T : BodySteps A) (xs : List (Lifted A)) (c : Control) (P : Lifted A → Type 0) (h : Stands f T xs c P) → point_value T f.blocks xs c.block c.index ≡ after_statements T.statement c.block 0 h.done (value_or (slice_get xs c.block))
unfolding point_value
stands_value f T xs c P h =
    ap (λ o. after_statements T.statement c.block 0 (take c.index (body_at o)) (value_or (slice_get xs c.block))) h.found
    ∙ (ap (λ ys. after_statements T.statement c.block 0 (take c.index ys) (value_or (slice_get xs c.block))) h.body
    ∙ (ap (λ n. after_statements T.statement c.block 0 (take n (h.done ++ c.rest)) (value_or (slice_get xs c.block))) (sym h.index)
    ∙ ap (λ ys. after_statements T.statement c.block 0 ys (value_or (slice_get xs c.block))) (take-append_seam h.done c.rest)))

-- a statement on
stands_next : {A : Type 0} (f : Function) (T : BodySteps A) (xs : List (Lifted A)) (s : State) (x : Stmt) (rest : List Stmt) (P Q : Lifted A → Type 0) → s.top.rest ≡ x ∷ rest →
    ((done : List Stmt) → P (after_statements T.statement s.top.block 0 done (value_or (slice_get xs s.top.block))) → Q (where_reached (after_statements T.statement s.top.block 0 done (value_or (slice_get xs s.top.block))) (T.statement s.top.block s.top.index x))) → Stands f T xs s.top P → Stands f T xs (resumed s rest).top Q
stands_next f T xs s x rest P Q e go h =
    let n : length h.done ≡ s.top.index = h.index in
    record {
      block = h.block;
      done = h.done ++ x ∷ [];
      found = h.found;
      body = h.body ∙ (ap (λ ys. h.done ++ ys) e ∙ sym (append_assoc h.done (x ∷ []) rest));
      index = length-append h.done (x ∷ []) ∙ omega (arith, n);
      end = h.end;
      says = subst Q (sym (statements_more T s.top.block 0 s.top.index h.done x (value_or (slice_get xs s.top.block)) (omega (arith, n)))) (go h.done h.says);
    }

-- the same place, and another fact of the value
stands_as : {A : Type 0} (f : Function) (T : BodySteps A) (xs : List (Lifted A)) (c : Control) (P Q : Lifted A → Type 0) → ((y : Lifted A) → P y → Q y) → Stands f T xs c P → Stands f T xs c Q
stands_as f T xs c P Q go h = record { block = h.block; done = h.done; found = h.found; body = h.body; index = h.index; end = h.end; says = go _ h.says }

-- ---- what a step may ask first

given_did : (G : Type 0) (P : State → Type 0) (d : Did) → (G → InDid P d) → InDid (λ t. G → P t) d
given_did G P (Goes t) h = h
given_did G P (Reaches (Moves k t)) h = h
given_did G P (Reaches (Stops o z)) h = tt
given_did G P (Reaches (Traps o k)) h = tt

stands_did : {A : Type 0} (f : Function) (T : BodySteps A) (xs : List (Lifted A)) (c : Control) (P : Lifted A → Type 0) (Q : State → Lifted A → Type 0) (d : Did) → ((y : Lifted A) → P y → InDid (λ t. Q t y) d) → Stands f T xs c P → InDid (λ t. Stands f T xs c (Q t)) d
stands_did f T xs c P Q (Goes t) go h = stands_as f T xs c P (Q t) go h
stands_did f T xs c P Q (Reaches (Moves k t)) go h = stands_as f T xs c P (Q t) go h
stands_did f T xs c P Q (Reaches (Stops o z)) go h = tt
stands_did f T xs c P Q (Reaches (Traps o k)) go h = tt

-- ---- the fits of the values

module _ {A : Type 0} (fits : List ℕ → A → Type 0) (below : A → A → Bool) (kind : List ℕ) (T : BodySteps A) (laws : StepsLaws fits below kind T) where
  where_fits : (g : A → Lifted A) → ((a : A) → fits kind a → FitsLifted fits kind (g a)) → (y : Lifted A) → FitsLifted fits kind y → FitsLifted fits kind (where_reached y g)
  where_fits g fit NotReached h = tt
  where_fits g fit (Reached a) h = fit a h

  pub statements_fit : (k i : ℕ) (ss : List Stmt) (y : Lifted A) → FitsLifted fits kind y → FitsLifted fits kind (after_statements T.statement k i ss y)
  statements_fit k i [] y h = h
  statements_fit k i (s ∷ ss) y h = statements_fit k (i + 1) ss _ (where_fits (T.statement k i s) (λ a g. laws.statement_fits k i s a g) y h)

  branch_fit : (k slot : ℕ) (e : End) (y : Lifted A) → FitsLifted fits kind y → FitsLifted fits kind (where_reached y (T.branch k e slot))
  branch_fit k slot e y h = where_fits (T.branch k e slot) (λ a g. laws.branch_fits k e slot a g) y h

-- ---- the theorem

module _ (p : Sealed) (input : List ℤ) (f : Function) {A : Type 0} (fits : List ℕ → A → Type 0) (below : A → A → Bool) (kind : List ℕ) (T : BodySteps A) (laws : StepsLaws fits below kind T) (S : Assertion A)
    (xs : List (Lifted A)) (solves : Solves fits below kind T f.blocks xs) (accepted : first_fault p.program ≡ None) (numbers : list_all (in_scalar I64) input ≡ true) (sound : IsSound p input f (fits kind) below T S) where
  abbrev At_ : List Event → Control → World → Lifted A → Type 0
  At_ past c w y = ReachedWith (λ a. S.Says a past c w) y

  abbrev Here : List Event → Control → World → Type 0
  Here past c w = S.Given c.serial past → frame_typed c w.registers ≡ true → Stands f T xs c (At_ past c w)

  abbrev Waits : List Event → Control → List Value → Option ℕ → Memory → Type 0
  Waits past c values takes m = S.Given c.serial past → Stands f T xs c (λ y. S.Waits y past c values takes m)

  typed : (past : List Event) (s : State) → Comes p input past s → frame_typed s.top s.world.registers ≡ true
  typed past s c = (values_are_typed p accepted input numbers past s c).top

  above : (x y : Lifted A) (past : List Event) (c : Control) (w : World) → FitsLifted fits kind x → FitsLifted fits kind y → lifted_below below x y ≡ true → At_ past c w x → At_ past c w y
  above NotReached y past c w f g e h = absurd h
  above (Reached a) NotReached past c w f g e h = cc
  above (Reached a) (Reached b) past c w f g e h = sound.rises a b past c w f g e h

  -- a value within a block fits
  done_fits : (k : ℕ) (b : Block) (done : List Stmt) → slice_get f.blocks k ≡ Some b → FitsLifted fits kind (after_statements T.statement k 0 done (value_or (slice_get xs k)))
  done_fits k b done e = statements_fit fits below kind T laws k 0 done _ (value_fits fits below kind T f.blocks xs solves k (slice_get_within f.blocks k b e))

  some_blocks : (b : Block) (bs : List Block) → f.blocks ≡ b ∷ bs → 0 < length f.blocks
  some_blocks b bs e = let l : length f.blocks ≡ length (b ∷ bs) = ap length e in omega (arith, l)

  begins : (past : List Event) (serial : ℕ) (arguments : List Value) (m : Memory) (caller : Option Control) (takes : Option ℕ) (b : Block) (bs : List Block) (w : World) → function_named f.name p.program.functions ≡ Some f → f.blocks ≡ b ∷ bs →
      w.registers ≡ registers_made f arguments → w.memory ≡ with_locals p.program.structs serial 0 f.locals m → Here (Entry serial f arguments m caller ∷ past) (control_made f b serial takes) w
  begins past serial arguments m caller takes b bs w own be made memory given kindly =
      let some : 0 < length f.blocks = some_blocks b bs be in
      record {
        block = b;
        done = [];
        found = ap (λ ys. slice_get ys 0) be;
        body = refl;
        index = refl;
        end = refl;
        says = above T.begin (value_or (slice_get xs 0)) _ _ w laws.begin_fits (value_fits fits below kind T f.blocks xs solves 0 some) (first_above fits below kind T f.blocks xs solves some)
            (sound.enters past serial arguments m caller takes b bs w own be made memory given kindly);
      }

  statement_on : (past : List Event) (s : State) (x : Stmt) (rest : List Stmt) (Q : Lifted A → Type 0) → s.top.rest ≡ x ∷ rest → ((a : A) → fits kind a → S.Says a past s.top s.world → Q (T.statement s.top.block s.top.index x a)) → Stands f T xs s.top (At_ past s.top s.world) → Stands f T xs (resumed s rest).top Q
  statement_on past s x rest Q e go at = stands_next f T xs s x rest (At_ past s.top s.world) Q e (λ done h. by _ (done_fits s.top.block at.block done at.found) h) at
    where
      by : (y : Lifted A) → FitsLifted fits kind y → At_ past s.top s.world y → Q (where_reached y (T.statement s.top.block s.top.index x))
      by NotReached g h = absurd h
      by (Reached a) g h = go a g h

  jump_to : (past : List Event) (s : State) (label k : ℕ) (b : Block) (Q : Lifted A → Type 0) → s.top.rest ≡ [] → labelled label f.blocks ≡ Some (k, b) → (at : Stands f T xs s.top (At_ past s.top s.world)) →
      ((x y : Lifted A) → FitsLifted fits kind x → FitsLifted fits kind y → lifted_below below x y ≡ true → Q x → Q y) →
      ((a : A) → fits kind a → S.Says a past s.top s.world → (slot : ℕ) × (slice_get (labels_of s.top.end) slot ≡ Some label) × Q (T.branch s.top.block s.top.end slot a)) → Q (value_or (slice_get xs k))
  jump_to past s label k b Q e to at up go =
      let whole : at.block.body ≡ at.done = at.body ∙ (ap (λ ys. at.done ++ ys) e ∙ append-nil at.done) in
      by (after_statements T.statement s.top.block 0 at.done (value_or (slice_get xs s.top.block))) (ap (λ ys. after_statements T.statement s.top.block 0 ys (value_or (slice_get xs s.top.block))) whole) (done_fits s.top.block at.block at.done at.found) at.says
    where
      within : k < length f.blocks
      within = slice_get_within f.blocks k b (label_at label k f.blocks b to)

      lands : (a : A) → after_statements T.statement s.top.block 0 at.block.body (value_or (slice_get xs s.top.block)) ≡ Reached a → fits kind a → (slot : ℕ) → slice_get (labels_of s.top.end) slot ≡ Some label → Q (T.branch s.top.block s.top.end slot a) → Q (value_or (slice_get xs k))
      lands a is g slot named held =
          let mine : slice_get (labels_of at.block.end) slot ≡ Some label = subst (λ z. slice_get (labels_of z) slot ≡ Some label) at.end named in
          let over = next_above fits below kind T f.blocks xs solves s.top.block slot label at.block at.found mine in
          let one : lifted_below below (T.branch s.top.block at.block.end slot a) (value_or (slice_get xs (place_or (block_place label f.blocks)))) ≡ true =
          subst (λ z. lifted_below below (where_reached z (T.branch s.top.block at.block.end slot)) (value_or (slice_get xs (place_or (block_place label f.blocks)))) ≡ true) is over in
          let two : lifted_below below (T.branch s.top.block s.top.end slot a) (value_or (slice_get xs k)) ≡ true =
          subst (λ z. lifted_below below (T.branch s.top.block z slot a) (value_or (slice_get xs k)) ≡ true) (sym at.end)
          (subst (λ n. lifted_below below (T.branch s.top.block at.block.end slot a) (value_or (slice_get xs n)) ≡ true) (label_place label k f.blocks b to) one) in
          up _ _ (laws.branch_fits s.top.block s.top.end slot a g) (value_fits fits below kind T f.blocks xs solves k within) two held

      by : (y : Lifted A) → after_statements T.statement s.top.block 0 at.block.body (value_or (slice_get xs s.top.block)) ≡ y → FitsLifted fits kind y → At_ past s.top s.world y → Q (value_or (slice_get xs k))
      by NotReached is g h = absurd h
      by (Reached a) is g h = let r = go a g h in lands a is g r.0 r.1 r.2

  pub keeps : Activation p input f Here Waits
  keeps = record {
    enters = λ past g serial arguments m caller takes b bs w same own be made memory.
        subst (λ (z : Function). function_named z.name p.program.functions ≡ Some z → z.blocks ≡ b ∷ bs → w.registers ≡ registers_made z arguments → w.memory ≡ with_locals p.program.structs serial 0 z.locals m → Here (Entry serial z arguments m caller ∷ past) (control_made z b serial takes) w) (sym same)
        (λ own be made memory. begins past serial arguments m caller takes b bs w own be made memory) own be made memory;
    stmt = λ past s x rest w comes same there e uncalled did given kindly.
        statement_on past s x rest _ e (λ a g h. sound.statement past s x rest w a comes same e uncalled did given kindly g h) (there (sound.earlier s.top.serial past (told p s) given) (typed past s comes));
    calls = λ past s x rest k t comes same there e is did given.
        statement_on past s x rest _ e (λ a g h. sound.calls past s x rest k t a comes same e is did given g h) (there (sound.earlier s.top.serial past (told p s) given) (typed past s comes));
    jumps = λ past s label k b comes same there e t be given kindly.
        let found : labelled label f.blocks ≡ Some (k, b) = subst (λ (z : Function). labelled label z.blocks ≡ Some (k, b)) same be in
        let at : Stands f T xs s.top (At_ past s.top s.world) = there (sound.earlier s.top.serial past (told p s) given) (typed past s comes) in
        record {
          block = b;
          done = [];
          found = label_at label k f.blocks b found;
          body = refl;
          index = refl;
          end = refl;
          says = jump_to past s label k b (At_ (after past (told p s)) (record s.top { block = k; index = 0; rest = b.body; end = b.end }) s.world) e found at (λ x y g h r i. above x y _ _ _ g h r i)
              (λ a g h. sound.jumps past s label k b a comes same e t found given g h);
        };
    others = λ past s c values takes comes there.
        given_did _ _ (step p s) (λ given. stands_did f T xs c (λ y. S.Waits y past c values takes s.world.memory) (λ t y. S.Waits y (after past (told p s)) c values takes t.world.memory) (step p s)
        (λ y h. sound.others past s c values takes y comes given h) (there (sound.earlier c.serial past (told p s) given)));
    back = λ past s c values v comes same there e x given kindly.
        stands_as f T xs c _ _ (λ y h. sound.back past s c values v y comes same e x given kindly h) (there (sound.earlier c.serial past (told p s) given));
  }

  -- where the running activation is: behind these statements of a block of the function, whose point has a value that holds
  pub record IsThere (past : List Event) (s : State) : Type 0 where
    pub value : A
    pub reached : point_value T f.blocks xs s.top.block s.top.index ≡ Reached value
    pub fit : fits kind value
    pub says : S.Says value past s.top s.world
    pub block : Block
    pub done : List Stmt
    pub found : slice_get f.blocks s.top.block ≡ Some block
    pub body : block.body ≡ done ++ s.top.rest
    pub index : length done ≡ s.top.index
    pub end : s.top.end ≡ block.end

  there_by : (past : List Event) (s : State) (at : Stands f T xs s.top (At_ past s.top s.world)) (y : Lifted A) → after_statements T.statement s.top.block 0 at.done (value_or (slice_get xs s.top.block)) ≡ y → FitsLifted fits kind y → At_ past s.top s.world y → IsThere past s
  there_by past s at NotReached e g h = absurd h
  there_by past s at (Reached a) e g h = record {
    value = a;
    reached = stands_value f T xs s.top (At_ past s.top s.world) at ∙ e;
    fit = g;
    says = h;
    block = at.block;
    done = at.done;
    found = at.found;
    body = at.body;
    index = at.index;
    end = at.end;
  }

  -- in each state of the run
  pub is_there : (past : List Event) (s : State) → Comes p input past s → s.top.function ≡ f → S.Given s.top.serial past → IsThere past s
  is_there past s c same given =
      let at : Stands f T xs s.top (At_ past s.top s.world) = here p input f Here Waits keeps past s c same given (typed past s c) in
      there_by past s at _ refl (done_fits s.top.block at.block at.done at.found) at.says

  -- so its value there holds
  pub holds_at : (past : List Event) (s : State) → Comes p input past s → s.top.function ≡ f → S.Given s.top.serial past → ReachedWith (λ a. S.Says a past s.top s.world) (point_value T f.blocks xs s.top.block s.top.index)
  holds_at past s c same given = let at = is_there past s c same given in subst (At_ past s.top s.world) (sym at.reached) at.says

quiet : {A : Type 0} (f : Function) (T : BodySteps A) (S : Assertion A) (xs : List (Lifted A)) → IsQuiet (PointClaim f T S xs)
quiet f T S xs past (Entry s g arguments m caller) q = tt
quiet f T S xs past (At c w) q = absurd q
quiet f T S xs past (Load c scalar object offset v) q = tt
quiet f T S xs past (Store c scalar object offset v) q = tt
quiet f T S xs past (Leave s) q = tt

-- In a program without a type fault, where an analysis is sound in each run on numbers of i64, each solution of its equations holds at each point.
pub solutions_hold : (p : Sealed) (f : Function) {A : Type 0} (fits : List ℕ → A → Type 0) (below : A → A → Bool) (kind : List ℕ) (T : BodySteps A) (laws : StepsLaws fits below kind T) (S : Assertion A) (xs : List (Lifted A)) → Solves fits below kind T f.blocks xs → first_fault p.program ≡ None →
    ((input : List ℤ) → list_all (in_scalar I64) input ≡ true → IsSound p input f (fits kind) below T S) → InEachRun p (PointClaim f T S xs)
solutions_hold p f fits below kind T laws S xs solves accepted sound input numbers turns =
    in_run p (PointClaim f T S xs) input (λ s e. tt)
    (points_each p (PointClaim f T S xs) input (quiet f T S xs)
    (λ past s c same given. holds_at p input f fits below kind T laws S xs solves accepted numbers (sound input numbers) past s c same given)) turns
