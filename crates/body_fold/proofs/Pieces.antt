-- A program of which each function stands for one of another program, at each point at which that one is, runs as that program does.
use Rattle.std.proofs.Common.{◌≡◌, ℕ, suc, ◌+◌, ℤ, Bool, true, false, if◌then◌else◌, List, [], ◌∷◌, length, refl, sym, ◌∙◌, ap, subst, arith, Option, Some, None, Result, Ok, slice_get}
use Rattle.std.specs.List.{find}
use Rattle.std.specs.Str.{bytes_eq}
use Rattle.gimple_ir.specs.declared.block.Block.{Block}
use Rattle.gimple_ir.specs.declared.block.End.{End}
use Rattle.gimple_ir.specs.declared.statement.Stmt.{Stmt}
use Rattle.gimple_ir.specs.declared.statement.Signature.{Signature}
use Rattle.gimple_ir.specs.declared.program.Function.{Function}
use Rattle.gimple_ir.specs.declared.value.TrapKind.{TrapKind}
use Rattle.gimple_ir.specs.declared.value.Value.{Value}
use Rattle.gimple_ir.specs.declared.value.Value.TheVariants.{Int, Null, At, Code}
use Rattle.gimple_core.specs.Sealed.{Sealed, with_functions}
use Rattle.gimple_core.specs.State.{State, scope_of, setting_of, value_in}
use Rattle.gimple_core.specs.Run.{Callee, Named, Through, Calling, call_of, act, values_of, ToLabel, exit_of, function_named, has_signature, called_by_name, called_with, called_through, called_function, main_name, labelled, Run}
use Rattle.gimple_core.specs.Trace.{Event, main_entry}
use Rattle.gimple_claims.specs.Kept.{new_body}
use Rattle.gimple_claims.proofs.Specialised.{Instances, instance, AreMade, BeginAlike, CalleesAlike, StandsFor, MainsAlike, Specialises}
use Rattle.gimple_claims.specs.Runs.{Comes}
use Rattle.gimple_claims.proofs.Callees.{called_if}
use Rattle.gimple_claims.proofs.Instances.{instances_run}

-- ---- two lists whose items pass a test alike

abbrev Chosen : {X : Type 0} → (X → Bool) → List X → List X → Option X → Type 0
Chosen {X} test xs ys None = find test ys ≡ None
Chosen {X} test xs ys (Some x) = (j : ℕ) × (y : X) × (slice_get xs j ≡ Some x) × (slice_get ys j ≡ Some y) × (find test ys ≡ Some y)

abbrev PassAlike : {X : Type 0} → (X → Bool) → List X → List X → Type 0
PassAlike {X} test xs ys = (j : ℕ) (x y : X) → slice_get xs j ≡ Some x → slice_get ys j ≡ Some y → test y ≡ test x

find_alike : {X : Type 0} (test : X → Bool) (xs ys : List X) → length ys ≡ length xs → PassAlike test xs ys → (o : Option X) → find test xs ≡ o → Chosen test xs ys o
find_alike test [] [] n h None e = refl
find_alike test [] [] n h (Some x) e = cc
find_alike test [] (y ∷ ys) n h o e = absurd (omega (arith, n))
find_alike test (x ∷ xs) [] n h o e = absurd (omega (arith, n))
find_alike {X} test (x ∷ xs) (y ∷ ys) n h o e = by (test x) refl o e (find_alike test xs ys (omega (arith, n)) (λ j a b f g. h (suc j) a b f g))
  where
    by : (b : Bool) → test x ≡ b → (o : Option X) → (if b then Some x else find test xs) ≡ o → ((r : Option X) → find test xs ≡ r → Chosen test xs ys r) → Chosen test (x ∷ xs) (y ∷ ys) o
    by true t None f more = cc
    by true t (Some z) f more = (0, y, f, refl, rw (h 0 x y refl refl ∙ t) refl)
    by false t None f more = rw (h 0 x y refl refl ∙ t) (more None f)
    by false t (Some z) f more = let q = more (Some z) f in (suc q.0, q.1, q.2, q.3, rw (h 0 x y refl refl ∙ t) q.4)

-- ---- blocks made of others

-- what stands at each point of a block
pub record Made (put : ℕ → ℕ → Stmt → Stmt) (end : ℕ → End → End) (k : ℕ) (b c : Block) : Type 0 where
  pub body : c.body ≡ new_body put k 0 b.body
  pub ends : c.end ≡ end k b.end

-- the first blocks
abbrev pub FirstMade : (ℕ → ℕ → Stmt → Stmt) → (ℕ → End → End) → List Block → List Block → Type 0
FirstMade put end [] [] = Unit {0}
FirstMade put end [] (c ∷ cs) = ⊥
FirstMade put end (b ∷ bs) [] = ⊥
FirstMade put end (b ∷ bs) (c ∷ cs) = Made put end 0 b c

-- what a search for a label finds
abbrev pub LabelMade : (ℕ → ℕ → Stmt → Stmt) → (ℕ → End → End) → Option (ℕ × Block) → Option (ℕ × Block) → Type 0
LabelMade put end None None = Unit {0}
LabelMade put end None (Some c) = ⊥
LabelMade put end (Some b) None = ⊥
LabelMade put end (Some (k, b)) (Some (m, c)) = Made put end k b c

module _ (p : Sealed) (input : List ℤ) where
  -- the second function does what the first one does, at each point at which the first one is in the runs of the program on this input
  pub record Piece (f g : Function) : Type 0 where
    pub put : ℕ → ℕ → Stmt → Stmt
    pub end : ℕ → End → End
    pub is : g ≡ record f { blocks = g.blocks }
    pub begins : FirstMade put end f.blocks g.blocks
    pub acts : (past : List Event) (s : State) (x : Stmt) (rest : List Stmt) → Comes p input past s → s.top.function ≡ f → s.top.rest ≡ x ∷ rest → call_of x ≡ None →
        (call_of (put s.top.block s.top.index x) ≡ None) × (act (setting_of p) (scope_of s.top) (put s.top.block s.top.index x) s.world ≡ act (setting_of p) (scope_of s.top) x s.world)
    pub calls : (past : List Event) (s : State) (x : Stmt) (rest : List Stmt) (c : Calling) → Comes p input past s → s.top.function ≡ f → s.top.rest ≡ x ∷ rest → call_of x ≡ Some c →
        (d : Calling) × (call_of (put s.top.block s.top.index x) ≡ Some d) × (d.to ≡ c.to)
        × (values_of p.program.globals (scope_of s.top) s.world.registers d.arguments ≡ values_of p.program.globals (scope_of s.top) s.world.registers c.arguments) × (d.callee ≡ c.callee)
    pub ends : (past : List Event) (s : State) → Comes p input past s → s.top.function ≡ f → s.top.rest ≡ [] → exit_of p.program.globals (end s.top.block s.top.end) s ≡ exit_of p.program.globals s.top.end s
    pub jumps : (past : List Event) (s : State) (label : ℕ) → Comes p input past s → s.top.function ≡ f → s.top.rest ≡ [] → exit_of p.program.globals s.top.end s ≡ ToLabel label → LabelMade put end (labelled label f.blocks) (labelled label g.blocks)

  -- ---- each function does what it does itself

  abbrev same_put : ℕ → ℕ → Stmt → Stmt
  same_put k i x = x

  abbrev same_end : ℕ → End → End
  same_end k e = e

  same_body : (k i : ℕ) (xs : List Stmt) → xs ≡ new_body same_put k i xs
  same_body k i [] = refl
  same_body k i (x ∷ xs) = ap (λ ys. x ∷ ys) (same_body k (i + 1) xs)

  same_block : (k : ℕ) (b : Block) → Made same_put same_end k b b
  same_block k b = record { body = same_body k 0 b.body; ends = refl }

  same_first : (bs : List Block) → FirstMade same_put same_end bs bs
  same_first [] = tt
  same_first (b ∷ bs) = same_block 0 b

  same_label : (o : Option (ℕ × Block)) → LabelMade same_put same_end o o
  same_label None = tt
  same_label (Some (k, b)) = same_block k b

  pub stays : (f : Function) → Piece f f
  stays f = record {
    put = same_put;
    end = same_end;
    is = refl;
    begins = same_first f.blocks;
    acts = λ past s x rest c same e u. (u, refl);
    calls = λ past s x rest d c same e u. (d, u, refl, refl, refl);
    ends = λ past s c same e. refl;
    jumps = λ past s label c same e x. same_label (labelled label f.blocks);
  }

  module _ (gs : List Function) (count : length gs ≡ length p.program.functions) (each : (n : ℕ) (f g : Function) → slice_get p.program.functions n ≡ Some f → slice_get gs n ≡ Some g → Piece f g) where
    record Pair : Type 0 where
      source : Function
      made : Function
      piece : Piece source made

    -- for numbers of no function
    abbrev nobody : Function
    nobody = record { name = []; params = []; result = None; locals = []; registers = []; blocks = [] }

    pair_by : (n : ℕ) (o : Option Function) → slice_get p.program.functions n ≡ o → (r : Option Function) → slice_get gs n ≡ r → Pair
    pair_by n None e r t = record { source = nobody; made = nobody; piece = stays nobody }
    pair_by n (Some f) e None t = record { source = nobody; made = nobody; piece = stays nobody }
    pair_by n (Some f) e (Some g) t = record { source = f; made = g; piece = each n f g e t }

    pair : ℕ → Pair
    pair n = pair_by n (slice_get p.program.functions n) refl (slice_get gs n) refl

    pair_is : (n : ℕ) (o : Option Function) (e : slice_get p.program.functions n ≡ o) (r : Option Function) (t : slice_get gs n ≡ r) (f g : Function) → o ≡ Some f → r ≡ Some g → ((pair_by n o e r t).source ≡ f) × ((pair_by n o e r t).made ≡ g)
    unfolding pair_by
    pair_is n None e r t f g a b = cc
    pair_is n (Some x) e None t f g a b = cc
    pair_is n (Some x) e (Some y) t f g a b = let same : x ≡ f = cc in let made : y ≡ g = cc in (same, made)

    abbrev I : Instances
    I = record {
      source = λ j. (pair j).source;
      put = λ j. (pair j).piece.put;
      end = λ j. (pair j).piece.end;
      name = λ j. (pair j).source.name;
      blocks = λ j. (pair j).made.blocks;
    }

    abbrev Fits : List Event → ℕ → ℕ → Type 0
    Fits past serial j = Unit {0}

    -- ---- what a name means

    abbrev Instanced : List ℕ → Option Function → Type 0
    Instanced name None = function_named name gs ≡ None
    Instanced name (Some h) = (j : ℕ) × (I.source j ≡ h) × (function_named name gs ≡ Some (instance I j))

    instanced_by : (name : List ℕ) (o : Option Function) → Chosen (λ (h : Function). bytes_eq h.name name) p.program.functions gs o → Instanced name o
    unfolding function_named pair
    instanced_by name None c = c
    instanced_by name (Some h) c =
        let is = pair_is c.0 (slice_get p.program.functions c.0) refl (slice_get gs c.0) refl h c.1 c.2 c.3 in
        (c.0, is.0, c.4 ∙ ap Some (sym is.1 ∙ (pair c.0).piece.is))

    instanced : (name : List ℕ) (o : Option Function) → function_named name p.program.functions ≡ o → Instanced name o
    unfolding function_named
    instanced name o e =
        instanced_by name o (find_alike (λ (h : Function). bytes_eq h.name name) p.program.functions gs count (λ j x y f g. ap (λ (h : Function). bytes_eq h.name name) (each j x y f g).is) o e)

    -- ---- blocks

    begin_made : (j : ℕ) (bs cs : List Block) → FirstMade (I.put j) (I.end j) bs cs → BeginAlike I j bs cs
    begin_made j [] [] h = tt
    begin_made j [] (c ∷ cs) h = absurd h
    begin_made j (b ∷ bs) [] h = absurd h
    begin_made j (b ∷ bs) (c ∷ cs) h = record { body = h.body; end = h.ends }

    label_made : (j : ℕ) (o r : Option (ℕ × Block)) → LabelMade (I.put j) (I.end j) o r → AreMade I j o r
    label_made j None None h = tt
    label_made j None (Some c) h = absurd h
    label_made j (Some b) None h = absurd h
    label_made j (Some (k, b)) (Some (m, c)) h = record { body = h.body; end = h.ends }

    -- ---- calls

    abbrev Enters : List Event → State → Result Function TrapKind → Result Function TrapKind → Type 0
    Enters past s o r = CalleesAlike I Fits p past s o r

    enters_instance : (past : List Event) (s : State) (h : Function) (j : ℕ) → I.source j ≡ h → (r : Result Function TrapKind) → r ≡ Ok (instance I j) → Enters past s (Ok h) r
    enters_instance past s h j same r e = record { number = j; source = same; callee = e; fits = λ t x. tt }

    -- a call by name
    by_name : (past : List Event) (s : State) (name : List ℕ) (o : Option Function) → Instanced name o → Enters past s (called_by_name o) (called_by_name (function_named name gs))
    by_name past s name None e = ap called_by_name e
    by_name past s name (Some h) q = enters_instance past s h q.0 q.1 _ (ap called_by_name q.2)

    -- a call through a register: what stands for a function has its signature
    fits_too : (signature : Signature) (h : Function) (j : ℕ) → I.source j ≡ h → has_signature signature (instance I j) ≡ has_signature signature h
    fits_too signature h j same = ap (has_signature signature) same

    if_entered : (past : List Event) (s : State) (h : Function) (j : ℕ) → I.source j ≡ h → (b : Bool) → Enters past s (called_if b h) (called_if b (instance I j))
    if_entered past s h j same true = enters_instance past s h j same _ refl
    if_entered past s h j same false = refl

    with_signature : (past : List Event) (s : State) (signature : Signature) (name : List ℕ) (o : Option Function) → Instanced name o → Enters past s (called_with signature o) (called_with signature (function_named name gs))
    with_signature past s signature name None e = ap (called_with signature) e
    with_signature past s signature name (Some h) q =
        subst (Enters past s (called_with signature (Some h))) (sym (ap (called_with signature) q.2))
        (subst (λ b. Enters past s (called_with signature (Some h)) (called_if b (instance I q.0))) (sym (fits_too signature h q.0 q.1)) (if_entered past s h q.0 q.1 (has_signature signature h)))

    by_value : (past : List Event) (s : State) (signature : Signature) (v : Value) → Enters past s (called_through p.program.functions signature v) (called_through gs signature v)
    by_value past s signature (Int z) = refl
    by_value past s signature Null = refl
    by_value past s signature (At object offset) = refl
    by_value past s signature (Code name) = with_signature past s signature name (function_named name p.program.functions) (instanced name (function_named name p.program.functions) refl)

    callees : (past : List Event) (s : State) (c : Callee) → Enters past s (called_function p.program.functions (scope_of s.top) s.world.registers c) (called_function gs (scope_of s.top) s.world.registers c)
    callees past s (Named name) = by_name past s name (function_named name p.program.functions) (instanced name (function_named name p.program.functions) refl)
    callees past s (Through name signature) = by_value past s signature (value_in (scope_of s.top) s.world.registers name)

    -- ---- the run

    stmt_of : (past : List Event) (s : State) (x : Stmt) (rest : List Stmt) (j : ℕ) → Comes p input past s → I.source j ≡ s.top.function → s.top.rest ≡ x ∷ rest → StandsFor I Fits p gs past s x (I.put j s.top.block s.top.index x)
    stmt_of past s x rest j comes same e = record {
      act = λ u. (pair j).piece.acts past s x rest comes (sym same) e u;
      call = λ c u.
          let a = (pair j).piece.calls past s x rest c comes (sym same) e u in
          (a.0, a.1, a.2, a.3, subst (λ z. Enters past s (called_function p.program.functions (scope_of s.top) s.world.registers c.callee) (called_function gs (scope_of s.top) s.world.registers z)) (sym a.4) (callees past s c.callee));
    }

    jump_of : (past : List Event) (s : State) (label j : ℕ) → Comes p input past s → I.source j ≡ s.top.function → s.top.rest ≡ [] → exit_of p.program.globals s.top.end s ≡ ToLabel label → AreMade I j (labelled label s.top.function.blocks) (labelled label (I.blocks j))
    jump_of past s label j comes same e x =
        subst (λ (h : Function). AreMade I j (labelled label h.blocks) (labelled label (I.blocks j))) same
        (label_made j (labelled label (I.source j).blocks) (labelled label (I.blocks j)) ((pair j).piece.jumps past s label comes (sym same) e x))

    mains_of : (o : Option Function) → function_named main_name p.program.functions ≡ o → MainsAlike I Fits (λ s. main_entry p s ∷ []) o (function_named main_name gs)
    mains_of None e = subst (MainsAlike I Fits (λ s. main_entry p s ∷ []) None) (sym (instanced main_name None e)) tt
    mains_of (Some h) e =
        let q = instanced main_name (Some h) e in
        subst (MainsAlike I Fits (λ s. main_entry p s ∷ []) (Some h)) (sym q.2) (q.0, q.1, refl, λ s. tt)

    specialises : Specialises I Fits p gs input
    specialises = record {
      begin = λ j e. begin_made j (I.source j).blocks (I.blocks j) (pair j).piece.begins;
      mains = mains_of (function_named main_name p.program.functions) refl;
      keeps = λ past s serial j comes l h. tt;
      stmt = λ past s x rest j comes same h e. stmt_of past s x rest j comes same e;
      end = λ past s j comes same h e. (pair j).piece.ends past s comes (sym same) e;
      jump = λ past s label j comes same h e x. jump_of past s label j comes same e x;
    }

    pub pieces_run : (turns : ℕ) → Run p input turns ≡ Run (with_functions p gs) input turns
    pieces_run turns = instances_run I Fits p gs input specialises turns
