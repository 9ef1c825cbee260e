-- Each entry of the made program is of an instance whose facts are met.
use Rattle.std.proofs.Common.{◌+◌, ◌≡◌, ℕ, ℤ, true, List, [], ◌∷◌, refl, sym, ◌∙◌, ap, subst, arith, Some}
use Rattle.gimple_ir.specs.declared.value.Value.{Value}
use Rattle.gimple_ir.specs.declared.program.Function.{Function}
use Rattle.gimple_ir.specs.declared.block.Block.{Block}
use Rattle.gimple_core.specs.Sealed.{Sealed, with_functions}
use Rattle.gimple_ir.specs.declared.statement.Stmt.{Stmt}
use Rattle.gimple_core.specs.Memory.{Memory}
use Rattle.gimple_core.specs.State.{World, State, scope_of}
use Rattle.gimple_core.specs.Run.{step, stepped, Did, Reaches, Moves, CallEntry, Calling, call_of, values_of}
use Rattle.gimple_core.specs.Trace.{Event, Entry, At, told, told_by, after}
use Rattle.gimple_claims.specs.Runs.{Comes}
use Rattle.gimple_claims.specs.Kept.{new_body}
use Rattle.gimple_claims.proofs.Specialised.{Instances, instance, Specialises}
use Rattle.gimple_core.proofs.Simulation.{Does}
use Rattle.gimple_claims.proofs.Activation.{told_call}
use Rattle.gimple_claims.proofs.Instances.{scope_same, Alike, alike, instance_beside}
use Rattle.gimple_claims.proofs.Steps.{Steps, called, acts, calls, jumps, leaves, stops, traps, step_is}

module _ (I : Instances) (Fits : List Event → ℕ → ℕ → Type 0) (p : Sealed) (gs : List Function) (input : List ℤ) (spec : Specialises I Fits p gs input) where
  abbrev q : Sealed
  q = with_functions p gs

  -- the entry of p's run that an entry of q's run stands beside, with this serial, memory and arguments in both runs
  pub record EntryBeside (serial : ℕ) (memory : Memory) (f : Function) (arguments : List Value) : Type 0 where
    pub past : List Event
    pub number : ℕ
    pub source : Function
    pub caller : State
    pub function : f ≡ instance I number
    pub source_is : I.source number ≡ source
    pub fits : Fits (Entry serial source arguments memory (Some caller.top) ∷ At caller.top caller.world ∷ past) serial number

  arguments_same : (past hist : List Event) (s t : State) (x : Stmt) (xs : List Stmt) (c : Calling) (y : Stmt) (ys : List Stmt) (d : Calling) → Comes p input past s → (k : Alike I Fits p gs input spec past hist s t) → s.top.rest ≡ x ∷ xs → call_of x ≡ Some c → t.top.rest ≡ y ∷ ys → call_of y ≡ Some d →
      values_of p.program.globals (scope_of s.top) s.world.registers c.arguments ≡ values_of p.program.globals (scope_of t.top) t.world.registers d.arguments
  arguments_same past hist s t x xs c y ys d comes k e n f m =
      let rests : y ∷ ys ≡ I.put k.top.number s.top.block s.top.index x ∷ new_body (I.put k.top.number) s.top.block (s.top.index + 1) xs = sym f ∙ (k.top.rest ∙ ap (new_body (I.put k.top.number) s.top.block s.top.index) e) in
      let same : y ≡ I.put k.top.number s.top.block s.top.index x = cc in
      let stands = spec.stmt past s x xs k.top.number comes k.top.source k.top.fits e in
      let g = stands.call c n in
      let found : Some g.0 ≡ Some d = sym g.1 ∙ (ap call_of (sym same) ∙ m) in
      let calling : g.0 ≡ d = cc in
      sym g.3 ∙ (ap (λ (z : Calling). values_of p.program.globals (scope_of s.top) s.world.registers z.arguments) calling ∙
      (λ i. values_of p.program.globals (sym (scope_same I Fits p gs input spec past s.next s.top t.top k.top) i) (sym k.world i).registers d.arguments))

  entry_of : (past hist now later : List Event) (s t : State) (y : Stmt) (ys : List Stmt) (d : Calling) (g : Function) (b : Block) → Comes p input past s → Alike I Fits p gs input spec past hist s t → now ≡ after past (told p s) → t.top.rest ≡ y ∷ ys → call_of y ≡ Some d →
      (a : Did) → Steps p s a → step p s ≡ a → Does (Alike I Fits p gs input spec now later) a (Reaches (Moves CallEntry (called q t ys d g b))) → EntryBeside t.next t.world.memory g (values_of p.program.globals (scope_of t.top) t.world.registers d.arguments)
  entry_of past hist now later s t y ys d g b comes k w e m _ (acts x xs u f n r) st r' = absurd r'
  entry_of past hist now later s t y ys d g b comes k w e m _ (calls x xs c h z zs f n o bs) st r' =
      let tells : told p s ≡ At s.top s.world ∷ Entry s.next h (values_of p.program.globals (scope_of s.top) s.world.registers c.arguments) s.world.memory (Some s.top) ∷ [] =
      ap (λ ys. told_by p true ys s) f ∙ told_call p x xs s (called p s xs c h z) c n (ap (stepped p s) (sym f) ∙ st) in
      let vs = values_of p.program.globals (scope_of t.top) t.world.registers d.arguments in
      let same : values_of p.program.globals (scope_of s.top) s.world.registers c.arguments ≡ vs = arguments_same past hist s t x xs c y ys d comes k f n e m in
      record {
        past = past;
        number = r'.top.number;
        source = h;
        caller = s;
        function = r'.top.function;
        source_is = r'.top.source;
        fits = subst (λ n. Fits (Entry n h vs t.world.memory (Some s.top) ∷ At s.top s.world ∷ past) n r'.top.number) (sym k.next)
            (subst (λ (v : World). Fits (Entry s.next h vs v.memory (Some s.top) ∷ At s.top s.world ∷ past) s.next r'.top.number) (sym k.world)
            (subst (λ us. Fits (Entry s.next h us s.world.memory (Some s.top) ∷ At s.top s.world ∷ past) s.next r'.top.number) same
            (subst (λ es. Fits (after past es) s.next r'.top.number) tells (subst (λ es. Fits es s.next r'.top.number) w r'.top.fits))));
      }
  entry_of past hist now later s t y ys d g b comes k w e m _ (jumps label j z f x o) st r' =
      let next : t.next + 1 ≡ s.next = r'.next in let before : t.next ≡ s.next = k.next in absurd (omega (arith, next, before))
  entry_of past hist now later s t y ys d g b comes k w e m _ (leaves v z zs f x o) st r' =
      let next : t.next + 1 ≡ s.next = r'.next in let before : t.next ≡ s.next = k.next in absurd (omega (arith, next, before))
  entry_of past hist now later s t y ys d g b comes k w e m _ (stops o z) st r' = absurd r'
  entry_of past hist now later s t y ys d g b comes k w e m _ (traps o z) st r' = absurd r'

  pub entry_beside : (hist : List Event) (t : State) (y : Stmt) (ys : List Stmt) (d : Calling) (g : Function) (b : Block) → Comes q input hist t → t.top.rest ≡ y ∷ ys → call_of y ≡ Some d → step q t ≡ Reaches (Moves CallEntry (called q t ys d g b)) → EntryBeside t.next t.world.memory g (values_of p.program.globals (scope_of t.top) t.world.registers d.arguments)
  entry_beside hist t y ys d g b c e m st =
      let beside = instance_beside I Fits p gs input spec hist t c in
      entry_of beside.past hist (after beside.past (told p beside.state)) (after hist (told q t)) beside.state t y ys d g b beside.comes beside.related refl e m (step p beside.state) (step_is p beside.state) refl
      (subst (Does (Alike I Fits p gs input spec (after beside.past (told p beside.state)) (after hist (told q t))) (step p beside.state)) st ((alike I Fits p gs input spec).steps beside.past hist beside.state t beside.comes c beside.related))
