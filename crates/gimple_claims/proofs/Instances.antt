-- A program made of instances runs as the program does, and each instance's facts are met wherever it runs.
use Rattle.std.proofs.Common.{◌+◌, ◌<◌, ◌≤◌, ◌≡◌, ℕ, ℤ, List, [], ◌∷◌, refl, sym, ◌∙◌, ap, subst, arith, Option, Some, None, Result, Ok, Err, if◌then◌else◌}
use Rattle.gimple_ir.specs.declared.statement.Stmt.{Stmt}
use Rattle.gimple_ir.specs.declared.block.End.{End}
use Rattle.gimple_ir.specs.declared.block.End.TheVariants.{Goto, If, Switch, Return}
use Rattle.gimple_ir.specs.declared.value.Value.{Value}
use Rattle.gimple_ir.specs.declared.block.Block.{Block}
use Rattle.gimple_ir.specs.declared.declarations.Global.{Global}
use Rattle.gimple_ir.specs.declared.program.Function.{Function}
use Rattle.gimple_core.specs.Sealed.{Sealed, with_functions}
use Rattle.gimple_ir.specs.declared.value.TrapKind.{TrapKind}
use Rattle.gimple_core.specs.Memory.{without_frame}
use Rattle.gimple_core.specs.State.{Control, Frame, World, State, Scope, scope_of, setting_of, registers_of}
use Rattle.gimple_core.specs.Run.{step, stepped, start, compares, case_for, any_number, value_of, given, taking, registers_made, with_locals, first_memory, control_made, Calling, call_of, called_function, Reaches, Moves, CallEntry, performed, act, acted, resumed, Exit, ToLabel, Returns, exit_of, leave, finish, jump, jumped, labelled, returned, entered, enter, values_of, function_named, main_name, begun, begun_by, Run}
use Rattle.gimple_core.specs.Trace.{Event, main_entry, told, after}
use Rattle.gimple_claims.specs.Runs.{Comes}
use Rattle.gimple_claims.specs.Kept.{new_body}
use Rattle.gimple_claims.proofs.Specialised.{Instances, instance, AreMade, BeginAlike, CalleesAlike, StandsFor, MainsAlike, Specialises}
use Rattle.gimple_claims.proofs.Callees.{own_name, called_own}
use Rattle.gimple_claims.proofs.Along.{StepsAlike, StartAlike, run_alike, Beside, beside}
use Rattle.gimple_core.proofs.Simulation.{Matches, Does}

module _ (I : Instances) (Fits : List Event → ℕ → ℕ → Type 0) (p : Sealed) (gs : List Function) (input : List ℤ) (spec : Specialises I Fits p gs input) where
  abbrev pub made : Sealed
  made = with_functions p gs

  pub record AlikeControl (past : List Event) (n : ℕ) (c d : Control) : Type 0 where
    pub number : ℕ
    pub source : I.source number ≡ c.function
    pub function : d.function ≡ instance I number
    pub rest : d.rest ≡ new_body (I.put number) c.block c.index c.rest
    pub end : d.end ≡ I.end number c.block c.end
    pub serial : d.serial ≡ c.serial
    pub takes : d.takes ≡ c.takes
    pub fits : Fits past c.serial number
    pub older : c.serial < n

  abbrev pub AlikeFrames : List Event → ℕ → List Frame → List Frame → Type 0
  AlikeFrames past n [] [] = Unit {0}
  AlikeFrames past n [] (g ∷ hs) = ⊥
  AlikeFrames past n (f ∷ fs) [] = ⊥
  AlikeFrames past n (f ∷ fs) (g ∷ hs) = AlikeControl past n f.control g.control × (g.registers ≡ f.registers) × AlikeFrames past n fs hs

  pub record Alike (past hist : List Event) (s t : State) : Type 0 where
    pub top : AlikeControl past s.next s.top t.top
    pub below : AlikeFrames past s.next s.below t.below
    pub world : t.world ≡ s.world
    pub next : t.next ≡ s.next

  -- ---- later

  control_on : (past : List Event) (s : State) (m : ℕ) (c d : Control) → Comes p input past s → s.next ≤ m → AlikeControl past s.next c d → AlikeControl (after past (told p s)) m c d
  control_on past s m c d comes l k =
      let old : c.serial < s.next = k.older in
      record { number = k.number; source = k.source; function = k.function; rest = k.rest; end = k.end; serial = k.serial; takes = k.takes; fits = spec.keeps past s c.serial k.number comes k.older k.fits; older = omega (arith, old, l) }

  frames_on : (past : List Event) (s : State) (m : ℕ) (fs hs : List Frame) → Comes p input past s → s.next ≤ m → AlikeFrames past s.next fs hs → AlikeFrames (after past (told p s)) m fs hs
  frames_on past s m [] [] comes l k = tt
  frames_on past s m [] (g ∷ hs) comes l k = absurd k
  frames_on past s m (f ∷ fs) [] comes l k = absurd k
  frames_on past s m (f ∷ fs) (g ∷ hs) comes l k = (control_on past s m f.control g.control comes l k.0, k.1, frames_on past s m fs hs comes l k.2)

  pub scope_same : (past : List Event) (n : ℕ) (c d : Control) → AlikeControl past n c d → scope_of d ≡ scope_of c
  scope_same past n c d k = λ i. record { declared = (ap registers_of k.function ∙ ap registers_of k.source) i; locals = ((ap (λ (f : Function). f.locals) k.function ∙ ap (λ (f : Function). f.locals) k.source) i); serial = k.serial i }

  output_same : (past hist : List Event) (s t : State) → Alike past hist s t → s.world.output ≡ t.world.output
  output_same past hist s t k = sym (ap (λ (w : World). w.output) k.world)

  -- ---- statements

  resumed_alike : (past hist : List Event) (s t : State) (x : Stmt) (xs ys : List Stmt) → Comes p input past s → (k : Alike past hist s t) → ys ≡ new_body (I.put k.top.number) s.top.block (s.top.index + 1) xs → AlikeControl (after past (told p s)) s.next (resumed s xs).top (resumed t ys).top
  resumed_alike past hist s t x xs ys comes k e = record { number = k.top.number; source = k.top.source; function = k.top.function; rest = e; end = k.top.end; serial = k.top.serial; takes = k.top.takes; fits = spec.keeps past s s.top.serial k.top.number comes k.top.older k.top.fits; older = k.top.older }

  acted_alike : (past hist now later : List Event) (s t : State) (xs ys : List Stmt) (r : Result World TrapKind) → AlikeControl now s.next (resumed s xs).top (resumed t ys).top → AlikeFrames now s.next s.below t.below → Alike past hist s t → Does (Alike now later) (acted (resumed s xs) r) (acted (resumed t ys) r)
  acted_alike past hist now later s t xs ys (Ok w) c b k = record { top = c; below = b; world = refl; next = k.next }
  acted_alike past hist now later s t xs ys (Err kind) c b k = (output_same past hist s t k, refl)

  entered_alike : (past hist now later : List Event) (s t : State) (xs ys : List Stmt) (to : Option ℕ) (vs : List Value) (j : ℕ) (bs cs : List Block) → Alike past hist s t → AlikeControl now (s.next + 1) (resumed s xs).top (resumed t ys).top → AlikeFrames now (s.next + 1) s.below t.below →
      BeginAlike I j bs cs → ((u : State) → entered p.program.structs (resumed s xs) to vs (I.source j) bs ≡ Moves CallEntry u → Fits now s.next j) → Matches (Alike now later) (entered p.program.structs (resumed s xs) to vs (I.source j) bs) (entered p.program.structs (resumed t ys) to vs (instance I j) cs)
  entered_alike past hist now later s t xs ys to vs j [] [] k c b e fits = (output_same past hist s t k, refl)
  entered_alike past hist now later s t xs ys to vs j [] (y ∷ zs) k c b e fits = absurd e
  entered_alike past hist now later s t xs ys to vs j (x ∷ ws) [] k c b e fits = absurd e
  entered_alike past hist now later s t xs ys to vs j (x ∷ ws) (y ∷ zs) k c b e fits = record {
    top = record { number = j; source = refl; function = refl; rest = e.body; end = e.end; serial = k.next; takes = refl; fits = fits _ refl; older = omega arith };
    below = (c, ap (λ (w : World). w.registers) k.world, b);
    world = λ i. record (k.world i) { registers = registers_made (I.source j) vs; memory = with_locals p.program.structs (k.next i) 0 (I.source j).locals (k.world i).memory };
    next = λ i. k.next i + 1;
  }

  enter_alike : (past hist later : List Event) (s t : State) (xs ys : List Stmt) (to : Option ℕ) (vs : List Value) (o r : Result Function TrapKind) → Comes p input past s → Alike past hist s t → AlikeControl (after past (told p s)) (s.next + 1) (resumed s xs).top (resumed t ys).top →
      AlikeFrames (after past (told p s)) (s.next + 1) s.below t.below → ((g : Function) → o ≡ Ok g → function_named g.name p.program.functions ≡ Some g) → CalleesAlike I Fits p past s o r → step p s ≡ Reaches (enter p.program.structs (resumed s xs) to vs o) →
      Matches (Alike (after past (told p s)) later) (enter p.program.structs (resumed s xs) to vs o) (enter p.program.structs (resumed t ys) to vs r)
  enter_alike past hist later s t xs ys to vs (Err kind) r comes k a b own e st =
      subst (λ z. Matches (Alike (after past (told p s)) later) (enter p.program.structs (resumed s xs) to vs (Err kind)) (enter p.program.structs (resumed t ys) to vs z)) (sym e) (output_same past hist s t k, refl)
  enter_alike past hist later s t xs ys to vs (Ok f) r comes k a b own e st =
      let mine : function_named (I.source e.number).name p.program.functions ≡ Some (I.source e.number) = subst (λ (h : Function). function_named h.name p.program.functions ≡ Some h) (sym e.source) (own f refl) in
      let there : step p s ≡ Reaches (entered p.program.structs (resumed s xs) to vs (I.source e.number) (I.source e.number).blocks) = subst (λ (h : Function). step p s ≡ Reaches (entered p.program.structs (resumed s xs) to vs h h.blocks)) (sym e.source) st in
      subst (λ z. Matches (Alike (after past (told p s)) later) (enter p.program.structs (resumed s xs) to vs (Ok f)) (enter p.program.structs (resumed t ys) to vs z)) (sym e.callee)
      (subst (λ (h : Function). Matches (Alike (after past (told p s)) later) (entered p.program.structs (resumed s xs) to vs h h.blocks) (entered p.program.structs (resumed t ys) to vs (instance I e.number) (I.blocks e.number))) e.source
      (entered_alike past hist (after past (told p s)) later s t xs ys to vs e.number (I.source e.number).blocks (I.blocks e.number) k a b (spec.begin e.number mine) (λ u x. e.fits u (there ∙ ap Reaches x))))

  performed_alike : (past hist later : List Event) (s t : State) (x y : Stmt) (xs ys : List Stmt) → Comes p input past s → (k : Alike past hist s t) → ys ≡ new_body (I.put k.top.number) s.top.block (s.top.index + 1) xs → StandsFor I Fits p gs past s x y →
      (o r : Option Calling) → call_of x ≡ o → call_of y ≡ r → step p s ≡ performed p o x (resumed s xs) → Does (Alike (after past (told p s)) later) (performed p o x (resumed s xs)) (performed made r y (resumed t ys))
  performed_alike past hist later s t x y xs ys comes k e f None None a b st =
      let same : act (setting_of p) (scope_of t.top) y t.world ≡ act (setting_of p) (scope_of s.top) x s.world = (λ i. act (setting_of p) (scope_same past s.next s.top t.top k.top i) y (k.world i)) ∙ (f.act a).1 in
      rw same (acted_alike past hist _ later s t xs ys (act (setting_of p) (scope_of s.top) x s.world) (resumed_alike past hist s t x xs ys comes k e) (frames_on past s s.next s.below t.below comes (omega arith) k.below) k)
  performed_alike past hist later s t x y xs ys comes k e f None (Some d) a b st = let g = f.act a in let h = g.0 in cc
  performed_alike past hist later s t x y xs ys comes k e f (Some c) None a b st = let g = f.call c a in let h = g.1 in cc
  performed_alike past hist later s t x y xs ys comes k e f (Some c) (Some d) a b st =
      let g = f.call c a in
      let h = g.1 in
      let same : g.0 ≡ d = cc in
      let to : taking (scope_of t.top) d.to ≡ taking (scope_of s.top) c.to = (λ i. taking (scope_same past s.next s.top t.top k.top i) d.to) ∙ ap (taking (scope_of s.top)) (ap (λ (z : Calling). z.to) (sym same) ∙ g.2) in
      let values : values_of p.program.globals (scope_of t.top) t.world.registers d.arguments ≡ values_of p.program.globals (scope_of s.top) s.world.registers c.arguments =
      (λ i. values_of p.program.globals (scope_same past s.next s.top t.top k.top i) (k.world i).registers d.arguments) ∙
      (ap (λ (z : Calling). values_of p.program.globals (scope_of s.top) s.world.registers z.arguments) (sym same) ∙ g.3) in
      let callee : called_function gs (scope_of t.top) t.world.registers d.callee ≡ called_function gs (scope_of s.top) s.world.registers g.0.callee =
      (λ i. called_function gs (scope_same past s.next s.top t.top k.top i) (k.world i).registers d.callee) ∙ ap (λ (z : Calling). called_function gs (scope_of s.top) s.world.registers z.callee) (sym same) in
      let top : AlikeControl (after past (told p s)) s.next (resumed s xs).top (resumed t ys).top = resumed_alike past hist s t x xs ys comes k e in
      let old : s.top.serial < s.next = top.older in
      rw (values, to, callee)
      (enter_alike past hist later s t xs ys (taking (scope_of s.top) c.to) (values_of p.program.globals (scope_of s.top) s.world.registers c.arguments)
      (called_function p.program.functions (scope_of s.top) s.world.registers c.callee) (called_function gs (scope_of s.top) s.world.registers g.0.callee) comes k
      (record { number = top.number; source = top.source; function = top.function; rest = top.rest; end = top.end; serial = top.serial; takes = top.takes; fits = top.fits; older = omega (arith, old) })
      (frames_on past s (s.next + 1) s.below t.below comes (omega arith) k.below) (λ h n. called_own p.program.functions (scope_of s.top) s.world.registers c.callee h n) g.4 st)

  -- ---- ends

  jumped_alike : (past hist later : List Event) (s t : State) (o r : Option (ℕ × Block)) → Comes p input past s → (k : Alike past hist s t) → AreMade I k.top.number o r → Matches (Alike (after past (told p s)) later) (jumped s o) (jumped t r)
  jumped_alike past hist later s t None None comes k e = (output_same past hist s t k, refl)
  jumped_alike past hist later s t None (Some c) comes k e = absurd e
  jumped_alike past hist later s t (Some b) None comes k e = absurd e
  jumped_alike past hist later s t (Some (n, b)) (Some (m, c)) comes k e = record {
    top = record { number = k.top.number; source = k.top.source; function = k.top.function; rest = e.body; end = e.end; serial = k.top.serial; takes = k.top.takes; fits = spec.keeps past s s.top.serial k.top.number comes k.top.older k.top.fits; older = k.top.older };
    below = frames_on past s s.next s.below t.below comes (omega arith) k.below;
    world = k.world;
    next = k.next;
  }

  returned_alike : (past hist later : List Event) (s t : State) (v : Option Value) (fs hs : List Frame) → Comes p input past s → Alike past hist s t → AlikeFrames past s.next fs hs → Matches (Alike (after past (told p s)) later) (returned s v fs) (returned t v hs)
  returned_alike past hist later s t v [] [] comes k e = (output_same past hist s t k, refl)
  returned_alike past hist later s t v [] (g ∷ hs) comes k e = absurd e
  returned_alike past hist later s t v (f ∷ fs) [] comes k e = absurd e
  returned_alike past hist later s t v (f ∷ fs) (g ∷ hs) comes k e = record {
    top = control_on past s s.next f.control g.control comes (omega arith) e.0;
    below = frames_on past s s.next fs hs comes (omega arith) e.2;
    world = λ i. record (k.world i) { registers = given (e.1 i) (k.top.takes i) v; memory = without_frame (k.top.serial i) (k.world i).memory };
    next = k.next;
  }

  abbrev exit_in : List Global → End → Scope → World → Exit
  exit_in globals (Goto label) scope w = ToLabel label
  exit_in globals (If x cmp y this that) scope w = ToLabel (if compares (value_of globals scope w.registers x) cmp (value_of globals scope w.registers y) then this else that)
  exit_in globals (Switch on cases other) scope w = ToLabel (case_for (any_number (value_of globals scope w.registers on)) cases other)
  exit_in globals (Return None) scope w = Returns None
  exit_in globals (Return (Some o)) scope w = Returns (Some (value_of globals scope w.registers o))

  exit_is : (globals : List Global) (e : End) (s : State) → exit_of globals e s ≡ exit_in globals e (scope_of s.top) s.world
  exit_is globals (Goto label) s = refl
  exit_is globals (If x cmp y this that) s = refl
  exit_is globals (Switch on cases other) s = refl
  exit_is globals (Return None) s = refl
  exit_is globals (Return (Some o)) s = refl

  exit_same : (globals : List Global) (e : End) (past hist : List Event) (s t : State) → Alike past hist s t → exit_of globals e t ≡ exit_of globals e s
  exit_same globals e past hist s t k = exit_is globals e t ∙ ((λ i. exit_in globals e (scope_same past s.next s.top t.top k.top i) (k.world i)) ∙ sym (exit_is globals e s))

  leave_alike : (past hist later : List Event) (s t : State) (x : Exit) → Comes p input past s → (k : Alike past hist s t) →
      ((label : ℕ) → x ≡ ToLabel label → AreMade I k.top.number (labelled label s.top.function.blocks) (labelled label (I.blocks k.top.number))) → Matches (Alike (after past (told p s)) later) (leave s x) (leave t x)
  leave_alike past hist later s t (ToLabel label) comes k e =
      subst (λ (f : Function). Matches (Alike (after past (told p s)) later) (jump s label) (jumped t (labelled label f.blocks))) (sym k.top.function)
      (jumped_alike past hist later s t (labelled label s.top.function.blocks) (labelled label (I.blocks k.top.number)) comes k (e label refl))
  leave_alike past hist later s t (Returns v) comes k e = returned_alike past hist later s t v s.below t.below comes k k.below

  finish_alike : (past hist later : List Event) (s t : State) → Comes p input past s → (k : Alike past hist s t) → s.top.rest ≡ [] → Matches (Alike (after past (told p s)) later) (finish p.program.globals s.top.end s) (finish made.program.globals t.top.end t)
  finish_alike past hist later s t comes k e =
      let same : exit_of p.program.globals t.top.end t ≡ exit_of p.program.globals s.top.end s =
      ap (λ z. exit_of p.program.globals z t) k.top.end ∙
      (exit_same p.program.globals (I.end k.top.number s.top.block s.top.end) past hist s t k ∙ spec.end past s k.top.number comes k.top.source k.top.fits e) in
      subst (λ x. Matches (Alike (after past (told p s)) later) (leave s (exit_of p.program.globals s.top.end s)) (leave t x)) (sym same)
      (leave_alike past hist later s t (exit_of p.program.globals s.top.end s) comes k (λ label x. spec.jump past s label k.top.number comes k.top.source k.top.fits e x))

  -- ---- the step

  stepped_alike : (past hist later : List Event) (s t : State) → Comes p input past s → (k : Alike past hist s t) → (xs : List Stmt) → s.top.rest ≡ xs → step p s ≡ stepped p s xs → Does (Alike (after past (told p s)) later) (stepped p s xs) (stepped made t (new_body (I.put k.top.number) s.top.block s.top.index xs))
  stepped_alike past hist later s t comes k [] e st = finish_alike past hist later s t comes k e
  stepped_alike past hist later s t comes k (x ∷ xs) e st =
      performed_alike past hist later s t x (I.put k.top.number s.top.block s.top.index x) xs (new_body (I.put k.top.number) s.top.block (s.top.index + 1) xs) comes k refl
      (spec.stmt past s x xs k.top.number comes k.top.source k.top.fits e) (call_of x) (call_of (I.put k.top.number s.top.block s.top.index x)) refl refl st

  pub alike : StepsAlike p made input Alike
  alike = record {
    output = λ past hist s t k. output_same past hist s t k;
    steps = λ past hist s t comes arrives k.
        subst (λ ys. Does (Alike (after past (told p s)) (after hist (told made t))) (step p s) (stepped made t ys)) (sym k.top.rest)
        (stepped_alike past hist _ s t comes k s.top.rest refl refl);
  }

  -- ---- the start

  begun_alike : (j : ℕ) (bs cs : List Block) → ((s : State) → Fits (main_entry p s ∷ []) 0 j) → BeginAlike I j bs cs → StartAlike p made Alike (begun p.program input (I.source j) bs) (begun made.program input (instance I j) cs)
  begun_alike j [] [] fits e = tt
  begun_alike j [] (c ∷ cs) fits e = absurd e
  begun_alike j (b ∷ bs) [] fits e = absurd e
  begun_alike j (b ∷ bs) (c ∷ cs) fits e =
      let first : State = record {
        top = control_made (I.source j) b 0 None;
        below = [];
        world = record { registers = registers_made (I.source j) []; memory = with_locals p.program.structs 0 0 (I.source j).locals (first_memory p.program); input = input; taken = 0; output = [] };
        next = 1;
      } in record {
        top = record { number = j; source = refl; function = refl; rest = e.body; end = e.end; serial = refl; takes = refl; fits = fits first; older = omega arith };
        below = tt;
        world = refl;
        next = refl;
      }

  begun_by_alike : (o r : Option Function) → function_named main_name p.program.functions ≡ o → MainsAlike I Fits (λ s. main_entry p s ∷ []) o r → StartAlike p made Alike (begun_by p.program input o) (begun_by made.program input r)
  begun_by_alike None None e m = tt
  begun_by_alike None (Some g) e m = absurd m
  begun_by_alike (Some f) None e m = absurd m
  begun_by_alike (Some f) (Some g) e m =
      let own : function_named (I.source m.0).name p.program.functions ≡ Some (I.source m.0) = subst (λ (h : Function). function_named h.name p.program.functions ≡ Some h) (sym m.1) (own_name main_name p.program.functions f e) in
      subst (λ (h : Function). StartAlike p made Alike (begun p.program input h h.blocks) (begun made.program input g g.blocks)) m.1
      (subst (λ (h : Function). StartAlike p made Alike (begun p.program input (I.source m.0) (I.source m.0).blocks) (begun made.program input h h.blocks)) (sym m.2)
      (begun_alike m.0 (I.source m.0).blocks (I.blocks m.0) m.3 (spec.begin m.0 own)))

  pub starts : StartAlike p made Alike (start p input) (start made input)
  starts = begun_by_alike (function_named main_name p.program.functions) (function_named main_name gs) refl spec.mains

  pub instances_run : (n : ℕ) → Run p input n ≡ Run made input n
  instances_run n = run_alike p made input Alike alike n starts

  -- each state of the made program stands beside one of the source, whose activation meets the facts of the instance that runs
  pub instance_beside : (hist : List Event) (t : State) → Comes made input hist t → Beside p made input Alike alike hist t
  instance_beside hist t c = beside p made input Alike alike starts hist t c
