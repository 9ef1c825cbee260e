-- What each activation of a function keeps, whatever other activations do.
use Rattle.std.proofs.Common.{◌≡◌, ℕ, ℤ, true, List, [], ◌∷◌, refl, sym, ◌∙◌, ap, subst, Option, Some, None, Result, Ok, Err}
use Rattle.gimple_core.specs.Sealed.{Sealed}
use Rattle.gimple_ir.specs.declared.program.Function.{Function}
use Rattle.gimple_ir.specs.declared.block.Block.{Block}
use Rattle.gimple_ir.specs.declared.value.Value.{Value}
use Rattle.gimple_ir.specs.declared.value.TrapKind.{TrapKind}
use Rattle.gimple_ir.specs.declared.statement.Stmt.{Stmt}
use Rattle.gimple_core.specs.Memory.{Memory, without_frame}
use Rattle.gimple_core.specs.State.{Control, Frame, World, State, scope_of, setting_of}
use Rattle.gimple_core.specs.Run.{start, Calling, call_of, called_function, act, acted, performed, Moves, Stops, Traps, Did, Goes, Reaches, CallEntry, CallReturn, Jump, Exit, ToLabel, Returns, exit_of, leave, resumed, stepped, step, entered, enter, jumped, returned, given, labelled, taking, control_made, registers_made, with_locals, first_memory, values_of, function_named, main_name, begun, begun_by}
use Rattle.gimple_core.specs.Trace.{Event, Entry, At, told_by, told, main_entry, after}
use Rattle.gimple_claims.proofs.Accesses.{no_access}
use Rattle.gimple_claims.proofs.Callees.{own_name, called_own}
use Rattle.gimple_claims.proofs.Comes.{Comes, begins, goes, moves, InDid, InReached, IsKept, holds}

-- `Here` of the running frame, and `Waits` of one that waits for a result into this register; each speaks of the events so far
pub record Activation (p : Sealed) (input : List ℤ) (f : Function) (Here : List Event → Control → World → Type 0) (Waits : List Event → Control → List Value → Option ℕ → Memory → Type 0) : Type 0 where
  pub enters : (past : List Event) (g : Function) (serial : ℕ) (arguments : List Value) (m : Memory) (caller : Option Control) (takes : Option ℕ) (b : Block) (bs : List Block) (w : World) → g ≡ f → function_named g.name p.program.functions ≡ Some g → g.blocks ≡ b ∷ bs →
      w.registers ≡ registers_made g arguments → w.memory ≡ with_locals p.program.structs serial 0 g.locals m → Here (Entry serial g arguments m caller ∷ past) (control_made g b serial takes) w
  pub stmt : (past : List Event) (s : State) (x : Stmt) (xs : List Stmt) (w : World) → Comes p input past s → s.top.function ≡ f → Here past s.top s.world → s.top.rest ≡ x ∷ xs → call_of x ≡ None →
      act (setting_of p) (scope_of s.top) x s.world ≡ Ok w → Here (after past (told p s)) (resumed s xs).top w
  pub calls : (past : List Event) (s : State) (x : Stmt) (xs : List Stmt) (c : Calling) (t : State) → Comes p input past s → s.top.function ≡ f → Here past s.top s.world → s.top.rest ≡ x ∷ xs → call_of x ≡ Some c →
      step p s ≡ Reaches (Moves CallEntry t) → Waits (after past (told p s)) (resumed s xs).top s.world.registers (taking (scope_of s.top) c.to) t.world.memory
  pub jumps : (past : List Event) (s : State) (label k : ℕ) (b : Block) → Comes p input past s → s.top.function ≡ f → Here past s.top s.world → s.top.rest ≡ [] → exit_of p.program.globals s.top.end s ≡ ToLabel label →
      labelled label s.top.function.blocks ≡ Some (k, b) → Here (after past (told p s)) (record s.top { block = k; index = 0; rest = b.body; end = b.end }) s.world
  -- a frame waits through each step of another activation
  pub others : (past : List Event) (s : State) (c : Control) (registers : List Value) (takes : Option ℕ) → Comes p input past s → Waits past c registers takes s.world.memory →
      InDid (λ t. Waits (after past (told p s)) c registers takes t.world.memory) (step p s)
  pub back : (past : List Event) (s : State) (c : Control) (registers : List Value) (v : Option Value) → Comes p input past s → c.function ≡ f → Waits past c registers s.top.takes s.world.memory → s.top.rest ≡ [] → exit_of p.program.globals s.top.end s ≡ Returns v →
      Here (after past (told p s)) c (record s.world { registers = given registers s.top.takes v; memory = without_frame s.top.serial s.world.memory })

-- ---- the events of an entry

pub told_call : (p : Sealed) (x : Stmt) (xs : List Stmt) (s t : State) (c : Calling) → call_of x ≡ Some c → stepped p s (x ∷ xs) ≡ Reaches (Moves CallEntry t) →
    told_by p true (x ∷ xs) s ≡ At s.top s.world ∷ Entry t.top.serial t.top.function (values_of p.program.globals (scope_of s.top) s.world.registers c.arguments) s.world.memory (Some s.top) ∷ []
unfolding told_by
told_call p x xs s t c e d = rw (no_access p.program.globals x s c e, d, e) refl

-- ---- the invariant

module _ (p : Sealed) (input : List ℤ) (f : Function) (Here : List Event → Control → World → Type 0) (Waits : List Event → Control → List Value → Option ℕ → Memory → Type 0) (a : Activation p input f Here Waits) where
  abbrev pub Frames : List Event → Memory → Option ℕ → List Frame → Type 0
  Frames past m takes [] = Unit {0}
  Frames past m takes (r ∷ rs) = (r.control.function ≡ f → Waits past r.control r.registers takes m) × Frames past m r.control.takes rs

  pub record Holds (past : List Event) (s : State) : Type 0 where
    pub comes : Comes p input past s
    pub top : s.top.function ≡ f → Here past s.top s.world
    pub below : Frames past s.world.memory s.top.takes s.below

  abbrev Stay : List Event → Memory → List Event → Memory → Type 0
  Stay past m now n = (c : Control) (registers : List Value) (takes : Option ℕ) → Waits past c registers takes m → Waits now c registers takes n

  frames_stay : (past now : List Event) (m n : Memory) (takes : Option ℕ) (rs : List Frame) → Stay past m now n → Frames past m takes rs → Frames now n takes rs
  frames_stay past now m n takes [] stay h = tt
  frames_stay past now m n takes (r ∷ rs) stay h = (λ e. stay _ _ _ (h.0 e), frames_stay past now m n r.control.takes rs stay h.1)

  stays : (past : List Event) (s : State) → Comes p input past s → (d : Did) → step p s ≡ d → InDid (λ t. Stay past s.world.memory (after past (told p s)) t.world.memory) d
  stays past s k (Goes u) e = λ c registers takes w. subst (InDid (λ t. Waits (after past (told p s)) c registers takes t.world.memory)) e (a.others past s c registers takes k w)
  stays past s k (Reaches (Moves j u)) e = λ c registers takes w. subst (InDid (λ t. Waits (after past (told p s)) c registers takes t.world.memory)) e (a.others past s c registers takes k w)
  stays past s k (Reaches (Stops o z)) e = tt
  stays past s k (Reaches (Traps o j)) e = tt

  -- ---- a statement

  acted_holds : (past : List Event) (s : State) (x : Stmt) (xs : List Stmt) → Holds past s → s.top.rest ≡ x ∷ xs → call_of x ≡ None → (r : Result World TrapKind) → act (setting_of p) (scope_of s.top) x s.world ≡ r →
      step p s ≡ acted (resumed s xs) r → InDid (Holds (after past (told p s))) (acted (resumed s xs) r)
  acted_holds past s x xs h e n (Ok w) r d = record {
    comes = goes past s _ h.comes d;
    top = λ same. a.stmt past s x xs w h.comes same (h.top same) e n r;
    below = frames_stay past _ s.world.memory w.memory s.top.takes s.below (stays past s h.comes (Goes (record (resumed s xs) { world = w })) d) h.below;
  }
  acted_holds past s x xs h e n (Err k) r d = tt

  told_entry : (s t : State) (x : Stmt) (xs : List Stmt) (c : Calling) → s.top.rest ≡ x ∷ xs → call_of x ≡ Some c → step p s ≡ Reaches (Moves CallEntry t) →
      told p s ≡ At s.top s.world ∷ Entry t.top.serial t.top.function (values_of p.program.globals (scope_of s.top) s.world.registers c.arguments) s.world.memory (Some s.top) ∷ []
  told_entry s t x xs c e n d = ap (λ ys. told_by p true ys s) e ∙ told_call p x xs s t c n (ap (stepped p s) (sym e) ∙ d)

  entered_holds : (past : List Event) (s : State) (x : Stmt) (xs : List Stmt) (c : Calling) → Holds past s → s.top.rest ≡ x ∷ xs → call_of x ≡ Some c → (g : Function) → function_named g.name p.program.functions ≡ Some g → (bs : List Block) → g.blocks ≡ bs →
      step p s ≡ Reaches (entered p.program.structs (resumed s xs) (taking (scope_of s.top) c.to) (values_of p.program.globals (scope_of s.top) s.world.registers c.arguments) g bs) →
      InReached (Holds (after past (told p s))) (entered p.program.structs (resumed s xs) (taking (scope_of s.top) c.to) (values_of p.program.globals (scope_of s.top) s.world.registers c.arguments) g bs)
  entered_holds past s x xs c h e n g own [] be d = tt
  entered_holds past s x xs c h e n g own (b ∷ bs) be d =
      let w : World = record s.world {
        registers = registers_made g (values_of p.program.globals (scope_of s.top) s.world.registers c.arguments);
        memory = with_locals p.program.structs s.next 0 g.locals s.world.memory;
      } in record {
        comes = moves past CallEntry s _ h.comes d;
        top = λ same.
            subst (λ es. Here (after past es) (control_made g b s.next (taking (scope_of s.top) c.to)) w) (sym (told_entry s _ x xs c e n d))
            (a.enters (At s.top s.world ∷ past) g s.next (values_of p.program.globals (scope_of s.top) s.world.registers c.arguments) s.world.memory (Some s.top) (taking (scope_of s.top) c.to) b bs w same own be refl refl);
        below = (
          λ same. a.calls past s x xs c _ h.comes same (h.top same) e n d,
          frames_stay past _ s.world.memory (with_locals p.program.structs s.next 0 g.locals s.world.memory) s.top.takes s.below (stays past s h.comes (Reaches (Moves CallEntry _)) d) h.below,
        );
      }

  enter_holds : (past : List Event) (s : State) (x : Stmt) (xs : List Stmt) (c : Calling) → Holds past s → s.top.rest ≡ x ∷ xs → call_of x ≡ Some c → (o : Result Function TrapKind) → called_function p.program.functions (scope_of s.top) s.world.registers c.callee ≡ o →
      step p s ≡ Reaches (enter p.program.structs (resumed s xs) (taking (scope_of s.top) c.to) (values_of p.program.globals (scope_of s.top) s.world.registers c.arguments) o) →
      InReached (Holds (after past (told p s))) (enter p.program.structs (resumed s xs) (taking (scope_of s.top) c.to) (values_of p.program.globals (scope_of s.top) s.world.registers c.arguments) o)
  enter_holds past s x xs c h e n (Err k) o d = tt
  enter_holds past s x xs c h e n (Ok g) o d = entered_holds past s x xs c h e n g (called_own p.program.functions (scope_of s.top) s.world.registers c.callee g o) g.blocks refl d

  performed_holds : (past : List Event) (s : State) (x : Stmt) (xs : List Stmt) → Holds past s → s.top.rest ≡ x ∷ xs → (o : Option Calling) → call_of x ≡ o →
      step p s ≡ performed p o x (resumed s xs) → InDid (Holds (after past (told p s))) (performed p o x (resumed s xs))
  performed_holds past s x xs h e None n d = acted_holds past s x xs h e n (act (setting_of p) (scope_of s.top) x s.world) refl d
  performed_holds past s x xs h e (Some c) n d = enter_holds past s x xs c h e n (called_function p.program.functions (scope_of s.top) s.world.registers c.callee) refl d

  -- ---- an end

  returned_holds : (past : List Event) (s : State) → Comes p input past s → s.top.rest ≡ [] → (v : Option Value) → exit_of p.program.globals s.top.end s ≡ Returns v → (rs : List Frame) → Frames past s.world.memory s.top.takes rs →
      step p s ≡ Reaches (returned s v rs) → InReached (Holds (after past (told p s))) (returned s v rs)
  returned_holds past s k e v x [] h d = tt
  returned_holds past s k e v x (r ∷ rs) h d = record {
    comes = moves past CallReturn s _ k d;
    top = λ same. a.back past s r.control r.registers v k same (h.0 same) e x;
    below = frames_stay past _ s.world.memory (without_frame s.top.serial s.world.memory) r.control.takes rs (stays past s k (Reaches (Moves CallReturn _)) d) h.1;
  }

  jumped_holds : (past : List Event) (s : State) (label : ℕ) → Holds past s → s.top.rest ≡ [] → exit_of p.program.globals s.top.end s ≡ ToLabel label → (o : Option (ℕ × Block)) → labelled label s.top.function.blocks ≡ o →
      step p s ≡ Reaches (jumped s o) → InReached (Holds (after past (told p s))) (jumped s o)
  jumped_holds past s label h e l None f d = tt
  jumped_holds past s label h e l (Some (k, b)) f d = record {
    comes = moves past Jump s _ h.comes d;
    top = λ same. a.jumps past s label k b h.comes same (h.top same) e l f;
    below = frames_stay past _ s.world.memory s.world.memory s.top.takes s.below (stays past s h.comes (Reaches (Moves Jump _)) d) h.below;
  }

  leave_holds : (past : List Event) (s : State) → Holds past s → s.top.rest ≡ [] → (z : Exit) → exit_of p.program.globals s.top.end s ≡ z → step p s ≡ Reaches (leave s z) → InReached (Holds (after past (told p s))) (leave s z)
  leave_holds past s h e (ToLabel label) x d = jumped_holds past s label h e x (labelled label s.top.function.blocks) refl d
  leave_holds past s h e (Returns v) x d = returned_holds past s h.comes e v x s.below h.below d

  -- ---- each step, and the whole run

  stepped_holds : (past : List Event) (s : State) → Holds past s → (xs : List Stmt) → s.top.rest ≡ xs → InDid (Holds (after past (told p s))) (stepped p s xs)
  stepped_holds past s h [] e = leave_holds past s h e (exit_of p.program.globals s.top.end s) refl (ap (stepped p s) e)
  stepped_holds past s h (x ∷ xs) e = performed_holds past s x xs h e (call_of x) refl (ap (stepped p s) e)

  begun_holds : (s : State) (g : Function) → function_named g.name p.program.functions ≡ Some g → (bs : List Block) → g.blocks ≡ bs → start p input ≡ Some s → begun p.program input g bs ≡ Some s → Holds (main_entry p s ∷ []) s
  begun_holds s g own [] be st e = cc
  begun_holds s g own (b ∷ bs) be st e =
      let made : State = record {
        top = control_made g b 0 None;
        below = [];
        world = record { registers = registers_made g []; memory = with_locals p.program.structs 0 0 g.locals (first_memory p.program); input = input; taken = 0; output = [] };
        next = 1;
      } in
      let same : made ≡ s = cc in
      subst (λ t. Holds (main_entry p t ∷ []) t) same
      (record { comes = begins made (st ∙ ap Some (sym same)); top = λ g_is. a.enters [] g 0 [] (first_memory p.program) None None b bs made.world g_is own be refl refl; below = tt })

  begun_by_holds : (s : State) (o : Option Function) → function_named main_name p.program.functions ≡ o → start p input ≡ Some s → begun_by p.program input o ≡ Some s → Holds (main_entry p s ∷ []) s
  begun_by_holds s None o st e = cc
  begun_by_holds s (Some g) o st e = begun_holds s g (own_name main_name p.program.functions g o) g.blocks refl st e

  pub kept : IsKept p input Holds
  kept = record { begin = λ s e. begun_by_holds s (function_named main_name p.program.functions) refl e e; keep = λ past s h. stepped_holds past s h s.top.rest refl }

  -- the running frame of the function, in each state of each run
  pub here : (past : List Event) (s : State) → Comes p input past s → s.top.function ≡ f → Here past s.top s.world
  here past s c = (holds p input Holds kept past s c).top

-- a running function is the program's of its name
pub own : (p : Sealed) (input : List ℤ) (past : List Event) (s : State) → Comes p input past s → function_named s.top.function.name p.program.functions ≡ Some s.top.function
own p input past s c =
    here p input s.top.function (λ past c w. function_named s.top.function.name p.program.functions ≡ Some s.top.function) (λ past c registers takes m. function_named s.top.function.name p.program.functions ≡ Some s.top.function)
    (record {
      enters = λ past g serial arguments m caller takes b bs w same own be registers memory. subst (λ (z : Function). function_named z.name p.program.functions ≡ Some z) same own;
      stmt = λ past s x xs w comes same h e n did. h;
      calls = λ past s x xs c t comes same h e n did. h;
      jumps = λ past s label k b comes same h e l be. h;
      others = λ past u c registers takes comes h. always u h (step p u);
      back = λ past s c registers v comes same h e x. h;
    }) past s c refl
  where
    always : (u : State) → function_named s.top.function.name p.program.functions ≡ Some s.top.function → (d : Did) → InDid (λ t. function_named s.top.function.name p.program.functions ≡ Some s.top.function) d
    always u h (Goes t) = h
    always u h (Reaches (Moves k t)) = h
    always u h (Reaches (Stops o z)) = tt
    always u h (Reaches (Traps o k)) = tt
