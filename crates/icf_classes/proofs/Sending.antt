-- A program runs as before where calls are sent to functions that are alike: the two are always in states that differ in
-- their functions alone.
use Rattle.std.proofs.Common.{◌≡◌, ℕ, ◌+◌, ℤ, Bool, true, false, if◌then◌else◌, List, [], ◌∷◌, ◌++◌, map, refl, sym, ◌∙◌, ap, subst, Option, Some, None, Result, Ok, Err}
use Rattle.std.specs.Option.{option_map}
use Rattle.std.specs.List.{find}
use Rattle.std.specs.Str.{bytes_eq}
use Rattle.std.proofs.lemmas.List.{map-append}
use Rattle.gimple_ir.specs.declared.statement.Signature.{Signature}
use Rattle.gimple_ir.specs.declared.statement.Stmt.{Stmt}
use Rattle.gimple_ir.specs.declared.block.Block.{Block}
use Rattle.gimple_ir.specs.declared.program.Function.{Function}
use Rattle.gimple_ir.specs.declared.program.Program.{Program}
use Rattle.gimple_ir.specs.declared.value.Value.{Value}
use Rattle.gimple_ir.specs.declared.value.Value.TheVariants.{Int, Null, At, Code}
use Rattle.gimple_ir.specs.declared.value.TrapKind.{TrapKind}
use Rattle.gimple_ir.specs.declared.value.TrapKind.TheVariants.{BadCall}
use Rattle.gimple_core.specs.Memory.{without_frame}
use Rattle.gimple_core.specs.Sealed.{Sealed}
use Rattle.gimple_core.specs.State.{Control, Frame, World, State, setting_of, registers_of}
use Rattle.gimple_core.specs.Run.{registers_made, with_locals, called_by_name, called_with, called_through, function_named, has_signature, enter, entered, acted, jumped, returned, given, perform, finish, resumed, main_name, begun, begun_by, runs_from, Run}
use Rattle.gimple_core.proofs.Simulation.{Matches, Does, Stands, Follows, simulates, runs_same, one}
use Rattle.icf_classes.specs.Placed as placed
use Rattle.icf_classes.specs.Placed.{number_of}
use Rattle.icf_classes.specs.Congruence.{Relation, Alike}
use Rattle.icf_classes.specs.Merged.{sent_stmt, sent_body, sent_block, sent_function, sent_program}
use Rattle.icf_classes.proofs.Meaning.{named_callee, called_as, Meant, Acts, Calls, CallsThrough, meant, done, does_as_placed, Leads, To, Gives, leads, left_by, ends_as_placed, block_at, made_by, registers_as_placed, with_placed, locals_as_placed}
use Rattle.icf_classes.proofs.Bodies.{CalleesAlike, BodiesAlike, BlocksAlike, functions_alike, FoundAlike, at_alike, stmt_sent, end_sent, callee_sent}

-- what two searches by name find
abbrev pub MeetAlike : Relation → Program → Option Function → Option Function → Type 0
MeetAlike R p None None = Unit {0}
MeetAlike R p None (Some g) = ⊥
MeetAlike R p (Some f) None = ⊥
MeetAlike R p (Some f) (Some g) = Alike R p f g

-- where a name is sent a function stands that is alike to each one related to that of the name
pub record Sends (R : Relation) (p : Program) (to : List ℕ → List ℕ) : Type 0 where
  pub found : (m n : List ℕ) → R (number_of p m) (number_of p n) ≡ true → MeetAlike R p (function_named m p.functions) (function_named (to n) p.functions)
  pub own : (name : List ℕ) (f : Function) → function_named name p.functions ≡ Some f → Alike R p f f

-- a search by name finds the function with its calls sent
pub found_sent : (to : List ℕ → List ℕ) (name : List ℕ) (fs : List Function) → function_named name (map (sent_function to) fs) ≡ option_map (sent_function to) (function_named name fs)
unfolding function_named
found_sent to name [] = refl
found_sent to name (f ∷ fs) = by (bytes_eq f.name name) (found_sent to name fs)
  where
    by : (b : Bool) → find (λ (g : Function). bytes_eq g.name name) (map (sent_function to) fs) ≡ option_map (sent_function to) (find (λ (g : Function). bytes_eq g.name name) fs) →
        (if b then Some (sent_function to f) else find (λ (g : Function). bytes_eq g.name name) (map (sent_function to) fs)) ≡ option_map (sent_function to) (if b then Some f else find (λ (g : Function). bytes_eq g.name name) fs)
    by true more = refl
    by false more = more

module _ (R : Relation) (p : Sealed) (to : List ℕ → List ℕ) where
  abbrev pub sent : Sealed
  sent = record p { program = sent_program to p.program }

  -- ---- the relation

  pub record ControlsAlike (c d : Control) : Type 0 where
    pub source : Function
    pub function : d.function ≡ sent_function to source
    pub alike : Alike R p.program c.function source
    pub body : List Stmt
    pub rest : d.rest ≡ sent_body to body
    pub bodies : BodiesAlike R p.program c.function source c.rest body
    pub end : placed.placed_end c.function c.end ≡ placed.placed_end source d.end
    pub serial : d.serial ≡ c.serial
    pub takes : d.takes ≡ c.takes

  abbrev FramesAlike : List Frame → List Frame → Type 0
  FramesAlike [] [] = Unit {0}
  FramesAlike [] (g ∷ hs) = ⊥
  FramesAlike (f ∷ fs) [] = ⊥
  FramesAlike (f ∷ fs) (g ∷ hs) = ControlsAlike f.control g.control × (g.registers ≡ f.registers) × FramesAlike fs hs

  pub record StatesAlike (s t : State) : Type 0 where
    pub top : ControlsAlike s.top t.top
    pub below : FramesAlike s.below t.below
    pub world : t.world ≡ s.world
    pub next : t.next ≡ s.next

  output_same : (s t : State) → StatesAlike s t → s.world.output ≡ t.world.output
  output_same s t k = sym (ap (λ (w : World). w.output) k.world)

  -- ---- a call

  -- the function that a call enters, and the one that stands for it
  record Entered (f h : Function) : Type 0 where
    source : Function
    is : h ≡ sent_function to source
    alike : Alike R p.program f source

  abbrev ResultsAlike : Result Function TrapKind → Result Function TrapKind → Type 0
  ResultsAlike (Err k) (Err j) = k ≡ j
  ResultsAlike (Err k) (Ok h) = ⊥
  ResultsAlike (Ok f) (Err j) = ⊥
  ResultsAlike (Ok f) (Ok h) = Entered f h

  registers_same : (f g : Function) (vs : List Value) → Alike R p.program f g → registers_made (sent_function to g) vs ≡ registers_made f vs
  registers_same f g vs a =
      registers_as_placed (sent_function to g) vs ∙ (ap (λ (z : placed.PlacedFunction). made_by z.params vs 0 ++ made_by z.registers [] 0) (sym a.form) ∙ sym (registers_as_placed f vs))

  entered_alike : (s t : State) (takes : Option ℕ) (vs : List Value) (f g : Function) (bs cs : List Block) → StatesAlike s t → Alike R p.program f g → BlocksAlike R p.program f g bs cs →
      Matches StatesAlike (entered p.program.structs s takes vs f bs) (entered p.program.structs t takes vs (sent_function to g) (map (sent_block to) cs))
  entered_alike s t takes vs f g [] [] k a e = (output_same s t k, refl)
  entered_alike s t takes vs f g [] (c ∷ cs) k a e = absurd e
  entered_alike s t takes vs f g (b ∷ bs) [] k a e = absurd e
  entered_alike s t takes vs f g (b ∷ bs) (c ∷ cs) k a e =
      let form : placed.placed_function g ≡ placed.placed_function f = sym a.form in
      let locals : with_locals p.program.structs t.next 0 g.locals t.world.memory ≡ with_locals p.program.structs s.next 0 f.locals s.world.memory =
      locals_as_placed p.program.structs t.next 0 g.locals t.world.memory
      ∙ ((λ i. with_placed p.program.structs (k.next i) 0 (form i).locals (k.world i).memory) ∙ sym (locals_as_placed p.program.structs s.next 0 f.locals s.world.memory)) in
      record {
        top = record { source = g; function = refl; alike = a; body = c.body; rest = refl; bodies = e.0.body; end = e.0.end; serial = k.next; takes = refl };
        below = (k.top, ap (λ (w : World). w.registers) k.world, k.below);
        world = λ i. record (k.world i) { registers = registers_same f g vs a i; memory = locals i };
        next = λ i. k.next i + 1;
      }

  enter_alike : (s t : State) (takes : Option ℕ) (vs : List Value) (o r : Result Function TrapKind) → StatesAlike s t → ResultsAlike o r → Matches StatesAlike (enter p.program.structs s takes vs o) (enter p.program.structs t takes vs r)
  enter_alike s t takes vs (Err k) (Err j) a e = (output_same s t a, e)
  enter_alike s t takes vs (Err k) (Ok h) a e = absurd e
  enter_alike s t takes vs (Ok f) (Err j) a e = absurd e
  enter_alike s t takes vs (Ok f) (Ok h) a e =
      subst (λ (z : Function). Matches StatesAlike (entered p.program.structs s takes vs f f.blocks) (entered p.program.structs t takes vs z z.blocks)) (sym e.is)
      (entered_alike s t takes vs f e.source f.blocks e.source.blocks a e.alike (functions_alike R p.program f e.source e.alike))

  met_alike : (o r : Option Function) → MeetAlike R p.program o r → ResultsAlike (called_by_name o) (called_by_name (option_map (sent_function to) r))
  met_alike None None m = refl
  met_alike None (Some g) m = absurd m
  met_alike (Some f) None m = absurd m
  met_alike (Some f) (Some g) m = record { source = g; is = refl; alike = m }

  with_alike : (signature : Signature) (o : Option Function) → ((f : Function) → o ≡ Some f → Alike R p.program f f) → ResultsAlike (called_with signature o) (called_with signature (option_map (sent_function to) o))
  with_alike signature None own = refl
  with_alike signature (Some f) own = by (has_signature signature f)
    where
      by : (b : Bool) → ResultsAlike (if b then Ok f else Err BadCall) (if b then Ok (sent_function to f) else Err BadCall)
      by true = record { source = f; is = refl; alike = own f refl }
      by false = refl

  module _ (sends : Sends R p.program to) where
    named_alike : (m n : Option (List ℕ)) → CalleesAlike R p.program m n → ResultsAlike (called_as p.program.functions m) (called_as (map (sent_function to) p.program.functions) (option_map to n))
    named_alike None None e = refl
    named_alike None (Some n) e = absurd e
    named_alike (Some m) None e = absurd e
    named_alike (Some m) (Some n) e =
        subst (λ z. ResultsAlike (called_by_name (function_named m p.program.functions)) (called_by_name z)) (sym (found_sent to (to n) p.program.functions))
        (met_alike (function_named m p.program.functions) (function_named (to n) p.program.functions) (sends.found m n e))

    through_alike : (signature : Signature) (v : Value) → ResultsAlike (called_through p.program.functions signature v) (called_through (map (sent_function to) p.program.functions) signature v)
    through_alike signature (Int z) = refl
    through_alike signature Null = refl
    through_alike signature (At object offset) = refl
    through_alike signature (Code name) =
        subst (λ z. ResultsAlike (called_with signature (function_named name p.program.functions)) (called_with signature z)) (sym (found_sent to name p.program.functions))
        (with_alike signature (function_named name p.program.functions) (λ f e. sends.own name f e))

    -- ---- a statement

    acted_alike : (s t : State) (r : Result World TrapKind) → StatesAlike s t → Does StatesAlike (acted s r) (acted t r)
    acted_alike s t (Ok w) k = record { top = k.top; below = k.below; world = refl; next = k.next }
    acted_alike s t (Err kind) k = (output_same s t k, refl)

    done_alike : (s t : State) (m n : Option (List ℕ)) (x : Meant) → StatesAlike s t → CalleesAlike R p.program m n → Does StatesAlike (done p m x s) (done sent (option_map to n) x t)
    done_alike s t m n (Acts r) k e = acted_alike s t r k
    done_alike s t m n (Calls takes vs) k e = enter_alike s t takes vs _ _ k (named_alike m n e)
    done_alike s t m n (CallsThrough takes vs signature v) k e = enter_alike s t takes vs _ _ k (through_alike signature v)

    stmt_alike : (s t : State) (x y : Stmt) (k : StatesAlike s t) → placed.placed_stmt s.top.function x ≡ placed.placed_stmt k.top.source y → CalleesAlike R p.program (named_callee x) (named_callee y) → Does StatesAlike (perform p x s) (perform sent (sent_stmt to y) t)
    stmt_alike s t x y k e c =
        let g : Function = k.top.source in
        let form : placed.placed_function g ≡ placed.placed_function s.top.function = sym k.top.alike.form in
        let scalars : map placed.scalar_of (g.params ++ g.registers) ≡ map placed.scalar_of (s.top.function.params ++ s.top.function.registers) =
        map-append placed.scalar_of g.params g.registers ∙ (ap (λ (z : placed.PlacedFunction). z.params ++ z.registers) form ∙ sym (map-append placed.scalar_of s.top.function.params s.top.function.registers)) in
        let stmt : placed.placed_stmt (sent_function to g) (sent_stmt to y) ≡ placed.placed_stmt s.top.function x = stmt_sent to g y ∙ sym e in
        let x_meant : Meant = meant (setting_of p) (map placed.scalar_of (registers_of s.top.function)) s.top.serial (placed.placed_stmt s.top.function x) s.world in
        let same : meant (setting_of p) (map placed.scalar_of (registers_of t.top.function)) t.top.serial (placed.placed_stmt t.top.function (sent_stmt to y)) t.world ≡ x_meant =
        (λ i. meant (setting_of p) (map placed.scalar_of (registers_of (k.top.function i))) (k.top.serial i) (placed.placed_stmt (k.top.function i) (sent_stmt to y)) (k.world i))
        ∙ (λ i. meant (setting_of p) (scalars i) s.top.serial (stmt i) s.world) in
        subst (λ d. Does StatesAlike d (perform sent (sent_stmt to y) t)) (sym (does_as_placed p s x))
        (subst (λ d. Does StatesAlike (done p (named_callee x) x_meant s) d) (sym (does_as_placed sent t (sent_stmt to y) ∙ (λ i. done sent (callee_sent to g y i) (same i) t)))
        (done_alike s t (named_callee x) (named_callee y) x_meant k c))

    stands_alike : (s t : State) (x : Stmt) (xs body : List Stmt) (k : StatesAlike s t) → t.top.rest ≡ sent_body to body → BodiesAlike R p.program s.top.function k.top.source (x ∷ xs) body → Stands p sent StatesAlike s x xs t
    stands_alike s t x xs [] k e b = absurd b
    stands_alike s t x xs (y ∷ ys) k e b =
        one p sent StatesAlike s x xs t (sent_stmt to y) (sent_body to ys) e
        (stmt_alike (resumed s xs) (resumed t (sent_body to ys)) x y (record {
          top = record { source = k.top.source; function = k.top.function; alike = k.top.alike; body = ys; rest = refl; bodies = b.2; end = k.top.end; serial = k.top.serial; takes = k.top.takes };
          below = k.below;
          world = k.world;
          next = k.next;
        }) b.0 b.1)

    -- ---- an end

    jumped_alike : (s t : State) (o r : Option (ℕ × Block)) (k : StatesAlike s t) → FoundAlike R p.program to s.top.function k.top.source o r → Matches StatesAlike (jumped s o) (jumped t r)
    jumped_alike s t None None k e = (output_same s t k, refl)
    jumped_alike s t None (Some c) k e = absurd e
    jumped_alike s t (Some b) None k e = absurd e
    jumped_alike s t (Some (n, b)) (Some (m, c)) k e = record {
      top = record {
        source = k.top.source;
        function = k.top.function;
        alike = k.top.alike;
        body = e.0.body;
        rest = ap (λ (z : Block). z.body) e.1;
        bodies = e.2.body;
        end = e.2.end ∙ ap (λ (z : Block). placed.placed_end k.top.source z.end) (sym e.1);
        serial = k.top.serial;
        takes = k.top.takes;
      };
      below = k.below;
      world = k.world;
      next = k.next;
    }

    returned_alike : (s t : State) (v : Option Value) (fs hs : List Frame) → StatesAlike s t → FramesAlike fs hs → Matches StatesAlike (returned s v fs) (returned t v hs)
    returned_alike s t v [] [] k e = (output_same s t k, refl)
    returned_alike s t v [] (g ∷ hs) k e = absurd e
    returned_alike s t v (f ∷ fs) [] k e = absurd e
    returned_alike s t v (f ∷ fs) (g ∷ hs) k e = record {
      top = e.0;
      below = e.2;
      world = λ i. record (k.world i) { registers = given (e.1 i) (k.top.takes i) v; memory = without_frame (k.top.serial i) (k.world i).memory };
      next = k.next;
    }

    left_alike : (s t : State) (x : Leads) (k : StatesAlike s t) → Matches StatesAlike (left_by x s) (left_by x t)
    left_alike s t (To spot) k =
        subst (λ (h : Function). Matches StatesAlike (jumped s (block_at s.top.function.blocks spot)) (jumped t (block_at h.blocks spot))) (sym k.top.function)
        (jumped_alike s t (block_at s.top.function.blocks spot) (block_at (map (sent_block to) k.top.source.blocks) spot) k
        (at_alike R p.program to s.top.function k.top.source spot s.top.function.blocks k.top.source.blocks (functions_alike R p.program s.top.function k.top.source k.top.alike)))
    left_alike s t (Gives v) k = returned_alike s t v s.below t.below k k.below

    finish_alike : (s t : State) (k : StatesAlike s t) → Matches StatesAlike (finish p.program.globals s.top.end s) (finish p.program.globals t.top.end t)
    finish_alike s t k =
        let x : Leads = leads p.program.globals s.top.serial s.world.registers (placed.placed_end s.top.function s.top.end) in
        let same : leads p.program.globals t.top.serial t.world.registers (placed.placed_end t.top.function t.top.end) ≡ x =
        (λ i. leads p.program.globals (k.top.serial i) (k.world i).registers (placed.placed_end (k.top.function i) t.top.end))
        ∙ ap (leads p.program.globals s.top.serial s.world.registers) (end_sent to k.top.source t.top.end ∙ sym k.top.end) in
        subst (λ r. Matches StatesAlike r (finish p.program.globals t.top.end t)) (sym (ends_as_placed p.program.globals s s.top.end))
        (subst (λ r. Matches StatesAlike (left_by x s) r) (sym (ends_as_placed p.program.globals t t.top.end ∙ ap (λ z. left_by z t) same))
        (left_alike s t x k))

    -- ---- runs

    last_alike : (f g : Function) (rest body : List Stmt) → rest ≡ sent_body to body → BodiesAlike R p.program f g [] body → rest ≡ []
    last_alike f g rest [] e b = e
    last_alike f g rest (y ∷ ys) e b = absurd b

    follows_alike : Follows p sent StatesAlike
    follows_alike = record {
      output = output_same;
      stmt = λ s t x xs k e. stands_alike s t x xs k.top.body k k.top.rest (subst (λ ys. BodiesAlike R p.program s.top.function k.top.source ys k.top.body) e k.top.bodies);
      last = λ s t k e. last_alike s.top.function k.top.source t.top.rest k.top.body k.top.rest (subst (λ ys. BodiesAlike R p.program s.top.function k.top.source ys k.top.body) e k.top.bodies);
      end = λ s t k e. finish_alike s t k;
    }

    begun_alike : (input : List ℤ) (n : ℕ) (f : Function) (bs cs : List Block) → Alike R p.program f f → BlocksAlike R p.program f f bs cs → runs_from p n (begun p.program input f bs) ≡ runs_from sent n (begun sent.program input (sent_function to f) (map (sent_block to) cs))
    begun_alike input n f [] [] a e = refl
    begun_alike input n f [] (c ∷ cs) a e = absurd e
    begun_alike input n f (b ∷ bs) [] a e = absurd e
    begun_alike input n f (b ∷ bs) (c ∷ cs) a e =
        runs_same p sent StatesAlike (simulates p sent StatesAlike follows_alike) n _ _ (record {
          top = record { source = f; function = refl; alike = a; body = c.body; rest = refl; bodies = e.0.body; end = e.0.end; serial = refl; takes = refl };
          below = tt;
          world = refl;
          next = refl;
        })

    begun_by_alike : (input : List ℤ) (n : ℕ) (o : Option Function) → ((f : Function) → o ≡ Some f → Alike R p.program f f) → runs_from p n (begun_by p.program input o) ≡ runs_from sent n (begun_by sent.program input (option_map (sent_function to) o))
    begun_by_alike input n None own = refl
    begun_by_alike input n (Some f) own = begun_alike input n f f.blocks f.blocks (own f refl) (functions_alike R p.program f f (own f refl))

    -- where calls are sent to functions that are alike, a program runs as before
    pub sent_runs : (input : List ℤ) (n : ℕ) → Run sent input n ≡ Run p input n
    unfolding Run
    sent_runs input n =
        ap (λ o. runs_from sent n (begun_by sent.program input o)) (found_sent to main_name p.program.functions)
        ∙ sym (begun_by_alike input n (function_named main_name p.program.functions) (λ f e. sends.own main_name f e))
