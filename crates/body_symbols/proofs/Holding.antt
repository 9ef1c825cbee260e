-- Symbols hold at each point of each activation in every run.
use Rattle.std.proofs.Common.{◌≡◌, ℕ, suc, ◌+◌, ◌==◌, ◌<◌, ◌≤◌, nat_lt, ℤ, pos, ◌+ℤ◌, Bool, true, false, cond, List, [], ◌∷◌, ◌++◌, length, ◌⊎◌, inl, inr, refl, sym, ◌∙◌, ap, subst, arith, Option, Some, None, IsSomeAnd, Ok, slice_get, unwrap_or}
use Rattle.std.specs.List.{AllByRecursion, list_all}
use Rattle.std.proofs.lemmas.Bool.{eqb-true, eq-eqb, lt-ltb}
use Rattle.std.proofs.lemmas.Int.{ints}
use Rattle.gimple_ir.specs.declared.scalar.Scalar.{Scalar}
use Rattle.gimple_ir.specs.declared.scalar.Scalar.TheVariants.{I8, I16, I32, I64, U8, U16, U32, U64, Ptr}
use Rattle.gimple_ir.specs.declared.scalar.Mode.{Mode}
use Rattle.gimple_ir.specs.declared.value.Value.{Value}
use Rattle.gimple_ir.specs.declared.value.Value.TheVariants.{Int as IntValue, Null as NullValue, At as AtObject, Code}
use Rattle.gimple_ir.specs.declared.declarations.Register.{Register}
use Rattle.gimple_ir.specs.declared.statement.Stmt.{Stmt}
use Rattle.gimple_ir.specs.declared.program.Function.{Function}
use Rattle.gimple_core.specs.Sealed.{Sealed}
use Rattle.gimple_core.specs.Operators.{in_scalar, wrapped}
use Rattle.gimple_core.specs.Accepted.{first_fault}
use Rattle.gimple_core.specs.Memory.{moved_by}
use Rattle.gimple_core.specs.State.{Control, World, State, Scope, scope_of, setting_of, registers_of, scalar_or_pointer, zero_of, is_of}
use Rattle.gimple_core.specs.Run.{act, given, taking, value_of, values_made, registers_made, step}
use Rattle.gimple_core.specs.Trace.{Event, Entry, At, Load, Store, Leave, Trace, EachAfter}
use Rattle.gimple_core.specs.Env.{functions_by_name}
use Rattle.gimple_core.specs.Statements as check
use Rattle.gimple_core.specs.Statements.{is_pointer}
use Rattle.gimple_claims.specs.Checks.{env_of, StmtsPass}
use Rattle.gimple_claims.specs.Laws.{IsOlder, EntryIsNew}
use Rattle.gimple_claims.specs.Stack.{AreLive, serials}
use Rattle.gimple_claims.specs.Typed.{registers_typed, EventTyped}
use Rattle.gimple_claims.proofs.Comes.{Comes}
use Rattle.gimple_claims.proofs.Fresh.{entries_are_new}
use Rattle.gimple_claims.proofs.Lost.{stands}
use Rattle.gimple_claims.proofs.OneRun.{EachBefore, each_before, in_run}
use Rattle.gimple_claims.proofs.Points.{IsQuiet, before, in_did_always, points_each}
use Rattle.gimple_claims.proofs.Stack.{live_serials}
use Rattle.gimple_claims.proofs.TypedEvents.{events_are_typed}
use Rattle.fix_engine.specs.Bools.{and_left, and_right}
use Rattle.fix_engine.specs.Rows.{FitsRows, rows_below}
use Rattle.fix_engine.specs.declared.lifted.Lifted.{Lifted}
use Rattle.fix_engine.specs.declared.lifted.Lifted.TheVariants.{NotReached, Reached}
use Rattle.block_flow.specs.System.{point_value}
use Rattle.block_flow.specs.Runs.{ReachedWith, Assertion, IsSound, PointClaim}
use Rattle.block_flow.proofs.Exits.{branch_to}
use Rattle.block_flow.proofs.Holding.{solutions_hold}
use Rattle.body_symbols.specs.declared.symbol.Symbol.{Symbol}
use Rattle.body_symbols.specs.declared.symbol.Symbol.TheVariants.{Formal, FormalAt}
use Rattle.body_symbols.specs.Order.{symbol_below, FitsSymbol}
use Rattle.body_symbols.specs.Bodies.{body_of, operand_symbol, formal_symbol, zero_symbol, first_symbols, symbol_steps, change_of, changed}
use Rattle.body_symbols.specs.BodiesLaws.{symbol_steps_laws}
use Rattle.body_symbols.specs.Claims.{formal_scalar, argument_of, Stands, BeginsWith, arguments_of, OperandsStand, SymbolsClaim, SolvesSymbols, SymbolsHold}
use Rattle.body_symbols.proofs.Offsets.{wrapped_still}
use Rattle.body_symbols.proofs.Standing.{is_ptr, zero_inside, Fits, RowStands, row_above, operand_stands}
use Rattle.body_symbols.proofs.Statements.{statement_done, call_done}

-- ---- the entry

pub still : (v : Value) → is_of Ptr v ≡ true → v ≡ moved_by v (pos 0)
unfolding moved_by
still (IntValue z) h = refl
still NullValue h = refl
still (AtObject object o) h =
    let zero : o +ℤ pos 0 ≡ o = omega (arith, ints) in
    ap (λ n. AtObject object n) (sym (wrapped_still o h) ∙ ap (wrapped I64) (sym zero))
still (Code name) h = refl

zero_is_known : (mode : Mode) (f : Function) (arguments : List Value) (serial : ℕ) (scalar : Scalar) → Fits mode f arguments serial scalar (zero_symbol scalar) (zero_of scalar)
zero_is_known mode f arguments serial I8 = record { stands = refl; keeps = tt }
zero_is_known mode f arguments serial I16 = record { stands = refl; keeps = tt }
zero_is_known mode f arguments serial I32 = record { stands = refl; keeps = tt }
zero_is_known mode f arguments serial I64 = record { stands = refl; keeps = tt }
zero_is_known mode f arguments serial U8 = record { stands = refl; keeps = tt }
zero_is_known mode f arguments serial U16 = record { stands = refl; keeps = tt }
zero_is_known mode f arguments serial U32 = record { stands = refl; keeps = tt }
zero_is_known mode f arguments serial U64 = record { stands = refl; keeps = tt }
zero_is_known mode f arguments serial Ptr = record { stands = refl; keeps = tt }

choose : {A : Type 0} (P : A → Type 0) (b : Bool) (x y : A) → b ≡ true → P x → P (cond b x y)
choose P true x y e h = h
choose P false x y e h = cc

choose_other : {A : Type 0} (P : A → Type 0) (b : Bool) (x y : A) → b ≡ false → P y → P (cond b x y)
choose_other P true x y e h = cc
choose_other P false x y e h = h

not_less : (n m : ℕ) → m ≤ n → nat_lt n m ≡ false
not_less n m h = grind (arith, h)

module _ (mode : Mode) (f : Function) (arguments : List Value) (serial : ℕ) where
  abbrev Rows : List Register → List Symbol → List Value → Type 0
  Rows rs row vs = RowStands mode f arguments serial rs row vs

  formal_by : (k : ℕ) (scalar : Scalar) (v : Value) (b : Bool) → is_pointer scalar ≡ b → k < length f.params → formal_scalar f k ≡ scalar → v ≡ argument_of f arguments k → is_of scalar v ≡ true → Fits mode f arguments serial scalar (cond b (FormalAt k (Some (pos 0))) (Formal k)) v
  formal_by k scalar v true e l s a t = record { stands = subst (λ u. v ≡ moved_by u (pos 0)) a (still v (subst (λ x. is_of x v ≡ true) (is_ptr scalar e) t)); keeps = (record { within = l; scalar_is = s }, zero_inside) }
  formal_by k scalar v false e l s a t = record { stands = a; keeps = record { within = l; scalar_is = s } }

  zeros_stand : (rs : List Register) (k j : ℕ) → length f.params ≤ k → Rows rs (first_symbols (length f.params) k rs) (values_made rs [] j)
  unfolding values_made
  zeros_stand [] k j l = tt
  zeros_stand (r ∷ rs) k j l = (
    choose_other (λ a. Fits mode f arguments serial r.scalar a (zero_of r.scalar)) (nat_lt k (length f.params)) (formal_symbol k r.scalar) (zero_symbol r.scalar) (not_less k (length f.params) l) (zero_is_known mode f arguments serial r.scalar),
    zeros_stand rs (k + 1) (j + 1) (omega (arith, l)),
  )

  formals_stand : (rs others : List Register) (k : ℕ) (vs : List Value) → k + length rs ≡ length f.params → ((j : ℕ) → slice_get f.params (k + j) ≡ slice_get rs j) → registers_typed (rs ++ others) (values_made rs arguments k ++ vs) ≡ true →
      Rows others (first_symbols (length f.params) (length f.params) others) vs → Rows (rs ++ others) (first_symbols (length f.params) k (rs ++ others)) (values_made rs arguments k ++ vs)
  unfolding values_made
  formals_stand [] others k vs l at t h = let same : length f.params ≡ k = omega (arith, l) in subst (λ n. Rows others (first_symbols (length f.params) n others) vs) same h
  formals_stand (r ∷ rs) others k vs l at t h =
      let less : k < length f.params = omega (arith, l) in
      let here : slice_get f.params k ≡ Some r = subst (λ n. slice_get f.params n ≡ Some r) (omega arith) (at 0) in
      let scalar : formal_scalar f k ≡ r.scalar = ap scalar_or_pointer here in
      let value : unwrap_or (slice_get arguments k) (zero_of r.scalar) ≡ argument_of f arguments k = ap (λ x. unwrap_or (slice_get arguments k) (zero_of x)) (sym scalar) in (
        choose (λ a. Fits mode f arguments serial r.scalar a (unwrap_or (slice_get arguments k) (zero_of r.scalar))) (nat_lt k (length f.params)) (formal_symbol k r.scalar) (zero_symbol r.scalar) (lt-ltb k (length f.params) less)
            (formal_by k r.scalar (unwrap_or (slice_get arguments k) (zero_of r.scalar)) (is_pointer r.scalar) refl less scalar value
            (and_left (is_of r.scalar (unwrap_or (slice_get arguments k) (zero_of r.scalar))) (registers_typed (rs ++ others) (values_made rs arguments (k + 1) ++ vs)) t)),
        formals_stand rs others (k + 1) vs (omega (arith, l)) (λ j. subst (λ n. slice_get f.params n ≡ slice_get rs j) (omega arith) (at (suc j)))
            (and_right (is_of r.scalar (unwrap_or (slice_get arguments k) (zero_of r.scalar))) (registers_typed (rs ++ others) (values_made rs arguments (k + 1) ++ vs)) t) h,
      )

  pub entry_stands : registers_typed (registers_of f) (registers_made f arguments) ≡ true → Rows (registers_of f) (first_symbols (length f.params) 0 (registers_of f)) (registers_made f arguments)
  entry_stands t = formals_stand f.params f.registers 0 (values_made f.registers [] 0) (omega arith) (λ j. ap (slice_get f.params) (omega arith)) t (zeros_stand f.registers (length f.params) 0 (omega arith))

-- ---- what the analysis owes

-- the arguments of a call are of the scalars of its formals
abbrev pub HasTyped : Event → Type 0
HasTyped (Entry serial g given m caller) = registers_typed g.params given ≡ true
HasTyped (At c w) = Unit {0}
HasTyped (Load c scalar object offset v) = Unit {0}
HasTyped (Store c scalar object offset v) = Unit {0}
HasTyped (Leave serial) = Unit {0}

-- what an activation of the function is known to have begun with
pub record IsGivenTo (serial : ℕ) (arguments : List Value) (past : List Event) : Type 0 where
  pub begins : AllByRecursion (BeginsWith serial arguments) past
  pub typed : AllByRecursion HasTyped past

-- the arguments are of the formals' scalars, and the registers hold what their symbols say
pub record Holds (p : Sealed) (f : Function) (arguments : List Value) (serial : ℕ) (row : List Symbol) (vs : List Value) : Type 0 where
  pub typed : registers_typed f.params arguments ≡ true
  pub stands : RowStands p.mode f arguments serial (registers_of f) row vs

-- so they do with each value that may return
pub record Awaits (p : Sealed) (f : Function) (arguments : List Value) (serial : ℕ) (y : Lifted (List Symbol)) (registers : List Value) (takes : Option ℕ) : Type 0 where
  pub typed : registers_typed f.params arguments ≡ true
  pub stands : (v : Option Value) → ReachedWith (λ row. RowStands p.mode f arguments serial (registers_of f) row (given registers takes v)) y

with_typed : (p : Sealed) (f : Function) (arguments : List Value) (serial : ℕ) (y : Lifted (List Symbol)) (vs : List Value) → registers_typed f.params arguments ≡ true → ReachedWith (λ row. RowStands p.mode f arguments serial (registers_of f) row vs) y → ReachedWith (λ row. Holds p f arguments serial row vs) y
with_typed p f arguments serial NotReached vs t h = h
with_typed p f arguments serial (Reached row) vs t h = record { typed = t; stands = h }

abbrev pub standing : Sealed → Function → List Value → Assertion (List Symbol)
standing p f arguments = record {
  Given = λ serial past. IsGivenTo serial arguments past;
  Says = λ row past c w. Holds p f arguments c.serial row w.registers;
  Waits = λ y past c registers takes m. Awaits p f arguments c.serial y registers takes;
}

module _ (p : Sealed) (accepted : first_fault p.program ≡ None) (input : List ℤ) (f : Function) (arguments : List Value) where
  passes : (past : List Event) (s : State) → Comes p input past s → (x : Stmt) (rest : List Stmt) → s.top.rest ≡ x ∷ rest → s.top.function ≡ f → check.statement (env_of p.program f) (functions_by_name p.program.functions) x ≡ Ok tt
  passes past s c x rest e same =
      let all : StmtsPass (env_of p.program s.top.function) (functions_by_name p.program.functions) (x ∷ rest) = subst (StmtsPass (env_of p.program s.top.function) (functions_by_name p.program.functions)) e (stands p accepted input past s c).top.rest in
      subst (λ (g : Function). check.statement (env_of p.program g) (functions_by_name p.program.functions) x ≡ Ok tt) same all.0

  abbrev own : ℕ → Scope
  own serial = record { declared = registers_of f; locals = f.locals; serial = serial }

  own_scope : (c : Control) → c.function ≡ f → scope_of c ≡ own c.serial
  own_scope c same = ap (λ (g : Function). record { declared = registers_of g; locals = g.locals; serial = c.serial }) same

  pub sound : IsSound p input f (FitsRows FitsSymbol (length (f.params ++ f.registers) ∷ [])) (rows_below symbol_below) (symbol_steps (body_of p f)) (standing p f arguments)
  sound = record {
    earlier = λ serial past es known. record { begins = before (BeginsWith serial arguments) past es known.begins; typed = before HasTyped past es known.typed };
    rises = λ a b past c w g h e r. record { typed = r.typed; stands = row_above p.mode f arguments c.serial (registers_of f) a b w.registers (g.0 ∙ sym h.0) e r.stands };
    enters = λ past serial others m caller takes b bs w named be made memory known kindly.
        let same : others ≡ arguments = known.begins.0 refl in
        let registers : w.registers ≡ registers_made f arguments = made ∙ ap (registers_made f) same in
        let typed : registers_typed (registers_of f) (registers_made f arguments) ≡ true = subst (λ vs. registers_typed (registers_of f) vs ≡ true) registers kindly in
        record {
          typed = subst (λ vs. registers_typed f.params vs ≡ true) same known.typed.0;
          stands = subst (λ vs. RowStands p.mode f arguments serial (registers_of f) (first_symbols (length f.params) 0 (registers_of f)) vs) (sym registers) (entry_stands p.mode f arguments serial typed);
        };
    statement = λ past s x xs w a comes same e uncalled did known kindly g h.
        with_typed p f arguments s.top.serial (changed a (change_of (body_of p f) a x)) w.registers h.typed
        (statement_done p f arguments s.top.serial s.world a h.stands (functions_by_name p.program.functions) x w (passes past s comes x xs e same) (subst (λ scope. act (setting_of p) scope x s.world ≡ Ok w) (own_scope s.top same) did));
    calls = λ past s x xs c t a comes same e is did known g h.
        record {
          typed = h.typed;
          stands = λ v. subst (λ scope. ReachedWith (λ row. RowStands p.mode f arguments s.top.serial (registers_of f) row (given s.world.registers (taking scope c.to) v)) (changed a (change_of (body_of p f) a x))) (sym (own_scope s.top same))
              (call_done p f arguments s.top.serial s.world a h.stands x c v is);
        };
    others = λ past s c registers takes y comes known h. in_did_always _ (λ t. h) (step p s);
    back = λ past s c registers v y comes same e x known kindly h. with_typed p f arguments c.serial y (given registers s.top.takes v) h.typed (h.stands v);
    jumps = λ past s label k b a comes same e t be known g h. let to = branch_to p.program.globals s.top.end s label t in (to.0, to.1, h);
  }

  -- of operands
  pub operands : (c : Control) (w : World) (row : List Symbol) → c.function ≡ f → RowStands p.mode f arguments c.serial (registers_of f) row w.registers → OperandsStand p f arguments c w row
  operands c w row same h x =
      subst (λ scope. Stands p.mode f arguments c.serial (operand_symbol (body_of p f) row x) (value_of p.program.globals scope w.registers x)) (sym (own_scope c same))
      (operand_stands p.mode f arguments c.serial (body_of p f) (own c.serial) row w.registers refl refl refl h x)

  each_operand : (c : Control) (w : World) (y : Lifted (List Symbol)) → c.function ≡ f → ReachedWith (λ row. Holds p f arguments c.serial row w.registers) y → ReachedWith (OperandsStand p f arguments c w) y
  each_operand c w NotReached same h = h
  each_operand c w (Reached row) same h = operands c w row same h.stands

-- ---- with which arguments an activation began

-- they are known, and there are no others
pub record HasBegun (serial : ℕ) (past : List Event) : Type 0 where
  pub arguments : List Value
  pub are : arguments_of serial past ≡ Some arguments
  pub known : IsGivenTo serial arguments past

abbrev Among : ℕ → List ℕ → Type 0
Among n [] = ⊥
Among n (m ∷ ns) = (n ≡ m) ⊎ Among n ns

abbrev IsKnown : ℕ → List Event → Type 0
IsKnown n past = (arguments : List Value) × (arguments_of n past ≡ Some arguments)

known_by : (n s : ℕ) (given : List Value) (past : List Event) (b : Bool) → (s == n) ≡ b → (b ≡ false → IsKnown n past) → (arguments : List Value) × (cond b (Some given) (arguments_of n past) ≡ Some arguments)
known_by n s given past true e h = (given, refl)
known_by n s given past false e h = h refl

live_known : (past : List Event) (ns : List ℕ) (n : ℕ) → AreLive past ns → Among n ns → IsKnown n past
live_known [] ns n l a = absurd (subst (Among n) l a)
live_known (Entry s g given m caller ∷ past) [] n l a = absurd a
live_known (Entry s g given m caller ∷ past) (k ∷ ns) n l a = known_by n s given past (s == n) refl (λ d. elim a [
  | inl same ↦ absurd (let t : (s == n) ≡ true = eq-eqb s n (sym (same ∙ l.0)) in let u : true ≡ false = sym t ∙ d in cc)
  | inr more ↦ live_known past ns n l.1 more
])
live_known (At c w ∷ past) ns n l a = live_known past ns n l a
live_known (Load c scalar object offset v ∷ past) ns n l a = live_known past ns n l a
live_known (Store c scalar object offset v ∷ past) ns n l a = live_known past ns n l a
live_known (Leave s ∷ past) ns n l a = live_known past (s ∷ ns) n l (inr a)

older_begins : (n : ℕ) (arguments : List Value) (past : List Event) → AllByRecursion (IsOlder n) past → AllByRecursion (BeginsWith n arguments) past
older_begins n arguments [] h = tt
older_begins n arguments (Entry s g given m caller ∷ past) h = ((λ e. absurd (let l = h.0 in omega (arith, l, e))), older_begins n arguments past h.1)
older_begins n arguments (At c w ∷ past) h = (tt, older_begins n arguments past h.1)
older_begins n arguments (Load c scalar object offset v ∷ past) h = (tt, older_begins n arguments past h.1)
older_begins n arguments (Store c scalar object offset v ∷ past) h = (tt, older_begins n arguments past h.1)
older_begins n arguments (Leave s ∷ past) h = (tt, older_begins n arguments past h.1)

begin_by : (n s : ℕ) (arguments given : List Value) (past : List Event) (b : Bool) → (s == n) ≡ b → AllByRecursion (IsOlder s) past → (arguments_of n past ≡ Some arguments → AllByRecursion (BeginsWith n arguments) past) → cond b (Some given) (arguments_of n past) ≡ Some arguments →
    (s ≡ n → given ≡ arguments) × AllByRecursion (BeginsWith n arguments) past
begin_by n s arguments given past true d h rest e = ((λ same. cc), older_begins n arguments past (subst (λ k. AllByRecursion (IsOlder k) past) (eqb-true s n d) h))
begin_by n s arguments given past false d h rest e = ((λ same. absurd (let t : (s == n) ≡ true = eq-eqb s n same in let u : true ≡ false = sym t ∙ d in cc)), rest e)

all_begin : (n : ℕ) (arguments : List Value) (past : List Event) → EachBefore EntryIsNew past → arguments_of n past ≡ Some arguments → AllByRecursion (BeginsWith n arguments) past
all_begin n arguments [] h e = tt
all_begin n arguments (Entry s g given m caller ∷ past) h e = begin_by n s arguments given past (s == n) refl h.0 (λ d. all_begin n arguments past h.1 d) e
all_begin n arguments (At c w ∷ past) h e = (tt, all_begin n arguments past h.1 e)
all_begin n arguments (Load c scalar object offset v ∷ past) h e = (tt, all_begin n arguments past h.1 e)
all_begin n arguments (Store c scalar object offset v ∷ past) h e = (tt, all_begin n arguments past h.1 e)
all_begin n arguments (Leave s ∷ past) h e = (tt, all_begin n arguments past h.1 e)

all_typed : (past : List Event) → EachBefore (λ past e. EventTyped e) past → AllByRecursion HasTyped past
all_typed [] h = tt
all_typed (Entry s g given m caller ∷ past) h = (h.0.0, all_typed past h.1)
all_typed (At c w ∷ past) h = (tt, all_typed past h.1)
all_typed (Load c scalar object offset v ∷ past) h = (tt, all_typed past h.1)
all_typed (Store c scalar object offset v ∷ past) h = (tt, all_typed past h.1)
all_typed (Leave s ∷ past) h = (tt, all_typed past h.1)

pub has_begun : (p : Sealed) (input : List ℤ) → first_fault p.program ≡ None → list_all (in_scalar I64) input ≡ true → (past : List Event) (s : State) → Comes p input past s → HasBegun s.top.serial past
has_begun p input accepted numbers past s c =
    let known : IsKnown s.top.serial past = live_known past (serials s) s.top.serial (live_serials p input past s c) (inl refl) in
    record {
      arguments = known.0;
      are = known.1;
      known = record {
        begins = all_begin s.top.serial known.0 past (each_before p EntryIsNew input (λ n. entries_are_new p input n) past s c) known.1;
        typed = all_typed past (each_before p (λ past e. EventTyped e) input (λ n. events_are_typed p accepted input numbers n) past s c);
      };
    }

abbrev BegunClaim : List Event → Event → Type 0
BegunClaim past (Entry s g arguments m caller) = Unit {0}
BegunClaim past (At c w) = HasBegun c.serial past
BegunClaim past (Load c scalar object offset v) = Unit {0}
BegunClaim past (Store c scalar object offset v) = Unit {0}
BegunClaim past (Leave s) = Unit {0}

quiet : IsQuiet BegunClaim
quiet past (Entry s g arguments m caller) q = tt
quiet past (At c w) q = absurd q
quiet past (Load c scalar object offset v) q = tt
quiet past (Store c scalar object offset v) q = tt
quiet past (Leave s) q = tt

-- ---- both

each_both : {A : Type 0} (Q : A → List Event → Event → Type 0) (R S : List Event → Event → Type 0) → ((past : List Event) (e : Event) → ((a : A) → Q a past e) → R past e → S past e) → (past es : List Event) → ((a : A) → EachAfter (Q a) past es) → EachAfter R past es → EachAfter S past es
each_both Q R S go past [] q r = tt
each_both Q R S go past (e ∷ es) q r = (go past e (λ a. (q a).0) r.0, each_both Q R S go (e ∷ past) es (λ a. (q a).1) r.1)

module _ (p : Sealed) (f : Function) (xs : List (Lifted (List Symbol))) (accepted : first_fault p.program ≡ None) (solves : SolvesSymbols p f xs) where
  abbrev Points : List Value → List Event → Event → Type 0
  Points arguments = PointClaim f (symbol_steps (body_of p f)) (standing p f arguments) xs

  claim_by : (c : Control) (w : World) (past : List Event) → ((arguments : List Value) → Points arguments past (At c w)) → HasBegun c.serial past → c.function ≡ f → (o : Option (List Value)) → arguments_of c.serial past ≡ o →
      IsSomeAnd o (λ arguments. ReachedWith (OperandsStand p f arguments c w) (point_value (symbol_steps (body_of p f)) f.blocks xs c.block c.index))
  claim_by c w past q r same None e = let t : None ≡ Some r.arguments = sym e ∙ r.are in cc
  claim_by c w past q r same (Some arguments) e =
      let is : r.arguments ≡ arguments = (let t : Some r.arguments ≡ Some arguments = sym r.are ∙ e in cc) in
      each_operand p accepted [] f arguments c w _ same (q arguments same (subst (λ (given : List Value). IsGivenTo c.serial given past) is r.known))

  one : (past : List Event) (e : Event) → ((arguments : List Value) → Points arguments past e) → BegunClaim past e → SymbolsClaim p f xs past e
  one past (Entry s g arguments m caller) q r = tt
  one past (At c w) q r = λ same. claim_by c w past q r same (arguments_of c.serial past) refl
  one past (Load c scalar object offset v) q r = tt
  one past (Store c scalar object offset v) q r = tt
  one past (Leave s) q r = tt

pub symbols_hold : SymbolsHold
symbols_hold p f xs accepted solves input numbers turns =
    each_both (Points p f xs accepted solves) BegunClaim (SymbolsClaim p f xs) (one p f xs accepted solves) [] (Trace p input turns)
    (λ arguments. solutions_hold p f (FitsRows FitsSymbol) (rows_below symbol_below) (length (f.params ++ f.registers) ∷ []) (symbol_steps (body_of p f)) (symbol_steps_laws (body_of p f)) (standing p f arguments) xs solves accepted
    (λ input numbers. sound p accepted input f arguments) input numbers turns)
    (in_run p BegunClaim input (λ s e. tt) (points_each p BegunClaim input quiet (λ past s c. has_begun p input accepted numbers past s c)) turns)
