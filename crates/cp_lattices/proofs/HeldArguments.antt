-- A call by name that is reached gives its arguments to the formals of the function that it enters, and what it gives holds them.
use Rattle.std.proofs.Common.{◌≡◌, ℕ, zero, suc, ◌+◌, ◌<◌, ℤ, pos, Bool, true, false, cond, List, [], ◌∷◌, ◌++◌, map, length, refl, sym, ◌∙◌, ap, subst, arith, Option, Some, None, Ok, option_map, slice_get, slice_index_or, unwrap_or}
use Rattle.std.specs.List.{AllByRecursion, list_all}
use Rattle.std.specs.Ordering.{int_eq}
use Rattle.std.proofs.lemmas.Option.{slice_get-map}
use Rattle.gimple_ir.specs.declared.options.Passes.{Passes}
use Rattle.gimple_ir.specs.declared.scalar.Mode.{Mode}
use Rattle.gimple_ir.specs.declared.scalar.Scalar.{Scalar}
use Rattle.gimple_ir.specs.declared.scalar.Scalar.TheVariants.{I64}
use Rattle.gimple_ir.specs.declared.declarations.Register.{Register}
use Rattle.gimple_ir.specs.declared.operand.Operand.{Operand}
use Rattle.gimple_ir.specs.declared.value.Value.{Value}
use Rattle.gimple_ir.specs.declared.program.Function.{Function}
use Rattle.gimple_ir.specs.declared.statement.Stmt.{Stmt}
use Rattle.gimple_ir.specs.declared.statement.Stmt.TheVariants.{Call}
use Rattle.gimple_core.specs.Accepted.{first_fault}
use Rattle.gimple_core.specs.Env.{Env}
use Rattle.gimple_core.specs.Operators.{in_scalar}
use Rattle.gimple_core.specs.Run.{function_named, value_of}
use Rattle.gimple_core.specs.Sealed.{Sealed}
use Rattle.gimple_core.specs.State.{State, scope_of, zero_of, is_of}
use Rattle.gimple_core.specs.Statements as check
use Rattle.gimple_core.specs.Trace.{Event}
use Rattle.gimple_core.proofs.Passed.{first_passed}
use Rattle.gimple_claims.specs.Checks.{env_of}
use Rattle.gimple_claims.specs.Bodies.{FactsClaim, Meets}
use Rattle.gimple_claims.specs.Typed.{registers_typed}
use Rattle.gimple_claims.proofs.Comes.{Comes}
use Rattle.gimple_claims.proofs.OneRun.{each_before}
use Rattle.gimple_claims.proofs.Points.{meets_of}
use Rattle.gimple_claims.proofs.Typed.{values_are_typed}
use Rattle.value_domain.specs.declared.abs_val.AbsVal.{AbsVal}
use Rattle.value_domain.specs.Holding.{Holds}
use Rattle.value_domain.specs.Thresholds.{IsLawful, thresholds_list}
use Rattle.value_domain.specs.Values.{FitsWith, none_val}
use Rattle.value_domain.proofs.AboveLaws.{above_holds}
use Rattle.value_domain.proofs.LawfulLemmas.{list_lawful}
use Rattle.value_domain.proofs.WholeLemmas.{none_good}
use Rattle.body_symbols.specs.declared.symbol.Symbol.{Symbol}
use Rattle.body_symbols.specs.declared.symbol.Symbol.TheVariants.{Const, Formal, FormalOp, FormalAt, VariableAt, Unknown}
use Rattle.body_symbols.specs.declared.jumps.JumpFn.{JumpFn}
use Rattle.body_symbols.specs.declared.jumps.JumpFn.TheVariants.{Pass, Ancestor}
use Rattle.body_symbols.specs.Bodies.{body_of as symbols_of, operand_symbol}
use Rattle.body_symbols.specs.Claims.{formal_scalar, argument_of}
use Rattle.body_symbols.specs.Found.{Found, AreSymbols, found_symbol}
use Rattle.body_symbols.specs.Jumps.{jump_of, jump_or, statement_of, block_of, statement_at, arguments_in, arguments_or, jumps_at, jumps_in}
use Rattle.body_symbols.proofs.FoundHolding.{there_by}
use Rattle.body_symbols.proofs.Holding.{HasBegun, has_begun}
use Rattle.body_symbols.proofs.Jumping.{get_typed, At_, symbol_there, argument_stands}
use Rattle.body_symbols.proofs.Standing.{IsFormal, KeepsScalar}
use Rattle.body_symbols.proofs.Statements.{keeps}
use Rattle.body_values.specs.Bodies.{operand_value}
use Rattle.body_values.specs.Claims.{given_of, FormalsMeet, Analysed}
use Rattle.body_values.specs.Rising.{operand_rises, self}
use Rattle.body_values.specs.System.{FactsFit, loads_fit}
use Rattle.body_values.specs.TopFacts.{top_value, top_facts}
use Rattle.body_values.proofs.Operands.{operand_holds}
use Rattle.body_values.proofs.Points.{IsAt, is_at}
use Rattle.body_values.proofs.TopFit.{are_top}
use Rattle.body_values.proofs.TopMet.{top_facts_hold}
use Rattle.cp_lattices.specs.declared.gift.Gift.{Gift}
use Rattle.cp_lattices.specs.Carried.{Making}
use Rattle.cp_lattices.specs.Claims.{IsGood, IsSource, SourceHolds}
use Rattle.cp_lattices.specs.Gifts.{Bodies, AreBodies, IsGift, top_body}
use Rattle.cp_lattices.specs.Lattices.{row_value, source_value, gift_value, making_of, IsSolution}
use Rattle.cp_lattices.proofs.Entering.{EntryHas, top_entered, entry_has}
use Rattle.cp_lattices.proofs.HoldLaws.{given_holds, given_is_good}
use Rattle.cp_lattices.proofs.OwnNumbers.{place_named, register_at, meets_at}

-- ---- what a jump function speaks of

module _ (mode : Mode) (f : Function) (arguments : List Value) (serial : ℕ) (rows : List (List AbsVal)) (k : ℕ) (typed : registers_typed f.params arguments ≡ true) (count : length (slice_index_or rows k []) ≡ length f.params) (meets : FormalsMeet f.params (slice_index_or rows k []) arguments 0) where
  is_source : (scalar : Scalar) (i : ℕ) → IsFormal mode f arguments serial scalar i → IsSource scalar f arguments i (row_value rows k i)
  is_source scalar i h = record {
    scalar_is = h.scalar_is;
    of = subst (λ t. is_of t (argument_of f arguments i) ≡ true) h.scalar_is (get_typed f.params arguments i typed);
    holds = subst (λ n. Holds (unwrap_or (slice_get arguments n) (zero_of (formal_scalar f i))) (row_value rows k i)) (omega arith) (meets_at f.params (slice_index_or rows k []) arguments 0 i count h.within meets);
  }

  ancestor_source : (scalar : Scalar) (i : ℕ) (o : ℤ) (b : Bool) → IsFormal mode f arguments serial scalar i → in_scalar I64 o ≡ true →
      SourceHolds scalar f arguments (cond b (Pass i None (pos 0)) (Ancestor i o)) (source_value rows k (cond b (Pass i None (pos 0)) (Ancestor i o)))
  ancestor_source scalar i o true h inside = is_source scalar i h
  ancestor_source scalar i o false h inside = (is_source scalar i h, inside)

  source_holds : (scalar : Scalar) (a : Symbol) → KeepsScalar mode f arguments serial scalar a → SourceHolds scalar f arguments (jump_of a) (source_value rows k (jump_of a))
  source_holds scalar (Const c) h = tt
  source_holds scalar (Formal i) h = is_source scalar i h
  source_holds scalar (FormalOp i op z) h = is_source scalar i h
  source_holds scalar (FormalAt i None) h = tt
  source_holds scalar (FormalAt i (Some o)) h = ancestor_source scalar i o (int_eq o (pos 0)) h.0 h.1
  source_holds scalar (VariableAt x None) h = tt
  source_holds scalar (VariableAt x (Some o)) h = tt
  source_holds scalar Unknown h = tt

  module _ (P : AbsVal → Type 0) (none : P none_val) (each : (i : ℕ) → i < length f.params → P (row_value rows k i)) where
    ancestor_has : (i : ℕ) (o : ℤ) (b : Bool) → i < length f.params → P (source_value rows k (cond b (Pass i None (pos 0)) (Ancestor i o)))
    ancestor_has i o true l = each i l
    ancestor_has i o false l = each i l

    source_has : (scalar : Scalar) (a : Symbol) → KeepsScalar mode f arguments serial scalar a → P (source_value rows k (jump_of a))
    source_has scalar (Const c) h = none
    source_has scalar (Formal i) h = each i h.within
    source_has scalar (FormalOp i op z) h = each i h.within
    source_has scalar (FormalAt i None) h = none
    source_has scalar (FormalAt i (Some o)) h = ancestor_has i o (int_eq o (pos 0)) h.0.within
    source_has scalar (VariableAt x None) h = none
    source_has scalar (VariableAt x (Some o)) h = none
    source_has scalar Unknown h = none

-- ---- arguments

-- an argument that passes for a formal
pub record IsArgument (env : Env) (r : Register) (xs : List Operand) (j : ℕ) : Type 0 where
  pub operand : Operand
  pub given : slice_get xs j ≡ Some operand
  pub passes : check.operand env 6 r.scalar operand ≡ Ok tt

pub argument_at : (env : Env) (rs : List Register) (xs : List Operand) (j : ℕ) (r : Register) → length xs ≡ length (check.scalars_of rs) → check.arguments env (check.scalars_of rs) xs ≡ Ok tt → slice_get rs j ≡ Some r → IsArgument env r xs j
unfolding check.arguments
argument_at env [] xs j r l h e = cc
argument_at env (y ∷ rs) [] j r l h e = absurd (omega (arith, l))
argument_at env (y ∷ rs) (x ∷ xs) zero r l h e =
    let a = first_passed (check.operand env 6 y.scalar x) _ tt h in
    let same : y ≡ r = cc in
    record { operand = x; given = refl; passes = subst (λ (z : Register). check.operand env 6 z.scalar x ≡ Ok tt) same a.1 }
argument_at env (y ∷ rs) (x ∷ xs) (suc j) r l h e =
    let a = first_passed (check.operand env 6 y.scalar x) _ tt h in
    let more = argument_at env rs xs j r (omega (arith, l)) a.2 e in
    record { operand = more.operand; given = more.given; passes = more.passes }

pub value_given : (globals : _) (scope : _) (values : List Value) (xs : List Operand) (j : ℕ) (x : Operand) (d : Value) → slice_get xs j ≡ Some x → unwrap_or (slice_get (map (value_of globals scope values) xs) (0 + j)) d ≡ value_of globals scope values x
value_given globals scope values xs j x d e =
    let at : 0 + j ≡ j = omega arith in
    ap (λ o. unwrap_or o d) (ap (slice_get (map (value_of globals scope values) xs)) at ∙ (slice_get-map (value_of globals scope values) xs j ∙ ap (option_map (value_of globals scope values)) e))

at_seam : (ys : List Stmt) (x : Stmt) (xs : List Stmt) → slice_get (ys ++ x ∷ xs) (length ys) ≡ Some x
at_seam [] x xs = refl
at_seam (y ∷ ys) x xs = at_seam ys x xs

-- ---- a call by name

module _ (p : Sealed) (passes : Passes) (most : ℕ) (rows : List (List AbsVal)) (bodies : Bodies) (accepted : first_fault p.program ≡ None) (known : AreBodies p most bodies) (solves : IsSolution p passes most bodies rows) (input : List ℤ) (numbers : list_all (in_scalar I64) input ≡ true) where
  -- the arguments are in the values of the function's formals
  abbrev pub IsMet : Function → List Value → Type 0
  IsMet g arguments = (n : ℕ) → slice_get p.program.functions n ≡ Some g → FormalsMeet g.params (slice_index_or rows n []) arguments 0

  law : IsLawful (thresholds_list p.program)
  law = list_lawful p.program

  abbrev making : Making
  making = making_of p most

  fits_top : (f : Function) → FactsFit f (top_facts f) most (thresholds_list p.program)
  fits_top f = are_top f (map top_value f.params) [] refl refl most (thresholds_list p.program) law

  analysed : (k : ℕ) (f : Function) → slice_get p.program.functions k ≡ Some f → Analysed p k f (top_facts f) most (thresholds_list p.program) (slice_index_or bodies.begins k [])
  analysed k f there = record { accepted = accepted; lawful = law; fit = fits_top f; solves = (known.values k f there).solves }

  module _ (past : List Event) (s : State) (comes : Comes p input past s) (met : AllByRecursion (EntryHas IsMet) past) where
    abbrev f : Function
    f = s.top.function

    begun : HasBegun s.top.serial past
    begun = has_begun p input accepted numbers past s comes

    top_met : IsMet s.top.function begun.arguments
    top_met = entry_has IsMet s.top.function s.top.serial begun.arguments past (top_entered p input past s comes) begun.known.begins met

    module _ (k : ℕ) (there : slice_get p.program.functions k ≡ Some s.top.function) where
      top_meets : Meets s.top.function (given_of k s.top.function (top_facts s.top.function)) s.top.serial past
      top_meets =
          meets_of s.top.function (given_of k s.top.function (top_facts s.top.function)) s.top.serial past
          (each_before p (FactsClaim s.top.function (given_of k s.top.function (top_facts s.top.function))) input (λ turns. top_facts_hold p k s.top.function accepted input numbers turns) past s comes)

      at_values : IsAt p k s.top.function (top_facts s.top.function) most (thresholds_list p.program) (slice_index_or bodies.begins k []) (analysed k s.top.function there) input numbers s
      at_values = is_at p k s.top.function (top_facts s.top.function) most (thresholds_list p.program) (slice_index_or bodies.begins k []) (analysed k s.top.function there) input numbers past s comes refl top_meets

      -- by the symbols of the function, of an operand that passes for a formal
      module _ (t : Found) (table : slice_get bodies.symbols k ≡ Some t) (found : AreSymbols p k s.top.function t) (x : Operand) (r : Register) (checked : check.operand (env_of p.program s.top.function) 6 r.scalar x ≡ Ok tt) where
        at_symbols : At_ p k s.top.function t accepted there found input numbers past s begun.arguments
        at_symbols = there_by p k s.top.function t accepted found input numbers past s comes refl begun

        abbrev jump : JumpFn
        jump = jump_or (found_symbol p.program.globals s.top.function.locals t (record { function = k; block = s.top.block; index = s.top.index }) x)

        abbrev local : AbsVal
        local = operand_value (top_body p k s.top.function most) at_values.row r.scalar x

        abbrev value : Value
        value = value_of p.program.globals (scope_of s.top) s.world.registers x

        abbrev symbol : Symbol
        symbol = operand_symbol (symbols_of p s.top.function) at_symbols.value x

        symbol_is : jump ≡ jump_of symbol
        symbol_is = symbol_there p k s.top.function t accepted there found input numbers past s begun.arguments at_symbols x

        symbol_keeps : KeepsScalar p.mode s.top.function begun.arguments s.top.serial r.scalar symbol
        symbol_keeps = keeps p s.top.function begun.arguments s.top.serial s.world at_symbols.value at_symbols.says.stands 6 r.scalar x checked

        count : length (slice_index_or rows k []) ≡ length s.top.function.params
        count = solves.are_rows.counts k s.top.function there

        source : SourceHolds r.scalar s.top.function begun.arguments jump (source_value rows k jump)
        source =
            subst (λ j. SourceHolds r.scalar s.top.function begun.arguments j (source_value rows k j)) (sym symbol_is)
            (source_holds p.mode s.top.function begun.arguments s.top.serial rows k at_symbols.says.typed count (top_met k there) r.scalar symbol symbol_keeps)

        source_fits : FitsWith most (thresholds_list p.program) (source_value rows k jump)
        source_fits =
            subst (λ j. FitsWith most (thresholds_list p.program) (source_value rows k j)) (sym symbol_is)
            (source_has p.mode s.top.function begun.arguments s.top.serial rows k at_symbols.says.typed count (top_met k there) (FitsWith most (thresholds_list p.program)) (none_good most (thresholds_list p.program) r.scalar).0
            (λ i l. let q = register_at s.top.function.params i l in (solves.good k i s.top.function q.0 (record { own = there; declared = q.1 })).fits) r.scalar symbol symbol_keeps)

        local_good : IsGood making r.scalar local
        local_good =
            let loads = loads_fit p k s.top.function (top_facts s.top.function) most (thresholds_list p.program) (fits_top s.top.function) in
            let g = operand_rises (top_body p k s.top.function most) law at_values.row at_values.row (self (top_body p k s.top.function most) law loads at_values.row at_values.fits) r.scalar x in
            record { fits = g.lower.0; of = g.lower.1 }

        given_fits : FitsWith most (thresholds_list p.program) (gift_value making passes rows (record { caller = k; callee = 0; formal = 0; scalar = r.scalar; jump = jump; local = local }))
        given_fits = (given_is_good making law passes r.scalar jump local (source_value rows k jump) local_good source_fits).fits

        held : Holds value (gift_value making passes rows (record { caller = k; callee = 0; formal = 0; scalar = r.scalar; jump = jump; local = local }))
        held =
            let typed = (values_are_typed p accepted input numbers past s comes).top in
            let stays = operand_holds p k s.top.function (top_facts s.top.function) most (thresholds_list p.program) law s.top.serial s.world.registers at_values.row typed at_values.fits at_values.holds 6 r.scalar x checked in
            given_holds making law passes r.scalar s.top.function begun.arguments s.top.serial jump local (source_value rows k jump) value local_good source_fits source stays.typed
            (argument_stands p k s.top.function t accepted there found input numbers past s begun.arguments refl at_symbols x) stays.holds

        -- given to a formal of a function that is called by name
        module _ (to : Option (List ℕ)) (name : List ℕ) (xs : List Operand) (rest : List Stmt) (at : s.top.rest ≡ Call to name xs ∷ rest) (g : Function) (n j : ℕ) (named : function_named name p.program.functions ≡ Some g) (its : slice_get p.program.functions n ≡ Some g) (declared : slice_get g.params j ≡ Some r) (given : slice_get xs j ≡ Some x) where
          abbrev gift : Gift
          gift = record { caller = k; callee = n; formal = j; scalar = r.scalar; jump = jump; local = local }

          stands_there : slice_get at_values.block.body s.top.index ≡ Some (Call to name xs)
          stands_there =
              ap (λ ys. slice_get ys s.top.index) (at_values.body ∙ ap (λ ys. at_values.done ++ ys) at)
              ∙ (ap (slice_get (at_values.done ++ Call to name xs ∷ rest)) (sym at_values.index) ∙ at_seam at_values.done (Call to name xs) rest)

          arguments_there : arguments_in (statement_at p.program (record { function = k; block = s.top.block; index = s.top.index })) ≡ Some xs
          arguments_there = ap (λ o. arguments_in (statement_of (block_of o s.top.block) s.top.index)) there ∙ (ap (λ o. arguments_in (statement_of o s.top.index)) at_values.found ∙ ap arguments_in stands_there)

          jump_there : slice_get (jumps_in p.program p.program.globals s.top.function.locals t (record { function = k; block = s.top.block; index = s.top.index })) j ≡ Some jump
          jump_there =
              ap (λ o. slice_get (jumps_at p.program.globals s.top.function.locals t (record { function = k; block = s.top.block; index = s.top.index }) (arguments_or o)) j) arguments_there
              ∙ (slice_get-map (λ y. jump_or (found_symbol p.program.globals s.top.function.locals t (record { function = k; block = s.top.block; index = s.top.index }) y)) xs j
              ∙ ap (option_map (λ y. jump_or (found_symbol p.program.globals s.top.function.locals t (record { function = k; block = s.top.block; index = s.top.index }) y))) given)

          is_gift : IsGift p most bodies gift
          is_gift = record {
            caller = s.top.function;
            own = there;
            symbols = t;
            known = table;
            number = s.top.block;
            block = at_values.block;
            there = at_values.found;
            index = s.top.index;
            to = to;
            name = name;
            arguments = xs;
            call = stands_there;
            row = at_values.row;
            reached = at_values.reached;
            callee = g;
            named = place_named p.program accepted name g n named its;
            called = its;
            formal = r;
            declared = declared;
            scalar = refl;
            argument = x;
            given = given;
            jump = jump_there;
            local = refl;
          }

          pub named_holds : Holds (value_of p.program.globals (scope_of s.top) s.world.registers x) (row_value rows n j)
          named_holds = above_holds most (thresholds_list p.program) (gift_value making passes rows gift) (row_value rows n j) given_fits (solves.gifts gift is_gift) value held
