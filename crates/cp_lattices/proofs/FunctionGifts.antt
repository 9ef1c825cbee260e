-- What the code has of a function whose calls give, and the gifts of one function after another.
use Rattle.std.proofs.Common.{◌≡◌, ℕ, zero, suc, ◌+◌, ◌<◌, ◌^◌, inl, inr, ℤ, List, [], ◌∷◌, ◌++◌, take, map, length, length-append, Some, None, IsSomeAnd, refl, sym, ◌∙◌, ap, subst, arith, slice_get}
use Rattle.std.specs.Prelude.{Contains, slice_index_or}
use Rattle.std.specs.List.{All}
use Rattle.std.proofs.Math.Seq.{get_or-append_seam}
use Rattle.std.proofs.lemmas.Bool.{cases_lt}
use Rattle.std.proofs.lemmas.List.{get_or_append_left}
use Rattle.std.proofs.lemmas.List.Elements.{All-contains_itself}
use Rattle.std.proofs.lemmas.Option.{slice_get_within}
use Rattle.gimple_ir.specs.Counts.{IsCountable}
use Rattle.gimple_ir.specs.declared.declarations.Decl.{Decl}
use Rattle.gimple_ir.specs.declared.declarations.Global.{Global}
use Rattle.gimple_ir.specs.declared.declarations.Register.{Register}
use Rattle.gimple_ir.specs.declared.operand.Operand.{Operand}
use Rattle.gimple_ir.specs.declared.program.Function.{Function}
use Rattle.gimple_ir.specs.declared.program.Program.{Program}
use Rattle.gimple_ir.specs.declared.scalar.Scalar.{Scalar}
use Rattle.gimple_core.specs.Sealed.{Sealed}
use Rattle.fix_engine.specs.Rows.{FitsRows, rows_below}
use Rattle.fix_engine.specs.declared.lifted.Lifted.{Lifted}
use Rattle.fix_engine.specs.declared.lifted.Lifted.TheVariants.{Reached}
use Rattle.block_flow.proofs.Holding.{statements_fit}
use Rattle.block_flow.proofs.Solved.{value_fits}
use Rattle.block_flow.specs.Steps.{StepsLaws}
use Rattle.block_flow.specs.System.{AreFew, body_at, value_or, point_value}
use Rattle.value_domain.proofs.LawfulLemmas.{list_lawful}
use Rattle.value_domain.specs.Thresholds.{Limits, IsLawful, thresholds_list}
use Rattle.value_domain.specs.Values.{FitsAbsVal, abs_val_below, kind_of}
use Rattle.value_domain.specs.declared.abs_val.AbsVal.{AbsVal}
use Rattle.body_symbols.proofs.Parts.{is_numbered}
use Rattle.body_symbols.specs.Found.{Found as FoundSymbols}
use Rattle.body_symbols.specs.Tables.{AreTables}
use Rattle.body_values.proofs.FoundWhereLaws.{row_fits}
use Rattle.body_values.proofs.Settled.{fewer}
use Rattle.body_values.proofs.TopFit.{are_top}
use Rattle.body_values.specs.Bodies.{Body, operand_value}
use Rattle.body_values.specs.Flow.{given_load, entry_row, steps_in, AreValues, values_at}
use Rattle.body_values.specs.Found.{OfFunction, Found, AreFound, found_row}
use Rattle.body_values.specs.GivenLoads.{GivenLoads}
use Rattle.body_values.specs.Rising.{self, operand_rises}
use Rattle.body_values.specs.Rows.{RowFits, LiftedFits}
use Rattle.body_values.specs.Scenes.{body_in}
use Rattle.body_values.specs.Setting.{IsSceneBy}
use Rattle.body_values.specs.System.{FactsFit, loads_fit, entry_fits, file_from, steps_laws}
use Rattle.body_values.specs.TopFacts.{top_value, top_facts}
use Rattle.body_values.specs.declared.facts.Facts.{Facts}
use Rattle.body_values.specs.declared.scene.Scene.{Scene}
use Rattle.cp_lattices.proofs.GiftCounts.{gifts_count}
use Rattle.cp_lattices.proofs.GiftListLaws.{below_same, are_gifts}
use Rattle.cp_lattices.specs.Callers.{IsCaller, PointsFit}
use Rattle.cp_lattices.specs.Claims.{IsGood}
use Rattle.cp_lattices.specs.Gathered.{WereGathered}
use Rattle.cp_lattices.specs.GiftLists.{lists_below, Giver, function_gifts, giver_of, top_rows, own_gifts, gifts_below, AddsFunction, WereGatheredBelow}
use Rattle.cp_lattices.specs.Gifts.{Bodies, top_body, AreBodies, IsGift, AreGifts}
use Rattle.cp_lattices.specs.Lattices.{making_of}
use Rattle.cp_lattices.specs.declared.caller.Caller.{Caller}
use Rattle.cp_lattices.specs.declared.gift.Gift.{Gift}

-- ---- top facts

pub tops_fit : (p : Program) (f : Function) (most : ℕ) → FactsFit f (top_facts f) most (thresholds_list p)
tops_fit p f most = are_top f (map top_value f.params) [] refl refl most (thresholds_list p) (list_lawful p)

to_function : (P : Function → Type 0) (p : Program) (n : ℕ) (f : Function) → slice_get p.functions n ≡ Some f → P f → OfFunction p n P
to_function P p n f e h = subst (λ o. IsSomeAnd o P) (sym e) h

pub facts_fit : (p : Program) (n : ℕ) (f : Function) (facts : Facts) (most : ℕ) → slice_get p.functions n ≡ Some f → facts ≡ top_facts f → OfFunction p n (λ g. FactsFit g facts most (thresholds_list p))
facts_fit p n f facts most own e = to_function (λ g. FactsFit g facts most (thresholds_list p)) p n f own (subst (λ x. FactsFit f x most (thresholds_list p)) (sym e) (tops_fit p f most))

-- ---- what a function is gathered by

abbrev limits_of : Sealed → ℕ → Limits
limits_of p most = record { size = most; ends = thresholds_list p.program }

module _ (s : Scene) (p : Sealed) (most n : ℕ) (f : Function) (symbols : FoundSymbols) (t : Found) (slots : List Decl) (loads : GivenLoads) (by : IsSceneBy s p p.program.structs p.program.globals slots t.registers loads t.limits) (own_slots : slots ≡ f.locals)
    (no_loads : loads ≡ record { facts = []; function = n }) (own : slice_get p.program.functions n ≡ Some f) (countable : IsCountable p.program) (found : AreFound p n f (top_facts f) (limits_of p most) t) where
  registers_are : s.registers.now ≡ f.params ++ f.registers
  registers_are = by.registers ∙ found.registers

  limits_are : s.limits.now ≡ limits_of p most
  limits_are = by.thresholds ∙ found.made_with

  pub is_caller : (c : Caller) → c.scene ≡ s → c.tables.now.program ≡ p → c.function.now ≡ f → IsCaller c
  is_caller c scene tables function =
      let program : c.scene.program.now ≡ p = ap (λ (x : Scene). x.program.now) scene ∙ by.program in
      let globals : c.scene.globals.now ≡ p.program.globals = ap (λ (x : Scene). x.globals.now) scene ∙ by.named in
      let locals : c.scene.locals.now ≡ f.locals = ap (λ (x : Scene). x.locals.now) scene ∙ (by.own ∙ own_slots) in
      record {
        tables = tables ∙ sym program;
        globals = globals ∙ ap (λ (q : Sealed). q.program.globals) (sym program);
        locals = locals ∙ ap (λ (g : Function). g.locals) (sym function);
        few_globals = subst (λ (gs : List Global). length gs < 2 ^ 32) (sym globals) countable.globals;
        few_locals = subst (λ (ds : List Decl). length ds < 2 ^ 32) (sym locals) (is_numbered p.program n f own countable).locals;
        few_functions = subst (λ (q : Sealed). length q.program.functions < 2 ^ 32) (sym program) countable.functions;
        few_formals = λ m g e. (is_numbered p.program m g (ap (λ (q : Sealed). slice_get q.program.functions m) (sym program) ∙ e) countable).formals;
      }

  pub points_fit : PointsFit s t
  points_fit k i =
      subst (λ (rs : List Register). LiftedFits s.limits.now.size s.limits.now.ends (length rs) (found_row t.rows k i)) (sym registers_are)
      (subst (λ (l : Limits). LiftedFits l.size l.ends (length (f.params ++ f.registers)) (found_row t.rows k i)) (sym limits_are) (row_fits p n f (top_facts f) (limits_of p most) t (list_lawful p.program) (tops_fit p.program f most) found k i))

  body_is : body_in s ≡ top_body p n f most
  body_is = λ i. record {
    structs = by.known i;
    globals = by.named i;
    mode = (by.program i).mode;
    locals = (by.own ∙ own_slots) i;
    registers = registers_are i;
    most = (limits_are i).size;
    ends = (limits_are i).ends;
    loads = given_load ((by.given ∙ no_loads) i).facts ((by.given ∙ no_loads) i).function;
  }

  abbrev giver_by : Giver
  giver_by = record { program = s.program.now.program; number = n; function = f; symbols = symbols; body = body_in s }

  giver_is : giver_by ≡ giver_of p most n f symbols
  giver_is = λ i. record { program = (by.program i).program; number = n; function = f; symbols = symbols; body = body_is i }

  pub adds : (before after : List Gift) → after ≡ before ++ function_gifts giver_by (λ k i. found_row t.rows k i) → AddsFunction p most n symbols before after
  adds before after e = record {
    function = f;
    own = own;
    begins = found.begins;
    values = found.values;
    are = e ∙ (λ i. before ++ function_gifts (giver_is i) (λ k j. found.points k j i));
  }

pub few_blocks : (p : Program) (n : ℕ) (f : Function) → slice_get p.functions n ≡ Some f → IsCountable p → AreFew f.blocks 0
few_blocks p n f own countable = fewer f.blocks _ (is_numbered p n f own countable).few

-- ---- one function after another

module _ (p : Sealed) (most : ℕ) (symbols : List FoundSymbols) where
  abbrev Begins : Type 0
  Begins = List (List (Lifted (List AbsVal)))

  abbrev bodies_of : Begins → Bodies
  bodies_of begins = record { symbols = symbols; begins = begins }

  pub first_none : WereGatheredBelow p most symbols 0 []
  unfolding lists_below
  first_none = record { begins = []; one_each = refl; values = λ n f l e. absurd (omega (arith, l)); are = refl }

  pub none_missing : (k count : ℕ) → k < count → count ≡ length symbols → None ≡ slice_get symbols k → ⊥
  none_missing k count l e h = by symbols k (omega (arith, l, e)) h
    where
      by : (ss : List FoundSymbols) (k : ℕ) → k < length ss → None ≡ slice_get ss k → ⊥
      by [] k l h = omega (arith, l)
      by (s ∷ ss) zero l h = cc
      by (s ∷ ss) (suc k) l h = by ss k (omega (arith, l)) h

  same_function : (f g : Function) → Some f ≡ Some g → f ≡ g
  same_function f g e = cc

  module _ (n : ℕ) (now new : List Gift) (s : FoundSymbols) (known : slice_get symbols n ≡ Some s) (h : WereGatheredBelow p most symbols n now) (a : AddsFunction p most n s now new) where
    abbrev more : Begins
    more = h.begins ++ a.begins ∷ []

    last_is : slice_index_or more n [] ≡ a.begins
    last_is = ap (λ k. slice_index_or more k []) (sym h.one_each) ∙ get_or-append_seam h.begins a.begins [] []

    first_are : (k : ℕ) → k < n → slice_index_or more k [] ≡ slice_index_or h.begins k []
    first_are k l = get_or_append_left h.begins (a.begins ∷ []) [] k (let count = h.one_each in omega (arith, l, count))

    values_of : (m : ℕ) (f : Function) → m < n + 1 → slice_get p.program.functions m ≡ Some f → AreValues p m f (top_facts f) most (thresholds_list p.program) (slice_index_or more m [])
    values_of m f l e = elim (cases_lt m n) [
      | inl low ↦ subst (AreValues p m f (top_facts f) most (thresholds_list p.program)) (sym (first_are m low)) (h.values m f low e)
      | inr high ↦
          let same : n ≡ m = omega (arith, l, high) in
          let own : a.function ≡ f = same_function a.function f (sym a.own ∙ (ap (slice_get p.program.functions) same ∙ e)) in
          subst (AreValues p m f (top_facts f) most (thresholds_list p.program)) (sym (ap (λ k. slice_index_or more k []) (sym same) ∙ last_is))
          (subst (λ k. AreValues p k f (top_facts f) most (thresholds_list p.program) a.begins) same (subst (λ g. AreValues p n g (top_facts g) most (thresholds_list p.program) a.begins) own a.values))
    ]

    abbrev own_by : Begins → ℕ → List Gift
    own_by begins k = own_gifts p most k (slice_index_or begins k []) (slice_get p.program.functions k) (slice_get symbols k)

    own_is : own_by more n ≡ function_gifts (giver_of p most n a.function s) (top_rows p most n a.function a.begins)
    own_is = λ i. own_gifts p most n (last_is i) (a.own i) (known i)

    gifts_are : new ≡ gifts_below p most (bodies_of more) (n + 1)
    unfolding lists_below
    gifts_are =
        let next : suc n ≡ n + 1 = omega arith in
        let before : now ≡ lists_below n (own_by more) = h.are ∙ below_same (own_by h.begins) (own_by more) n (λ k l. ap (λ b. own_gifts p most k b (slice_get p.program.functions k) (slice_get symbols k)) (sym (first_are k l))) in
        a.are ∙ ((λ i. before i ++ sym own_is i) ∙ ap (λ k. lists_below k (own_by more)) next)

    pub next_function : WereGatheredBelow p most symbols (n + 1) new
    next_function = record {
      begins = more;
      one_each = length-append h.begins (a.begins ∷ []) ∙ (let count = h.one_each in omega (arith, count));
      values = values_of;
      are = gifts_are;
    }

-- ---- what is known where an argument stands is good

module _ (p : Sealed) (most n : ℕ) (f : Function) (begins : List (Lifted (List AbsVal))) (are : AreValues p n f (top_facts f) most (thresholds_list p.program) begins) where
  abbrev ends : List ℤ
  ends = thresholds_list p.program

  abbrev count : ℕ
  count = length (f.params ++ f.registers)

  law : IsLawful ends
  law = list_lawful p.program

  fit : FactsFit f (top_facts f) most ends
  fit = tops_fit p.program f most

  laws : StepsLaws (FitsRows FitsAbsVal) (rows_below abs_val_below) (count ∷ kind_of most ends) (steps_in p n f (top_facts f) most ends)
  laws = steps_laws (top_body p n f most) law (loads_fit p n f (top_facts f) most ends fit) (entry_row f (top_facts f).formals most ends) (entry_fits f (top_facts f) most ends law fit)

  values_fit : (k i : ℕ) → k < length f.blocks → LiftedFits most ends count (values_at (top_body p n f most) f.blocks begins k i)
  unfolding point_value
  values_fit k i l =
      let begin = value_fits (FitsRows FitsAbsVal) (rows_below abs_val_below) (count ∷ kind_of most ends) (steps_in p n f (top_facts f) most ends) f.blocks begins are.solves k l in
      file_from most ends count _ law
      (statements_fit (FitsRows FitsAbsVal) (rows_below abs_val_below) (count ∷ kind_of most ends) (steps_in p n f (top_facts f) most ends) laws k 0 (take i (body_at (slice_get f.blocks k))) (value_or (slice_get begins k)) begin)

  operand_good : (k i : ℕ) (row : List AbsVal) (scalar : Scalar) (x : Operand) → k < length f.blocks → values_at (top_body p n f most) f.blocks begins k i ≡ Reached row → IsGood (making_of p most) scalar (operand_value (top_body p n f most) row scalar x)
  operand_good k i row scalar x l e =
      let fits : RowFits most ends count row = subst (LiftedFits most ends count) e (values_fit k i l) in
      let B : Body = top_body p n f most in
      let g = (operand_rises B law row row (self B law (loads_fit p n f (top_facts f) most ends fit) row fits) scalar x).lower in
      record { fits = g.0; of = g.1 }

gift_good : (p : Sealed) (most : ℕ) (bodies : Bodies) (gift : Gift) → AreBodies p most bodies → IsGift p most bodies gift → IsGood (making_of p most) gift.scalar gift.local
gift_good p most bodies gift known w =
    subst (λ scalar. IsGood (making_of p most) scalar gift.local) (sym w.scalar)
    (subst (IsGood (making_of p most) w.formal.scalar) (sym w.local)
    (operand_good p most gift.caller w.caller (slice_index_or bodies.begins gift.caller []) (known.values gift.caller w.caller w.own) w.number w.index w.row w.formal.scalar w.argument (slice_get_within w.caller.blocks w.number w.block w.there) w.reached))

each_is : (P Q : Gift → Type 0) (gifts : List Gift) → ((gift : Gift) → Contains gifts gift → P gift) → ((gift : Gift) → P gift → Q gift) → All Q gifts
each_is P Q gifts each holds k d l = holds _ (each _ (All-contains_itself gifts k d l))

-- ---- all functions

pub were_gathered : (p : Sealed) (most : ℕ) (symbols : List FoundSymbols) (n : ℕ) (gifts : List Gift) → n ≡ length p.program.functions → AreTables p symbols → WereGatheredBelow p most symbols n gifts → WereGathered p most symbols gifts
were_gathered p most symbols n gifts e tables h =
    let bodies : Bodies = record { symbols = symbols; begins = h.begins } in
    let known : AreBodies p most bodies = record {
      symbols = tables;
      count = h.one_each ∙ e;
      values = λ m f own. h.values m f (subst (λ k. m < k) (sym e) (slice_get_within p.program.functions m f own)) own;
    } in
    let all : gifts ≡ gifts_below p most bodies (length p.program.functions) = h.are ∙ ap (gifts_below p most bodies) e in
    let are : AreGifts p most bodies gifts = are_gifts p most bodies gifts all in
    record {
      bodies = bodies;
      known = known;
      by = refl;
      are = are;
      good = each_is (IsGift p most bodies) (λ gift. IsGood (making_of p most) gift.scalar gift.local) gifts are.each (λ gift w. gift_good p most bodies gift known w);
      few = gifts_count p most bodies gifts all;
    }
