-- The least solution of the equations gives the least values of formals.
use Rattle.std.proofs.Common.{◌≡◌, ℕ, zero, suc, ◌+◌, ◌^◌, ◌<◌, Bool, true, false, cond, List, length, get_or, map, inl, refl, sym, ◌∙◌, ap, subst, arith, Option, Some, None, slice_get}
use Rattle.std.specs.List.{Contains}
use Rattle.std.proofs.lemmas.List.{get_or_default, length-map}
use Rattle.std.proofs.lemmas.Option.{slice_get_within, slice_get-get_or, get_or_from_slice_get}
use Rattle.gimple_ir.specs.declared.declarations.Register.{Register}
use Rattle.gimple_ir.specs.declared.options.Passes.{Passes}
use Rattle.gimple_ir.specs.declared.program.Function.{Function}
use Rattle.gimple_ir.specs.declared.scalar.Scalar.{Scalar}
use Rattle.gimple_core.specs.Reach.{IsAddressed}
use Rattle.gimple_core.specs.Sealed.{Sealed}
use Rattle.fix_engine.specs.Least.{FlowLaws, IsSolution as Solves, value_at}
use Rattle.value_domain.specs.declared.abs_val.AbsVal.{AbsVal}
use Rattle.value_domain.specs.AbsOperators.{top_of}
use Rattle.value_domain.specs.Holding.{IsOf}
use Rattle.value_domain.specs.Thresholds.{IsLawful, thresholds_list}
use Rattle.value_domain.specs.ValueLemmas.{abs_val_laws}
use Rattle.value_domain.specs.Values.{none_val, FitsWith, FitsAbsVal, abs_val_height, abs_val_rank, abs_val_below, abs_val_joined}
use Rattle.value_domain.proofs.KindLaws.{kind_thresholds}
use Rattle.value_domain.proofs.LawfulLemmas.{list_lawful}
use Rattle.value_domain.proofs.TopLaws.{top_fits}
use Rattle.body_symbols.specs.declared.jumps.JumpFn.{JumpFn}
use Rattle.body_symbols.specs.declared.jumps.JumpFn.TheVariants.{Unknown, Const, Pass, Ancestor, Address}
use Rattle.body_values.specs.Fitting.{fits_is, is_fitting}
use Rattle.cp_lattices.specs.declared.gift.Gift.{Gift}
use Rattle.cp_lattices.specs.declared.numbering.Node.{Node}
use Rattle.cp_lattices.specs.declared.numbering.Numbering.{Numbering}
use Rattle.cp_lattices.specs.Carried.{given}
use Rattle.cp_lattices.specs.Claims.{IsGood}
use Rattle.cp_lattices.specs.FormalEquations.{start_of, jump_source, source_of, target_of, flow_of, formal_equations, kind_in, AreLeast, IsLawfulFlow}
use Rattle.cp_lattices.specs.FormalLaws.{node_within, flow_laws}
use Rattle.cp_lattices.specs.FormalRows.{rows_from}
use Rattle.cp_lattices.specs.Gathered.{AreGood}
use Rattle.cp_lattices.specs.Gifts.{Bodies, IsGift, AreGifts}
use Rattle.cp_lattices.specs.Lattices.{row_value, source_value, gift_value, making_of, IsFormal, AreRows, IsSolution, IsLeastOf}
use Rattle.cp_lattices.specs.Numbered.{node_at, node_of, IsNode, IsNumbering}
use Rattle.cp_lattices.proofs.HoldLaws.{given_is_good, given_rises_all}
use Rattle.cp_lattices.proofs.JoinLaws.{join_of}
use Rattle.cp_lattices.proofs.LeastWithin.{least_within}
use Rattle.cp_lattices.proofs.NodeRows.{node_is, found_node, none_past, values_by, value_by, no_formal, value_there, made_rows, made_value}
use Rattle.cp_lattices.proofs.Numberings.{all_at}

-- ---- gifts that are known to be good make a lawful flow

pub lawful_flow : (p : Sealed) (most : ℕ) (passes : Passes) (g : Numbering) (gifts : List Gift) → AreGood p most gifts → length g.nodes + 1 < 2 ^ 32 → length gifts < 2 ^ 32 → IsLawfulFlow (making_of p most) passes g gifts
lawful_flow p most passes g gifts good nodes edges =
    let law : IsLawful (thresholds_list p.program) = list_lawful p.program in
    let here : (e : ℕ) (gift : Gift) → slice_get gifts e ≡ Some gift → IsGood (making_of p most) gift.scalar gift.local = λ e gift is. all_at (λ (x : Gift). IsGood (making_of p most) x.scalar x.local) gifts e gift good is in
    record {
      ends = kind_thresholds most (thresholds_list p.program) law;
      nodes = nodes;
      edges = edges;
      tops = λ scalar. is_fitting most (thresholds_list p.program) (top_of scalar) (top_fits most (thresholds_list p.program) law scalar).0;
      locals = λ e gift is. is_fitting most (thresholds_list p.program) gift.local (here e gift is).fits;
      fit = λ e gift a is f. is_fitting most (thresholds_list p.program) (flow_of (making_of p most) passes (Some gift) a) (given_is_good (making_of p most) law passes gift.scalar gift.jump gift.local a (here e gift is) (fits_is most (thresholds_list p.program) a f)).fits;
      rises = λ e gift a b is f k l. given_rises_all (making_of p most) law passes gift.scalar gift.jump gift.local a b (here e gift is) (fits_is most (thresholds_list p.program) a f) (fits_is most (thresholds_list p.program) b k) l;
    }

-- ---- values of nodes

-- a value of the scalar of a node's formal
abbrev AtNode : Option Node → AbsVal → Type 0
AtNode None a = Unit {0}
AtNode (Some x) a = IsOf x.scalar a

join_at : (o : Option Node) (a b : AbsVal) → AtNode o a → AtNode o b → AtNode o (abs_val_joined a b)
join_at None a b h k = tt
join_at (Some x) a b h k = join_of x.scalar a b h k

none_of : (scalar : Scalar) → IsOf scalar none_val
none_of scalar = inl refl

none_under : (a : AbsVal) → abs_val_below none_val a ≡ true
none_under a = refl

contained : {A : Type 0} (xs : List A) (k : ℕ) (x : A) → slice_get xs k ≡ Some x → Contains xs x
contained xs k x e = (k, slice_get_within xs k x e, get_or_from_slice_get xs k x x e)

placed : {A : Type 0} (xs : List A) (x : A) → (c : Contains xs x) → slice_get xs c.0 ≡ Some x
placed xs x c = slice_get-get_or xs c.0 x c.1 ∙ ap Some c.2

-- ---- rows with the values of the least solution

-- what is known: the formals have numbers, the gifts are good, the values are the least solution, and rows have those of the formals
pub record Known (p : Sealed) (passes : Passes) (most : ℕ) (g : Numbering) (gifts : List Gift) (xs : List AbsVal) (rows : List (List AbsVal)) : Type 0 where
  pub numbers : IsNumbering p g
  pub good : AreGood p most gifts
  pub lawful : IsLawfulFlow (making_of p most) passes g gifts
  pub least : AreLeast (making_of p most) passes g gifts xs
  pub are_rows : AreRows p rows
  pub values : (n i : ℕ) (f : Function) (r : Register) → IsFormal p n i f r → row_value rows n i ≡ value_at (formal_equations (making_of p most) passes g gifts) xs (node_of g n i)

module _ (p : Sealed) (passes : Passes) (most : ℕ) (g : Numbering) (gifts : List Gift) (xs : List AbsVal) (rows : List (List AbsVal)) (known : Known p passes most g gifts xs rows) (bodies : Bodies) (are : AreGifts p most bodies gifts) where
  law : IsLawful (thresholds_list p.program)
  law = list_lawful p.program

  -- the value of a node
  abbrev at : ℕ → AbsVal
  at k = value_at (formal_equations (making_of p most) passes g gifts) xs k

  in_kind : (a : AbsVal) → FitsWith most (thresholds_list p.program) a → FitsAbsVal (kind_in (making_of p most)) a
  in_kind a f = subst (λ ts. FitsWith most ts a) (sym known.lawful.ends) f

  of_kind : (a : AbsVal) → FitsAbsVal (kind_in (making_of p most)) a → FitsWith most (thresholds_list p.program) a
  of_kind a f = subst (λ ts. FitsWith most ts a) known.lawful.ends f

  none_fits : FitsWith most (thresholds_list p.program) none_val
  none_fits = inl (record { is = refl; bare = refl })

  laws : FlowLaws (FitsAbsVal (kind_in (making_of p most))) abs_val_below (formal_equations (making_of p most) passes g gifts)
  laws = flow_laws (making_of p most) passes g gifts known.lawful

  is_gift : (e : ℕ) (gift : Gift) → slice_get gifts e ≡ Some gift → IsGift p most bodies gift
  is_gift e gift is = are.each gift (contained gifts e gift is)

  is_good : (e : ℕ) (gift : Gift) → slice_get gifts e ≡ Some gift → IsGood (making_of p most) gift.scalar gift.local
  is_good e gift is = all_at (λ (x : Gift). IsGood (making_of p most) x.scalar x.local) gifts e gift known.good is

  to_formal : (gift : Gift) (q : IsGift p most bodies gift) → IsFormal p gift.callee gift.formal q.callee q.formal
  to_formal gift q = record { own = q.called; declared = q.declared }

  value_fits : (k : ℕ) → k < length g.nodes + 1 → FitsWith most (thresholds_list p.program) (at k)
  value_fits k l = of_kind (at k) (known.least.solves.fit k l)

  -- ---- of the scalar

  start_is_of : (o : Option Node) → AtNode o (start_of o)
  start_is_of None = tt
  start_is_of (Some x) = by x.addressed
    where
      by : (b : Bool) → IsOf x.scalar (cond b (top_of x.scalar) none_val)
      by true = (top_fits most (thresholds_list p.program) law x.scalar).1
      by false = none_of x.scalar

  flow_is_of : (e : ℕ) (a : AbsVal) → e < length gifts → FitsWith most (thresholds_list p.program) a → AtNode (node_at g.nodes (target_of g (slice_get gifts e))) (flow_of (making_of p most) passes (slice_get gifts e) a)
  flow_is_of e a l f = by (slice_get gifts e) refl
    where
      by : (o : Option Gift) → slice_get gifts e ≡ o → AtNode (node_at g.nodes (target_of g o)) (flow_of (making_of p most) passes o a)
      by None is = absurd (let k = none_past gifts e is in omega (arith, l, k))
      by (Some gift) is =
          let q = is_gift e gift is in
          let x = found_node p g known.numbers gift.callee gift.formal q.callee q.formal (to_formal gift q) in
          let scalar : gift.scalar ≡ x.node.scalar = q.scalar ∙ sym x.scalar in
          let of = (given_is_good (making_of p most) law passes gift.scalar gift.jump gift.local a (is_good e gift is) f).of in
          subst (λ o. AtNode o (flow_of (making_of p most) passes (Some gift) a)) (sym x.there) (subst (λ s. IsOf s (flow_of (making_of p most) passes (Some gift) a)) scalar of)

  value_is_of : (k : ℕ) → k < length g.nodes + 1 → AtNode (node_at g.nodes k) (at k)
  value_is_of k l = least_within FitsAbsVal abs_val_height abs_val_rank abs_val_below abs_val_joined abs_val_laws (kind_in (making_of p most)) (formal_equations (making_of p most) passes g gifts) laws xs known.least
      (λ n a. AtNode (node_at g.nodes n) a)
      (λ n l. start_is_of (node_at g.nodes n))
      (λ e l. flow_is_of e (at (source_of g (slice_get gifts e))) l (value_fits (source_of g (slice_get gifts e)) (laws.sources e l)))
      (λ n a b h k. join_at (node_at g.nodes n) a b h k) k l

  good_value : (n i : ℕ) (f : Function) (r : Register) → IsFormal p n i f r → IsGood (making_of p most) r.scalar (row_value rows n i)
  good_value n i f r formal =
      let x = found_node p g known.numbers n i f r formal in
      let within = node_within g n i in
      let of : IsOf x.node.scalar (at (node_of g n i)) = subst (λ o. AtNode o (at (node_of g n i))) x.there (value_is_of (node_of g n i) within) in
      subst (λ a. IsGood (making_of p most) r.scalar a) (sym (known.values n i f r formal)) (record {
        fits = value_fits (node_of g n i) within;
        of = subst (λ s. IsOf s (at (node_of g n i))) x.scalar of;
      })

  -- ---- above the start values and the gifts

  top_start : (x : Node) (scalar : Scalar) → x.scalar ≡ scalar → x.addressed ≡ true → start_of (Some x) ≡ top_of scalar
  top_start x scalar e t = (λ j. cond (t j) (top_of (e j)) none_val)

  addressed_value : (n i : ℕ) (f : Function) (r : Register) → IsFormal p n i f r → IsAddressed p.program f.name → abs_val_below (top_of r.scalar) (row_value rows n i) ≡ true
  addressed_value n i f r formal taken =
      let x = found_node p g known.numbers n i f r formal in
      let start : start_of (node_at g.nodes (node_of g n i)) ≡ top_of r.scalar = ap start_of x.there ∙ top_start x.node r.scalar x.scalar (x.addressed.1 taken) in
      let up = known.least.solves.above_start (node_of g n i) (node_within g n i) in
      subst (λ b. abs_val_below (top_of r.scalar) b ≡ true) (sym (known.values n i f r formal)) (subst (λ a. abs_val_below a (at (node_of g n i)) ≡ true) start up)

  -- the value of a formal, or of none, is below that of its node
  pub record Under (a : AbsVal) (k : ℕ) : Type 0 where
    pub fits : FitsWith most (thresholds_list p.program) a
    pub below : abs_val_below a (at k) ≡ true

  nothing_under : (a : AbsVal) (k : ℕ) → a ≡ none_val → Under a k
  nothing_under a k e = subst (λ b. Under b k) (sym e) (record { fits = none_fits; below = none_under (at k) })

  formal_under : (n i : ℕ) (f : Function) → slice_get p.program.functions n ≡ Some f → Under (row_value rows n i) (node_of g n i)
  formal_under n i f own = by (slice_get f.params i) refl
    where
      by : (o : Option Register) → slice_get f.params i ≡ o → Under (row_value rows n i) (node_of g n i)
      by None e = nothing_under (row_value rows n i) (node_of g n i) (no_formal p rows known.are_rows n i f own e)
      by (Some r) e =
          let within = node_within g n i in
          let fits = value_fits (node_of g n i) within in
          let self = abs_val_laws.reflexive (kind_in (making_of p most)) (at (node_of g n i)) (in_kind (at (node_of g n i)) fits) in
          subst (λ a. Under a (node_of g n i)) (sym (known.values n i f r (record { own = own; declared = e }))) (record { fits = fits; below = self })

  source_under : (n : ℕ) (f : Function) (jump : JumpFn) → slice_get p.program.functions n ≡ Some f → Under (source_value rows n jump) (jump_source g n jump)
  source_under n f Unknown own = nothing_under none_val 0 refl
  source_under n f (Const c) own = nothing_under none_val 0 refl
  source_under n f (Pass i op z) own = formal_under n i f own
  source_under n f (Ancestor i z) own = formal_under n i f own
  source_under n f (Address x z) own = nothing_under none_val 0 refl

  gift_under : (gift : Gift) → IsGift p most bodies gift → abs_val_below (gift_value (making_of p most) passes rows gift) (row_value rows gift.callee gift.formal) ≡ true
  gift_under gift q =
      let c = are.every gift q in
      let is : slice_get gifts c.0 ≡ Some gift = placed gifts gift c in
      let good = is_good c.0 gift is in
      let source = source_under gift.caller q.caller gift.jump q.own in
      let from = value_fits (jump_source g gift.caller gift.jump) (subst (λ o. source_of g o < length g.nodes + 1) is (laws.sources c.0 c.1)) in
      let flows : abs_val_below (given (making_of p most) passes gift.scalar gift.jump gift.local (at (jump_source g gift.caller gift.jump))) (at (node_of g gift.callee gift.formal)) ≡ true =
      subst (λ o. abs_val_below (flow_of (making_of p most) passes o (at (source_of g o))) (at (target_of g o)) ≡ true) is (known.least.solves.above_flows c.0 c.1) in
      let rises = given_rises_all (making_of p most) law passes gift.scalar gift.jump gift.local (source_value rows gift.caller gift.jump) (at (jump_source g gift.caller gift.jump)) good source.fits from source.below in
      let low = given_is_good (making_of p most) law passes gift.scalar gift.jump gift.local (source_value rows gift.caller gift.jump) good source.fits in
      let high = given_is_good (making_of p most) law passes gift.scalar gift.jump gift.local (at (jump_source g gift.caller gift.jump)) good from in
      let over = value_fits (node_of g gift.callee gift.formal) (node_within g gift.callee gift.formal) in
      subst (λ b. abs_val_below (gift_value (making_of p most) passes rows gift) b ≡ true) (sym (known.values gift.callee gift.formal q.callee q.formal (to_formal gift q)))
      (abs_val_laws.transitive (kind_in (making_of p most)) _ _ _ (in_kind _ low.fits) (in_kind _ high.fits) (in_kind _ over) rises flows)

  solves_rows : IsSolution p passes most bodies rows
  solves_rows = record { are_rows = known.are_rows; good = good_value; addressed = addressed_value; gifts = gift_under }

  -- ---- below every other solution

  module _ (others : List (List AbsVal)) (solution : IsSolution p passes most bodies others) where
    other_value : (n i : ℕ) (f : Function) (d : AbsVal) → slice_get p.program.functions n ≡ Some f → get_or (values_by g others) (node_of g n i) d ≡ row_value others n i
    other_value n i f d own = value_there p g known.numbers others solution.are_rows n i f d own

    other_source : (n : ℕ) (f : Function) (jump : JumpFn) (d : AbsVal) → slice_get p.program.functions n ≡ Some f → get_or (values_by g others) (jump_source g n jump) d ≡ source_value others n jump
    other_source n f Unknown d own = refl
    other_source n f (Const c) d own = refl
    other_source n f (Pass i op z) d own = other_value n i f d own
    other_source n f (Ancestor i z) d own = other_value n i f d own
    other_source n f (Address x z) d own = refl

    other_fits : (k : ℕ) (d : AbsVal) → k < length g.nodes + 1 → FitsWith most (thresholds_list p.program) (get_or (values_by g others) k d)
    other_fits k d l = by (node_at g.nodes k) refl
      where
        zeroth : (k : ℕ) → k < length g.nodes + 1 → node_at g.nodes k ≡ None → get_or (values_by g others) k d ≡ none_val
        zeroth zero l e = refl
        zeroth (suc k) l e = absurd (let past = none_past g.nodes k e in omega (arith, l, past))

        by : (o : Option Node) → node_at g.nodes k ≡ o → FitsWith most (thresholds_list p.program) (get_or (values_by g others) k d)
        by None e = subst (FitsWith most (thresholds_list p.program)) (sym (zeroth k l e)) none_fits
        by (Some x) e =
            let q : IsNode p x = node_is p g known.numbers.are k x e in
            subst (FitsWith most (thresholds_list p.program)) (sym (value_by g others k x d e)) (solution.good x.function x.formal q.owner q.register q.formal).fits

    other_start : (k : ℕ) (d : AbsVal) → abs_val_below (start_of (node_at g.nodes k)) (get_or (values_by g others) k d) ≡ true
    other_start k d = by (node_at g.nodes k) refl
      where
        by : (o : Option Node) → node_at g.nodes k ≡ o → abs_val_below (start_of o) (get_or (values_by g others) k d) ≡ true
        by None e = none_under (get_or (values_by g others) k d)
        by (Some x) e = marked x.addressed refl
          where
            marked : (b : Bool) → x.addressed ≡ b → abs_val_below (cond b (top_of x.scalar) none_val) (get_or (values_by g others) k d) ≡ true
            marked false t = none_under (get_or (values_by g others) k d)
            marked true t =
                let q : IsNode p x = node_is p g known.numbers.are k x e in
                let up = solution.addressed x.function x.formal q.owner q.register q.formal (q.addressed.0 t) in
                subst (λ s. abs_val_below (top_of s) (get_or (values_by g others) k d) ≡ true) (sym q.scalar)
                (subst (λ a. abs_val_below (top_of q.register.scalar) a ≡ true) (sym (value_by g others k x d e)) up)

    other_flow : (e : ℕ) → e < length gifts → (o : Option Gift) → slice_get gifts e ≡ o → (c d : AbsVal) →
        abs_val_below (flow_of (making_of p most) passes o (get_or (values_by g others) (source_of g o) c)) (get_or (values_by g others) (target_of g o) d) ≡ true
    other_flow e l None is c d = absurd (let past = none_past gifts e is in omega (arith, l, past))
    other_flow e l (Some gift) is c d =
        let q = is_gift e gift is in
        subst (λ a. abs_val_below (flow_of (making_of p most) passes (Some gift) a) (get_or (values_by g others) (node_of g gift.callee gift.formal) d) ≡ true) (sym (other_source gift.caller q.caller gift.jump c q.own))
        (subst (λ b. abs_val_below (gift_value (making_of p most) passes others gift) b ≡ true) (sym (other_value gift.callee gift.formal q.callee d q.called)) (solution.gifts gift q))

    other_solves : Solves (FitsAbsVal (kind_in (making_of p most))) abs_val_below (formal_equations (making_of p most) passes g gifts) (values_by g others)
    other_solves = record {
      one_each = let e : length (map (λ (x : Node). row_value others x.function x.formal) g.nodes) ≡ length g.nodes = length-map g.nodes (λ (x : Node). row_value others x.function x.formal) in omega (arith, e);
      fit = λ k l. in_kind (get_or (values_by g others) k (start_of (node_at g.nodes k))) (other_fits k (start_of (node_at g.nodes k)) l);
      above_start = λ k l. other_start k (start_of (node_at g.nodes k));
      above_flows = λ e l. other_flow e l (slice_get gifts e) refl _ _;
    }

    under_other : (n i : ℕ) (f : Function) (r : Register) → IsFormal p n i f r → abs_val_below (row_value rows n i) (row_value others n i) ≡ true
    under_other n i f r formal =
        let up = known.least.least (values_by g others) other_solves (node_of g n i) (node_within g n i) in
        let is = other_value n i f (start_of (node_at g.nodes (node_of g n i))) formal.own in
        subst (λ a. abs_val_below a (row_value others n i) ≡ true) (sym (known.values n i f r formal))
        (subst (λ b. abs_val_below (at (node_of g n i)) b ≡ true) is up)

  pub least_rows : IsLeastOf p passes most bodies rows
  least_rows = record { solves = solves_rows; least = λ others solution n i f r formal. under_other others solution n i f r formal }

-- ---- the rows that the code makes

pub rows_are_least : (p : Sealed) (passes : Passes) (most : ℕ) (g : Numbering) (gifts : List Gift) (xs : List AbsVal) (rows : List (List AbsVal)) → IsNumbering p g → AreGood p most gifts → length g.nodes + 1 < 2 ^ 32 → length gifts < 2 ^ 32 →
    AreLeast (making_of p most) passes g gifts xs → rows ≡ rows_from g xs 0 p.program.functions → (bodies : Bodies) → AreGifts p most bodies gifts → IsLeastOf p passes most bodies rows
rows_are_least p passes most g gifts xs rows numbers good nodes edges least is bodies are = subst (IsLeastOf p passes most bodies) (sym is) (least_rows p passes most g gifts xs (rows_from g xs 0 p.program.functions) (record {
  numbers = numbers;
  good = good;
  lawful = lawful_flow p most passes g gifts good nodes edges;
  least = least;
  are_rows = made_rows p g xs;
  values = λ n i f r formal. made_value p g xs n i f r formal ∙ get_or_default xs (node_of g n i) none_val (start_of (node_at g.nodes (node_of g n i))) (let l = node_within g n i in let c = least.solves.one_each in omega (arith, l, c));
}) bodies are)
