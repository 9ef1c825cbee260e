-- What main reaches by names is what its number reaches over what functions mention by number.
use Rattle.std.proofs.Common.{◌≡◌, ℕ, zero, suc, ◌<◌, ◌⊎◌, inl, inr, Bool, true, false, List, [], ◌∷◌, ◌++◌, map, length, set, get_or, Some, refl, sym, ◌∙◌, subst, arith, slice_get}
use Rattle.std.specs.List.{Contains}
use Rattle.std.proofs.lemmas.Bool.Decides.{eqb_tells}
use Rattle.std.proofs.lemmas.List.{get_or-set_same, get_or-set_other, length-map}
use Rattle.std.proofs.Math.ListN.{length-set}
use Rattle.std.proofs.lemmas.List.Elements.{Contains-append_cases, Contains-append_left, Contains-append_right}
use Rattle.std.proofs.lemmas.Option.{slice_get_within}
use Rattle.gimple_ir.specs.declared.program.Function.{Function}
use Rattle.gimple_ir.specs.declared.program.Program.{Program}
use Rattle.gimple_core.specs.Run.{function_named, main_name}
use Rattle.gimple_core.specs.Reach.{MentionsInBlocks, MentionsInItems, IsReached, IsAddressed}
use Rattle.call_graph.specs.Addresses.{function_addresses, item_addresses, addresses_of}
use Rattle.call_graph.specs.Calls.{names_of, number_in, callees_of}
use Rattle.call_graph.specs.Graph.{Leads, start, along, AreMarks}
use Rattle.call_graph.specs.Reached.{AreReached, AreAddressed, address_rows, longer_at, marked_too, mentions_of}
use Rattle.graph_walk.proofs.Parting.{nothing, here, later, contains_cases}
use Rattle.call_graph.proofs.Called.{called_mentioned, addressed_mentioned, mentioned_parted}
use Rattle.call_graph.proofs.Addressing.{IsPlace, blocks_made, blocks_make, items_made, items_make, addresses_are, addressed_listed}
use Rattle.call_graph.proofs.Naming.{name_at, number_at, found_number, place_inside, place_of, function_at}
use Rattle.call_graph.proofs.Callees.{CallsStand, slice_get_at, named_number}
use Rattle.call_graph.proofs.Bridge.{name_of, edge_from, edge_to, edge_ends}

-- ---- a row that is longer

module _ (rows : List (List ℕ)) (m : ℕ) (more : List ℕ) (inside : m < length rows) where
  row_same : get_or (longer_at m more rows) m [] ≡ get_or rows m [] ++ more
  row_same = get_or-set_same rows m (get_or rows m [] ++ more) [] inside

  row_other : (a : ℕ) → (a ≡ m → ⊥) → get_or (longer_at m more rows) a [] ≡ get_or rows a []
  row_other a other = get_or-set_other rows m a (get_or rows m [] ++ more) [] other

  longer_cases : (a b : ℕ) → Contains (get_or (longer_at m more rows) a []) b → Contains (get_or rows a []) b ⊎ Contains more b
  longer_cases a b h = elim (eqb_tells a m) [
    | inl same ↦
        let at : Contains (get_or (longer_at m more rows) m []) b = subst (λ (i : ℕ). Contains (get_or (longer_at m more rows) i []) b) same.1 h in
        elim (Contains-append_cases (get_or rows m []) more b (subst (λ xs. Contains xs b) row_same at)) [
          | inl old ↦ inl (subst (λ (i : ℕ). Contains (get_or rows i []) b) (sym same.1) old)
          | inr new ↦ inr new
        ]
    | inr other ↦ inl (subst (λ xs. Contains xs b) (row_other a other.1) h)
  ]

  longer_old : (a b : ℕ) → Contains (get_or rows a []) b → Contains (get_or (longer_at m more rows) a []) b
  longer_old a b h = elim (eqb_tells a m) [
    | inl same ↦
        let at : Contains (get_or rows m []) b = subst (λ (i : ℕ). Contains (get_or rows i []) b) same.1 h in
        subst (λ (i : ℕ). Contains (get_or (longer_at m more rows) i []) b) (sym same.1) (subst (λ xs. Contains xs b) (sym row_same) (Contains-append_left (get_or rows m []) more b at))
    | inr other ↦ subst (λ xs. Contains xs b) (sym (row_other a other.1)) h
  ]

  longer_new : (b : ℕ) → Contains more b → Contains (get_or (longer_at m more rows) m []) b
  longer_new b h = subst (λ xs. Contains xs b) (sym row_same) (Contains-append_right (get_or rows m []) more b h)

-- ---- rows of functions

row_of : (g : Function → List ℕ) (fs : List Function) (a b : ℕ) → Contains (get_or (map g fs) a []) b → (f : Function) × (slice_get fs a ≡ Some f) × Contains (g f) b
row_of g [] a b h = absurd (nothing b h)
row_of g (f ∷ fs) zero b h = (f, refl, h)
row_of g (f ∷ fs) (suc a) b h = row_of g fs a b h

in_row : (g : Function → List ℕ) (fs : List Function) (a : ℕ) (f : Function) (b : ℕ) → slice_get fs a ≡ Some f → Contains (g f) b → Contains (get_or (map g fs) a []) b
in_row g [] a f b e h = cc e
in_row g (x ∷ fs) zero f b e h = let same : x ≡ f = cc in subst (λ y. Contains (g y) b) (sym same) h
in_row g (x ∷ fs) (suc a) f b e h = in_row g fs a f b e h

pub address_rows_length : (p : Program) → length (address_rows p) ≡ length p.functions
address_rows_length p =
    let rows : List (List ℕ) = map (function_addresses p.functions) p.functions in
    length-set rows (number_in (names_of p) main_name) _ ∙ length-map p.functions (function_addresses p.functions)

-- ---- what a function mentions, by number

-- the function with the number a mentions a function with the number b, or an item does
pub record IsMention (p : Program) (a b : ℕ) : Type 0 where
  pub name : List ℕ
  pub number : number_in (names_of p) name ≡ b
  pub inside : b < length p.functions
  pub stands : ((f : Function) × (slice_get p.functions a ≡ Some f) × MentionsInBlocks name f.blocks) ⊎ MentionsInItems name p.globals

module _ (p : Program) (stand : CallsStand p) where
  abbrev root : ℕ
  root = number_in (names_of p) main_name

  abbrev body_rows : List (List ℕ)
  body_rows = map (function_addresses p.functions) p.functions

  root_inside : root < length body_rows
  root_inside = let low = stand.main in let len = length-map p.functions (function_addresses p.functions) in omega (arith, low, len)

  addressed_mention : (a b : ℕ) → Contains (get_or (address_rows p) a []) b → IsMention p a b
  addressed_mention a b h = elim (longer_cases body_rows root (item_addresses p.functions p.globals) root_inside a b h) [
    | inl body ↦
        let (f, at, has) = row_of (function_addresses p.functions) p.functions a b body in
        let (name, is, place) = blocks_made p.functions f.blocks b has in
        record {
          name = name;
          number = sym (found_number p.functions name b place);
          inside = place_inside p.functions name b place;
          stands = inl (f, at, addressed_mentioned name f.blocks is);
        }
    | inr items ↦
        let (name, is, place) = items_made p.functions p.globals b items in
        record {
          name = name;
          number = sym (found_number p.functions name b place);
          inside = place_inside p.functions name b place;
          stands = inr is;
        }
  ]

  called_mention : (a b : ℕ) → Contains (callees_of p a) b → IsMention p a b
  called_mention a b h =
      let call = edge_from p a b h in
      let here : slice_get p.functions a ≡ Some call.function = subst (λ (k : ℕ). slice_get p.functions k ≡ Some call.function) (sym (call.call.caller ∙ (omega arith))) call.stands in
      record {
        name = call.call.name;
        number = call.call.callee;
        inside = edge_ends p stand a b h;
        stands = inl (call.function, here, called_mentioned call.call.name call.function.blocks call.call.calls);
      }

  pub mention_of : (a b : ℕ) → Contains (mentions_of p a) b → IsMention p a b
  mention_of a b h = elim (Contains-append_cases (get_or (address_rows p) a []) (callees_of p a) b h) [
    | inl addressed ↦ addressed_mention a b addressed
    | inr called ↦ called_mention a b called
  ]

  -- the number of a name that a function has
  place_named : (name : List ℕ) (f : Function) → function_named name p.functions ≡ Some f → IsPlace p.functions name (number_in (names_of p) name)
  place_named name f e = place_of p.functions name (named_number p.functions name f e)

  mention_in : (a : ℕ) (f : Function) (name : List ℕ) (g : Function) → slice_get p.functions a ≡ Some f → MentionsInBlocks name f.blocks → function_named name p.functions ≡ Some g → Contains (mentions_of p a) (number_in (names_of p) name)
  mention_in a f name g at m e =
      let k = number_in (names_of p) name in
      elim (mentioned_parted name f.blocks m) [
        | inl called ↦ Contains-append_right (get_or (address_rows p) a []) (callees_of p a) k (edge_to p a f name at called)
        | inr addressed ↦
            let has = blocks_make p.functions name k (place_named name g e) f.blocks addressed in
            Contains-append_left (get_or (address_rows p) a []) (callees_of p a) k
            (longer_old body_rows root (item_addresses p.functions p.globals) root_inside a k (in_row (function_addresses p.functions) p.functions a f k at has))
      ]

  mention_in_items : (name : List ℕ) (g : Function) → MentionsInItems name p.globals → function_named name p.functions ≡ Some g → Contains (mentions_of p root) (number_in (names_of p) name)
  mention_in_items name g m e =
      let k = number_in (names_of p) name in
      Contains-append_left (get_or (address_rows p) root []) (callees_of p root) k
      (longer_new body_rows root (item_addresses p.functions p.globals) root_inside k (items_make p.functions name k (place_named name g e) p.globals m))

  -- ---- what main reaches

  pub leads_inside : (a : ℕ) → Leads (mentions_of p) root a → a < length p.functions
  leads_inside _ start = stand.main
  leads_inside _ (along x y r h) = (mention_of x y h).inside

  -- what is reached by names is reached by numbers
  pub reached_leads : (name : List ℕ) → IsReached p name → Leads (mentions_of p) root (number_in (names_of p) name)
  reached_leads _ IsReached.main = start
  reached_leads _ (IsReached.item name f m e) = along root (number_in (names_of p) name) start (mention_in_items name f m e)
  reached_leads _ (IsReached.mentioned name f other g r e m d) =
      along (number_in (names_of p) name) (number_in (names_of p) other) (reached_leads name r)
      (mention_in (number_in (names_of p) name) f other g (sym (function_at p.functions name) ∙ e) m d)

  -- the function at a number is the one of its name
  named_at : (a : ℕ) (f : Function) → slice_get p.functions a ≡ Some f → function_named f.name p.functions ≡ Some f
  named_at a f at =
      let number = number_at (names_of p) a f.name stand.distinct (name_of p.functions a f at) in
      function_at p.functions f.name ∙ subst (λ (k : ℕ). slice_get p.functions k ≡ Some f) (sym number) at

  -- the function at the number of a name is of this name
  function_of : (name : List ℕ) → number_in (names_of p) name < length p.functions → (f : Function) × (function_named name p.functions ≡ Some f)
  function_of name low =
      let at = slice_get_at p.functions (number_in (names_of p) name) low in
      (at.0, function_at p.functions name ∙ at.1)

  mention_reached : (a b : ℕ) → (m : IsMention p a b) → ((f : Function) → slice_get p.functions a ≡ Some f → IsReached p f.name) → IsReached p m.name
  mention_reached a b m r =
      let there = function_of m.name (subst (λ (k : ℕ). k < length p.functions) (sym m.number) m.inside) in
      elim m.stands [
        | inl (f, at, h) ↦ IsReached.mentioned f.name f m.name there.0 (r f at) (named_at a f at) h there.1
        | inr items ↦ IsReached.item m.name there.0 items there.1
      ]

  -- what is reached by numbers is reached by names
  pub leads_reached : (a : ℕ) (name : List ℕ) → Leads (mentions_of p) root a → slice_get (names_of p) a ≡ Some name → IsReached p name
  leads_reached _ name start h =
      subst (λ (n : List ℕ). IsReached p n) (sym (name_at (names_of p) main_name name h)) IsReached.main
  leads_reached _ name (along a b r h) e =
      let m = mention_of a b h in
      let same = name_at (names_of p) m.name name (subst (λ (k : ℕ). slice_get (names_of p) k ≡ Some name) (sym m.number) e) in
      let reached = mention_reached a b m (λ f at. leads_reached a f.name r (name_of p.functions a f at)) in
      subst (λ (n : List ℕ). IsReached p n) (sym same) reached

  -- the marks of a walk are one for each function that main reaches
  pub marks_reached : (marks : List Bool) → AreMarks (mentions_of p) (length p.functions) root marks → AreReached p marks
  marks_reached marks are = record {
    one_each = are.one_each;
    exact = λ k f h. (
        let named = name_of p.functions k f h in
        let low = slice_get_within p.functions k f h in (
          λ on. leads_reached k f.name ((are.exact k low).0 on) named,
          λ r. (are.exact k low).1 (subst (λ (i : ℕ). Leads (mentions_of p) root i) (number_at (names_of p) k f.name stand.distinct named) (reached_leads f.name r)),
        ));
  }

-- ---- what is addressed

set_on : (marks : List Bool) (k a : ℕ) → get_or marks a false ≡ true → get_or (set marks k true) a false ≡ true
set_on [] k a h = h
set_on (m ∷ ms) zero zero h = refl
set_on (m ∷ ms) zero (suc a) h = h
set_on (m ∷ ms) (suc k) zero h = h
set_on (m ∷ ms) (suc k) (suc a) h = set_on ms k a h

marked_on : (ks : List ℕ) (marks : List Bool) (a : ℕ) → get_or marks a false ≡ true → get_or (marked_too ks marks) a false ≡ true
unfolding marked_too
marked_on [] marks a h = h
marked_on (k ∷ ks) marks a h = marked_on ks (set marks k true) a (set_on marks k a h)

marked_in : (ks : List ℕ) (marks : List Bool) (a : ℕ) → a < length marks → Contains ks a → get_or (marked_too ks marks) a false ≡ true
unfolding marked_too
marked_in [] marks a low h = absurd (nothing a h)
marked_in (k ∷ ks) marks a low h = elim (contains_cases k ks a h) [
  | inl same ↦ marked_on ks (set marks k true) a (subst (λ (i : ℕ). get_or (set marks i true) a false ≡ true) (sym same) (get_or-set_same marks a true false low))
  | inr rest ↦ let len = length-set marks k true in marked_in ks (set marks k true) a (omega (arith, low, len)) rest
]

marked_from : (ks : List ℕ) (marks : List Bool) (a : ℕ) → get_or (marked_too ks marks) a false ≡ true → Contains ks a ⊎ (get_or marks a false ≡ true)
unfolding marked_too
marked_from [] marks a h = inr h
marked_from (k ∷ ks) marks a h = elim (marked_from ks (set marks k true) a h) [
  | inl rest ↦ inl (later k ks a rest)
  | inr on ↦ elim (eqb_tells a k) [
    | inl same ↦ inl (subst (λ (i : ℕ). Contains (k ∷ ks) i) (sym same.1) (here k ks))
    | inr other ↦ inr (sym (get_or-set_other marks k a true false other.1) ∙ on)
  ]
]

marked_length : (ks : List ℕ) (marks : List Bool) → length (marked_too ks marks) ≡ length marks
unfolding marked_too
marked_length [] marks = refl
marked_length (k ∷ ks) marks = marked_length ks (set marks k true) ∙ length-set marks k true

module _ (p : Program) (stand : CallsStand p) (falses : List Bool) (len : length falses ≡ length p.functions) (off : (a : ℕ) → get_or falses a false ≡ false) where
  addressed_mark : (k : ℕ) (f : Function) → slice_get p.functions k ≡ Some f → get_or (marked_too (addresses_of p) falses) k false ≡ true → IsAddressed p f.name
  addressed_mark k f at on = elim (marked_from (addresses_of p) falses k on) [
    | inl has ↦
        let (name, is, place) = addresses_are p k has in
        let number = found_number p.functions name k place in
        let named = subst (λ (i : ℕ). slice_get (names_of p) i ≡ Some f.name) number (name_of p.functions k f at) in
        subst (λ (n : List ℕ). IsAddressed p n) (sym (name_at (names_of p) name f.name named)) is
    | inr on ↦ let none = off k in cc (on, none)
  ]

  mark_addressed : (k : ℕ) (f : Function) → slice_get p.functions k ≡ Some f → IsAddressed p f.name → get_or (marked_too (addresses_of p) falses) k false ≡ true
  mark_addressed k f at is =
      let low = slice_get_within p.functions k f at in
      let number = number_at (names_of p) k f.name stand.distinct (name_of p.functions k f at) in
      let place = subst (λ (i : ℕ). IsPlace p.functions f.name i) number (place_of p.functions f.name (omega (arith, low, number))) in
      marked_in (addresses_of p) falses k (omega (arith, low, len)) (addressed_listed p f.name k is place)

  -- the marks of all addresses are one for each function that is addressed
  pub marks_addressed : AreAddressed p (marked_too (addresses_of p) falses)
  marks_addressed = record {
    one_each = marked_length (addresses_of p) falses ∙ len;
    exact = λ k f at. (addressed_mark k f at, mark_addressed k f at);
  }
