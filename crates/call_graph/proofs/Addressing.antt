-- Which functions the numbers of addresses are of.
use Rattle.std.proofs.Common.{◌≡◌, ℕ, ℤ, inl, inr, List, [], ◌∷◌, ◌++◌, Option, Some, None, refl, sym, ◌∙◌, ap, subst, append-nil}
use Rattle.std.specs.List.{Contains, flat_map, position}
use Rattle.std.specs.Str.{bytes_eq}
use Rattle.std.proofs.lemmas.List.Elements.{Contains-append_cases, Contains-append_left, Contains-append_right}
use Rattle.gimple_ir.specs.declared.operand.Operand.{Operand}
use Rattle.gimple_ir.specs.declared.operand.Operand.TheVariants.{Reg, Number, Null, Address}
use Rattle.gimple_ir.specs.declared.declarations.Global.{Global}
use Rattle.gimple_ir.specs.declared.block.Block.{Block}
use Rattle.gimple_ir.specs.declared.program.Function.{Function}
use Rattle.gimple_ir.specs.declared.program.Program.{Program}
use Rattle.gimple_core.specs.Reach.{operands_of, operands_of_end, TakesAddress, MentionsInItems, AddressedIn, IsAddressed}
use Rattle.call_graph.specs.Addresses.{number_listed, operand_address, addresses_in, body_addresses, block_addresses, function_addresses, item_addresses, addresses_of}
use Rattle.graph_walk.proofs.Parting.{nothing, single, here}
use Rattle.call_graph.proofs.Called.{flat_made, flat_makes}

-- the first function of this name stands at this number
abbrev pub IsPlace : List Function → List ℕ → ℕ → Type 0
IsPlace fs name k = position (λ f. bytes_eq f.name name) fs ≡ Some k

listed_made : (o : Option ℕ) (b : ℕ) → Contains (number_listed o) b → o ≡ Some b
listed_made None b h = absurd (nothing b h)
listed_made (Some k) b h = ap Some (single k b h)

listed_makes : (o : Option ℕ) (b : ℕ) → o ≡ Some b → Contains (number_listed o) b
listed_makes o b e = subst (λ r. Contains (number_listed r) b) (sym e) (here b [])

module _ (fs : List Function) (x : Operand) (name : List ℕ) (offset : ℤ) (is : x ≡ Address name offset) (old : List ℕ) where
  -- the number of an address was put behind the others
  pub address_pushed : (k : ℕ) (new : List ℕ) → IsPlace fs name k → new ≡ old ++ k ∷ [] → new ≡ old ++ operand_address fs x
  address_pushed k new place pushed = pushed ∙ ap (λ (ks : List ℕ). old ++ ks) (ap number_listed (sym place) ∙ ap (operand_address fs) (sym is))

  -- the address of what is no function has no number
  pub address_left : position (λ f. bytes_eq f.name name) fs ≡ None → old ≡ old ++ operand_address fs x
  address_left none = sym (append-nil old) ∙ ap (λ (ks : List ℕ). old ++ ks) (ap number_listed (sym none) ∙ ap (operand_address fs) (sym is))

module _ (fs : List Function) where
  operand_made : (x : Operand) (b : ℕ) → Contains (operand_address fs x) b → (name : List ℕ) × (offset : ℤ) × (x ≡ Address name offset) × IsPlace fs name b
  operand_made (Reg name) b h = absurd (nothing b h)
  operand_made (Number z) b h = absurd (nothing b h)
  operand_made Null b h = absurd (nothing b h)
  operand_made (Address name offset) b h = (name, offset, refl, listed_made (position (λ (f : Function). bytes_eq f.name name) fs) b h)

  addresses_made : (xs : List Operand) (b : ℕ) → Contains (addresses_in fs xs) b → (name : List ℕ) × TakesAddress name xs × IsPlace fs name b
  unfolding addresses_in
  addresses_made xs b h =
      let (x, has, at) = flat_made (operand_address fs) xs b h in
      let (name, offset, is, place) = operand_made x b at in
      (name, (offset, subst (λ y. Contains xs y) is has), place)

  addresses_make : (xs : List Operand) (name : List ℕ) (k : ℕ) → TakesAddress name xs → IsPlace fs name k → Contains (addresses_in fs xs) k
  unfolding addresses_in
  addresses_make xs name k t place =
      flat_makes (operand_address fs) xs (Address name t.0) k t.1 (listed_makes (position (λ (f : Function). bytes_eq f.name name) fs) k place)

  -- ---- bodies

  pub blocks_made : (bs : List Block) (b : ℕ) → Contains (flat_map (block_addresses fs) bs) b → (name : List ℕ) × AddressedIn name bs × IsPlace fs name b
  blocks_made [] b h = absurd (nothing b h)
  blocks_made (x ∷ xs) b h = elim (Contains-append_cases (block_addresses fs x) (flat_map (block_addresses fs) xs) b h) [
    | inl now ↦ elim (Contains-append_cases (body_addresses fs x.body) (addresses_in fs (operands_of_end x.end)) b now) [
      | inl body ↦
          let (y, has, at) = flat_made (λ z. addresses_in fs (operands_of z)) x.body b body in
          let (name, takes, place) = addresses_made (operands_of y) b at in
          (name, AddressedIn.body x xs y has takes, place)
      | inr end ↦ let (name, takes, place) = addresses_made (operands_of_end x.end) b end in (name, AddressedIn.end x xs takes, place)
    ]
    | inr rest ↦ let (name, at, place) = blocks_made xs b rest in (name, AddressedIn.later x xs at, place)
  ]

  pub blocks_make : (name : List ℕ) (k : ℕ) → IsPlace fs name k → (bs : List Block) → AddressedIn name bs → Contains (flat_map (block_addresses fs) bs) k
  blocks_make name k place _ (AddressedIn.body b bs x has t) =
      let body = flat_makes (λ z. addresses_in fs (operands_of z)) b.body x k has (addresses_make (operands_of x) name k t place) in
      let block = Contains-append_left (body_addresses fs b.body) (addresses_in fs (operands_of_end b.end)) k body in
      Contains-append_left (block_addresses fs b) (flat_map (block_addresses fs) bs) k block
  blocks_make name k place _ (AddressedIn.end b bs t) =
      let block = Contains-append_right (body_addresses fs b.body) (addresses_in fs (operands_of_end b.end)) k (addresses_make (operands_of_end b.end) name k t place) in
      Contains-append_left (block_addresses fs b) (flat_map (block_addresses fs) bs) k block
  blocks_make name k place _ (AddressedIn.later b bs r) =
      Contains-append_right (block_addresses fs b) (flat_map (block_addresses fs) bs) k (blocks_make name k place bs r)

  -- ---- items

  pub items_made : (gs : List Global) (b : ℕ) → Contains (item_addresses fs gs) b → (name : List ℕ) × MentionsInItems name gs × IsPlace fs name b
  items_made [] b h = absurd (nothing b h)
  items_made (g ∷ gs) b h = elim (Contains-append_cases (addresses_in fs g.items) (item_addresses fs gs) b h) [
    | inl now ↦ let (name, takes, place) = addresses_made g.items b now in (name, MentionsInItems.here g gs takes, place)
    | inr rest ↦ let (name, at, place) = items_made gs b rest in (name, MentionsInItems.later g gs at, place)
  ]

  pub items_make : (name : List ℕ) (k : ℕ) → IsPlace fs name k → (gs : List Global) → MentionsInItems name gs → Contains (item_addresses fs gs) k
  items_make name k place _ (MentionsInItems.here g gs t) =
      Contains-append_left (addresses_in fs g.items) (item_addresses fs gs) k (addresses_make g.items name k t place)
  items_make name k place _ (MentionsInItems.later g gs r) =
      Contains-append_right (addresses_in fs g.items) (item_addresses fs gs) k (items_make name k place gs r)

-- ---- whole programs

pub addresses_are : (p : Program) (b : ℕ) → Contains (addresses_of p) b → (name : List ℕ) × IsAddressed p name × IsPlace p.functions name b
addresses_are p b h = elim (Contains-append_cases (item_addresses p.functions p.globals) (flat_map (function_addresses p.functions) p.functions) b h) [
  | inl items ↦ let (name, at, place) = items_made p.functions p.globals b items in (name, IsAddressed.item at, place)
  | inr bodies ↦
      let (f, has, at) = flat_made (function_addresses p.functions) p.functions b bodies in
      let (name, is, place) = blocks_made p.functions f.blocks b at in
      (name, IsAddressed.body f has is, place)
]

pub addressed_listed : (p : Program) (name : List ℕ) (k : ℕ) → IsAddressed p name → IsPlace p.functions name k → Contains (addresses_of p) k
addressed_listed p name k (IsAddressed.item at) place =
    Contains-append_left (item_addresses p.functions p.globals) (flat_map (function_addresses p.functions) p.functions) k (items_make p.functions name k place p.globals at)
addressed_listed p name k (IsAddressed.body f has at) place =
    Contains-append_right (item_addresses p.functions p.globals) (flat_map (function_addresses p.functions) p.functions) k
    (flat_makes (function_addresses p.functions) p.functions f k has (blocks_make p.functions name k place f.blocks at))
