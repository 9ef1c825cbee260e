-- What bodies mention is called by name or addressed there.
use Rattle.std.proofs.Common.{◌≡◌, ℕ, ◌⊎◌, inl, inr, List, [], ◌∷◌, Some, sym, subst, arith}
use Rattle.std.specs.List.{Contains}
use Rattle.std.specs.List.{flat_map}
use Rattle.std.proofs.lemmas.List.Elements.{Contains-append_cases, Contains-append_left, Contains-append_right, Contains-push, Contains-push_cases}
use Rattle.gimple_ir.specs.declared.block.Block.{Block}
use Rattle.gimple_ir.specs.declared.statement.Stmt.{Stmt}
use Rattle.gimple_core.specs.Run.{Calling, Named, call_of}
use Rattle.gimple_core.specs.Reach.{operands_of, TakesAddress, Mentions, MentionsIn, MentionsInBlocks, AddressedIn}

-- ---- members of lists

module _ {X : Type 0} where
  pub no_member : (x : X) → Contains [] x → ⊥
  no_member x (k, low, _) = omega (arith, low)

  pub member_here : (x : X) (xs : List X) → Contains (x ∷ xs) x
  member_here x xs = Contains-append_left (x ∷ []) xs x (Contains-push [] x)

  pub member_later : (x : X) (xs : List X) (y : X) → Contains xs y → Contains (x ∷ xs) y
  member_later x xs y h = Contains-append_right (x ∷ []) xs y h

  pub member_cases : (x : X) (xs : List X) (y : X) → Contains (x ∷ xs) y → (x ≡ y) ⊎ Contains xs y
  member_cases x xs y h = elim (Contains-append_cases (x ∷ []) xs y h) [
    | inl one ↦ elim (Contains-push_cases [] x y one) [ inl none ↦ absurd (no_member y none) | inr e ↦ inl e ]
    | inr rest ↦ inr rest
  ]

module _ {X : Type 0} where
  -- a member of what a list's items give is of what one of them gives
  pub flat_made : (g : X → List ℕ) (xs : List X) (b : ℕ) → Contains (flat_map g xs) b → (x : X) × Contains xs x × Contains (g x) b
  flat_made g [] b h = absurd (no_member b h)
  flat_made g (x ∷ xs) b h = elim (Contains-append_cases (g x) (flat_map g xs) b h) [
    | inl now ↦ (x, member_here x xs, now)
    | inr rest ↦ let (y, has, at) = flat_made g xs b rest in (y, member_later x xs y has, at)
  ]

  pub flat_makes : (g : X → List ℕ) (xs : List X) (x : X) (b : ℕ) → Contains xs x → Contains (g x) b → Contains (flat_map g xs) b
  flat_makes g [] x b has at = absurd (no_member x has)
  flat_makes g (y ∷ ys) x b has at = elim (member_cases y ys x has) [
    | inl same ↦ Contains-append_left (g y) (flat_map g ys) b (subst (λ z. Contains (g z) b) (sym same) at)
    | inr rest ↦ Contains-append_right (g y) (flat_map g ys) b (flat_makes g ys x b rest at)
  ]

-- ---- calls by name

-- a call by name of this function stands in the statements
pub data CalledIn (name : List ℕ) : List Stmt → Type 0 where
  here : (x : Stmt) (xs : List Stmt) (c : Calling) → call_of x ≡ Some c → c.callee ≡ Named name → CalledIn name (x ∷ xs)
  later : (x : Stmt) (xs : List Stmt) → CalledIn name xs → CalledIn name (x ∷ xs)

pub data CalledInBlocks (name : List ℕ) : List Block → Type 0 where
  here : (b : Block) (bs : List Block) → CalledIn name b.body → CalledInBlocks name (b ∷ bs)
  later : (b : Block) (bs : List Block) → CalledInBlocks name bs → CalledInBlocks name (b ∷ bs)

-- ---- what is called or addressed is mentioned

called_in : (name : List ℕ) (xs : List Stmt) → CalledIn name xs → MentionsIn name xs
called_in name _ (CalledIn.here x xs c e is) = MentionsIn.here x xs (Mentions.calls c e is)
called_in name _ (CalledIn.later x xs r) = MentionsIn.later x xs (called_in name xs r)

pub called_mentioned : (name : List ℕ) (bs : List Block) → CalledInBlocks name bs → MentionsInBlocks name bs
called_mentioned name _ (CalledInBlocks.here b bs r) = MentionsInBlocks.body b bs (called_in name b.body r)
called_mentioned name _ (CalledInBlocks.later b bs r) = MentionsInBlocks.later b bs (called_mentioned name bs r)

addressed_in : (name : List ℕ) (xs : List Stmt) (x : Stmt) → Contains xs x → TakesAddress name (operands_of x) → MentionsIn name xs
addressed_in name [] x has t = absurd (no_member x has)
addressed_in name (y ∷ ys) x has t = elim (member_cases y ys x has) [
  | inl same ↦ MentionsIn.here y ys (Mentions.addresses (subst (λ z. TakesAddress name (operands_of z)) (sym same) t))
  | inr rest ↦ MentionsIn.later y ys (addressed_in name ys x rest t)
]

pub addressed_mentioned : (name : List ℕ) (bs : List Block) → AddressedIn name bs → MentionsInBlocks name bs
addressed_mentioned name _ (AddressedIn.body b bs x has t) = MentionsInBlocks.body b bs (addressed_in name b.body x has t)
addressed_mentioned name _ (AddressedIn.end b bs t) = MentionsInBlocks.end b bs t
addressed_mentioned name _ (AddressedIn.later b bs r) = MentionsInBlocks.later b bs (addressed_mentioned name bs r)

-- ---- what is mentioned is called or addressed

parted_in : (name : List ℕ) (xs : List Stmt) → MentionsIn name xs → CalledIn name xs ⊎ ((x : Stmt) × Contains xs x × TakesAddress name (operands_of x))
parted_in name _ (MentionsIn.here x xs (Mentions.calls c e is)) = inl (CalledIn.here x xs c e is)
parted_in name _ (MentionsIn.here x xs (Mentions.addresses t)) = inr (x, member_here x xs, t)
parted_in name _ (MentionsIn.later x xs m) = elim (parted_in name xs m) [
  | inl r ↦ inl (CalledIn.later x xs r)
  | inr (y, has, t) ↦ inr (y, member_later x xs y has, t)
]

pub mentioned_parted : (name : List ℕ) (bs : List Block) → MentionsInBlocks name bs → CalledInBlocks name bs ⊎ AddressedIn name bs
mentioned_parted name _ (MentionsInBlocks.body b bs m) = elim (parted_in name b.body m) [
  | inl r ↦ inl (CalledInBlocks.here b bs r)
  | inr (x, has, t) ↦ inr (AddressedIn.body b bs x has t)
]
mentioned_parted name _ (MentionsInBlocks.end b bs t) = inr (AddressedIn.end b bs t)
mentioned_parted name _ (MentionsInBlocks.later b bs m) = elim (mentioned_parted name bs m) [
  | inl r ↦ inl (CalledInBlocks.later b bs r)
  | inr r ↦ inr (AddressedIn.later b bs r)
]
