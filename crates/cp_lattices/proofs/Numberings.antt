-- One function more gets numbers for its formals.
use Rattle.std.proofs.Common.{◌≡◌, ◌≢◌, ◌↔◌, ◌⊎◌, inl, inr, ℕ, zero, suc, ◌+◌, ◌^◌, ◌<◌, ◌≤◌, eqb, Bool, true, false, cond, List, [], ◌∷◌, ◌++◌, length, set, get_or, refl, sym, ◌∙◌, ap, subst, arith, Option, Some, None, slice_get, sum_by}
use Rattle.std.proofs.lemmas.Bool.{eqb-true, eq-eqb, cases_eq}
use Rattle.std.proofs.lemmas.List.{length-set, length-append, get_or-set_same, get_or-set_other}
use Rattle.std.proofs.lemmas.Option.{slice_get_within, get_or_from_slice_get}
use Rattle.std.proofs.lemmas.List.Elements.{All-get_or}
use Rattle.std.proofs.lemmas.List.Sums.{sum_by-cons}
use Rattle.std.specs.List.{All}
use Rattle.gimple_ir.specs.declared.declarations.Register.{Register}
use Rattle.gimple_ir.specs.declared.program.Function.{Function}
use Rattle.gimple_core.specs.Reach.{IsAddressed}
use Rattle.gimple_core.specs.Sealed.{Sealed}
use Rattle.cp_lattices.specs.declared.numbering.Node.{Node}
use Rattle.cp_lattices.specs.declared.numbering.Numbering.{Numbering}
use Rattle.cp_lattices.specs.Few.{formals_of_program}
use Rattle.cp_lattices.specs.Lattices.{IsFormal}
use Rattle.cp_lattices.specs.Numbered.{node_at, is_node, place_of, nodes_from, numbered_formals, IsNode, AreNumbered}

-- ---- lists

pub get_first : {A : Type 0} (xs ys : List A) (k : ℕ) (x : A) → slice_get xs k ≡ Some x → slice_get (xs ++ ys) k ≡ Some x
get_first [] ys k x e = cc
get_first (y ∷ xs) ys zero x e = e
get_first (y ∷ xs) ys (suc k) x e = get_first xs ys k x e

pub get_next : {A : Type 0} (xs ys : List A) (k : ℕ) → slice_get (xs ++ ys) (length xs + k) ≡ slice_get ys k
get_next [] ys k = ap (slice_get ys) (omega arith)
get_next (x ∷ xs) ys k = let e : length (x ∷ xs) + k ≡ suc (length xs + k) = omega arith in ap (slice_get ((x ∷ xs) ++ ys)) e ∙ get_next xs ys k

-- an item of two lists is one of the first or of the second
pub get_either : {A : Type 0} (xs ys : List A) (k : ℕ) (x : A) → slice_get (xs ++ ys) k ≡ Some x → (slice_get xs k ≡ Some x) ⊎ ((j : ℕ) × (slice_get ys j ≡ Some x))
get_either [] ys k x e = inr (k, e)
get_either (y ∷ xs) ys zero x e = inl e
get_either (y ∷ xs) ys (suc k) x e = get_either xs ys k x e

-- what holds of each item holds of the one at a place
pub all_at : {A : Type 0} (P : A → Type 0) (xs : List A) (k : ℕ) (x : A) → All P xs → slice_get xs k ≡ Some x → P x
all_at P xs k x h e = subst P (get_or_from_slice_get xs k x x e) (All-get_or P xs k x (slice_get_within xs k x e) h)

-- ---- the nodes of a function

-- a node of them, with its formal
record IsFrom (n : ℕ) (b : Bool) (i : ℕ) (rs : List Register) (x : Node) : Type 0 where
  pub place : ℕ
  pub register : Register
  pub there : slice_get rs place ≡ Some register
  pub is : x ≡ record { function = n; formal = i + place; scalar = register.scalar; addressed = b }

is_from : (n : ℕ) (b : Bool) (i : ℕ) (rs : List Register) (k : ℕ) (x : Node) → slice_get (nodes_from n b i rs) k ≡ Some x → IsFrom n b i rs x
unfolding nodes_from
is_from n b i [] k x e = cc
is_from n b i (r ∷ rs) zero x e =
    let same : record { function = n; formal = i; scalar = r.scalar; addressed = b } ≡ x = cc in
    let z : i ≡ i + 0 = omega arith in
    record { place = 0; register = r; there = refl; is = sym same ∙ (λ j. record { function = n; formal = z j; scalar = r.scalar; addressed = b }) }
is_from n b i (r ∷ rs) (suc k) x e =
    let rest = is_from n b (i + 1) rs k x e in
    let z : (i + 1) + rest.place ≡ i + suc rest.place = omega arith in
    record { place = suc rest.place; register = rest.register; there = rest.there; is = rest.is ∙ (λ j. record { function = n; formal = z j; scalar = rest.register.scalar; addressed = b }) }

from_is : (n : ℕ) (b : Bool) (i : ℕ) (rs : List Register) (k : ℕ) (r : Register) → slice_get rs k ≡ Some r → slice_get (nodes_from n b i rs) k ≡ Some (record { function = n; formal = i + k; scalar = r.scalar; addressed = b })
unfolding nodes_from
from_is n b i [] k r e = cc
from_is n b i (s ∷ rs) zero r e =
    let same : s ≡ r = cc in
    let z : i ≡ i + 0 = omega arith in
    λ j. Some (record { function = n; formal = z j; scalar = (same j).scalar; addressed = b })
from_is n b i (s ∷ rs) (suc k) r e =
    let z : (i + 1) + k ≡ i + suc k = omega arith in
    from_is n b (i + 1) rs k r e ∙ (λ j. Some (record { function = n; formal = z j; scalar = r.scalar; addressed = b }))

from_length : (n : ℕ) (b : Bool) (i : ℕ) (rs : List Register) → length (nodes_from n b i rs) ≡ length rs
unfolding nodes_from
from_length n b i [] = refl
from_length n b i (r ∷ rs) = let e = from_length n b (i + 1) rs in omega (arith, e)

-- ---- how many nodes there are

at_most : (first : ℕ) (b : Bool) (count rest total : ℕ) → rest ≤ total → cond b 0 count + rest ≤ count + total
at_most first true count rest total l = omega (arith, l)
at_most first false count rest total l = omega (arith, l)

numbered_some : (firsts : List ℕ) (fs : List Function) → numbered_formals firsts fs ≤ sum_by (λ (f : Function). length f.params) fs
unfolding numbered_formals
numbered_some [] fs = omega arith
numbered_some (first ∷ firsts) [] = omega arith
numbered_some (first ∷ firsts) (f ∷ fs) = subst (λ n. cond (eqb first 0) 0 (length f.params) + numbered_formals firsts fs ≤ n) (sym (sum_by-cons (λ (x : Function). length x.params) f fs))
    (at_most first (eqb first 0) (length f.params) (numbered_formals firsts fs) (sum_by (λ (x : Function). length x.params) fs) (numbered_some firsts fs))

pub few_nodes : (p : Sealed) (g : Numbering) → AreNumbered p g → formals_of_program p.program + 1 < 2 ^ 32 → length g.nodes + 1 < 2 ^ 32
few_nodes p g a h = let e = a.size in let l = numbered_some g.firsts p.program.functions in omega (arith, e, l, h)

none_numbered : (firsts : List ℕ) (fs : List Function) → ((k : ℕ) → get_or firsts k 0 ≡ 0) → numbered_formals firsts fs ≡ 0
unfolding numbered_formals
none_numbered [] fs h = refl
none_numbered (first ∷ firsts) [] h = refl
none_numbered (first ∷ firsts) (f ∷ fs) h = let z : first ≡ 0 = h 0 in rw (eq-eqb first 0 z) (let rest = none_numbered firsts fs (λ k. h (suc k)) in omega (arith, rest))

not_zero : (v : ℕ) → eqb (v + 1) 0 ≡ false
not_zero v = by (eqb (v + 1) 0) refl
  where
    by : (b : Bool) → eqb (v + 1) 0 ≡ b → b ≡ false
    by true e = absurd (let z = eqb-true (v + 1) 0 e in omega (arith, z))
    by false e = refl

one_more : (firsts : List ℕ) (fs : List Function) (n : ℕ) (f : Function) (v : ℕ) → slice_get fs n ≡ Some f → n < length firsts → get_or firsts n 0 ≡ 0 →
    numbered_formals (set firsts n (v + 1)) fs ≡ numbered_formals firsts fs + length f.params
unfolding numbered_formals
one_more [] fs n f v e l z = absurd (omega (arith, l))
one_more (first ∷ firsts) [] n f v e l z = cc
one_more (first ∷ firsts) (g ∷ fs) zero f v e l z =
    let same : g ≡ f = cc in
    let before : cond (eqb first 0) 0 (length g.params) ≡ 0 = ap (λ b. cond b 0 (length g.params)) (eq-eqb first 0 z) in
    let after : cond (eqb (v + 1) 0) 0 (length g.params) ≡ length g.params = ap (λ b. cond b 0 (length g.params)) (not_zero v) in
    let count : length g.params ≡ length f.params = ap (λ (x : Function). length x.params) same in
    omega (arith, before, after, count)
one_more (first ∷ firsts) (g ∷ fs) (suc n) f v e l z = let rest = one_more firsts fs n f v e (omega (arith, l)) z in omega (arith, rest)

-- ---- none yet

pub unnumbered_are : (p : Sealed) (g : Numbering) → g.nodes ≡ [] → length g.firsts ≡ length p.program.functions → ((k : ℕ) → get_or g.firsts k 0 ≡ 0) → AreNumbered p g
unnumbered_are p g e count zeros = record {
  size = let a : length g.nodes ≡ 0 = ap length e in a ∙ sym (none_numbered g.firsts p.program.functions zeros);
  count = count;
  nodes = λ k x is. absurd (let l = slice_get_within g.nodes k x is in let a : length g.nodes ≡ 0 = ap length e in omega (arith, l, a));
  found = λ n i f r formal l. absurd (let z = zeros n in omega (arith, l, z));
}

-- ---- one function more

node_kept : (nodes more : List Node) (k : ℕ) (x : Node) → node_at nodes k ≡ Some x → node_at (nodes ++ more) k ≡ Some x
node_kept nodes more zero x e = cc
node_kept nodes more (suc k) x e = get_first nodes more k x e

still_node : (nodes more : List Node) (k n i : ℕ) → is_node n i (node_at nodes k) ≡ true → is_node n i (node_at (nodes ++ more) k) ≡ true
still_node nodes more k n i h = by (node_at nodes k) refl h
  where
    by : (o : Option Node) → node_at nodes k ≡ o → is_node n i o ≡ true → is_node n i (node_at (nodes ++ more) k) ≡ true
    by None e t = let no : false ≡ true = t in cc
    by (Some x) e t = subst (λ o. is_node n i o ≡ true) (sym (node_kept nodes more k x e)) t

new_node : (nodes : List Node) (n : ℕ) (b : Bool) (rs : List Register) (i : ℕ) (r : Register) → slice_get rs i ≡ Some r → is_node n i (node_at (nodes ++ nodes_from n b 0 rs) ((length nodes + 1) + i)) ≡ true
new_node nodes n b rs i r e =
    let at : (length nodes + 1) + i ≡ suc (length nodes + i) = omega arith in
    let there : node_at (nodes ++ nodes_from n b 0 rs) ((length nodes + 1) + i) ≡ Some (record { function = n; formal = 0 + i; scalar = r.scalar; addressed = b }) =
    ap (node_at (nodes ++ nodes_from n b 0 rs)) at ∙ (get_next nodes (nodes_from n b 0 rs) i ∙ from_is n b 0 rs i r e) in
    let z : 0 + i ≡ i = omega arith in
    subst (λ o. is_node n i o ≡ true) (sym there) (rw (eq-eqb n n refl, eq-eqb (0 + i) i z) refl)

from_node : (p : Sealed) (n : ℕ) (f : Function) (b : Bool) (x : Node) → slice_get p.program.functions n ≡ Some f → (b ≡ true) ↔ IsAddressed p.program f.name → IsFrom n b 0 f.params x → IsNode p x
from_node p n f b x own is h =
    let z : 0 + h.place ≡ h.place = omega arith in
    let e : x ≡ record { function = n; formal = h.place; scalar = h.register.scalar; addressed = b } = h.is ∙ (λ j. record { function = n; formal = z j; scalar = h.register.scalar; addressed = b }) in
    subst (IsNode p) (sym e) (record { owner = f; register = h.register; formal = record { own = own; declared = h.there }; scalar = refl; addressed = is })

module _ (p : Sealed) (g h : Numbering) (n : ℕ) (f : Function) (b : Bool) (old : AreNumbered p g) (own : slice_get p.program.functions n ≡ Some f) (is : (b ≡ true) ↔ IsAddressed p.program f.name)
    (zeroth : get_or g.firsts n 0 ≡ 0) (nodes : h.nodes ≡ g.nodes ++ nodes_from n b 0 f.params) (firsts : h.firsts ≡ set g.firsts n (length g.nodes + 1)) where
  within : n < length g.firsts
  within = let l = slice_get_within p.program.functions n f own in let c = old.count in omega (arith, l, c)

  first_is : get_or h.firsts n 0 ≡ length g.nodes + 1
  first_is = ap (λ xs. get_or xs n 0) firsts ∙ get_or-set_same g.firsts n (length g.nodes + 1) 0 within

  others : (k : ℕ) → k ≢ n → get_or h.firsts k 0 ≡ get_or g.firsts k 0
  others k apart = ap (λ xs. get_or xs k 0) firsts ∙ get_or-set_other g.firsts n k (length g.nodes + 1) 0 apart

  size_is : length h.nodes ≡ numbered_formals h.firsts p.program.functions
  size_is =
      let a : length h.nodes ≡ length g.nodes + length f.params = ap length nodes ∙ (length-append g.nodes (nodes_from n b 0 f.params) ∙ ap (λ c. length g.nodes + c) (from_length n b 0 f.params)) in
      let c : numbered_formals h.firsts p.program.functions ≡ numbered_formals g.firsts p.program.functions + length f.params = ap (λ xs. numbered_formals xs p.program.functions) firsts ∙ one_more g.firsts p.program.functions n f (length g.nodes) own within zeroth in
      let e = old.size in
      omega (arith, a, c, e)

  nodes_are : (k : ℕ) (x : Node) → slice_get h.nodes k ≡ Some x → IsNode p x
  nodes_are k x e = by (get_either g.nodes (nodes_from n b 0 f.params) k x (ap (λ xs. slice_get xs k) (sym nodes) ∙ e))
    where
      by : (slice_get g.nodes k ≡ Some x) ⊎ ((j : ℕ) × (slice_get (nodes_from n b 0 f.params) j ≡ Some x)) → IsNode p x
      by (inl q) = old.nodes k x q
      by (inr q) = from_node p n f b x own is (is_from n b 0 f.params q.0 x q.1)

  found_are : (k i : ℕ) (d : Function) (r : Register) → IsFormal p k i d r → 0 < get_or h.firsts k 0 → is_node k i (node_at h.nodes (place_of h k i)) ≡ true
  found_are k i d r formal l = subst (λ ns. is_node k i (node_at ns (get_or h.firsts k 0 + i)) ≡ true) (sym nodes) (by (cases_eq k n))
    where
      by : (k ≡ n) ⊎ (k ≢ n) → is_node k i (node_at (g.nodes ++ nodes_from n b 0 f.params) (get_or h.firsts k 0 + i)) ≡ true
      by (inl e) =
          let same : d ≡ f = let s : Some d ≡ Some f = sym formal.own ∙ (ap (slice_get p.program.functions) e ∙ own) in cc in
          let there : slice_get f.params i ≡ Some r = ap (λ (x : Function). slice_get x.params i) (sym same) ∙ formal.declared in
          let at : get_or h.firsts k 0 + i ≡ (length g.nodes + 1) + i = ap (λ c. c + i) (ap (λ c. get_or h.firsts c 0) e ∙ first_is) in
          subst (λ c. is_node c i (node_at (g.nodes ++ nodes_from n b 0 f.params) (get_or h.firsts k 0 + i)) ≡ true) (sym e)
          (subst (λ c. is_node n i (node_at (g.nodes ++ nodes_from n b 0 f.params) c) ≡ true) (sym at) (new_node g.nodes n b f.params i r there))
      by (inr apart) =
          let e = others k apart in
          subst (λ c. is_node k i (node_at (g.nodes ++ nodes_from n b 0 f.params) (c + i)) ≡ true) (sym e)
          (still_node g.nodes (nodes_from n b 0 f.params) (get_or g.firsts k 0 + i) k i (old.found k i d r formal (omega (arith, l, e))))

  pub numbered_more : AreNumbered p h
  numbered_more = record {
    size = size_is;
    count = let a : length h.firsts ≡ length g.firsts = ap length firsts ∙ length-set g.firsts n (length g.nodes + 1) in a ∙ old.count;
    nodes = nodes_are;
    found = found_are;
  }

  pub numbered_here : 0 < get_or h.firsts n 0
  numbered_here = let e = first_is in omega (arith, e)

  pub numbers_kept : (k : ℕ) → 0 < get_or g.firsts k 0 → 0 < get_or h.firsts k 0
  numbers_kept k l = by (cases_eq k n)
    where
      by : (k ≡ n) ⊎ (k ≢ n) → 0 < get_or h.firsts k 0
      by (inl e) = subst (λ c. 0 < get_or h.firsts c 0) (sym e) numbered_here
      by (inr apart) = let e = others k apart in omega (arith, l, e)
