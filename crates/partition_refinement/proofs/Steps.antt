-- The steps of loops over lists of items.
use Rattle.std.proofs.Common.{◌≡◌, ℕ, zero, suc, ◌+◌, ◌<◌, ◌≤◌, ◌⊎◌, inl, inr, Bool, true, false, cond, ◌||◌, nat_eq, ◌↔◌, ℤ, List, [], ◌∷◌, ◌++◌, length, get_or, take, set, replicate, map, filter, Some, slice_get, Contains, refl, sym, ◌∙◌, ap, subst, arith, length-set, length-append}
use Rattle.std.specs.List.{list_any}
use Rattle.std.proofs.lemmas.Bool.{eqb-true, cases_lt, true≢false}
use Rattle.std.proofs.lemmas.List.{take_more, take_all, get_or-map, get_or-replicate, get_or_past, get_or_default, get_or_append_left, length-replicate, length-map}
use Rattle.std.proofs.lemmas.List.Elements.{Contains-get_or, Contains-append_left, Contains-push, Contains-push_cases}
use Rattle.partition_refinement.specs.Relations.{class_of, row_of}
use Rattle.partition_refinement.specs.Coarsest.{Below}
use Rattle.partition_refinement.specs.Stages.{key_of}
use Rattle.partition_refinement.specs.Splitting.{IsIn, AddsCaller, AreCallers, AreMembers, IsGrouping, Gathers, IsSet, AreItems, TouchedBy, pair_of, is_of}
use Rattle.partition_refinement.proofs.Members.{caller_more, callers_more, members_more, groups_more, gathers_more, below_in, contains_tail, contains_head}
use Rattle.partition_refinement.proofs.Regarding.{set_more, noted_more, items_kept, members_moved}

pub below_at : (n : ℕ) (xs : List ℕ) (i x : ℕ) → Below n xs → i < length xs → x ≡ get_or xs i 0 → x < n
below_at n xs i x b l e = let low = below_in n xs b (get_or xs i 0) (Contains-get_or xs i 0 l) in omega (arith, low, e)

-- a property of the first items, of one more and of all
pub taken_more : (P : List ℕ → Type 0) (xs : List ℕ) (i x : ℕ) → i < length xs → x ≡ get_or xs i 0 → P (take i xs ++ x ∷ []) → P (take (i + 1) xs)
taken_more P xs i x l e p = subst P (sym (take_more xs i 0 l ∙ ap (λ z. take i xs ++ z ∷ []) (sym e))) p

pub taken_all : (P : List ℕ → Type 0) (xs : List ℕ) (i : ℕ) → length xs ≤ i → P (take i xs) → P xs
taken_all P xs i l p = subst P (take_all i xs l) p

pub caller_step : (old : List (List ℕ)) (item : ℕ) (row : List ℕ) (i x : ℕ) (lists new : List (List ℕ)) → AddsCaller old item (take i row) lists → i < length row → x ≡ get_or row i 0 → x < length lists → new ≡ set lists x (row_of lists x ++ item ∷ []) → AddsCaller old item (take (i + 1) row) new
caller_step old item row i x lists new adds l e w h = taken_more (λ r. AddsCaller old item r new) row i x l e (subst (AddsCaller old item (take i row ++ x ∷ [])) (sym h) (caller_more old item (take i row) lists x adds w))

pub set_step : (old items : List ℕ) (class i x : ℕ) (now new : List ℕ) → IsSet old (take i items) class now → i < length items → x ≡ get_or items i 0 → x < length now → new ≡ set now x class → IsSet old (take (i + 1) items) class new
set_step old items class i x now new is l e w h = taken_more (λ r. IsSet old r class new) items i x l e (subst (IsSet old (take i items ++ x ∷ []) class) (sym h) (set_more old (take i items) class now x is w))

pub gathers_step : (leads : ℕ → ℕ → Type 0) (items : List ℕ) (i y : ℕ) (old between new : List ℕ) → Gathers leads (take i items) old between → i < length items → y ≡ get_or items i 0
    → ((x : ℕ) → Contains between x → Contains new x) → ((x : ℕ) → leads y x → Contains new x) → ((x : ℕ) → Contains new x → Contains between x ⊎ leads y x)
    → Gathers leads (take (i + 1) items) old new
gathers_step leads items i y old between new gathers l e keeps found only = taken_more (λ r. Gathers leads r old new) items i y l e (gathers_more leads (take i items) y old between new gathers keeps found only)

-- ---- sets of items

any_in : (xs : List ℕ) (x : ℕ) → list_any (nat_eq x) xs ≡ true → Contains xs x
any_in [] x e = absurd (true≢false (sym e))
any_in (y ∷ xs) x e = by (nat_eq x y) refl e (λ d. any_in xs x d)
  where
    by : (b : Bool) → nat_eq x y ≡ b → (b || list_any (nat_eq x) xs) ≡ true → (list_any (nat_eq x) xs ≡ true → Contains xs x) → Contains (y ∷ xs) x
    by true t f more = subst (Contains (y ∷ xs)) (sym (eqb-true x y t)) (contains_head y xs)
    by false t f more = contains_tail y xs x (more f)

record Inserts (old new : List ℕ) (item : ℕ) : Type 0 where
  keeps : (x : ℕ) → Contains old x → Contains new x
  found : Contains new item
  only : (x : ℕ) → Contains new x → Contains old x ⊎ (item ≡ x)

module _ (old new : List ℕ) (item : ℕ) where
  inserted : (b : Bool) → list_any (nat_eq item) old ≡ b → new ≡ cond b old (old ++ item ∷ []) → Inserts old new item
  inserted true t e = record { keeps = λ x c. subst (λ l. Contains l x) (sym e) c; found = subst (λ l. Contains l item) (sym e) (any_in old item t); only = λ x c. inl (subst (λ l. Contains l x) e c) }
  inserted false t e = record { keeps = λ x c. subst (λ l. Contains l x) (sym e) (Contains-append_left old (item ∷ []) x c); found = subst (λ l. Contains l item) (sym e) (Contains-push old item); only = λ x c. Contains-push_cases old item x (subst (λ l. Contains l x) e c) }

pub insert_step : (more : List ℕ) (i y : ℕ) (old between new : List ℕ) → Gathers (λ item x. item ≡ x) (take i more) old between → i < length more → y ≡ get_or more i 0 → new ≡ cond (list_any (nat_eq y) between) between (between ++ y ∷ []) → Gathers (λ item x. item ≡ x) (take (i + 1) more) old new
insert_step more i y old between new gathers l e h =
    let parts = inserted between new y (list_any (nat_eq y) between) refl h in
    gathers_step (λ item x. item ≡ x) more i y old between new gathers l e parts.keeps (λ x s. subst (Contains new) s parts.found) parts.only

pub callers_step : (callers : List (List ℕ)) (called : List ℕ) (i y : ℕ) (old between new list : List ℕ) → Gathers (IsIn callers) (take i called) old between → i < length called → y ≡ get_or called i 0 → list ≡ row_of callers y → Gathers (λ item x. item ≡ x) list between new → Gathers (IsIn callers) (take (i + 1) called) old new
callers_step callers called i y old between new list gathers l e h all = gathers_step (IsIn callers) called i y old between new gathers l e
    all.keeps
    (λ x c. all.found x x (subst (λ r. Contains r x) (sym h) c) refl)
    (λ x c. elim (all.only x c) [ inl d ↦ inl d | inr from ↦ inr (subst (λ r. Contains r x) h (subst (Contains list) from.leads_here from.there)) ])

pub touched_step : (classes : List ℕ) (callers : List (List ℕ)) (work : List ℕ) (i y : ℕ) (old between new items : List ℕ) → Gathers (TouchedBy classes callers) (take i work) old between → i < length work → y ≡ get_or work i 0 → AreItems classes y items → Gathers (IsIn callers) items between new → Gathers (TouchedBy classes callers) (take (i + 1) work) old new
touched_step classes callers work i y old between new items gathers l e are all = gathers_step (TouchedBy classes callers) work i y old between new gathers l e
    all.keeps
    (λ x t. all.found t.item x (are.found t.item t.within t.of_class) t.called)
    (λ x c. elim (all.only x c) [
      | inl d ↦ inl d
      | inr from ↦ inr (record { item = from.item; within = (are.only from.item from.there).0; of_class = (are.only from.item from.there).1; called = from.leads_here })
    ])

-- ---- rows

pub row_value : {X : Type 0} (items : X → List ℕ) (rows : List X) (i : ℕ) (x : X) (row : List ℕ) → i < length rows → x ≡ get_or rows i x → row ≡ items x → row ≡ row_of (map items rows) i
row_value items rows i x row l e h = h ∙ (ap items e ∙ sym (get_or-map items rows i x [] l))

pub no_rows : (n e : ℕ) → row_of (replicate n []) e ≡ []
no_rows n e = elim (cases_lt e n) [
  | inl l ↦ get_or-replicate n e [] [] l
  | inr m ↦ get_or_past (replicate n []) e [] (let size = length-replicate {A = List ℕ} n [] in omega (arith, size, m))
]

pub callers_next : (rows old : List (List ℕ)) (n : ℕ) (row : List ℕ) (new : List (List ℕ)) → AreCallers rows n old → AddsCaller old n row new → row ≡ row_of rows n → AreCallers rows (n + 1) new
callers_next rows old n row new are adds e = callers_more rows old n new are (subst (λ r. AddsCaller old n r new) e adds)

pub member_step : (classes : List ℕ) (n class : ℕ) (lists new : List (List ℕ)) → AreMembers classes lists n → class ≡ get_or classes n 0 → n < length classes → class < length lists → new ≡ set lists class (row_of lists class ++ n ∷ []) → AreMembers classes new (n + 1)
member_step classes n class lists new are e l w h = subst (λ m. AreMembers classes m (n + 1)) (sym h) (members_more classes n class lists are (e ∙ get_or_default classes n 0 n l) w)

pub group_step : (items numbers : List ℕ) (n at item : ℕ) (lists new : List (List ℕ)) → IsGrouping items numbers n lists → at ≡ get_or numbers n 0 → item ≡ get_or items n 0 → at < length lists → new ≡ set lists at (row_of lists at ++ item ∷ []) → IsGrouping items numbers (n + 1) new
group_step items numbers n at item lists new is e f w h = subst (IsGrouping items numbers (n + 1)) (sym h) (groups_more items numbers n at item lists is e f w)

-- the list has one more, wherever an item was put
pub put_size : (lists new : List (List ℕ)) (at : ℕ) (list : List ℕ) (n : ℕ) → length lists ≡ n → new ≡ set lists at list → length new ≡ n
put_size lists new at list n e h = ap length h ∙ (length-set lists at list ∙ e)

-- a key more
pub key_step : (classes : List ℕ) (rows : List (List ℕ)) (items : List ℕ) (n item : ℕ) (keys new : List (List ℤ)) (key : List ℤ) (row : List ℕ) → length keys ≡ n
    → ((k : ℕ) → k < n → slice_get keys k ≡ Some (key_of classes (get_or items k 0) (row_of rows (get_or items k 0)))) → item ≡ get_or items n 0 → row ≡ row_of rows item → key ≡ key_of classes item row → new ≡ keys ++ key ∷ []
    → (k : ℕ) → k < n + 1 → slice_get new k ≡ Some (key_of classes (get_or items k 0) (row_of rows (get_or items k 0)))
key_step classes rows items n item keys new key row size have e f g h k l =
    let value : key ≡ key_of classes (get_or items n 0) (row_of rows (get_or items n 0)) = g ∙ (ap (key_of classes item) f ∙ ap (λ z. key_of classes z (row_of rows z)) e) in
    ap (λ ks. slice_get ks k) (h ∙ ap (λ z. keys ++ z ∷ []) value) ∙ noted_more (λ z. key_of classes (get_or items z 0) (row_of rows (get_or items z 0))) n keys size have k l

-- and the numbers of equal keys are the same
pub numbers_same : (classes : List ℕ) (rows : List (List ℕ)) (items : List ℕ) (keys : List (List ℤ)) (numbers : List ℕ) → length keys ≡ length items
    → ((k : ℕ) → k < length items → slice_get keys k ≡ Some (key_of classes (get_or items k 0) (row_of rows (get_or items k 0))))
    → ((i j : ℕ) → i < length keys → j < length keys → (class_of numbers i ≡ class_of numbers j) ↔ (slice_get keys i ≡ slice_get keys j))
    → (a b : ℕ) → a < length items → b < length items → key_of classes (get_or items a 0) (row_of rows (get_or items a 0)) ≡ key_of classes (get_or items b 0) (row_of rows (get_or items b 0)) → class_of numbers a ≡ class_of numbers b
numbers_same classes rows items keys numbers size have tell a b l m e = (tell a b (omega (arith, l, size)) (omega (arith, m, size))).1 (have a l ∙ (ap Some e ∙ sym (have b m)))

-- a pair more
pub pair_step : (classes plain : List ℕ) (n : ℕ) (pairs new : List (List ℤ)) (pair : List ℤ) (a b : ℕ) → length pairs ≡ n → ((k : ℕ) → k < n → slice_get pairs k ≡ Some (pair_of (class_of classes k) (class_of plain k))) → a ≡ class_of classes n → b ≡ class_of plain n → pair ≡ pair_of a b → new ≡ pairs ++ pair ∷ []
    → (k : ℕ) → k < n + 1 → slice_get new k ≡ Some (pair_of (class_of classes k) (class_of plain k))
pair_step classes plain n pairs new pair a b size have e f g h k l =
    let value : pair ≡ pair_of (class_of classes n) (class_of plain n) = g ∙ (λ i. pair_of (e i) (f i)) in
    ap (λ ks. slice_get ks k) (h ∙ ap (λ z. pairs ++ z ∷ []) value) ∙ noted_more (λ z. pair_of (class_of classes z) (class_of plain z)) n pairs size have k l

-- ---- lists under numbers, kept in some form

map_set : {X : Type 0} (items : X → List ℕ) (lists : List X) (at : ℕ) (new : X) → map items (set lists at new) ≡ set (map items lists) at (items new)
map_set items [] at new = refl
map_set items (x ∷ lists) zero new = refl
map_set items (x ∷ lists) (suc at) new = λ i. items x ∷ map_set items lists at new i

pub bucket_put : {X : Type 0} (items : X → List ℕ) (lists : List X) (at : ℕ) (x new : X) (item : ℕ) (value : List (List ℕ)) → map items lists ≡ value → at < length value → x ≡ get_or lists at x → items new ≡ items x ++ item ∷ [] → map items (set lists at new) ≡ set value at (row_of value at ++ item ∷ [])
bucket_put items lists at x new item value view l e h =
    let size = ap length view in
    let many = length-map lists items in
    let row : items x ≡ row_of value at = row_value items lists at x (items x) (omega (arith, l, size, many)) e refl ∙ ap (λ v. row_of v at) view in
    map_set items lists at new ∙ ((λ i. set (view i) at (h i)) ∙ ap (λ r. set value at (r ++ item ∷ [])) row)

pub items_found : (classes shown value : List ℕ) (members : List (List ℕ)) (class : ℕ) (list items : List ℕ) → AreMembers classes members (length classes) → shown ≡ classes → classes ≡ value → list ≡ row_of members class → items ≡ filter (is_of shown class) list → AreItems value class items
items_found classes shown value members class list items are e f g h =
    let same : items ≡ filter (is_of classes class) (row_of members class) = h ∙ (λ i. filter (is_of (e i) class) (g i)) in
    subst (λ v. AreItems v class items) f (subst (AreItems classes class) (sym same) (items_kept classes members class are))

pub members_out : (classes : List ℕ) (members more : List (List ℕ)) (items list new : List ℕ) (to : ℕ) → AreMembers classes members (length classes) → IsSet classes items to new → to ≡ length members → more ≡ members ++ list ∷ [] → list ≡ items → AreMembers new more (length new)
members_out classes members more items list new to are is e f g =
    let one : more ≡ members ++ items ∷ [] = f ∙ ap (λ l. members ++ l ∷ []) g in
    subst (λ m. AreMembers new m (length new)) (sym one) (members_moved classes members items new are (subst (λ t. IsSet classes items t new) e is))

-- a list behind the others leaves the members where they are
pub members_added : (classes : List ℕ) (members more : List (List ℕ)) (list : List ℕ) → AreMembers classes members (length classes) → more ≡ members ++ list ∷ [] → AreMembers classes more (length classes)
members_added classes members more list are f =
    let size = length-append members (list ∷ []) in
    subst (λ m. AreMembers classes m (length classes)) (sym f) (record {
      within = λ x l. let low = are.within x l in omega (arith, low, size);
      inside = λ x l. subst (λ z. Contains z x) (sym (get_or_append_left members (list ∷ []) [] (class_of classes x) (are.within x l))) (are.inside x l);
    })
