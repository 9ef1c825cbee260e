-- What the marks of addressed functions say of the functions that stay.
use Rattle.std.proofs.Common.{◌≡◌, ◌↔◌, ◌⊎◌, inl, inr, ℕ, ◌+◌, ◌<◌, Bool, true, false, cond, ◌||◌, arith, List, [], ◌∷◌, ◌++◌, map, filter, length, get_or, take, refl, sym, ◌∙◌, ap, subst, Some, None, slice_get, IsTrue, nat_lt, not}
use Rattle.std.specs.Str.{bytes_eq}
use Rattle.std.specs.List.{position, position_or_len}
use Rattle.std.proofs.lemmas.Bool.{ltb-false}
use Rattle.std.proofs.lemmas.List.{take_more, map-append, get_or_past}
use Rattle.std.proofs.lemmas.List.Elements.{filter-append}
use Rattle.std.proofs.lemmas.List.Sums.{prefix_len-le-length}
use Rattle.std.proofs.lemmas.Option.{slice_get_past}
use Rattle.gimple_ir.specs.declared.program.Function.{Function}
use Rattle.gimple_ir.specs.declared.program.Program.{Program}
use Rattle.gimple_core.specs.Run.{function_named, main_name}
use Rattle.gimple_core.specs.Reach.{IsAddressed}
use Rattle.gimple_core.proofs.NameLemmas.{same_name_true, same_name_self}
use Rattle.call_graph.specs.Reached.{AreAddressed}
use Rattle.icf_classes.specs.Placed.{number_of}
use Rattle.icf_classes.specs.Merged.{sent_function, IsMerged}
use Rattle.icf_classes.specs.Mergers.{Merging, stays_by, sent_in, kept_in, merged_in}
use Rattle.icf_classes.proofs.Numbers.{named_at, named_so, none_past}

module _ (p : Program) (marks : List Bool) (are : AreAddressed p marks) (name : List ℕ) (f : Function) (found : function_named name p.functions ≡ Some f) where
  marked_so : (get_or marks (number_of p name) false ≡ true) ↔ IsAddressed p name
  marked_so =
      let at : slice_get p.functions (number_of p name) ≡ Some f = sym (named_at p name) ∙ found in
      subst (λ n. (get_or marks (number_of p name) false ≡ true) ↔ IsAddressed p n) (named_so p name f found) (are.exact (number_of p name) f at)

  stays_so : (a b : Bool) → bytes_eq name main_name ≡ a → get_or marks (number_of p name) false ≡ b → (a || b) ≡ true → (name ≡ main_name) ⊎ IsAddressed p name
  stays_so true b e m h = inl (same_name_true name main_name e)
  stays_so false b e m h = inr (marked_so.0 (m ∙ h))

  or_right : (a : Bool) → (a || true) ≡ true
  or_right true = refl
  or_right false = refl

  so_stays : (name ≡ main_name) ⊎ IsAddressed p name → stays_by p marks name ≡ true
  so_stays (inl e) = ap (λ b. b || get_or marks (number_of p name) false) (ap (λ n. bytes_eq n main_name) e ∙ same_name_self main_name)
  so_stays (inr a) = ap (λ b. bytes_eq name main_name || b) (marked_so.1 a) ∙ or_right (bytes_eq name main_name)

  pub marks_exact : IsTrue (stays_by p marks name) ↔ ((name ≡ main_name) ⊎ IsAddressed p name)
  marks_exact = (λ h. stays_so (bytes_eq name main_name) (get_or marks (number_of p name) false) refl refl h, so_stays)

-- the program that comes out
pub merged_by : (p q : Program) (marks : List Bool) (classes : List ℕ) → AreAddressed p marks → q.profile ≡ p.profile → q.structs ≡ p.structs → q.globals ≡ p.globals →
    q.functions ≡ merged_in (record { program = p; marks = marks; classes = classes }) p.functions → IsMerged p classes q
unfolding merged_in
merged_by p q marks classes are profile structs globals functions = record {
  stays = stays_by p marks;
  exact = λ name f e. marks_exact p marks are name f e;
  program = λ i. record { profile = profile i; structs = structs i; globals = globals i; functions = functions i };
}

-- ---- loops and look-ups

-- one function more
pub merged_more : (m : Merging) (fs : List Function) (i : ℕ) (f : Function) (kept pushed : List Function) → i < length fs → f ≡ get_or fs i f → pushed ≡ kept ++ merged_in m (f ∷ []) → kept ≡ merged_in m (take i fs) → pushed ≡ merged_in m (take (i + 1) fs)
unfolding merged_in
merged_more m fs i f kept pushed l is push so =
    let keep : Function → Bool = λ g. kept_in m g.name in
    let sends : Function → Function = sent_function (sent_in m) in
    let more : take (i + 1) fs ≡ take i fs ++ f ∷ [] = take_more fs i f l ∙ ap (λ (g : Function). take i fs ++ g ∷ []) (sym is) in
    push ∙ (ap (λ ks. ks ++ filter keep (map sends (f ∷ []))) so
    ∙ (sym (filter-append keep (map sends (take i fs)) (map sends (f ∷ [])))
    ∙ (ap (filter keep) (sym (map-append sends (take i fs) (f ∷ []))) ∙ ap (λ (gs : List Function). filter keep (map sends gs)) (sym more))))

pub none_merged : (m : Merging) (fs : List Function) → fs ≡ [] → fs ≡ merged_in m []
unfolding merged_in
none_merged m fs e = e

-- an item past the end
pub missing_item : {X : Type 0} (xs : List X) (k : ℕ) (d : X) → None ≡ slice_get xs k → d ≡ get_or xs k d
missing_item xs k d e = sym (get_or_past xs k d (none_past xs k (sym e)))

-- the number of a name that no function has
pub missing_number : (p : Program) (name : List ℕ) (n : ℕ) → None ≡ position (λ (f : Function). bytes_eq f.name name) p.functions → n ≡ length p.functions → n ≡ number_of p name
unfolding number_of
missing_number p name n e l =
    let high = none_past p.functions (position_or_len (λ (f : Function). bytes_eq f.name name) p.functions) (by (nat_lt (position_or_len (λ (f : Function). bytes_eq f.name name) p.functions) (length p.functions)) refl e) in
    let low = prefix_len-le-length (λ (f : Function). not (bytes_eq f.name name)) p.functions in
    omega (arith, high, low, l)
  where
    by : (b : Bool) → nat_lt (position_or_len (λ (f : Function). bytes_eq f.name name) p.functions) (length p.functions) ≡ b →
        None ≡ cond b (Some (position_or_len (λ (f : Function). bytes_eq f.name name) p.functions)) None → slice_get p.functions (position_or_len (λ (f : Function). bytes_eq f.name name) p.functions) ≡ None
    by true t h = cc
    by false t h = slice_get_past p.functions (position_or_len (λ (f : Function). bytes_eq f.name name) p.functions) (ltb-false (position_or_len (λ (f : Function). bytes_eq f.name name) p.functions) (length p.functions) t)
