-- The coarsest classes of the forms that agree callee by callee are those of the largest congruence.
use Rattle.std.proofs.Common.{◌≡◌, ℕ, ℤ, zero, suc, ◌<◌, ◌≤◌, ◌==◌, ◌↔◌, inl, inr, Bool, true, false, arith, List, [], ◌∷◌, map, reverse, length, refl, sym, ◌∙◌, ap, subst, Some, slice_get, true≢false}
use Rattle.std.specs.Option.{option_map}
use Rattle.std.proofs.lemmas.Bool.{eqb-true, eq-eqb, cases_lt}
use Rattle.std.proofs.lemmas.List.{get_or_past, length-map, reverse-reverse}
use Rattle.std.proofs.lemmas.Option.{slice_get_within, slice_get-get_or, get_or_from_slice_get, slice_get-map}
use Rattle.gimple_ir.specs.declared.statement.Stmt.{Stmt}
use Rattle.gimple_ir.specs.declared.statement.Stmt.TheVariants.{Copy, Arith, Compare, Convert, Load, Store, Call, Indirect, Get, Put, Abort}
use Rattle.gimple_ir.specs.declared.block.Block.{Block}
use Rattle.gimple_ir.specs.declared.program.Function.{Function}
use Rattle.gimple_ir.specs.declared.program.Program.{Program}
use Rattle.gimple_core.specs.Accepted.{IsAccepted}
use Rattle.gimple_core.specs.Env.{Env, named, functions_by_name}
use Rattle.gimple_core.specs.Run.{function_named, main_name}
use Rattle.gimple_core.specs.Typed.{StatementTyped, BodyTyped, BlocksTyped, FunctionsTyped, env_of}
use Rattle.gimple_core.proofs.EnvLemmas.{named_find}
use Rattle.gimple_core.proofs.ProgramTyped.{accepted_typed}
use Rattle.icf_classes.specs.Placed.{placed_function, number_of, with_callee, callees_in_body, callees_in_blocks, callees_of}
use Rattle.icf_classes.specs.Congruence.{Relation, AreRelated, IsCongruence, class_of, one_class, IsRepresentative, AreLargestClasses}
use Rattle.icf_classes.specs.Settled.{settled_class, settled_classes}
use Rattle.icf_classes.specs.Codes.{code_function, form_row, AreFormClasses}
use Rattle.icf_classes.proofs.Reading.{same_code}
use Rattle.partition_refinement.specs.Relations.{row_of}
use Rattle.partition_refinement.specs.Coarsest.{Below, Agrees, IsCoarsest}
use Rattle.icf_classes.proofs.Numbers.{named_at, main_there}

-- ---- what a function calls is a function

module _ (p : Program) where
  found_below : (name : List ℕ) (g : Function) → named name (functions_by_name p.functions) ≡ Some g → number_of p name < length p.functions
  unfolding function_named
  found_below name g e =
      let there : function_named name p.functions ≡ Some g = sym (named_find (λ (f : Function). f.name) name p.functions) ∙ e in
      slice_get_within p.functions (number_of p name) g (sym (named_at p name) ∙ there)

  stmt_below : (env : Env) (x : Stmt) (rest : List ℕ) → StatementTyped env (functions_by_name p.functions) x → Below (length p.functions) rest → Below (length p.functions) (with_callee p x rest)
  stmt_below env (Copy to from) rest t b = b
  stmt_below env (Arith to left op right) rest t b = b
  stmt_below env (Compare to left cmp right) rest t b = b
  stmt_below env (Convert to scalar from) rest t b = b
  stmt_below env (Load to scalar place) rest t b = b
  stmt_below env (Store scalar place from) rest t b = b
  stmt_below env (Call to callee arguments) rest t b = (found_below callee t.0 t.1, b)
  stmt_below env (Indirect to signature callee arguments) rest t b = b
  stmt_below env (Get to) rest t b = b
  stmt_below env (Put from) rest t b = b
  stmt_below env Abort rest t b = b

  body_below : (env : Env) (xs : List Stmt) (rest : List ℕ) → BodyTyped env (functions_by_name p.functions) xs → Below (length p.functions) rest → Below (length p.functions) (callees_in_body p xs rest)
  body_below env [] rest t b = b
  body_below env (x ∷ xs) rest t b = stmt_below env x (callees_in_body p xs rest) t.0 (body_below env xs rest t.1 b)

  blocks_below : (env : Env) (bs : List Block) → BlocksTyped env (functions_by_name p.functions) bs → Below (length p.functions) (callees_in_blocks p bs)
  blocks_below env [] t = tt
  blocks_below env (b ∷ bs) t = body_below env b.body (callees_in_blocks p bs) t.0 (blocks_below env bs t.2)

  typed_below : (fs : List Function) (k : ℕ) (f : Function) → FunctionsTyped p fs → slice_get fs k ≡ Some f → Below (length p.functions) (callees_in_blocks p f.blocks)
  typed_below [] k f t e = cc
  typed_below (x ∷ fs) zero f t e = let same : x ≡ f = cc in subst (λ (z : Function). Below (length p.functions) (callees_in_blocks p z.blocks)) same (blocks_below (env_of p x) x.blocks t.2)
  typed_below (x ∷ fs) (suc k) f t e = typed_below fs k f t.3 e

  callees_below : IsAccepted p → (k : ℕ) (f : Function) → slice_get p.functions k ≡ Some f → Below (length p.functions) (callees_of p f)
  unfolding callees_of
  callees_below accepted k f e = let typed = accepted_typed p accepted in typed_below p.functions k f typed.1 e

-- ---- related lists of callees

same_related : (R : Relation) (n : ℕ) (classes xs ys : List ℕ) → ((a b : ℕ) → a < n → b < n → class_of classes a ≡ class_of classes b → R a b ≡ true) → Below n xs → Below n ys → map (class_of classes) xs ≡ map (class_of classes) ys → AreRelated R xs ys
same_related R n classes [] [] h b c e = tt
same_related R n classes [] (y ∷ ys) h b c e = cc
same_related R n classes (x ∷ xs) [] h b c e = cc
same_related R n classes (x ∷ xs) (y ∷ ys) h b c e =
    let one : class_of classes x ≡ class_of classes y = cc in
    let more : map (class_of classes) xs ≡ map (class_of classes) ys = cc in
    (h x y b.0 c.0 one, same_related R n classes xs ys h b.1 c.1 more)

-- ---- classes of functions

-- Classes named by their first function. The functions of a class have one form, and call the same classes in their order;
-- what some congruence relates is in one class.
pub record IsFound (p : Program) (classes : List ℕ) : Type 0 where
  pub count : length classes ≡ length p.functions
  pub low : (i : ℕ) → i < length p.functions → class_of classes i ≤ i
  pub named : (i : ℕ) → i < length p.functions → class_of classes (class_of classes i) ≡ class_of classes i
  pub forms : (i j : ℕ) (f g : Function) → slice_get p.functions i ≡ Some f → slice_get p.functions j ≡ Some g → class_of classes i ≡ class_of classes j → placed_function f ≡ placed_function g
  pub calls : (i j : ℕ) (f g : Function) → slice_get p.functions i ≡ Some f → slice_get p.functions j ≡ Some g → class_of classes i ≡ class_of classes j → map (class_of classes) (callees_of p f) ≡ map (class_of classes) (callees_of p g)
  pub holds : (R : Relation) → IsCongruence p R → (i j : ℕ) → i < length p.functions → j < length p.functions → R i j ≡ true → class_of classes i ≡ class_of classes j

function_at : (p : Program) (i : ℕ) → i < length p.functions → (f : Function) × (slice_get p.functions i ≡ Some f)
function_at p i l = at p.functions i l
  where
    at : (fs : List Function) (k : ℕ) → k < length fs → (f : Function) × (slice_get fs k ≡ Some f)
    at [] k m = absurd (omega (arith, m))
    at (f ∷ fs) zero m = (f, refl)
    at (f ∷ fs) (suc k) m = at fs k (omega (arith, m))

form_at : (p : Program) (i : ℕ) (f : Function) → slice_get p.functions i ≡ Some f → slice_get (map form_row p.functions) i ≡ Some (form_row f)
form_at p i f e = slice_get-map form_row p.functions i ∙ ap (option_map form_row) e

-- rows are equal where the forms are
same_rows : (f g : Function) → placed_function f ≡ placed_function g → form_row f ≡ form_row g
unfolding form_row
same_rows f g e = ap (λ x. reverse (code_function x [])) e

same_forms : (f g : Function) → form_row f ≡ form_row g → placed_function f ≡ placed_function g
unfolding form_row
same_forms f g e =
    same_code (placed_function f) (placed_function g)
    (sym (reverse-reverse (code_function (placed_function f) [])) ∙ (ap reverse e ∙ reverse-reverse (code_function (placed_function g) [])))

row_at : (p : Program) (i : ℕ) (f : Function) → slice_get p.functions i ≡ Some f → row_of (map (callees_of p) p.functions) i ≡ callees_of p f
row_at p i f e = get_or_from_slice_get (map (callees_of p) p.functions) i (callees_of p f) [] (slice_get-map (callees_of p) p.functions i ∙ ap (option_map (callees_of p)) e)

module _ (p : Program) (first : List ℕ) (forms : AreFormClasses p first) where
  first_forms : (i j : ℕ) (f g : Function) → slice_get p.functions i ≡ Some f → slice_get p.functions j ≡ Some g → class_of first i ≡ class_of first j → placed_function f ≡ placed_function g
  first_forms i j f g a b e =
      let l = slice_get_within p.functions i f a in
      let m = slice_get_within p.functions j g b in
      let rows : Some (form_row f) ≡ Some (form_row g) = sym (form_at p i f a) ∙ ((forms.same i j l m).0 e ∙ form_at p j g b) in
      same_forms f g cc

  forms_first : (i j : ℕ) (f g : Function) → slice_get p.functions i ≡ Some f → slice_get p.functions j ≡ Some g → placed_function f ≡ placed_function g → class_of first i ≡ class_of first j
  forms_first i j f g a b e =
      let l = slice_get_within p.functions i f a in
      let m = slice_get_within p.functions j g b in
      (forms.same i j l m).1 (form_at p i f a ∙ (ap Some (same_rows f g e) ∙ sym (form_at p j g b)))

  -- a congruence agrees with the forms and the callees
  agrees : (R : Relation) → IsCongruence p R → Agrees first (map (callees_of p) p.functions) R
  agrees R c =
      let count = forms.count in
      record {
        within = λ i j l m r.
            let a = function_at p i (omega (arith, l, count)) in
            let b = function_at p j (omega (arith, m, count)) in
            forms_first i j a.0 b.0 a.1 b.1 (c.alike i j a.0 b.0 a.1 b.1 r).form;
        alike = λ i j l m r.
            let a = function_at p i (omega (arith, l, count)) in
            let b = function_at p j (omega (arith, m, count)) in
            subst (λ xs. AreRelated R xs (row_of (map (callees_of p) p.functions) j)) (sym (row_at p i a.0 a.1))
            (subst (λ ys. AreRelated R (callees_of p a.0) ys) (sym (row_at p j b.0 b.1)) (c.alike i j a.0 b.0 a.1 b.1 r).callees);
      }

  pub found_classes : (classes : List ℕ) → IsCoarsest first (map (callees_of p) p.functions) classes → IsFound p classes
  found_classes classes are =
      let count = forms.count in
      record {
        count = are.count ∙ count;
        low = λ i l. are.low i (omega (arith, l, count));
        named = λ i l. are.named i (omega (arith, l, count));
        forms = λ i j f g a b e.
            let l = slice_get_within p.functions i f a in
            let m = slice_get_within p.functions j g b in
            first_forms i j f g a b (are.finer i j (omega (arith, l, count)) (omega (arith, m, count)) e);
        calls = λ i j f g a b e.
            let l = slice_get_within p.functions i f a in
            let m = slice_get_within p.functions j g b in
            ap (map (class_of classes)) (sym (row_at p i f a)) ∙ (are.stable i j (omega (arith, l, count)) (omega (arith, m, count)) e ∙ ap (map (class_of classes)) (row_at p j g b));
        holds = λ R c i j l m r. are.coarsest R (agrees R c) i j (omega (arith, l, count)) (omega (arith, m, count)) r;
      }

-- ---- main as the representative

module _ (p : Program) (accepted : IsAccepted p) (classes : List ℕ) (found : IsFound p classes) (main : ℕ) (main_is : main ≡ number_of p main_name) where
  abbrev final : List ℕ
  final = settled_classes classes main

  of_main : ℕ
  of_main = class_of classes main

  main_low : main < length p.functions
  main_low = let m = main_there p accepted in let l = slice_get_within p.functions (number_of p main_name) m.0 (sym (named_at p main_name) ∙ m.1) in omega (arith, l, main_is)

  final_count : length (settled_classes classes main) ≡ length p.functions
  final_count = length-map classes (settled_class (class_of classes main) main) ∙ found.count

  final_at : (i : ℕ) → i < length p.functions → class_of (settled_classes classes main) i ≡ settled_class (class_of classes main) main (class_of classes i)
  final_at i l =
      let c = found.count in
      get_or_from_slice_get (settled_classes classes main) i _ i
      (slice_get-map (settled_class (class_of classes main) main) classes i ∙ ap (option_map (settled_class (class_of classes main) main)) (slice_get-get_or classes i i (omega (arith, l, c))))

  final_past : (i : ℕ) → length p.functions ≤ i → class_of (settled_classes classes main) i ≡ i
  final_past i l = let c = final_count in get_or_past (settled_classes classes main) i i (omega (arith, l, c))

  -- the class of main has main's number, and others theirs
  in_main : (i : ℕ) → i < length p.functions → class_of classes i ≡ class_of classes main → class_of (settled_classes classes main) i ≡ main
  in_main i l e = final_at i l ∙ rw (eq-eqb (class_of classes i) (class_of classes main) e) refl

  not_main : (i : ℕ) → i < length p.functions → (class_of classes i == class_of classes main) ≡ false → class_of (settled_classes classes main) i ≡ class_of classes i
  not_main i l e = final_at i l ∙ rw e refl

  abbrev test : ℕ → Bool
  test i = class_of classes i == class_of classes main

  -- the same classes as before
  final_same : (i j : ℕ) → i < length p.functions → j < length p.functions → class_of classes i ≡ class_of classes j → class_of (settled_classes classes main) i ≡ class_of (settled_classes classes main) j
  final_same i j l m e = final_at i l ∙ (ap (settled_class (class_of classes main) main) e ∙ sym (final_at j m))

  other_not : (i : ℕ) → i < length p.functions → (class_of classes i == class_of classes main) ≡ false → class_of classes i ≡ main → ⊥
  other_not i l t e =
      let fixed = found.named i l in
      let same : class_of classes i ≡ class_of classes main = sym fixed ∙ ap (class_of classes) e in
      true≢false (sym (eq-eqb (class_of classes i) (class_of classes main) same) ∙ t)

  same_by : (i j : ℕ) → i < length p.functions → j < length p.functions → (a b : Bool) → (class_of classes i == class_of classes main) ≡ a → (class_of classes j == class_of classes main) ≡ b → class_of (settled_classes classes main) i ≡ class_of (settled_classes classes main) j → class_of classes i ≡ class_of classes j
  same_by i j l m true true s t e = eqb-true (class_of classes i) (class_of classes main) s ∙ sym (eqb-true (class_of classes j) (class_of classes main) t)
  same_by i j l m true false s t e = absurd (other_not j m t (sym (not_main j m t) ∙ (sym e ∙ in_main i l (eqb-true (class_of classes i) (class_of classes main) s))))
  same_by i j l m false true s t e = absurd (other_not i l s (sym (not_main i l s) ∙ (e ∙ in_main j m (eqb-true (class_of classes j) (class_of classes main) t))))
  same_by i j l m false false s t e = sym (not_main i l s) ∙ (e ∙ not_main j m t)

  same_final : (i j : ℕ) → i < length p.functions → j < length p.functions → one_class (settled_classes classes main) i j ≡ true → class_of classes i ≡ class_of classes j
  same_final i j l m e = same_by i j l m (test i) (test j) refl refl (eqb-true (class_of (settled_classes classes main) i) (class_of (settled_classes classes main) j) e)

  final_one : (i j : ℕ) → i < length p.functions → j < length p.functions → class_of classes i ≡ class_of classes j → one_class (settled_classes classes main) i j ≡ true
  final_one i j l m e = eq-eqb (class_of (settled_classes classes main) i) (class_of (settled_classes classes main) j) (final_same i j l m e)

  congruence : IsCongruence p (one_class (settled_classes classes main))
  congruence =
      let k : ℕ → ℕ = class_of (settled_classes classes main) in
      record {
        reflexive = λ i. eq-eqb (k i) (k i) refl;
        symmetric = λ i j e. eq-eqb (k j) (k i) (sym (eqb-true (k i) (k j) e));
        transitive = λ i j m e h. eq-eqb (k i) (k m) (eqb-true (k i) (k j) e ∙ eqb-true (k j) (k m) h);
        alike = λ i j f g a b e.
            let l = slice_get_within p.functions i f a in
            let m = slice_get_within p.functions j g b in
            let before : class_of classes i ≡ class_of classes j = same_final i j l m e in
            let rows = found.calls i j f g a b before in
            record {
              form = found.forms i j f g a b before;
              callees = same_related (one_class (settled_classes classes main)) (length p.functions) classes (callees_of p f) (callees_of p g) final_one (callees_below p accepted i f a) (callees_below p accepted j g b) rows;
            };
      }

  -- the number of a class is of a function
  number_low : (i : ℕ) → i < length p.functions → class_of classes i < length p.functions
  number_low i l = let low = found.low i l in omega (arith, low, l)

  represented_by : (i : ℕ) → i < length p.functions → (b : Bool) → (class_of classes i == class_of classes main) ≡ b → IsRepresentative p (one_class (settled_classes classes main)) i (class_of (settled_classes classes main) i)
  represented_by i l true t =
      let same : class_of classes i ≡ class_of classes main = eqb-true (class_of classes i) (class_of classes main) t in
      let here : class_of (settled_classes classes main) i ≡ main = in_main i l same in
      record {
        member = subst (λ r. one_class (settled_classes classes main) i r ≡ true) (sym here) (final_one i main l main_low same);
        main = λ e. here ∙ main_is;
        first = λ e. absurd (true≢false (sym (final_one i main l main_low same) ∙ (ap (λ r. one_class (settled_classes classes main) i r) main_is ∙ e)));
      }
  represented_by i l false t =
      let here : class_of (settled_classes classes main) i ≡ class_of classes i = not_main i l t in
      record {
        member = subst (λ r. one_class (settled_classes classes main) i r ≡ true) (sym here) (final_one i (class_of classes i) l (number_low i l) (sym (found.named i l)));
        main = λ e.
            let same : class_of classes i ≡ class_of classes main = same_final i main l main_low (ap (λ r. one_class (settled_classes classes main) i r) main_is ∙ e) in
            absurd (true≢false (sym (eq-eqb (class_of classes i) (class_of classes main) same) ∙ t));
        first = λ e j h. elim (cases_lt j (length p.functions)) [
          | inl m ↦ let same = same_final i j l m h in let low = found.low j m in omega (arith, here, same, low)
          | inr m ↦ let low = number_low i l in omega (arith, here, low, m)
        ];
      }

  -- these classes are those of the largest congruence
  pub largest_classes : AreLargestClasses p (settled_classes classes main)
  largest_classes =
      let c = final_count in
      record {
        classes = record {
          count = final_count;
          congruence = congruence;
          representatives = λ i l. represented_by i (omega (arith, l, c)) (test i) refl;
        };
        largest = λ i j l m o. final_one i j (omega (arith, l, c)) (omega (arith, m, c)) (found.holds o.relation o.congruence i j (omega (arith, l, c)) (omega (arith, m, c)) o.related);
      }

-- ---- from the rows of forms and of callees to the classes

-- classes that are the same where rows of forms are
pub are_form_classes : (p : Program) (rows : List (List ℤ)) (first : List ℕ) → rows ≡ map form_row p.functions → length first ≡ length rows →
    ((i j : ℕ) → i < length rows → j < length rows → (class_of first i ≡ class_of first j) ↔ (slice_get rows i ≡ slice_get rows j)) → AreFormClasses p first
are_form_classes p rows first e count same =
    let many : length rows ≡ length p.functions = ap length e ∙ length-map p.functions form_row in
    record {
      count = count ∙ many;
      same = λ i j l m. subst (λ (xs : List (List ℤ)). (class_of first i ≡ class_of first j) ↔ (slice_get xs i ≡ slice_get xs j)) e (same i j (omega (arith, l, many)) (omega (arith, m, many)));
    }

-- the rows of callees are of functions
pub rows_count : {V : Type 0} (of : V → List ℕ) (p : Program) (first : List ℕ) (rows : List V) → AreFormClasses p first → map of rows ≡ map (callees_of p) p.functions → length rows ≡ length first
rows_count of p first rows forms e = sym (length-map rows of) ∙ (ap length e ∙ (length-map p.functions (callees_of p) ∙ sym forms.count))

pub rows_below : (p : Program) → IsAccepted p → (first : List ℕ) (rows : List (List ℕ)) → AreFormClasses p first → rows ≡ map (callees_of p) p.functions → (i : ℕ) → i < length first → Below (length first) (row_of rows i)
rows_below p accepted first rows forms e i l =
    let count = forms.count in
    let a = function_at p i (omega (arith, l, count)) in
    let row : row_of rows i ≡ callees_of p a.0 = ap (λ (xs : List (List ℕ)). row_of xs i) e ∙ row_at p i a.0 a.1 in
    subst (λ n. Below n (row_of rows i)) (sym count) (subst (λ xs. Below (length p.functions) xs) (sym row) (callees_below p accepted i a.0 a.1))

pub largest_found : (p : Program) → IsAccepted p → (first : List ℕ) (rows : List (List ℕ)) → AreFormClasses p first → rows ≡ map (callees_of p) p.functions → (classes : List ℕ) → IsCoarsest first rows classes → (main : ℕ) → main ≡ number_of p main_name → (numbers : List ℕ) → numbers ≡ settled_classes classes main → AreLargestClasses p numbers
largest_found p accepted first rows forms e classes are main main_is numbers n =
    subst (AreLargestClasses p) (sym n) (largest_classes p accepted classes (found_classes p first forms classes (subst (λ (xs : List (List ℕ)). IsCoarsest first xs classes) e are)) main main_is)
