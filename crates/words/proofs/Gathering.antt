-- What words ask for, after one word more.
use Rattle.std.proofs.Common.{◌≡◌, ℕ, List, [], ◌∷◌, ◌++◌, Option, None, Some, Result, Ok, Bool, false, suc, ◌+◌, ◌-◌, ◌<◌, length, length-drop, get_or, drop, eqb, drop-cons, add-one, refl, sym, ap, ◌∙◌, arith}
use Rattle.std.proofs.lemmas.Bool.Decides.{nat_tests}
use Rattle.words.specs.declared.item.Pending.{Pending}
use Rattle.words.specs.Items.{item_of}
use Rattle.words.specs.Sequence.{items_from, is_nil, pending_of, last_of, repeats}
use Rattle.std.specs.Option.{option_or}
use Rattle.words.specs.declared.item.Pass.TheVariants.{Cp, CpClone, BitCp, Vrp, Sra, Modref, Icf}
use Rattle.words.specs.declared.item.Param.TheVariants.{ValueListSize, EvalThreshold, UnitGrowth, LargeUnitInsns, MaxAggItems, MaxReplacements, PtrGrowthFactor, SraUnitGrowth, MaxBases, MaxRefs, MaxAccesses}
use Rattle.words.specs.declared.item.Dump.TheVariants.{Cgraph, Icf as DumpIcf, Cp as DumpCp, Sra as DumpSra, Modref as DumpModref}
use Rattle.words.specs.declared.item.Item.{Item}
use Rattle.words.specs.declared.item.Item.TheVariants.{Source, Level, Turn, Set, Dump as DumpItem, OutputOption, Output, ParamOption, Summary, Workers, Mode as ModeItem}
use Rattle.words.specs.declared.gathered.Gathered.{Gathered}
use Rattle.words.specs.declared.options.UsageFault.{UsageFault}
use Rattle.words.specs.Gathered.{gather, gathered_of, repeats_in, map_gathered}

or-or : {A : Type 0} (x y z : Option A) → option_or (option_or x y) z ≡ option_or x (option_or y z)
or-or None y z = refl
or-or (Some x) y z = refl

none : {A : Type 0} (x : Option A) → option_or None x ≡ option_or x None
none None = refl
none (Some x) = refl

last_of-push : {A : Type 0} (pick : Item → Option A) (is : List Item) (i : Item) → last_of pick (is ++ i ∷ []) ≡ option_or (pick i) (last_of pick is)
last_of-push pick [] i = none (pick i)
last_of-push pick (x ∷ is) i = rw (last_of-push pick is i) (or-or (pick i) (last_of pick is) (pick x))

pub gathered_of-push : (is : List Item) (i : Item) → gathered_of (is ++ i ∷ []) ≡ gather (gathered_of is) i
gathered_of-push is (Source source) = simp last_of-push
gathered_of-push is (Level n) = simp last_of-push
gathered_of-push is (Turn Cp on) = simp last_of-push
gathered_of-push is (Turn CpClone on) = simp last_of-push
gathered_of-push is (Turn BitCp on) = simp last_of-push
gathered_of-push is (Turn Vrp on) = simp last_of-push
gathered_of-push is (Turn Sra on) = simp last_of-push
gathered_of-push is (Turn Modref on) = simp last_of-push
gathered_of-push is (Turn Icf on) = simp last_of-push
gathered_of-push is (Set ValueListSize v) = simp last_of-push
gathered_of-push is (Set EvalThreshold v) = simp last_of-push
gathered_of-push is (Set UnitGrowth v) = simp last_of-push
gathered_of-push is (Set LargeUnitInsns v) = simp last_of-push
gathered_of-push is (Set MaxAggItems v) = simp last_of-push
gathered_of-push is (Set MaxReplacements v) = simp last_of-push
gathered_of-push is (Set PtrGrowthFactor v) = simp last_of-push
gathered_of-push is (Set SraUnitGrowth v) = simp last_of-push
gathered_of-push is (Set MaxBases v) = simp last_of-push
gathered_of-push is (Set MaxRefs v) = simp last_of-push
gathered_of-push is (Set MaxAccesses v) = simp last_of-push
gathered_of-push is (DumpItem Cgraph name) = simp last_of-push
gathered_of-push is (DumpItem DumpIcf name) = simp last_of-push
gathered_of-push is (DumpItem DumpCp name) = simp last_of-push
gathered_of-push is (DumpItem DumpSra name) = simp last_of-push
gathered_of-push is (DumpItem DumpModref name) = simp last_of-push
gathered_of-push is OutputOption = simp last_of-push
gathered_of-push is (Output name) = simp last_of-push
gathered_of-push is ParamOption = simp last_of-push
gathered_of-push is (Summary name) = simp last_of-push
gathered_of-push is (Workers n) = simp last_of-push
gathered_of-push is (ModeItem mode) = simp last_of-push

pub repeats-gathered_of : (is : List Item) (i : Item) → repeats_in (gathered_of is) i ≡ repeats is i
repeats-gathered_of is (Source source) = refl
repeats-gathered_of is OutputOption = refl
repeats-gathered_of is i = refl

pub items-step : (seen : List Item) (word : ℕ) (pending : Pending) (w : List ℕ) (ws : List (List ℕ)) (last : Bool) (i : Item) → last ≡ is_nil ws → Ok i ≡ item_of word pending w last → repeats seen i ≡ false → items_from seen word pending (w ∷ ws) ≡ items_from (seen ++ i ∷ []) (word + 1) (pending_of i) ws
items-step seen word pending w ws last i n e h =
    let f : item_of word pending w (is_nil ws) ≡ Ok i = rw (sym n) (sym e) in
    rw (f, h)

is_nil-length : (ws : List (List ℕ)) → is_nil ws ≡ eqb (length ws) 0
is_nil-length [] = refl
is_nil-length (w ∷ ws) = grind (arith, nat_tests)

last-test : (i n : ℕ) → i < n → eqb (i + 1) n ≡ eqb (n - (i + 1)) 0
last-test i n h = grind (arith, nat_tests)

pub is_nil-drop : (words : List (List ℕ)) (i : ℕ) → i < length words → eqb (i + 1) (length words) ≡ is_nil (drop (i + 1) words)
is_nil-drop words i h = last-test i (length words) h ∙ sym (is_nil-length (drop (i + 1) words) ∙ ap (λ n. eqb n 0) (length-drop (i + 1) words))

pub drop-at : (words : List (List ℕ)) (i : ℕ) (w : List ℕ) → i < length words → w ≡ get_or words i w → drop i words ≡ w ∷ drop (i + 1) words
drop-at words i w h e = rw (add-one, drop-cons words i w) (ap (λ x. x ∷ drop (suc i) words) (sym e))

pub gathered-step : (words : List (List ℕ)) (i : ℕ) (seen : List Item) (pending : Pending) (w : List ℕ) (item : Item) (g : Result Gathered UsageFault) → i < length words → w ≡ get_or words i w → Ok item ≡ item_of (i + 1) pending w (eqb (i + 1) (length words)) → repeats seen item ≡ false → map_gathered (items_from seen (i + 1) pending (drop i words)) ≡ g → map_gathered (items_from (seen ++ item ∷ []) (i + 1 + 1) (pending_of item) (drop (i + 1) words)) ≡ g
gathered-step words i seen pending w item g lt here said new h =
    let d = drop-at words i w lt here in
    let step = items-step seen (i + 1) pending w (drop (i + 1) words) (eqb (i + 1) (length words)) item (is_nil-drop words i lt) said new in
    sym (ap (λ (ws : List (List ℕ)). map_gathered (items_from seen (i + 1) pending ws)) d ∙ ap map_gathered step) ∙ h
