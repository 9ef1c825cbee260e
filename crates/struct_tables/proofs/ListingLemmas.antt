-- The slots of a variable, listed one after the other.
use Rattle.std.proofs.Common.{◌≡◌, ℕ, zero, suc, ◌<◌, ◌≤◌, ◌^◌, List, [], ◌∷◌, ◌++◌, length, get_or, take, Some, None, sym, ◌∙◌, ap, arith}
use Rattle.std.specs.List.{All, slice_get}
use Rattle.std.proofs.Math.Seq.{take-suc}
use Rattle.std.proofs.lemmas.List.{length-append, take_all}
use Rattle.std.proofs.lemmas.List.Elements.{All-get_or}
use Rattle.std.proofs.lemmas.Option.{slice_get_within, get_or_from_slice_get}
use Rattle.gimple_ir.specs.declared.declarations.Decl.{Decl}
use Rattle.gimple_ir.specs.declared.value.LayoutSlot.{LayoutSlot}
use Rattle.gimple_core.specs.Layout.{KnownLayout}
use Rattle.gimple_core.specs.Layout.{decl_layout, IsLayout}
use Rattle.gimple_core.proofs.LayoutLemmas.{decl_is}
use Rattle.struct_tables.proofs.SolidLemmas.{Solid, lawful_all}

module _ {X : Type 0} where
  -- with the next item
  pub one_more : (all some : List X) (x : X) → some ≡ take (length some) all → slice_get all (length some) ≡ Some x → some ++ x ∷ [] ≡ take (length (some ++ x ∷ [])) all
  one_more all some x e g =
      let next : length (some ++ x ∷ []) ≡ suc (length some) = (let n = length-append some (x ∷ []) in omega (arith, n)) in
      ap (λ ys. ys ++ x ∷ []) e
      ∙ ap (λ y. take (length some) all ++ y ∷ []) (sym (get_or_from_slice_get all (length some) x x g))
      ∙ sym (take-suc all (length some) x (slice_get_within all (length some) x g))
      ∙ ap (λ k. take k all) (sym next)

  past : (xs : List X) (i : ℕ) → slice_get xs i ≡ None → length xs ≤ i
  past [] i h = omega arith
  past (x ∷ xs) zero h = cc
  past (x ∷ xs) (suc i) h = let more : length xs ≤ i = past xs i h in omega (arith, more)

  -- there is no next item
  pub no_more : (all some : List X) → some ≡ take (length some) all → slice_get all (length some) ≡ None → some ≡ all
  no_more all some e g = e ∙ take_all (length some) all (past all (length some) g)

-- a slot of a small variable
pub offset_small : (known : List KnownLayout) (d : Decl) (i : ℕ) (s : LayoutSlot) → All Solid known → (decl_layout known d).size ≤ 2 ^ 24 → slice_get (decl_layout known d).slots i ≡ Some s → s.offset < 2 ^ 64
offset_small known d i s h small e =
    let l : IsLayout (decl_layout known d) = decl_is known d (lawful_all known h) in
    let w : (get_or (decl_layout known d).slots i s).offset < (decl_layout known d).size = All-get_or (λ k. k.offset < (decl_layout known d).size) (decl_layout known d).slots i s (slice_get_within (decl_layout known d).slots i s e) l.slots in
    let k : (get_or (decl_layout known d).slots i s).offset ≡ s.offset = ap (λ (x : LayoutSlot). x.offset) (get_or_from_slice_get (decl_layout known d).slots i s s e) in
    omega (arith, w, k, small)
