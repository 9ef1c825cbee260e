-- What the code has that writes a value back which did not rise.
use Rattle.std.proofs.Common.{◌≡◌, ℕ, ◌<◌, not, Bool, true, List, set, sym, ◌∙◌, ap, subst}
use Rattle.std.proofs.lemmas.List.{set-get_or}
use Rattle.fix_engine.specs.Lattice.{LatticeLaws}
use Rattle.fix_engine.specs.Least.{Equations, FlowLaws, IsBetween, value_at}
use Rattle.fix_engine.specs.Solving.{raised}
use Rattle.fix_engine.proofs.Rising.{source_fits}
use Rattle.fix_engine.proofs.Pending.{posted_same}

pub raised_unchanged : {V : Type 0} {fits : List ℕ → V → Type 0} {height : List ℕ → ℕ} {rank : List ℕ → V → ℕ} {below : V → V → Bool} {joined : V → V → V}
    (lat : LatticeLaws fits height rank below joined) (k : List ℕ) (s : Equations V) (flow : FlowLaws (fits k) below s)
    (xs : List V) (between : IsBetween (fits k) below s xs) (e : ℕ) (is_edge : e < s.edges) (i : ℕ) (into : V) → i ≡ s.target e → into ≡ value_at s xs (s.target e)
    → below (s.flow e (value_at s xs (s.source e))) (value_at s xs (s.target e)) ≡ true → set xs i into ≡ raised joined s xs e
raised_unchanged {V} {fits} {height} {rank} {below} {joined} lat k s flow xs between e is_edge i into i_is into_is low =
    let P : ℕ → Type 0 = λ n. set xs n into ≡ xs in
    let back : set xs (s.target e) into ≡ xs = ap (set xs (s.target e)) into_is ∙ set-get_or xs (s.target e) (s.start (s.target e)) in
    subst P (sym i_is) back ∙ sym (posted_same lat k s flow xs between e is_edge (value_at s xs (s.source e)) (source_fits lat k s flow xs between e is_edge) (ap not low))
