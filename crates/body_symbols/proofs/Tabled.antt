-- Tables with one more function.
use Rattle.std.proofs.Common.{◌≡◌, ℕ, ◌+◌, List, [], ◌∷◌, ◌++◌, length, length-append, sym, ◌∙◌, ap, subst, arith}
use Rattle.gimple_core.specs.Sealed.{Sealed}
use Rattle.body_symbols.specs.Found.{OfFunction, Found, AreSymbols}
use Rattle.body_symbols.specs.Tables.{TablesFrom}

more_from : (p : Sealed) (n m : ℕ) (ts : List Found) (t : Found) → n + length ts ≡ m → TablesFrom p n ts → OfFunction p.program m (λ f. AreSymbols p m f t) → TablesFrom p n (ts ++ t ∷ [])
more_from p n m [] t e h g = let same : m ≡ n = omega (arith, e) in (subst (λ k. OfFunction p.program k (λ f. AreSymbols p k f t)) same g, tt)
more_from p n m (x ∷ ts) t e h g = (h.0, more_from p (n + 1) m ts t (omega (arith, e)) h.1 g)

pub one_more : (p : Sealed) (n : ℕ) (ts new : List Found) (t : Found) → (length ts ≡ n) × TablesFrom p 0 ts → OfFunction p.program n (λ f. AreSymbols p n f t) → new ≡ ts ++ t ∷ [] → (length new ≡ n + 1) × TablesFrom p 0 new
one_more p n ts new t h g e =
    let count = h.0 in
    (ap length e ∙ (length-append ts (t ∷ []) ∙ omega (arith, count)), subst (TablesFrom p 0) (sym e) (more_from p 0 n ts t (omega (arith, count)) h.1 g))
