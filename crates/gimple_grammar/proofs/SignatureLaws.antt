-- The readers of results, signatures and indirect calls.
use Rattle.std.proofs.Common.{◌≡◌, ℕ, not, List, [], ◌∷◌, ◌++◌, Option, Some, None, refl, sym, ap, ◌∙◌, inl, inr}
use Rattle.std.proofs.lemmas.List.{append-nil}
use Rattle.gimple_ir.specs.declared.operand.Operand.{Operand}
use Rattle.gimple_ir.specs.declared.scalar.Scalar.{Scalar}
use Rattle.gimple_ir.specs.declared.statement.Signature.{Signature}
use Rattle.gimple_ir.specs.declared.statement.Stmt.{Stmt}
use Rattle.gimple_ir.specs.declared.statement.Stmt.TheVariants.{Indirect}
use Rattle.gimple_tokens.specs.declared.token.Symbol.TheVariants as s
use Rattle.gimple_tokens.specs.declared.token.Token.TheVariants as tok
use Rattle.token_law.specs.Reading.{Tokens, sees}
use Rattle.token_law.proofs.ReadsExactly.{ReadsExactly, IsEither, Avoids, never, pure_exact, choose_exact, recast}
use Rattle.token_law.proofs.Leaves.{IsKeyed, sees_head, sees_self, fixed_exact, name_exact, keyed_exact}
use Rattle.token_law.proofs.Lists.{after, then_symbol, separated_exact}
use Rattle.gimple_grammar.specs.Grammar.{scalar_symbol, IsArguments, IsResult, IsScalar, IsSignature}
use Rattle.gimple_grammar.specs.Readers.{scalar, result, signature, indirect}
use Rattle.gimple_grammar.proofs.ValueLaws.{scalar_differs, scalar_exact, arguments_exact}

abbrev IsGiven : Option Scalar → Tokens → Type 0
IsGiven o ts = (k : Scalar) × (o ≡ Some k) × (ts ≡ tok.Fixed (scalar_symbol k) ∷ [])

result_from : (o : Option Scalar) (ts : Tokens) → IsResult o ts → IsEither (IsKeyed s.Void None) IsGiven o ts
result_from None ts h = inl (refl, h)
result_from (Some k) ts h = inr (k, refl, h)

pub result_exact : ReadsExactly result IsResult never
unfolding result
result_exact = recast (choose_exact (sees s.Void) (sees_head s.Void) _ _ (IsKeyed s.Void None) IsGiven never (keyed_exact s.Void None)
    (recast (after scalar_exact (λ k. pure_exact (Some k)))
    (λ o ts h. (h.0, h.4.0, cc))
    (λ o ts h. (h.0, tok.Fixed (scalar_symbol h.0) ∷ [], [], refl, (h.1, refl), h.2)))
    (λ o pre rest h stop. rw h.1 (sees_self s.Void rest))
    (λ o pre rest h stop. rw h.2 (scalar_differs s.Void refl h.0 rest)))
    (λ o ts h. elim h [ inl a ↦ rw a.0 a.1 | inr b ↦ rw b.1 b.2 ])
    result_from

scalar_avoids : Avoids (sees s.Close) IsScalar
scalar_avoids k pre rest h = rw h (scalar_differs s.Close refl k rest)

signature_exact : ReadsExactly signature IsSignature never
unfolding signature
signature_exact = recast (after (fixed_exact s.Less) (λ _. after result_exact (λ gives. after (fixed_exact s.Open) (λ _.
    then_symbol s.Close (separated_exact scalar IsScalar never scalar_exact (λ ts e. refl) (λ rest e. refl) scalar_avoids) (λ rest e. ap not e)
    (λ params. after (fixed_exact s.Greater) (λ _. pure_exact (record { params = params; result = gives })))))))
    (λ g ts h.
    let r = h.4 in
    let p = r.4.4 in
    let e : g ≡ record { params = p.0; result = r.0 } = p.4.4.4.0 in
    let last : p.2 ≡ tok.Fixed s.Close ∷ tok.Fixed s.Greater ∷ [] = cc in
    let k : r.2 ≡ tok.Fixed s.Open ∷ p.1 ++ (tok.Fixed s.Close ∷ tok.Fixed s.Greater ∷ []) = cc in
    rw e (r.1, p.1, r.3, p.3, cc))
    (λ g ts h.
    let t3 = tok.Fixed s.Close ∷ tok.Fixed s.Greater ∷ [] in
    let t2 = h.1 ++ t3 in
    let t1 = tok.Fixed s.Open ∷ t2 in (
      tt,
      tok.Fixed s.Less ∷ [],
      h.0 ++ t1,
      refl,
      (
        g.result,
        h.0,
        t1,
        h.2,
        (
          tt,
          tok.Fixed s.Open ∷ [],
          t2,
          refl,
          (g.params, h.1, t3, h.3, (tt, tok.Fixed s.Close ∷ [], tok.Fixed s.Greater ∷ [], refl, (tt, tok.Fixed s.Greater ∷ [], [], refl, (refl, refl), refl), refl), refl),
          refl,
        ),
        refl,
      ),
      h.4,
    ))

abbrev pub IsIndirect : Option (List ℕ) → Stmt → Tokens → Type 0
IsIndirect to b ts = (g : Signature) × (x : List ℕ) × (xs : List Operand) × (a : Tokens) × (c : Tokens)
    × (b ≡ Indirect to g x xs) × IsSignature g a × IsArguments xs c × (ts ≡ tok.Fixed s.Star ∷ a ++ (tok.Name x ∷ c))

pub indirect_exact : (to : Option (List ℕ)) → ReadsExactly (indirect to) (IsIndirect to) never
unfolding indirect
indirect_exact to = recast (after (fixed_exact s.Star) (λ _. after signature_exact (λ g. after name_exact (λ x. after arguments_exact (λ xs. pure_exact (Indirect to g x xs))))))
    (λ b ts h.
    let g = h.4 in
    let n = g.4 in
    let xs = n.4 in
    let e : n.2 ≡ xs.1 = xs.5 ∙ ap (λ y. xs.1 ++ y) xs.4.1 ∙ append-nil xs.1 in
    let k : g.2 ≡ tok.Name n.0 ∷ xs.1 = cc in
    (g.0, n.0, xs.0, g.1, xs.1, xs.4.0, g.3, xs.3, cc))
    (λ b ts h. (
      tt,
      tok.Fixed s.Star ∷ [],
      h.3 ++ (tok.Name h.1 ∷ h.4),
      refl,
      (h.0, h.3, tok.Name h.1 ∷ h.4, h.6, (h.1, tok.Name h.1 ∷ [], h.4, refl, (h.2, h.4, [], h.7, (h.5, refl), sym (append-nil h.4)), refl), refl),
      h.8,
    ))
