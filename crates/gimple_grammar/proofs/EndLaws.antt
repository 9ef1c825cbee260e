-- The readers of ends and blocks.
use Rattle.std.proofs.Common.{◌≡◌, ℕ, true, false, not, List, [], ◌∷◌, ◌++◌, Option, Some, None, refl, sym, ap, ◌∙◌, inl, inr}
use Rattle.std.proofs.lemmas.List.{append-nil}
use denote.Enum.Bare.{sameb}
use Rattle.gimple_tokens.specs.contracts.token.Symbol.{the_type}
use Rattle.gimple_ir.specs.declared.operand.Operand.{Operand}
use Rattle.gimple_ir.specs.declared.scalar.Cmp.{Cmp}
use Rattle.gimple_ir.specs.declared.block.Case.{Case}
use Rattle.gimple_ir.specs.declared.block.End.{End}
use Rattle.gimple_ir.specs.declared.block.End.TheVariants.{Goto, If, Switch, Return}
use Rattle.gimple_ir.specs.declared.block.Block.{Block}
use Rattle.gimple_tokens.specs.declared.token.Symbol.{Symbol}
use Rattle.gimple_tokens.specs.declared.token.Symbol.TheVariants as s
use Rattle.gimple_tokens.specs.declared.token.Token.TheVariants as tok
use Rattle.token_law.specs.Reading.{Tokens, ◌>>=◌, pure, many, sees, sees_name, not_before}
use Rattle.token_law.specs.Languages.{IsMany}
use Rattle.token_law.proofs.ReadsExactly.{ReadsExactly, IsEither, IsPure, Avoids, never, pure_exact, then_exact, choose_exact, recast, widen, front_avoids}
use Rattle.token_law.proofs.Many.{IsMore, many_exact}
use Rattle.token_law.proofs.Leaves.{sees_head, sees_self, before_sees, seen_other, fixed_exact, number_exact}
use Rattle.token_law.proofs.Lists.{after, then_symbol, then_key, ends_with}
use Rattle.gimple_grammar.specs.Grammar.{cmp_symbol, IsOperand, target_tokens, goto_tokens, IsCase, IsEnd, IsBlock}
use Rattle.gimple_grammar.specs.Readers.{comparison, cmps, operand, begins_statement, statement, target, goto, branches, case_of, switch_end, returned, return_end, ending, block}
use Rattle.gimple_grammar.proofs.ValueLaws.{cmp_differs, comparison_exact, signed_exact, operand_exact, operand_avoids}
use Rattle.gimple_grammar.proofs.BodyLaws.{semi_at, statements_exact}

-- ---- jumps

abbrev IsTarget : ℕ → Tokens → Type 0
IsTarget n ts = ts ≡ target_tokens n

target_exact : ReadsExactly target IsTarget never
unfolding target
target_exact = recast (after (fixed_exact s.Less) (λ _. after (fixed_exact s.Bb) (λ _. after number_exact (λ n. after (fixed_exact s.Greater) (λ _. pure_exact n)))))
    (λ n ts h. let e : n ≡ h.4.4.0 = h.4.4.4.4.0 in rw e (cc))
    (λ n ts h. (
      tt,
      tok.Fixed s.Less ∷ [],
      tok.Fixed s.Bb ∷ tok.Number n ∷ tok.Fixed s.Greater ∷ [],
      refl,
      (
        tt,
        tok.Fixed s.Bb ∷ [],
        tok.Number n ∷ tok.Fixed s.Greater ∷ [],
        refl,
        (n, tok.Number n ∷ [], tok.Fixed s.Greater ∷ [], refl, (tt, tok.Fixed s.Greater ∷ [], [], refl, (refl, refl), refl), refl),
        refl,
      ),
      h,
    ))

abbrev IsGoto : ℕ → Tokens → Type 0
IsGoto n ts = ts ≡ goto_tokens n

goto_exact : ReadsExactly goto IsGoto never
unfolding goto
goto_exact = recast (after (fixed_exact s.Goto) (λ _. after target_exact (λ n. after (fixed_exact s.Semi) (λ _. pure_exact n))))
    (λ n ts h. let e : n ≡ h.4.0 = h.4.4.4.0 in rw e (cc))
    (λ n ts h. (tt, tok.Fixed s.Goto ∷ [], target_tokens n ++ tok.Fixed s.Semi ∷ [], refl, (n, target_tokens n, tok.Fixed s.Semi ∷ [], refl, (tt, tok.Fixed s.Semi ∷ [], [], refl, (refl, refl), refl), refl), h))

-- ---- branches

abbrev if_tokens : Tokens → Cmp → Tokens → ℕ → ℕ → Tokens
if_tokens a c b first second = tok.Fixed s.If ∷ tok.Fixed s.Open ∷ a ++ (tok.Fixed (cmp_symbol c) ∷ b ++ (tok.Fixed s.Close ∷ goto_tokens first ++ tok.Fixed s.Else ∷ goto_tokens second))

abbrev IsBranches : End → Tokens → Type 0
IsBranches d ts = (l : Operand) × (c : Cmp) × (r : Operand) × (first : ℕ) × (second : ℕ) × (a : Tokens) × (b : Tokens) × (d ≡ If l c r first second) × IsOperand l a × IsOperand r b × (ts ≡ if_tokens a c b first second)

branches_exact : ReadsExactly branches IsBranches never
unfolding branches comparison
branches_exact = recast (after (fixed_exact s.If) (λ _. after (fixed_exact s.Open) (λ _. then_key cmp_symbol cmps operand_exact comparison_exact (λ c rest. cmp_differs s.At refl c rest) (λ l c. then_symbol s.Close operand_exact (λ rest e. seen_other s.Close s.At rest refl e) (λ r. after goto_exact (λ first. after (fixed_exact s.Else) (λ _. after goto_exact (λ second. pure_exact (If l c r first second)))))))))
    (λ d ts h.
    let l = h.4.4 in
    let c = l.4 in
    let r = c.4 in
    let g = r.4.4 in
    let k = g.4.4 in
    let e1 : k.2 ≡ [] = k.4.1 in
    let e2 : r.2 ≡ tok.Fixed s.Close ∷ goto_tokens g.0 ++ tok.Fixed s.Else ∷ goto_tokens k.0 = cc in
    (l.0, c.0, r.0, g.0, k.0, l.1, r.1, k.4.0, l.3, r.3, cc))
    (λ d ts h.
    let t8 = goto_tokens h.4 in
    let t7 = tok.Fixed s.Else ∷ t8 in
    let t6 = goto_tokens h.3 ++ t7 in
    let t5 = tok.Fixed s.Close ∷ t6 in
    let t4 = h.6 ++ t5 in
    let t3 = tok.Fixed (cmp_symbol h.1) ∷ t4 in
    let t2 = h.5 ++ t3 in (
      tt,
      tok.Fixed s.If ∷ [],
      tok.Fixed s.Open ∷ t2,
      refl,
      (
        tt,
        tok.Fixed s.Open ∷ [],
        t2,
        refl,
        (
          h.0,
          h.5,
          t3,
          h.8,
          (
            h.1,
            tok.Fixed (cmp_symbol h.1) ∷ [],
            t4,
            refl,
            (
              h.2,
              h.6,
              t5,
              h.9,
              (
                tt,
                tok.Fixed s.Close ∷ [],
                t6,
                refl,
                (h.3, goto_tokens h.3, t7, refl, (tt, tok.Fixed s.Else ∷ [], t8, refl, (h.4, t8, [], refl, (h.7, refl), refl), refl), refl),
                refl,
              ),
              refl,
            ),
            refl,
          ),
          refl,
        ),
        refl,
      ),
      h.10,
    ))

abbrev IsGotoEnd : End → Tokens → Type 0
IsGotoEnd d ts = (n : ℕ) × (d ≡ Goto n) × (ts ≡ goto_tokens n)

goto_end_exact : ReadsExactly (goto >>= λ n. pure (Goto n)) IsGotoEnd never
goto_end_exact = recast (after goto_exact (λ n. pure_exact (Goto n)))
    (λ d ts h. (h.0, h.4.0, let e : ts ≡ h.1 = h.5 ∙ ap (λ y. h.1 ++ y) h.4.1 ∙ append-nil h.1 in e ∙ h.3))
    (λ d ts h. (h.0, ts, [], h.2, (h.1, refl), sym (append-nil ts)))

-- ---- switches

case_exact : ReadsExactly case_of IsCase never
unfolding case_of
case_exact = recast (after (fixed_exact s.Case) (λ _. after signed_exact (λ z. after (fixed_exact s.Colon) (λ _. after target_exact (λ t. after (fixed_exact s.Semi) (λ _. pure_exact (record { value = z; target = t })))))))
    (λ c ts h.
    let z = h.4 in
    let t = z.4.4 in
    let e : c ≡ record { value = z.0; target = t.0 } = t.4.4.0 in
    let f : t.2 ≡ tok.Fixed s.Semi ∷ [] = cc in
    let g : z.2 ≡ tok.Fixed s.Colon ∷ target_tokens t.0 ++ tok.Fixed s.Semi ∷ [] = cc in
    rw e (z.1, z.3, cc))
    (λ c ts h.
    let t4 = tok.Fixed s.Semi ∷ [] in
    let t3 = target_tokens c.target ++ t4 in
    let t2 = tok.Fixed s.Colon ∷ t3 in (
      tt,
      tok.Fixed s.Case ∷ [],
      h.0 ++ t2,
      refl,
      (c.value, h.0, t2, h.1, (tt, tok.Fixed s.Colon ∷ [], t3, refl, (c.target, target_tokens c.target, t4, refl, (tt, t4, [], refl, (refl, refl), refl), refl), refl), refl),
      h.2,
    ))

case_begins : (c : Case) (pre rest : Tokens) → IsCase c pre → sees s.Case (pre ++ rest) ≡ true
case_begins c pre rest h = rw h.2 (sees_self s.Case _)

cases_exact : ReadsExactly (many (sees s.Case) case_of []) (IsMore IsCase []) (sees s.Case)
cases_exact = many_exact (sees s.Case) (sees_head s.Case) case_of IsCase never (sees s.Case) case_exact case_begins (λ ts e. refl) (λ rest e. e) (λ rest e. refl) []

abbrev IsSwitch : End → Tokens → Type 0
IsSwitch d ts = (on : Operand) × (cases : List Case) × (other : ℕ) × (a : Tokens) × (b : Tokens) × (d ≡ Switch on cases other) × IsOperand on a × IsMany IsCase cases b
    × (ts ≡ tok.Fixed s.Switch ∷ tok.Fixed s.Open ∷ a ++ (tok.Fixed s.Close ∷ tok.Fixed s.OpenBrace ∷ b ++ (tok.Fixed s.Default ∷ tok.Fixed s.Colon ∷ target_tokens other ++ tok.Fixed s.Semi ∷ tok.Fixed s.CloseBrace ∷ [])))

switch_exact : ReadsExactly switch_end IsSwitch never
unfolding switch_end
switch_exact = recast (after (fixed_exact s.Switch) (λ _. after (fixed_exact s.Open) (λ _. then_symbol s.Close operand_exact (λ rest e. seen_other s.Close s.At rest refl e) (λ on. after (fixed_exact s.OpenBrace) (λ _.
    then_symbol s.Default cases_exact (λ rest e. seen_other s.Default s.Case rest refl e) (λ cases. after (fixed_exact s.Colon) (λ _. after target_exact (λ other. after (fixed_exact s.Semi) (λ _. after (fixed_exact s.CloseBrace) (λ _. pure_exact (Switch on cases other)))))))))))
    (λ d ts h.
    let o = h.4.4 in
    let c = o.4.4.4 in
    let t = c.4.4.4 in
    let e1 : t.2 ≡ tok.Fixed s.Semi ∷ tok.Fixed s.CloseBrace ∷ [] = cc in
    let e2 : c.2 ≡ tok.Fixed s.Default ∷ tok.Fixed s.Colon ∷ target_tokens t.0 ++ tok.Fixed s.Semi ∷ tok.Fixed s.CloseBrace ∷ [] = cc in
    let e3 : o.2 ≡ tok.Fixed s.Close ∷ tok.Fixed s.OpenBrace ∷ c.1 ++ c.2 = cc in
    (o.0, c.0, t.0, o.1, c.1, t.4.4.4.0, o.3, rw c.3.1 c.3.2, cc))
    (λ d ts h.
    let t8 = tok.Fixed s.CloseBrace ∷ [] in
    let t7 = tok.Fixed s.Semi ∷ t8 in
    let t6 = target_tokens h.2 ++ t7 in
    let t5 = tok.Fixed s.Colon ∷ t6 in
    let t4 = tok.Fixed s.Default ∷ t5 in
    let t3 = h.4 ++ t4 in
    let t2 = tok.Fixed s.OpenBrace ∷ t3 in
    let t1 = tok.Fixed s.Close ∷ t2 in
    let t0 = h.3 ++ t1 in (
      tt,
      tok.Fixed s.Switch ∷ [],
      tok.Fixed s.Open ∷ t0,
      refl,
      (
        tt,
        tok.Fixed s.Open ∷ [],
        t0,
        refl,
        (
          h.0,
          h.3,
          t1,
          h.6,
          (
            tt,
            tok.Fixed s.Close ∷ [],
            t2,
            refl,
            (
              tt,
              tok.Fixed s.OpenBrace ∷ [],
              t3,
              refl,
              (
                h.1,
                h.4,
                t4,
                (h.1, refl, h.7),
                (
                  tt,
                  tok.Fixed s.Default ∷ [],
                  t5,
                  refl,
                  (tt, tok.Fixed s.Colon ∷ [], t6, refl, (h.2, target_tokens h.2, t7, refl, (tt, tok.Fixed s.Semi ∷ [], t8, refl, (tt, t8, [], refl, (h.5, refl), refl), refl), refl), refl),
                  refl,
                ),
                refl,
              ),
              refl,
            ),
            refl,
          ),
          refl,
        ),
        refl,
      ),
      h.8,
    ))

-- ---- returns

abbrev IsValue : Option Operand → Tokens → Type 0
IsValue o ts = (x : Operand) × (o ≡ Some x) × IsOperand x ts

value_exact : ReadsExactly (operand >>= λ o. pure (Some o)) IsValue (sees s.At)
value_exact = recast (ends_with (λ o. Some o) operand_exact)
    (λ d ts h. (h.0, h.4.0, let e : ts ≡ h.1 = h.5 ∙ ap (λ y. h.1 ++ y) h.4.1 ∙ append-nil h.1 in rw e h.3))
    (λ d ts h. (h.0, ts, [], h.2, (h.1, refl), sym (append-nil ts)))

abbrev IsReturned : Option Operand → Tokens → Type 0
IsReturned = IsEither (IsPure None) IsValue

returned_exact : ReadsExactly returned IsReturned (not_before s.Semi)
unfolding returned
returned_exact = choose_exact (sees s.Semi) (sees_head s.Semi) _ _ (IsPure None) IsValue (not_before s.Semi)
    (widen (pure_exact None) (λ rest e. refl))
    (widen value_exact semi_at)
    (λ o pre rest h stop. rw h.1 (before_sees s.Semi rest stop))
    (λ o pre rest h stop. operand_avoids s.Semi refl refl refl h.0 pre rest h.2)

abbrev IsReturnEnd : End → Tokens → Type 0
IsReturnEnd d ts = (o : Option Operand) × (a : Tokens) × (d ≡ Return o) × IsReturned o a × (ts ≡ tok.Fixed s.Return ∷ a ++ tok.Fixed s.Semi ∷ [])

return_exact : ReadsExactly return_end IsReturnEnd never
unfolding return_end
return_exact = recast (after (fixed_exact s.Return) (λ _. then_symbol s.Semi returned_exact (λ rest e. ap not e) (λ o. pure_exact (Return o))))
    (λ d ts h. let r = h.4 in let f : r.2 ≡ tok.Fixed s.Semi ∷ [] = cc in (r.0, r.1, r.4.4.0, r.3, cc))
    (λ d ts h. (tt, tok.Fixed s.Return ∷ [], h.1 ++ tok.Fixed s.Semi ∷ [], refl, (h.0, h.1, tok.Fixed s.Semi ∷ [], h.3, (tt, tok.Fixed s.Semi ∷ [], [], refl, (h.2, refl), refl), refl), h.4))

returned_to : (o : Option Operand) (a ts : Tokens) → IsReturned o a → ts ≡ tok.Fixed s.Return ∷ a ++ tok.Fixed s.Semi ∷ [] → IsEnd (Return o) ts
returned_to o a ts h e = elim h [ inl p ↦ rw p.0 (e ∙ rw p.1 refl) | inr q ↦ rw q.1 (a, q.2, e) ]

-- ---- ends

abbrev Ends : End → Tokens → Type 0
Ends = IsEither IsGotoEnd (IsEither IsBranches (IsEither IsSwitch IsReturnEnd))

end_to : (d : End) (ts : Tokens) → Ends d ts → IsEnd d ts
end_to d ts h =
    elim h [
      | inl g ↦ rw g.1 g.2
      | inr k ↦
          elim k [
            | inl b ↦ rw b.7 (b.5, b.6, b.8, b.9, b.10)
            | inr k ↦ elim k [ inl w ↦ rw w.5 (w.3, w.4, w.6, w.7, w.8) | inr r ↦ rw r.2 (returned_to r.0 r.1 ts r.3 r.4) ]
          ]
    ]

end_from : (d : End) (ts : Tokens) → IsEnd d ts → Ends d ts
end_from (Goto n) ts h = inl (n, refl, h)
end_from (If l c r first second) ts h = inr (inl (l, c, r, first, second, h.0, h.1, refl, h.2, h.3, h.4))
end_from (Switch on cases other) ts h = inr (inr (inl (on, cases, other, h.0, h.1, refl, h.2, h.3, h.4)))
end_from (Return None) ts h = inr (inr (inr (None, [], refl, inl (refl, refl), h)))
end_from (Return (Some o)) ts h = inr (inr (inr (Some o, h.0, refl, inr (o, refl, h.1), h.2)))

ending_exact : ReadsExactly ending IsEnd never
unfolding ending sees
ending_exact = recast (choose_exact (sees s.Goto) (sees_head s.Goto) _ _ IsGotoEnd (IsEither IsBranches (IsEither IsSwitch IsReturnEnd)) never goto_end_exact
    (choose_exact (sees s.If) (sees_head s.If) _ _ IsBranches (IsEither IsSwitch IsReturnEnd) never branches_exact
    (choose_exact (sees s.Switch) (sees_head s.Switch) _ _ IsSwitch IsReturnEnd never switch_exact return_exact
    (λ d pre rest h stop. rw h.8 refl)
    (λ d pre rest h stop. rw h.4 refl))
    (λ d pre rest h stop. rw h.10 refl)
    (λ d pre rest h stop. elim h [ inl w ↦ rw w.8 refl | inr r ↦ rw r.4 refl ]))
    (λ d pre rest h stop. rw h.2 refl)
    (λ d pre rest h stop. elim h [ inl b ↦ rw b.10 refl | inr k ↦ elim k [ inl w ↦ rw w.8 refl | inr r ↦ rw r.4 refl ] ]))
    end_to end_from

end_avoids : (profile : ℕ) → Avoids (begins_statement profile) IsEnd
unfolding sees sees_name
end_avoids profile (Goto n) pre rest h = rw h refl
end_avoids profile (If l c r first second) pre rest h = rw h.4 refl
end_avoids profile (Switch on cases other) pre rest h = rw h.4 refl
end_avoids profile (Return None) pre rest h = rw h refl
end_avoids profile (Return (Some o)) pre rest h = rw h.2 refl

-- ---- blocks

block_exact : (profile : ℕ) → ReadsExactly (block profile) (IsBlock profile) never
unfolding block
block_exact profile = recast (after target_exact (λ label. after (fixed_exact s.Colon) (λ _. then_exact (many (begins_statement profile) (statement profile) []) _ _ _ (begins_statement profile) never (statements_exact profile)
    (λ body. after ending_exact (λ end. pure_exact (record { label = label; body = body; end = end })))
    (λ body b y rest h stop. front_avoids (begins_statement profile) IsEnd (end_avoids profile) h.0 h.1 h.2 y rest h.3 h.5))))
    (λ b ts h.
    let body = h.4.4 in
    let end = body.4 in
    let e : b ≡ record { label = h.0; body = body.0; end = end.0 } = end.4.0 in
    let f : body.2 ≡ end.1 = end.5 ∙ ap (λ y. end.1 ++ y) end.4.1 ∙ append-nil end.1 in
    rw e (body.1, end.1, rw body.3.1 body.3.2, end.3, cc))
    (λ b ts h. (
      b.label,
      target_tokens b.label,
      tok.Fixed s.Colon ∷ h.0 ++ h.1,
      refl,
      (tt, tok.Fixed s.Colon ∷ [], h.0 ++ h.1, refl, (b.body, h.0, h.1, (b.body, refl, h.2), (b.end, h.1, [], h.3, (refl, refl), sym (append-nil h.1)), refl), refl),
      h.4,
    ))

block_begins : (profile : ℕ) (b : Block) (pre rest : Tokens) → IsBlock profile b pre → sees s.Less (pre ++ rest) ≡ true
block_begins profile b pre rest h = rw h.4 (sees_self s.Less _)

pub block_avoids : (profile : ℕ) (y : Symbol) → sameb the_type s.Less y ≡ false → Avoids (sees y) (IsBlock profile)
unfolding sees
block_avoids profile y e b pre rest h = rw h.4 e

pub blocks_exact : (profile : ℕ) → ReadsExactly (many (sees s.Less) (block profile) []) (IsMore (IsBlock profile) []) (sees s.Less)
blocks_exact profile = many_exact (sees s.Less) (sees_head s.Less) (block profile) (IsBlock profile) never (sees s.Less) (block_exact profile) (block_begins profile) (λ ts e. refl) (λ rest e. e) (λ rest e. refl) []
