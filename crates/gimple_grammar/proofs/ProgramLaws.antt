-- The readers of functions and programs.
use Rattle.std.proofs.Common.{◌≡◌, ℕ, Bool, true, false, not, List, [], ◌∷◌, ◌++◌, Option, Some, None, Ok, refl, sym, ap, ◌∙◌, append_assoc}
use Rattle.std.proofs.lemmas.List.{append-nil}
use denote.Enum.Bare.{sameb}
use Rattle.gimple_tokens.specs.contracts.token.Symbol.{the_type}
use Rattle.gimple_ir.specs.declared.scalar.Scalar.{Scalar}
use Rattle.gimple_ir.specs.declared.scalar.Scalar.TheVariants as kind
use Rattle.gimple_ir.specs.declared.program.Function.{Function}
use Rattle.gimple_ir.specs.declared.program.Program.{Program}
use Rattle.gimple_tokens.specs.declared.token.Symbol.{Symbol}
use Rattle.gimple_tokens.specs.declared.token.Symbol.TheVariants as s
use Rattle.gimple_tokens.specs.declared.token.Token.TheVariants as tok
use Rattle.token_law.specs.Reading.{Tokens, many, lookup, sees, fixed, profile_number, end_of_text}
use Rattle.token_law.specs.Languages.{IsMany}
use Rattle.token_law.proofs.ReadsExactly.{ReadsExactly, IsHeadTest, Avoids, never, pure_exact, then_exact, recast, widen, bind_ok, ok_parts}
use Rattle.token_law.proofs.Many.{IsMore, many_exact}
use Rattle.token_law.proofs.Leaves.{IsFixed, is_more, sees_head, seen_other, fixed_exact, name_exact, profile_exact, end_exact, end_sound}
use Rattle.token_law.proofs.Lists.{after, then_symbol, many_then, separated_exact}
use Rattle.gimple_grammar.specs.Grammar.{scalar_symbol, IsBlock, IsGlobal, IsResult, IsRegister, IsDeclared, IsFunction, IsProgram}
use Rattle.gimple_grammar.specs.Readers.{scalars, sees_scalar, register, declared_register, local_decl, struct_def, global_def, function, begins_function, program}
use Rattle.gimple_grammar.proofs.ValueLaws.{scalar_differs}
use Rattle.gimple_grammar.proofs.SignatureLaws.{result_exact}
use Rattle.gimple_grammar.proofs.EndLaws.{block_avoids, blocks_exact}
use Rattle.gimple_grammar.proofs.DeclarationLaws.{structs_exact, global_avoids, globals_exact, register_exact, register_avoids, declared_avoids, registers_exact, locals_exact}

-- ---- functions

-- a block is no register
block_no_scalar : (profile : ℕ) → Avoids sees_scalar (IsBlock profile)
unfolding sees_scalar
block_no_scalar profile b pre rest h = rw h.4 refl

-- the closing brace of a function
brace_avoids : (test : Tokens → Bool) → ((m : Tokens) → test (tok.Fixed s.CloseBrace ∷ m) ≡ false) → (a x y whole : Tokens) → whole ≡ x ++ y → IsFixed s.CloseBrace tt x → test (whole ++ a) ≡ false
brace_avoids test avoids a x y whole e h = let f : whole ++ a ≡ tok.Fixed s.CloseBrace ∷ (y ++ a) = rw e (rw h refl) in rw f (avoids (y ++ a))

brace_no_scalar : (m : Tokens) → sees_scalar (tok.Fixed s.CloseBrace ∷ m) ≡ false
unfolding sees_scalar
brace_no_scalar m = refl

brace_no_local : (m : Tokens) → sees s.Local (tok.Fixed s.CloseBrace ∷ m) ≡ false
unfolding sees
brace_no_local m = refl

function_exact : (profile : ℕ) → ReadsExactly (function profile) (IsFunction profile) never
unfolding function
function_exact profile = recast (after result_exact (λ gives. after name_exact (λ x. after (fixed_exact s.Open) (λ _.
    then_symbol s.Close (separated_exact register IsRegister never register_exact (λ ts e. refl) (λ rest e. refl) register_avoids) (λ rest e. ap not e) (λ params. after (fixed_exact s.OpenBrace) (λ _.
    then_exact (many (sees s.Local) local_decl []) _ _ _ (sees s.Local) never locals_exact (λ locals.
    then_exact (many sees_scalar declared_register []) _ _ _ sees_scalar never registers_exact (λ registers.
    then_symbol s.CloseBrace (blocks_exact profile) (λ rest e. seen_other s.CloseBrace s.Less rest refl e) (λ blocks.
    pure_exact (record { name = x; params = params; result = gives; locals = locals; registers = registers; blocks = blocks })))
    (λ a b y rest h stop. let e : y ≡ h.1 ++ h.2 = h.5 in rw e (many_then sees_scalar (IsBlock profile) (block_no_scalar profile) h.3.0 h.1 h.2 rest h.3.2 (brace_avoids sees_scalar brace_no_scalar rest h.4.1 h.4.2 h.2 h.4.5 h.4.3))))
    (λ a b y rest h stop.
    let e : y ≡ h.1 ++ h.2 = h.5 in
    let r = h.4 in
    let f : h.2 ≡ r.1 ++ r.2 = r.5 in
    let g : sees s.Local (h.2 ++ rest) ≡ false = rw f (many_then (sees s.Local) (IsBlock profile) (block_avoids profile s.Local refl) r.3.0 r.1 r.2 rest r.3.2 (brace_avoids (sees s.Local) brace_no_local rest r.4.1 r.4.2 r.2 r.4.5 r.4.3)) in
    rw e (many_then (sees s.Local) IsDeclared declared_avoids h.3.0 h.1 h.2 rest h.3.2 g))))))))
    (λ f ts h.
    let n = h.4 in
    let p = n.4.4 in
    let l = p.4.4.4 in
    let r = l.4 in
    let b = r.4 in
    let e : f ≡ record { name = n.0; params = p.0; result = h.0; locals = l.0; registers = r.0; blocks = b.0 } = b.4.4.0 in
    let last : b.2 ≡ tok.Fixed s.CloseBrace ∷ [] = cc in
    let k1 : l.2 ≡ r.1 ++ (b.1 ++ tok.Fixed s.CloseBrace ∷ []) = cc in
    let k2 : p.2 ≡ tok.Fixed s.Close ∷ tok.Fixed s.OpenBrace ∷ l.1 ++ l.2 = cc in
    rw e (h.1, p.1, l.1, r.1, b.1, h.3, p.3, rw l.3.1 l.3.2, rw r.3.1 r.3.2, rw b.3.1 b.3.2, cc))
    (λ f ts h.
    let t8 = tok.Fixed s.CloseBrace ∷ [] in
    let t7 = h.4 ++ t8 in
    let t6 = h.3 ++ t7 in
    let t5 = h.2 ++ t6 in
    let t4 = tok.Fixed s.OpenBrace ∷ t5 in
    let t3 = tok.Fixed s.Close ∷ t4 in
    let t2 = h.1 ++ t3 in
    let t1 = tok.Fixed s.Open ∷ t2 in
    let t0 = tok.Name f.name ∷ t1 in (
      f.result,
      h.0,
      t0,
      h.5,
      (
        f.name,
        tok.Name f.name ∷ [],
        t1,
        refl,
        (
          tt,
          tok.Fixed s.Open ∷ [],
          t2,
          refl,
          (
            f.params,
            h.1,
            t3,
            h.6,
            (
              tt,
              tok.Fixed s.Close ∷ [],
              t4,
              refl,
              (
                tt,
                tok.Fixed s.OpenBrace ∷ [],
                t5,
                refl,
                (
                  f.locals,
                  h.2,
                  t6,
                  (f.locals, refl, h.7),
                  (f.registers, h.3, t7, (f.registers, refl, h.8), (f.blocks, h.4, t8, (f.blocks, refl, h.9), (tt, t8, [], refl, (refl, refl), refl), refl), refl),
                  refl,
                ),
                refl,
              ),
              refl,
            ),
            refl,
          ),
          refl,
        ),
        refl,
      ),
      h.10,
    ))

scalar_begins : (k : Scalar) (m : Tokens) → begins_function (tok.Fixed (scalar_symbol k) ∷ m) ≡ true
unfolding sees sees_scalar
scalar_begins kind.I8 m = refl
scalar_begins kind.I16 m = refl
scalar_begins kind.I32 m = refl
scalar_begins kind.I64 m = refl
scalar_begins kind.U8 m = refl
scalar_begins kind.U16 m = refl
scalar_begins kind.U32 m = refl
scalar_begins kind.U64 m = refl
scalar_begins kind.Ptr m = refl

result_begins : (o : Option Scalar) (a b ts : Tokens) → IsResult o a → ts ≡ a ++ b → begins_function ts ≡ true
unfolding sees
result_begins None a b ts h e = rw (e, h) refl
result_begins (Some k) a b ts h e = rw (e, h) (scalar_begins k b)

function_begins : (profile : ℕ) (f : Function) (pre rest : Tokens) → IsFunction profile f pre → begins_function (pre ++ rest) ≡ true
function_begins profile f pre rest h = result_begins f.result h.0 _ (pre ++ rest) h.5 (ap (λ z. z ++ rest) h.10 ∙ append_assoc h.0 _ rest)

scalar_no : (y : Symbol) → lookup scalar_symbol scalars y ≡ None → sameb the_type s.Void y ≡ false → (o : Option Scalar) (a b ts : Tokens) → IsResult o a → ts ≡ a ++ b → sees y ts ≡ false
unfolding sees
scalar_no y e g None a b ts h f = rw (f, h) g
scalar_no y e g (Some k) a b ts h f = rw (f, h) (scalar_differs y e k b)

function_avoids : (profile : ℕ) (y : Symbol) → lookup scalar_symbol scalars y ≡ None → sameb the_type s.Void y ≡ false → Avoids (sees y) (IsFunction profile)
function_avoids profile y e g f pre rest h = scalar_no y e g f.result h.0 _ (pre ++ rest) h.5 (ap (λ z. z ++ rest) h.10 ∙ append_assoc h.0 _ rest)

functions_head : IsHeadTest begins_function
unfolding sees sees_scalar
functions_head = record { none = refl; same = λ t m m'. elim t as (λ t. begins_function (t ∷ m) ≡ begins_function (t ∷ m')) [ tok.Name n ↦ refl | tok.Number n ↦ refl | tok.Huge ↦ refl | tok.Fixed y ↦ refl ] }

functions_exact : (profile : ℕ) → ReadsExactly (many begins_function (function profile) []) (IsMore (IsFunction profile) []) begins_function
functions_exact profile = many_exact begins_function functions_head (function profile) (IsFunction profile) never begins_function (function_exact profile) (function_begins profile) (λ ts e. refl) (λ rest e. e) (λ rest e. refl) []

-- ---- programs

-- at the end nothing comes next
at_end : (test : Tokens → Bool) → test [] ≡ false → (rest : Tokens) → is_more rest ≡ false → test rest ≡ false
at_end test none [] e = none
at_end test none (t ∷ ts) e = absurd cc

-- functions, and then the end
functions_then : (profile : ℕ) (y : Symbol) → lookup scalar_symbol scalars y ≡ None → sameb the_type s.Void y ≡ false → (fs : List Function) (x z rest : Tokens) → IsMany (IsFunction profile) fs x → z ≡ [] → is_more rest ≡ false → sees y ((x ++ z) ++ rest) ≡ false
functions_then profile y e g fs x z rest h n stop =
    let none : sees y [] ≡ false = (sees_head y).none in
    many_then (sees y) (IsFunction profile) (function_avoids profile y e g) fs x z rest h (rw n (at_end (sees y) none rest stop))

pub program_exact : ReadsExactly program IsProgram is_more
unfolding program
program_exact = recast (after (fixed_exact s.Gimple) (λ _. after profile_exact (λ profile. after (fixed_exact s.Semi) (λ _.
    then_exact (many (sees s.Struct) struct_def []) _ _ _ (sees s.Struct) is_more structs_exact (λ structs.
    then_exact (many (sees s.Global) global_def []) _ _ _ (sees s.Global) is_more globals_exact (λ globals.
    then_exact (many begins_function (function profile) []) _ _ _ begins_function is_more (functions_exact profile)
    (λ functions. then_exact end_of_text _ _ _ is_more is_more end_exact (λ _. widen (pure_exact (record { profile = profile; structs = structs; globals = globals; functions = functions })) (λ rest e. refl)) (λ a b y rest h stop. rw h.1 stop))
    (λ a b y rest h stop. let e : y ++ rest ≡ rest = rw h.5 (rw (h.3.1, h.4.1) refl) in rw e (at_end begins_function functions_head.none rest stop)))
    (λ a b y rest h stop. let e : y ≡ h.1 ++ h.2 = h.5 in let f : h.2 ≡ [] = rw h.4.5 (rw (h.4.3.1, h.4.4.1) refl) in rw e (functions_then profile s.Global refl refl h.3.0 h.1 h.2 rest h.3.2 f stop)))
    (λ a b y rest h stop.
    let e : y ≡ h.1 ++ h.2 = h.5 in
    let k = h.4 in
    let f : h.2 ≡ k.1 ++ k.2 = k.5 in
    let g : k.2 ≡ [] = rw k.4.5 (rw (k.4.3.1, k.4.4.1) refl) in
    rw e (many_then (sees s.Struct) IsGlobal global_avoids h.3.0 h.1 h.2 rest h.3.2 (rw f (functions_then profile s.Struct refl refl k.3.0 k.1 k.2 rest k.3.2 g stop))))))))
    (λ p ts h.
    let n = h.4 in
    let a = n.4.4 in
    let b = a.4 in
    let f = b.4 in
    let e : p ≡ record { profile = n.0; structs = a.0; globals = b.0; functions = f.0 } = f.4.4.0 in
    let g : f.2 ≡ [] = rw f.4.5 (rw (f.4.3.1, f.4.4.1) refl) in
    let k : f.1 ++ f.2 ≡ f.1 = ap (λ y. f.1 ++ y) g ∙ append-nil f.1 in
    let k1 : a.2 ≡ b.1 ++ f.1 = cc in
    let k2 : n.1 ≡ tok.Number n.0 ∷ [] = n.3.1 in
    rw e (a.1, b.1, f.1, rw a.3.1 a.3.2, rw b.3.1 b.3.2, rw f.3.1 f.3.2, cc, n.3.0))
    (λ p ts h.
    let t2 = h.1 ++ h.2 in
    let t1 = h.0 ++ t2 in (
      tt,
      tok.Fixed s.Gimple ∷ [],
      tok.Number p.profile ∷ tok.Fixed s.Semi ∷ t1,
      refl,
      (
        p.profile,
        tok.Number p.profile ∷ [],
        tok.Fixed s.Semi ∷ t1,
        (h.7, refl),
        (
          tt,
          tok.Fixed s.Semi ∷ [],
          t1,
          refl,
          (
            p.structs,
            h.0,
            t2,
            (p.structs, refl, h.3),
            (p.globals, h.1, h.2, (p.globals, refl, h.4), (p.functions, h.2, [], (p.functions, refl, h.5), (tt, [], [], (refl, refl), (refl, refl), refl), sym (append-nil h.2)), refl),
            refl,
          ),
          refl,
        ),
        refl,
      ),
      h.6,
    ))

-- ---- a program is read to the end

pub program_ends : (ts : Tokens) (p : Program) (rest : Tokens) → program ts ≡ Ok (p, rest) → rest ≡ []
unfolding program
program_ends ts p rest e =
    let a = bind_ok (fixed s.Gimple ts) _ p rest e in
    let b = bind_ok (profile_number a.1) _ p rest a.3 in
    let c = bind_ok (fixed s.Semi b.1) _ p rest b.3 in
    let d1 = bind_ok (many (sees s.Struct) struct_def [] c.1) _ p rest c.3 in
    let d2 = bind_ok (many (sees s.Global) global_def [] d1.1) _ p rest d1.3 in
    let d = bind_ok (many begins_function (function b.0) [] d2.1) _ p rest d2.3 in
    let f = bind_ok (end_of_text d.1) _ p rest d.3 in
    let g : f.1 ≡ rest = (ok_parts (record { profile = b.0; structs = d1.0; globals = d2.0; functions = d.0 }) p f.1 rest f.3).1 in
    sym g ∙ (end_sound d.1 f.0 f.1 f.2).1
