-- The readers of declarations.
use Rattle.std.proofs.Common.{◌≡◌, ℕ, Bool, true, false, not, List, [], ◌∷◌, ◌++◌, Option, Some, None, refl, sym, ap, ◌∙◌, append_assoc, inl, inr}
use Rattle.std.proofs.lemmas.List.{append-nil}
use denote.Enum.Bare.{sameb}
use Rattle.gimple_tokens.specs.contracts.token.Symbol.{the_type}
use Rattle.gimple_ir.specs.declared.operand.Operand.{Operand}
use Rattle.gimple_ir.specs.declared.scalar.Scalar.{Scalar}
use Rattle.gimple_ir.specs.declared.scalar.Scalar.TheVariants as kind
use Rattle.gimple_ir.specs.declared.declarations.Shape.{Shape}
use Rattle.gimple_ir.specs.declared.declarations.Shape.TheVariants.{Plain, Named}
use Rattle.gimple_ir.specs.declared.declarations.Decl.{Decl}
use Rattle.gimple_ir.specs.declared.declarations.StructDef.{StructDef}
use Rattle.gimple_ir.specs.declared.declarations.Global.{Global}
use Rattle.gimple_ir.specs.declared.declarations.Register.{Register}
use Rattle.gimple_tokens.specs.declared.token.Symbol.{Symbol}
use Rattle.gimple_tokens.specs.declared.token.Symbol.TheVariants as s
use Rattle.gimple_tokens.specs.declared.token.Token.TheVariants as tok
use Rattle.token_law.specs.Reading.{Tokens, ◌>>=◌, pure, many, lookup, sees, fixed, one_or_more}
use Rattle.token_law.proofs.ReadsExactly.{ReadsExactly, IsHeadTest, IsEither, IsPure, Avoids, never, pure_exact, then_exact, choose_exact, recast, widen, front_avoids}
use Rattle.token_law.proofs.Many.{IsMore, many_exact}
use Rattle.token_law.proofs.Leaves.{IsFixed, IsKeyed, sees_head, sees_one_head, sees_self, sees_one_self, seen_other, seen_test, fixed_exact, name_exact, number_exact, keyed_exact, fixed_avoids}
use Rattle.token_law.proofs.Lists.{after, then_symbol, ends_with, some_exact, IsSome}
use Rattle.gimple_grammar.specs.Grammar.{scalar_symbol, IsItem, shape_tokens, length_tokens, decl_tokens, IsField, IsStruct, const_tokens, IsItems, IsGlobal, IsRegister, IsDeclared, IsLocal}
use Rattle.gimple_grammar.specs.Readers.{scalars, sees_scalar, item, shape, array, decl, begins_decl, field, struct_def, constant, items, global_def, register, declared_register, local_decl}
use Rattle.gimple_grammar.proofs.ValueLaws.{scalar_found, scalar_differs, scalar_exact, item_exact}

-- ---- one declaration

abbrev IsShape : Shape → Tokens → Type 0
IsShape f ts = ts ≡ shape_tokens f

abbrev IsNamedShape : Shape → Tokens → Type 0
IsNamedShape f ts = (x : List ℕ) × (f ≡ Named x) × (ts ≡ tok.Fixed s.Struct ∷ tok.Name x ∷ [])

abbrev IsPlainShape : Shape → Tokens → Type 0
IsPlainShape f ts = (k : Scalar) × (f ≡ Plain k) × (ts ≡ tok.Fixed (scalar_symbol k) ∷ [])

shape_from : (f : Shape) (ts : Tokens) → IsShape f ts → IsEither IsNamedShape IsPlainShape f ts
shape_from (Named x) ts h = inl (x, refl, h)
shape_from (Plain k) ts h = inr (k, refl, h)

shape_exact : ReadsExactly shape IsShape never
unfolding shape
shape_exact = recast (choose_exact (sees s.Struct) (sees_head s.Struct) _ _ IsNamedShape IsPlainShape never
    (recast (after (fixed_exact s.Struct) (λ _. after name_exact (λ x. pure_exact (Named x))))
    (λ f ts h. (h.4.0, h.4.4.0, cc))
    (λ f ts h. (tt, tok.Fixed s.Struct ∷ [], tok.Name h.0 ∷ [], refl, (h.0, tok.Name h.0 ∷ [], [], refl, (h.1, refl), refl), h.2)))
    (recast (after scalar_exact (λ k. pure_exact (Plain k)))
    (λ f ts h. (h.0, h.4.0, cc))
    (λ f ts h. (h.0, tok.Fixed (scalar_symbol h.0) ∷ [], [], refl, (h.1, refl), h.2)))
    (λ f pre rest h stop. rw h.2 (sees_self s.Struct _))
    (λ f pre rest h stop. rw h.2 (scalar_differs s.Struct refl h.0 rest)))
    (λ f ts h. elim h [ inl a ↦ rw a.1 a.2 | inr b ↦ rw b.1 b.2 ])
    shape_from

abbrev IsLength : Option ℕ → Tokens → Type 0
IsLength n ts = ts ≡ length_tokens n

abbrev IsArray : Option ℕ → Tokens → Type 0
IsArray o ts = (n : ℕ) × (o ≡ Some n) × (ts ≡ tok.Fixed s.OpenBracket ∷ tok.Number n ∷ tok.Fixed s.CloseBracket ∷ [])

length_from : (o : Option ℕ) (ts : Tokens) → IsLength o ts → IsEither IsArray (IsPure None) o ts
length_from None ts h = inr (refl, h)
length_from (Some n) ts h = inl (n, refl, h)

array_exact : ReadsExactly array IsLength (sees s.OpenBracket)
unfolding array
array_exact = recast (choose_exact (sees s.OpenBracket) (sees_head s.OpenBracket) _ _ IsArray (IsPure None) (sees s.OpenBracket)
    (widen (recast (after (fixed_exact s.OpenBracket) (λ _. after number_exact (λ n. after (fixed_exact s.CloseBracket) (λ _. pure_exact (Some n)))))
    (λ o ts h. (h.4.0, h.4.4.4.0, cc))
    (λ o ts h. (
      tt,
      tok.Fixed s.OpenBracket ∷ [],
      tok.Number h.0 ∷ tok.Fixed s.CloseBracket ∷ [],
      refl,
      (h.0, tok.Number h.0 ∷ [], tok.Fixed s.CloseBracket ∷ [], refl, (tt, tok.Fixed s.CloseBracket ∷ [], [], refl, (h.1, refl), refl), refl),
      h.2,
    ))) (λ rest e. refl))
    (widen (pure_exact None) (λ rest e. refl))
    (λ o pre rest h stop. rw h.2 (sees_self s.OpenBracket _))
    (λ o pre rest h stop. rw h.1 stop))
    (λ o ts h. elim h [ inl a ↦ rw a.1 a.2 | inr b ↦ rw b.0 b.1 ])
    length_from

abbrev IsDecl : Decl → Tokens → Type 0
IsDecl d ts = ts ≡ decl_tokens d

decl_exact : ReadsExactly decl IsDecl (sees s.OpenBracket)
unfolding decl
decl_exact = recast (after shape_exact (λ f. after name_exact (λ x. ends_with (λ n. record { name = x; shape = f; length = n }) array_exact)))
    (λ d ts h.
    let x = h.4 in
    let n = x.4 in
    let e : d ≡ record { name = x.0; shape = h.0; length = n.0 } = n.4.0 in
    let g : x.2 ≡ n.1 = n.5 ∙ ap (λ y. n.1 ++ y) n.4.1 ∙ append-nil n.1 in
    let k : h.2 ≡ tok.Name x.0 ∷ length_tokens n.0 = cc in
    rw e (cc))
    (λ d ts h. (d.shape, shape_tokens d.shape, tok.Name d.name ∷ length_tokens d.length, refl, (d.name, tok.Name d.name ∷ [], length_tokens d.length, refl, (d.length, length_tokens d.length, [], refl, (refl, refl), sym (append-nil (length_tokens d.length))), refl), h))

-- what a declaration begins with
plain_begins : (k : Scalar) (m : Tokens) → begins_decl (tok.Fixed (scalar_symbol k) ∷ m) ≡ true
unfolding sees sees_scalar
plain_begins kind.I8 m = refl
plain_begins kind.I16 m = refl
plain_begins kind.I32 m = refl
plain_begins kind.I64 m = refl
plain_begins kind.U8 m = refl
plain_begins kind.U16 m = refl
plain_begins kind.U32 m = refl
plain_begins kind.U64 m = refl
plain_begins kind.Ptr m = refl

shape_begins : (f : Shape) (m : Tokens) → begins_decl (shape_tokens f ++ m) ≡ true
unfolding sees
shape_begins (Plain k) m = plain_begins k m
shape_begins (Named x) m = refl

shape_avoids : (y : Symbol) → lookup scalar_symbol scalars y ≡ None → sameb the_type s.Struct y ≡ false → (f : Shape) (m : Tokens) → sees y (shape_tokens f ++ m) ≡ false
unfolding sees
shape_avoids y e g (Plain k) m = scalar_differs y e k m
shape_avoids y e g (Named x) m = g

decl_avoids : (y : Symbol) → lookup scalar_symbol scalars y ≡ None → sameb the_type s.Struct y ≡ false → Avoids (sees y) IsDecl
decl_avoids y e g d pre rest h =
    let f : pre ++ rest ≡ shape_tokens d.shape ++ ((tok.Name d.name ∷ length_tokens d.length) ++ rest) = rw h (append_assoc (shape_tokens d.shape) (tok.Name d.name ∷ length_tokens d.length) rest) in
    rw f (shape_avoids y e g d.shape ((tok.Name d.name ∷ length_tokens d.length) ++ rest))

-- ---- structs

field_exact : ReadsExactly field IsField never
unfolding field
field_exact = recast (then_symbol s.Semi decl_exact (λ rest e. seen_other s.Semi s.OpenBracket rest refl e) (λ d. pure_exact d))
    (λ d ts h. let e : d ≡ h.0 = h.4.4.0 in let f : h.2 ≡ tok.Fixed s.Semi ∷ [] = cc in rw e (h.5 ∙ rw (h.3, f) refl))
    (λ d ts h. (d, decl_tokens d, tok.Fixed s.Semi ∷ [], refl, (tt, tok.Fixed s.Semi ∷ [], [], refl, (refl, refl), refl), h))

field_begins : (d : Decl) (pre rest : Tokens) → IsField d pre → begins_decl (pre ++ rest) ≡ true
field_begins d pre rest h =
    let m : Tokens = tok.Name d.name ∷ length_tokens d.length in
    let f : pre ++ rest ≡ shape_tokens d.shape ++ (m ++ (tok.Fixed s.Semi ∷ rest)) = rw h (append_assoc (shape_tokens d.shape ++ m) (tok.Fixed s.Semi ∷ []) rest ∙ append_assoc (shape_tokens d.shape) m (tok.Fixed s.Semi ∷ rest)) in
    rw f (shape_begins d.shape (m ++ (tok.Fixed s.Semi ∷ rest)))

decl_head : IsHeadTest begins_decl
unfolding sees sees_scalar
decl_head = record { none = refl; same = λ t m m'. elim t as (λ t. begins_decl (t ∷ m) ≡ begins_decl (t ∷ m')) [ tok.Name n ↦ refl | tok.Number n ↦ refl | tok.Huge ↦ refl | tok.Fixed y ↦ refl ] }

fields_exact : ReadsExactly (many begins_decl field []) (IsMore IsField []) begins_decl
fields_exact = many_exact begins_decl decl_head field IsField never begins_decl field_exact field_begins (λ ts e. refl) (λ rest e. e) (λ rest e. refl) []

brace_no_decl : (m : Tokens) → begins_decl (tok.Fixed s.CloseBrace ∷ m) ≡ false
unfolding sees sees_scalar
brace_no_decl m = refl

struct_exact : ReadsExactly struct_def IsStruct never
unfolding struct_def
struct_exact = recast (after (fixed_exact s.Struct) (λ _. after name_exact (λ x. after (fixed_exact s.OpenBrace) (λ _. then_symbol s.CloseBrace fields_exact (λ rest e. seen_test begins_decl s.CloseBrace rest brace_no_decl e) (λ fields. after (fixed_exact s.Semi) (λ _. pure_exact (record { name = x; fields = fields })))))))
    (λ d ts h.
    let x = h.4 in
    let f = x.4.4 in
    let e : d ≡ record { name = x.0; fields = f.0 } = f.4.4.4.0 in
    let g : f.2 ≡ tok.Fixed s.CloseBrace ∷ tok.Fixed s.Semi ∷ [] = cc in
    rw e (f.1, rw f.3.1 f.3.2, cc))
    (λ d ts h.
    let t4 = tok.Fixed s.Semi ∷ [] in
    let t3 = tok.Fixed s.CloseBrace ∷ t4 in
    let t2 = h.0 ++ t3 in
    let t1 = tok.Fixed s.OpenBrace ∷ t2 in (
      tt,
      tok.Fixed s.Struct ∷ [],
      tok.Name d.name ∷ t1,
      refl,
      (d.name, tok.Name d.name ∷ [], t1, refl, (tt, tok.Fixed s.OpenBrace ∷ [], t2, refl, (d.fields, h.0, t3, (d.fields, refl, h.1), (tt, tok.Fixed s.CloseBrace ∷ [], t4, refl, (tt, t4, [], refl, (refl, refl), refl), refl), refl), refl), refl),
      h.2,
    ))

struct_begins : (d : StructDef) (pre rest : Tokens) → IsStruct d pre → sees s.Struct (pre ++ rest) ≡ true
struct_begins d pre rest h = rw h.2 (sees_self s.Struct _)

pub structs_exact : ReadsExactly (many (sees s.Struct) struct_def []) (IsMore IsStruct []) (sees s.Struct)
structs_exact = many_exact (sees s.Struct) (sees_head s.Struct) struct_def IsStruct never (sees s.Struct) struct_exact struct_begins (λ ts e. refl) (λ rest e. e) (λ rest e. refl) []

-- ---- globals

abbrev IsConst : Bool → Tokens → Type 0
IsConst b ts = ts ≡ const_tokens b

const_from : (b : Bool) (ts : Tokens) → IsConst b ts → IsEither (IsKeyed s.Const true) (IsPure false) b ts
const_from true ts h = inl (refl, h)
const_from false ts h = inr (refl, h)

constant_exact : ReadsExactly constant IsConst (sees s.Const)
unfolding constant
constant_exact = recast (choose_exact (sees s.Const) (sees_head s.Const) _ _ (IsKeyed s.Const true) (IsPure false) (sees s.Const)
    (widen (keyed_exact s.Const true) (λ rest e. refl))
    (widen (pure_exact false) (λ rest e. refl))
    (λ b pre rest h stop. rw h.1 (sees_self s.Const rest))
    (λ b pre rest h stop. rw h.1 stop))
    (λ b ts h. elim h [ inl a ↦ rw a.0 a.1 | inr c ↦ rw c.0 c.1 ])
    const_from

item_apart : (ts : Tokens) → sees s.Comma ts ≡ true → sees s.At ts ≡ false
item_apart ts e = seen_other s.Comma s.At ts refl e

item_ends : (rest : Tokens) → sees s.CloseBrace rest ≡ true → sees s.At rest ≡ false
item_ends rest e = seen_other s.CloseBrace s.At rest refl e

abbrev IsListed : List Operand → Tokens → Type 0
IsListed = IsSome item IsItem (sees s.At) item_exact item_apart

abbrev IsFull : List Operand → Tokens → Type 0
IsFull xs ts = (a : Tokens) × IsListed xs a × (ts ≡ tok.Fixed s.Assign ∷ tok.Fixed s.OpenBrace ∷ a ++ tok.Fixed s.CloseBrace ∷ [])

full_exact : ReadsExactly (fixed s.Assign >>= λ _. fixed s.OpenBrace >>= λ _. one_or_more item >>= λ xs. fixed s.CloseBrace >>= λ _. pure xs) IsFull never
full_exact = recast (after (fixed_exact s.Assign) (λ _. after (fixed_exact s.OpenBrace) (λ _. then_symbol s.CloseBrace (some_exact item IsItem (sees s.At) item_exact item_apart s.CloseBrace refl item_ends) (λ rest e. ap not e) (λ xs. pure_exact xs))))
    (λ xs ts h.
    let l = h.4.4 in
    let e : xs ≡ l.0 = l.4.4.0 in
    let f : l.2 ≡ tok.Fixed s.CloseBrace ∷ [] = cc in
    rw e (l.1, l.3, cc))
    (λ xs ts h. (
      tt,
      tok.Fixed s.Assign ∷ [],
      tok.Fixed s.OpenBrace ∷ h.0 ++ tok.Fixed s.CloseBrace ∷ [],
      refl,
      (
        tt,
        tok.Fixed s.OpenBrace ∷ [],
        h.0 ++ tok.Fixed s.CloseBrace ∷ [],
        refl,
        (xs, h.0, tok.Fixed s.CloseBrace ∷ [], h.1, (tt, tok.Fixed s.CloseBrace ∷ [], [], refl, (refl, refl), refl), refl),
        refl,
      ),
      h.2,
    ))

full_to : (xs : List Operand) (a ts : Tokens) → IsListed xs a → ts ≡ tok.Fixed s.Assign ∷ tok.Fixed s.OpenBrace ∷ a ++ tok.Fixed s.CloseBrace ∷ [] → IsItems xs ts
full_to xs a ts h e = rw h.4 (a, (h.2, h.3, h.5, h.6, h.7), e)

items_from : (xs : List Operand) (ts : Tokens) → IsItems xs ts → IsEither IsFull (IsPure []) xs ts
items_from [] ts h = inr (refl, h)
items_from (x ∷ xs) ts h = inl (h.0, (x, xs, h.1.0, h.1.1, refl, h.1.2, h.1.3, h.1.4), h.2)

items_exact : ReadsExactly items IsItems (sees s.Assign)
unfolding items
items_exact = recast (choose_exact (sees s.Assign) (sees_head s.Assign) _ _ IsFull (IsPure []) (sees s.Assign)
    (widen full_exact (λ rest e. refl))
    (widen (pure_exact []) (λ rest e. refl))
    (λ xs pre rest h stop. rw h.2 (sees_self s.Assign _))
    (λ xs pre rest h stop. rw h.1 stop))
    (λ xs ts h. elim h [ inl a ↦ full_to xs a.0 ts a.1 a.2 | inr c ↦ rw c.0 c.1 ])
    items_from

-- items, and then what is no bracket
items_then : (xs : List Operand) (x y rest : Tokens) → IsItems xs x → sees s.OpenBracket (y ++ rest) ≡ false → sees s.OpenBracket ((x ++ y) ++ rest) ≡ false
unfolding sees
items_then [] x y rest h e = rw h e
items_then (a ∷ more) x y rest h e = rw h.2 refl

semi_then : (x y whole rest : Tokens) → IsFixed s.Semi tt x → whole ≡ x ++ y → sees s.OpenBracket (whole ++ rest) ≡ false
semi_then x y whole rest h e = front_avoids (sees s.OpenBracket) (IsFixed s.Semi) (fixed_avoids s.Semi s.OpenBracket refl) tt x y whole rest h e

global_exact : ReadsExactly global_def IsGlobal never
unfolding global_def
global_exact = recast (after (fixed_exact s.Global) (λ _. then_exact constant _ _ _ (sees s.Const) never constant_exact (λ c. then_exact decl _ _ _ (sees s.OpenBracket) never decl_exact
    (λ d. then_symbol s.Semi items_exact (λ rest e. seen_other s.Semi s.Assign rest refl e) (λ xs. pure_exact (record { decl = d; constant = c; items = xs })))
    (λ d b y rest h stop. let e : y ≡ h.1 ++ h.2 = h.5 in rw e (items_then h.0 h.1 h.2 rest h.3 (semi_then h.4.1 h.4.2 h.2 rest h.4.3 h.4.5))))
    (λ c b y rest h stop. front_avoids (sees s.Const) IsDecl (decl_avoids s.Const refl refl) h.0 h.1 h.2 y rest h.3 h.5)))
    (λ g ts h.
    let c = h.4 in
    let d = c.4 in
    let xs = d.4 in
    let e : g ≡ record { decl = d.0; constant = c.0; items = xs.0 } = xs.4.4.0 in
    let f : xs.2 ≡ tok.Fixed s.Semi ∷ [] = cc in
    let k1 : d.2 ≡ xs.1 ++ tok.Fixed s.Semi ∷ [] = cc in
    let k2 : c.2 ≡ decl_tokens d.0 ++ d.2 = d.5 ∙ ap (λ y. y ++ d.2) d.3 in
    let k3 : h.2 ≡ const_tokens c.0 ++ c.2 = c.5 ∙ ap (λ y. y ++ c.2) c.3 in
    let k4 : ts ≡ tok.Fixed s.Global ∷ h.2 = cc in
    rw e (xs.1, xs.3, k4 ∙ rw (k3, k2, k1) refl))
    (λ g ts h.
    let t3 = tok.Fixed s.Semi ∷ [] in
    let t2 = h.0 ++ t3 in
    let t1 = decl_tokens g.decl ++ t2 in (
      tt,
      tok.Fixed s.Global ∷ [],
      const_tokens g.constant ++ t1,
      refl,
      (g.constant, const_tokens g.constant, t1, refl, (g.decl, decl_tokens g.decl, t2, refl, (g.items, h.0, t3, h.1, (tt, t3, [], refl, (refl, refl), refl), refl), refl), refl),
      h.2,
    ))

global_begins : (g : Global) (pre rest : Tokens) → IsGlobal g pre → sees s.Global (pre ++ rest) ≡ true
global_begins g pre rest h = rw h.2 (sees_self s.Global _)

pub global_avoids : Avoids (sees s.Struct) IsGlobal
unfolding sees
global_avoids g pre rest h = rw h.2 refl

pub globals_exact : ReadsExactly (many (sees s.Global) global_def []) (IsMore IsGlobal []) (sees s.Global)
globals_exact = many_exact (sees s.Global) (sees_head s.Global) global_def IsGlobal never (sees s.Global) global_exact global_begins (λ ts e. refl) (λ rest e. e) (λ rest e. refl) []

-- ---- registers and locals

pub register_exact : ReadsExactly register IsRegister never
unfolding register
register_exact = recast (after scalar_exact (λ k. after name_exact (λ x. pure_exact (record { name = x; scalar = k }))))
    (λ r ts h. let e : r ≡ record { name = h.4.0; scalar = h.0 } = h.4.4.0 in rw e (cc))
    (λ r ts h. (r.scalar, tok.Fixed (scalar_symbol r.scalar) ∷ [], tok.Name r.name ∷ [], refl, (r.name, tok.Name r.name ∷ [], [], refl, (refl, refl), refl), h))

pub register_avoids : Avoids (sees s.Close) IsRegister
register_avoids r pre rest h = rw h (scalar_differs s.Close refl r.scalar (tok.Name r.name ∷ rest))

declared_exact : ReadsExactly declared_register IsDeclared never
unfolding declared_register
declared_exact = recast (after register_exact (λ r. after (fixed_exact s.Semi) (λ _. pure_exact r)))
    (λ r ts h. let e : r ≡ h.0 = h.4.4.0 in rw e (cc))
    (λ r ts h. (r, tok.Fixed (scalar_symbol r.scalar) ∷ tok.Name r.name ∷ [], tok.Fixed s.Semi ∷ [], refl, (tt, tok.Fixed s.Semi ∷ [], [], refl, (refl, refl), refl), h))

declared_begins : (r : Register) (pre rest : Tokens) → IsDeclared r pre → sees_scalar (pre ++ rest) ≡ true
unfolding sees_scalar
declared_begins r pre rest h = rw h (sees_one_self scalar_symbol scalars scalar_found r.scalar (tok.Name r.name ∷ tok.Fixed s.Semi ∷ rest))

pub declared_avoids : Avoids (sees s.Local) IsDeclared
declared_avoids r pre rest h = rw h (scalar_differs s.Local refl r.scalar (tok.Name r.name ∷ tok.Fixed s.Semi ∷ rest))

scalar_head : IsHeadTest sees_scalar
unfolding sees_scalar
scalar_head = sees_one_head scalar_symbol scalars

pub registers_exact : ReadsExactly (many sees_scalar declared_register []) (IsMore IsDeclared []) sees_scalar
registers_exact = many_exact sees_scalar scalar_head declared_register IsDeclared never sees_scalar declared_exact declared_begins (λ ts e. refl) (λ rest e. e) (λ rest e. refl) []

local_exact : ReadsExactly local_decl IsLocal never
unfolding local_decl
local_exact = recast (after (fixed_exact s.Local) (λ _. then_symbol s.Semi decl_exact (λ rest e. seen_other s.Semi s.OpenBracket rest refl e) (λ d. pure_exact d)))
    (λ d ts h.
    let l = h.4 in
    let e : d ≡ l.0 = l.4.4.0 in
    let f : l.2 ≡ tok.Fixed s.Semi ∷ [] = cc in
    let k : ts ≡ tok.Fixed s.Local ∷ h.2 = cc in
    rw e (k ∙ ap (λ y. tok.Fixed s.Local ∷ y) (l.5 ∙ rw (l.3, f) refl)))
    (λ d ts h. (tt, tok.Fixed s.Local ∷ [], decl_tokens d ++ tok.Fixed s.Semi ∷ [], refl, (d, decl_tokens d, tok.Fixed s.Semi ∷ [], refl, (tt, tok.Fixed s.Semi ∷ [], [], refl, (refl, refl), refl), refl), h))

local_begins : (d : Decl) (pre rest : Tokens) → IsLocal d pre → sees s.Local (pre ++ rest) ≡ true
local_begins d pre rest h = rw h (sees_self s.Local _)

pub locals_exact : ReadsExactly (many (sees s.Local) local_decl []) (IsMore IsLocal []) (sees s.Local)
locals_exact = many_exact (sees s.Local) (sees_head s.Local) local_decl IsLocal never (sees s.Local) local_exact local_begins (λ ts e. refl) (λ rest e. e) (λ rest e. refl) []
