-- The list of what the calls of a program give has exactly the gifts.
use Rattle.std.proofs.Common.{◌≡◌, ℕ, zero, suc, ◌+◌, ◌<◌, inl, inr, nat_le, true, cond, List, [], ◌∷◌, ◌++◌, append_assoc, length, Option, Some, None, refl, sym, ◌∙◌, ap, subst, arith, slice_get}
use Rattle.std.specs.Prelude.{Contains, position, slice_index_or}
use Rattle.std.specs.Str.{bytes_eq}
use Rattle.std.proofs.lemmas.Bool.{cases_lt}
use Rattle.std.proofs.lemmas.Bool.Decides.{nat_tests}
use Rattle.std.proofs.lemmas.List.{append-nil}
use Rattle.std.proofs.lemmas.List.Elements.{Contains-append_left, Contains-append_right, Contains-append_cases, Contains-push, Contains-push_cases}
use Rattle.std.proofs.lemmas.Option.{slice_get_within}
use Rattle.gimple_ir.specs.declared.block.Block.{Block}
use Rattle.gimple_ir.specs.declared.declarations.Register.{Register}
use Rattle.gimple_ir.specs.declared.operand.Operand.{Operand}
use Rattle.gimple_ir.specs.declared.point.Point.{Point}
use Rattle.gimple_ir.specs.declared.program.Function.{Function}
use Rattle.gimple_ir.specs.declared.statement.Stmt.{Stmt}
use Rattle.gimple_ir.specs.declared.statement.Stmt.TheVariants.{Copy, Arith, Compare, Convert, Load, Store, Call, Indirect, Get, Put, Abort}
use Rattle.gimple_core.specs.Sealed.{Sealed}
use Rattle.fix_engine.specs.declared.lifted.Lifted.{Lifted}
use Rattle.fix_engine.specs.declared.lifted.Lifted.TheVariants.{NotReached, Reached}
use Rattle.value_domain.specs.declared.abs_val.AbsVal.{AbsVal}
use Rattle.body_symbols.specs.declared.jumps.JumpFn.{JumpFn}
use Rattle.body_symbols.specs.Found.{Found}
use Rattle.body_values.specs.Bodies.{Body}
use Rattle.body_values.specs.Flow.{values_at}
use Rattle.body_values.specs.Found.{is_index}
use Rattle.cp_lattices.specs.declared.gift.Gift.{Gift}
use Rattle.cp_lattices.specs.Gifts.{Bodies, top_body, IsGift, AreGifts}
use Rattle.cp_lattices.specs.GiftLists.{lists_below, Giver, gift_of, argument_gifts, given_to, given_callee, given_named, jumps_there, call_gifts, statement_gifts, point_gifts, body_gifts, block_gifts, function_gifts, giver_of, top_rows, own_gifts, gifts_below}

-- ---- lists under numbers

pub none_put : (f : ℕ → List Gift) (xs : List Gift) → xs ≡ xs ++ lists_below 0 f
unfolding lists_below
none_put f xs = sym (append-nil xs)

pub more_put : (f : ℕ → List Gift) (n : ℕ) (old now new : List Gift) → now ≡ old ++ lists_below n f → new ≡ now ++ f n → new ≡ old ++ lists_below (n + 1) f
unfolding lists_below
more_put f n old now new before put =
    let next : suc n ≡ n + 1 = omega arith in
    put ∙ (ap (λ ys. ys ++ f n) before ∙ (append_assoc old (lists_below n f) (f n) ∙ ap (λ m. old ++ lists_below m f) next))

pub below_same : (f g : ℕ → List Gift) (n : ℕ) → ((k : ℕ) → k < n → f k ≡ g k) → lists_below n f ≡ lists_below n g
unfolding lists_below
below_same f g zero h = refl
below_same f g (suc n) h = let rest = below_same f g n (λ k l. h k (omega (arith, l))) in λ i. rest i ++ h n (omega arith) i

nothing : (x : Gift) → Contains [] x → ⊥
nothing x h = let l = h.1 in omega (arith, l)

only : (y x : Gift) → Contains (y ∷ []) x → y ≡ x
only y x h = elim (Contains-push_cases [] y x h) [
  | inl g ↦ absurd (nothing x g)
  | inr e ↦ e
]

-- a list under a number that has it
record From (n : ℕ) (f : ℕ → List Gift) (x : Gift) : Type 0 where
  number : ℕ
  within : number < n
  there : Contains (f number) x

below_from : (n : ℕ) (f : ℕ → List Gift) (x : Gift) → Contains (lists_below n f) x → From n f x
unfolding lists_below
below_from zero f x h = absurd (nothing x h)
below_from (suc n) f x h = elim (Contains-append_cases (lists_below n f) (f n) x h) [
  | inl g ↦ let r = below_from n f x g in record { number = r.number; within = let l = r.within in omega (arith, l); there = r.there }
  | inr g ↦ record { number = n; within = omega arith; there = g }
]

below_has : (n : ℕ) (f : ℕ → List Gift) (x : Gift) (k : ℕ) → k < n → Contains (f k) x → Contains (lists_below n f) x
unfolding lists_below
below_has zero f x k l h = absurd (omega (arith, l))
below_has (suc n) f x k l h = elim (cases_lt k n) [
  | inl low ↦ Contains-append_left (lists_below n f) (f n) x (below_has n f x k low h)
  | inr high ↦ let same : k ≡ n = omega (arith, l, high) in Contains-append_right (lists_below n f) (f n) x (subst (λ j. Contains (f j) x) same h)
]

-- ---- an argument

record FromArgument (B : Body) (n m j : ℕ) (row : List AbsVal) (r : Option Register) (x : Option Operand) (f : Option JumpFn) (gift : Gift) : Type 0 where
  formal : Register
  declared : r ≡ Some formal
  argument : Operand
  given : x ≡ Some argument
  jump : JumpFn
  known : f ≡ Some jump
  is : gift_of B n m j row formal argument jump ≡ gift

argument_from : (B : Body) (n m j : ℕ) (row : List AbsVal) (r : Option Register) (x : Option Operand) (f : Option JumpFn) (gift : Gift) → Contains (argument_gifts B n m j row r x f) gift → FromArgument B n m j row r x f gift
argument_from B n m j row None x f gift h = absurd (nothing gift h)
argument_from B n m j row (Some r) None f gift h = absurd (nothing gift h)
argument_from B n m j row (Some r) (Some x) None gift h = absurd (nothing gift h)
argument_from B n m j row (Some r) (Some x) (Some f) gift h = record { formal = r; declared = refl; argument = x; given = refl; jump = f; known = refl; is = only (gift_of B n m j row r x f) gift h }

-- ---- a call

record FromNamed (G : Giver) (row : List AbsVal) (xs : List Operand) (fs : List JumpFn) (o : Option ℕ) (gift : Gift) : Type 0 where
  place : ℕ
  named : o ≡ Some place
  callee : Function
  called : slice_get G.program.functions place ≡ Some callee
  there : Contains (given_to G.body G.number place row callee.params xs fs) gift

named_from : (G : Giver) (row : List AbsVal) (xs : List Operand) (fs : List JumpFn) (o : Option ℕ) (gift : Gift) → Contains (given_named G row xs fs o) gift → FromNamed G row xs fs o gift
named_from G row xs fs None gift h = absurd (nothing gift h)
named_from G row xs fs (Some m) gift h = by (slice_get G.program.functions m) refl h
  where
    by : (o : Option Function) → slice_get G.program.functions m ≡ o → Contains (given_callee G.body G.number m row xs fs o) gift → FromNamed G row xs fs (Some m) gift
    by None e h = absurd (nothing gift h)
    by (Some g) e h = record { place = m; named = refl; callee = g; called = e; there = h }

-- ---- a statement

record FromCall (G : Giver) (at : Point) (file : Lifted (List AbsVal)) (x : Stmt) (gift : Gift) : Type 0 where
  row : List AbsVal
  reached : file ≡ Reached row
  to : Option (List ℕ)
  name : List ℕ
  arguments : List Operand
  call : x ≡ Call to name arguments
  there : Contains (given_named G row arguments (jumps_there G at) (position (λ f. bytes_eq f.name name) G.program.functions)) gift

statement_from : (G : Giver) (at : Point) (file : Lifted (List AbsVal)) (x : Stmt) (gift : Gift) → Contains (statement_gifts G at file x) gift → FromCall G at file x gift
unfolding statement_gifts call_gifts
statement_from G at NotReached x gift h = absurd (nothing gift h)
statement_from G at (Reached row) (Call to name xs) gift h = record { row = row; reached = refl; to = to; name = name; arguments = xs; call = refl; there = h }
statement_from G at (Reached row) (Copy to from) gift h = absurd (nothing gift h)
statement_from G at (Reached row) (Arith to left op right) gift h = absurd (nothing gift h)
statement_from G at (Reached row) (Compare to left cmp right) gift h = absurd (nothing gift h)
statement_from G at (Reached row) (Convert to scalar from) gift h = absurd (nothing gift h)
statement_from G at (Reached row) (Load to scalar place) gift h = absurd (nothing gift h)
statement_from G at (Reached row) (Store scalar place from) gift h = absurd (nothing gift h)
statement_from G at (Reached row) (Indirect to signature callee xs) gift h = absurd (nothing gift h)
statement_from G at (Reached row) (Get to) gift h = absurd (nothing gift h)
statement_from G at (Reached row) (Put from) gift h = absurd (nothing gift h)
statement_from G at (Reached row) Abort gift h = absurd (nothing gift h)

record FromPoint (G : Giver) (rows : ℕ → ℕ → Lifted (List AbsVal)) (k i : ℕ) (o : Option Stmt) (gift : Gift) : Type 0 where
  statement : Stmt
  there : o ≡ Some statement
  call : FromCall G (record { function = G.number; block = k; index = i }) (rows k i) statement gift

point_from : (G : Giver) (rows : ℕ → ℕ → Lifted (List AbsVal)) (k i : ℕ) (o : Option Stmt) (gift : Gift) → Contains (point_gifts G rows k i o) gift → FromPoint G rows k i o gift
point_from G rows k i None gift h = absurd (nothing gift h)
point_from G rows k i (Some x) gift h = record { statement = x; there = refl; call = statement_from G (record { function = G.number; block = k; index = i }) (rows k i) x gift h }

-- ---- a block

record FromBlock (G : Giver) (rows : ℕ → ℕ → Lifted (List AbsVal)) (k : ℕ) (o : Option Block) (gift : Gift) : Type 0 where
  block : Block
  there : o ≡ Some block
  index : ℕ
  within : index < length block.body
  point : FromPoint G rows k index (slice_get block.body index) gift

block_from : (G : Giver) (rows : ℕ → ℕ → Lifted (List AbsVal)) (k : ℕ) (o : Option Block) (gift : Gift) → Contains (block_gifts G rows k o) gift → FromBlock G rows k o gift
block_from G rows k None gift h = absurd (nothing gift h)
block_from G rows k (Some b) gift h =
    let r = below_from (length b.body) (λ i. point_gifts G rows k i (slice_get b.body i)) gift h in
    record { block = b; there = refl; index = r.number; within = r.within; point = point_from G rows k r.number (slice_get b.body r.number) gift r.there }

-- ---- a function

record FromFunction (p : Sealed) (most n : ℕ) (begins : List (Lifted (List AbsVal))) (o : Option Function) (s : Option Found) (gift : Gift) : Type 0 where
  caller : Function
  own : o ≡ Some caller
  symbols : Found
  known : s ≡ Some symbols
  number : ℕ
  block : FromBlock (giver_of p most n caller symbols) (top_rows p most n caller begins) number (slice_get caller.blocks number) gift

function_from : (p : Sealed) (most n : ℕ) (begins : List (Lifted (List AbsVal))) (o : Option Function) (s : Option Found) (gift : Gift) → Contains (own_gifts p most n begins o s) gift → FromFunction p most n begins o s gift
function_from p most n begins None s gift h = absurd (nothing gift h)
function_from p most n begins (Some f) None gift h = absurd (nothing gift h)
function_from p most n begins (Some f) (Some s) gift h =
    let G : Giver = giver_of p most n f s in
    let rows : ℕ → ℕ → Lifted (List AbsVal) = top_rows p most n f begins in
    let r = below_from (length f.blocks) (λ k. block_gifts G rows k (slice_get f.blocks k)) gift h in
    record { caller = f; own = refl; symbols = s; known = refl; number = r.number; block = block_from G rows r.number (slice_get f.blocks r.number) gift r.there }

-- ---- the values at a point of a body

is_within : (i n : ℕ) → i < n → nat_le i n ≡ true
is_within i n l = grind (arith, nat_tests, l)

values_there : (p : Sealed) (most n : ℕ) (f : Function) (begins : List (Lifted (List AbsVal))) (k i : ℕ) (b : Block) → slice_get f.blocks k ≡ Some b → i < length b.body →
    top_rows p most n f begins k i ≡ values_at (top_body p n f most) f.blocks begins k i
values_there p most n f begins k i b there l =
    let inside : is_index (slice_get f.blocks k) i ≡ true = ap (λ o. is_index o i) there ∙ is_within i (length b.body) l in
    ap (λ c. cond c (values_at (top_body p n f most) f.blocks begins k i) NotReached) inside

-- ---- each is a gift

module _ (p : Sealed) (most : ℕ) (bodies : Bodies) where
  abbrev begins_at : ℕ → List (Lifted (List AbsVal))
  begins_at n = slice_index_or bodies.begins n []

  abbrev own_at : ℕ → List Gift
  own_at n = own_gifts p most n (begins_at n) (slice_get p.program.functions n) (slice_get bodies.symbols n)

  module _ (n : ℕ) (gift : Gift) (own : FromFunction p most n (begins_at n) (slice_get p.program.functions n) (slice_get bodies.symbols n) gift) where
    abbrev giver : Giver
    giver = giver_of p most n own.caller own.symbols

    abbrev point : Point
    point = record { function = n; block = own.number; index = own.block.index }

    abbrev call : FromCall giver point (top_rows p most n own.caller (begins_at n) own.number own.block.index) own.block.point.statement gift
    call = own.block.point.call

    abbrev named_there : Type 0
    named_there = FromNamed giver call.row call.arguments (jumps_there giver point) (position (λ f. bytes_eq f.name call.name) p.program.functions) gift

    abbrev lists_there : named_there → ℕ → List Gift
    lists_there named j = argument_gifts giver.body n named.place j call.row (slice_get named.callee.params j) (slice_get call.arguments j) (slice_get (jumps_there giver point) j)

    abbrev argument_there : named_there → ℕ → Type 0
    argument_there named j = FromArgument giver.body n named.place j call.row (slice_get named.callee.params j) (slice_get call.arguments j) (slice_get (jumps_there giver point) j) gift

    reached_there : values_at (top_body p n own.caller most) own.caller.blocks (begins_at n) own.number own.block.index ≡ Reached call.row
    reached_there = sym (values_there p most n own.caller (begins_at n) own.number own.block.index own.block.block own.block.there own.block.within) ∙ call.reached

    by_parts : (named : named_there) (j : ℕ) (given : argument_there named j) → IsGift p most bodies (gift_of giver.body n named.place j call.row given.formal given.argument given.jump)
    by_parts named j given = record {
      caller = own.caller;
      own = own.own;
      symbols = own.symbols;
      known = own.known;
      number = own.number;
      block = own.block.block;
      there = own.block.there;
      index = own.block.index;
      to = call.to;
      name = call.name;
      arguments = call.arguments;
      call = own.block.point.there ∙ ap Some call.call;
      row = call.row;
      reached = reached_there;
      callee = named.callee;
      named = named.named;
      called = named.called;
      formal = given.formal;
      declared = given.declared;
      scalar = refl;
      argument = given.argument;
      given = given.given;
      jump = given.known;
      local = refl;
    }

    by_place : (named : named_there) (place : From (length call.arguments) (lists_there named) gift) → IsGift p most bodies gift
    by_place named place =
        let given : argument_there named place.number =
        argument_from giver.body n named.place place.number call.row (slice_get named.callee.params place.number) (slice_get call.arguments place.number) (slice_get (jumps_there giver point) place.number) gift place.there in
        subst (IsGift p most bodies) given.is (by_parts named place.number given)

    by_name : named_there → IsGift p most bodies gift
    by_name named = by_place named (below_from (length call.arguments) (lists_there named) gift named.there)

    of_function : IsGift p most bodies gift
    of_function = by_name (named_from giver call.row call.arguments (jumps_there giver point) (position (λ f. bytes_eq f.name call.name) p.program.functions) gift call.there)

  is_gift : (n : ℕ) (gift : Gift) → Contains (own_at n) gift → IsGift p most bodies gift
  is_gift n gift h = of_function n gift (function_from p most n (begins_at n) (slice_get p.program.functions n) (slice_get bodies.symbols n) gift h)

  -- ---- every gift is there

  module _ (gift : Gift) (w : IsGift p most bodies gift) where
    abbrev G : Giver
    G = giver_of p most gift.caller w.caller w.symbols

    abbrev at : Point
    at = record { function = gift.caller; block = w.number; index = w.index }

    abbrev rows : ℕ → ℕ → Lifted (List AbsVal)
    rows = top_rows p most gift.caller w.caller (begins_at gift.caller)

    abbrev argument_at : ℕ → List Gift
    argument_at j = argument_gifts G.body gift.caller gift.callee j w.row (slice_get w.callee.params j) (slice_get w.arguments j) (slice_get (jumps_there G at) j)

    gift_is : gift_of G.body gift.caller gift.callee gift.formal w.row w.formal w.argument gift.jump ≡ gift
    gift_is = λ i. record { caller = gift.caller; callee = gift.callee; formal = gift.formal; scalar = sym w.scalar i; jump = gift.jump; local = sym w.local i }

    argument_has : Contains (argument_at gift.formal) gift
    argument_has =
        let here : gift ∷ [] ≡ argument_at gift.formal = (λ i. sym gift_is i ∷ []) ∙ (λ i. argument_gifts G.body gift.caller gift.callee gift.formal w.row (sym w.declared i) (sym w.given i) (sym w.jump i)) in
        subst (λ ys. Contains ys gift) here (Contains-push [] gift)

    arguments_have : Contains (given_to G.body gift.caller gift.callee w.row w.callee.params w.arguments (jumps_there G at)) gift
    arguments_have = below_has (length w.arguments) argument_at gift gift.formal (slice_get_within w.arguments gift.formal w.argument w.given) argument_has

    call_has : Contains (call_gifts G at w.row w.name w.arguments) gift
    unfolding call_gifts
    call_has =
        let called : given_to G.body gift.caller gift.callee w.row w.callee.params w.arguments (jumps_there G at) ≡ given_named G w.row w.arguments (jumps_there G at) (Some gift.callee) =
        λ i. given_callee G.body gift.caller gift.callee w.row w.arguments (jumps_there G at) (sym w.called i) in
        subst (λ ys. Contains ys gift) (called ∙ (λ i. given_named G w.row w.arguments (jumps_there G at) (sym w.named i))) arguments_have

    within : w.index < length w.block.body
    within = slice_get_within w.block.body w.index (Call w.to w.name w.arguments) w.call

    point_has : Contains (point_gifts G rows w.number w.index (slice_get w.block.body w.index)) gift
    unfolding statement_gifts
    point_has =
        let reached : rows w.number w.index ≡ Reached w.row = values_there p most gift.caller w.caller (begins_at gift.caller) w.number w.index w.block w.there within ∙ w.reached in
        let statement : call_gifts G at w.row w.name w.arguments ≡ point_gifts G rows w.number w.index (Some (Call w.to w.name w.arguments)) = λ i. statement_gifts G at (sym reached i) (Call w.to w.name w.arguments) in
        subst (λ ys. Contains ys gift) (statement ∙ (λ i. point_gifts G rows w.number w.index (sym w.call i))) call_has

    body_has : Contains (body_gifts G rows w.number w.block.body) gift
    body_has = below_has (length w.block.body) (λ i. point_gifts G rows w.number i (slice_get w.block.body i)) gift w.index within point_has

    function_has : Contains (function_gifts G rows) gift
    function_has =
        below_has (length w.caller.blocks) (λ k. block_gifts G rows k (slice_get w.caller.blocks k)) gift w.number (slice_get_within w.caller.blocks w.number w.block w.there)
        (subst (λ ys. Contains ys gift) (λ i. block_gifts G rows w.number (sym w.there i)) body_has)

    own_has : Contains (own_at gift.caller) gift
    own_has = subst (λ ys. Contains ys gift) (λ i. own_gifts p most gift.caller (begins_at gift.caller) (sym w.own i) (sym w.known i)) function_has

  -- ---- so the list has exactly them

  pub are_gifts : (gifts : List Gift) → gifts ≡ gifts_below p most bodies (length p.program.functions) → AreGifts p most bodies gifts
  are_gifts gifts e = record {
    each = λ gift h.
        let r = below_from (length p.program.functions) own_at gift (subst (λ ys. Contains ys gift) e h) in
        is_gift r.number gift r.there;
    every = λ gift w.
        subst (λ ys. Contains ys gift) (sym e) (below_has (length p.program.functions) own_at gift gift.caller (slice_get_within p.program.functions gift.caller w.caller w.own) (own_has gift w));
  }
