-- Classes send calls to functions that are alike, and what stays is closed under what it then mentions.
use Rattle.std.proofs.Common.{◌≡◌, ◌↔◌, ◌⊎◌, inl, inr, ℕ, suc, ◌<◌, ◌≤◌, ◌==◌, Bool, true, false, ◌||◌, arith, List, [], ◌∷◌, map, length, refl, sym, ◌∙◌, ap, subst, Option, Some, None, slice_get, IsTrue}
use Rattle.std.specs.List.{Contains}
use Rattle.std.specs.Option.{option_map}
use Rattle.std.proofs.lemmas.Bool.{eqb-true, eq-eqb, cases_lt}
use Rattle.std.proofs.lemmas.List.{get_or_past}
use Rattle.std.proofs.lemmas.Option.{slice_get_within, get_or_from_slice_get}
use Rattle.gimple_ir.specs.declared.statement.Stmt.{Stmt}
use Rattle.gimple_ir.specs.declared.statement.Stmt.TheVariants.{Copy, Arith, Compare, Convert, Load, Store, Call, Indirect, Get, Put, Abort}
use Rattle.gimple_ir.specs.declared.block.Block.{Block}
use Rattle.gimple_ir.specs.declared.program.Function.{Function}
use Rattle.gimple_ir.specs.declared.program.Program.{Program}
use Rattle.gimple_core.specs.Run.{Callee, Named, Through, Calling, call_of, function_named, main_name}
use Rattle.gimple_core.specs.Reach.{operands_of, TakesAddress, Mentions, MentionsIn, MentionsInBlocks, AddressedIn, IsAddressed, IsClosed}
use Rattle.gimple_core.specs.Accepted.{IsAccepted}
use Rattle.icf_classes.specs.Placed.{number_of}
use Rattle.icf_classes.specs.Congruence.{class_of, one_class, AreClasses, IsRepresentative}
use Rattle.icf_classes.specs.Merged.{name_or, representative, sent, sent_stmt, sent_body, sent_block, sent_function, sent_program, is_kept}
use Rattle.icf_classes.proofs.Meaning.{named_callee}
use Rattle.icf_classes.proofs.Bodies.{callee_sent}
use Rattle.icf_classes.proofs.Sending.{MeetAlike, Sends, found_sent}
use Rattle.icf_classes.proofs.Numbers.{none_past, named_at, numbered_own, named_own, main_there}

-- ---- what stands in a body whose calls are sent

operands_sent : (to : List ℕ → List ℕ) (x : Stmt) → operands_of (sent_stmt to x) ≡ operands_of x
operands_sent to (Copy target from) = refl
operands_sent to (Arith target left op right) = refl
operands_sent to (Compare target left cmp right) = refl
operands_sent to (Convert target scalar from) = refl
operands_sent to (Load target scalar place) = refl
operands_sent to (Store scalar place from) = refl
operands_sent to (Call target callee arguments) = refl
operands_sent to (Indirect target signature callee arguments) = refl
operands_sent to (Get target) = refl
operands_sent to (Put from) = refl
operands_sent to Abort = refl

-- the name that a call names
abbrev name_of : Option Calling → Option (List ℕ)
name_of None = None
name_of (Some c) = elim c.callee [ Named name ↦ Some name | Through name signature ↦ None ]

callee_named : (x : Stmt) → named_callee x ≡ name_of (call_of x)
callee_named (Copy target from) = refl
callee_named (Arith target left op right) = refl
callee_named (Compare target left cmp right) = refl
callee_named (Convert target scalar from) = refl
callee_named (Load target scalar place) = refl
callee_named (Store scalar place from) = refl
callee_named (Call target callee arguments) = refl
callee_named (Indirect target signature callee arguments) = refl
callee_named (Get target) = refl
callee_named (Put from) = refl
callee_named Abort = refl

abbrev name_in : Callee → Option (List ℕ)
name_in (Named name) = Some name
name_in (Through name signature) = None

module _ (to : List ℕ → List ℕ) (other : List ℕ) where
  -- a function to which calls are sent
  record IsSent : Type 0 where
    callee : List ℕ
    is : to callee ≡ other

  sent_of : (o : Option (List ℕ)) → option_map to o ≡ Some other → IsSent
  sent_of None e = cc
  sent_of (Some name) e = let same : to name ≡ other = cc in record { callee = name; is = same }

  named_sent : (f : Function) (x : Stmt) (c : Calling) → call_of (sent_stmt to x) ≡ Some c → c.callee ≡ Named other → IsSent
  named_sent f x c e n =
      let there : name_of (call_of (sent_stmt to x)) ≡ Some other = ap name_of e ∙ ap name_in n in
      sent_of (named_callee x) (sym (callee_sent to f x) ∙ (callee_named (sent_stmt to x) ∙ there))

  -- a statement of the body takes the address
  record TakenIn (xs : List Stmt) : Type 0 where
    stmt : Stmt
    stands : Contains xs stmt
    takes : TakesAddress other (operands_of stmt)

  taken_later : (x : Stmt) (xs : List Stmt) → TakenIn xs → TakenIn (x ∷ xs)
  taken_later x xs t = let c = t.stands in let l : c.0 < length xs = c.1 in record { stmt = t.stmt; stands = (suc c.0, omega (arith, l), c.2); takes = t.takes }

  body_parted : (f : Function) (xs : List Stmt) → MentionsIn other (sent_body to xs) → TakenIn xs ⊎ IsSent
  body_parted f [] m = elim m [ ]
  body_parted f (x ∷ xs) (MentionsIn.here _ _ (Mentions.calls c e n)) = inr (named_sent f x c e n)
  body_parted f (x ∷ xs) (MentionsIn.here _ _ (Mentions.addresses t)) =
      inl (record { stmt = x; stands = (0, omega arith, refl); takes = subst (TakesAddress other) (operands_sent to x) t })
  body_parted f (x ∷ xs) (MentionsIn.later _ _ m) = elim (body_parted f xs m) [ inl t ↦ inl (taken_later x xs t) | inr s ↦ inr s ]

  blocks_parted : (f : Function) (bs : List Block) → MentionsInBlocks other (map (sent_block to) bs) → AddressedIn other bs ⊎ IsSent
  blocks_parted f [] m = elim m [ ]
  blocks_parted f (b ∷ bs) (MentionsInBlocks.body _ _ m) = elim (body_parted f b.body m) [ inl t ↦ inl (AddressedIn.body b bs t.stmt t.stands t.takes) | inr s ↦ inr s ]
  blocks_parted f (b ∷ bs) (MentionsInBlocks.end _ _ t) = inl (AddressedIn.end b bs t)
  blocks_parted f (b ∷ bs) (MentionsInBlocks.later _ _ m) = elim (blocks_parted f bs m) [ inl t ↦ inl (AddressedIn.later b bs t) | inr s ↦ inr s ]

-- ---- classes

module _ (p : Program) (accepted : IsAccepted p) (classes : List ℕ) (are : AreClasses p classes) where
  past_class : (i : ℕ) → length classes ≤ i → class_of classes i ≡ i
  past_class i l = get_or_past classes i i l

  main_within : number_of p main_name < length classes
  main_within =
      let m = main_there p accepted in
      let l = slice_get_within p.functions (number_of p main_name) m.0 (sym (named_at p main_name) ∙ m.1) in
      let c = are.count in
      omega (arith, l, c)

  class_within : (i : ℕ) → i < length classes → class_of classes i < length classes
  class_within i l = by (one_class classes i (number_of p main_name)) refl
    where
      r : IsRepresentative p (one_class classes) i (class_of classes i)
      r = are.representatives i l

      by : (b : Bool) → one_class classes i (number_of p main_name) ≡ b → class_of classes i < length classes
      by true e = let same = r.main e in omega (arith, same, main_within)
      by false e = let first = r.first e i (are.congruence.reflexive i) in omega (arith, first, l)

  class_member : (i : ℕ) → one_class classes i (class_of classes i) ≡ true
  class_member i = elim (cases_lt i (length classes)) [
    | inl l ↦ (are.representatives i l).member
    | inr l ↦ subst (λ k. one_class classes i k ≡ true) (sym (past_class i l)) (are.congruence.reflexive i)
  ]

  -- what two related numbers have
  meet_by : (i k : ℕ) → one_class classes i k ≡ true → (o r : Option Function) → slice_get p.functions i ≡ o → slice_get p.functions k ≡ r → MeetAlike (one_class classes) p o r
  meet_by i k e None None a b = tt
  meet_by i k e None (Some g) a b =
      let c = are.count in
      let high = none_past p.functions i a in
      let low = slice_get_within p.functions k g b in
      let past = past_class i (omega (arith, high, c)) in
      let within = class_within k (omega (arith, low, c)) in
      let same = eqb-true (class_of classes i) (class_of classes k) e in
      absurd (omega (arith, past, within, same, high, c))
  meet_by i k e (Some f) None a b =
      let c = are.count in
      let high = none_past p.functions k b in
      let low = slice_get_within p.functions i f a in
      let past = past_class k (omega (arith, high, c)) in
      let within = class_within i (omega (arith, low, c)) in
      let same = eqb-true (class_of classes i) (class_of classes k) e in
      absurd (omega (arith, past, within, same, high, c))
  meet_by i k e (Some f) (Some g) a b = are.congruence.alike i k f g a b e

  module _ (stays : List ℕ → Bool) where
    abbrev to : List ℕ → List ℕ
    to = sent p stays classes

    -- the number of a function to which a name is sent
    record Goes (name : List ℕ) : Type 0 where
      number : ℕ
      related : one_class classes (number_of p name) number ≡ true
      found : function_named (sent p stays classes name) p.functions ≡ slice_get p.functions number

    itself : (name : List ℕ) → sent p stays classes name ≡ name → Goes name
    itself name e = record { number = number_of p name; related = are.congruence.reflexive (number_of p name); found = ap (λ n. function_named n p.functions) e ∙ named_at p name }

    goes_by : (name : List ℕ) (o : Option Function) → slice_get p.functions (class_of classes (number_of p name)) ≡ o → sent p stays classes name ≡ name_or name o → Goes name
    goes_by name None e s = itself name s
    goes_by name (Some h) e s = record {
      number = class_of classes (number_of p name);
      related = class_member (number_of p name);
      found = ap (λ n. function_named n p.functions) s ∙ (named_own p accepted (class_of classes (number_of p name)) h e ∙ sym e);
    }

    goes : (name : List ℕ) → Goes name
    unfolding representative
    goes name = by (stays name) refl
      where
        by : (b : Bool) → stays name ≡ b → Goes name
        by true e = itself name (rw e refl)
        by false e = goes_by name (slice_get p.functions (class_of classes (number_of p name))) refl (rw e refl)

    -- the classes send calls to functions that are alike
    pub classes_send : Sends (one_class classes) p (sent p stays classes)
    classes_send = record {
      found = λ m n e.
          let g = goes n in
          let related : one_class classes (number_of p m) g.number ≡ true = are.congruence.transitive (number_of p m) (number_of p n) g.number e g.related in
          subst (λ o. MeetAlike (one_class classes) p o (function_named (sent p stays classes n) p.functions)) (sym (named_at p m))
          (subst (λ r. MeetAlike (one_class classes) p (slice_get p.functions (number_of p m)) r) (sym g.found)
          (meet_by (number_of p m) g.number related (slice_get p.functions (number_of p m)) (slice_get p.functions g.number) refl refl));
      own = λ name f e.
          let at : slice_get p.functions (number_of p name) ≡ Some f = sym (named_at p name) ∙ e in
          are.congruence.alike (number_of p name) (number_of p name) f f at at (are.congruence.reflexive (number_of p name));
    }

    -- ---- what is kept

    module _ (exact : (name : List ℕ) (f : Function) → function_named name p.functions ≡ Some f → IsTrue (stays name) ↔ ((name ≡ main_name) ⊎ IsAddressed p name)) where
      abbrev keeps : List ℕ → Bool
      keeps = is_kept p stays classes

      stay_kept : (name : List ℕ) → stays name ≡ true → is_kept p stays classes name ≡ true
      stay_kept name e = rw e refl

      or_later : (a b : Bool) → b ≡ true → (a || b) ≡ true
      or_later true b e = refl
      or_later false b e = e

      -- a function of the program with its calls sent is one of the program
      record Before (name : List ℕ) (f : Function) : Type 0 where
        source : Function
        found : function_named name p.functions ≡ Some source
        is : sent_function (sent p stays classes) source ≡ f

      before_by : (name : List ℕ) (f : Function) (o : Option Function) → function_named name p.functions ≡ o → option_map (sent_function (sent p stays classes)) o ≡ Some f → Before name f
      before_by name f None e h = cc
      before_by name f (Some g) e h = let same : sent_function (sent p stays classes) g ≡ f = cc in record { source = g; found = e; is = same }

      before : (name : List ℕ) (f : Function) → function_named name (sent_program (sent p stays classes) p).functions ≡ Some f → Before name f
      before name f h = before_by name f (function_named name p.functions) refl (sym (found_sent (sent p stays classes) name p.functions) ∙ h)

      member : (name : List ℕ) (f : Function) → function_named name p.functions ≡ Some f → Contains p.functions f
      member name f e =
          let at : slice_get p.functions (number_of p name) ≡ Some f = sym (named_at p name) ∙ e in
          (number_of p name, slice_get_within p.functions (number_of p name) f at, get_or_from_slice_get p.functions (number_of p name) f f at)

      -- a representative is its own
      represents : (callee : List ℕ) (h : Function) → slice_get p.functions (class_of classes (number_of p callee)) ≡ Some h → is_kept p stays classes h.name ≡ true
      represents callee h e =
          let r : ℕ = class_of classes (number_of p callee) in
          let own : number_of p h.name ≡ class_of classes (number_of p callee) = numbered_own p accepted r h e in
          let fixed : class_of classes (number_of p callee) ≡ class_of classes (class_of classes (number_of p callee)) = eqb-true (class_of classes (number_of p callee)) (class_of classes r) (class_member (number_of p callee)) in
          or_later (stays h.name) (class_of classes (number_of p h.name) == number_of p h.name)
          (eq-eqb (class_of classes (number_of p h.name)) (number_of p h.name) (ap (class_of classes) own ∙ (sym fixed ∙ sym own)))

      sent_by : (callee : List ℕ) (o : Option Function) → slice_get p.functions (class_of classes (number_of p callee)) ≡ o → sent p stays classes callee ≡ name_or callee o → (g : Function) → function_named (sent p stays classes callee) p.functions ≡ Some g → is_kept p stays classes (sent p stays classes callee) ≡ true
      sent_by callee None e s g h =
          let here : function_named callee p.functions ≡ Some g = ap (λ n. function_named n p.functions) (sym s) ∙ h in
          let low = slice_get_within p.functions (number_of p callee) g (sym (named_at p callee) ∙ here) in
          let c = are.count in
          let within = class_within (number_of p callee) (omega (arith, low, c)) in
          let high = none_past p.functions (class_of classes (number_of p callee)) e in
          absurd (omega (arith, within, high, c))
      sent_by callee (Some f) e s g h = subst (λ n. is_kept p stays classes n ≡ true) (sym s) (represents callee f e)

      sent_kept : (callee : List ℕ) (g : Function) → function_named (sent p stays classes callee) p.functions ≡ Some g → is_kept p stays classes (sent p stays classes callee) ≡ true
      unfolding representative
      sent_kept callee g h = by (stays callee) refl
        where
          by : (b : Bool) → stays callee ≡ b → is_kept p stays classes (sent p stays classes callee) ≡ true
          by true e = let s : sent p stays classes callee ≡ callee = rw e refl in subst (λ n. is_kept p stays classes n ≡ true) (sym s) (stay_kept callee e)
          by false e = sent_by callee (slice_get p.functions (class_of classes (number_of p callee))) refl (rw e refl) g h

      -- what is kept is closed in the program whose calls are sent
      pub kept_closed : IsClosed (sent_program (sent p stays classes) p) (is_kept p stays classes)
      kept_closed = record {
        main = let m = main_there p accepted in stay_kept main_name ((exact main_name m.0 m.1).1 (inl refl));
        items = λ name f m e. let b = before name f e in stay_kept name ((exact name b.source b.found).1 (inr (IsAddressed.item m)));
        bodies = λ name f other g k e m h.
            let b = before name f e in
            let o = before other g h in
            let there : MentionsInBlocks other (map (sent_block (sent p stays classes)) b.source.blocks) = subst (λ (z : Function). MentionsInBlocks other z.blocks) (sym b.is) m in
            elim (blocks_parted (sent p stays classes) other b.source b.source.blocks there) [
              | inl a ↦ stay_kept other ((exact other o.source o.found).1 (inr (IsAddressed.body b.source (member name b.source b.found) a)))
              | inr s ↦
                  let found : function_named (sent p stays classes s.callee) p.functions ≡ Some o.source = ap (λ n. function_named n p.functions) s.is ∙ o.found in
                  subst (λ n. is_kept p stays classes n ≡ true) s.is (sent_kept s.callee o.source found)
            ];
      }
