-- Laws of the answers of a run.
use Rattle.std.proofs.Common.{◌≡◌, ◌⊎◌, inl, inr, ℕ, ◌+◌, ◌-◌, ◌≤◌, List, [], length, take, Option, Some, None, Result, Ok, Err, MatchResult, refl, sym, ◌∙◌, subst, arith}
use Rattle.std.specs.Option.{IsSomeAnd, IfSome}
use Rattle.shelf.specs.Outside.{Meaning, Contents, at_name, Rose, RoseBy, OnSource, LacksSource, Appends, IsToldCut}
use Rattle.words.specs.declared.options.Name.{Name}
use Rattle.words.specs.declared.options.SourceName.{SourceName}
use Rattle.words.specs.declared.options.SourceName.TheVariants.{File, Generate}
use Rattle.words.specs.Words.{bytes_of}
use Rattle.gimple_ir.specs.declared.scalar.Mode.{Mode}
use Rattle.gimple_ir.specs.declared.program.Program.{Program}
use Rattle.gimple_core.specs.Sealed.{Sealed}
use Rattle.gimple_gen.specs.Generated.{generated}
use Rattle.gimple_text.specs.declared.fault.TextFault.{TextFault}
use Rattle.gimple_text.specs.declared.fault.TextFault.TheVariants.{BadByte, BadToken, EarlyEnd, Memory as TextMemory}
use Rattle.gimple_text.specs.Parse.{TextFaultOf}
use Rattle.gimple_text.proofs.Laws.{spelled_spellable}
use Rattle.gimple_text.proofs.SizeLaws.{countable}
use Rattle.ipa_driver.specs.declared.tool.Tool.{Tool}
use Rattle.words.specs.declared.options.UsageFault.{UsageFault}
use Rattle.ipa_driver.specs.declared.finish.Fault.{Fault}
use Rattle.ipa_driver.specs.declared.finish.Finish.{Finish}
use Rattle.ipa_driver.specs.declared.finish.Fault.TheVariants.{Usage, Read, Long, Text, Types, Write, Memory}
use Rattle.ipa_driver.specs.Stores.{IsCut}
use Rattle.ipa_driver.specs.Verdict.{LIMIT, Verdict, TooLong, BadText, BadTypes, Good, IsVerdict}
use Rattle.ipa_driver.specs.Source.{input_name, HasVerdict, IsUnread, IsGoodSource, WithinRoom, MadeOf}
use Rattle.ipa_driver.specs.Answers.{IsOfText, Refused, Answer, IsComplete, IsDone, TellsOne, TopAnswers, NoneRose, fault_status}
use Rattle.ipa_driver.specs.Work.{LoadsText, Judges, IsLoaded, WorkKeeps, WorkSure, MessageTold}
use Rattle.ipa_driver.proofs.VerdictLaws.{one}
use Rattle.ipa_driver.proofs.FewLaws.{few_spelled}

-- what holds of a text that was fetched holds of its source
module _ (P : List ℕ → Type 0) (text : List ℕ) (h : P text) where
  some_fetched : (found : Option (List ℕ)) → IsSomeAnd found (λ bytes. text ≡ bytes) → IsSomeAnd found P
  some_fetched None e = e
  some_fetched (Some bytes) e = subst P e h

  fetched : (sources : Option Contents) (name : List ℕ) → OnSource sources name (λ bytes. text ≡ bytes) → OnSource sources name P
  fetched None name e = e
  fetched (Some m) name e = some_fetched (at_name m name) e

of_text : (bytes : List ℕ) (f : TextFault) → TextFaultOf bytes f → IsOfText f
of_text bytes (BadByte spot) h = tt
of_text bytes (BadToken spot) h = tt
of_text bytes (EarlyEnd spot) h = tt
of_text bytes (TextMemory want) h = h

-- what was judged of the text is the verdict on the source
pub judged : (words : List (List ℕ)) (file : Name) (mode : Mode) (old new : Meaning) (text : List ℕ) (r : Result Sealed Fault) → LoadsText (bytes_of words file) old new text → Judges text mode r → MatchResult r (IsLoaded words (File file) mode old new) (Refused words (File file) old new)
judged words file mode old new text (Ok checked) l j = record {
  good = fetched (λ bytes. IsVerdict bytes (Good checked.program)) text j.0 old.sources (bytes_of words file) l.source;
  spellable = spelled_spellable text checked.program j.0.spelled;
  countable = countable text checked.program j.0.spelled (omega (arith, j.0.within));
  few = few_spelled text checked.program j.0.spelled j.0.within;
  mode = j.1;
  read = l.read;
}
judged words file mode old new text (Err (Text f)) l j = (of_text text f j.fault, fetched (λ bytes. IsVerdict bytes (BadText f)) text j old.sources (bytes_of words file) l.source)
judged words file mode old new text (Err (Types f)) l j = fetched (λ bytes. IsVerdict bytes (BadTypes f)) text j old.sources (bytes_of words file) l.source
judged words file mode old new text (Err Memory) l j = tt
judged words file mode old new text (Err (Usage f)) l j = j
judged words file mode old new text (Err Read) l j = absurd j
judged words file mode old new text (Err Long) l j = absurd j
judged words file mode old new text (Err (Write name)) l j = j

-- a source that is told and good has no other verdict
module _ (v : Verdict) where
  some_good : (found : Option (List ℕ)) → IsSomeAnd found (λ bytes. IsVerdict bytes v) → IsSomeAnd found (λ bytes. (p : Program) × IsVerdict bytes (Good p)) → (p : Program) × (v ≡ Good p)
  some_good None h g = absurd h
  some_good (Some bytes) h g = (g.0, one bytes v (Good g.0) h g.1)

  good : (sources : Option Contents) (words : List (List ℕ)) (source : SourceName) → HasVerdict sources words source v → IsGoodSource words source sources → (p : Program) × (v ≡ Good p)
  good None words (File name) h g = absurd g
  good (Some m) words (File name) h g = some_good (at_name m (bytes_of words name)) h g
  good sources words (Generate n) h g = (generated n, h)

some_lacks : (found : Option (List ℕ)) (P : List ℕ → Type 0) → found ≡ None → IsSomeAnd found P → ⊥
some_lacks None P e h = h
some_lacks (Some bytes) P e h = absurd cc

lacks : (sources : Option Contents) (words : List (List ℕ)) (name : Name) → LacksSource sources (bytes_of words name) → IsGoodSource words (File name) sources → ⊥
lacks None words name h g = g
lacks (Some m) words name h g = some_lacks (at_name m (bytes_of words name)) (λ bytes. (p : Program) × IsVerdict bytes (Good p)) h g

-- a good source is read, unless the shelf fails
unread : (words : List (List ℕ)) (source : SourceName) (old new : Meaning) → IsUnread words source old new → IsGoodSource words source old.sources → (Rose old.read_faults new.read_faults → ⊥) → ⊥
unread words (File name) old new h g read = elim h [ inl rose ↦ read rose | inr lacking ↦ lacks old.sources words name lacking g ]
unread words (Generate n) old new h g read = h

pub complete : (words : List (List ℕ)) (input : SourceName) (Makes : MadeOf) (old new : Meaning) (fault : Option Fault) → Answer words input Makes old new fault → IsComplete words input old new fault
complete words input Makes old new None a g read write = inl refl
complete words input Makes old new (Some (Usage f)) a g read write = absurd a.0
complete words input Makes old new (Some Read) a g read write = absurd (unread words input old new a.0 g read)
complete words input Makes old new (Some Long) a g read write =
    let e = good TooLong old.sources words input a.0.1 g in let x : TooLong ≡ Good e.0 = e.1 in absurd cc
complete words input Makes old new (Some (Text f)) a g read write =
    let e = good (BadText f) old.sources words input a.0.1 g in let x : BadText f ≡ Good e.0 = e.1 in absurd cc
complete words input Makes old new (Some (Types f)) a g read write =
    let e = good (BadTypes f) old.sources words input a.0 g in let x : BadTypes f ≡ Good e.0 = e.1 in absurd cc
complete words input Makes old new (Some (Write name)) a g read write = absurd (write a.rose)
complete words input Makes old new (Some Memory) a g read write = inr refl

unread_after : (words : List (List ℕ)) (source : SourceName) (old mid new : Meaning) → new.read_faults ≡ mid.read_faults → IsUnread words source old mid → IsUnread words source old new
unread_after words (File name) old mid new read h = subst (λ n. Rose old.read_faults n ⊎ LacksSource old.sources (bytes_of words name)) (sym read) h
unread_after words (Generate n) old mid new read h = h

-- A tell leaves the answer as it is.
module _ (words : List (List ℕ)) (input : SourceName) (Makes : MadeOf) (old mid new : Meaning)
    (stores : new.stores ≡ mid.stores) (read : new.read_faults ≡ mid.read_faults) (write : new.write_faults ≡ mid.write_faults) (taken : new.taken ≡ mid.taken) where
  pub answer_after : (fault : Fault) → Answer words input Makes old mid (Some fault) → Answer words input Makes old new (Some fault)
  answer_after (Usage f) a = (a.0, stores ∙ a.1, write ∙ a.2)
  answer_after Read a = (unread_after words input old mid new read a.0, stores ∙ a.1, write ∙ a.2)
  answer_after Long a = ((subst (λ n. RoseBy (LIMIT + 1) old.taken n) (sym taken) a.0.0, a.0.1), stores ∙ a.1, write ∙ a.2)
  answer_after (Text f) a = (a.0, stores ∙ a.1, write ∙ a.2)
  answer_after (Types f) a = (a.0, stores ∙ a.1, write ∙ a.2)
  answer_after (Write name) a = record {
    source = a.source;
    outputs = a.outputs;
    good = a.good;
    made = a.made;
    rose = subst (λ n. Rose old.write_faults n) (sym write) a.rose;
    cut = subst (λ (st : Option Contents). IsCut words a.outputs name old.stores st) (sym stores) a.cut;
  }
  answer_after Memory a = (a.0, stores ∙ a.1, write ∙ a.2)

-- the message after the work
module _ (tool : Tool) (words : List (List ℕ)) (source : SourceName) (Makes : MadeOf) (fault : Fault) (input : List ℕ) (Fits : ℕ → Type 0) (old mid new : Meaning)
    (keeps : WorkKeeps old mid) (t : MessageTold tool input words fault mid new)
    (fits : (r : ℕ) → Fits r → WithinRoom words source Makes old.sources r)
    (sure : WorkSure words source Makes old mid (Err fault)) where
  told_whole : (r : ℕ) → mid.sure ≡ Some r → length t.message ≤ r → (new.tell_faults ≡ mid.tell_faults) × Appends mid.told new.told t.message
  told_whole r e short =
      let s = subst (λ (m : Option ℕ). IfSome m (λ r. length t.message ≤ r → (new.sure ≡ Some (r - length t.message)) × (new.tell_faults ≡ mid.tell_faults) × Appends mid.told new.told t.message)) e t.tells.sure in
      let w = s short in
      (w.1, w.2)

  none_rose : (r : ℕ) → (mid.read_faults ≡ old.read_faults) × (mid.write_faults ≡ old.write_faults) × (mid.sure ≡ Some r) → length t.message ≤ r → NoneRose old new × Appends old.told new.told t.message
  none_rose r w short =
      let x = told_whole r w.2 short in
      (record { read = t.tells.read ∙ w.0; write = t.tells.write ∙ w.1; tell = x.0 ∙ keeps.tell }, subst (λ (m : Option (List ℕ)). Appends m new.told t.message) keeps.told x.1)

  surely : (s : Option ℕ)
      → IfSome s (λ r. WithinRoom words source Makes old.sources r → (mid.read_faults ≡ old.read_faults) × (mid.write_faults ≡ old.write_faults) × (mid.sure ≡ Some r))
      → IfSome s (λ r. length t.message ≤ r → Fits r → NoneRose old new × Appends old.told new.told t.message)
  surely None h = tt
  surely (Some r) h = λ short can. none_rose r (h (fits r can)) short

  told_or_cut : Appends mid.told new.told t.message ⊎ IsToldCut mid new t.message → Appends old.told new.told t.message ⊎ IsToldCut old new t.message
  told_or_cut (inl e) = inl (subst (λ (m : Option (List ℕ)). Appends m new.told t.message) keeps.told e)
  told_or_cut (inr c) = inr (record {
    rose = subst (λ n. Rose n new.tell_faults) keeps.tell c.rose;
    kept = c.kept;
    told = subst (λ (m : Option (List ℕ)). Appends m new.told (take c.kept t.message)) keeps.told c.told;
  })

  pub told_after : TellsOne tool input words Fits fault old new
  told_after = record {
    message = t.message;
    is_message = t.is_message;
    told = told_or_cut t.tells.told;
    sure = surely old.sure sure;
  }

-- ---- how a top call ends, by what it read of its words

misused_surely : (old new : Meaning) (message : List ℕ) → new.read_faults ≡ old.read_faults → new.write_faults ≡ old.write_faults → (s : Option ℕ)
    → IfSome s (λ r. length message ≤ r → (new.sure ≡ Some (r - length message)) × (new.tell_faults ≡ old.tell_faults) × Appends old.told new.told message)
    → IfSome s (λ r. length message ≤ r → Unit {0} → NoneRose old new × Appends old.told new.told message)
misused_surely old new message read write None h = tt
misused_surely old new message read write (Some r) h = λ short any. let (used, tell, told) = h short in (record { read = read; write = write; tell = tell }, told)

module _ {X : Type 0} (tool : Tool) (words : List (List ℕ)) (read : Result X UsageFault) (source : X → SourceName) (Makes : X → MadeOf) (old mid new : Meaning) where
  abbrev Ends : Result X UsageFault → Finish → Type 0
  Ends r finish = TopAnswers tool words r source Makes old new finish

  -- all is stored
  pub top_done : (o : X) → read ≡ Ok o → IsDone words (source o) (Makes o) old new → Ends read (record { status = 0; fault = None })
  top_done o lawful done = subst (λ r. Ends r (record { status = 0; fault = None })) (sym lawful) (record {
    status = refl;
    answer = done;
    told = tt;
    complete = complete words (source o) (Makes o) old new None done;
  })

  -- something failed behind the words, and is told
  pub top_failed : (o : X) (fault : Fault) → read ≡ Ok o → WorkKeeps old mid → Answer words (source o) (Makes o) old mid (Some fault) → WorkSure words (source o) (Makes o) old mid (Err fault)
      → MessageTold tool (input_name words (source o)) words fault mid new → Ends read (record { status = fault_status fault; fault = Some fault })
  top_failed o fault lawful keeps a sure t =
      let after = answer_after words (source o) (Makes o) old mid new t.tells.stores t.tells.read t.tells.write t.tells.taken fault a in
      let fits : (r : ℕ) → WithinRoom words (source o) (Makes o) old.sources r → WithinRoom words (source o) (Makes o) old.sources r = λ r can. can in
      subst (λ r. Ends r (record { status = fault_status fault; fault = Some fault })) (sym lawful) (record {
        status = refl;
        answer = after;
        told = told_after tool words (source o) (Makes o) fault (input_name words (source o)) (WithinRoom words (source o) (Makes o) old.sources) old mid new keeps t fits sure;
        complete = complete words (source o) (Makes o) old new (Some fault) after;
      })

  -- the words are faulty, which is told
  pub top_misused : (f : UsageFault) → read ≡ Err f → MessageTold tool [] words (Usage f) old new → Ends read (record { status = fault_status (Usage f); fault = Some (Usage f) })
  top_misused f faulty t = subst (λ r. Ends r (record { status = fault_status (Usage f); fault = Some (Usage f) })) (sym faulty) (record {
    status = refl;
    answer = record { fault = refl; stores = t.tells.stores; taken = t.tells.taken; read = t.tells.read; write = t.tells.write };
    told = record {
      message = t.message;
      is_message = t.is_message;
      told = t.tells.told;
      sure = misused_surely old new t.message t.tells.read t.tells.write old.sure t.tells.sure;
    };
    complete = tt;
  })
