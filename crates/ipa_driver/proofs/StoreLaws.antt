-- One store after another.
use Rattle.std.proofs.Common.{◌≡◌, ◌⊎◌, inl, inr, ℕ, ◌-◌, ◌≤◌, List, [], ◌∷◌, ◌++◌, length, take, drop, get_or, Option, Some, None, Result, Ok, Err, MatchResult, refl, sym, ap, ◌∙◌, subst, arith}
use Rattle.std.specs.Option.{option_map}
use Rattle.shelf.specs.Outside.{Meaning, Contents, put, put_all, Rose}
use Rattle.words.specs.declared.options.Name.{Name}
use Rattle.words.specs.Words.{bytes_of}
use Rattle.ipa_driver.specs.declared.outputs.Output.{Output}
use Rattle.ipa_driver.specs.Stores.{pairs, AreStored, IsStoreFault, IsCut}

take-whole : (xs : List Output) → take (length xs) xs ≡ xs
take-whole [] = refl
take-whole (x ∷ xs) = ap (λ ys. x ∷ ys) (take-whole xs)

-- a first element and the rest, as a slice pattern has them
pub first_and_rest : (xs : List Output) (x : Output) → 1 ≤ length xs → x ≡ get_or xs 0 x → xs ≡ x ∷ take (length xs - 1) (drop 1 xs)
first_and_rest [] x h e = absurd (omega arith)
first_and_rest (y ∷ ys) x h e =
    let n : length (y ∷ ys) - 1 ≡ length ys = omega arith in
    rw n (rw take-whole (ap (λ z. z ∷ ys) (sym e)))

-- a pair, and then a list of pairs
put_all-more : (m : Option Contents) (pair : List ℕ × List ℕ) (more : List (List ℕ × List ℕ)) → option_map (put_all more) (option_map (λ m. put m pair) m) ≡ option_map (put_all (pair ∷ more)) m
put_all-more None pair more = refl
put_all-more (Some m) pair more = refl

module _ (words : List (List ℕ)) (x : Output) (xs : List Output) (old mid new : Meaning)
    (here : mid.stores ≡ option_map (λ m. put m (bytes_of words x.name, x.text)) old.stores)
    (quiet : mid.write_faults ≡ old.write_faults) where
  stored-more : AreStored words xs mid new → AreStored words (x ∷ xs) old new
  stored-more h = record {
    stores = h.stores ∙ (rw here (put_all-more old.stores (bytes_of words x.name, x.text) (pairs words xs)));
    write = h.write ∙ quiet;
  }

  cut-more : (name : Name) → IsCut words xs name mid.stores new.stores → IsCut words (x ∷ xs) name old.stores new.stores
  cut-more name h = record {
    front = x ∷ h.front;
    failed = h.failed;
    back = h.back;
    whole = ap (λ ys. x ∷ ys) h.whole;
    named = h.named;
    stores = elim h.stores [
      | inl e ↦ inl (e ∙ rw here (put_all-more old.stores (bytes_of words x.name, x.text) (pairs words h.front)))
      | inr w ↦ inr (w.0, w.1 ∙ rw here (put_all-more old.stores (bytes_of words x.name, x.text) (pairs words h.front ++ (bytes_of words name, take w.0 h.failed.text) ∷ [])))
    ];
  }

  fault-more : (name : Name) → IsStoreFault words xs mid new name → IsStoreFault words (x ∷ xs) old new name
  fault-more name h = record { rose = subst (λ n. Rose n new.write_faults) quiet h.rose; cut = cut-more name h.cut }

  pub answer-more : (r : Result (Unit {0}) Name) → MatchResult r (λ _. AreStored words xs mid new) (IsStoreFault words xs mid new) → MatchResult r (λ _. AreStored words (x ∷ xs) old new) (IsStoreFault words (x ∷ xs) old new)
  answer-more (Ok u) h = stored-more h
  answer-more (Err name) h = fault-more name h

put_all-none : (m : Option Contents) → m ≡ option_map (put_all []) m
put_all-none None = refl
put_all-none (Some m) = refl

-- the first of the stores fails
pub fault-first : (words : List (List ℕ)) (x : Output) (xs : List Output) (old new : Meaning) → Rose old.write_faults new.write_faults → ((new.stores ≡ old.stores) ⊎ ((k : ℕ) × (new.stores ≡ option_map (λ m. put m (bytes_of words x.name, take k x.text)) old.stores))) → IsStoreFault words (x ∷ xs) old new x.name
fault-first words x xs old new rose stores = record {
  rose = rose;
  cut = record {
    front = [];
    failed = x;
    back = xs;
    whole = refl;
    named = refl;
    stores = elim stores [
      | inl e ↦ inl (e ∙ put_all-none old.stores)
      | inr w ↦ inr (w.0, w.1)
    ];
  };
}
