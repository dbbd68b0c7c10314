-- The calls of a node once one of them is sent again: it moves to the end, and keeps its number, its node and its purpose.
use Rattle.std.proofs.Common.{◌≡◌, ◌≢◌, ◌==◌, ◌&&◌, ℕ, ◌+◌, ◌≤◌, Bool, true, false, not, cond, List, [], ◌∷◌, ◌++◌, get_or, Some, refl, sym, ◌∙◌, ap, subst, arith, inl, inr, zero-add}
use Rattle.std.proofs.lemmas.Bool.{eqb-true}
use Rattle.std.proofs.lemmas.Bool.Decides.{nat_tests}
use Rattle.std.proofs.lemmas.List.Elements.{All-push, filter_passes}
use Rattle.std.proofs.lemmas.List.Quantifiers.{all_pairs_push}
use Rattle.std.specs.List.{AllPairs, filter, find}
use Rattle.std.specs.Prelude.{IfSome, if◌then◌else◌}
use Rattle.chord_scenario.specs.declared.scenario.Scenario.{Scenario}
use Rattle.chord_node.specs.declared.state.Call.{Call}
use Rattle.chord_node.specs.declared.state.Lookup.{Lookup}
use Rattle.chord_node.specs.declared.state.Purpose.{Purpose}
use Rattle.chord_node.specs.declared.state.Status.{Status}
use Rattle.chord_node.specs.Invariant.{
  AreCalls,
  AreMatched,
  IsCall,
  IsPurposeOf,
  NamesKnown,
  asking,
  calls_for,
  is_for_join,
  is_for_lookup,
  is_for_ping,
  is_for_repair,
}
use Rattle.chord_ops.proofs.Found.{IfSome-find}
use Rattle.chord_ops.proofs.Kept.{calls_for-push, calls_more, count_by-push}
use Rattle.chord_ops.proofs.Removed.{asking_found, asking_other, asking_same, calls_for-without, calls_without, count_by-filter, nat_cases}

-- what is found passes the test
find_holds : {A : Type 0} (p : A → Bool) (xs : List A) (x : A) → find p xs ≡ Some x → p x ≡ true
find_holds p [] x found = absurd (cc)
find_holds p (y ∷ ys) x found = holds_by (p y) refl found (find_holds p ys x)
  where
    holds_by : (b : Bool) → p y ≡ b → (if b then Some y else find p ys) ≡ Some x → (find p ys ≡ Some x → p x ≡ true) → p x ≡ true
    holds_by true test is ih = let same : y ≡ x = cc in ap p (sym same) ∙ test
    holds_by false test is ih = ih is

same_number : (n : ℕ) → (n == n) ≡ true
same_number n = grind (arith, nat_tests)

-- the calls of other numbers
abbrev pub rest : (number : ℕ) → List Call → List Call
rest number calls = filter (λ (c : Call). not (c.number == number)) calls

moved_to_end : (p : Purpose → Bool) (number : ℕ) (calls : List Call) (call again : Call) → find (λ (c : Call). c.number == number) calls ≡ Some call
    → again.purpose ≡ call.purpose → calls_for p calls ≤ 1 → calls_for p (rest number calls ++ again ∷ []) ≤ 1
moved_to_end p number calls call again found same few = by_test (p call.purpose) refl
  where
    pushed : calls_for p (rest number calls ++ again ∷ []) ≡ calls_for p (rest number calls) + cond (p call.purpose) 1 0
    pushed = calls_for-push p (rest number calls) again ∙ ap (λ (w : Purpose). calls_for p (rest number calls) + cond (p w) 1 0) same

    by_test : (b : Bool) → p call.purpose ≡ b → calls_for p (rest number calls ++ again ∷ []) ≤ 1
    by_test true test =
        let one : ◌≡◌ {A = ℕ} (cond (p call.purpose) 1 0) 1 = ap (λ (v : Bool). cond v 1 0) test in
        omega (arith, pushed, one, calls_for-without p number calls call found test, few)
    by_test false test =
        let none : ◌≡◌ {A = ℕ} (cond (p call.purpose) 1 0) 0 = ap (λ (v : Bool). cond v 1 0) test in
        omega (arith, pushed, none, count_by-filter (λ (c : Call). p c.purpose) (λ (c : Call). not (c.number == number)) calls, few)

pub calls_again : (sc : Scenario) (status : Status) (count more number : ℕ) (calls : List Call) (call again : Call)
    → find (λ (c : Call). c.number == number) calls ≡ Some call → count ≤ more → again.number ≡ number → again.to ≡ call.to
    → again.purpose ≡ call.purpose → AreCalls sc status count calls → AreCalls sc status more (rest number calls ++ again ∷ [])
calls_again sc status count more number calls call again found le own same_to same_purpose h =
    let keep : Call → Bool = λ c. not (c.number == number) in
    let others = calls_more sc status count more (rest number calls) le (calls_without sc status count keep calls h) in
    let is : IsCall sc call = subst (λ o. IfSome o (IsCall sc)) found (IfSome-find (IsCall sc) (λ (c : Call). c.number == number) calls h.each) in
    let old_number : call.number ≤ count =
    subst (λ o. IfSome o (λ (c : Call). c.number ≤ count)) found
    (IfSome-find (λ (c : Call). c.number ≤ count) (λ (c : Call). c.number == number) calls h.numbers) in
    let allowed : IsPurposeOf status call.purpose =
    subst (λ o. IfSome o (λ (c : Call). IsPurposeOf status c.purpose)) found
    (IfSome-find (λ (c : Call). IsPurposeOf status c.purpose) (λ (c : Call). c.number == number) calls h.purposes) in
    let is_number : call.number ≡ number = eqb-true call.number number (find_holds (λ (c : Call). c.number == number) calls call found) in
    record {
      each =
          All-push (IsCall sc) (rest number calls) again others.each
          (record {
            to = omega (arith, is.to, same_to);
            named = subst (NamesKnown sc) (sym same_purpose) is.named;
          });
      numbers = All-push (λ (c : Call). c.number ≤ more) (rest number calls) again others.numbers (omega (arith, own, is_number, old_number, le));
      distinct =
          all_pairs_push (λ (c d : Call). c.number ≢ d.number) (rest number calls) again others.distinct
          (λ k d within e.
          let kept : not ((get_or (rest number calls) k d).number == number) ≡ true = filter_passes keep calls k d within in
          absurd (apart_by (get_or (rest number calls) k d).number number kept (e ∙ own)));
      purposes =
          All-push (λ (c : Call). IsPurposeOf status c.purpose) (rest number calls) again others.purposes
          (subst (IsPurposeOf status) (sym same_purpose) allowed);
      for_join = moved_to_end is_for_join number calls call again found same_purpose h.for_join;
      for_repair = moved_to_end is_for_repair number calls call again found same_purpose h.for_repair;
      for_ping = moved_to_end is_for_ping number calls call again found same_purpose h.for_ping;
    }
  where
    apart_by : (m n : ℕ) → not (m == n) ≡ true → m ≢ n
    apart_by m n h e = let same : (m == n) ≡ true = ap (λ (k : ℕ). k == n) e ∙ same_number n in let both : not true ≡ true = sym (ap not same) ∙ h in cc

asking-push : (m : ℕ) (calls : List Call) (call : Call) → asking m (calls ++ call ∷ []) ≡ asking m calls + cond ((call.number == m) && is_for_lookup call.purpose) 1 0
asking-push m calls call = count_by-push (λ (c : Call). (c.number == m) && is_for_lookup c.purpose) calls call

pub matched_again : (number : ℕ) (calls : List Call) (call again : Call) (lookups : List Lookup) → AllPairs (λ (c d : Call). c.number ≢ d.number) calls
    → find (λ (c : Call). c.number == number) calls ≡ Some call → again.number ≡ number → again.purpose ≡ call.purpose → AreMatched calls lookups
    → AreMatched (rest number calls ++ again ∷ []) lookups
matched_again number calls call again lookups distinct found own same h =
    λ m. elim (nat_cases m number) [
      | inl here ↦ rw here (h number ∙ sym asked_as_before)
      | inr apart ↦
          let differs : (again.number == m) ≡ false = grind (arith, nat_tests) in
          let none : asking m (rest number calls ++ again ∷ []) ≡ asking m (rest number calls) + 0
          = asking-push m (rest number calls) again ∙ ap (λ (v : Bool). asking m (rest number calls) + cond (v && is_for_lookup again.purpose) 1 0) differs in
          omega (arith, none, h m, asking_other m number calls apart)
    ]
  where
    is_own : (again.number == number) ≡ true
    is_own = ap (λ (k : ℕ). k == number) own ∙ same_number number

    asked_as_before : asking number (rest number calls ++ again ∷ []) ≡ asking number calls
    asked_as_before =
        asking-push number (rest number calls) again
        ∙ ap (λ (v : Bool). asking number (rest number calls) + cond (v && is_for_lookup again.purpose) 1 0) is_own
        ∙ ap (λ (w : Purpose). asking number (rest number calls) + cond (is_for_lookup w) 1 0) same
        ∙ ap (λ (k : ℕ). k + cond (is_for_lookup call.purpose) 1 0) (asking_same number calls)
        ∙ zero-add (cond (is_for_lookup call.purpose) 1 0) ∙ sym (asking_found number calls call distinct found)
