-- What was read, and the faults of a simulation that result.
use Rattle.std.proofs.Common.{◌≡◌, ◌≢◌, ◌⊎◌, ◌∙◌, ◌≤◌, rules, ℕ, length, List, [], ◌++◌, Option, Some, None, Result, Ok, Err, IfErr, append-nil, ap, inl, inr, refl}
use Rattle.std.specs.Io.KnownBytes.{Consumes, IsAtEnd}
use Rattle.std.specs.Result.{IsErrAnd}
use Rattle.des_event.specs.declared.error.RunError.TheVariants as run
use Rattle.chord_play.specs.Faults.{fault_of_scenario}
use Rattle.chord_play.specs.Readings.{IsFaultOf, Reading, WasRead, text_of}
use Rattle.chord_play.specs.Texts.{IsShort, Lacks, most_bytes}
use Rattle.chord_play.specs.declared.fault.PlayFault.{PlayFault}
use Rattle.chord_play.specs.declared.fault.PlayFault.TheVariants as play
use Rattle.chord_scenario.specs.declared.fault.ScenarioFault.{ScenarioFault}
use Rattle.chord_scenario.specs.declared.fault.ScenarioFault.TheVariants.{
  NotToml,
  UnknownKey,
  MissingKey,
  WrongType,
  OutOfRange,
  BadName,
  SameName,
  SameId,
  UnknownNode,
  TooFewInitial,
  TimeAfterEnd,
  BadLatencyRow,
  SelfLink,
  SameLinkTwice,
  LatencyBelowWindow,
  RowsAndCoordinates,
  Memory,
}

-- what was read up to the end is all that was left
pub whole_text : (old new : Option (List ℕ)) (text : List ℕ) → Consumes old new text → IsAtEnd new → (bytes : List ℕ) → old ≡ Some bytes → text ≡ bytes
whole_text None new text eats end bytes same = cc
whole_text (Some xs) None text eats end bytes same = absurd eats
whole_text (Some xs) (Some ys) text eats end bytes same =
    let whole : xs ≡ text ++ [] = rw end at eats in
    let plain : xs ≡ text = simp append-nil at whole in
    cc

-- a text that was read to its end is not too long if what was read is not
pub short_text : (old new : Option (List ℕ)) (text : List ℕ) → Consumes old new text → IsAtEnd new → length text ≤ most_bytes → IsShort old
short_text None new text eats end few = search rules
short_text (Some xs) new text eats end few = rw (← whole_text (Some xs) new text eats end xs refl) few

-- a fault of the reader is a failed allocation, or the same fault of the scenario
memory_or_fault : (f : ScenarioFault) → (f ≡ Memory) ⊎ ((f ≢ Memory) × (fault_of_scenario f ≡ play.Scenario f))
memory_or_fault Memory = inl refl
memory_or_fault NotToml = inr (λ is. cc, refl)
memory_or_fault (UnknownKey at) = inr (λ is. cc, refl)
memory_or_fault (MissingKey at key) = inr (λ is. cc, refl)
memory_or_fault (WrongType at key) = inr (λ is. cc, refl)
memory_or_fault (OutOfRange at key) = inr (λ is. cc, refl)
memory_or_fault (BadName at) = inr (λ is. cc, refl)
memory_or_fault (SameName i j) = inr (λ is. cc, refl)
memory_or_fault (SameId a b) = inr (λ is. cc, refl)
memory_or_fault (UnknownNode at) = inr (λ is. cc, refl)
memory_or_fault TooFewInitial = inr (λ is. cc, refl)
memory_or_fault (TimeAfterEnd at) = inr (λ is. cc, refl)
memory_or_fault (BadLatencyRow at) = inr (λ is. cc, refl)
memory_or_fault (SelfLink at) = inr (λ is. cc, refl)
memory_or_fault (SameLinkTwice at) = inr (λ is. cc, refl)
memory_or_fault (LatencyBelowWindow a b) = inr (λ is. cc, refl)
memory_or_fault RowsAndCoordinates = inr (λ is. cc, refl)

-- a fault of the reader, after both texts were read
pub reader_fault : {A R Q : Type 0} (s : Reading R) (l : Reading Q) (f : ScenarioFault) (result : Result A PlayFault) → WasRead s → WasRead l
    → (f ≡ Memory) ⊎ Lacks (text_of s) (text_of l) f → IsErrAnd result (λ fault. fault ≡ fault_of_scenario f) → IfErr result (IsFaultOf s l)
reader_fault s l f (Ok value) read_s read_l why gives = search rules
reader_fault s l f (Err fault) read_s read_l why gives = elim (memory_or_fault f) [
  | inl memory ↦
      let is : fault ≡ play.Run run.Memory = gives ∙ ap fault_of_scenario memory in
      rw is (inr (read_s, read_l))
  | inr other ↦
      let is : fault ≡ play.Scenario f = gives ∙ other.1 in
      rw is (
        other.0,
        read_s,
        read_l,
        elim why [
          | inl memory ↦ absurd (other.0 memory)
          | inr lacks ↦ lacks
        ],
      )
]
