-- The joined results of one worker and the others.
use Rattle.std.proofs.Common.{◌≡◌, ℕ, List, ◌+◌, ◌&&◌, ◌++◌, sym, ap, ap₂, ◌∙◌, subst, inl, inr, true, Option, None, Some, Result, Ok, Err, IfOk, IfErr, IfNone, IsOk}
use Rattle.std.proofs.lemmas.Option.{none-some}
use Rattle.des_event.specs.declared.error.RunError.{RunError}
use Rattle.des_crew.specs.declared.joined_shift.JoinedShift.{JoinedShift}
use Rattle.des_crew.specs.declared.shift.Shift.{Shift}
use Rattle.des_crew.specs.Seats.{SeatState}
use Rattle.des_crew.specs.Shifts.{AreResults, IsShift}
use Rattle.des_crew.specs.Windows.{IsFaultOf, IsJoinedShift, IsWindowFault, JoinsBoth, joined_seats}
use Rattle.des_crew.proofs.Results.{results_append}

-- a fact of no value, if there is none
pub from_none : {X : Type 0} (o : Option X) (P : Type 0) → o ≡ None → IfNone o P → P
from_none None P is fact = fact
from_none (Some x) P is fact = absurd (none-some x (sym is))

-- three facts of the value of an `Ok`, taken together
pub from_ok : {X Y : Type 0} (r : Result X Y) (P Q S : X → Type 0) (Whole : Type 0) → IsOk r → IfOk r P → IfOk r Q → IfOk r S
    → ((x : X) → P x → Q x → S x → Whole) → Whole
from_ok (Ok x) P Q S Whole is p q s made = made x p q s
from_ok (Err e) P Q S Whole is p q s made = cc is

module _ {Done : Type 0} (IsDone : ℕ → Done → Type 0) (IsOver : Type 0) where
  -- the results of the parts of a joined seat
  results_joined : (first mine seat : SeatState) (list more all : List Done) → seat ≡ joined_seats first mine → all ≡ list ++ more
      → AreResults IsDone first.numbers list → AreResults IsDone mine.numbers more → AreResults IsDone seat.numbers all
  results_joined first mine seat list more all seat_is all_is a b = subst (AreResults IsDone seat.numbers) (sym all_is)
      (subst (λ ns. AreResults IsDone ns (list ++ more)) (sym (ap (λ (s : SeatState). s.numbers) seat_is))
      (results_append IsDone first.numbers mine.numbers list more a b))

  -- the results of the others and one more worker are those of a worker with the joined seat
  pub shift_joined : (first mine : SeatState) (others : Result (JoinedShift Done) RunError) (shift : Shift Done) (whole : JoinedShift Done)
      → IfOk others (IsJoinedShift IsDone first)
      → IsShift IsDone IsOver mine shift
      → JoinsBoth others shift whole
      → IsJoinedShift IsDone (joined_seats first mine) whole
  shift_joined first mine others shift whole g s j =
      let exhausted = from_none shift.fault (shift.seat.is_exhausted ≡ true) j.no_fault s.exhausted in
      let finished = from_none shift.fault (AreResults IsDone shift.seat.numbers shift.done.items) j.no_fault s.finished in
      from_ok others (IsJoinedShift IsDone first) (λ o. whole.seat ≡ joined_seats o.seat shift.seat)
      (λ o. whole.done.items ≡ o.done.items ++ shift.done.items) (IsJoinedShift IsDone (joined_seats first mine) whole) j.others_are g j.seat
      j.done (λ o joined seat done. record {
        same_seat = record {
          table = ap (λ (v : SeatState). v.table) seat ∙ joined.same_seat.table;
          allowance = ap (λ (v : SeatState). v.allowance) seat ∙ ap₂ ◌+◌ joined.same_seat.allowance s.same_seat.allowance;
        };
        exhausted = ap (λ (v : SeatState). v.is_exhausted) seat ∙ ap₂ ◌&&◌ joined.exhausted exhausted;
        results = results_joined o.seat shift.seat whole.seat o.done.items shift.done.items whole.done.items seat done joined.results finished;
      })

  -- a fault of the others or of one more worker is a fault of the window
  pub fault_of_either : (mine : SeatState) (others : Result (JoinedShift Done) RunError) (shift : Shift Done) (fault : RunError)
      → IfErr others (IsWindowFault IsOver)
      → IsShift IsDone IsOver mine shift
      → IsFaultOf others shift fault
      → IsWindowFault IsOver fault
  fault_of_either mine others shift fault g s (inl theirs) = rw theirs at g
  fault_of_either mine others shift fault g s (inr (inl mine_is)) = inr (rw mine_is at s.fault)
  fault_of_either mine others shift fault g s (inr (inr memory)) = inr (inl memory.0)
