-- Lists of events.
use Rattle.std.proofs.Common.{◌≡◌, List, ◌∷◌, subst, ⊎_elim}
use Rattle.std.specs.List.{Contains}
use Rattle.des_event.specs.declared.event.Event.{Event}
use Rattle.des_event.specs.Keys.{IsAtMost, IsBefore}
use Rattle.des_event.specs.KeyOrder.{InKeyOrder}
use Rattle.des_event.proofs.KeyLists.{all_in, IsIn-from_Contains}
use Rattle.des_event.proofs.Members.{contains_cons}
use Rattle.des_event.proofs.Order.{at_most_from_before, at_most_self}
use Rattle.des_queue.specs.EventKey.{event_key}

-- the head of an ordered list comes first
pub head_first : {Body : Type 0} (e : Event Body) (es : List (Event Body)) → InKeyOrder event_key (e ∷ es) → (x : Event Body) → Contains (e ∷ es) x
    → IsAtMost e.key x.key
head_first {Body} e es o x c = ⊎_elim
    (λ (s : e ≡ x). subst (λ (z : Event Body). IsAtMost e.key z.key) s (at_most_self e.key))
    (λ r. at_most_from_before e.key x.key (all_in (λ (y : Event Body). IsBefore e.key y.key) es o.0 x (IsIn-from_Contains es x r)))
    (contains_cons x e es c)
