-- How events come to the parts.
use Rattle.std.specs.Prelude.{◌≡◌, ◌≢◌, ◌<◌, ◌≤◌, ◌++◌, ◌↔◌, ◌⊎◌, ℕ, nat_lt, List, Option, None, Some, length, slice_index_or}
use Rattle.std.specs.List.{AllByRecursion, AllPairs, Contains, filter}
use Rattle.des_event.specs.declared.event.Event.{Event}
use Rattle.des_event.specs.KeyOrder.{InKeyOrder}
use Rattle.des_model.specs.Schedules.{horizon_from}
use Rattle.des_model.specs.Windows.{Division, part_of}
use Rattle.des_queue.specs.EventKey.{event_key}
use Rattle.des_parts.specs.declared.world.PartEvents.{PartEvents}
use Rattle.des_model.specs.Machine.{Machine}
use Rattle.des_window.specs.declared.opening.Opening.{Opening}

module _ {Body : Type 0} where
  -- at each part the later events are in order, and the mail has other keys
  abbrev pub CanDeliver : List (PartEvents Body) → List (Event Body) → Type 0
  CanDeliver parts mail = (p : ℕ) (e : PartEvents Body) → p < length parts
      → InKeyOrder event_key (slice_index_or parts p e).later × AllPairs (λ (a b : Event Body). a.key ≢ b.key) ((slice_index_or parts p e).later ++ mail)

  -- of these events a part has received those for its nodes; the rest is still to come
  pub record HasGot (d : Division) (p : ℕ) (old now : PartEvents Body) (sent rest : List (Event Body)) : Type 0 where
    pub due : now.due ≡ old.due
    pub same : (x : Event Body) → Contains now.later x ↔ (Contains old.later x ⊎ (Contains sent x × (part_of d x.target ≡ p)))
    pub ordered : InKeyOrder event_key now.later
    pub apart : AllPairs (λ (a b : Event Body). a.key ≢ b.key) (now.later ++ rest)

  -- of these events each part has received its own
  pub record HasDelivered (d : Division) (old now : List (PartEvents Body)) (sent rest : List (Event Body)) : Type 0 where
    pub long : length now ≡ length old
    pub each : (p : ℕ) (e : PartEvents Body) → p < length old → HasGot d p (slice_index_or old p e) (slice_index_or now p e) sent rest

  -- the least time of the later events of the first n parts
  pub record IsLeastTime (parts : List (PartEvents Body)) (n t : ℕ) : Type 0 where
    pub least : (p : ℕ) (e : PartEvents Body) (x : Event Body) → p < n → Contains (slice_index_or parts p e).later x → t ≤ x.key.time
    pub reached : (p : ℕ) × (p < n) × ((e : PartEvents Body) → (x : Event Body) × Contains (slice_index_or parts p e).later x × (x.key.time ≡ t))

  -- the least time of the later events of the first n parts, if they have any
  abbrev pub LeastIs : List (PartEvents Body) → ℕ → Option ℕ → Type 0
  LeastIs parts n None = (p : ℕ) (e : PartEvents Body) (x : Event Body) → p < n → Contains (slice_index_or parts p e).later x → ⊥
  LeastIs parts n (Some t) = IsLeastTime parts n t

module _ {Body : Type 0} where
  -- a part's events before the horizon are due, the others are later
  pub record IsCut (horizon : ℕ) (old now : PartEvents Body) : Type 0 where
    pub all : now.due.items ++ now.later ≡ old.later
    pub early : AllByRecursion (λ (x : Event Body). x.key.time < horizon) now.due.items
    pub late : AllByRecursion (λ (x : Event Body). horizon ≤ x.key.time) now.later

  -- the first n parts are cut, the others are as they were
  pub record AreCut (horizon n : ℕ) (old now : List (PartEvents Body)) : Type 0 where
    pub long : length now ≡ length old
    pub cut : (p : ℕ) (e : PartEvents Body) → p < n → p < length old → IsCut horizon (slice_index_or old p e) (slice_index_or now p e)
    pub others : (p : ℕ) (e : PartEvents Body) → n ≤ p → slice_index_or now p e ≡ slice_index_or old p e

module _ {State Body Piece : Type 0} where
  -- the clock has all audits after the first of the later events
  abbrev pub IsAhead : Machine State Body Piece → (clock : List ℕ) → List (PartEvents Body) → Type 0
  IsAhead m clock parts = (time : ℕ) → IsLeastTime parts (length parts) time → time < m.duration
      → filter (λ t. nat_lt time t) clock ≡ filter (λ t. nat_lt time t) m.audit_times

  -- the window that the first of the later events opens, if it is before the end
  abbrev pub OpensAt : Machine State Body Piece → List (PartEvents Body) → Option Opening → Type 0
  OpensAt m old None = (p : ℕ) (e : PartEvents Body) (x : Event Body) → p < length old → Contains (slice_index_or old p e).later x → m.duration ≤ x.key.time
  OpensAt m old (Some o) = IsLeastTime old (length old) o.time × (o.time < m.duration) × (o.horizon ≡ horizon_from m o.time)

-- where the window ends, and 0 if there is none
abbrev pub horizon_of : Option Opening → ℕ
horizon_of None = 0
horizon_of (Some o) = o.horizon

module _ {State Body Piece : Type 0} where
  -- the later events of the next window were made due
  pub record HasOpened (m : Machine State Body Piece) (old now : List (PartEvents Body)) (opening : Option Opening) : Type 0 where
    pub opens : OpensAt m old opening
    pub cut : AreCut (horizon_of opening) (length old) old now
