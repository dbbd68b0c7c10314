-- The run of one part in a window, event by event.
use Rattle.std.specs.Prelude.{ℕ, zero, suc, ◌≡◌, ◌≢◌, ◌<◌, ◌≤◌, ◌++◌, List, [], map, reverse, length, Option, option_map, ◌↔◌}
use Rattle.std.specs.List.{AllPairs, Contains, cons_option}
use Rattle.des_event.specs.declared.event.Event.{Event}
use Rattle.des_model.specs.Machine.{Machine}
use Rattle.des_model.specs.Histories.{least, next, state}
use Rattle.des_model.specs.Schedules.{horizon_from}
use Rattle.des_model.specs.Windows.{Division, part_of, waiting, IsPartRun, made_since, pieces_since}

module _ {State Body Piece : Type 0} (m : Machine State Body Piece) where
  -- the first n events that a part runs after h, or as many as there are
  abbrev pub part_run : Division → List (Event Body) → (horizon p n : ℕ) → List (Event Body)
  part_run d h horizon p zero = []
  part_run d h horizon p (suc n) = let ran = part_run d h horizon p n in cons_option (least (waiting m d h horizon p ran)) ran

  -- the horizon of the window that follows a history, if an event may
  abbrev pub horizon_after : List (Event Body) → Option ℕ
  horizon_after h = option_map (λ (e : Event Body). horizon_from m e.key.time) (next m h)

  -- after n events of part p: the states that its nodes are seen in, the events that wait, those that it made for the
  -- horizon or later, and the pieces of its events
  pub record IsPartAt (d : Division) (h : List (Event Body)) (horizon p n : ℕ) (seen : ℕ → State) (wait mail : List (Event Body))
      (pieces : List Piece) : Type 0 where
    pub runs : IsPartRun m d h horizon p (part_run d h horizon p n)
    pub long : length (part_run d h horizon p n) ≡ n
    pub seen_are : (i : ℕ) → i < m.nodes → part_of d i ≡ p → seen i ≡ state m (part_run d h horizon p n ++ h) i
    pub waits : (x : Event Body) → Contains wait x ↔ Contains (waiting m d h horizon p (part_run d h horizon p n)) x
    pub apart : AllPairs (λ (a b : Event Body). a.key ≢ b.key) wait
    pub mail_is : (x : Event Body) → Contains mail x ↔ (Contains (made_since m h (part_run d h horizon p n)) x × (horizon ≤ x.key.time))
    pub mail_apart : AllPairs (λ (a b : Event Body). a.key ≢ b.key) mail
    pub pieces_are : pieces ≡ reverse (map (λ b. b.1) (pieces_since m h (part_run d h horizon p n)))
