-- Windows: workers draw parts of the nodes and run the events of each part independently, up to a horizon.
use Rattle.std.specs.Prelude.{
  ℕ,
  zero,
  suc,
  ◌≡◌,
  ◌+◌,
  ◌<◌,
  List,
  [],
  ◌∷◌,
  ◌++◌,
  length,
  Option,
  None,
  Some,
  if◌then◌else◌,
  Bool,
  true,
  false,
  ◌==◌,
  ◌&&◌,
  nat_lt,
  slice_index,
  ⊤,
}
use Rattle.std.specs.List.{filter, All}
use Rattle.des_event.specs.Keys.{is_before}
use Rattle.des_event.specs.declared.event.Event.{Event}
use Rattle.des_model.specs.Machine.{Machine}
use Rattle.des_model.specs.Histories.{pending, least, effect_after}

-- a number of parts, and the part of each node
pub record Division : Type 0 where
  pub parts : ℕ
  pub of_node : List ℕ

-- the part of a node, by the node's number; part 0 if the division does not have the node
abbrev pub part_of : Division → ℕ → ℕ
part_of d n = slice_index d.of_node n

-- the division is one of this number of nodes: it gives each of them one of its parts
pub record Divides (d : Division) (nodes : ℕ) : Type 0 where
  pub whole : length d.of_node ≡ nodes
  pub in_range : All (λ p. p < d.parts) d.of_node

-- the events whose targets are in a part
abbrev pub restrict : {Body : Type 0} → Division → ℕ → List (Event Body) → List (Event Body)
restrict d p h = filter (λ e. part_of d e.target == p) h

-- a part in a window: the events that it has run, the newest first, and whether it is done
pub record Part (Body : Type 0) : Type 0 where
  pub ran : List (Event Body)
  pub sealed : Bool

-- a window in progress: what the windows before left, how many parts are drawn, which part each worker has
pub record Window (Body : Type 0) : Type 0 where
  pub history : List (Event Body)
  pub horizon : ℕ
  pub drawn : ℕ
  pub held : ℕ → Option ℕ
  pub part : ℕ → Part Body

-- a window as it opens after this history, up to this horizon in microseconds: no part is drawn, and none has run an
-- event
abbrev pub opened : {Body : Type 0} → List (Event Body) → ℕ → Window Body
opened h horizon = record {
  history = h;
  horizon = horizon;
  drawn = 0;
  held = λ _. None;
  part = λ _. record { ran = []; sealed = false };
}

-- one step of a worker
pub data Step (Body : Type 0) : Type 0 where
  Drew : (part : ℕ) → Step Body
  Ran : (part : ℕ) → (event : Event Body) → Step Body
  Sealed : (part : ℕ) → Step Body

-- f, but v at i
abbrev pub put : {A : Type 0} → (ℕ → A) → ℕ → A → ℕ → A
put f i v j = if j == i then v else f j

-- the window after a step of this worker, which draws a part and holds it, runs an event in a part, or seals a part and
-- gives it up
abbrev pub after_step : {Body : Type 0} → Window Body → ℕ → Step Body → Window Body
after_step w worker (Drew p) = record w { drawn = w.drawn + 1; held = put w.held worker (Some p) }
after_step w worker (Ran p e) = record w { part = put w.part p (record (w.part p) { ran = e ∷ (w.part p).ran }) }
after_step w worker (Sealed p) = record w { held = put w.held worker None; part = put w.part p (record (w.part p) { sealed = true }) }

-- the events that each part has run in the window, the newest first
abbrev pub ran_by : {Body : Type 0} → Window Body → ℕ → List (Event Body)
ran_by w p = (w.part p).ran

-- every part is done
abbrev pub IsClosed : {Body : Type 0} → Division → Window Body → Type 0
IsClosed d w = (p : ℕ) → p < d.parts → (w.part p).sealed ≡ true

-- a list in key order, the newest first, with e in its place
abbrev pub insert_event : {Body : Type 0} → Event Body → List (Event Body) → List (Event Body)
insert_event e [] = e ∷ []
insert_event e (x ∷ xs) = if is_before e.key x.key then x ∷ insert_event e xs else e ∷ (x ∷ xs)

-- two lists of events in key order, the newest first, merged into one such list
abbrev pub merge : {Body : Type 0} → List (Event Body) → List (Event Body) → List (Event Body)
merge [] ys = ys
merge (x ∷ xs) ys = insert_event x (merge xs ys)

-- the events of the lists of the first n parts, in key order
abbrev pub merged : {Body : Type 0} → (ℕ → List (Event Body)) → ℕ → List (Event Body)
merged ran zero = []
merged ran (suc p) = merge (ran p) (merged ran p)

-- how many events the lists of the first n parts have together
abbrev pub events_run : {Body : Type 0} → (ℕ → List (Event Body)) → ℕ → ℕ
events_run ran zero = 0
events_run ran (suc p) = length (ran p) + events_run ran p

-- what a window after h leaves, if its parts ran these lists
abbrev pub left_by : {Body : Type 0} → Division → List (Event Body) → (ℕ → List (Event Body)) → List (Event Body)
left_by d h ran = merged ran d.parts ++ h

module _ {State Body Piece : Type 0} (m : Machine State Body Piece) where
  -- the events that wait at a part below the horizon: of those pending after the history and what the part ran since
  abbrev pub waiting : Division → List (Event Body) → ℕ → ℕ → List (Event Body) → List (Event Body)
  waiting d h horizon p ran = filter (λ e. part_of d e.target == p && nat_lt e.key.time horizon) (pending m (ran ++ h))

  -- the list of a part that runs the least waiting event again and again
  abbrev pub IsPartRun : Division → List (Event Body) → ℕ → ℕ → List (Event Body) → Type 0
  IsPartRun d h horizon p [] = ⊤
  IsPartRun d h horizon p (e ∷ ran) = IsPartRun d h horizon p ran × (least (waiting d h horizon p ran) ≡ Some e)

  -- the list of a part that runs the least waiting event again and again, until none waits there
  pub record IsSealedRun (d : Division) (h : List (Event Body)) (horizon p : ℕ) (ran : List (Event Body)) : Type 0 where
    pub runs : IsPartRun d h horizon p ran
    pub done : waiting d h horizon p ran ≡ []

  -- a worker without a part draws the next one, as long as there are parts
  abbrev pub drawing : Division → Window Body → Option (Step Body)
  drawing d w = if nat_lt w.drawn d.parts then Some (Drew w.drawn) else None

  -- a worker with a part runs the least event that waits there, or seals the part if none does
  abbrev pub running : ℕ → Option (Event Body) → Step Body
  running p (Some e) = Ran p e
  running p None = Sealed p

  -- the next step of a worker, given the part that it holds, if any; no step if it holds none and all parts are drawn
  abbrev pub next_step : Division → Window Body → Option ℕ → Option (Step Body)
  next_step d w None = drawing d w
  next_step d w (Some p) = Some (running p (least (waiting d w.history w.horizon p (w.part p).ran)))

  -- the window after this step of the worker; the same window if there is no step
  abbrev pub after_option : Window Body → ℕ → Option (Step Body) → Window Body
  after_option w worker None = w
  after_option w worker (Some s) = after_step w worker s

  -- the window after the next step of this worker; the same window if the worker can take no step
  abbrev pub after_pick : Division → Window Body → ℕ → Window Body
  after_pick d w worker = after_option w worker (next_step d w (w.held worker))

  -- the window after one step of each worker of the list, in its order
  abbrev pub after_picks : Division → Window Body → List ℕ → Window Body
  after_picks d w [] = w
  after_picks d w (worker ∷ picks) = after_picks d (after_pick d w worker) picks

  -- the events made along `ran`, which follows h
  abbrev pub made_since : List (Event Body) → List (Event Body) → List (Event Body)
  made_since h [] = []
  made_since h (e ∷ ran) = (effect_after m (ran ++ h) e).events ++ made_since h ran

  -- each event of `ran`, which follows h, with what it adds to the trace
  abbrev pub pieces_since : List (Event Body) → List (Event Body) → List (Event Body × Piece)
  pieces_since h [] = []
  pieces_since h (e ∷ ran) = (e, (effect_after m (ran ++ h) e).piece) ∷ pieces_since h ran
