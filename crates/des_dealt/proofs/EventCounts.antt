-- What the loads of the nodes are before the first window, and what the parts of a window add to them.
use Rattle.std.proofs.Common.{◌≡◌, ℕ, suc, ◌+◌, ◌*◌, ◌^◌, ◌<◌, ◌≤◌, List, [], ◌∷◌, ◌++◌, length, drop, get_or, zero, map, ap, sym, subst, ◌∙◌, arith}
use Rattle.std.specs.List.{All}
use Rattle.std.proofs.lemmas.List.{length-replicate}
use Rattle.std.proofs.Math.ListN.{replicate}
use Rattle.std.proofs.Math.Nat.{mul-le-mul_left}
use Rattle.std.proofs.Math.Seq.{drop-cons}
use Rattle.std.proofs.lemmas.List.Elements.{All-cons, All-head, All-map, All-nil, All-tail}
use Rattle.std.proofs.lemmas.List.Sorted.{All-permutation, IsPermutation-reverse}
use Rattle.des_event.specs.declared.event.Event.{Event}
use Rattle.des_event.proofs.Members.{All_from, contains_left}
use Rattle.des_machine.specs.Simulable.{IsSimulable}
use Rattle.des_model.specs.Histories.{effect_after, history}
use Rattle.des_model.specs.Machine.{Machine}
use Rattle.des_model.specs.Windows.{IsPartRun, pieces_since}
use Rattle.des_model.proofs.Distinct.{fit_event}
use Rattle.des_model.proofs.Parts.{possible_from_part_run}
use Rattle.des_model.proofs.Rest.{possible_known}
use Rattle.des_model.proofs.Runs.{history_is_legal, possible_from_legal}
use Rattle.des_parts.specs.declared.entries.Entry.{Entry}
use Rattle.des_parts.specs.declared.part_run.Done.{Done}
use Rattle.des_parts.specs.declared.world.World.{World}
use Rattle.des_parts.specs.Entries.{entry_of}
use Rattle.des_parts.specs.Exchanges.{AreDone, AreDoneFrom, events_in}
use Rattle.des_parts.specs.PartRuns.{IsDone, ran_by}
use Rattle.des_parts.proofs.EngineCourse.{done_length}
use Rattle.des_dealt.specs.Loads.{events_at, events_of}
use Rattle.des_crew.proofs.Counts.{counts_itself}

events_of-le : {Piece : Type 0} (node : ℕ) (entries : List (Entry Piece)) → events_of node entries ≤ length entries
events_of-le node [] = omega arith
events_of-le node (entry ∷ entries) = let rest = events_of-le node entries in grind arith

-- the target of the next entry has one event more to come than none
pub counts_its_target : {Piece : Type 0} (entries : List (Entry Piece)) (i : ℕ) (entry : Entry Piece) → i < length entries → entry ≡ get_or entries i entry
    → 0 < events_of entry.target (drop i entries)
counts_its_target entries i entry inside is =
    let next = drop-cons entries i entry inside in
    let here : drop i entries ≡ entry ∷ drop (suc i) entries = next ∙ ap (λ b. b ∷ drop (suc i) entries) (sym is) in
    subst (λ list. 0 < events_of entry.target list) (sym here) (omega (arith, counts_itself entry.target))

module _ {State Body Piece : Type 0} (m : Machine State Body Piece) {Sound : ℕ → State → Type 0} {Fit : Event Body → Type 0} {Room : State → Type 0}
    (sim : IsSimulable m Sound Fit Room) (w : World State Body) (horizon : ℕ) where
  abbrev past : List (Event Body)
  past = history m w.count

  -- the events that a part runs are at nodes of the machine
  ran_at_nodes : (part : ℕ) (ran : List (Event Body)) → IsPartRun m w.division past horizon part ran → All (λ (e : Event Body). e.target < m.nodes) ran
  ran_at_nodes part ran runs = All_from (λ (e : Event Body). e.target < m.nodes) ran (λ e among.
      let possible = possible_from_part_run m w.division past horizon (possible_from_legal m past (history_is_legal m w.count)) part ran runs in
      let known = possible_known m (ran ++ past) possible e (contains_left ran past e among) in
      sim.well_formed.in_range e (fit_event m sim.well_formed (ran ++ past) possible e known))

  pieces_at_nodes : (ran : List (Event Body)) → All (λ (e : Event Body). e.target < m.nodes) ran
      → All (λ (x : Event Body × Piece). x.0.target < m.nodes) (pieces_since m past ran)
  pieces_at_nodes [] all = All-nil (λ (x : Event Body × Piece). x.0.target < m.nodes)
  pieces_at_nodes (e ∷ ran) all = All-cons (λ (x : Event Body × Piece). x.0.target < m.nodes) (e, (effect_after m (ran ++ past) e).piece) (pieces_since m past ran)
      (All-head (λ (e : Event Body). e.target < m.nodes) e ran all) (pieces_at_nodes ran (All-tail (λ (e : Event Body). e.target < m.nodes) e ran all))

  module _ (Known : Piece → Type 0) where
    -- so the entries of a part are of nodes of the machine
    entries_at_nodes : (part : ℕ) (done : Done State Body Piece) → IsDone m Known w horizon part done
        → All (λ (entry : Entry Piece). entry.target < m.nodes) done.entries.items
    entries_at_nodes part done is =
        let At = λ (entry : Entry Piece). entry.target < m.nodes in
        let pieces = pieces_since m past (ran_by m w horizon done) in
        let all = All-map At entry_of pieces (pieces_at_nodes (ran_by m w horizon done) (ran_at_nodes done.part (ran_by m w horizon done) is.sealed.runs)) in
        subst (All At) (sym is.entries_are) (All-permutation At _ _ (IsPermutation-reverse (map entry_of pieces)) all)

    -- no node handles more events than all nodes together
    events_at-le : (part node : ℕ) (dones : List (Done State Body Piece)) → AreDoneFrom m Known w horizon part dones → events_at node dones ≤ events_in dones
    events_at-le part node [] each = omega arith
    events_at-le part node (done ∷ dones) each = omega (
      arith,
      events_of-le node done.entries.items,
      done_length m Known w horizon part done each.0,
      events_at-le (suc part) node dones each.1,
    )

    few_events : (part : ℕ) (dones : List (Done State Body Piece)) → AreDoneFrom m Known w horizon part dones → events_in dones ≤ length dones * m.max_events
    few_events part [] each = omega arith
    few_events part (done ∷ dones) each = omega (arith, (each.0).within, few_events (suc part) dones each.1)

    targets_known : (part : ℕ) (dones : List (Done State Body Piece)) → AreDoneFrom m Known w horizon part dones
        → All (λ (done : Done State Body Piece). All (λ (entry : Entry Piece). entry.target < m.nodes) done.entries.items) dones
    targets_known part [] each = All-nil (λ (done : Done State Body Piece). All (λ (entry : Entry Piece). entry.target < m.nodes) done.entries.items)
    targets_known part (done ∷ dones) each = All-cons (λ (done : Done State Body Piece). All (λ (entry : Entry Piece). entry.target < m.nodes) done.entries.items)
        done dones (entries_at_nodes part done each.0) (targets_known (suc part) dones each.1)

    module _ (dones list : List (Done State Body Piece)) (a : AreDone m Known w horizon dones) (same : list ≡ dones) where
      -- the targets of the entries of a window have loads
      pub targets_fit : (loads : List ℕ) → length loads ≡ m.nodes
          → All (λ (done : Done State Body Piece). All (λ (entry : Entry Piece). entry.target < length loads) done.entries.items) list
      targets_fit loads long = subst (λ n. All (λ (done : Done State Body Piece). All (λ (entry : Entry Piece). entry.target < n) done.entries.items) list) (sym long)
          (subst (All (λ (done : Done State Body Piece). All (λ (entry : Entry Piece). entry.target < m.nodes) done.entries.items)) (sym same)
          (targets_known 0 dones a.each))

      -- loads of at most the events of the run have room for those of a window
      pub loads_fit : (loads : List ℕ) → ((node : ℕ) → get_or loads node 0 ≤ w.count) → w.count ≤ m.max_events → w.division.parts ≤ 512
          → (node : ℕ) → get_or loads node 0 + events_at node list < 2 ^ 64
      loads_fit loads few within parts node =
          let most : m.max_events ≤ 2 ^ 40 = omega (arith, sim.few) in omega (
            arith,
            few node,
            ap (events_at node) same,
            events_at-le 0 node dones a.each,
            few_events 0 dones a.each,
            a.long,
            mul-le-mul_left (length dones) most,
          )

      -- and are at most the events of the run after it
      pub still_few : (count : ℕ) (before after : List ℕ) → ((node : ℕ) → get_or before node 0 ≤ w.count)
          → ((node : ℕ) → get_or after node 0 ≡ get_or before node 0 + events_at node list) → count ≡ w.count + events_in dones
          → (node : ℕ) → get_or after node 0 ≤ count
      still_few count before after few counted more node = omega (
        arith,
        few node,
        counted node,
        ap (events_at node) same,
        events_at-le 0 node dones a.each,
        more,
      )

noughts : (n node : ℕ) → get_or (replicate n 0) node 0 ≤ 0
noughts zero node = omega arith
noughts (suc n) zero = omega arith
noughts (suc n) (suc node) = noughts n node

-- a list of zeros has no other number
pub all_nought : (n node : ℕ) (list : List ℕ) → list ≡ replicate n 0 → get_or list node 0 ≤ 0
all_nought n node list is = subst (λ l. get_or l node 0 ≤ 0) (sym is) (noughts n node)

-- and has the requested length
pub as_long : (n : ℕ) (list : List ℕ) → list ≡ replicate n 0 → length list ≡ n
as_long n list is = ap length is ∙ length-replicate n 0

-- so it names one part
pub all_first : (n : ℕ) (list : List ℕ) → list ≡ replicate n 0 → All (λ p. p < 1) list
all_first n list is = subst (All (λ p. p < 1)) (sym is) (zeros n)
  where
    zeros : (n : ℕ) → All (λ p. p < 1) (replicate n 0)
    zeros zero = All-nil (λ (p : ℕ). p < 1)
    zeros (suc n) = All-cons (λ (p : ℕ). p < 1) 0 (replicate n 0) (omega arith) (zeros n)
