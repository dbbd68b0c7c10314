-- What a part leaves, in both terms.
use Rattle.std.proofs.Common.{◌≡◌, ◌≢◌, ℕ, ◌<◌, ◌≤◌, ◌↔◌, List, [], ◌∷◌, ◌++◌, length, map, reverse, ap, sym, ◌∙◌, subst, arith, refl, ⊎_elim}
use Rattle.std.specs.List.{All, AllPairs, Contains}
use Rattle.chord_event.specs.declared.block.Block.{Block}
use Rattle.chord_event.specs.declared.body.Body.{Body}
use Rattle.chord_machine.specs.Chord.{chord}
use Rattle.chord_machine.specs.Pieces.{IsKnownPiece}
use Rattle.chord_machine.specs.Sound.{IsStateOf}
use Rattle.chord_machine.proofs.StartEvents.{mapped-from}
use Rattle.chord_machine.proofs.WellFormed.{well_formed}
use Rattle.chord_node.specs.declared.state.NodeState.{NodeState}
use Rattle.chord_ops.specs.Rules.{block_of}
use Rattle.chord_scenario.specs.declared.scenario.Scenario.{Scenario}
use Rattle.chord_scenario.specs.Range.{IsInRange}
use Rattle.chord_trace.specs.declared.piece.Piece.{Piece}
use Rattle.chord_trace.specs.declared.piece.Piece.TheVariants as piece
use Rattle.chord_window.specs.declared.part_done.Done.{Done}
use Rattle.chord_window.specs.declared.world.World.{World as ChordWorld}
use Rattle.chord_window.specs.Dones.{IsOfBlock, IsOwn, IsSame, RingDone, entry_of}
use Rattle.chord_window.specs.PartRuns.{IsDone as IsRingDone, IsShortBlock}
use Rattle.des_event.specs.declared.event.Event.{Event}
use Rattle.des_event.proofs.Members.{All_at, All_from, contains_cons, contains_here, contains_none, contains_there}
use Rattle.des_model.specs.Histories.{IsPossible, effect_after, history, state}
use Rattle.des_model.specs.Machine.{Machine}
use Rattle.des_model.specs.PartRuns.{part_run}
use Rattle.des_model.specs.Windows.{IsSealedRun, made_since, part_of, pieces_since}
use Rattle.des_model.proofs.Ascending.{reverse_contains}
use Rattle.des_model.proofs.Distinct.{meets}
use Rattle.des_model.proofs.Parts.{possible_from_part_run}
use Rattle.des_model.proofs.Runs.{history_is_legal, possible_from_legal}
use Rattle.des_parts.specs.declared.copies.Touched.{Touched}
use Rattle.des_parts.specs.declared.entries.Entry.{Entry}
use Rattle.des_parts.specs.declared.world.World.{World}
use Rattle.des_parts.specs.Entries.{entry_of as entry_of_event}
use Rattle.des_parts.specs.PartRuns.{HasTouched, IsDone}

-- the entries of blocks
pub of_blocks : (blocks : List Block) → All IsOfBlock (map entry_of blocks)
of_blocks blocks = All_from IsOfBlock (map entry_of blocks)
    (λ x c. let from = mapped-from entry_of blocks x c in (from.source, sym from.made))

-- what events leave in the trace of a ring are blocks
module _ (sc : Scenario) (h : List (Event Body)) where
  piece_is_block : (ran : List (Event Body)) (y : Event Body × Piece) → Contains (pieces_since (chord sc) h ran) y → IsOfBlock (entry_of_event y)
  piece_is_block [] y c = absurd (contains_none y c)
  piece_is_block (e ∷ ran) y c = ⊎_elim
      (λ is. subst (λ z. IsOfBlock (entry_of_event z)) is (block_of sc (state (chord sc) (ran ++ h) e.target) e, refl))
      (λ rest. piece_is_block ran y rest)
      (contains_cons y (e, (effect_after (chord sc) (ran ++ h) e).piece) (pieces_since (chord sc) h ran) c)

  pub entries_are_blocks : (ran : List (Event Body)) → All IsOfBlock (reverse (map entry_of_event (pieces_since (chord sc) h ran)))
  entries_are_blocks ran = All_from IsOfBlock (reverse (map entry_of_event (pieces_since (chord sc) h ran)))
      (λ x c.
      let from = mapped-from entry_of_event (pieces_since (chord sc) h ran) x
      (reverse_contains (map entry_of_event (pieces_since (chord sc) h ran)) x c) in
      subst IsOfBlock from.made (piece_is_block ran from.source from.among))

module _ (sc : Scenario) (ranges : IsInRange sc) (w : World NodeState Body) (horizon p : ℕ) (k : RingDone)
    (is : IsDone (chord sc) (IsKnownPiece sc) w horizon p k) where
  abbrev ran : List (Event Body)
  ran = part_run (chord sc) w.division (history (chord sc) w.count) horizon k.part k.events

  possible : IsPossible (chord sc) (ran ++ history (chord sc) w.count)
  possible = possible_from_part_run (chord sc) w.division (history (chord sc) w.count) horizon
      (possible_from_legal (chord sc) (history (chord sc) w.count) (history_is_legal (chord sc) w.count)) k.part ran is.sealed.runs

  -- each state that the part leaves is that of its node
  pub nodes_are_own : All IsOwn k.nodes.items
  nodes_are_own = All_from IsOwn k.nodes.items own
    where
      own : (t : Touched NodeState) → Contains k.nodes.items t → IsOwn t
      own t c =
          let touched = All_at (λ (s : Touched NodeState). (s.node < (chord sc).nodes) × (part_of w.division s.node ≡ k.part)
          × (s.state ≡ state (chord sc) (ran ++ history (chord sc) w.count) s.node)) k.nodes.items t is.nodes_are.touched c in
          let sound : IsStateOf sc t.node (state (chord sc) (ran ++ history (chord sc) w.count) t.node) =
          (meets (chord sc) (well_formed sc ranges) (ran ++ history (chord sc) w.count) possible).sound t.node touched.0 in
          ap (λ n. record { node = n; state = t.state }) (sym (ap (λ (s : NodeState). s.me) touched.2 ∙ sound.me))

  -- and each entry is a block
  pub entries_are_own : All IsOfBlock k.entries.items
  entries_are_own = subst (λ l. All IsOfBlock l) (sym is.entries_are) (entries_are_blocks sc (history (chord sc) w.count) ran)

abbrev pair : ℕ → ℕ → ℕ × ℕ
pair n count = (n, count)

-- what a part leaves is done, whichever copy of it the kernel has
module _ (m : Machine NodeState Body Piece) (Known : Piece → Type 0) (w : World NodeState Body) (horizon p : ℕ) where
  pub done_of_same : (done : Done) (k l : RingDone) → IsSame done k → IsSame done l → IsDone m Known w horizon p k → IsDone m Known w horizon p l
  done_of_same done k l one other is = record {
    part_is = sym part ∙ is.part_is;
    sealed = subst (λ (x : ℕ × ℕ). IsSealedRun m w.division (history m w.count) horizon x.0 (run x)) same is.sealed;
    long = subst (λ (x : ℕ × ℕ). length (run x) ≡ x.1) same is.long;
    within = omega (arith, is.within, events);
    nodes_are = subst (λ (x : ℕ × ℕ). HasTouched m w.division (history m w.count) (run x) x.0 l.nodes.items) same
        (subst (λ ns. HasTouched m w.division (history m w.count) (run (k.part, k.events)) k.part ns) (one.nodes ∙ sym other.nodes) is.nodes_are);
    mail_is = subst (λ (x : ℕ × ℕ). (e : Event Body) → Contains l.mail.items e
        ↔ (Contains (made_since m (history m w.count) (run x)) e × (horizon ≤ e.key.time))) same
        (subst (λ es. (e : Event Body) → Contains es e
        ↔ (Contains (made_since m (history m w.count) (run (k.part, k.events))) e × (horizon ≤ e.key.time))) mail is.mail_is);
    mail_apart = subst (λ es. AllPairs (λ (a b : Event Body). a.key ≢ b.key) es) mail is.mail_apart;
    entries_are = subst (λ (x : ℕ × ℕ). l.entries.items ≡ reverse (map entry_of_event (pieces_since m (history m w.count) (run x)))) same
        (sym entries ∙ is.entries_are);
    known = subst (λ es. All (λ (x : Entry Piece). Known x.piece) es) entries is.known;
  }
    where
      run : ℕ × ℕ → List (Event Body)
      run x = part_run m w.division (history m w.count) horizon x.0 x.1

      part : k.part ≡ l.part
      part = one.part ∙ sym other.part

      events : k.events ≡ l.events
      events = one.events ∙ sym other.events

      same : pair k.part k.events ≡ pair l.part l.events
      same = ap (λ n. pair n k.events) part ∙ ap (λ n. pair l.part n) events

      mail : k.mail.items ≡ l.mail.items
      mail = one.mail ∙ sym other.mail

      entries : k.entries.items ≡ l.entries.items
      entries = one.entries ∙ sym other.entries

among_entries : (blocks : List Block) (b : Block) → Contains blocks b → Contains (map entry_of blocks) (entry_of b)
among_entries [] b c = absurd (contains_none b c)
among_entries (x ∷ blocks) b c = ⊎_elim
    (λ is. subst (λ z. Contains (entry_of x ∷ map entry_of blocks) (entry_of z)) is (contains_here (entry_of x) (map entry_of blocks)))
    (λ rest. contains_there (entry_of b) (entry_of x) (map entry_of blocks) (among_entries blocks b rest))
    (contains_cons b x blocks c)

-- the blocks that a part leaves are those of the scenario, of few lines
pub blocks_short : (sc : Scenario) (w : ChordWorld) (horizon p : ℕ) (done : Done) → IsRingDone sc w horizon p done → All (IsShortBlock sc) done.blocks.items
blocks_short sc w horizon p done is = All_from (IsShortBlock sc) done.blocks.items
    (λ b c. All_at (λ (x : Entry Piece). IsKnownPiece sc x.piece) is.0.entries.items (entry_of b) is.2.known
    (subst (λ l. Contains l (entry_of b)) (sym is.1.entries) (among_entries done.blocks.items b c)))

-- and they are of this part
pub part_is : (sc : Scenario) (w : ChordWorld) (horizon p : ℕ) (done : Done) → IsRingDone sc w horizon p done → done.part ≡ p
part_is sc w horizon p done is = sym is.1.part ∙ is.2.part_is

-- an entry of a block is known by its piece
pub entry_is : (x : Entry Piece) (block : Block) → IsOfBlock x → x.piece ≡ piece.OfEvent block → x ≡ entry_of block
entry_is x block of is =
    let same : of.0 ≡ block = ap (λ (p : Piece). block_in block p) (sym (ap (λ (y : Entry Piece). y.piece) of.1) ∙ is) in
    of.1 ∙ ap entry_of same
  where
    block_in : Block → Piece → Block
    block_in other (piece.OfEvent b) = b
    block_in other (piece.OfAudit a) = other
