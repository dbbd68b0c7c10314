-- The texts of a window.
use Rattle.std.proofs.Common.{◌≡◌, ◌≢◌, ◌∙◌, ◌⊎◌, ⊎_elim, inl, inr, ℕ, zero, suc, ◌+◌, ◌<◌, ◌≤◌, List, [], ◌∷◌, ◌++◌, length, map, reverse, get_or, refl, ap, sym, subst, arith, append_assoc, append-nil}
use Rattle.std.proofs.lemmas.Bool.{cases_eq}
use Rattle.std.proofs.lemmas.List.{length-map}
use Rattle.std.specs.Prelude.{nat_lt}
use Rattle.std.specs.List.{All, AllByRecursion, AllPairs, Contains, filter, flat_map}
use Rattle.std.proofs.lemmas.List.Concat.{flat_map-append}
use mathlib.Core.List.{reverse-cons}
use Rattle.des_event.specs.declared.event.Event.{Event}
use Rattle.des_event.specs.Keys.{IsBefore}
use Rattle.des_event.specs.KeyOrder.{InKeyOrder, put_in_order}
use Rattle.des_event.proofs.KeyLists.{IsIn, all_from, all_in, in_put, ordered_put, put_in, Contains-from_IsIn, IsIn-from_Contains}
use Rattle.des_event.proofs.Members.{AllPairs_append, AllPairs_at, AllPairs_cons, AllPairs_none, AllPairs_rest, contains_append, contains_here, contains_left, contains_none, contains_right, contains_there}
use Rattle.des_event.proofs.Order.{before_not_same}
use Rattle.des_model.specs.Histories.{history, open_audits, output, effect_after}
use Rattle.des_model.specs.Schedules.{horizon_from}
use Rattle.des_model.specs.Windows.{part_of, pieces_since}
use Rattle.des_model.proofs.Distinct.{one_event}
use Rattle.des_model.proofs.Horizons.{no_audit_inside}
use Rattle.des_model.proofs.Parts.{part_run_in, restrict_contains}
use Rattle.des_model.proofs.Runs.{legal_known, possible_from_legal}
use Rattle.des_model.proofs.WindowCourse.{blocks_merge, in_reverse, part_in_order, window_open, window_output}
use Rattle.des_model.specs.Machine.{Machine}
use Rattle.des_model.specs.Worlds.{event_pieces}
use Rattle.des_machine.specs.Simulable.{IsSimulable}
use Rattle.des_team.specs.Chronicles.{Chronicle}
use Rattle.des_team.specs.Entries.{Entry, entries_of, entry_at, entry_bytes, entry_key}
use Rattle.des_team.specs.declared.layout.Layout.{Layout}
use Rattle.des_team.specs.declared.output.Output.{Output}
use Rattle.des_team.specs.declared.part.Done.{Done}
use Rattle.des_team.specs.declared.team.Team.{Team}
use Rattle.des_team.specs.Exchanges.{outputs_of}
use Rattle.des_team.specs.Orders.{AreResults, HaveNoFault}
use Rattle.des_team.specs.Outputs.{AreMerged, AreTexts, CanMergeLists, CanWrite, IsMarked, IsMergeOf, IsText, joined, told}
use Rattle.des_team.specs.Teams.{CanSend, audits_due, events_in}
use Rattle.des_team.proofs.TeamMail.{first}
use Rattle.des_team.proofs.Told.{told_at, told_can_merge, told_merged}
use Rattle.des_team.proofs.WindowRuns.{after_is, commuted, may, opening, past, ran, run_at, sealed, total_is, w}

-- entries have the text of their pieces
entries_text : {Body Piece : Type 0} (text : Piece → List ℕ) (ps : List (Event Body × Piece))
    → flat_map entry_bytes (entries_of text ps) ≡ flat_map text (reverse (map (λ b. b.1) ps))
entries_text text [] = refl
entries_text text (p ∷ ps) = ap (flat_map entry_bytes) (reverse-cons (entry_at text p) (map (entry_at text) ps))
    ∙ flat_map-append entry_bytes (entries_of text ps) (entry_at text p ∷ [])
    ∙ ap (λ z. z ++ flat_map text (p.1 ∷ [])) (entries_text text ps)
    ∙ sym (flat_map-append text (reverse (map (λ b. b.1) ps)) (p.1 ∷ []))
    ∙ sym (ap (flat_map text) (reverse-cons p.1 (map (λ b. b.1) ps)))

-- what more events add to the pieces
pieces_grow : {State Body Piece : Type 0} (m : Machine State Body Piece) (h g : List (Event Body))
    → event_pieces m (g ++ h) ≡ event_pieces m h ++ reverse (map (λ b. b.1) (pieces_since m h g))
pieces_grow m h [] = sym (append-nil (event_pieces m h))
pieces_grow m h (e ∷ g) = ap (λ z. z ++ (effect_after m (g ++ h) e).piece ∷ []) (pieces_grow m h g)
    ∙ append_assoc (event_pieces m h) (reverse (map (λ b. b.1) (pieces_since m h g))) ((effect_after m (g ++ h) e).piece ∷ [])
    ∙ ap (λ z. event_pieces m h ++ z) (sym (reverse-cons (effect_after m (g ++ h) e).piece (map (λ b. b.1) (pieces_since m h g))))

module _ {State Body Piece S : Type 0} where
  in_list : (ch : Chronicle State Body Piece S) (h g : List (Event Body)) (b : Entry) → IsIn b (map (entry_at ch.text) (pieces_since ch.machine h g))
      → (e : Event Body) × Contains g e × (b.key ≡ e.key)
  in_list ch h [] b c = absurd c
  in_list ch h (e ∷ g) b (inl s) = (e, contains_here e g, ap (λ (z : Entry). z.key) s)
  in_list ch h (e ∷ g) b (inr r) = let q = in_list ch h g b r in (q.0, contains_there q.0 e g q.1, q.2)

ordered_apart : (bs : List Entry) → InKeyOrder entry_key bs → AllPairs (λ (x y : Entry). x.key ≢ y.key) bs
ordered_apart [] o = AllPairs_none (λ (x y : Entry). x.key ≢ y.key)
ordered_apart (b ∷ bs) o = AllPairs_cons (λ (x y : Entry). x.key ≢ y.key) b bs
    (λ x c. before_not_same b.key x.key (all_in (λ (y : Entry). IsBefore b.key y.key) bs o.0 x (IsIn-from_Contains bs x c)))
    (ordered_apart bs o.1)

-- entries in the order of their keys
abbrev pub sorted : List Entry → List Entry
sorted [] = []
sorted (b ∷ bs) = put_in_order entry_key b (sorted bs)

in_sorted : (bs : List Entry) (z : Entry) → IsIn z (sorted bs) → IsIn z bs
in_sorted [] z c = c
in_sorted (b ∷ bs) z c = ⊎_elim (λ e. inl e) (λ k. inr (in_sorted bs z k)) (in_put entry_key b (sorted bs) z c)

sorted_in : (bs : List Entry) (z : Entry) → IsIn z bs → IsIn z (sorted bs)
sorted_in [] z c = c
sorted_in (b ∷ bs) z (inl e) = put_in entry_key b (sorted bs) z (inl e)
sorted_in (b ∷ bs) z (inr k) = put_in entry_key b (sorted bs) z (inr (sorted_in bs z k))

sorted_ordered : (bs : List Entry) → AllPairs (λ (x y : Entry). x.key ≢ y.key) bs → InKeyOrder entry_key (sorted bs)
sorted_ordered [] apart = tt
sorted_ordered (b ∷ bs) apart = ordered_put entry_key b (sorted bs) (sorted_ordered bs (AllPairs_rest (λ (x y : Entry). x.key ≢ y.key) b bs apart))
    (all_from (λ (y : Entry). y.key ≢ b.key) (sorted bs)
    (λ z c e. AllPairs_at (λ (x y : Entry). x.key ≢ y.key) b bs apart z (Contains-from_IsIn bs z (in_sorted bs z c)) (sym e)))

module _ {M State Body Piece S : Type 0} (ch : Chronicle State Body Piece S) {Sound : ℕ → State → Type 0} {Fit : Event Body → Type 0} {Room : State
    → Type 0} (ok : IsSimulable ch.machine Sound Fit Room) (l : Layout) (t : Team M S State Body Piece) (can : CanSend ch l t)
    (fs : List (Done M S State Body Piece))
    (results : AreResults ch l t.count t.window.horizon fs) (none : HaveNoFault fs) where
  abbrev before : List (Event Body)
  before = past ch ok l t can fs results none

  abbrev lists : ℕ → List (Event Body)
  lists q = ran ch ok l t can fs results none q

  abbrev taken : List (Event Body)
  taken = (commuted ch ok l t can fs results none).taken

  -- the entries of a part
  abbrev pub part_entries : ℕ → List Entry
  part_entries q = reverse (map (entry_at ch.text) (pieces_since ch.machine before (lists q)))

  -- of so many parts, from this one on
  abbrev pub lists_from : (part n : ℕ) → List (List Entry)
  lists_from part zero = []
  lists_from part (suc n) = part_entries part ∷ lists_from (suc part) n

  from_joined : (k n : ℕ) (b : Entry) → Contains (joined (lists_from k n)) b → (q : ℕ) × (k ≤ q) × (q < k + n) × Contains (part_entries q) b
  from_joined k zero b c = absurd (contains_none b c)
  from_joined k (suc n) b c = ⊎_elim
      (λ m. (k, omega arith, omega arith, m))
      (λ m. let f = from_joined (suc k) n b m in (f.0, omega (arith, f.1), omega (arith, f.2), f.3))
      (contains_append (part_entries k) (joined (lists_from (suc k) n)) b c)

  in_joined : (k n q : ℕ) (b : Entry) → k ≤ q → q < k + n → Contains (part_entries q) b → Contains (joined (lists_from k n)) b
  in_joined k zero q b low high c = absurd (omega (arith, low, high))
  in_joined k (suc n) q b low high c = ⊎_elim
      (λ same. contains_left (part_entries k) (joined (lists_from (suc k) n)) b (subst (λ z. Contains (part_entries z) b) same c))
      (λ ne. let differ : q ≢ k = ne in contains_right (part_entries k) (joined (lists_from (suc k) n)) b
      (in_joined (suc k) n q b (omega (arith, low, differ)) (omega (arith, high)) c))
      (cases_eq q k)

  part_ordered : (q : ℕ) → q < l.division.parts → InKeyOrder entry_key (part_entries q)
  part_ordered q lt = part_in_order ch.machine (w ch ok l t can fs results none) l.division can.layout.divides t.count t.window.time t.window.horizon
      (may ch ok l t can fs results none) can.long lists (sealed ch ok l t can fs results none) (entry_at ch.text) entry_key (λ g e. refl) q lt

  -- the event of an entry
  entry_event : (q : ℕ) (b : Entry) → Contains (part_entries q) b → (e : Event Body) × Contains (lists q) e × (b.key ≡ e.key)
  entry_event q b c = in_list ch before (lists q) b (in_reverse (map (entry_at ch.text) (pieces_since ch.machine before (lists q))) b
      (IsIn-from_Contains (part_entries q) b c))

  in_taken : (q : ℕ) → q < l.division.parts → (e : Event Body) → Contains (lists q) e → Contains taken e
  in_taken q lt e c = (restrict_contains l.division q taken e
      (subst (λ es. Contains es e) ((commuted ch ok l t can fs results none).parts q lt) c)).0

  same_event : (p q : ℕ) → p < l.division.parts → q < l.division.parts → (e g : Event Body) → Contains (lists p) e → Contains (lists q) g
      → e.key ≡ g.key → e ≡ g
  same_event p q i j e g c m s =
      let legal = (commuted ch ok l t can fs results none).legal in
      one_event ch.machine (w ch ok l t can fs results none) (taken ++ before) (possible_from_legal ch.machine (taken ++ before) legal) e g
      (legal_known ch.machine (taken ++ before) legal e (contains_left taken before e (in_taken p i e c)))
      (legal_known ch.machine (taken ++ before) legal g (contains_left taken before g (in_taken q j g m))) s

  parts_apart : (p q : ℕ) → p < l.division.parts → q < l.division.parts → p ≢ q → (x y : Entry) → Contains (part_entries p) x
      → Contains (part_entries q) y → x.key ≢ y.key
  parts_apart p q i j ne x y c m s =
      let f = entry_event p x c in
      let g = entry_event q y m in
      ne (sym (part_run_in ch.machine l.division before t.window.horizon p (lists p) (sealed ch ok l t can fs results none p i).runs f.0 f.1)
      ∙ ap (λ (z : Event Body). part_of l.division z.target) (same_event p q i j f.0 g.0 f.1 g.1 (sym f.2 ∙ s ∙ g.2))
      ∙ part_run_in ch.machine l.division before t.window.horizon q (lists q) (sealed ch ok l t can fs results none q j).runs g.0 g.1)

  lists_ordered : (k n : ℕ) → k + n ≤ l.division.parts → AllByRecursion (λ entries. InKeyOrder entry_key entries) (lists_from k n)
  lists_ordered k zero le = tt
  lists_ordered k (suc n) le = (part_ordered k (omega (arith, le)), lists_ordered (suc k) n (omega (arith, le)))

  lists_apart : (k n : ℕ) → k + n ≤ l.division.parts → AllPairs (λ (x y : Entry). x.key ≢ y.key) (joined (lists_from k n))
  lists_apart k zero le = AllPairs_none (λ (x y : Entry). x.key ≢ y.key)
  lists_apart k (suc n) le = AllPairs_append (λ (x y : Entry). x.key ≢ y.key) (part_entries k) (joined (lists_from (suc k) n))
      (ordered_apart (part_entries k) (part_ordered k (omega (arith, le))))
      (lists_apart (suc k) n (omega (arith, le)))
      (λ x y c m. let f = from_joined (suc k) n y m in
      parts_apart k f.0 (omega (arith, le)) (omega (arith, f.2, le)) (λ e. omega (arith, e, f.1)) x y c f.3)

  abbrev pub all_lists : List (List Entry)
  all_lists = lists_from 0 l.division.parts

  pub lists_merge : CanMergeLists all_lists
  lists_merge = record { ordered = lists_ordered 0 l.division.parts (omega arith); apart = lists_apart 0 l.division.parts (omega arith) }

  -- the texts of the results
  text_at : (q : ℕ) (f : Done M S State Body Piece) → q < l.division.parts → IsText (part_entries q) (get_or fs q f).parcel.output
  text_at q f lt =
      let run = run_at ch ok l t can fs results none q f lt in
      run.text_is

  lists_long : (k n : ℕ) → length (lists_from k n) ≡ n
  lists_long k zero = refl
  lists_long k (suc n) = ap suc (lists_long (suc k) n)

  list_at : (k n q : ℕ) → q < n → get_or (lists_from k n) q [] ≡ part_entries (k + q)
  list_at k zero q lt = absurd (omega (arith, lt))
  list_at k (suc n) zero lt = ap part_entries (omega arith)
  list_at k (suc n) (suc q) lt = list_at (suc k) n q (omega (arith, lt)) ∙ ap part_entries (omega arith)

  output_at : (gs : List (Done M S State Body Piece)) (q : ℕ) (f : Done M S State Body Piece) (o : Output) → q < length gs
      → get_or (outputs_of gs) q o ≡ (get_or gs q f).parcel.output
  output_at [] q f o lt = absurd (omega (arith, lt))
  output_at (g ∷ gs) zero f o lt = refl
  output_at (g ∷ gs) (suc q) f o lt = output_at gs q f o (omega (arith, lt))

  -- the entries of each part that have bytes
  abbrev told_lists : List (List Entry)
  told_lists = map told all_lists

  lists_texts : AreTexts told_lists (outputs_of fs)
  lists_texts = record {
    long = length-map fs (λ (f : Done M S State Body Piece). f.parcel.output) ∙ results.long ∙ sym (length-map all_lists told
        ∙ lists_long 0 l.division.parts);
    each = λ q o lt.
        let inside : q < l.division.parts = omega (arith, lt, length-map all_lists told, lists_long 0 l.division.parts) in
        let there : q < length fs = omega (arith, inside, results.long) in
        let f = first fs (omega (arith, there)) in
        subst (λ bs. IsMarked bs (get_or (outputs_of fs) q o)) (sym (told_at all_lists q ∙ ap told (list_at 0 l.division.parts q inside)))
        (subst (λ z. IsText (part_entries z) (get_or (outputs_of fs) q o)) (omega arith)
        (subst (λ z. IsText (part_entries q) z) (sym (output_at fs q f o there)) (text_at q f inside)));
  }

  pub can_write : (outputs : List Output) → outputs ≡ outputs_of fs → CanWrite outputs
  can_write outputs is = subst (λ (os : List Output). CanWrite os) (sym is)
      (record { lists = told_lists; texts = lists_texts; merge = told_can_merge all_lists lists_merge })

  -- the entries of the window
  abbrev pub window_entries : List Entry
  window_entries = sorted (joined all_lists)

  merged_all : IsMergeOf all_lists window_entries
  merged_all = record {
    ordered = sorted_ordered (joined all_lists) lists_merge.apart;
    same = λ b. (
      λ c. Contains-from_IsIn (joined all_lists) b (in_sorted (joined all_lists) b (IsIn-from_Contains window_entries b c)),
      λ c. Contains-from_IsIn window_entries b (sorted_in (joined all_lists) b (IsIn-from_Contains (joined all_lists) b c)),
    );
  }

  pub merged_entries : (outputs : List Output) → outputs ≡ outputs_of fs → AreMerged outputs (told window_entries)
  merged_entries outputs is = subst (λ (os : List Output). AreMerged os (told window_entries)) (sym is)
      (record { lists = told_lists; texts = lists_texts; merged = told_merged all_lists window_entries merged_all })

  entries_are : window_entries ≡ reverse (map (entry_at ch.text) (pieces_since ch.machine before taken))
  entries_are = blocks_merge ch.machine (w ch ok l t can fs results none) l.division can.layout.divides t.count t.window.time t.window.horizon
      (may ch ok l t can fs results none) can.long lists (sealed ch ok l t can fs results none) (entry_at ch.text) entry_key (λ g e. refl)
      window_entries merged_all.ordered
      (λ b. (
        λ c. let f = from_joined 0 l.division.parts b ((merged_all.same b).0 c) in (f.0, omega (arith, f.2), f.3),
        λ f. (merged_all.same b).1 (in_joined 0 l.division.parts f.0 b (omega arith) (omega (arith, f.1)) f.2),
      ))

  clear : All (λ a. (a ≤ t.window.time) ⊎ (t.window.horizon ≤ a)) ch.machine.audit_times
  clear =
      let begun = opening ch ok l t can fs results none in
      subst (λ k. All (λ a. (a ≤ t.window.time) ⊎ (k ≤ a)) ch.machine.audit_times) (sym begun.horizon_is)
      (subst (λ s. All (λ a. (a ≤ s) ⊎ (horizon_from ch.machine begun.event.key.time ≤ a)) ch.machine.audit_times) (sym begun.time_is)
      (no_audit_inside ch.machine (w ch ok l t can fs results none) begun.event.key.time))

  -- the pieces of its events
  abbrev pub window_pieces : List Piece
  window_pieces = reverse (map (λ b. b.1) (pieces_since ch.machine before taken))

  -- what the window puts out: the audits that are due at its first time, and these
  pub window_puts_out : output ch.machine (history ch.machine (t.count + events_in fs))
      ≡ output ch.machine before ++ (audits_due ch.machine before t.window.time ++ window_pieces)
  window_puts_out = ap (λ k. output ch.machine (history ch.machine (t.count + k))) (sym (total_is ch ok l t can fs results none))
      ∙ window_output ch.machine (w ch ok l t can fs results none) l.division can.layout.divides t.count t.window.time t.window.horizon
      (may ch ok l t can fs results none) can.long lists (sealed ch ok l t can fs results none) clear

  pub window_adds : event_pieces ch.machine (history ch.machine (t.count + events_in fs)) ≡ event_pieces ch.machine before ++ window_pieces
  window_adds = ap (event_pieces ch.machine) (sym (after_is ch ok l t can fs results none)) ∙ pieces_grow ch.machine before taken

  -- the entries have the text of the pieces
  pub window_text : flat_map entry_bytes window_entries ≡ flat_map ch.text window_pieces
  window_text = ap (flat_map entry_bytes) entries_are ∙ entries_text ch.text (pieces_since ch.machine before taken)

  -- the audits that it leaves open
  pub window_leaves : open_audits ch.machine (history ch.machine (t.count + events_in fs))
      ≡ filter (λ a. nat_lt t.window.time a) (open_audits ch.machine before)
  window_leaves = ap (λ k. open_audits ch.machine (history ch.machine (t.count + k))) (sym (total_is ch ok l t can fs results none))
      ∙ window_open ch.machine (w ch ok l t can fs results none) l.division can.layout.divides t.count t.window.time t.window.horizon
      (may ch ok l t can fs results none) can.long lists (sealed ch ok l t can fs results none) clear
