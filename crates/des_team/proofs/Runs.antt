-- Runs of entries of one part that come before those of all other parts, and the writing of their texts.
use Rattle.std.proofs.Common.{◌≡◌, ◌∙◌, ℕ, zero, suc, ◌+◌, ◌-◌, ◌<◌, ◌≤◌, List, [], ◌∷◌, ◌++◌, Option, None, Some, ap, arith, drop, get_or, length, map, subst, sym, take}
use Rattle.std.proofs.KnownBytes.{Appends-trans, Appends-nil}
use Rattle.std.proofs.lemmas.List.{drop-drop, drop_all, get_or-drop, get_or-take, length-take, take-append-drop}
use Rattle.std.proofs.lemmas.List.Sorted.{IsPermutation-map}
use Rattle.std.specs.BinaryHeap.{IsUpperBound}
use Rattle.std.specs.Io.KnownBytes.{Appends}
use Rattle.std.specs.List.{AllByRecursion, Contains}
use Rattle.std.specs.List.Sorted.{IsPermutation}
use Rattle.des_event.specs.declared.key.Key.{Key}
use Rattle.des_event.specs.Keys.{IsAtMost}
use Rattle.des_event.proofs.KeyLists.{IsIn, Contains-from_IsIn}
use Rattle.des_output.proofs.Fronts.{front_after, front_of_longer, front_of_whole}
use Rattle.des_output.specs.Writing.{AppendsFront}
use Rattle.des_team.specs.Entries.{Entry}
use Rattle.des_team.proofs.Merges.{IsMerging, moved, used_up}
use Rattle.des_team.proofs.Heads.{all_moved, at_most_all, below_heads, got, got_none, head_made, least_head, part_within}
use Rattle.des_team.proofs.Merged.{begun, merged_front, merged_whole, put_run}
use Rattle.des_team.proofs.Texts.{as_many, mark_end, mark_key, text-append, text_between, text_of, text_within}
use Rattle.des_team.specs.Heads.{IsBelow, IsHead, IsLimit, ahead, entries_at, head_at, head_cmp, with_entries}
use Rattle.des_team.specs.Outputs.{AreTexts, CanMergeLists, IsMergeOf, IsMarked, joined}
use Rattle.des_team.specs.declared.output.Head.{Head}
use Rattle.des_team.specs.declared.output.Mark.{Mark}
use Rattle.des_team.specs.declared.output.Output.{Output}

module _ (lists : List (List Entry)) where
  -- a run of entries from a head on, of which those after the first come before the limit
  pub record IsRun (h : Head) (limit : Option Key) (after : ℕ) : Type 0 where
    pub more : h.place < after
    pub within : after ≤ length (entries_at lists h.part)
    pub below : (k : ℕ) (b : Entry) → h.place < k → k < after → IsBelow (get_or (entries_at lists h.part) k b).key limit

  abbrev run_of : Head → ℕ → List Entry
  run_of h after = take (after - h.place) (drop h.place (entries_at lists h.part))

  -- the head h was taken from a heap, which left the others; the run from it on ends before `after`, and its text at `end`
  pub record IsTaken (hs ws : List Head) (h : Head) (limit : Option Key) (o : Output) (after end : ℕ) : Type 0 where
    pub out : IsPermutation hs (h ∷ ws)
    pub up : IsUpperBound head_cmp h ws
    pub heads : AllByRecursion (IsHead lists) (h ∷ ws)
    pub lim : IsLimit limit ws
    pub text : IsMarked (entries_at lists h.part) o
    pub run : IsRun h limit after
    pub ends : end ≡ length (text_of (take after (entries_at lists h.part)))

  -- of these entries the text is written, and those are left
  pub record HasPut (a b : Option (List ℕ)) (left : List (List Entry)) : Type 0 where
    pub done : List Entry
    pub merging : IsMerging (joined lists) done left
    pub written : Appends a b (text_of done)

  -- what is left is from these heads on
  pub record IsWriting (a b : Option (List ℕ)) (hs : List Head) : Type 0 where
    pub heads : AllByRecursion (IsHead lists) hs
    pub put : HasPut a b (map (ahead lists) hs)

  -- each entry of a run is at most the other heads
  run_least : (h : Head) (ws : List Head) (limit : Option Key) (after : ℕ) → IsHead lists h → AllByRecursion (λ (w : Head). IsAtMost h.key w.key) ws
      → IsLimit limit ws → IsRun h limit after → (x : Entry) → IsIn x (run_of h after) → AllByRecursion (λ (w : Head). IsAtMost x.key w.key) ws
  run_least h ws limit after at_head least lim run x there =
      let c : Contains (run_of h after) x = Contains-from_IsIn (run_of h after) x there in
      let entries : List Entry = entries_at lists h.part in
      let short : c.0 < after - h.place = omega (arith, c.1, length-take (after - h.place) (drop h.place entries)) in
      go c.0 short (sym (get_or-drop h.place entries c.0 x) ∙ sym (get_or-take (after - h.place) (drop h.place entries) c.0 x short) ∙ c.2)
    where
      go : (k : ℕ) → k < after - h.place → get_or (entries_at lists h.part) (h.place + k) x ≡ x → AllByRecursion (λ (w : Head). IsAtMost x.key w.key) ws
      go zero lt e =
          let here : h.place + 0 ≡ h.place = omega arith in
          let same : h.key ≡ x.key =
          at_head.key_is x ∙ ap (λ (b : Entry). b.key) (ap (λ n. get_or (entries_at lists h.part) n x) (sym here) ∙ e) in
          subst (λ (k : Key). AllByRecursion (λ (w : Head). IsAtMost k w.key) ws) same least
      go (suc k) lt e =
          let below : IsBelow (get_or (entries_at lists h.part) (h.place + suc k) x).key limit = run.below (h.place + suc k) x (omega arith) (omega arith) in
          below_heads x.key limit ws (subst (λ (b : Entry). IsBelow b.key limit) e below) lim

  -- before the first run
  pub put_nothing : (a : Option (List ℕ)) (hs : List Head) → CanMergeLists lists → IsPermutation (with_entries lists) (map (ahead lists) hs)
      → HasPut a a (map (ahead lists) hs)
  put_nothing a hs can same = record {
    done = [];
    merging = moved (joined lists) [] (with_entries lists) (map (ahead lists) hs) same (begun lists can);
    written = Appends-nil a;
  }

  put_front : (a b : Option (List ℕ)) (left : List (List Entry)) (merged : List Entry) → IsMergeOf lists merged → HasPut a b left
      → AppendsFront a b (text_of merged)
  put_front a b left merged is put =
      let front : (rest : List Entry) × (merged ≡ put.done ++ rest) = merged_front lists put.done merged is left put.merging in
      subst (AppendsFront a b) (sym (ap (text_of) front.1 ∙ text-append put.done front.0))
      (front_of_longer a b (text_of put.done) (text_of front.0) (front_of_whole a b (text_of put.done) put.written))

  -- what is written at any time, and after the last run
  pub written_front : (a b : Option (List ℕ)) (hs : List Head) (merged : List Entry) → IsMergeOf lists merged → IsWriting a b hs
      → AppendsFront a b (text_of merged)
  written_front a b hs merged is w = put_front a b (map (ahead lists) hs) merged is w.put

  pub written_whole : (a b : Option (List ℕ)) (hs : List Head) → hs ≡ [] → (merged : List Entry) → IsMergeOf lists merged → IsWriting a b hs
      → Appends a b (text_of merged)
  written_whole a b hs none merged is w =
      let put : HasPut a b [] = subst (λ l. HasPut a b (map (ahead lists) l)) none w.put in
      subst (λ l. Appends a b (text_of l)) (sym (merged_whole lists put.done merged is put.merging)) put.written

pub taken_at : {lists : List (List Entry)} {outputs : List Output} {hs ws : List Head} {h : Head} {o : Output} {marks : List Mark}
    → (limit : Option Key) (after : ℕ) (m : Mark) → AreTexts lists outputs → AllByRecursion (IsHead lists) hs → IsPermutation hs (h ∷ ws)
    → IsUpperBound head_cmp h ws → IsLimit limit ws → o ≡ get_or outputs h.part o → marks ≡ o.marks.items → h.place < after → after ≤ length marks
    → ((k : ℕ) (n : Mark) → h.place < k → k < after → IsBelow (get_or marks k n).key limit)
    → IsTaken lists hs ws h limit o after (get_or marks (after - 1) m).end
taken_at {lists} {outputs} {hs} {ws} {h} {o} limit after m are heads out up lim its here more within below =
    let both : AllByRecursion (IsHead lists) (h ∷ ws) = all_moved (IsHead lists) hs (h ∷ ws) out heads in
    let entries : List Entry = entries_at lists h.part in
    let text : IsMarked entries o =
    subst (IsMarked entries) (sym its) (are.each h.part o (part_within lists h.part h.place both.0.inside)) in
    let fits : after ≤ length entries = omega (arith, within, ap length here, as_many entries o text) in
    record {
      out = out;
      up = up;
      heads = both;
      lim = lim;
      text = text;
      run = record {
        more = more;
        within = fits;
        below = λ k b lt le.
            let n : Mark = record { key = h.key; end = 0 } in
            let inside : k < length entries = omega arith in
            subst (λ (key : Key). IsBelow key limit) (ap (λ (l : List Mark). (get_or l k n).key) here ∙ mark_key entries o text k b n inside)
            (below k n lt le);
      };
      ends = ap (λ (l : List Mark). (get_or l (after - 1) m).end) here ∙ mark_end entries o text (after - 1) after m (omega arith) (omega arith);
    }

module _ {lists : List (List Entry)} {hs ws : List Head} {h : Head} {limit : Option Key} {o : Output} {after end : ℕ}
    (t : IsTaken lists hs ws h limit o after end) where
  -- the places of the run and of its text

  pub taken_part : h.part < length lists
  taken_part = part_within lists h.part h.place t.heads.0.inside

  pub taken_inside : h.place < length o.marks.items
  taken_inside = omega (arith, t.heads.0.inside, as_many (entries_at lists h.part) o t.text)

  taken_text : (h.start ≤ end) × (take (end - h.start) (drop h.start o.text.items) ≡ text_of (run_of lists h after))
  taken_text = text_between (entries_at lists h.part) o t.text h.place after h.start end (omega (arith, t.run.more)) t.heads.0.start_is t.ends

  pub taken_starts : h.start ≤ end
  taken_starts = taken_text.0

  pub taken_ends : end ≤ length o.text.items
  taken_ends = omega (arith, t.ends, text_within (entries_at lists h.part) o t.text after)

  module _ {a b : Option (List ℕ)} (w : IsWriting lists a b hs) where
    run_merged : IsMerging (joined lists) (w.put.done ++ run_of lists h after) (drop after (entries_at lists h.part) ∷ map (ahead lists) ws)
    run_merged =
        let all : List Entry = joined lists in
        let run : List Entry = run_of lists h after in
        let rest : List Entry = drop after (entries_at lists h.part) in
        let taken : IsMerging all w.put.done (map (ahead lists) (h ∷ ws)) =
        moved all w.put.done (map (ahead lists) hs) (map (ahead lists) (h ∷ ws)) (IsPermutation-map (ahead lists) hs (h ∷ ws) t.out) w.put.merging in
        let stop : h.place + (after - h.place) ≡ after = omega (arith, t.run.more) in
        let split : ahead lists h ≡ run ++ rest =
        sym (take-append-drop (after - h.place) (ahead lists h)) ∙ ap (λ l. run ++ l)
        (drop-drop (after - h.place) h.place (entries_at lists h.part) ∙ ap (λ n. drop n (entries_at lists h.part)) stop) in
        put_run all w.put.done run rest (map (ahead lists) ws)
        (λ x y i j. at_most_all lists x.key ws (run_least lists h ws limit after t.heads.0 (least_head h ws t.up) t.lim t.run x i) t.heads.1
        taken.ordered.1 y j)
        (subst (λ l. IsMerging all w.put.done (l ∷ map (ahead lists) ws)) split taken)

    module _ (c : Option (List ℕ)) (text : List ℕ) (here : text ≡ o.text.items) where
      -- the front of the run's text is written
      pub run_front : (merged : List Entry) → IsMergeOf lists merged → AppendsFront b c (take (end - h.start) (drop h.start text))
          → AppendsFront a c (text_of merged)
      run_front merged is more =
          let run : List Entry = run_of lists h after in
          let front : (rest : List Entry) × (merged ≡ (w.put.done ++ run) ++ rest) =
          merged_front lists (w.put.done ++ run) merged is (drop after (entries_at lists h.part) ∷ map (ahead lists) ws) run_merged in
          let parts : text_of merged ≡ (text_of w.put.done ++ text_of run) ++ text_of front.0 =
          ap (text_of) front.1 ∙ text-append (w.put.done ++ run) front.0 ∙ ap (λ l. l ++ text_of front.0) (text-append w.put.done run) in
          let this : AppendsFront b c (text_of run) = subst (AppendsFront b c) (ap (λ l. take (end - h.start) (drop h.start l)) here ∙ taken_text.1) more in
          subst (AppendsFront a c) (sym parts)
          (front_of_longer a c (text_of w.put.done ++ text_of run) (text_of front.0)
          (front_after a b c (text_of w.put.done) (text_of run) w.put.written this))

      -- all of it is written
      module _ (more : Appends b c (take (end - h.start) (drop h.start text))) where
        run_put : HasPut lists a c (drop after (entries_at lists h.part) ∷ map (ahead lists) ws)
        run_put = record {
          done = w.put.done ++ run_of lists h after;
          merging = run_merged;
          written = subst (Appends a c) (sym (text-append w.put.done (run_of lists h after)))
              (Appends-trans a b c (text_of w.put.done) (text_of (run_of lists h after)) w.put.written
              (subst (Appends b c) (ap (λ l. take (end - h.start) (drop h.start l)) here ∙ taken_text.1) more));
        }

        -- the part's next head is put back, if it has one
        pub with_next : (marks : List Mark) (new : List Head) (n : Head) → marks ≡ o.marks.items → Some n ≡ head_at marks h.part after end
            → IsPermutation (n ∷ ws) new → IsWriting lists a c new
        with_next marks new n there made put =
            let at : Some n ≡ head_at o.marks.items h.part after end = made ∙ ap (λ l. head_at l h.part after end) there in
            let at_head : IsHead lists n = head_made lists h.part after end o n t.text t.ends at in
            let g = got (λ (m : Mark). record { key = m.key; part = h.part; place = after; start = end }) o.marks.items after n at in
            let left : ahead lists n ≡ drop after (entries_at lists h.part) = ap (ahead lists) (g.1 (record { key = n.key; end = 0 })) in
            record {
              heads = all_moved (IsHead lists) (n ∷ ws) new put (at_head, t.heads.1);
              put = record {
                done = run_put.done;
                merging = moved (joined lists) run_put.done (map (ahead lists) (n ∷ ws)) (map (ahead lists) new)
                    (IsPermutation-map (ahead lists) (n ∷ ws) new put)
                    (subst (λ l. IsMerging (joined lists) run_put.done (l ∷ map (ahead lists) ws)) (sym left) run_put.merging);
                written = run_put.written;
              };
            }

        pub without_next : (marks : List Mark) → marks ≡ o.marks.items → None ≡ head_at marks h.part after end → IsWriting lists a c ws
        without_next marks there made =
            let at : None ≡ head_at o.marks.items h.part after end = made ∙ ap (λ l. head_at l h.part after end) there in
            let none : length o.marks.items ≤ after =
            got_none (λ (m : Mark). record { key = m.key; part = h.part; place = after; start = end }) o.marks.items after at in
            let all : length (entries_at lists h.part) ≤ after = omega (arith, none, as_many (entries_at lists h.part) o t.text) in
            record {
              heads = t.heads.1;
              put = record {
                done = run_put.done;
                merging = used_up (joined lists) run_put.done (map (ahead lists) ws)
                    (subst (λ l. IsMerging (joined lists) run_put.done (l ∷ map (ahead lists) ws)) (drop_all after (entries_at lists h.part) all)
                    run_put.merging);
                written = run_put.written;
              };
            }
