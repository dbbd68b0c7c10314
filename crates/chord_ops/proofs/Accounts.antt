-- Each user's lookup is accounted for at the end of an event.
use Rattle.std.proofs.Common.{◌≡◌, ℕ, ◌+◌, ◌≤◌, Bool, false, cond, List, [], ◌∷◌, ◌++◌, refl, sym, ◌∙◌, ap, subst, arith}
use Rattle.std.proofs.lemmas.List.Elements.{All-head}
use Rattle.std.proofs.lemmas.List.Sums.{sum_by-append, sum_by-cons}
use Rattle.std.specs.List.{All, cons_option, count_by, filter_map}
use Rattle.std.specs.Prelude.{option_to_list, if◌then◌else◌}
use Rattle.chord_event.specs.declared.body.Body.{Body}
use Rattle.des_event.specs.declared.event.Event.{Event}
use Rattle.chord_event.specs.declared.line.Line.{Line}
use Rattle.chord_event.specs.declared.line.Line.TheVariants as line
use Rattle.chord_scenario.specs.declared.scenario.Scenario.{Scenario}
use Rattle.chord_node.specs.declared.state.Aim.{Aim}
use Rattle.chord_node.specs.declared.state.Aim.TheVariants as aim
use Rattle.chord_node.specs.declared.state.Call.{Call}
use Rattle.chord_node.specs.declared.state.Lookup.{Lookup}
use Rattle.chord_node.specs.declared.state.NodeState.{NodeState}
use Rattle.chord_node.specs.declared.state.Status.{Status}
use Rattle.chord_node.specs.declared.state.Status.TheVariants as status
use Rattle.chord_node.specs.Invariant.{IsNodeState, IsPurposeOf, asking, is_user, is_user_aim}
use Rattle.chord_ops.specs.Accounts.{IsAccountedFor, begun, found, in_progress, lost, tells_begun, tells_found, tells_lost}
use Rattle.chord_ops.specs.Procedures.{lost_for, lost_line, stranded_lines, taken_time}
use Rattle.chord_ops.specs.Rules.{effect, is_down_status}
use Rattle.chord_ops.proofs.Carried.{Carries, Facts, on_effect, tells, telling}
use Rattle.chord_ops.proofs.Kept.{count_by-insert}
use Rattle.chord_ops.proofs.KeptJoins.{no_lookups_left}
use Rattle.chord_ops.proofs.Removed.{count_by-remove}

-- Lines

counted_append : {X : Type 0} (p : X → Bool) (xs ys : List X) → count_by p (xs ++ ys) ≡ count_by p xs + count_by p ys
counted_append {X} p xs ys = sum_by-append (λ (x : X). cond (p x) 1 0) xs ys

counted_cons : {X : Type 0} (p : X → Bool) (x : X) (xs : List X) → count_by p (x ∷ xs) ≡ cond (p x) 1 0 + count_by p xs
counted_cons {X} p x xs = sum_by-cons (λ (y : X). cond (p y) 1 0) x xs

one_kind : (text : Line) → cond (tells_begun text) 1 0 + cond (tells_found text) 1 0 + cond (tells_lost text) 1 0 ≡ cond (tells text) 1 0
one_kind (line.Lookup key) = refl
one_kind (line.Found key owner hops timeouts us) = refl
one_kind (line.Lost key hops timeouts us) = refl
one_kind _ = refl

-- a line that tells of a lookup is of one of three kinds
kinds : (lines : List Line) → begun lines + found lines + lost lines ≡ telling lines
kinds [] = refl
kinds (x ∷ xs) =
    omega (
      arith,
      kinds xs,
      one_kind x,
      counted_cons tells_begun x xs,
      counted_cons tells_found x xs,
      counted_cons tells_lost x xs,
      counted_cons tells x xs,
    )

-- what lines tell, if they tell only of this many lost lookups
record TellsLost (n : ℕ) (lines : List Line) : Type 0 where
  pub none_begun : begun lines ≡ 0
  pub none_found : found lines ≡ 0
  pub all_lost : lost lines ≡ n

lost_alone : (wanted : Aim) (time : ℕ) (lookup : Lookup) → TellsLost (cond (is_user_aim wanted) 1 0) (option_to_list (lost_for wanted time lookup))
lost_alone aim.User time lookup = record { none_begun = refl; none_found = refl; all_lost = refl }
lost_alone (aim.Finger index) time lookup = record { none_begun = refl; none_found = refl; all_lost = refl }

lost_with : (wanted : Aim) (time : ℕ) (lookup : Lookup) (n : ℕ) (rest : List Line) → TellsLost n rest
    → TellsLost (cond (is_user_aim wanted) 1 0 + n) (cons_option (lost_for wanted time lookup) rest)
lost_with aim.User time lookup n rest h =
    let text : Line = line.Lost lookup.key lookup.hops lookup.timeouts (taken_time time lookup) in
    record {
      none_begun = omega (arith, counted_cons tells_begun text rest, h.none_begun);
      none_found = omega (arith, counted_cons tells_found text rest, h.none_found);
      all_lost = omega (arith, counted_cons tells_lost text rest, h.all_lost);
    }
lost_with (aim.Finger index) time lookup n rest h =
    record { none_begun = h.none_begun; none_found = h.none_found; all_lost = omega (arith, h.all_lost) }

all_lost : (time : ℕ) (lookups : List Lookup) → TellsLost (count_by is_user lookups) (filter_map (lost_line time) lookups)
all_lost time [] = record { none_begun = refl; none_found = refl; all_lost = refl }
all_lost time (x ∷ xs) =
    subst (λ (n : ℕ). TellsLost n (filter_map (lost_line time) (x ∷ xs))) (sym (counted_cons is_user x xs))
    (lost_with x.aim time x (count_by is_user xs) (filter_map (lost_line time) xs) (all_lost time xs))

all_stranded : (via time : ℕ) (lookups : List Lookup) → TellsLost (count_by is_user lookups) (stranded_lines via time lookups)
all_stranded via time lookups =
    let h = all_lost time lookups in
    let rest : List Line = filter_map (lost_line time) lookups in
    record {
      none_begun = omega (arith, counted_cons tells_begun (line.Stranded via) rest, h.none_begun);
      none_found = omega (arith, counted_cons tells_found (line.Stranded via) rest, h.none_found);
      all_lost = omega (arith, counted_cons tells_lost (line.Stranded via) rest, h.all_lost);
    }

-- A node that is down has no lookups

none_asked : (v : Status) (calls : List Call) → v ≡ status.Down → All (λ (c : Call). IsPurposeOf v c.purpose) calls → calls ≡ []
none_asked status.Down [] down all = refl
none_asked status.Down (x ∷ xs) down all = absurd (All-head (λ (c : Call). IsPurposeOf status.Down c.purpose) x xs all)
none_asked status.Joining calls down all = absurd (cc)
none_asked status.Member calls down all = absurd (cc)

down_is_idle : (sc : Scenario) (s : NodeState) → IsNodeState sc s → s.status ≡ status.Down → in_progress s ≡ 0
down_is_idle sc s known down =
    let no_calls : s.calls ≡ [] = none_asked s.status s.calls down known.calls.purposes in
    ap (count_by is_user) (no_lookups_left s.lookups (λ n. known.matched n ∙ ap (asking n) no_calls))

-- The account

-- what is cut off at a node with this status
abbrev off : Status → ℕ → ℕ
off v n = if is_down_status v then n else 0

off_most : (v : Status) (n : ℕ) → off v n ≤ n
off_most status.Down n = omega arith
off_most status.Joining n = omega arith
off_most status.Member n = omega arith

off_none : (v w : Status) (n : ℕ) → v ≡ w → is_down_status w ≡ false → off v n ≡ 0
off_none v w n same up = ap (λ (u : Status). off u n) same ∙ ap (λ (b : Bool). if b then n else 0) up

-- with as many lookups beside the list
abbrev Adds : (start beside : ℕ) → Facts → Type 0
Adds start beside f =
    start + begun f.lines ≡ found f.lines + lost f.lines + (beside + count_by is_user f.lookups) + off f.is start

more_lines : (start beside after : ℕ) (f : Facts) (more : List Line) → beside + begun more ≡ after + found more + lost more → Adds start beside f
    → Adds start after (record f { lines = f.lines ++ more })
more_lines start beside after f more same h =
    omega (
      arith,
      h,
      same,
      counted_append tells_begun f.lines more,
      counted_append tells_found f.lines more,
      counted_append tells_lost f.lines more,
    )

module _ (sc : Scenario) (s : NodeState) (message : Body) (known : IsNodeState sc s) where
  -- each lookup of a stranded node is lost
  strands : (f : Facts) (via : ℕ) → f.is ≡ status.Member → Adds (in_progress s) 0 f
      → Adds (in_progress s) 0 (record f { is = status.Joining; lookups = []; calls = []; lines = f.lines ++ stranded_lines via f.time f.lookups })
  strands f via member h =
      let all = all_stranded via f.time f.lookups in
      let lines : List Line = stranded_lines via f.time f.lookups in
      omega (
        arith,
        h,
        off_none f.is status.Member (in_progress s) member refl,
        all.none_begun,
        all.none_found,
        all.all_lost,
        counted_append tells_begun f.lines lines,
        counted_append tells_found f.lines lines,
        counted_append tells_lost f.lines lines,
      )

  adds_up : Carries sc s message (Adds (in_progress s) 0) (Adds (in_progress s) 0) (λ lookup f. Adds (in_progress s) (cond (is_user lookup) 1 0) f)
  adds_up =
      let n : ℕ = in_progress s in
      record {
        opens = λ f other h. h;
        absent = λ f number is none h. h;
        noted = λ f more still h. more_lines n 0 0 f more (omega (arith, kinds more, still)) h;
        over = λ f number is h. h;
        leaves = strands;
        made = λ f es timely h. h;
        quiet = λ f more still h. more_lines n 0 0 f more (omega (arith, kinds more, still)) h;
        called = λ f call es timely number resent h. h;
        again = λ f number call es timely is found h. h;
        without = λ f number h. h;
        member = λ f joining h. omega (arith, h, off_none f.is status.Joining n joining refl);
        rises = λ f down h. omega (arith, h, down_is_idle sc s known down, off_most f.is n);
        falls = λ f still h. omega (arith, kinds f.lines, still);
        strands = strands;
        begun = λ f key h. more_lines n 0 1 f (line.Lookup key ∷ []) refl h;
        turned = λ f key index h. h;
        taken = λ f number place lookup first is its within here h.
            omega (arith, h, count_by-remove is_user f.lookups place lookup within here);
        same = λ f old new alike h.
            subst (λ (wanted : Aim). Adds n (cond (is_user_aim wanted) 1 0) f) (sym alike.aim) h;
        asked = λ f call place lookup es timely number resent h.
            let next : Lookup = record lookup { call = f.count + 1; steps = lookup.steps + 1 } in
            omega (arith, h, count_by-insert is_user f.lookups place next);
        failed = λ f lookup h.
            let one = lost_alone lookup.aim f.time lookup in
            more_lines n (cond (is_user lookup) 1 0) 0 f (option_to_list (lost_line f.time lookup))
            (omega (arith, one.none_begun, one.none_found, one.all_lost)) h;
        found = λ f lookup owner is h.
            let one : ◌≡◌ {A = ℕ} (cond (is_user lookup) 1 0) 1 = ap (λ (wanted : Aim). cond (is_user_aim wanted) 1 0) is in
            more_lines n (cond (is_user lookup) 1 0) 0 f (line.Found lookup.key owner lookup.hops lookup.timeouts (taken_time f.time lookup) ∷ [])
            (omega (arith, one)) h;
        fixed = λ f lookup index is h.
            let none : ◌≡◌ {A = ℕ} (cond (is_user lookup) 1 0) 0 = ap (λ (wanted : Aim). cond (is_user_aim wanted) 1 0) is in
            omega (arith, h, none);
      }

-- a node that is down at first has nothing in progress
opens : (sc : Scenario) (s : NodeState) → IsNodeState sc s → in_progress s + 0 ≡ 0 + 0 + (0 + in_progress s) + off s.status (in_progress s)
opens sc s known = by s.status refl
  where
    by : (v : Status) → s.status ≡ v → in_progress s + 0 ≡ 0 + 0 + (0 + in_progress s) + off v (in_progress s)
    by status.Down is = omega (arith, down_is_idle sc s known is)
    by status.Joining is = omega arith
    by status.Member is = omega arith

pub accounted_for : (sc : Scenario) (s : NodeState) (e : Event Body) → IsNodeState sc s → IsAccountedFor s (effect sc s e)
accounted_for sc s e known =
    let n : ℕ = in_progress s in
    omega (
      arith,
      on_effect sc s e (Adds n 0) (Adds n 0) (λ lookup f. Adds n (cond (is_user lookup) 1 0) f) (adds_up sc s e.body known) known (opens sc s known),
    )
