-- No line tells of a longer time than the lookups of its node have taken.
use Rattle.std.proofs.Common.{◌≡◌, ℕ, ◌+◌, ◌-◌, ◌≤◌, Bool, true, false, cond, List, [], ◌∷◌, ◌++◌, refl, sym, ap, subst, arith}
use Rattle.std.proofs.lemmas.List.Elements.{All-append, All-cons, All-head, All-tail}
use Rattle.std.proofs.lemmas.List.Sums.{sum_by-cons}
use Rattle.std.specs.List.{All, cons_option, filter_map}
use Rattle.std.specs.Prelude.{option_to_list}
use Rattle.chord_event.specs.declared.body.Body.{Body}
use Rattle.des_event.specs.declared.event.Event.{Event}
use Rattle.chord_event.specs.declared.line.Line.{Line}
use Rattle.chord_event.specs.declared.line.Line.TheVariants as line
use Rattle.chord_scenario.specs.declared.scenario.Scenario.{Scenario}
use Rattle.chord_node.specs.declared.state.Aim.{Aim}
use Rattle.chord_node.specs.declared.state.Aim.TheVariants as aim
use Rattle.chord_node.specs.declared.state.Lookup.{Lookup}
use Rattle.chord_node.specs.declared.state.NodeState.{NodeState}
use Rattle.chord_node.specs.Invariant.{IsNodeState}
use Rattle.chord_ops.specs.Ends.{TakesAtMost}
use Rattle.chord_ops.specs.Procedures.{lost_for, lost_line, stranded_lines, taken_time}
use Rattle.chord_ops.specs.Rules.{effect}
use Rattle.chord_ops.proofs.Carried.{Carries, Facts, on_effect, tells, telling}
use Rattle.chord_ops.proofs.Kept.{All-insert}
use Rattle.chord_ops.proofs.KeptRules.{none_of}
use Rattle.chord_ops.proofs.Removed.{All-remove}

module _ (most : ℕ) where
  -- a line that tells nothing of a lookup's end
  quiet_line : (text : Line) → tells text ≡ false → TakesAtMost most text
  quiet_line (line.Found key owner hops timeouts us) is = absurd (cc)
  quiet_line (line.Lost key hops timeouts us) is = absurd (cc)
  quiet_line _ is = tt

  quiet_lines : (lines : List Line) → telling lines ≡ 0 → All (TakesAtMost most) lines
  quiet_lines [] none = none_of (TakesAtMost most)
  quiet_lines (x ∷ xs) none =
      All-cons (TakesAtMost most) x xs (quiet_line x (by (tells x) refl)) (quiet_lines xs (omega (arith, none, split)))
    where
      split : telling (x ∷ xs) ≡ cond (tells x) 1 0 + telling xs
      split = sum_by-cons (λ (l : Line). cond (tells l) 1 0) x xs

      by : (b : Bool) → tells x ≡ b → tells x ≡ false
      by true test =
          let one : ◌≡◌ {A = ℕ} (cond (tells x) 1 0) 1 = ap {B = ℕ} (λ (b : Bool). cond b 1 0) test in absurd (omega (arith, none, split, one))
      by false test = test

  lost_timed : (wanted : Aim) (time : ℕ) (lookup : Lookup) → time - lookup.started ≤ most
      → All (TakesAtMost most) (option_to_list (lost_for wanted time lookup))
  lost_timed aim.User time lookup le =
      All-cons (TakesAtMost most) (line.Lost lookup.key lookup.hops lookup.timeouts (taken_time time lookup)) [] le (none_of (TakesAtMost most))
  lost_timed (aim.Finger index) time lookup le = none_of (TakesAtMost most)

  lost_with : (wanted : Aim) (time : ℕ) (lookup : Lookup) (rest : List Line) → time - lookup.started ≤ most → All (TakesAtMost most) rest
      → All (TakesAtMost most) (cons_option (lost_for wanted time lookup) rest)
  lost_with aim.User time lookup rest le all =
      All-cons (TakesAtMost most) (line.Lost lookup.key lookup.hops lookup.timeouts (taken_time time lookup)) rest le all
  lost_with (aim.Finger index) time lookup rest le all = all

  lost_all : (time : ℕ) (lookups : List Lookup) → All (λ (l : Lookup). time - l.started ≤ most) lookups
      → All (TakesAtMost most) (filter_map (lost_line time) lookups)
  lost_all time [] all = none_of (TakesAtMost most)
  lost_all time (x ∷ xs) all =
      lost_with x.aim time x (filter_map (lost_line time) xs) (All-head (λ (l : Lookup). time - l.started ≤ most) x xs all)
      (lost_all time xs (All-tail (λ (l : Lookup). time - l.started ≤ most) x xs all))

  -- the lines tell of no longer time, and no lookup has taken longer
  record AreTimed (time : ℕ) (text : List Line) (list : List Lookup) : Type 0 where
    pub lines : All (TakesAtMost most) text
    pub lookups : All (λ (l : Lookup). time - l.started ≤ most) list

  abbrev Timed : Facts → Type 0
  Timed f = AreTimed f.time f.lines f.lookups

  abbrev TimedWith : Lookup → Facts → Type 0
  TimedWith lookup f = Timed f × (f.time - lookup.started ≤ most)

  more_lines : (f : Facts) (more : List Line) → All (TakesAtMost most) more → Timed f → Timed (record f { lines = f.lines ++ more })
  more_lines f more all h = record { lines = All-append (TakesAtMost most) f.lines more h.lines all; lookups = h.lookups }

  stranded_timed : (f : Facts) (via : ℕ) → Timed f → All (TakesAtMost most) (f.lines ++ stranded_lines via f.time f.lookups)
  stranded_timed f via h =
      All-append (TakesAtMost most) f.lines (stranded_lines via f.time f.lookups) h.lines
      (All-cons (TakesAtMost most) (line.Stranded via) (filter_map (lost_line f.time) f.lookups) tt (lost_all f.time f.lookups h.lookups))

  keeps_time : (sc : Scenario) (s : NodeState) (message : Body) → Carries sc s message Timed Timed TimedWith
  keeps_time sc s message =
      record {
        opens = λ f other h. h;
        absent = λ f number is none h. h;
        noted = λ f more still h. more_lines f more (quiet_lines more still) h;
        over = λ f number is h. h;
        leaves = λ f via member h.
            record { lines = stranded_timed f via h; lookups = none_of (λ (l : Lookup). f.time - l.started ≤ most) };
        made = λ f es timely h. h;
        quiet = λ f more still h. more_lines f more (quiet_lines more still) h;
        called = λ f call es timely number resent h. h;
        again = λ f number call es timely is found h. h;
        without = λ f number h. h;
        member = λ f joining h. h;
        rises = λ f down h. h;
        falls = λ f still h. record { lines = h.lines; lookups = none_of (λ (l : Lookup). f.time - l.started ≤ most) };
        strands = λ f via member h.
            record { lines = stranded_timed f via h; lookups = none_of (λ (l : Lookup). f.time - l.started ≤ most) };
        begun = λ f key h. (
          more_lines f (line.Lookup key ∷ []) (All-cons (TakesAtMost most) (line.Lookup key) [] tt (none_of (TakesAtMost most))) h,
          omega arith,
        );
        turned = λ f key index h. (h, omega arith);
        taken = λ f number place lookup first is its within here h. (
          record {
            lines = h.lines;
            lookups = All-remove (λ (l : Lookup). f.time - l.started ≤ most) f.lookups place h.lookups;
          },
          subst (λ (l : Lookup). f.time - l.started ≤ most) (sym here) (h.lookups place lookup within),
        );
        same = λ f old new alike r. (r.0, omega (arith, r.1, alike.started));
        asked = λ f call place lookup es timely number resent r. record {
          lines = r.0.lines;
          lookups =
              All-insert (λ (l : Lookup). f.time - l.started ≤ most) f.lookups place (record lookup { call = f.count + 1; steps = lookup.steps + 1 })
              r.0.lookups r.1;
        };
        failed = λ f lookup r. more_lines f (option_to_list (lost_line f.time lookup)) (lost_timed lookup.aim f.time lookup r.1) r.0;
        found = λ f lookup owner is r.
            let text : Line = line.Found lookup.key owner lookup.hops lookup.timeouts (taken_time f.time lookup) in
            more_lines f (text ∷ []) (All-cons (TakesAtMost most) text [] r.1 (none_of (TakesAtMost most))) r.0;
        fixed = λ f lookup index is r. r.0;
      }

-- if no lookup of a node has taken longer, then no line of the event tells so
pub all_timed : (sc : Scenario) (s : NodeState) (e : Event Body) (most : ℕ) → IsNodeState sc s
    → All (λ (l : Lookup). e.key.time - l.started ≤ most) s.lookups → All (TakesAtMost most) (effect sc s e).lines
all_timed sc s e most known all =
    (on_effect sc s e (Timed most) (Timed most) (TimedWith most) (keeps_time most sc s e.body) known
    (record { lines = none_of (TakesAtMost most); lookups = all })).lines
