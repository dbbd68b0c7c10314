use Rattle.std.proofs.Common.{◌≡◌, ◌∙◌, ◌<◌, ◌≤◌, ◌-◌, ◌^◌, ℕ, Bool, List, Option, Some, None, drop, take, length, get_or, sym, ap, subst, true, false, arith, ltb, ltb-true, ltb-false, rules}
use Rattle.std.proofs.lemmas.List.{take_rest}
use Rattle.std.specs.List.{All}
use Rattle.std.specs.List.Sorted.{IsNonDecreasingBy, IsPartitionPoint}
use Rattle.std.proofs.lemmas.List.Elements.{All-drop, All-take}
use Rattle.std.proofs.lemmas.List.Sorted.{IsPartitionPoint-from_clause, IsPartitionedBy-ltb}
use Rattle.chord_judge.proofs.Scans.{IsSearch, scanned_ahead, scanned_behind, scanned_none}
use Rattle.chord_judge.specs.Owners.{right_owner}
use Rattle.chord_judge.specs.Places.{AreAllPlaces, first_marked, is_marked}
use Rattle.chord_judge.specs.declared.places.Place.{Place}
use Rattle.chord_scenario.specs.Range.{IsInRange}
use Rattle.chord_scenario.specs.Setup.{Setup}
use Rattle.chord_scenario.specs.World.{node_count}
use Rattle.chord_judge.proofs.members.Members.owner.Goals as goal

-- the search, by the clauses of the calls
searched : (sc : Setup) (places seen : List Place) (marks : List Bool) (member : ℕ → Bool) (key raw s : ℕ) → IsInRange sc → AreAllPlaces sc places
    → ((n : ℕ) → n < node_count sc → is_marked marks n ≡ member n) → key < 2 ^ sc.bits → seen ≡ places → raw ≡ key → s ≤ length seen
    → IsPartitionPoint (λ (y : Place). ltb y.ident raw ≡ true) (λ (y : Place). ltb y.ident raw ≡ false) seen s → IsSearch sc places marks member key s
searched sc places seen marks member key raw s range placed hold on is at_key bound point = record {
  range = range;
  placed = placed;
  marked = hold;
  on_circle = on;
  within = subst (λ (l : List Place). s ≤ length l) is bound;
  below = λ k d l.
      subst (λ (xs : List Place). (get_or xs k d).ident < key) is
      (subst (λ (n : ℕ). (get_or seen k d).ident < n) at_key (ltb-true (get_or seen k d).ident raw (point.0 k d (omega arith) l)));
  above = λ k d low high.
      subst (λ (xs : List Place). key ≤ (get_or xs k d).ident) is
      (subst (λ (n : ℕ). n ≤ (get_or seen k d).ident) at_key
      (ltb-false (get_or seen k d).ident raw (point.1 k d low (subst (λ (l : List Place). k < length l) (sym is) high))));
}

ascends : (places seen : List Place) → seen ≡ places → IsNonDecreasingBy (λ (p : Place). p.ident) places → IsNonDecreasingBy (λ (p : Place). p.ident) seen
ascends places seen is up = subst (λ (l : List Place). IsNonDecreasingBy (λ (p : Place). p.ident) l) (sym is) up

-- the first marked place of the slice from an index on
from_slice : (marks seen_marks : List Bool) (places seen : List Place) (s : ℕ) → seen_marks ≡ marks → seen ≡ places
    → first_marked seen_marks (take (length seen - s) (drop s seen)) ≡ first_marked marks (drop s places)
from_slice marks seen_marks places seen s m p =
    ap (first_marked seen_marks) (take_rest seen s) ∙ ap (λ (l : List Bool). first_marked l (drop s seen)) m ∙ ap (λ (l : List Place). first_marked marks (drop s l)) p

-- the nodes of all places have marks
are_marked : (sc : Setup) (places seen : List Place) (marks seen_marks : List Bool) → AreAllPlaces sc places → length marks ≡ node_count sc
    → seen_marks ≡ marks → seen ≡ places → All (λ (p : Place). p.node < length seen_marks) seen
are_marked sc places seen marks seen_marks placed long m p =
    let many : length seen_marks ≡ node_count sc = ap length m ∙ long in
    subst (All (λ (p : Place). p.node < length seen_marks)) (sym p)
    (λ k d low. subst (λ (n : ℕ). (get_or places k d).node < n) (sym many) (placed.each k d low).node)

pub first_marked-requires : goal.first_marked-requires
first_marked-requires c =
    let s = c.partition_point-start.result in
    let seen = c.deref-2.result.now in
    let IsMarked : Place → Type 0 = λ p. p.node < length c.as_slice.result.now in
    All-take IsMarked (length seen - s) (drop s seen) (All-drop IsMarked s seen
    (are_marked c.args.self.now.scenario.now c.args.self.now.places.items seen c.args.self.now.marks.items c.as_slice.result.now c.args.self.now.placed
    c.args.self.now.marked c.as_slice.ensures.value c.deref-2.ensures.value))

pub first_marked-requires-in-None : goal.first_marked-requires-in-None
first_marked-requires-in-None c =
    let seen = c.deref-in-None.result.now in
    All-take (λ (p : Place). p.node < length c.as_slice-in-None.result.now) c.partition_point-start.result seen
    (are_marked c.args.self.now.scenario.now c.args.self.now.places.items seen c.args.self.now.marks.items c.as_slice-in-None.result.now
    c.args.self.now.placed c.args.self.now.marked c.as_slice-in-None.ensures.value c.deref-in-None.ensures.value)

pub returns-in-Some : goal.returns-in-Some
returns-in-Some c = λ member hold.
    let sc = c.args.self.now.scenario.now in let places = c.args.self.now.places.items in let marks = c.args.self.now.marks.items in
    let s = c.partition_point-start.result in let key = c.args.key in
    let point = IsPartitionPoint-from_clause (λ (p : Place). ltb p.ident c.raw-key.result) c.deref.result.now s c.partition_point-start.ensures.partitioned
    (IsPartitionedBy-ltb (λ (p : Place). p.ident) c.deref.result.now c.raw-key.result
    (ascends places c.deref.result.now c.deref.ensures.value c.args.self.now.placed.ascend)) (λ a r q k. search rules) in
    let found : IsSearch sc places marks member key s =
    searched sc places c.deref.result.now marks member key c.raw-key.result s c.recall_range.ensures c.args.self.now.placed hold c.requires
    c.deref.ensures.value c.raw-key.ensures c.partition_point-start.ensures.bound point in
    let ahead : first_marked marks (drop s places) ≡ Some c.in-Some.node =
    sym (c.first_marked.ensures ∙ from_slice marks c.as_slice.result.now places c.deref-2.result.now s c.as_slice.ensures.value c.deref-2.ensures.value) ∙ c.in-Some.is in
    sym (scanned_ahead sc places marks member key s found c.in-Some.node ahead)

pub returns-in-None : goal.returns-in-None
returns-in-None c = λ member hold.
    let sc = c.args.self.now.scenario.now in let places = c.args.self.now.places.items in let marks = c.args.self.now.marks.items in
    let s = c.partition_point-start.result in let key = c.args.key in
    let point = IsPartitionPoint-from_clause (λ (p : Place). ltb p.ident c.raw-key.result) c.deref.result.now s c.partition_point-start.ensures.partitioned
    (IsPartitionedBy-ltb (λ (p : Place). p.ident) c.deref.result.now c.raw-key.result
    (ascends places c.deref.result.now c.deref.ensures.value c.args.self.now.placed.ascend)) (λ a r q k. search rules) in
    let found : IsSearch sc places marks member key s =
    searched sc places c.deref.result.now marks member key c.raw-key.result s c.recall_range.ensures c.args.self.now.placed hold c.requires
    c.deref.ensures.value c.raw-key.ensures c.partition_point-start.ensures.bound point in
    let ahead : first_marked marks (drop s places) ≡ None =
    sym (c.first_marked.ensures ∙ from_slice marks c.as_slice.result.now places c.deref-2.result.now s c.as_slice.ensures.value c.deref-2.ensures.value) ∙ c.in-None.is in
    let behind : c.first_marked-in-None.result ≡ first_marked marks (take s places) =
    c.first_marked-in-None.ensures ∙ ap (λ (l : List Bool). first_marked l (take s c.deref-in-None.result.now)) c.as_slice-in-None.ensures.value
    ∙ ap (λ (l : List Place). first_marked marks (take s l)) c.deref-in-None.ensures.value in
    by_result sc places marks member key s found ahead c.first_marked-in-None.result behind
  where
    by_result : (sc : Setup) (places : List Place) (marks : List Bool) (member : ℕ → Bool) (key s : ℕ) → IsSearch sc places marks member key s → first_marked marks (drop s places) ≡ None
        → (o : Option ℕ) → o ≡ first_marked marks (take s places) → o ≡ right_owner sc member key
    by_result sc places marks member key s found ahead (Some x) e = sym (scanned_behind sc places marks member key s found ahead x (sym e))
    by_result sc places marks member key s found ahead None e = sym (scanned_none sc places marks member key s found ahead (sym e))
