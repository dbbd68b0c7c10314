-- PHOLD can be simulated.
use Rattle.std.proofs.Common.{◌≡◌, ◌≢◌, ℕ, zero, suc, ◌+◌, ◌-◌, ◌/◌, ◌%◌, ◌<◌, ◌≤◌, Bool, true, false, List, [], ◌∷◌, length, get_or, ap, refl, arith}
use Rattle.std.specs.Prelude.{nat_lt, if◌then◌else◌}
use Rattle.std.proofs.Math.Nat.{mod-lt}
use Rattle.std.proofs.lemmas.List.Elements.{All-append, All-from_recursion, All-nil, All-push, All-weaker}
use Rattle.std.proofs.lemmas.List.Quantifiers.{all_pairs_push}
use Rattle.std.specs.List.{All, AllPairs}
use Rattle.des_event.specs.declared.event.Event.{Event}
use Rattle.des_event.specs.declared.key.Key.{Key}
use Rattle.des_event.proofs.Members.{All_at, AllPairs_append, AllPairs_none}
use Rattle.des_machine.specs.Simulable.{IsSimulable}
use Rattle.des_model.specs.Histories.{IsPossible, state}
use Rattle.des_model.specs.WellFormed.{IsWellFormed}
use Rattle.des_model.proofs.Distinct.{counts_bounded}
use Rattle.phold_rules.specs.Range.{IsInRange}
use Rattle.phold_rules.specs.Rules.{all_jobs, job_of, jobs_of, phold, receiver_of, start_of, way_of}
use Rattle.phold_rules.specs.Sound.{HasRoom, IsFit, IsSound}
use Rattle.phold_rules.specs.declared.settings.Settings.{Settings}
use Rattle.phold_rules.specs.declared.rules.Job.{Job}
use Rattle.phold_rules.specs.declared.rules.Node.{Node}

-- an event at the start is one of the first events of its node
record IsStart (node jobs : ℕ) (x : Event Job) : Type 0 where
  pub origin : x.key.origin ≡ 2 + node
  pub most : x.key.number ≤ jobs
  pub target : x.target ≡ node

jobs_start : (p : Settings) (node jobs : ℕ) → All (IsStart node jobs) (jobs_of p node jobs)
jobs_start p node zero = All-nil (IsStart node zero)
jobs_start p node (suc k) = All-push (IsStart node (suc k)) (jobs_of p node k) (start_of p node (k + 1))
    (All-weaker (IsStart node k) (IsStart node (suc k)) (λ x s. record { origin = s.origin; most = omega (arith, s.most); target = s.target })
    (jobs_of p node k) (jobs_start p node k))
    (record { origin = refl; most = omega arith; target = refl })

-- and its node is one of the first nodes
record IsStartOf (p : Settings) (nodes : ℕ) (x : Event Job) : Type 0 where
  pub node : ℕ
  pub below : node < nodes
  pub start : IsStart node p.jobs x

all_start : (p : Settings) (nodes : ℕ) → All (IsStartOf p nodes) (all_jobs p nodes)
all_start p zero = All-nil (IsStartOf p zero)
all_start p (suc n) = All-append (IsStartOf p (suc n)) (all_jobs p n) (jobs_of p n p.jobs)
    (All-weaker (IsStartOf p n) (IsStartOf p (suc n)) (λ x s. record { node = s.node; below = omega (arith, s.below); start = s.start })
    (all_jobs p n) (all_start p n))
    (All-weaker (IsStart n p.jobs) (IsStartOf p (suc n)) (λ x s. record { node = n; below = omega arith; start = s })
    (jobs_of p n p.jobs) (jobs_start p n p.jobs))

abbrev Apart : Event Job → Event Job → Type 0
Apart a b = a.key ≢ b.key

jobs_apart : (p : Settings) (node jobs : ℕ) → AllPairs Apart (jobs_of p node jobs)
jobs_apart p node zero = AllPairs_none Apart
jobs_apart p node (suc k) = all_pairs_push Apart (jobs_of p node k) (start_of p node (k + 1)) (jobs_apart p node k)
    (λ i d l same.
    let number : (get_or (jobs_of p node k) i d).key.number ≡ k + 1 = ap (λ (z : Key). z.number) same in
    omega (arith, (jobs_start p node k i d l).most, number))

starts_apart : (p : Settings) (nodes : ℕ) → AllPairs Apart (all_jobs p nodes)
starts_apart p zero = AllPairs_none Apart
starts_apart p (suc n) = AllPairs_append Apart (all_jobs p n) (jobs_of p n p.jobs) (starts_apart p n) (jobs_apart p n p.jobs)
    (λ x y cx cy same.
    let early = All_at (IsStartOf p n) (all_jobs p n) x (all_start p n) cx in
    let late = All_at (IsStart n p.jobs) (jobs_of p n p.jobs) y (jobs_start p n p.jobs) cy in
    let origin : x.key.origin ≡ y.key.origin = ap (λ (z : Key). z.origin) same in
    omega (arith, early.below, early.start.origin, late.origin, origin))

-- a receiver is a node
received : (p : Settings) → IsInRange p → (node number : ℕ) → node < p.nodes → receiver_of p node number < p.nodes
received p ranges node number l =
    go (nat_lt (way_of p node number / (p.nodes - 1)) p.remote)
  where
    go : (b : Bool) → (if b then (node + 1 + way_of p node number % (p.nodes - 1)) % p.nodes else node) < p.nodes
    go true = let some : zero < p.nodes = omega (arith, ranges.nodes_least) in mod-lt (node + 1 + way_of p node number % (p.nodes - 1)) some
    go false = l

well_formed : (p : Settings) → IsInRange p → IsWellFormed (phold p) (IsSound p) (IsFit p)
well_formed p ranges = record {
  looks_ahead = omega (arith, ranges.lookahead_least);
  starts_sound = λ n l. tt;
  starts_fit = All-weaker (IsStartOf p p.nodes) (IsFit p) (λ x s. omega (arith, s.below, s.start.target)) (all_jobs p p.nodes) (all_start p p.nodes);
  in_range = λ e fit. fit;
  starts_apart = starts_apart p p.nodes;
  starts_counted = λ n. All-weaker (IsStartOf p p.nodes) (λ (x : Event Job). x.key.origin ≡ 2 + n → x.key.number ≤ p.jobs)
      (λ x s origin. s.start.most) (all_jobs p p.nodes) (all_start p p.nodes);
  keeps_sound = λ s e sound fit. tt;
  makes_fit = λ s e sound fit. made s e (IsFit p) (received p ranges e.target (s.made + 1) fit);
  later = λ s e sound fit. made s e (λ (x : Event Job). e.key.time < x.key.time) (omega (arith, ranges.lookahead_least));
  ahead = λ s e sound fit. made s e (λ (x : Event Job). x.target ≢ e.target → e.key.time + p.lookahead ≤ x.key.time) (λ other. omega arith);
  origin = λ s e sound fit. made s e (λ (x : Event Job). x.key.origin ≡ 2 + e.target) refl;
  apart = λ s e sound fit i j d l k. absurd (omega (arith, l, k));
  unused = λ s e sound fit. made s e (λ (x : Event Job). s.made < x.key.number) (omega arith);
  counted = λ s e sound fit. made s e (λ (x : Event Job). x.key.number ≤ s.made + 1) (omega arith);
  counts_up = λ s e sound fit. omega arith;
}
  where
    -- what holds of the one event made holds of all
    made : (s : Node) (e : Event Job) (P : Event Job → Type 0) → P (job_of p e.key.time e.target (s.made + 1)) → All P (job_of p e.key.time e.target (s.made + 1) ∷ [])
    made s e P holds = All-from_recursion P (job_of p e.key.time e.target (s.made + 1) ∷ []) (holds, tt)

room_is_left : (p : Settings) → IsInRange p → (h : List (Event Job)) → IsPossible (phold p) h → length h ≤ p.max_events → (n : ℕ) → n < p.nodes
    → HasRoom (state (phold p) h n)
room_is_left p ranges h possible short n l =
    let made = counts_bounded (phold p) (well_formed p ranges) (λ (s : Node). s.made) 1 (λ s e sound fit. omega arith) h possible n l in
    omega (arith, made, short, ranges.max_events_most, ranges.jobs_most)

pub is_simulable : (p : Settings) → IsInRange p → IsSimulable (phold p) (IsSound p) (IsFit p) HasRoom
is_simulable p ranges = record {
  well_formed = well_formed p ranges;
  room_is_left = room_is_left p ranges;
  few = omega (arith, ranges.max_events_most);
  ascending = tt;
  in_time = All-nil (λ t. t ≤ p.duration);
}
