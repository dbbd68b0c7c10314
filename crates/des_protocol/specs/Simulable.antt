-- A protocol that can be run is a machine that can be simulated.
use Rattle.std.proofs.Common.{◌≡◌, ◌≢◌, ℕ, ◌+◌, ◌*◌, ◌<◌, ◌≤◌, ◌^◌, List, length, refl, arith}
use Rattle.std.proofs.Math.Nat.{mul-le-mul_left}
use Rattle.std.specs.List.{All}
use Rattle.des_event.specs.declared.event.Event.{Event}
use Rattle.des_machine.specs.Simulable.{IsSimulable}
use Rattle.des_model.specs.Histories.{IsPossible, state}
use Rattle.des_model.specs.WellFormed.{IsWellFormed}
use Rattle.des_model.proofs.Distinct.{counts_bounded}
use Rattle.des_protocol.specs.declared.numbered.Counted.{Counted}
use Rattle.des_protocol.specs.declared.telling.Telling.{Telling}
use Rattle.des_protocol.specs.Laws.{IsDelayed, IsFitTelling, IsRunnable}
use Rattle.des_protocol.specs.Numbered.{numbered}
use Rattle.des_protocol.specs.Protocols.{Outcome, Protocol}
use Rattle.des_protocol.specs.Told.{all_told, told_apart}

module _ {State Body Piece : Type 0} (p : Protocol State Body Piece) (Sound : ℕ → State → Type 0) (Fit : ℕ → Body → Type 0) (most : ℕ)
    (is : IsRunnable p Sound Fit most) where
  -- what holds of the state of a node, whatever its count
  abbrev IsSound : ℕ → Counted State → Type 0
  IsSound n s = Sound n s.state

  -- what holds of an event
  abbrev IsFit : Event Body → Type 0
  IsFit e = (e.target < p.nodes) × Fit e.target e.body

  -- what the target of an event makes of it
  abbrev outcome_of : Counted State → Event Body → Outcome State Body Piece
  outcome_of s e = p.outcome s.state e.target e.key.time e.body

  -- what an event makes is told later
  made : (P : Event Body → Type 0) (s : Counted State) (e : Event Body) → Sound e.target s.state → IsFit e
      → ((t : Telling Body) (number : ℕ) → s.made < number → number ≤ s.made + length (outcome_of s e).tellings → IsDelayed p e.target t
      → P (record { key = record { time = e.key.time + t.delay; origin = 2 + e.target; number = number }; target = t.target; body = t.body }))
      → All P ((numbered p).effect s e).events
  made P s e sound fit each = all_told P (IsDelayed p e.target) e.key.time (2 + e.target) s.made (outcome_of s e).tellings each
      (is.tells_later e.target e.key.time s.state e.body fit.0 sound fit.1)

  well_formed : IsWellFormed (numbered p) IsSound IsFit
  well_formed = record {
    looks_ahead = is.looks_ahead;
    starts_sound = λ n l. is.starts_sound n l;
    starts_fit = all_told IsFit (IsFitTelling p Fit) 0 1 0 p.start (λ t number least most fit. fit) is.starts_fit;
    in_range = λ e fit. fit.0;
    starts_apart = told_apart 0 1 0 p.start;
    starts_counted = λ n. all_told (λ (x : Event Body). x.key.origin ≡ 2 + n → x.key.number ≤ 0) (IsFitTelling p Fit) 0 1 0 p.start
        (λ t number least most fit origin. omega (arith, origin)) is.starts_fit;
    keeps_sound = λ s e sound fit. is.keeps_sound e.target e.key.time s.state e.body fit.0 sound fit.1;
    makes_fit = λ s e sound fit. all_told IsFit (IsFitTelling p Fit) e.key.time (2 + e.target) s.made (outcome_of s e).tellings
        (λ t number least most fits. fits) (is.tells_fit e.target e.key.time s.state e.body fit.0 sound fit.1);
    later = λ s e sound fit. made (λ (x : Event Body). e.key.time < x.key.time) s e sound fit (λ t number least most delayed. omega (arith, delayed.later));
    ahead = λ s e sound fit. made (λ (x : Event Body). x.target ≢ e.target → e.key.time + p.lookahead ≤ x.key.time) s e sound fit
        (λ t number least most delayed other. omega (arith, delayed.ahead other));
    origin = λ s e sound fit. made (λ (x : Event Body). x.key.origin ≡ 2 + e.target) s e sound fit (λ t number least most delayed. refl);
    apart = λ s e sound fit. told_apart e.key.time (2 + e.target) s.made (outcome_of s e).tellings;
    unused = λ s e sound fit. made (λ (x : Event Body). s.made < x.key.number) s e sound fit (λ t number least most delayed. least);
    counted = λ s e sound fit. made (λ (x : Event Body). x.key.number ≤ s.made + length (outcome_of s e).tellings) s e sound fit
        (λ t number least most delayed. most);
    counts_up = λ s e sound fit. omega arith;
  }

  room_is_left : (h : List (Event Body)) → IsPossible (numbered p) h → length h ≤ p.max_events → (n : ℕ) → n < p.nodes
      → (state (numbered p) h n).made + most < 2 ^ 64
  room_is_left h possible short n l =
      let count = counts_bounded (numbered p) well_formed (λ (s : Counted State). s.made) most
      (λ s e sound fit. omega (arith, is.tells_few e.target e.key.time s.state e.body fit.0 sound fit.1)) h possible n l in
      let bound : most * length h ≤ most * p.max_events = mul-le-mul_left most short in
      omega (arith, count, bound, is.few_told)

  pub is_simulable : IsSimulable (numbered p) IsSound IsFit (λ (s : Counted State). s.made + most < 2 ^ 64)
  is_simulable = record {
    well_formed = well_formed;
    room_is_left = room_is_left;
    few = is.few;
    ascending = is.ascending;
    in_time = is.in_time;
  }
