-- Whose turn it is, and where the turns lead.
use Rattle.std.proofs.Common.{◌≡◌, ◌≢◌, ℕ, zero, suc, ◌+◌, ◌<◌, ◌≤◌, ◌++◌, Bool, true, false, List, [], ◌∷◌, Option, None, Some, length, map, refl, ap, sym, ◌∙◌, subst, ⊎_elim, arith, append_assoc, ltb-true}
use Rattle.std.specs.Prelude.{nat_lt, ◌&&◌, ◌||◌, is_some, IsSome, if◌then◌else◌}
use Rattle.std.specs.Option.{option_or}
use Rattle.std.proofs.lemmas.Bool.{cases_eq}
use Rattle.std.proofs.lemmas.List.{map-append}
use Rattle.des_event.specs.declared.event.Event.{Event}
use Rattle.des_model.specs.Schedules.{Goes, all_sealed, begun, can_step, lowest, settled, turn}
use Rattle.des_model.specs.Schedules.Goes.{steps}
use Rattle.des_model.specs.Schedules.Run.{Within}
use Rattle.des_model.specs.Windows.{Division, Step, Window, after_step, left_by, next_step, opened, ran_by}
use Rattle.des_model.specs.Windows.Step.{Drew}
use Rattle.des_model.proofs.Turns.{someone_can_step}
use Rattle.des_parts.specs.declared.part_run.Done.{Done}
use Rattle.des_parts.specs.declared.part_run.PartRun.{PartRun}
use Rattle.des_picks.specs.declared.step.Step.{Step as AStep}
use Rattle.des_picks.specs.declared.step.Taken.{Taken}
use Rattle.des_picks.specs.declared.worker.Worker.{Worker}
use Rattle.des_parts.specs.declared.world.World.{World}
use Rattle.des_picks.specs.Picked.{IsHeldBy, IsPartOf, IsPickedWith, Leads, can_go_with, has_part, lowest_by, shown, shown_step, turn_by}
use Rattle.des_picks.proofs.PickedSteps.{slot_there}
use Rattle.des_model.specs.Machine.{Machine}

-- the first that can is the lowest
pub lowest_found : (can : ℕ → Bool) (i n : ℕ) → lowest_by can i ≡ None → can i ≡ true → i < n → lowest_by can n ≡ Some i
lowest_found can i zero none here l = absurd (omega arith)
lowest_found can i (suc n) none here l = ⊎_elim
    (λ s. ap (λ o. option_or o (if can n then Some n else None)) (ap (lowest_by can) (sym s) ∙ none)
    ∙ (ap (λ b. if b then Some n else None) (ap can (sym s) ∙ here) ∙ ap Some (sym s)))
    (λ ne. let differ : i ≢ n = ne in ap (λ o. option_or o (if can n then Some n else None)) (lowest_found can i n none here (omega arith)))
    (cases_eq i n)

-- the lowest is one that can
one_more : (can : ℕ → Bool) (n i : ℕ) → (b : Bool) → can n ≡ b → (if b then Some n else None) ≡ Some i → (i < suc n) × (can i ≡ true)
one_more can n i true t e = let same : n ≡ i = cc in (omega (arith, same), ap can (sym same) ∙ t)
one_more can n i false t e = absurd cc

or_more : (can : ℕ → Bool) (n i : ℕ) (o : Option ℕ) → (o ≡ Some i → (i < n) × (can i ≡ true)) → option_or o (if can n then Some n else None) ≡ Some i
    → (i < suc n) × (can i ≡ true)
or_more can n i None below e = one_more can n i (can n) refl e
or_more can n i (Some j) below e = let r = below e in (omega (arith, r.0), r.1)

pub lowest_is : (can : ℕ → Bool) (n i : ℕ) → lowest_by can n ≡ Some i → (i < n) × (can i ≡ true)
lowest_is can zero i e = absurd cc
lowest_is can (suc n) i e = or_more can n i (lowest_by can n) (λ s. lowest_is can n i s) e

-- if there is none, none can
not_last : (can : ℕ → Bool) (n : ℕ) (b : Bool) → can n ≡ b → (if b then Some n else None) ≡ None → can n ≡ false
not_last can n true t e = absurd cc
not_last can n false t e = t

or_none : (can : ℕ → Bool) (n i : ℕ) (o : Option ℕ) → (o ≡ None → i < n → can i ≡ false) → option_or o (if can n then Some n else None) ≡ None
    → i < suc n → can i ≡ false
or_none can n i None below e l = ⊎_elim (λ same. ap can same ∙ not_last can n (can n) refl e)
    (λ ne. let differ : i ≢ n = ne in below refl (omega (arith, l))) (cases_eq i n)
or_none can n i (Some j) below e l = absurd cc

pub lowest_none : (can : ℕ → Bool) (n : ℕ) → lowest_by can n ≡ None → (i : ℕ) → i < n → can i ≡ false
lowest_none can zero none i l = absurd (omega arith)
lowest_none can (suc n) none i l = or_none can n i (lowest_by can n) (λ s k. lowest_none can n s i k) none l

module _ {Body : Type 0} where
  -- one part that is not done
  unsealed : (w : Window Body) (n p : ℕ) → p < n → (w.part p).sealed ≡ false → all_sealed w n ≡ false
  unsealed w zero p l undone = absurd (omega arith)
  unsealed w (suc n) p l undone = ⊎_elim
      (λ s. ap (λ b. b && all_sealed w n) (ap (λ q. (w.part q).sealed) (sym s) ∙ undone))
      (λ ne. let differ : p ≢ n = ne in ap (λ b. (w.part n).sealed && b) (unsealed w n p (omega arith) undone) ∙ and_false (w.part n).sealed)
      (cases_eq p n)
    where
      and_false : (b : Bool) → (b && false) ≡ false
      and_false true = refl
      and_false false = refl

module _ {State Body Piece : Type 0} (m : Machine State Body Piece) (Known : Piece → Type 0) (world : World State Body) (horizon drawn : ℕ)
    (ws : List (Worker State Body Piece)) (ds : List (Option (Done State Body Piece))) (w : Window Body)
    (picked : IsPickedWith m Known world horizon drawn ws ds w) where
  -- a worker can go if it can take a step of the window machine
  pub same_can : (i : ℕ) → i < length ws → can_step m world.division w i ≡ can_go_with drawn ws ds i
  same_can i l =
      let x = slot_there ws i l in
      go x.0 x.0.run (picked.workers_are i x.0 x.1) ∙ ap (λ o. has_part o || nat_lt drawn (length ds)) (sym x.1)
    where
      some_if : (b : Bool) → is_some {T = Step Body} (if b then Some (Drew w.drawn) else None) ≡ b
      some_if true = refl
      some_if false = refl

      go : (x : Worker State Body Piece) (o : Option (PartRun State Body Piece)) → IsHeldBy m Known world horizon drawn w i x o
          → can_step m world.division w i ≡ (is_some o || nat_lt drawn (length ds))
      go x None h = ap (λ z. is_some (next_step m world.division w z)) h.1 ∙ some_if (nat_lt w.drawn world.division.parts)
          ∙ ap (λ n. nat_lt n world.division.parts) picked.drawn_is ∙ ap (nat_lt drawn) (sym picked.slots)
      go x (Some r) h = ap (λ z. is_some (next_step m world.division w z)) h.1

  same_lowest : (n : ℕ) → n ≤ length ws → lowest m world.division w n ≡ lowest_by (can_go_with drawn ws ds) n
  same_lowest zero l = refl
  same_lowest (suc n) l = ap (λ b. option_or (lowest m world.division w n) (if b then Some n else None)) (same_can n (omega arith))
      ∙ ap (λ o. option_or o (if can_go_with drawn ws ds n then Some n else None)) (same_lowest n (omega arith))

  pub same_turn : (picks : List ℕ) → turn m (length ws) world.division w picks ≡ turn_by (can_go_with drawn ws ds) (length ws) picks
  same_turn [] = ap (λ o. (o, [])) (same_lowest (length ws) (omega arith))
  same_turn (i ∷ picks) = go (nat_lt i (length ws)) refl (same_turn picks)
    where
      go : (b : Bool) → nat_lt i (length ws) ≡ b → turn m (length ws) world.division w picks ≡ turn_by (can_go_with drawn ws ds) (length ws) picks
          → (if b && can_step m world.division w i then (Some i, picks) else turn m (length ws) world.division w picks)
          ≡ (if b && can_go_with drawn ws ds i then (Some i, picks) else turn_by (can_go_with drawn ws ds) (length ws) picks)
      go false t rest = rest
      go true t rest = ap (λ b. if b then (Some i, picks) else turn m (length ws) world.division w picks) (same_can i (ltb-true i (length ws) t))
          ∙ ap (λ r. if can_go_with drawn ws ds i then (Some i, picks) else r) rest

  -- as long as a worker can go, the window is not closed
  pub not_closed : (i : ℕ) → i < length ws → can_go_with drawn ws ds i ≡ true → all_sealed w world.division.parts ≡ false
  not_closed i l can = let x = slot_there ws i l in go x.0 x.0.run (picked.workers_are i x.0 x.1)
      (ap (λ o. has_part o || nat_lt drawn (length ds)) (sym x.1) ∙ can)
    where
      open_slot : (p : ℕ) → drawn ≤ p → (o : Option (Done State Body Piece)) → IsPartOf m Known world horizon drawn w p o → (w.part p).sealed ≡ false
      open_slot p late None h = h.0
      open_slot p late (Some done) h = absurd (omega (arith, late, h.1))

      go : (x : Worker State Body Piece) (o : Option (PartRun State Body Piece)) → IsHeldBy m Known world horizon drawn w i x o
          → (is_some o || nat_lt drawn (length ds)) ≡ true
          → all_sealed w world.division.parts ≡ false
      go x None h t =
          let inside : drawn < length ds = ltb-true drawn (length ds) t in
          let slot = slot_there ds drawn inside in
          unsealed w world.division.parts drawn (omega (arith, inside, picked.slots))
          (open_slot drawn (omega arith) slot.0 (picked.parts_are drawn slot.0 slot.1))
      go x (Some r) h t = unsealed w world.division.parts r.part (omega (arith, h.0.part, picked.few)) (ap (λ z. z.sealed) h.2)

  pub within : (i number : ℕ) → i < length ws → can_go_with drawn ws ds i ≡ true → settled m (λ _. world.division) number w ≡ Within number w
  within i number l can = ap (λ b. if b then begun m (number + 1) (left_by world.division w.history (ran_by w)) else Within number w)
      (not_closed i l can)

  -- one step more
  pub leads_on : (from : Window Body) (picks rest rest' : List ℕ) (taken : List (ℕ × Step Body)) (i : ℕ) (step : Step Body)
      → Leads m world.division (length ws) from picks taken (λ number. settled m (λ _. world.division) number w) rest
      → i < length ws → can_go_with drawn ws ds i ≡ true → turn_by (can_go_with drawn ws ds) (length ws) rest ≡ (Some i, rest')
      → next_step m world.division w (w.held i) ≡ Some step
      → Leads m world.division (length ws) from picks (taken ++ (i, step) ∷ [])
      (λ number. settled m (λ _. world.division) number (after_step w i step)) rest'
  leads_on from picks rest rest' taken i step led l can turned next number more h goes =
      subst (λ s. Goes m (λ _. world.division) (length ws) (Within number from) picks s h) (sym (append_assoc taken ((i, step) ∷ []) more))
      (led number ((i, step) ∷ more) h (subst (λ r. Goes m (λ _. world.division) (length ws) r rest ((i, step) ∷ more) h)
      (sym (within i number l can)) (steps (same_turn rest ∙ turned) next goes)))

  -- if no worker can go, all parts are done
  pub all_done : 0 < length ws → lowest_by (can_go_with drawn ws ds) (length ws) ≡ None → all_sealed w world.division.parts ≡ true
  all_done some none = go (all_sealed w world.division.parts) refl
    where
      none_is_some : (o : Option ℕ) → o ≡ None → IsSome o → ⊥
      none_is_some None e s = absurd cc
      none_is_some (Some i) e s = absurd cc

      go : (b : Bool) → all_sealed w world.division.parts ≡ b → all_sealed w world.division.parts ≡ true
      go true t = t
      go false t = absurd (none_is_some (lowest m world.division w (length ws)) (same_lowest (length ws) (omega arith) ∙ none)
          (someone_can_step m world.division (length ws) w some picked.held t))

module _ {State Body Piece : Type 0} where
  -- a window begins before its first step
  pub begins : (m : Machine State Body Piece) (d : Division) (workers : ℕ) (h : List (Event Body)) (horizon : ℕ) (picks : List ℕ) → 0 < d.parts
      → (number : ℕ) (more : List (ℕ × Step Body)) (g : List (Event Body))
      → Goes m (λ _. d) workers (settled m (λ _. d) number (opened h horizon)) picks more g
      → Goes m (λ _. d) workers (Within number (opened h horizon)) picks ([] ++ more) g
  begins m d workers h horizon picks some number more g goes =
      subst (λ r. Goes m (λ _. d) workers r picks more g)
      (ap (λ b. if b then begun m (number + 1) (left_by d (opened h horizon).history (ran_by (opened h horizon))) else Within number
      (opened h horizon)) (unsealed (opened h horizon) d.parts 0 some refl)) goes

module _ {Body : Type 0} where
  -- the result of one step more
  pub told_more : (before now : List Taken) (taken : List (ℕ × Step Body)) (worker : ℕ) (step : Step Body) (answered : AStep)
      → now ≡ before ++ map shown taken → shown_step step ≡ answered
      → now ++ record { worker = worker; step = answered } ∷ [] ≡ before ++ map shown (taken ++ (worker, step) ∷ [])
  told_more before now taken worker step answered told is =
      ap (λ l. l ++ record { worker = worker; step = answered } ∷ []) told
      ∙ append_assoc before (map shown taken) (record { worker = worker; step = answered } ∷ [])
      ∙ ap (λ l. before ++ l) (ap (λ a. map shown taken ++ record { worker = worker; step = a } ∷ []) (sym is)
      ∙ sym (map-append shown taken ((worker, step) ∷ [])))
