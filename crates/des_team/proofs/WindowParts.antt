-- What the parts have after a window, once they have their mail.
use Rattle.std.proofs.Common.{◌≡◌, ◌≢◌, ◌∙◌, ◌↔◌, ◌⊎◌, ⊎_elim, inl, inr, ℕ, suc, ◌<◌, List, [], ◌∷◌, ◌++◌, length, map, get_or, ap, sym, subst, arith}
use Rattle.std.proofs.lemmas.List.{get_or-map, length-map}
use Rattle.std.specs.List.{Contains}
use Rattle.des_event.specs.declared.event.Event.{Event}
use Rattle.des_event.proofs.Members.{All_at, AllPairs_append, AllPairs_front, AllPairs_none, contains_append, contains_left, contains_none, contains_right}
use Rattle.des_model.specs.Histories.{IsPossible, all_events, effect_after, pending, state}
use Rattle.des_model.specs.Laws.{Commutes}
use Rattle.des_model.specs.Windows.{part_of, made_since}
use Rattle.des_model.proofs.Commuting.{node_in_range}
use Rattle.des_model.proofs.Distinct.{meets}
use Rattle.des_model.proofs.Made.{known_from_since}
use Rattle.des_model.proofs.Pending.{waits_from}
use Rattle.des_model.proofs.Runs.{possible_from_legal}
use Rattle.des_model.proofs.WindowCourse.{possible_run, since_apart, since_fresh}
use Rattle.des_machine.specs.Simulable.{IsSimulable}
use Rattle.des_team.specs.Chronicles.{Chronicle}
use Rattle.des_team.specs.declared.layout.Layout.{Layout}
use Rattle.des_team.specs.declared.part.Done.{Done}
use Rattle.des_team.specs.declared.part.OwnedPart.{OwnedPart}
use Rattle.des_team.specs.declared.team.Team.{Team}
use Rattle.des_team.specs.Orders.{AreResults, HaveNoFault}
use Rattle.des_team.specs.Mail.{all_of}
use Rattle.des_team.specs.Owned.{AreApart, IsOwned, share_of}
use Rattle.des_team.specs.Teams.{CanSend}
use Rattle.des_team.proofs.PartLists.{listed_at, listed_from, listed_in}
use Rattle.des_team.proofs.TeamMail.{or_same}
use Rattle.des_team.proofs.WindowRuns.{IsRunOf, commuted, events_at, may, past, ran, run_at, sealed, w}
use Rattle.des_team.proofs.WindowShares.{share_same}

module _ {M State Body Piece S : Type 0} where
  -- what a result has for a part
  abbrev pub sent_to_part : (part : ℕ) → Done M S State Body Piece → List (Event Body)
  sent_to_part part f = get_or f.parcel.part.value.outbox part []

  -- what the results have for a part, each one list
  abbrev pub sent_by : List (Done M S State Body Piece) → (part : ℕ) → List (List (Event Body))
  sent_by fs part = map (sent_to_part part) fs

module _ {Body : Type 0} where
  -- no two events have one key, if that is so in each list and for each two lists
  pub apart_in_all : (lists : List (List (Event Body)))
      → ((q : ℕ) (v : List (Event Body)) → q < length lists → AreApart (get_or lists q v))
      → ((q r : ℕ) (v : List (Event Body)) (x y : Event Body) → q < r → r < length lists → Contains (get_or lists q v) x
      → Contains (get_or lists r v) y → x.key ≢ y.key) → AreApart (all_of lists)
  apart_in_all [] each cross = AllPairs_none (λ (a b : Event Body). a.key ≢ b.key)
  apart_in_all (l ∷ lists) each cross = AllPairs_append (λ (a b : Event Body). a.key ≢ b.key) l (all_of lists) (each 0 l (omega arith))
      (apart_in_all lists (λ q v k. each (suc q) v (omega (arith, k)))
      (λ q r v x y a b c d. cross (suc q) (suc r) v x y (omega (arith, a)) (omega (arith, b)) c d))
      (λ x y c d. let k = listed_from lists y d in cross 0 (suc k.place) l x y (omega arith) (omega (arith, k.inside)) c (listed_at lists y k l))

module _ {State Body Piece S : Type 0} where
  -- an event that is known was made since, or known before
  known_either : (ch : Chronicle State Body Piece S) (h g : List (Event Body)) (x : Event Body) → Contains (all_events ch.machine (g ++ h)) x
      → Contains (made_since ch.machine h g) x ⊎ Contains (all_events ch.machine h) x
  known_either ch h [] x c = inr c
  known_either ch h (e ∷ g) x c = ⊎_elim
      (λ k. inl (contains_left (effect_after ch.machine (g ++ h) e).events (made_since ch.machine h g) x k))
      (λ k. ⊎_elim (λ m. inl (contains_right (effect_after ch.machine (g ++ h) e).events (made_since ch.machine h g) x m)) (λ b. inr b)
      (known_either ch h g x k))
      (contains_append (effect_after ch.machine (g ++ h) e).events (all_events ch.machine (g ++ h)) x c)

module _ {M State Body Piece S : Type 0} (ch : Chronicle State Body Piece S) {Sound : ℕ → State → Type 0} {Fit : Event Body → Type 0} {Room : State
    → Type 0} (ok : IsSimulable ch.machine Sound Fit Room) (l : Layout) (t : Team M S State Body Piece) (can : CanSend ch l t)
    (fs : List (Done M S State Body Piece))
    (results : AreResults ch l t.count t.window.horizon fs) (none : HaveNoFault fs) where
  abbrev pub lists : ℕ → List (Event Body)
  lists q = ran ch ok l t can fs results none q

  abbrev before : List (Event Body)
  before = past ch ok l t can fs results none

  abbrev pub course : Commutes ch.machine l.division before t.window.horizon lists
  course = commuted ch ok l t can fs results none

  -- the history after the window
  abbrev pub after_window : List (Event Body)
  after_window = course.taken ++ before

  abbrev pub result_of : (q : ℕ) (f : Done M S State Body Piece) → q < l.division.parts
      → IsRunOf ch l t.count t.window.horizon q (events_at fs q) (get_or fs q f)
  result_of q f lt = run_at ch ok l t can fs results none q f lt

  possible : (q : ℕ) → q < l.division.parts → IsPossible ch.machine (lists q ++ before)
  possible q lt = possible_run ch.machine (w ch ok l t can fs results none) l.division can.layout.divides t.count t.window.time t.window.horizon
      (may ch ok l t can fs results none) q (lists q) (sealed ch ok l t can fs results none q lt).runs

  known_target : (q : ℕ) → q < l.division.parts → (x : Event Body) → Contains (all_events ch.machine (lists q ++ before)) x → x.target < ch.machine.nodes
  known_target q lt x c =
      (w ch ok l t can fs results none).in_range x (All_at Fit (all_events ch.machine (lists q ++ before)) x
      (meets ch.machine (w ch ok l t can fs results none) (lists q ++ before) (possible q lt)).fit c)

  waiting_target : (q : ℕ) → q < l.division.parts → (x : Event Body) → Contains (pending ch.machine (lists q ++ before)) x → x.target < ch.machine.nodes
  waiting_target q lt x c = known_target q lt x (waits_from ch.machine (lists q ++ before) x c).known

  made_target : (q : ℕ) → q < l.division.parts → (x : Event Body) → Contains (made_since ch.machine before (lists q)) x → x.target < ch.machine.nodes
  made_target q lt x c = known_target q lt x (known_from_since ch.machine before (lists q) x c)

  -- what waits at a part after its run is pending
  pub waits_here : (q : ℕ) → q < l.division.parts → (x : Event Body) → Contains (pending ch.machine (lists q ++ before)) x
      → part_of l.division x.target ≡ q → Contains (pending ch.machine after_window) x
  waits_here q lt x c is = (course.waits x (waiting_target q lt x c)).1
      (inl (subst (λ p. Contains (pending ch.machine (lists p ++ before)) x) (sym is) c))

  -- and what another part made for it
  pub made_there : (q p : ℕ) → q < l.division.parts → (x : Event Body) → Contains (made_since ch.machine before (lists q)) x
      → part_of l.division x.target ≡ p → p ≢ q → Contains (pending ch.machine after_window) x
  made_there q p lt x c is ne = (course.waits x (made_target q lt x c)).1 (inr (q, lt, (λ e. ne (sym is ∙ sym e)), c))

  -- and nothing else
  pub where_pending : (x : Event Body) → x.target < ch.machine.nodes → Contains (pending ch.machine after_window) x
      → Contains (pending ch.machine (lists (part_of l.division x.target) ++ before)) x
      ⊎ ((q : ℕ) × (q < l.division.parts) × (q ≢ part_of l.division x.target) × Contains (made_since ch.machine before (lists q)) x)
  where_pending x lt c = (course.waits x lt).0 c

  fresh : (p q : ℕ) → p < l.division.parts → q < l.division.parts → p ≢ q → (x y : Event Body) → Contains (all_events ch.machine (lists p ++ before)) x
      → Contains (made_since ch.machine before (lists q)) y → x.key ≢ y.key
  fresh p q a b ne x y c k e = ⊎_elim
      (λ m. since_apart ch.machine (w ch ok l t can fs results none) l.division can.layout.divides t.count t.window.time t.window.horizon
      (may ch ok l t can fs results none) p q (lists p) (lists q) (sealed ch ok l t can fs results none p a).runs
      (sealed ch ok l t can fs results none q b).runs ne x y m k e)
      (λ o. since_fresh ch.machine (w ch ok l t can fs results none) l.division can.layout.divides t.count t.window.time t.window.horizon
      (may ch ok l t can fs results none) (lists q) (possible q b) x y o k e)
      (known_either ch before (lists p) x c)

  pub pending_target : (x : Event Body) → Contains (pending ch.machine after_window) x → x.target < ch.machine.nodes
  pending_target x c = (w ch ok l t can fs results none).in_range x (All_at Fit (all_events ch.machine after_window) x
      (meets ch.machine (w ch ok l t can fs results none) after_window (possible_from_legal ch.machine after_window course.legal)).fit
      (waits_from ch.machine after_window x c).known)

  pub pending_part : (x : Event Body) → Contains (pending ch.machine after_window) x → part_of l.division x.target < l.division.parts
  pending_part x c = node_in_range ch.machine (w ch ok l t can fs results none) l.division can.layout.divides x.target (pending_target x c)

  -- a part with its mail
  module _ (p : ℕ) (inside : p < l.division.parts) (f : Done M S State Body Piece) (inbox : List (Event Body)) (outbox : List (List (Event Body)))
      (out_long : length outbox ≡ l.division.parts) (received : inbox ≡ all_of (sent_by fs p)) where
    abbrev mail : List (List (Event Body))
    mail = sent_by fs p

    in_long : length mail ≡ l.division.parts
    in_long = length-map fs (sent_to_part p) ∙ results.long

    got : (q : ℕ) (v : List (Event Body)) → q < l.division.parts → get_or mail q v ≡ get_or (get_or fs q f).parcel.part.value.outbox p v
    got q v lt = get_or-map (sent_to_part p) fs q f v (omega (arith, lt, results.long))
        ∙ or_same (get_or fs q f).parcel.part.value.outbox p [] v (omega (arith, inside, (result_of q f lt).owned.out_long))

    abbrev part : OwnedPart M S State Body Piece
    part = (get_or fs p f).parcel.part.value

    abbrev run : IsRunOf ch l t.count t.window.horizon p (events_at fs p) (get_or fs p f)
    run = result_of p f inside

    any : List (Event Body)
    any = []

    -- an event of a list that has come
    has_come : (q : ℕ) (v : List (Event Body)) → q < l.division.parts → (x : Event Body) → Contains (get_or mail q v) x
        → Contains (made_since ch.machine before (lists q)) x × (part_of l.division x.target ≡ p) × (p ≢ q)
    has_come q v lt x c = ((result_of q f lt).sent p v x inside).0 (subst (λ es. Contains es x) (got q v lt) c)

    there : (x : Event Body) → Contains (part.pending ++ all_of mail) x
        → Contains (pending ch.machine after_window) x × (part_of l.division x.target ≡ part.part)
    there x c = ⊎_elim
        (λ k.
        let f = (run.owned.same x).0 (contains_left part.pending part.inbox x k) in
        (waits_here p inside x f.0 (f.1 ∙ run.part_is), f.1))
        (λ k.
        let at = listed_from mail x k in
        let lt : at.place < l.division.parts = omega (arith, at.inside, in_long) in
        let f = has_come at.place any lt x (listed_at mail x at any) in
        (made_there at.place p lt x f.0 f.1 f.2, f.1 ∙ sym run.part_is))
        (contains_append part.pending (all_of mail) x c)

    back : (x : Event Body) → x.target < ch.machine.nodes → Contains (pending ch.machine after_window) x → part_of l.division x.target ≡ part.part
        → Contains (part.pending ++ all_of mail) x
    back x lt c is =
        let here : part_of l.division x.target ≡ p = is ∙ run.part_is in
        ⊎_elim
        (λ k. ⊎_elim
        (λ m. contains_left part.pending (all_of mail) x m)
        (λ m. absurd (contains_none x (subst (λ es. Contains es x) run.taken_in m)))
        (contains_append part.pending part.inbox x
        ((run.owned.same x).1 (subst (λ q. Contains (pending ch.machine (lists q ++ before)) x) here k, is))))
        (λ k. contains_right part.pending (all_of mail) x (listed_in mail k.0 any x (omega (arith, k.1, in_long))
        (subst (λ es. Contains es x) (sym (got k.0 any k.1)) (((result_of k.0 f k.1).sent p any x inside).1 (k.3, here, (λ e. k.2 (sym e ∙ sym here)))))))
        (where_pending x lt c)

    apart : AreApart (part.pending ++ all_of mail)
    apart = AllPairs_append (λ (a b : Event Body). a.key ≢ b.key) part.pending (all_of mail)
        (AllPairs_front (λ (a b : Event Body). a.key ≢ b.key) part.pending part.inbox run.owned.apart)
        (apart_in_all mail
        (λ q v lt. let k : q < l.division.parts = omega (arith, lt, in_long) in subst AreApart (sym (got q v k)) ((result_of q f k).sent_apart p v inside))
        (λ q r v x y a b c d.
        let lt : r < l.division.parts = omega (arith, b, in_long) in
        let less : q < l.division.parts = omega (arith, a, lt) in
        fresh q r less lt (λ e. omega (arith, e, a)) x y (known_from_since ch.machine before (lists q) x (has_come q v less x c).0) (has_come r v lt y d).0))
        (λ x y c d.
        let at = listed_from mail y d in
        let lt : at.place < l.division.parts = omega (arith, at.inside, in_long) in
        let g = has_come at.place any lt y (listed_at mail y at any) in
        fresh p at.place inside lt g.2 x y
        (waits_from ch.machine (lists p ++ before) x ((run.owned.same x).0 (contains_left part.pending part.inbox x c)).0).known g.0)

    pub owned_with_mail : IsOwned ch l after_window (record (get_or fs p f).parcel.part.value { inbox = inbox; outbox = outbox })
    owned_with_mail = record {
      inside = run.owned.inside;
      places = run.owned.places;
      states_are = λ i s lt is. run.owned.states_are i s lt is
          ∙ ap (λ q. state ch.machine (lists q ++ before) i) (sym (is ∙ run.part_is)) ∙ course.states i lt;
      same = λ x. subst (λ es. Contains (part.pending ++ es) x ↔ (Contains (pending ch.machine after_window) x × (part_of l.division x.target ≡ part.part)))
          (sym received) (there x, λ c. back x (pending_target x c.0) c.0 c.1);
      apart = subst (λ es. AreApart (part.pending ++ es)) (sym received) apart;
      out_long = out_long;
      none_made = run.owned.none_made;
      counted = subst (λ ps. ch.HasCounted ps part.scribe)
          (subst (λ q. share_of ch.machine l.division q (lists p ++ before) ≡ share_of ch.machine l.division q after_window) (sym run.part_is)
          (share_same ch.machine l.division p before (lists p) course.taken (course.pieces p inside))) run.owned.counted;
    }
