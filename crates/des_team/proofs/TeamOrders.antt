-- A part is taken out for a window.
use Rattle.std.proofs.Common.{◌+◌, ◌≤◌, inl, inr, ◌≡◌, ◌∙◌, ℕ, ◌<◌, List, Option, None, Some, Vec, length, get_or, set, refl, ap, sym, subst, ⊎_elim, arith, get_or-set_same, get_or-set_other}
use Rattle.std.proofs.lemmas.Bool.{cases_eq}
use Rattle.std.proofs.lemmas.List.{length-set}
use Rattle.std.specs.Global.{Global}
use Rattle.std.specs.Prelude.{IfSome}
use Rattle.des_event.specs.declared.event.Event.{Event}
use Rattle.des_model.specs.Histories.{history}
use Rattle.des_team.specs.Chronicles.{Chronicle}
use Rattle.des_team.specs.declared.layout.Layout.{Layout}
use Rattle.des_team.specs.declared.part.Parcel.{Parcel}
use Rattle.des_team.specs.declared.team.Team.{Team}
use Rattle.des_team.specs.Orders.{IsOrderOf}
use Rattle.des_team.specs.declared.part.OwnedPart.{OwnedPart}
use Rattle.des_team.specs.Exchanges.{HasOnlyOutput, IsAlikeOrCleared}
use Rattle.des_team.specs.Owned.{HasSentAll, IsOwned}
use Rattle.des_team.specs.Teams.{AreHere, CanSend, IsHere}
use Rattle.des_team.proofs.TeamMail.{or_same}

module _ {M State Body Piece S : Type 0} where
  pub order_of : (ch : Chronicle State Body Piece S) (l : Layout) (t : Team M S State Body Piece) (part : ℕ) (taken : Parcel M S State Body Piece)
      (a : Option (Parcel M S State Body Piece)) → CanSend ch l t → part < length t.parcels.items
      → a ≡ get_or t.parcels.items part a → Some taken ≡ a
      → IsOrderOf ch l part t.count t.window.horizon (record { count = t.count; horizon = t.window.horizon; part = taken.part; output = taken.output })
  order_of ch l t part taken a can inside is found = record {
    part_is = here.part_is;
    count_is = refl;
    horizon_is = refl;
    order = record {
      layout = can.layout;
      within = can.within;
      long = can.long;
      opens = (t.window.time, can.opens);
      owned = here.owned;
      none_sent = here.none_sent;
      no_text = here.no_text;
    };
  }
    where
      here : IsHere ch l (history ch.machine t.count) part taken
      here = subst (λ z. IfSome z (IsHere ch l (history ch.machine t.count) part))
          (or_same t.parcels.items part None a inside ∙ sym is ∙ sym found)
          (can.here part (omega (arith, inside, can.parcels_long)))

  pub still_can_send : (ch : Chronicle State Body Piece S) (l : Layout) (t : Team M S State Body Piece) (part : ℕ) (d : Option (Parcel M S State Body Piece))
      (v : Vec (Option (Parcel M S State Body Piece)) Global) → CanSend ch l t
      → part < length t.parcels.items → v.items ≡ set t.parcels.items part d → d ≡ None → CanSend ch l (record t { parcels = v })
  still_can_send ch l t part d v can inside is none = record {
    layout = can.layout;
    within = can.within;
    long = can.long;
    opens = can.opens;
    parcels_long = ap length is ∙ length-set t.parcels.items part d ∙ can.parcels_long;
    here = λ p k. subst (λ z. IfSome (get_or z p None) (IsHere ch l (history ch.machine t.count) p)) (sym is) (⊎_elim
        (λ e. subst (λ z. IfSome z (IsHere ch l (history ch.machine t.count) p))
        (sym (ap (λ q. get_or (set t.parcels.items part d) q None) e ∙ get_or-set_same t.parcels.items part d None inside ∙ none)) tt)
        (λ ne. subst (λ z. IfSome z (IsHere ch l (history ch.machine t.count) p)) (sym (get_or-set_other t.parcels.items part p d None ne)) (can.here p k))
        (cases_eq p part));
  }

  -- the texts of the first n places were cleared
  pub record AreCleared (n : ℕ) (old new : List (Option (Parcel M S State Body Piece))) : Type 0 where
    pub later : (p : ℕ) → n ≤ p → get_or new p None ≡ get_or old p None
    pub each : (p : ℕ) → IsAlikeOrCleared (get_or old p None) (get_or new p None)

  pub cleared_none : (xs : List (Option (Parcel M S State Body Piece))) → AreCleared 0 xs xs
  cleared_none xs = record { later = λ p k. refl; each = λ p. inl refl }

  pub cleared_one : (n : ℕ) (old new : List (Option (Parcel M S State Body Piece))) (a s : Option (Parcel M S State Body Piece)) → a ≡ get_or new n a
      → n < length new → HasOnlyOutput a s → AreCleared n old new → AreCleared (n + 1) old (set new n s)
  cleared_one n old new a s is inside only h = record {
    later = λ p k. get_or-set_other new n p s None (λ e. omega (arith, e, k)) ∙ h.later p (omega (arith, k));
    each = λ p. ⊎_elim
        (λ e. subst (λ q. IsAlikeOrCleared (get_or old q None) (get_or (set new n s) q None)) (sym e)
        (inr (subst (λ z. HasOnlyOutput z (get_or (set new n s) n None)) (is ∙ or_same new n a None inside ∙ h.later n (omega arith))
        (subst (λ z. HasOnlyOutput a z) (sym (get_or-set_same new n s None inside)) only))))
        (λ ne. subst (λ z. IsAlikeOrCleared (get_or old p None) z) (sym (get_or-set_other new n p s None ne)) (h.each p))
        (cases_eq p n);
  }

  -- the parts are still here
  pub cleared_here : (ch : Chronicle State Body Piece S) (l : Layout) (h : List (Event Body)) (old new : List (Option (Parcel M S State Body Piece)))
      → ((p : ℕ) → IsAlikeOrCleared (get_or old p None) (get_or new p None)) → AreHere ch l h old → AreHere ch l h new
  cleared_here ch l h old new each here p k =
      let r = here p k in ⊎_elim
      (λ same. (r.0, same ∙ r.1, r.2))
      (λ only.
      let q = subst (λ z. HasOnlyOutput z (get_or new p None)) r.1 only in (
        q.0,
        q.1,
        record {
          part_is = ap (λ (z : OwnedPart M S State Body Piece). z.part) q.2 ∙ r.2.part_is;
          owned = subst (λ z. IsOwned ch l h z) (sym q.2) r.2.owned;
          none_sent = subst (λ z. HasSentAll z) (sym q.2) r.2.none_sent;
          no_text = q.3;
        },
      ))
      (each p)
