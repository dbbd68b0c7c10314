-- The window that the next event opens.
use Rattle.std.proofs.Common.{◌≡◌, List, Option, None, Some, option_map, ap, refl, sym}
use Rattle.std.proofs.lemmas.Option.{none-some}
use Rattle.des_event.specs.declared.event.Event.{Event}
use Rattle.des_model.specs.Histories.{next}
use Rattle.des_model.specs.Machine.{Machine}
use Rattle.des_model.specs.Schedules.{horizon_from}
use Rattle.des_window.specs.declared.opening.Opening.{Opening}
use Rattle.des_window.specs.Openings.{opening_after}

value : Opening → Option Opening → Opening
value d None = d
value d (Some z) = z

module _ {State Body Piece : Type 0} (m : Machine State Body Piece) (h : List (Event Body)) where
  -- the event that opens the window
  pub record OpensWith (o : Opening) : Type 0 where
    pub event : Event Body
    pub next_is : next m h ≡ Some event
    pub time_is : o.time ≡ event.key.time
    pub horizon_is : o.horizon ≡ horizon_from m event.key.time

  pub opens_with : (o : Opening) → opening_after m h ≡ Some o → OpensWith o
  unfolding value
  opens_with o is = go (next m h) refl is
    where
      go : (n : Option (Event Body)) → next m h ≡ n → option_map (λ (e : Event Body). record {
        time = e.key.time;
        horizon = horizon_from m e.key.time;
      }) n ≡ Some o → OpensWith o
      go None s t = absurd (none-some o t)
      go (Some e) s t = record {
        event = e;
        next_is = s;
        time_is = ap (λ (z : Opening). z.time) (sym (ap (value o) t));
        horizon_is = ap (λ (z : Opening). z.horizon) (sym (ap (value o) t));
      }

  -- if no window opens, no event may follow
  pub opens_none : opening_after m h ≡ None → next m h ≡ None
  opens_none is = go (next m h) is
    where
      go : (n : Option (Event Body)) → option_map {U = Opening} (λ (e : Event Body). record {
        time = e.key.time;
        horizon = horizon_from m e.key.time;
      }) n ≡ None → n ≡ None
      go None t = refl
      go (Some e) t = absurd (none-some _ (sym t))
