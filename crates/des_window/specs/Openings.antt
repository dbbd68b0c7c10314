-- When windows open.
use Rattle.std.specs.Prelude.{ℕ, min, nat_lt, if◌then◌else◌, List, Option, None, Some, option_map}
use Rattle.des_event.specs.declared.event.Event.{Event}
use Rattle.des_model.specs.Histories.{next}
use Rattle.des_model.specs.Machine.{Machine}
use Rattle.des_model.specs.Schedules.{horizon_from}
use Rattle.des_window.specs.declared.opening.Opening.{Opening}

-- the earlier of two times, of which either may be missing
abbrev pub sooner : Option ℕ → Option ℕ → Option ℕ
sooner least None = least
sooner None (Some t) = Some t
sooner (Some s) (Some t) = if nat_lt t s then Some t else Some s

-- a time, or the end, whichever comes first
abbrev pub end_at : (end : ℕ) → Option ℕ → ℕ
end_at end None = end
end_at end (Some t) = min t end

-- the window that the next event of the run opens, if there is one
abbrev pub opening_after : {State Body Piece : Type 0} → Machine State Body Piece → List (Event Body) → Option Opening
opening_after m h = option_map (λ (e : Event _). record { time = e.key.time; horizon = horizon_from m e.key.time }) (next m h)
