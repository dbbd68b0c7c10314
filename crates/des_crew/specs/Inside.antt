-- What each counter and each seat keeps inside.
use Rattle.std.specs.Prelude.{◌≡◌, ◌<◌, ◌≤◌, true, []}
use Rattle.des_window.specs.declared.division.TheConstants.{MOST_PARTS}
use Rattle.des_crew.specs.declared.draws.TheConstants.{MOST_SEATS}
use Rattle.des_crew.specs.declared.draws.Draws.TheInside as draws
use Rattle.des_crew.specs.declared.seat.Seat.TheInside as seat

-- the table has one word and no slot, and was made for this many parts
pub record IsOneWord (d : draws.Inside) : Type 0 where
  pub one_word : d.table.shared.table_id.words ≡ 1
  pub no_slot : d.table.shared.table_id.slots ≡ 0
  pub same_parts : d.table.shared.key.parts ≡ d.parts
  pub parts_within : d.parts ≤ MOST_PARTS
  pub seats_within : d.table.shared.key.seats ≤ MOST_SEATS

-- the code knows of the end what the view does, and the seat may draw
pub record IsLive (s : seat.Inside) : Type 0 where
  pub no_slot : s.token.me.1 ≡ []
  pub same_end : s.token.me.0.met_end ≡ s.met_end
  pub exhausted_at_end : s.is_exhausted ≡ true → s.met_end ≡ true
  pub some_allowance : 0 < s.token.me.0.allowance
