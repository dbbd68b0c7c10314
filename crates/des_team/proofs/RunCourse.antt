-- What a run by a team has written so far.
use Rattle.std.proofs.Common.{◌≡◌, ℕ, List, Option, subst, sym}
use Rattle.des_machine.specs.Runs.{IsBeginning}
use Rattle.des_machine.proofs.Runs.{begun_at}
use Rattle.des_team.specs.Chronicles.{Chronicle}
use Rattle.des_team.specs.declared.layout.Layout.{Layout}
use Rattle.des_team.specs.declared.team.Team.{Team}
use Rattle.des_team.specs.Teams.{CanSend, IsOpened, IsTeam}

module _ {M State Body Piece S : Type 0} where
  pub begin_team : (ch : Chronicle State Body Piece S) (l : Layout) (old now : Option (List ℕ)) (t : Team M S State Body Piece) → IsTeam ch l old now t
      → IsBeginning ch.text ch.machine old now
  begin_team ch l old now t at = begun_at ch.text ch.machine old now t.count at.written

  pub begin_opened : (ch : Chronicle State Body Piece S) (l : Layout) (old now : Option (List ℕ)) (t : Team M S State Body Piece) → IsOpened ch l old now t
      → IsBeginning ch.text ch.machine old now
  begin_opened ch l old now t at = begun_at ch.text ch.machine old now t.count at.written

  -- the team whose window is open, with other parts here
  pub opened_still : (ch : Chronicle State Body Piece S) (l : Layout) (old now : Option (List ℕ)) (t u : Team M S State Body Piece)
      → u ≡ record t { parcels = u.parcels } → CanSend ch l u
      → IsOpened ch l old now t → IsOpened ch l old now u
  opened_still ch l old now t u same can at = subst (IsOpened ch l old now) (sym same) (record {
    can_send = subst (CanSend ch l) same can;
    due_is = at.due_is;
    audits = at.audits;
    written = at.written;
    audited = at.audited;
  })
