use Rattle.des_team.specs.Exchanges.{HaveExchangedTo}
use Rattle.des_team.proofs.window_end.exchange_mail.Given as goal

abbrev pub invariant-loop-from : goal.invariant-loop-from
invariant-loop-from g l = HaveExchangedTo l.from l.initial.parcels.items l.parcels.items
