use Rattle.chord_laws.proofs.Ends.{lookups_are_in_time, lookups_are_short, lookups_take_at_most, none_lasts_longer}
use Rattle.chord_laws.proofs.histories.lookups_are_in_time.Goals as goal

pub returns-clause-sent : goal.returns-clause-sent
returns-clause-sent c = lookups_are_in_time

pub returns-clause-most : goal.returns-clause-most
returns-clause-most c = lookups_are_short

pub returns-clause-ended : goal.returns-clause-ended
returns-clause-ended c = lookups_take_at_most

pub returns-clause-ends : goal.returns-clause-ends
returns-clause-ends c = none_lasts_longer
