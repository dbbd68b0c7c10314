use Rattle.chord_judge.proofs.Lookups.{all_have_rows}
use Rattle.chord_judge.proofs.laws.each_lookup_has_a_row.Goals as goal

pub returns : goal.returns
returns c = all_have_rows
