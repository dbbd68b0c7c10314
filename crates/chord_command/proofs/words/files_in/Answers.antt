use Rattle.std.proofs.Common.{◌∙◌, sym, codes}
use Rattle.clap.specs.Words.{found_of}
use Rattle.clap.proofs.WalkLemmas.{first_value-rows}
use Rattle.chord_command.proofs.words.files_in.Goals as goal

pub returns-clause-files : goal.returns-clause-files
returns-clause-files c = record {
  scenario =
      sym (first_value-rows (found_of c.args.matches.now) (codes "scenario")) ∙ sym c.get_str.ensures
      ∙ rw (c.unwrap-scenario.ensures, c.in_ok-scenario.ensures.ok);
  latency = c.in_ok-latency.ensures;
}
