use Rattle.std.proofs.Common.{◌∙◌, sym, refl, inr}
use Rattle.csv.specs.Reading.{Reached, strip_bom}
use Rattle.chord_scenario.proofs.row.records_in.Goals as goal

pub returns : goal.returns
unfolding Reached
returns c =
    let made = c.from_reader.ensures in
    rw c.into_byte_records.ensures.rdr record {
      unread = strip_bom c.args.text.now;
      source = made.source;
      reached = (sym made.state, refl);
      flexible = rw c.flexible.ensures at made.flexible;
      usual = rw (c.flexible.ensures, c.has_headers.ensures) at made.config ∙ c.new.ensures.config;
      untrimmed = rw (c.flexible.ensures, c.has_headers.ensures) at made.trim ∙ c.new.ensures.trim;
      ready = inr (inr (rw (c.flexible.ensures, c.has_headers.ensures) at made.has_headers, made.headers));
      left = c.into_byte_records.ensures.left;
    }
