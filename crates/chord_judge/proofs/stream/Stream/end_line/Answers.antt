use Rattle.std.proofs.Common.{◌∙◌, ap}
use Rattle.chord_judge.proofs.Streams.{line_taken, other_taken}
use Rattle.chord_judge.proofs.stream.Stream.end_line.Goals.{in-Told+in-Ok, in-Other}
use Rattle.chord_judge.proofs.stream.Stream.end_line.Goals as goal

pub returns-clause-taken : goal.returns-clause-taken
returns-clause-taken c =
    elim c.match-read.branch [
      | in-Told+in-Ok w ↦ λ sc text written has.
          line_taken sc c.args.self.now.reader.scenario.now text written c.as_slice.result.now c.read.result w.in-Told.told c.args.self.now _
          w.read-in-Told.new.self c.as_slice-2.result.now w.read-in-Told.new.rows.items has c.args.self.now.one c.read.ensures.said c.as_slice.ensures.value
          w.in-Told.is w.in-Ok.ensures.setup w.in-Ok.ensures.read w.in-Ok.ensures.rows w.in-Ok.ensures.known (ap (λ s. s.1.0) w.self-is)
          (c.as_slice-2.ensures.value ∙ ap (λ s. s.1.1.1.0.items) w.self-is) c.clear.ensures.items c.clear-2.ensures.items
          c.in_ok-push_rows_text.ensures c.saturating_add-self.ensures
      | in-Other w ↦ λ sc text written has.
          other_taken sc c.args.self.now.reader.scenario.now text written c.as_slice.result.now c.read.result c.args.self.now _
          c.as_slice-2.result.now has c.args.self.now.one c.read.ensures.said c.as_slice.ensures.value
          w.in-Other.is (ap (λ s. s.1.0) w.self-is) c.clear.ensures.items c.clear-2.ensures.items
          (c.as_slice-2.ensures.value ∙ ap (λ s. s.1.1.1.0.items) w.self-is)
          c.in_ok-push_rows_text.ensures c.saturating_add-self.ensures
    ]
