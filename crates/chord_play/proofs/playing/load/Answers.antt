use Rattle.std.proofs.Common.{◌∙◌, ◌≤◌, inl, inr, length, rules}
use Rattle.chord_play.specs.Readings.{reading}
use Rattle.chord_play.specs.Texts.{most_bytes}
use Rattle.chord_play.proofs.Readings.{reader_fault, short_text, whole_text}
use Rattle.chord_play.proofs.playing.load.Goals as goal

pub returns-in_err-scenario-clause-faults : goal.returns-in_err-scenario-clause-faults
returns-in_err-scenario-clause-faults g c =
    let toml_few : length c.in-Ok.text.items ≤ most_bytes = search (rules, c.in-Ok.ensures.short) in
    let csv_few : length c.in-Ok-read_text.text.items ≤ most_bytes = search (rules, c.in-Ok-read_text.ensures.short) in
    reader_fault (reading g.R.Read.remaining c.args.scenario.now c.read_text.new.reader)
    (reading g.Q.Read.remaining c.args.latency.now c.read_text-2.new.reader) c.in_err-scenario.field-0.0 _
    (c.in-Ok.ensures.reader, short_text _ _ _ c.in-Ok.ensures.whole c.in-Ok.ensures.end toml_few)
    (c.in-Ok-read_text.ensures.reader, short_text _ _ _ c.in-Ok-read_text.ensures.whole c.in-Ok-read_text.ensures.end csv_few)
    (elim c.in_err-scenario.ensures.refused [
      | inl memory ↦ inl memory
      | inr refused ↦ inr (λ toml csv is_toml is_csv.
          let all_toml = c.as_slice.ensures.value ∙ whole_text _ _ _ c.in-Ok.ensures.whole c.in-Ok.ensures.end toml is_toml in
          let all_csv = c.as_slice-2.ensures.value ∙ whole_text _ _ _ c.in-Ok-read_text.ensures.whole c.in-Ok-read_text.ensures.end csv is_csv in
          rw (← all_toml, ← all_csv) refused)
    ])
    c.from_residual.ensures.1

pub returns-clause-read : goal.returns-clause-read
returns-clause-read g c =
    let toml_few : length c.in-Ok.text.items ≤ most_bytes = search (rules, c.in-Ok.ensures.short) in
    let csv_few : length c.in-Ok-read_text.text.items ≤ most_bytes = search (rules, c.in-Ok-read_text.ensures.short) in (
      (c.in-Ok.ensures.reader, short_text _ _ _ c.in-Ok.ensures.whole c.in-Ok.ensures.end toml_few),
      (c.in-Ok-read_text.ensures.reader, short_text _ _ _ c.in-Ok-read_text.ensures.whole c.in-Ok-read_text.ensures.end csv_few),
    )

pub returns-clause-accepted : goal.returns-clause-accepted
returns-clause-accepted g c toml csv is_toml is_csv =
    let all_toml = c.as_slice.ensures.value ∙ whole_text _ _ _ c.in-Ok.ensures.whole c.in-Ok.ensures.end toml is_toml in
    let all_csv = c.as_slice-2.ensures.value ∙ whole_text _ _ _ c.in-Ok-read_text.ensures.whole c.in-Ok-read_text.ensures.end csv is_csv in
    rw (← all_toml, ← all_csv) c.in_ok-scenario.ensures.accepted
