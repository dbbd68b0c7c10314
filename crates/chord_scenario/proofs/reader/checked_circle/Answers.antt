use Rattle.std.proofs.Common.{◌≡◌, ◌∙◌, sym, ℕ, List, map, None}
use Rattle.toml.specs.Data.{Members}
use Rattle.toml.specs.View.{table_view}
use Rattle.chord_scenario.specs.declared.key.FileKey.TheVariants as key
use Rattle.chord_scenario.specs.Faults.{first_answer}
use Rattle.chord_scenario.specs.Groups.{key_questions}
use Rattle.chord_scenario.specs.Sections.{Section, section_of, sections}
use Rattle.chord_scenario.specs.Values.{number_at}
use Rattle.chord_scenario.proofs.InRange.{KeysFit, keys_fit}
use Rattle.chord_scenario.proofs.reader.checked_circle.Goals as goal

-- the numbers of tables without faults of keys, which are those of the file, fit
fit : (top : Members) (profile bits : ℕ) (ss : List Section) → ss ≡ sections top → bits ≡ number_at key.Bits top
    → first_answer (key_questions profile bits ss) ≡ None
    → KeysFit top
fit top profile bits ss same is none = keys_fit profile (number_at key.Bits top) top (rw (← same, ← is) none)

pub circle_of-requires-clause-least : goal.circle_of-requires-clause-least
circle_of-requires-clause-least c =
    (fit (table_view c.args.top.now) c.number_at-profile.result c.number_at-bits.result (map section_of c.args.tables.now) c.requires
    c.number_at-bits.ensures.value (sym c.key_fault.ensures ∙ c.in-None.is)).least

pub circle_of-requires-clause-greatest : goal.circle_of-requires-clause-greatest
circle_of-requires-clause-greatest c =
    (fit (table_view c.args.top.now) c.number_at-profile.result c.number_at-bits.result (map section_of c.args.tables.now) c.requires
    c.number_at-bits.ensures.value (sym c.key_fault.ensures ∙ c.in-None.is)).greatest
