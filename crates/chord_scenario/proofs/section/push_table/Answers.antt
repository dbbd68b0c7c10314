use Rattle.std.proofs.Common.{◌≡◌, ◌∙◌, ◌++◌, [], ◌∷◌, ap, append-nil, List, map, None, Option, refl, Some, sym}
use Rattle.std.proofs.lemmas.List.{map_push}
use Rattle.toml.specs.Data.{Data, Members, as_table, table}
use Rattle.toml.specs.View.{view}
use Rattle.chord_scenario.specs.declared.key.Place.{Place}
use Rattle.chord_scenario.specs.Sections.{Section, section_of, table_at}
use Rattle.chord_scenario.proofs.section.push_table.Goals as goal

-- the section of a table, if there is one
abbrev listed : Place → Option Members → List Section
listed at None = []
listed at (Some ms) = record { at = at; members = ms } ∷ []

listed_is : (at : Place) (d : Data) → table_at at (Some d) ≡ listed at (as_table d)
listed_is at (table ms) = refl
listed_is at _ = refl

pub returns-in_ok-push : goal.returns-in_ok-push
returns-in_ok-push c =
    let before = c.args.tables.now.items in
    let same = listed_is c.args.at (view c.in-Some.value.now) ∙ ap (listed c.args.at) (sym c.in-Some-as_table.ensures) in
    rw c.in-Some.is (ap (map section_of) c.in_ok-push.ensures.items ∙ map_push section_of before _
    ∙ ap (λ (l : List Section). map section_of before ++ l) (sym same))

pub returns-in_default-as_table : goal.returns-in_default-as_table
returns-in_default-as_table c =
    let before = map section_of c.args.tables.now.items in
    let same = listed_is c.args.at (view c.in-Some.value.now) ∙ ap (listed c.args.at) (sym c.in_default-as_table.ensures) in
    rw c.in-Some.is (sym (append-nil before) ∙ ap (λ (l : List Section). before ++ l) (sym same))

pub returns-in_default : goal.returns-in_default
returns-in_default c = rw c.in_default.is (sym (append-nil (map section_of c.args.tables.now.items)))
