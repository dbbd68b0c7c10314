-- What a judge holds and writes after a line.
use Rattle.std.proofs.Common.{◌≡◌, ◌∙◌, sym, ap, subst, ℕ, false, cond, List, [], ◌∷◌, ◌++◌, map, arith, count_by}
use Rattle.chord_event.specs.declared.line.Line.{Line}
use Rattle.chord_event.specs.declared.line.Line.TheVariants as line
use Rattle.chord_judge.specs.Inside.{HasRead, HoldMembers, changes_after, setup_of}
use Rattle.chord_judge.specs.Judged.{answer_of, first_alone, is_begin, is_ended_by, rows_by}
use Rattle.chord_judge.specs.Members.{is_member_after}
use Rattle.chord_judge.specs.Rows.{ends_by}
use Rattle.chord_judge.specs.declared.judge.Judge.{Judge}
use Rattle.chord_judge.specs.declared.members.Members.{Members}
use Rattle.chord_judge.specs.declared.row.Answer.{Answer}
use Rattle.chord_judge.specs.declared.row.End.TheVariants as ended
use Rattle.chord_judge.specs.declared.row.Lookup.{Lookup}
use Rattle.chord_judge.specs.declared.row.Row.{Row}
use Rattle.chord_judge.specs.declared.told.Told.{Told}
use Rattle.chord_judge.proofs.InProgress.{begun_more}
use Rattle.chord_scenario.specs.Setup.{Setup}
use Rattle.chord_trace.specs.Kinds.{is_lookup}

-- a line that begins no lookup
pub none_begun : (told : Told) (lines : List Told) → is_lookup told.line ≡ false → count_by is_begin lines ≡ count_by is_begin (told ∷ lines)
none_begun told lines h =
    let more = begun_more told lines in
    let zero : ◌≡◌ {A = ℕ} (cond (is_lookup told.line) 1 0) 0 = ap (λ b. cond {A = ℕ} b 1 0) h in omega (arith, more, zero)

-- the answer of a judge that has the members and changes of another one
pub same_answer : (old now : Judge) (lines : List Told) (answer : Answer) (key begun named hops timeouts : ℕ) → now.members ≡ old.members → now.changes ≡ old.changes
    → HasRead (setup_of old) lines old
    → ((ls : List Told) → HoldMembers (setup_of now) (is_member_after (setup_of now) ls) now.members → now.changes.items ≡ changes_after (setup_of now) ls
    → answer ≡ answer_of (setup_of now) ls key begun named hops timeouts)
    → answer ≡ answer_of (setup_of old) lines key begun named hops timeouts
same_answer old now lines answer key begun named hops timeouts members changes has gives =
    subst
    (λ (m : Members). HoldMembers m.scenario.now (is_member_after m.scenario.now lines) m → now.changes.items ≡ changes_after m.scenario.now lines
    → answer ≡ answer_of m.scenario.now lines key begun named hops timeouts)
    members (gives lines) has.members (ap (λ c. c.items) changes ∙ has.changes)

-- the row of a lookup that was found
pub found_row : (sc : Setup) (lines : List Told) (told : Told) (key owner hops timeouts us : ℕ) (xs : List Lookup) (lookup : Lookup) (answer : Answer) (rows new : List Row)
    → told.line ≡ line.Found key owner hops timeouts us → first_alone (is_ended_by told.node key told.time us) xs ≡ lookup ∷ []
    → answer ≡ answer_of sc lines key lookup.begun owner hops timeouts → new ≡ rows ++ ends_by (ended.Found told.time answer) lookup ∷ []
    → new ≡ rows ++ rows_by sc lines xs told.line told.time told.node
found_row sc lines told key owner hops timeouts us xs lookup answer rows new is first right made =
    made
    ∙ ap (λ (a : Answer). rows ++ ends_by (ended.Found told.time a) lookup ∷ []) right
    ∙ ap (λ (ls : List Lookup). rows ++ map (λ (l : Lookup). ends_by (ended.Found told.time (answer_of sc lines key l.begun owner hops timeouts)) l) ls) (sym first)
    ∙ ap (λ (l : Line). rows ++ rows_by sc lines xs l told.time told.node) (sym is)
