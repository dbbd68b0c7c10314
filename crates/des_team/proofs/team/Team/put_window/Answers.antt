use Rattle.std.proofs.Common.{◌≡◌, ◌∙◌, ◌+◌, ap, arith, length, refl}
use Rattle.std.proofs.lemmas.List.{length-map}
use Rattle.des_model.specs.Histories.{history}
use Rattle.des_team.specs.Chronicles.{chronicle}
use Rattle.des_team.specs.declared.part.Done.{Done}
use Rattle.des_team.specs.declared.team.Team.{Team}
use Rattle.des_team.specs.Outputs.{told}
use Rattle.des_team.specs.Teams.{events_in}
use Rattle.des_team.proofs.RunCourse.{begin_opened}
use Rattle.des_team.proofs.TeamOrders.{cleared_here}
use Rattle.des_team.proofs.WindowRuns.{window_has_some, window_has_too_many}
use Rattle.des_team.proofs.WindowTexts.{can_write, merged_entries, window_entries}
use Rattle.des_team.proofs.WindowTeam.{begin_entries, begin_due, count_then, next_team, parts_here, parts_ready}
use Rattle.des_team.proofs.team.Team.put_window.Goals as goal

-- A window's parts come back, get their mail, and what they put out is written.

pub exchange_mail-requires : goal.exchange_mail-requires
exchange_mail-requires g c = parts_ready (chronicle (g.M.Machine.model c.args.course.now.machine.now) (g.S.Scribe.text c.args.course.now.machine.now)
    (g.S.Scribe.HasCounted c.args.course.now.machine.now)) (g.met.M.Machine.simulable c.args.course.now.machine.now c.recall.ensures)
    c.args.course.now.layout.now c.args.self.now
    c.requires.at.1.can_send c.args.results.items c.requires.results c.requires.no_fault c.put_back.new.self.parcels.items
    c.in_ok-outputs.ensures.back c.in_ok-outputs.ensures.long

pub returns-in_default-clause-front : goal.returns-in_default-clause-front
returns-in_default-clause-front g c = λ old o. begin_opened (chronicle (g.M.Machine.model c.args.course.now.machine.now)
    (g.S.Scribe.text c.args.course.now.machine.now) (g.S.Scribe.HasCounted c.args.course.now.machine.now)) c.args.course.now.layout.now old _ c.args.self.now o

pub returns-in_default-clause-over : goal.returns-in_default-clause-over
returns-in_default-clause-over g c = λ _.
    window_has_too_many (chronicle (g.M.Machine.model c.args.course.now.machine.now) (g.S.Scribe.text c.args.course.now.machine.now)
    (g.S.Scribe.HasCounted c.args.course.now.machine.now))
    (g.met.M.Machine.simulable c.args.course.now.machine.now c.recall.ensures) c.args.course.now.layout.now c.args.self.now c.requires.at.1.can_send
    c.args.results.items c.requires.results c.requires.no_fault
    (omega (arith, c.in_default.ensures.none refl, ap events_in c.as_slice.ensures.value, c.max_events.ensures, c.requires.at.1.can_send.within))

pub returns-in_err-outputs-clause-front : goal.returns-in_err-outputs-clause-front
returns-in_err-outputs-clause-front g c = λ old o. begin_opened (chronicle (g.M.Machine.model c.args.course.now.machine.now)
    (g.S.Scribe.text c.args.course.now.machine.now) (g.S.Scribe.HasCounted c.args.course.now.machine.now)) c.args.course.now.layout.now old _ c.args.self.now o

pub returns-in_err-exchange_mail-clause-front : goal.returns-in_err-exchange_mail-clause-front
returns-in_err-exchange_mail-clause-front g c = λ old o. begin_opened (chronicle (g.M.Machine.model c.args.course.now.machine.now)
    (g.S.Scribe.text c.args.course.now.machine.now) (g.S.Scribe.HasCounted c.args.course.now.machine.now)) c.args.course.now.layout.now old _ c.args.self.now o

pub returns-in_err-write_text-clause-front : goal.returns-in_err-write_text-clause-front
returns-in_err-write_text-clause-front g c = λ old o.
    begin_due (chronicle (g.M.Machine.model c.args.course.now.machine.now) (g.S.Scribe.text c.args.course.now.machine.now)
    (g.S.Scribe.HasCounted c.args.course.now.machine.now))
    (g.met.M.Machine.simulable c.args.course.now.machine.now c.recall.ensures) c.args.course.now.layout.now c.args.self.now c.args.results.items
    c.requires.results c.requires.no_fault old _ o c.put_back.new.self _ c.as_slice-2.result.now c.in_ok-outputs.ensures.others
    c.as_slice-2.ensures.value c.in_err-write_text.ensures.front

pub write_outputs-requires-clause-texts : goal.write_outputs-requires-clause-texts
write_outputs-requires-clause-texts g c = can_write (chronicle (g.M.Machine.model c.args.course.now.machine.now)
    (g.S.Scribe.text c.args.course.now.machine.now) (g.S.Scribe.HasCounted c.args.course.now.machine.now))
    (g.met.M.Machine.simulable c.args.course.now.machine.now c.recall.ensures) c.args.course.now.layout.now c.args.self.now
    c.requires.at.1.can_send c.args.results.items c.requires.results c.requires.no_fault c.as_slice-3.result.now
    (c.as_slice-3.ensures.value ∙ c.in_ok-outputs.ensures.outputs)

pub returns-in_err-write_outputs-clause-front : goal.returns-in_err-write_outputs-clause-front
returns-in_err-write_outputs-clause-front g c = λ old o.
    let ch = (chronicle (g.M.Machine.model c.args.course.now.machine.now) (g.S.Scribe.text c.args.course.now.machine.now)
    (g.S.Scribe.HasCounted c.args.course.now.machine.now)) in
    let l = c.args.course.now.layout.now in
    let t = c.args.self.now in
    let fs = c.args.results.items in
    let can = o.can_send in
    begin_entries ch (g.met.M.Machine.simulable c.args.course.now.machine.now c.recall.ensures) l t fs c.requires.results c.requires.no_fault old _ o
    c.put_back.new.self _ _ c.as_slice-2.result.now
    c.in_ok-outputs.ensures.others c.as_slice-2.ensures.value c.in_ok-write_text.ensures.whole
    (c.in_err-write_outputs.ensures.front (told (window_entries ch (g.met.M.Machine.simulable c.args.course.now.machine.now c.recall.ensures) l t can fs
    c.requires.results c.requires.no_fault))
    (merged_entries ch (g.met.M.Machine.simulable c.args.course.now.machine.now c.recall.ensures) l t can fs c.requires.results c.requires.no_fault
    c.as_slice-3.result.now
    (c.as_slice-3.ensures.value ∙ c.in_ok-outputs.ensures.outputs)))

pub returns-clause-front : goal.returns-clause-front
returns-clause-front g c = λ old o.
    let ch = (chronicle (g.M.Machine.model c.args.course.now.machine.now) (g.S.Scribe.text c.args.course.now.machine.now)
    (g.S.Scribe.HasCounted c.args.course.now.machine.now)) in
    let l = c.args.course.now.layout.now in
    let t = c.args.self.now in
    let fs = c.args.results.items in
    let can = o.can_send in
    begin_entries ch (g.met.M.Machine.simulable c.args.course.now.machine.now c.recall.ensures) l t fs c.requires.results c.requires.no_fault old _ o
    c.put_back.new.self _ _ c.as_slice-2.result.now
    c.in_ok-outputs.ensures.others c.as_slice-2.ensures.value c.in_ok-write_text.ensures.whole
    (c.in_ok-write_outputs.ensures.front (told (window_entries ch (g.met.M.Machine.simulable c.args.course.now.machine.now c.recall.ensures) l t can fs
    c.requires.results c.requires.no_fault))
    (merged_entries ch (g.met.M.Machine.simulable c.args.course.now.machine.now c.recall.ensures) l t can fs c.requires.results c.requires.no_fault
    c.as_slice-3.result.now
    (c.as_slice-3.ensures.value ∙ c.in_ok-outputs.ensures.outputs)))

pub returns-clause-more : goal.returns-clause-more
returns-clause-more g c =
    let fs = c.args.results.items in
    omega (
      arith,
      window_has_some (chronicle (g.M.Machine.model c.args.course.now.machine.now) (g.S.Scribe.text c.args.course.now.machine.now)
          (g.S.Scribe.HasCounted c.args.course.now.machine.now))
          (g.met.M.Machine.simulable c.args.course.now.machine.now c.recall.ensures) c.args.course.now.layout.now c.args.self.now c.requires.at.1.can_send fs
          c.requires.results c.requires.no_fault,
      count_then c.args.self.now c.put_back.new.self c.give_outputs.new.self c.in-Some.events (events_in fs) c.in_ok-outputs.ensures.others
          c.give_outputs.ensures.others (c.in-Some.ensures.some.0 ∙ ap events_in c.as_slice.ensures.value),
    )

pub returns-clause-at : goal.returns-clause-at
returns-clause-at g c = λ old o.
    let ch = (chronicle (g.M.Machine.model c.args.course.now.machine.now) (g.S.Scribe.text c.args.course.now.machine.now)
    (g.S.Scribe.HasCounted c.args.course.now.machine.now)) in
    let ok = (g.met.M.Machine.simulable c.args.course.now.machine.now c.recall.ensures) in
    let l = c.args.course.now.layout.now in
    let t = c.args.self.now in
    let fs = c.args.results.items in
    let can = o.can_send in
    let back = c.in_ok-outputs.ensures in
    let given = c.give_outputs.ensures in
    let events : c.in-Some.events ≡ events_in fs = c.in-Some.ensures.some.0 ∙ ap events_in c.as_slice.ensures.value in
    next_team ch ok l t fs c.requires.results c.requires.no_fault old _ o c.put_back.new.self c.give_outputs.new.self c.in-Some.events _ _
    c.as_slice-2.result.now back.others back.next given.others events
    (omega (arith, events, c.in-Some.ensures.some.1, c.max_events.ensures, can.within))
    (given.long ∙ c.in_ok-exchange_mail.ensures.long ∙ back.long)
    (cleared_here ch l (history ch.machine (t.count + events_in fs)) _ _ given.each (parts_here ch ok l t can fs c.requires.results c.requires.no_fault
    c.put_back.new.self.parcels.items back.back back.long c.exchange_mail.new.parcels.items c.in_ok-exchange_mail.ensures))
    c.as_slice-2.ensures.value c.in_ok-write_text.ensures.whole
    (c.in_ok-write_outputs.ensures.whole (told (window_entries ch ok l t can fs c.requires.results c.requires.no_fault))
    (merged_entries ch ok l t can fs c.requires.results c.requires.no_fault c.as_slice-3.result.now (c.as_slice-3.ensures.value ∙ back.outputs)))

pub returns-clause-within : goal.returns-clause-within
returns-clause-within g c =
    let fs = c.args.results.items in
    omega (
      arith,
      count_then c.args.self.now c.put_back.new.self c.give_outputs.new.self c.in-Some.events (events_in fs) c.in_ok-outputs.ensures.others
          c.give_outputs.ensures.others (c.in-Some.ensures.some.0 ∙ ap events_in c.as_slice.ensures.value),
      c.in-Some.ensures.some.0,
      ap events_in c.as_slice.ensures.value,
      c.in-Some.ensures.some.1,
      c.max_events.ensures,
      c.requires.at.1.can_send.within,
    )

pub returns-in_err-outputs-clause-counted_first : goal.returns-in_err-outputs-clause-counted_first
returns-in_err-outputs-clause-counted_first g c = λ over.
    absurd (omega (
      arith,
      over,
      c.in-Some.ensures.some.0,
      c.in-Some.ensures.some.1,
      ap events_in c.as_slice.ensures.value,
      c.max_events.ensures,
      c.requires.at.1.can_send.within,
    ))

pub returns-in_err-exchange_mail-clause-counted_first : goal.returns-in_err-exchange_mail-clause-counted_first
returns-in_err-exchange_mail-clause-counted_first g c = λ over.
    absurd (omega (
      arith,
      over,
      c.in-Some.ensures.some.0,
      c.in-Some.ensures.some.1,
      ap events_in c.as_slice.ensures.value,
      c.max_events.ensures,
      c.requires.at.1.can_send.within,
    ))

pub returns-in_err-write_text-clause-counted_first : goal.returns-in_err-write_text-clause-counted_first
returns-in_err-write_text-clause-counted_first g c = λ over.
    absurd (omega (
      arith,
      over,
      c.in-Some.ensures.some.0,
      c.in-Some.ensures.some.1,
      ap events_in c.as_slice.ensures.value,
      c.max_events.ensures,
      c.requires.at.1.can_send.within,
    ))

pub returns-in_err-write_outputs-clause-counted_first : goal.returns-in_err-write_outputs-clause-counted_first
returns-in_err-write_outputs-clause-counted_first g c = λ over.
    absurd (omega (
      arith,
      over,
      c.in-Some.ensures.some.0,
      c.in-Some.ensures.some.1,
      ap events_in c.as_slice.ensures.value,
      c.max_events.ensures,
      c.requires.at.1.can_send.within,
    ))

pub returns-clause-counted_first : goal.returns-clause-counted_first
returns-clause-counted_first g c = λ over.
    absurd (omega (
      arith,
      over,
      c.in-Some.ensures.some.0,
      c.in-Some.ensures.some.1,
      ap events_in c.as_slice.ensures.value,
      c.max_events.ensures,
      c.requires.at.1.can_send.within,
    ))

pub overflow_sub-room : goal.overflow_sub-room
overflow_sub-room g c = omega (arith, c.max_events.ensures, c.requires.at.1.can_send.within)

pub overflow_add-self : goal.overflow_add-self
overflow_add-self g c = omega (
  arith,
  c.in-Some.ensures.some.1,
  c.max_events.ensures,
  c.requires.at.1.can_send.within,
  c.max_events.type_inv,
  ap (λ (t : Team _ _ _ _ _). t.count) c.in_ok-outputs.ensures.others,
)

pub put_back-requires : goal.put_back-requires
put_back-requires g c = omega (arith, c.requires.results.long, c.requires.at.1.can_send.parcels_long)

pub give_outputs-requires : goal.give_outputs-requires
give_outputs-requires g c = omega (
  arith,
  ap length c.in_ok-outputs.ensures.outputs,
  length-map c.args.results.items (λ (f : Done _ _ _ _ _). f.parcel.output),
  c.in_ok-exchange_mail.ensures.long,
  c.in_ok-outputs.ensures.long,
  c.requires.results.long,
  c.requires.at.1.can_send.parcels_long,
)
