-- A window writes its audits, and then the pieces of its events.
use Rattle.std.proofs.Common.{◌∙◌, ◌+◌, ◌≤◌, ◌^◌, List, Vec, length, ap, sym, subst, refl, arith}
use Rattle.std.specs.Global.{Global}
use Rattle.std.specs.List.{All}
use Rattle.des_machine.specs.Runs.{Adds, WritesFront}
use Rattle.des_machine.specs.Simulable.{AreSound}
use Rattle.des_output.specs.Watched.{wrapped}
use Rattle.des_parts.specs.declared.engine.WindowEngine.{WindowEngine}
use Rattle.des_parts.specs.declared.entries.Entry.{Entry}
use Rattle.des_parts.specs.Entries.{HaveOwnKeys, IsMerged, all_entries, pieces_of}
use Rattle.des_parts.specs.Exchanges.{events_in}
use Rattle.des_parts.proofs.EngineCourse.{all_known, audits_fit, begin_at, begin_audits, begin_entries, begin_middle, entries_fit, next_at, states_sound}
use Rattle.des_parts.proofs.NextWorld.{exchange_over, exchange_some}
use Rattle.des_parts.proofs.WindowOutput.{can_merge}
use Rattle.des_parts.proofs.engine.WindowEngine.put_window.Goals as goal

pub returns-in_default-clause-over : goal.returns-in_default-clause-over
returns-in_default-clause-over g c = λ _.
    let k = c.args.machine.now in
    exchange_over (g.M.Machine.model k) (g.met.M.Machine.simulable k c.recall.ensures) c.args.self.now.world c.requires.at.1.world
    c.args.opening.horizon c.args.dones.items c.requires.done
    (omega (arith, c.in_default.ensures.none refl, ap events_in c.as_slice.ensures.value, c.max_events.ensures, c.requires.at.1.world.within))

pub returns-in_default-clause-front : goal.returns-in_default-clause-front
returns-in_default-clause-front g c = λ old t.
    let k = c.args.machine.now in
    begin_at (g.S.Scribe.text k) (g.M.Machine.model k) (g.S.Scribe.HasCounted k) old _ c.args.self.now t

pub put_audits-requires-clause-states : goal.put_audits-requires-clause-states
put_audits-requires-clause-states g c =
    let k = c.args.machine.now in
    let text = g.S.Scribe.text k in
    let m = g.M.Machine.model k in
    let counted = g.S.Scribe.HasCounted k in
    let sim = g.met.M.Machine.simulable k c.recall.ensures in
    let e = c.args.self.now in
    subst (λ ss. AreSound m (g.M.Machine.Sound k) ss) (sym c.as_slice-2.ensures.value)
    (states_sound text m counted sim c.requires.at.0 _ e c.requires.at.1)

pub put_audits-requires-clause-room : goal.put_audits-requires-clause-room
put_audits-requires-clause-room g c =
    let k = c.args.machine.now in
    let text = g.S.Scribe.text k in
    let m = g.M.Machine.model k in
    let counted = g.S.Scribe.HasCounted k in
    let sim = g.met.M.Machine.simulable k c.recall.ensures in
    let e = c.args.self.now in
    audits_fit text m counted sim c.requires.at.0 _ e c.requires.at.1 g.S.Scribe.size (g.met.S.Scribe.sized k)

pub returns-in_err-put_audits-clause-front : goal.returns-in_err-put_audits-clause-front
returns-in_err-put_audits-clause-front g c = λ old t.
    let k = c.args.machine.now in
    let text = g.S.Scribe.text k in
    let m = g.M.Machine.model k in
    let counted = g.S.Scribe.HasCounted k in
    let sim = g.met.M.Machine.simulable k c.recall.ensures in
    let e = c.args.self.now in
    let o = c.args.opening in
    begin_audits text m counted sim old _ e t _ c.as_slice-2.ensures.value o c.requires.opening _ c.in_err-put_audits.ensures.front

pub returns-in_err-lists-clause-front : goal.returns-in_err-lists-clause-front
returns-in_err-lists-clause-front g c = λ old t.
    let k = c.args.machine.now in
    let text = g.S.Scribe.text k in
    let m = g.M.Machine.model k in
    let counted = g.S.Scribe.HasCounted k in
    let sim = g.met.M.Machine.simulable k c.recall.ensures in
    let e = c.args.self.now in
    let o = c.args.opening in
    begin_middle text m counted sim old _ e t _ c.as_slice-2.ensures.value o c.requires.opening _ _ c.in_ok-put_audits.ensures.adds

pub returns-in_err-entries-clause-front : goal.returns-in_err-entries-clause-front
returns-in_err-entries-clause-front g c = λ old t.
    let k = c.args.machine.now in
    let text = g.S.Scribe.text k in
    let m = g.M.Machine.model k in
    let counted = g.S.Scribe.HasCounted k in
    let sim = g.met.M.Machine.simulable k c.recall.ensures in
    let e = c.args.self.now in
    let o = c.args.opening in
    begin_middle text m counted sim old _ e t _ c.as_slice-2.ensures.value o c.requires.opening _ _ c.in_ok-put_audits.ensures.adds

pub merge_entries-requires : goal.merge_entries-requires
merge_entries-requires g c =
    let k = c.args.machine.now in
    subst (λ (ls : List (Vec (Entry _) Global)). HaveOwnKeys (all_entries ls)) (sym c.in_ok-lists.ensures.entries)
    (can_merge (g.M.Machine.model k) (g.met.M.Machine.simulable k c.recall.ensures) c.args.self.now.world c.requires.at.1.world c.args.opening.horizon
    c.args.dones.items c.requires.done)

pub put_entries-requires-clause-known : goal.put_entries-requires-clause-known
put_entries-requires-clause-known g c =
    let k = c.args.machine.now in
    let text = g.S.Scribe.text k in
    let m = g.M.Machine.model k in
    let counted = g.S.Scribe.HasCounted k in
    let sim = g.met.M.Machine.simulable k c.recall.ensures in
    let e = c.args.self.now in
    let o = c.args.opening in
    let merged = subst (λ (ls : List (Vec (Entry _) Global)). IsMerged ls c.in_ok-entries.entries.items) c.in_ok-lists.ensures.entries
    c.in_ok-entries.ensures in
    subst (λ (es : List (Entry _)). All (λ (x : Entry _). g.M.Machine.Known k x.piece) es) (sym c.as_slice-3.ensures.value)
    (all_known text m counted sim c.requires.at.0 _ e c.requires.at.1 _ c.as_slice-2.ensures.value o c.requires.opening _ _
    c.in_ok-put_audits.ensures.adds c.args.dones.items c.requires.done c.in_ok-entries.entries.items merged)

pub put_entries-requires-clause-room : goal.put_entries-requires-clause-room
put_entries-requires-clause-room g c =
    let k = c.args.machine.now in
    let text = g.S.Scribe.text k in
    let m = g.M.Machine.model k in
    let counted = g.S.Scribe.HasCounted k in
    let sim = g.met.M.Machine.simulable k c.recall.ensures in
    let e = c.args.self.now in
    let o = c.args.opening in
    let merged = subst (λ (ls : List (Vec (Entry _) Global)). IsMerged ls c.in_ok-entries.entries.items) c.in_ok-lists.ensures.entries
    c.in_ok-entries.ensures in
    subst (λ (es : List (Entry _)). g.S.Scribe.size c.put_audits.new.self.scribe + length es ≤ 2 ^ 40) (sym c.as_slice-3.ensures.value)
    (entries_fit text m counted sim c.requires.at.0 _ e c.requires.at.1 _ c.as_slice-2.ensures.value o c.requires.opening _ _
    c.in_ok-put_audits.ensures.adds c.args.dones.items c.requires.done c.in_ok-entries.entries.items merged g.S.Scribe.size (g.met.S.Scribe.sized k) _
    c.in_ok-put_audits.ensures.size (omega (arith, c.in_ok-lists.ensures.world.within, c.in_ok-lists.ensures.count)))

pub returns-in_err-put_entries-clause-front : goal.returns-in_err-put_entries-clause-front
returns-in_err-put_entries-clause-front g c = λ old t.
    let k = c.args.machine.now in
    let text = g.S.Scribe.text k in
    let m = g.M.Machine.model k in
    let counted = g.S.Scribe.HasCounted k in
    let sim = g.met.M.Machine.simulable k c.recall.ensures in
    let e = c.args.self.now in
    let o = c.args.opening in
    let merged = subst (λ (ls : List (Vec (Entry _) Global)). IsMerged ls c.in_ok-entries.entries.items) c.in_ok-lists.ensures.entries
    c.in_ok-entries.ensures in
    begin_entries text m counted sim old _ e t _ c.as_slice-2.ensures.value o c.requires.opening _ _
    c.in_ok-put_audits.ensures.adds c.args.dones.items c.requires.done c.in_ok-entries.entries.items merged _
    (subst (λ (es : List (Entry _)). WritesFront text (g.W.Write.contents (wrapped c.put_audits.new.writer))
    (g.W.Write.contents (wrapped c.put_entries.new.writer))
    (pieces_of es)) c.as_slice-3.ensures.value c.in_err-put_entries.ensures.front)

pub returns-clause-front : goal.returns-clause-front
returns-clause-front g c = λ old t.
    let k = c.args.machine.now in
    let text = g.S.Scribe.text k in
    let m = g.M.Machine.model k in
    let counted = g.S.Scribe.HasCounted k in
    let sim = g.met.M.Machine.simulable k c.recall.ensures in
    let e = c.args.self.now in
    let o = c.args.opening in
    let merged = subst (λ (ls : List (Vec (Entry _) Global)). IsMerged ls c.in_ok-entries.entries.items) c.in_ok-lists.ensures.entries
    c.in_ok-entries.ensures in
    begin_entries text m counted sim old _ e t _ c.as_slice-2.ensures.value o c.requires.opening _ _
    c.in_ok-put_audits.ensures.adds c.args.dones.items c.requires.done c.in_ok-entries.entries.items merged _
    (subst (λ (es : List (Entry _)). WritesFront text (g.W.Write.contents (wrapped c.put_audits.new.writer))
    (g.W.Write.contents (wrapped c.put_entries.new.writer))
    (pieces_of es)) c.as_slice-3.ensures.value c.in_ok-put_entries.ensures.front)

pub returns-clause-at : goal.returns-clause-at
returns-clause-at g c = λ old t.
    let k = c.args.machine.now in
    let text = g.S.Scribe.text k in
    let m = g.M.Machine.model k in
    let counted = g.S.Scribe.HasCounted k in
    let sim = g.met.M.Machine.simulable k c.recall.ensures in
    let e = c.args.self.now in
    let o = c.args.opening in
    let merged = subst (λ (ls : List (Vec (Entry _) Global)). IsMerged ls c.in_ok-entries.entries.items) c.in_ok-lists.ensures.entries
    c.in_ok-entries.ensures in
    let f : WindowEngine _ _ _ _ _ = record {
      world = c.exchange_in_order.new.world;
      journal = record { scribe = c.put_entries.new.scribe; clock = c.put_audits.new.self.clock };
    } in
    next_at text m counted sim old _ e t _ c.as_slice-2.ensures.value o c.requires.opening _ _
    c.in_ok-put_audits.ensures.adds c.args.dones.items c.requires.done c.in_ok-entries.entries.items merged f _ c.in_ok-lists.ensures.world
    c.in_ok-lists.ensures.count c.in_ok-put_audits.ensures.left
    (subst (λ (es : List (Entry _)). Adds text counted (g.W.Write.contents (wrapped c.put_audits.new.writer))
    (g.W.Write.contents (wrapped c.put_entries.new.writer)) c.put_audits.new.self.scribe c.put_entries.new.scribe (pieces_of es))
    c.as_slice-3.ensures.value c.in_ok-put_entries.ensures.adds)

pub returns-clause-more : goal.returns-clause-more
returns-clause-more g c =
    let k = c.args.machine.now in
    let some = exchange_some (g.M.Machine.model k) (g.met.M.Machine.simulable k c.recall.ensures) c.args.self.now.world c.requires.at.1.world
    c.args.opening.horizon c.args.dones.items c.requires.done in
    omega (arith, some, c.in_ok-lists.ensures.count)

pub returns-in_err-put_audits-clause-counted_first : goal.returns-in_err-put_audits-clause-counted_first
returns-in_err-put_audits-clause-counted_first g c = λ more. absurd (omega (
  arith,
  more,
  c.in-Some.ensures.some,
  ap events_in c.as_slice.ensures.value,
  c.max_events.ensures,
  c.requires.at.1.world.within,
))

pub returns-in_err-lists-clause-counted_first : goal.returns-in_err-lists-clause-counted_first
returns-in_err-lists-clause-counted_first g c = λ more. absurd (omega (
  arith,
  more,
  c.in-Some.ensures.some,
  ap events_in c.as_slice.ensures.value,
  c.max_events.ensures,
  c.requires.at.1.world.within,
))

pub returns-in_err-entries-clause-counted_first : goal.returns-in_err-entries-clause-counted_first
returns-in_err-entries-clause-counted_first g c = λ more. absurd (omega (
  arith,
  more,
  c.in-Some.ensures.some,
  ap events_in c.as_slice.ensures.value,
  c.max_events.ensures,
  c.requires.at.1.world.within,
))

pub returns-in_err-put_entries-clause-counted_first : goal.returns-in_err-put_entries-clause-counted_first
returns-in_err-put_entries-clause-counted_first g c = λ more. absurd (omega (
  arith,
  more,
  c.in-Some.ensures.some,
  ap events_in c.as_slice.ensures.value,
  c.max_events.ensures,
  c.requires.at.1.world.within,
))

pub returns-clause-counted_first : goal.returns-clause-counted_first
returns-clause-counted_first g c = λ more. absurd (omega (
  arith,
  more,
  c.in-Some.ensures.some,
  ap events_in c.as_slice.ensures.value,
  c.max_events.ensures,
  c.requires.at.1.world.within,
))

pub exchange_in_order-requires-clause-world : goal.exchange_in_order-requires-clause-world
exchange_in_order-requires-clause-world g c = c.requires.at.1.world

pub exchange_in_order-requires-clause-done : goal.exchange_in_order-requires-clause-done
exchange_in_order-requires-clause-done g c = (c.args.opening.horizon, c.requires.done)

pub exchange_in_order-requires-clause-events : goal.exchange_in_order-requires-clause-events
exchange_in_order-requires-clause-events g c = c.in-Some.ensures.some.0 ∙ ap events_in c.as_slice.ensures.value

pub exchange_in_order-requires-clause-within : goal.exchange_in_order-requires-clause-within
exchange_in_order-requires-clause-within g c = omega (arith, c.in-Some.ensures.some.1, c.max_events.ensures, c.requires.at.1.world.within)

pub returns-clause-count : goal.returns-clause-count
returns-clause-count g c = c.in_ok-lists.ensures.count

pub returns-clause-division : goal.returns-clause-division
returns-clause-division g c = c.in_ok-lists.ensures.division

pub returns-clause-writer : goal.returns-clause-writer
returns-clause-writer g c = c.in_ok-put_entries.ensures.writer
