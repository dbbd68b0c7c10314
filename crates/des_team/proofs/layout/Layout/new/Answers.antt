use Rattle.std.proofs.Common.{◌∙◌, arith}
use Rattle.des_team.proofs.Slots.{layout_of}
use Rattle.des_team.proofs.layout.Layout.new.Goals as goal

pub returns-clause-layout : goal.returns-clause-layout
returns-clause-layout g c =
    layout_of (g.M.Machine.model c.args.machine.now).nodes c.args.division.now c.in_ok-try_clone.field-0 c.in_ok-slots.slots
    (omega (arith, c.nodes-2.ensures, c.nodes-2.type_inv)) c.in_ok-try_clone.ensures
    (record { whole = omega (arith, c.if-nodes.false, c.nodes.ensures, c.nodes-2.ensures); in_range = c.recall_division.ensures.below })
    (c.in_ok-slots.ensures.long ∙ c.nodes-3.ensures)
    (λ i k. c.in_ok-slots.ensures.counted i (omega (arith, k, c.nodes-3.ensures)))
