use Rattle.std.proofs.Common.{◌∙◌, sym}
use Rattle.chord_ops.proofs.Looks.{is_near, passed_behind, passed_beyond, reached, seen_there}
use Rattle.chord_ops.proofs.search.look.Goals.{then-way-near-via-then-way-near, then-way-near-via-else-way-near+then-near-saturating_sub}
use Rattle.chord_ops.proofs.search.look.Goals as goal

pub returns-then-way-near-clause-value : goal.returns-then-way-near-clause-value
returns-then-way-near-clause-value c =
    let sc = c.args.scenario.now in
    let way = c.args.way.now in
    let is = is_near sc way c.args.node c.leading.result c.recall_range.ensures c.requires.node c.leading.ensures c.if-near-gt0.true in
    elim c.then-way-near.branch [
      | then-way-near-via-then-way-near w ↦ sym (passed_beyond sc way c.args.avoid.now c.args.seen.closest c.args.node _ c.requires.way is w.if-way-near.true)
      | then-way-near-via-else-way-near+then-near-saturating_sub w ↦
          sym (passed_behind sc way c.args.avoid.now c.args.seen c.args.node _ c.requires.way c.requires.seen is (rw (← w.saturating_sub.ensures) w.if-near-saturating_sub.true))
    ]

pub returns-then-is_free-clause-value : goal.returns-then-is_free-clause-value
returns-then-is_free-clause-value c =
    let sc = c.args.scenario.now in
    let way = c.args.way.now in
    let is = is_near sc way c.args.node c.leading.result c.recall_range.ensures c.requires.node c.leading.ensures c.if-near-gt0.true in
    sym (reached sc way c.args.avoid.now c.args.seen c.args.node _ c.requires.way c.requires.seen is c.if-seen-near.true c.if-near-way.true
    (sym c.is_free.ensures ∙ c.if-is_free.true))

pub returns-then-is_free-clause-seen : goal.returns-then-is_free-clause-seen
returns-then-is_free-clause-seen c =
    let sc = c.args.scenario.now in
    let way = c.args.way.now in
    let is = is_near sc way c.args.node c.leading.result c.recall_range.ensures c.requires.node c.leading.ensures c.if-near-gt0.true in
    seen_there sc way c.args.node _ c.requires.way c.requires.node is
