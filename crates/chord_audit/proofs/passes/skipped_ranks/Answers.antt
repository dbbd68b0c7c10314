use Rattle.std.proofs.Common.{◌≡◌, ◌∙◌, ◌||◌, ◌&&◌, Bool, ℕ, ◌<◌, sym, ap, arith, length}
use Rattle.std.specs.List.{list_any, range_with_len}
use Rattle.chord_audit.specs.declared.arcs.Arcs.{Arcs}
use Rattle.chord_audit.specs.Tables.{reaches, is_inside_before, is_skipping, node_at}
use Rattle.chord_audit.proofs.Lists.{ok_then, one_more, or_none}
use Rattle.chord_audit.proofs.Reaches.{marked_covered, length-covered}
use Rattle.chord_audit.proofs.passes.skipped_ranks.Goals as goal
use Rattle.chord_audit.proofs.passes.skipped_ranks.Goals.{then-marks-node+in-Some, then-marks-node+in_default, else-marks-node}

pub loop-node-preserved : goal.loop-node-preserved
loop-node-preserved c =
    let ranks = c.args.ranks.now in let marks = c.args.marks.now in let best = c.args.best.now in let n = c.loop-node.node in
    let old = c.loop-node.arcs in let each = c.loop-node.invariant.each in
    let step = λ (k : ℕ) (lt : k < length ranks) (now : Bool). one_more (is_skipping ranks marks best k) n (reaches old.first old.far.items k) now
    (c.loop-node.invariant.covered k lt) in
    elim c.if-marks-node.branch [
      | then-marks-node+in-Some w ↦ record {
        each = ap (λ (a : Arcs). length a.far.items) w.arcs-is ∙ w.add.ensures.length ∙ each;
        covered = λ k lt.
            let marked = ap (λ b. b && is_inside_before ranks k n (node_at best n)) w.if-marks-node.true ∙ ap (is_inside_before ranks k n) w.in-Some.is in
            step k lt (reaches c.if-marks-node.arcs.first c.if-marks-node.arcs.far.items k)
            (ap (λ (a : Arcs). reaches a.first a.far.items k) w.arcs-is ∙ w.add.ensures.covered k (omega (arith, each))
            ∙ ap (λ b. reaches old.first old.far.items k || b) (sym marked));
      }
      | then-marks-node+in_default w ↦ record {
        each = ap (λ (a : Arcs). length a.far.items) w.arcs-is ∙ each;
        covered = λ k lt.
            let marked = ap (λ b. b && is_inside_before ranks k n (node_at best n)) w.if-marks-node.true ∙ ap (is_inside_before ranks k n) w.in_default.is in
            step k lt (reaches c.if-marks-node.arcs.first c.if-marks-node.arcs.far.items k)
            (ap (λ (a : Arcs). reaches a.first a.far.items k) w.arcs-is
            ∙ or_none (reaches old.first old.far.items k) (is_skipping ranks marks best k n) marked);
      }
      | else-marks-node w ↦ record {
        each = ap (λ (a : Arcs). length a.far.items) w.arcs-is ∙ each;
        covered = λ k lt.
            step k lt (reaches c.if-marks-node.arcs.first c.if-marks-node.arcs.far.items k)
            (ap (λ (a : Arcs). reaches a.first a.far.items k) w.arcs-is
            ∙ or_none (reaches old.first old.far.items k) (is_skipping ranks marks best k n)
            (ap (λ b. b && is_inside_before ranks k n (node_at best n)) w.if-marks-node.false));
      }
    ]

pub returns-clause-length : goal.returns-clause-length
returns-clause-length c =
    let arcs = c.loop-node.arcs in
    ok_then c.covered.result _ _ c.covered.ensures (λ marks is. length-covered arcs.first (length c.args.ranks.now) arcs.far.items marks.items
    c.loop-node.invariant.each is)

pub returns-clause-skipped : goal.returns-clause-skipped
returns-clause-skipped c =
    let arcs = c.loop-node.arcs in let ranks = c.args.ranks.now in
    let all : c.loop-node.node ≡ length ranks = omega arith in
    ok_then c.covered.result _ _ c.covered.ensures (λ marks is k lt.
    marked_covered arcs.first k (length ranks) arcs.far.items marks.items c.loop-node.invariant.each is lt
    ∙ c.loop-node.invariant.covered k lt
    ∙ ap (λ n. list_any (is_skipping ranks c.args.marks.now c.args.best.now k) (range_with_len 0 n)) all)
