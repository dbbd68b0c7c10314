use Rattle.std.proofs.Common.{◌-◌, ◌∙◌, arith}
use Rattle.chord_judge.proofs.NamedNodes.{names_more}
use Rattle.chord_judge.proofs.names.names_of.Goals as goal

pub loop-node-preserved : goal.loop-node-preserved
loop-node-preserved c =
    let node = c.loop-node.node - 1 in record {
      within = omega arith;
      has = λ name. names_more c.args.scenario.now node c.loop-node.node c.in_ok-name.name c.loop-node.names c.insert.new.self name (omega arith) (omega arith)
          (c.in_ok-name.ensures.items ∙ c.as_bytes.ensures.value ∙ c.name.ensures) c.in_ok-insert.ensures.entries (c.loop-node.invariant.has name);
    }
