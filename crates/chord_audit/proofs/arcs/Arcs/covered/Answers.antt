use Rattle.std.proofs.Common.{◌∙◌, ◌∷◌, [], ◌++◌, List, Bool, ap, arith, sym, zero-add}
use Rattle.std.proofs.lemmas.List.FromFn.{map-range_with_len_more}
use Rattle.chord_audit.proofs.Reaches.{reached_more}
use Rattle.chord_audit.specs.Tables.{reaches}
use Rattle.chord_audit.proofs.arcs.Arcs.covered.Goals as goal

pub loop-rank-preserved : goal.loop-rank-preserved
loop-rank-preserved c =
    let first = c.args.self.now.first in let far = c.args.self.now.far.items in let rank = c.loop-rank.rank in record {
      marks =
          c.in_ok-push.ensures.items
          ∙ ap (λ (b : Bool). c.loop-rank.marks.items ++ b ∷ []) (c.loop-rank.invariant.top rank)
          ∙ ap (λ (l : List Bool). l ++ reaches first far rank ∷ []) c.loop-rank.invariant.marks
          ∙ sym (map-range_with_len_more (reaches first far) 0 rank rank (zero-add rank));
      top = λ k.
          reached_more k rank far c.deref-end-items.result.now first c.loop-rank.top c.max-top.result c.deref-end-items.ensures.value (omega arith)
          (c.loop-rank.invariant.top k) c.max-top.ensures;
    }
