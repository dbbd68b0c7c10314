use Rattle.std.proofs.Common.{Err, Ok, OnOk, Result, filter, not, subst, sym}
use Rattle.chord_judge.specs.Judged.{is_of}
use Rattle.chord_judge.specs.Open.{Holds}
use Rattle.chord_judge.proofs.judge.Judge.stop.Goals as goal

always : {A E : Type 0} (Q : Type 0) (r : Result A E) → Q → OnOk r Q
always Q (Ok x) q = q
always Q (Err e) q = tt

pub returns-clause-left : goal.returns-clause-left
returns-clause-left c =
    always _ c.change.result (λ lookups held.
    subst (Holds (filter (λ lookup. not (is_of c.args.node lookup)) lookups)) (sym c.change.ensures.lookups) (c.in_ok-cut_off.ensures.left lookups held))
