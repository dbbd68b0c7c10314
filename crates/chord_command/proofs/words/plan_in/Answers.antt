use Rattle.std.proofs.Common.{◌∙◌, ◌≤◌, ℕ, Option, Some, None, ap, sym, arith, codes}
use Rattle.std.specs.Prelude.{IfSome}
use Rattle.clap.specs.Words.{Text, found_of, one_text}
use Rattle.clap.proofs.WalkLemmas.{one_text-rows}
use Rattle.chord_command.specs.Orders.{IsCountUpTo, count_or}
use Rattle.chord_command.proofs.words.plan_in.Goals as goal

-- a count that was given, or its default, lies in the range
in_range : (o : Option Text) (most default : ℕ) → 1 ≤ default → default ≤ most → IfSome o (IsCountUpTo most)
    → (1 ≤ count_or default o) × (count_or default o ≤ most)
in_range None most default some few fits = (some, few)
in_range (Some t) most default some few fits = (fits.1, fits.2)

pub invariant_of-result : goal.invariant_of-result
invariant_of-result c =
    let found = found_of c.args.matches.now in
    let workers = in_range (one_text found (codes "workers")) 64 1 (omega arith) (omega arith) c.requires.workers in
    let workers_are = c.count_in-workers.ensures ∙ ap (count_or 1) (sym (one_text-rows found (codes "workers"))) in
    let some_workers : 1 ≤ c.count_in-workers.result = rw workers_are workers.0 in
    let few_workers : c.count_in-workers.result ≤ 64 = rw workers_are workers.1 in
    let parts = in_range (one_text found (codes "parts")) 512 c.count_in-workers.result some_workers (omega (arith, few_workers)) c.requires.parts in
    let parts_are = c.count_in-parts.ensures ∙ ap (count_or c.count_in-workers.result) (sym (one_text-rows found (codes "parts"))) in
    record {
      some_workers = some_workers;
      few_workers = few_workers;
      some_parts = rw parts_are parts.0;
      few_parts = rw parts_are parts.1;
    }
