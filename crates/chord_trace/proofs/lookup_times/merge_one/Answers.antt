use Rattle.std.proofs.Common.{◌≡◌, ◌<◌, ◌∙◌, ◌+◌, ◌-◌, ℕ, ap, arith, cond, drop-set-lt, length, refl, take}
use Rattle.std.proofs.lemmas.Grind.{take-set_at}
use Rattle.std.proofs.lemmas.List.Sums.{sum_by_more, sum_by_push}
use Rattle.chord_trace.specs.LookupTimes.{counted}
use Rattle.chord_trace.specs.declared.lookup_times.TimeCount.{TimeCount}
use Rattle.chord_trace.proofs.lookup_times.merge_one.Goals as goal

pub returns-in-Some-clause-rest : goal.returns-in-Some-clause-rest
returns-in-Some-clause-rest c = drop-set-lt (c.args.merged + 1) c.args.entries.now.items (c.args.merged - 1) c.in-Some.both (omega arith)

pub returns-in-Some-clause-more : goal.returns-in-Some-clause-more
returns-in-Some-clause-more c = λ test.
    let es = c.args.entries.now.items in let merged = c.args.merged in let last = merged - 1 in let both = c.in-Some.both in
    let weight : TimeCount → ℕ = λ x. cond (test x.us) x.count 0 in
    let next : merged ≡ last + 1 = omega (arith, c.if-merged-gt0.true) in
    let inside : last < length es = omega (arith, c.requires) in
    omega (
      arith,
      ap (counted test) (take-set_at es last merged both next inside),
      sum_by_push weight (take last es) both,
      ap (λ n. counted test (take n es)) next,
      sum_by_more weight es last c.index.result.now inside,
      ap weight c.index.ensures,
      c.in-Some.ensures test,
    )

pub returns-clause-rest : goal.returns-clause-rest
returns-clause-rest c = drop-set-lt (c.args.merged + 1) c.args.entries.now.items c.args.merged c.args.entry (omega arith)

pub returns-clause-more : goal.returns-clause-more
returns-clause-more c = λ test.
    let es = c.args.entries.now.items in let merged = c.args.merged in
    ap (counted test) (take-set_at es merged (merged + 1) c.args.entry refl c.requires)
    ∙ sum_by_push (λ (x : TimeCount). cond (test x.us) x.count 0) (take merged es) c.args.entry
