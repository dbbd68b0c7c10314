use Rattle.std.proofs.Common.{◌≡◌, ◌∙◌, ◌++◌, ap, sym, arith, count_by, length, sum}
use Rattle.std.proofs.lemmas.List.{length-append, length-map, map-append}
use Rattle.std.proofs.lemmas.List.Sums.{sum_by-append}
use Rattle.chord_trace.specs.Numbers.{greatest, least, hops_of, timeouts_of, times_of}
use Rattle.chord_trace.proofs.Additive.{count_by-append}
use Rattle.chord_trace.proofs.Bounds.{greatest-append, least_of_first, least_of_second, least_of_both}
use Rattle.chord_trace.proofs.found_lookups.FoundLookups.join.Goals as goal
use Rattle.chord_trace.proofs.found_lookups.FoundLookups.join.Goals.{then-self-eq0, else-self-eq0+then-other-eq0, else-self-eq0+else-other-eq0}
use Rattle.chord_trace.specs.declared.found_lookups.Found.{Found}

pub returns-clause-has : goal.returns-clause-has
returns-clause-has c seen more s t =
    let hops : hops_of (seen ++ more) ≡ hops_of seen ++ hops_of more = map-append (λ found. found.hops) seen more in
    let late : timeouts_of (seen ++ more) ≡ timeouts_of seen ++ timeouts_of more = map-append (λ found. found.timeouts) seen more in
    let times : times_of (seen ++ more) ≡ times_of seen ++ times_of more = map-append (λ found. found.us) seen more in
    let mine : length (times_of seen) ≡ c.args.self.len = length-map seen (λ (found : Found). found.us) ∙ sym s.len in
    let others : length (times_of more) ≡ c.args.other.len = length-map more (λ (found : Found). found.us) ∙ sym t.len in
    let least_time : c.if-self-eq0.us_least ≡ least (times_of seen ++ times_of more) = elim c.if-self-eq0.branch [
      | then-self-eq0 w ↦ w.us_least-is ∙ t.us_least ∙ sym (least_of_second (times_of seen) (times_of more) (mine ∙ w.if-self-eq0.true))
      | else-self-eq0+then-other-eq0 w ↦ w.us_least-is ∙ s.us_least ∙ sym (least_of_first (times_of seen) (times_of more) (others ∙ w.if-other-eq0.true))
      | else-self-eq0+else-other-eq0 w ↦
          omega (
            arith,
            w.us_least-is,
            w.min.ensures,
            s.us_least,
            t.us_least,
            least_of_both (times_of seen) (times_of more)
                (λ e. w.if-self-eq0.false (sym mine ∙ e)) (λ e. w.if-other-eq0.false (sym others ∙ e)),
          )
    ] in
    record {
      len = omega (arith, s.len, t.len, length-append seen more);
      hops_sum = omega (arith, s.hops_sum, t.hops_sum, ap sum hops, sum_by-append (λ n. n) (hops_of seen) (hops_of more));
      hops_greatest = omega (arith, c.max.ensures, s.hops_greatest, t.hops_greatest, ap greatest hops, greatest-append (hops_of seen) (hops_of more));
      timeouts_sum = omega (arith, s.timeouts_sum, t.timeouts_sum, ap sum late, sum_by-append (λ n. n) (timeouts_of seen) (timeouts_of more));
      us_sum = omega (arith, s.us_sum, t.us_sum, ap sum times, sum_by-append (λ n. n) (times_of seen) (times_of more));
      us_least = least_time ∙ ap least (sym times);
      us_greatest = omega (arith, c.max-2.ensures, s.us_greatest, t.us_greatest, ap greatest times, greatest-append (times_of seen) (times_of more));
      times = λ test. omega (
        arith,
        c.in_ok-join.ensures test,
        s.times test,
        t.times test,
        ap (count_by test) times,
        count_by-append test
            (times_of seen) (times_of more),
      );
    }
