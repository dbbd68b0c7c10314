-- What a report of PHOLD has counted.
use Rattle.std.proofs.Common.{◌≡◌, ◌∙◌, ◌+◌, List, [], ◌∷◌, ◌++◌, length-append, sym, arith}
use Rattle.std.proofs.lemmas.List.Sorted.{length_permutation, sum_by-IsPermutation}
use Rattle.std.proofs.lemmas.List.Sums.{sum_by-append}
use Rattle.std.specs.List.Sorted.{IsPermutation}
use Rattle.phold_rules.specs.Counts.{AreCounts, remote_of}
use Rattle.phold_rules.specs.declared.hop.Hop.{Hop}
use Rattle.phold_rules.specs.declared.report.PholdReport.{PholdReport}

-- the counts of two lists add up to those of both
pub joined : (xs ys : List Hop) (a b c : PholdReport) → c.events ≡ a.events + b.events → c.remote ≡ a.remote + b.remote
    → c.time_sum ≡ a.time_sum + b.time_sum → AreCounts xs a → AreCounts ys b → AreCounts (xs ++ ys) c
joined xs ys a b c events remote times mine others = record {
  events = omega (arith, events, mine.events, others.events, length-append xs ys);
  remote = omega (arith, remote, mine.remote, others.remote, sum_by-append remote_of xs ys);
  time_sum = omega (arith, times, mine.time_sum, others.time_sum, sum_by-append (λ (hop : Hop). hop.time) xs ys);
}

-- one hop more
pub one_more : (hops : List Hop) (hop : Hop) (a c : PholdReport) → c.events ≡ a.events + 1 → c.remote ≡ a.remote + remote_of hop → c.time_sum ≡ a.time_sum + hop.time
    → AreCounts hops a → AreCounts (hops ++ hop ∷ []) c
one_more hops hop a c events remote times counts = joined hops (hop ∷ []) a (record { events = 1; remote = remote_of hop; time_sum = hop.time }) c events remote times counts (record {
  events = omega arith;
  remote = omega arith;
  time_sum = omega arith;
})

-- their order does not matter
pub reordered : (hops others : List Hop) (r : PholdReport) → IsPermutation hops others → AreCounts hops r → AreCounts others r
reordered hops others r moved counts = record {
  events = counts.events ∙ sym (length_permutation hops others moved);
  remote = counts.remote ∙ sym (sum_by-IsPermutation remote_of hops others moved);
  time_sum = counts.time_sum ∙ sym (sum_by-IsPermutation (λ (hop : Hop). hop.time) hops others moved);
}
