use Rattle.std.proofs.Common.{◌≡◌, ◌∙◌, ◌<◌, ◌≤◌, arith, length, nat_le, nat_lt, sym}
use Rattle.std.proofs.lemmas.List.{length-map}
use Rattle.chord_trace.specs.declared.found_lookups.Found.{Found}
use Rattle.chord_trace.specs.LookupTimes.{timed}
use Rattle.chord_trace.specs.Numbers.{half_of, times_of}
use Rattle.chord_trace.proofs.Bounds.{all_up_to}
use Rattle.chord_trace.proofs.found_lookups.FoundLookups.us_median.Goals as goal

pub returns : goal.returns
returns c seen has =
    let len = c.args.self.now.len in
    let greatest = c.args.self.now.us_greatest in
    let median = c.nth_least.result in
    let all : length (times_of seen) ≡ len = length-map seen (λ (found : Found). found.us) ∙ sym has.len in
    let half : c.div_ceil.result ≡ half_of (length (times_of seen)) = omega (arith, all, c.div_ceil.ensures) in
    let some : 0 < len = omega (arith, c.if-self-eq0.false) in
    let within = all_up_to greatest (times_of seen) (omega (arith, has.us_greatest)) in
    let so_many : c.div_ceil.result ≤ timed (λ time. nat_le time greatest) c.args.self.now.times = omega (
      arith,
      all,
      half,
      some,
      within,
      has.times (λ time. nat_le time greatest),
    ) in
    record {
      none = λ is. absurd (c.if-self-eq0.false (sym all ∙ is));
      below = λ _. omega (arith, half, c.nth_least.ensures.below, has.times (λ time. nat_lt time median));
      up_to = omega (arith, half, c.nth_least.ensures.up_to so_many, has.times (λ time. nat_le time median));
    }
