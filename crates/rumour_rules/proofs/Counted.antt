-- What a report of the rumour has counted.
use Rattle.std.proofs.Common.{◌≡◌, ◌∙◌, ◌+◌, List, [], ◌∷◌, ◌++◌, length-append, sym, arith}
use Rattle.std.proofs.lemmas.List.Sorted.{length_permutation, sum_by-IsPermutation}
use Rattle.std.proofs.lemmas.List.Sums.{sum_by-append}
use Rattle.std.specs.List.Sorted.{IsPermutation}
use Rattle.rumour_rules.specs.Counts.{AreCounts, first_of}
use Rattle.rumour_rules.specs.declared.report.Report.{Report}
use Rattle.rumour_rules.specs.declared.rules.Told.{Told}

-- the counts of two lists add up to those of both
pub joined : (xs ys : List Told) (a b c : Report) → c.heard ≡ a.heard + b.heard → c.told ≡ a.told + b.told
    → AreCounts xs a → AreCounts ys b → AreCounts (xs ++ ys) c
joined xs ys a b c heard told mine others = record {
  heard = omega (arith, heard, mine.heard, others.heard, sum_by-append first_of xs ys);
  told = omega (arith, told, mine.told, others.told, length-append xs ys);
}

-- one piece more
pub one_more : (pieces : List Told) (piece : Told) (a c : Report) → c.heard ≡ a.heard + first_of piece → c.told ≡ a.told + 1
    → AreCounts pieces a → AreCounts (pieces ++ piece ∷ []) c
one_more pieces piece a c heard told counts =
    joined pieces (piece ∷ []) a (record { heard = first_of piece; told = 1 }) c heard told counts (record { heard = omega arith; told = omega arith })

-- their order does not matter
pub reordered : (pieces others : List Told) (r : Report) → IsPermutation pieces others → AreCounts pieces r → AreCounts others r
reordered pieces others r moved counts = record {
  heard = counts.heard ∙ sym (sum_by-IsPermutation first_of pieces others moved);
  told = counts.told ∙ sym (length_permutation pieces others moved);
}
