-- Numbers of a trace that are added up piece by piece: what they are of two traces together, and
-- that the order of the pieces does not change them.
use Rattle.std.proofs.Common.{◌≡◌, ◌∙◌, ℕ, ◌+◌, Bool, List, [], ◌∷◌, ◌++◌, ap, arith, cond, count_by, length, sum_by}
use Rattle.std.specs.List.{filter_map}
use Rattle.std.specs.List.Sorted.{IsPermutation}
use Rattle.std.proofs.lemmas.List.{length-append, map-append}
use Rattle.std.proofs.lemmas.List.Concat.{flat_map-append}
use Rattle.std.proofs.lemmas.List.Elements.{filter_map-append}
use Rattle.std.proofs.lemmas.List.Sorted.{sum_by-IsPermutation}
use Rattle.std.proofs.lemmas.List.Sums.{sum_by-append, sum_by-cons}
use Rattle.chord_audit.specs.declared.audit_line.AuditLine.{AuditLine}
use Rattle.chord_event.specs.declared.line.Line.{Line}
use Rattle.chord_trace.specs.Kinds.{found_in}
use Rattle.chord_trace.specs.Numbers.{hops_of, timeouts_of, times_of}
use Rattle.chord_trace.specs.Pieces.{block_in, audit_in, lines_in, blocks_of, lines_of, audits_of}
use Rattle.chord_trace.specs.Report.{found_lookups}
use Rattle.chord_trace.specs.declared.piece.Piece.{Piece}

-- the number of two lists together is the sum of their numbers
abbrev pub IsAdditive : {X : Type 0} → (List X → ℕ) → Type 0
IsAdditive {X} f = (xs ys : List X) → f (xs ++ ys) ≡ f xs + f ys

by_items : {X : Type 0} (f : List X → ℕ) → IsAdditive f → (xs : List X) → f xs ≡ sum_by (λ x. f (x ∷ [])) xs
by_items f add [] = omega (arith, add [] [])
by_items f add (x ∷ xs) = omega (arith, add (x ∷ []) xs, by_items f add xs, sum_by-cons (λ y. f (y ∷ [])) x xs)

pub same_number : {X : Type 0} (f : List X → ℕ) → IsAdditive f → (xs ys : List X) → IsPermutation xs ys → f xs ≡ f ys
same_number f add xs ys moved = omega (arith, by_items f add xs, by_items f add ys, sum_by-IsPermutation (λ x. f (x ∷ [])) xs ys moved)

pub count_by-append : {X : Type 0} (p : X → Bool) → IsAdditive (count_by p)
count_by-append p xs ys = sum_by-append (λ x. cond (p x) 1 0) xs ys

pub blocks-append : (xs ys : List Piece) → blocks_of (xs ++ ys) ≡ blocks_of xs ++ blocks_of ys
blocks-append xs ys = filter_map-append block_in xs ys

pub audits-append : (xs ys : List Piece) → audits_of (xs ++ ys) ≡ audits_of xs ++ audits_of ys
audits-append xs ys = filter_map-append audit_in xs ys

pub lines-append : (xs ys : List Piece) → lines_of (xs ++ ys) ≡ lines_of xs ++ lines_of ys
lines-append xs ys = flat_map-append lines_in xs ys

pub founds-append : (xs ys : List Piece) → found_lookups (xs ++ ys) ≡ found_lookups xs ++ found_lookups ys
founds-append xs ys = ap (filter_map found_in) (lines-append xs ys) ∙ filter_map-append found_in (lines_of xs) (lines_of ys)

pub hops-append : (xs ys : List Piece) → hops_of (found_lookups (xs ++ ys)) ≡ hops_of (found_lookups xs) ++ hops_of (found_lookups ys)
hops-append xs ys = ap hops_of (founds-append xs ys) ∙ map-append (λ found. found.hops) (found_lookups xs) (found_lookups ys)

timeouts-append : (xs ys : List Piece) → timeouts_of (found_lookups (xs ++ ys)) ≡ timeouts_of (found_lookups xs) ++ timeouts_of (found_lookups ys)
timeouts-append xs ys = ap timeouts_of (founds-append xs ys) ∙ map-append (λ found. found.timeouts) (found_lookups xs) (found_lookups ys)

pub times-append : (xs ys : List Piece) → times_of (found_lookups (xs ++ ys)) ≡ times_of (found_lookups xs) ++ times_of (found_lookups ys)
times-append xs ys = ap times_of (founds-append xs ys) ∙ map-append (λ found. found.us) (found_lookups xs) (found_lookups ys)

-- what is counted of the pieces of a trace
pub blocks-add : IsAdditive (λ pieces. length (blocks_of pieces))
blocks-add xs ys = ap length (blocks-append xs ys) ∙ length-append (blocks_of xs) (blocks_of ys)

pub audits-add : IsAdditive (λ pieces. length (audits_of pieces))
audits-add xs ys = ap length (audits-append xs ys) ∙ length-append (audits_of xs) (audits_of ys)

pub audits_by-add : (p : AuditLine → Bool) → IsAdditive (λ pieces. count_by p (audits_of pieces))
audits_by-add p xs ys = ap (count_by p) (audits-append xs ys) ∙ count_by-append p (audits_of xs) (audits_of ys)

pub lines_by-add : (p : Line → Bool) → IsAdditive (λ pieces. count_by p (lines_of pieces))
lines_by-add p xs ys = ap (count_by p) (lines-append xs ys) ∙ count_by-append p (lines_of xs) (lines_of ys)

pub hops_by-add : (f : ℕ → ℕ) → IsAdditive (λ pieces. sum_by f (hops_of (found_lookups pieces)))
hops_by-add f xs ys = ap (sum_by f) (hops-append xs ys) ∙ sum_by-append f (hops_of (found_lookups xs)) (hops_of (found_lookups ys))

pub timeouts_by-add : (f : ℕ → ℕ) → IsAdditive (λ pieces. sum_by f (timeouts_of (found_lookups pieces)))
timeouts_by-add f xs ys =
    ap (sum_by f) (timeouts-append xs ys) ∙ sum_by-append f (timeouts_of (found_lookups xs)) (timeouts_of (found_lookups ys))

pub times_by-add : (f : ℕ → ℕ) → IsAdditive (λ pieces. sum_by f (times_of (found_lookups pieces)))
times_by-add f xs ys = ap (sum_by f) (times-append xs ys) ∙ sum_by-append f (times_of (found_lookups xs)) (times_of (found_lookups ys))

pub times-add : IsAdditive (λ pieces. length (times_of (found_lookups pieces)))
times-add xs ys = ap length (times-append xs ys) ∙ length-append (times_of (found_lookups xs)) (times_of (found_lookups ys))
