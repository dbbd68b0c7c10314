-- What is kept of a row gives the same results as the row.
use Rattle.std.proofs.Common.{◌≡◌, ◌∙◌, ap, refl, ℕ, ◌+◌, Bool, true, false, ◌||◌, List, [], ◌∷◌, map, find, Option, Some, None, option_map, bytes_eq, inl, inr}
use Rattle.std.specs.Option.{is_none, option_map_or}
use Rattle.std.specs.List.{enumerate_from}
use Rattle.std.proofs.lemmas.Bool.{cases_Bool}
use Rattle.std.proofs.lemmas.Option.{same_Some}
use Rattle.chord_scenario.specs.declared.fault.ScenarioFault.{ScenarioFault}
use Rattle.chord_scenario.specs.declared.key.Place.{Place}
use Rattle.chord_scenario.specs.declared.key.Place.TheVariants as place
use Rattle.chord_scenario.specs.declared.latency.Ends.{Ends}
use Rattle.chord_scenario.specs.declared.row.RowLink.{RowLink}
use Rattle.chord_scenario.specs.declared.setting.Node.{Node}
use Rattle.chord_scenario.specs.Settings.{index_of}
use Rattle.chord_scenario.specs.Rows.{Row, Link, link_of, is_bad_row}
use Rattle.chord_scenario.specs.Latencies.{kept_link, keeps_bad_row, keeps_unknown, keeps_itself, KeepsEnds}
use Rattle.chord_scenario.specs.Search.{row_fault}
use Rattle.chord_scenario.specs.Faults.{row_names_unknown, row_joins_itself}
use Rattle.chord_scenario.proofs.LatencyLemmas.{IsEndsOf}
use Rattle.chord_scenario.proofs.Links.{link_latency-range}

abbrev kept_of : List Node → Link → RowLink
kept_of nodes l = record { first = index_of l.first nodes; second = index_of l.second nodes; itself = bytes_eq l.first l.second; latency = l.latency }

pub kept_bad : (nodes : List Node) (r : Row) → keeps_bad_row (kept_link nodes r) ≡ is_bad_row r
kept_bad nodes r = by_case (link_of r)
  where
    by_case : (o : Option Link) → keeps_bad_row (option_map (kept_of nodes) o) ≡ option_map_or (λ l. is_none l.latency) o true
    by_case None = refl
    by_case (Some l) = refl

pub kept_unknown : (nodes : List Node) (r : Row) → keeps_unknown (kept_link nodes r) ≡ row_names_unknown nodes r
kept_unknown nodes r = by_case (link_of r)
  where
    by_case : (o : Option Link) → keeps_unknown (option_map (kept_of nodes) o)
        ≡ option_map_or (λ l. is_none (index_of l.first nodes) || is_none (index_of l.second nodes)) o false
    by_case None = refl
    by_case (Some l) = refl

pub kept_itself : (nodes : List Node) (r : Row) → keeps_itself (kept_link nodes r) ≡ row_joins_itself r
kept_itself nodes r = by_case (link_of r)
  where
    by_case : (o : Option Link) → keeps_itself (option_map (kept_of nodes) o) ≡ option_map_or (λ l. bytes_eq l.first l.second) o false
    by_case None = refl
    by_case (Some l) = refl

find-kept : (keep : Row → Option RowLink) (test : Option RowLink → Bool) (own : Row → Bool) → ((r : Row) → test (keep r) ≡ own r) → (n : ℕ) (rows : List Row)
    → find (λ p. test p.1) (enumerate_from n (map keep rows)) ≡ option_map (λ (p : ℕ × Row). (p.0, keep p.1)) (find (λ p. own p.1) (enumerate_from n rows))
find-kept keep test own same n [] = refl
find-kept keep test own same n (r ∷ rows) =
    elim (cases_Bool (own r)) [
      | inl here ↦ rw (same r, here) refl
      | inr other ↦ rw (same r, other) (find-kept keep test own same (n + 1) rows)
    ]

-- the first row of which a question holds, found from what is kept
pub row_fault-kept : (fault : Place → ScenarioFault) (keep : Row → Option RowLink) (test : Option RowLink → Bool) (own : Row → Bool)
    → ((r : Row) → test (keep r) ≡ own r) → (rows : List Row)
    → row_fault fault test (map keep rows) ≡ row_fault fault own rows
row_fault-kept fault keep test own same rows =
    ap (option_map (λ (p : ℕ × Option RowLink). fault (place.Row p.0))) (find-kept keep test own same 1 rows)
    ∙ twice (find (λ p. own p.1) (enumerate_from 1 rows))
  where
    twice : (o : Option (ℕ × Row)) → option_map (λ (p : ℕ × Option RowLink). fault (place.Row p.0)) (option_map (λ (p : ℕ × Row). (p.0, keep p.1)) o)
        ≡ option_map (λ (p : ℕ × Row). fault (place.Row p.0)) o
    twice None = refl
    twice (Some p) = refl

-- the ends that are kept are those of the row
pub kept_ends : (nodes : List Node) (r : Row) (e : Ends) → KeepsEnds (kept_link nodes r) e → IsEndsOf nodes r e
kept_ends nodes r e k = by_case (link_of r) refl k.is
  where
    by_case : (o : Option Link) → link_of r ≡ o → option_map (kept_of nodes) o ≡ Some k.link → IsEndsOf nodes r e
    by_case None is h = absurd (cc)
    by_case (Some l) is h =
        let same : kept_of nodes l ≡ k.link = same_Some _ _ h in
        let has : l.latency ≡ Some e.latency = ap (λ (x : RowLink). x.latency) same ∙ k.latency in
        record {
          link = l;
          is = is;
          first = ap (λ (x : RowLink). x.first) same ∙ k.first;
          second = ap (λ (x : RowLink). x.second) same ∙ k.second;
          latency = has;
          some = (link_latency-range r l e.latency is has).0;
        }
