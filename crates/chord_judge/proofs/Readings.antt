-- What is read of a line is of the scenario.
use Rattle.std.proofs.Common.{◌≡◌, ℕ, ◌^◌, ◌<◌, ◌&&◌, false, nat_lt, List, [], ◌∷◌, Option, Some, None, codes, length, option_map, subst, ◌==◌, refl, arith, inl, inr}
use Rattle.std.specs.Str.Parse.{digits_value}
use Rattle.std.proofs.lemmas.Bool.{and_parts, cases_Bool, ltb-true}
use Rattle.std.proofs.lemmas.Bool.Decides.{nat_tests}
use Rattle.std.proofs.lemmas.List.Elements.{All-cons, All-nil}
use Rattle.chord_event.specs.declared.line.Line.{Line}
use Rattle.chord_event.specs.declared.line.Line.TheVariants as line
use Rattle.chord_judge.specs.Reading.{found_with, key_in, line_alone, line_of, lost_with, node_named}
use Rattle.chord_judge.specs.Tellings.{IsOnCircle, IsToldOf}
use Rattle.chord_judge.specs.Words.{after_word, first_word, is_numeral, number_after, number_below}
use Rattle.chord_judge.specs.declared.lines.Kind.{Kind}
use Rattle.chord_judge.specs.declared.lines.Kind.TheVariants as kind
use Rattle.chord_scenario.specs.Blocks.{IsLineOf}
use Rattle.chord_scenario.specs.Setup.{Setup}
use Rattle.chord_scenario.specs.World.{node_count}
use Rattle.chord_scenario.proofs.LatencyLemmas.{index_of-below}

-- a number that is read is below the bound
pub read_below : (bound n : ℕ) (text : List ℕ) → number_below bound text ≡ Some n → n < bound
read_below bound n text h =
    elim (cases_Bool (is_numeral text && nat_lt (digits_value 10 text) bound)) [
      | inl passes ↦
          let same : digits_value 10 text ≡ n = cc (rw passes at h) in
          let low = ltb-true (digits_value 10 text) bound (and_parts (is_numeral text) (nat_lt (digits_value 10 text) bound) passes).1 in omega (arith, low, same)
      | inr fails ↦ absurd (cc (rw fails at h))
    ]

-- the line of which nothing is read, or one that fits the scenario
record Fits (sc : Setup) (l : Line) : Type 0 where
  pub names : IsLineOf sc l
  pub key : IsOnCircle sc l

abbrev IfFits : Setup → Option Line → Type 0
IfFits sc None = Unit {0}
IfFits sc (Some l) = Fits sc l

one : (sc : Setup) (node : ℕ) (name : List ℕ) → node_named sc name ≡ Some node → IsLineOf sc (line.Member node)
one sc node name h = All-cons (λ n. n < node_count sc) node [] (index_of-below sc.nodes node name h) (All-nil (λ n. n < node_count sc))

none : (sc : Setup) → IsLineOf sc line.Crash
none sc = All-nil (λ n. n < node_count sc)

alone : (sc : Setup) (l : Line) (text : List ℕ) → Fits sc l → IfFits sc (line_alone l text)
alone sc l [] fits = fits
alone sc l (byte ∷ text) fits = let some : (length (byte ∷ text) == 0) ≡ false = grind (arith, nat_tests) in rw some tt

found : (sc : Setup) (key owner hops timeouts us : Option ℕ) (word name : List ℕ) → key_in sc word ≡ key → node_named sc name ≡ owner
    → IfFits sc (found_with key owner hops timeouts us)
found sc None owner hops timeouts us word name k o = tt
found sc (Some key) None hops timeouts us word name k o = tt
found sc (Some key) (Some owner) None timeouts us word name k o = tt
found sc (Some key) (Some owner) (Some hops) None us word name k o = tt
found sc (Some key) (Some owner) (Some hops) (Some timeouts) None word name k o = tt
found sc (Some key) (Some owner) (Some hops) (Some timeouts) (Some us) word name k o =
    record { names = one sc owner name o; key = read_below (2 ^ sc.bits) key word k }

lost : (sc : Setup) (key hops timeouts us : Option ℕ) → IfFits sc (lost_with key hops timeouts us)
lost sc None hops timeouts us = tt
lost sc (Some key) None timeouts us = tt
lost sc (Some key) (Some hops) None us = tt
lost sc (Some key) (Some hops) (Some timeouts) None = tt
lost sc (Some key) (Some hops) (Some timeouts) (Some us) = record { names = none sc; key = tt }

member : (sc : Setup) (node : Option ℕ) (name : List ℕ) → node_named sc name ≡ node → IfFits sc (option_map line.Member node)
member sc None name h = tt
member sc (Some node) name h = record { names = one sc node name h; key = tt }

stranded : (sc : Setup) (node : Option ℕ) (name : List ℕ) → node_named sc name ≡ node → IfFits sc (option_map line.Stranded node)
stranded sc None name h = tt
stranded sc (Some node) name h = record { names = one sc node name h; key = tt }

lookup : (sc : Setup) (key : Option ℕ) → IfFits sc (option_map line.Lookup key)
lookup sc None = tt
lookup sc (Some key) = record { names = none sc; key = tt }

line_fits : (sc : Setup) (k : Kind) (text : List ℕ) → IfFits sc (line_of sc k text)
line_fits sc kind.Member text = member sc (node_named sc text) text refl
line_fits sc kind.Create text = alone sc line.Create text (record { names = none sc; key = tt })
line_fits sc kind.Crash text = alone sc line.Crash text (record { names = none sc; key = tt })
line_fits sc kind.Leave text = alone sc line.Leave text (record { names = none sc; key = tt })
line_fits sc kind.Stranded text = stranded sc (node_named sc text) text refl
line_fits sc kind.Lookup text = lookup sc (key_in sc text)
line_fits sc kind.Found text =
    found sc (key_in sc (first_word text)) (node_named sc (first_word (after_word text)))
    (number_after (codes "hops=") (2 ^ 32) (first_word (after_word (after_word text))))
    (number_after (codes "timeouts=") (2 ^ 32) (first_word (after_word (after_word (after_word text)))))
    (number_after (codes "us=") (2 ^ 64) (after_word (after_word (after_word (after_word text)))))
    (first_word text) (first_word (after_word text)) refl refl
line_fits sc kind.Lost text = lost sc _ _ _ _

pub told_fits : (sc : Setup) (k : Kind) (time node : ℕ) (l : Line) (name text : List ℕ) → node_named sc name ≡ Some node → line_of sc k text ≡ Some l
    → IsToldOf sc (record { time = time; node = node; line = l })
told_fits sc k time node l name text h is =
    let fits : Fits sc l = subst (IfFits sc) is (line_fits sc k text) in record { node = index_of-below sc.nodes node name h; line = fits.names; key = fits.key }
