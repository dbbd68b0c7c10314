use Rattle.std.proofs.Common.{◌≡◌, sym, ap, refl, List, ℕ, false}
use Rattle.std.specs.Str.{bytes_eq}
use Rattle.std.specs.Prelude.{codes}
use Rattle.std.proofs.lemmas.Bool.{false_from_ne_true}
use Rattle.std.proofs.lemmas.Slice.Eq.{bytes_eq-Decides}
use Rattle.chord_scenario.specs.Operations.{operation_named}
use Rattle.chord_scenario.proofs.operation.operation_named.Goals as goal

pub returns-in-join : goal.returns-in-join
returns-in-join c = sym (ap operation_named c.in-join.is)

pub returns-in-crash : goal.returns-in-crash
returns-in-crash c = sym (ap operation_named c.in-crash.is)

pub returns-in-leave : goal.returns-in-leave
returns-in-leave c = sym (ap operation_named c.in-leave.is)

pub returns-in-lookup : goal.returns-in-lookup
returns-in-lookup c = sym (ap operation_named c.in-lookup.is)

other : (name word : List ℕ) → (word ≡ name → ⊥) → bytes_eq name word ≡ false
other name word differ = false_from_ne_true (bytes_eq name word) (λ same. differ (sym ((bytes_eq-Decides name word).0 same)))

pub returns-in_default : goal.returns-in_default
returns-in_default c =
    let word = c.args.word.now in
    rw (
      other (codes "join") word c.in_default.not-join,
      other (codes "crash") word c.in_default.not-crash,
      other (codes "leave") word c.in_default.not-leave,
      other (codes "lookup") word c.in_default.not-lookup,
    ) refl
