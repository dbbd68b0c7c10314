use Rattle.std.proofs.Common.{◌≡◌, ◌∙◌, ℕ, Bool, true, false, List, Option, Some, None, IsTrue, refl, sym, ap, codes}
use Rattle.std.specs.Prelude.{◌↔◌}
use Rattle.std.specs.Str.{bytes_eq}
use Rattle.std.proofs.lemmas.Bool.{false≢true}
use Rattle.std.proofs.lemmas.Slice.Eq.{bytes_eq-Decides}
use Rattle.clap.specs.Words.{Row, Text, first_of, found_of, rows_of}
use Rattle.clap.proofs.WalkLemmas.{first_value-rows}
use Rattle.chord_command.specs.Orders.{engine_for, engine_named, engine_of, is_value}
use Rattle.chord_command.proofs.words.engine_in.Goals as goal

-- the test of a value that was not given
not_given : (given : Option Text) (text : Text) → IsTrue false ↔ (given ≡ Some text) → is_value text given ≡ false
not_given None text tests = refl
not_given (Some value) text tests = go (bytes_eq value text) refl
  where
    go : (b : Bool) → bytes_eq value text ≡ b → bytes_eq value text ≡ false
    go true same = absurd (false≢true (tests.1 (ap (λ t. Some t) ((bytes_eq-Decides value text).0 same))))
    go false other = other

with_name : (rows : List Row) (workers parts : ℕ) (name : Text) → is_value (codes "true") (first_of (codes "serial") rows) ≡ false
    → first_of (codes "engine") rows ≡ Some name → engine_of rows workers parts ≡ engine_named name
with_name rows workers parts name off named = rw (off, named) refl

with_none : (rows : List Row) (workers parts : ℕ) → is_value (codes "true") (first_of (codes "serial") rows) ≡ false
    → first_of (codes "engine") rows ≡ None → engine_of rows workers parts ≡ engine_for workers parts
with_none rows workers parts off named = rw (off, named) refl

pub returns-in-Some : goal.returns-in-Some
returns-in-Some c =
    let found = found_of c.args.matches.now in
    let off = not_given (first_of (codes "serial") (rows_of found)) (codes "true") c.if-has_text.ensures in
    c.engine_named.ensures
    ∙ sym (with_name (rows_of found) c.args.workers c.args.parts c.in-Some.name.now off
    (sym (first_value-rows found (codes "engine")) ∙ sym c.in-Some.ensures))

pub returns-in-None : goal.returns-in-None
returns-in-None c =
    let found = found_of c.args.matches.now in
    let off = not_given (first_of (codes "serial") (rows_of found)) (codes "true") c.if-has_text.ensures in
    c.engine_for.ensures
    ∙ sym (with_none (rows_of found) c.args.workers c.args.parts off (sym (first_value-rows found (codes "engine")) ∙ sym c.in-None.ensures))
