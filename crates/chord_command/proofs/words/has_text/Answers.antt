use Rattle.std.proofs.Common.{◌≡◌, ◌∙◌, Bool, false, Some, None, IsTrue, Option, sym, ap}
use Rattle.std.specs.Prelude.{◌↔◌, unwrap_or}
use Rattle.std.specs.Str.{bytes_eq}
use Rattle.std.proofs.lemmas.Slice.Eq.{bytes_eq-Decides}
use Rattle.std.proofs.lemmas.Bool.{false≢true}
use Rattle.clap.specs.Walk.{Text}
use Rattle.clap.specs.Words.{found_of}
use Rattle.clap.proofs.WalkLemmas.{first_value-rows}
use Rattle.chord_command.proofs.words.has_text.Goals as goal

-- a text is the one that stands there exactly where the test says so
same_text : (there : Option Text) (found text : Text) (test : Bool) → there ≡ Some found → test ≡ bytes_eq found text → IsTrue test ↔ (there ≡ Some text)
same_text there found text test is tests = (
  λ h. is ∙ ap (λ t. Some t) ((bytes_eq-Decides found text).0 (sym tests ∙ h)),
  λ same. let one : found ≡ text = ap (λ (o : Option Text). unwrap_or o found) (sym is ∙ same) in tests ∙ (bytes_eq-Decides found text).1 one,
)

pub returns-in-Some : goal.returns-in-Some
returns-in-Some c =
    same_text _ c.in-Some.found.now c.args.text.now c.eq.result
    (sym (first_value-rows (found_of c.args.matches.now) c.args.id.now) ∙ sym c.in-Some.ensures) c.eq.ensures

-- nothing stands there
no_text : (there : Option Text) (text : Text) → there ≡ None → IsTrue false ↔ (there ≡ Some text)
no_text there text none = (λ h. absurd (false≢true h), λ same. let bad : Some text ≡ None = sym same ∙ none in cc)

pub returns-in-None : goal.returns-in-None
returns-in-None c =
    no_text _ c.args.text.now (sym (first_value-rows (found_of c.args.matches.now) c.args.id.now) ∙ sym c.in-None.ensures)
