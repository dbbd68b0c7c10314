-- What a digest holds of the text of a trace that it has taken.
use Rattle.std.specs.Prelude.{◌≡◌, List, ℕ, [], ◌++◌}
use Rattle.chord_judge.specs.Kept.{kept_from}
use Rattle.chord_judge.specs.Traces.{rest_from}
use Rattle.chord_judge.specs.declared.digest.Digest.{Digest}

-- a digest of this text, of which these bytes are written: its lines are whole, and those that are kept are those of the text
pub record IsDigestOf (text written : List ℕ) (digest : Digest) : Type 0 where
  pub line : digest.line.items ≡ rest_from [] text
  pub whole : rest_from [] (written ++ digest.text.items) ≡ []
  pub kept : kept_from [] (written ++ digest.text.items) ≡ kept_from [] text
