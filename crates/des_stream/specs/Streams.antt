-- What a contract sees of a stream.
use Rattle.std.specs.Prelude.{ℕ}

-- a stream of random words: its seed, and its number among the streams of that seed: the number of a node, or that of an
-- `own_stream`
pub record StreamOf : Type 0 where
  pub seed : ℕ
  pub number : ℕ
