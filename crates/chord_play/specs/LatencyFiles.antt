-- What is still to be read of a latency file.
use Rattle.std.specs.Prelude.{ℕ, List, [], Option, Some}
use Rattle.chord_play.specs.declared.latency_file.LatencyFile.{LatencyFile}
use Rattle.chord_play.specs.declared.latency_file.LatencyFile.TheVariants as latency

-- what the file still has, and nothing if there is no file
abbrev pub left_in : {F : Type 0} → (F → Option (List ℕ)) → LatencyFile F → Option (List ℕ)
left_in left latency.Absent = Some []
left_in left (latency.Given file) = left file
