-- Texts that are made and then written: what a writer has if the text could not be made, and which errors there are.
use Rattle.std.proofs.Common.{◌≡◌, ◌⊎◌, ℕ, List, Option, inr}
use Rattle.std.specs.Prelude.{IfErr, Result, Ok, Err}
use Rattle.std.proofs.KnownBytes.{Appends-nil}
use Rattle.des_event.specs.declared.error.RunError.{RunError}
use Rattle.des_event.specs.declared.error.RunError.TheVariants as run
use Rattle.des_output.specs.Writing.{AppendsFront}

-- a writer that got nothing
pub nothing_written : (known : Option (List ℕ)) (text : List ℕ) → AppendsFront known known text
nothing_written known text = (0, Appends-nil known)

-- if the writer's error is the only one, it is one of both
pub only_these : {A : Type 0} (r : Result A RunError) → IfErr r (λ e. e ≡ run.Write) → IfErr r (λ e. (e ≡ run.Memory) ⊎ (e ≡ run.Write))
only_these (Ok a) only = tt
only_these (Err e) only = inr only
