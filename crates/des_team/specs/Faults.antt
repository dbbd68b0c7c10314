-- Which fault ends a window.
use Rattle.std.specs.Prelude.{◌≡◌, ◌⊎◌, ◌<◌, ◌≤◌, ℕ, List, Some, IfSome, length}
use Rattle.std.specs.List.{All, Contains}
use Rattle.des_event.specs.declared.error.RunError.{RunError}
use Rattle.des_event.specs.declared.error.RunError.TheVariants as run
use Rattle.des_output.specs.Faults.{rank_of}
use Rattle.des_team.specs.declared.part.Done.{Done}

module _ {M State Body Piece S : Type 0} where
  -- a result has this fault, and none has a graver one
  pub record IsGravestOf (fs : List (Done M S State Body Piece)) (e : RunError) : Type 0 where
    pub whose : (f : Done M S State Body Piece) × Contains fs f × (f.fault ≡ Some e)
    pub none_graver : All (λ (f : Done M S State Body Piece). IfSome f.fault (λ g. rank_of e ≤ rank_of g)) fs

  -- a worker is lost, or there is no memory for the results of all parts, or it is the gravest fault of the parts
  abbrev pub IsWindowFault : (parts : ℕ) → List (Done M S State Body Piece) → RunError → Type 0
  IsWindowFault parts fs e = (e ≡ run.Worker) ⊎ ((e ≡ run.Memory) × (length fs < parts)) ⊎ IsGravestOf fs e
