-- Places for what the parts of a window leave.
use Rattle.std.specs.Prelude.{List, [], ◌∷◌, Option, None, Some}
use Rattle.des_parts.specs.declared.part_run.Done.{Done}

module _ {State Body Piece : Type 0} where
  -- what the places hold
  abbrev pub in_slots : List (Option (Done State Body Piece)) → List (Done State Body Piece)
  in_slots [] = []
  in_slots (None ∷ slots) = in_slots slots
  in_slots (Some done ∷ slots) = done ∷ in_slots slots
