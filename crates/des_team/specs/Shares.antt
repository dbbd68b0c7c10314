-- The scribes of the parts.
use Rattle.std.specs.Prelude.{List, [], ◌∷◌, Option, None, Some}
use Rattle.des_team.specs.declared.part.Parcel.{Parcel}

module _ {M State Body Piece S : Type 0} where
  -- the scribes of the parts that are here
  abbrev pub scribes_in : List (Option (Parcel M S State Body Piece)) → List S
  scribes_in [] = []
  scribes_in (None ∷ places) = scribes_in places
  scribes_in (Some parcel ∷ places) = parcel.part.value.scribe ∷ scribes_in places
