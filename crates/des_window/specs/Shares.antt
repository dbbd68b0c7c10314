-- What the scribes of the parts have counted.
use Rattle.std.specs.Prelude.{ℕ, zero, suc, ◌<◌, List, [], ◌++◌, length, slice_index_or}

-- the shares of the first parts, one after another
abbrev pub shares_to : {Piece : Type 0} → (ℕ → List Piece) → ℕ → List Piece
shares_to share zero = []
shares_to share (suc part) = shares_to share part ++ share part

-- the scribe of each part has counted its share
abbrev pub HaveCountedShares : {Piece S : Type 0} → (List Piece → S → Type 0) → (ℕ → List Piece) → List S → Type 0
HaveCountedShares HasCounted share scribes = (part : ℕ) (s : _) → part < length scribes → HasCounted (share part) (slice_index_or scribes part s)
