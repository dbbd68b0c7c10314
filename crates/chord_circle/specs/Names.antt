-- Identifiers of names.
use Rattle.std.specs.Prelude.{ℕ, ◌-◌, ◌/◌, ◌^◌, List, take}
use Rattle.std.specs.Int.{from_be_bytes, w128}
use Rattle.sha1.specs.Sha1.{sha1}

-- the leading bits of the SHA-1 digest of a name
unfoldable pub ident_of_name : (bits : ℕ) → List ℕ → ℕ
ident_of_name bits name = from_be_bytes w128 (take 16 (sha1 name)) / 2 ^ (128 - bits)
