-- What holds of the fields of a chunk.
use Rattle.std.specs.Prelude.{◌≡◌, length}
use Rattle.des_arena.specs.declared.chunk.Chunk.TheInside.{Inside}

module _ {X : Type 0} where
  -- the length that a chunk keeps is the number of its records, and its memory has 256 places
  pub record IsChunk (c : Inside X) : Type 0 where
    pub counted : c.len ≡ length c.raw.items
    pub places : c.raw.places ≡ 256
