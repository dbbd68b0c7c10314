-- How an arena's records lie in its chunks.
use Rattle.std.specs.Prelude.{◌≡◌, ℕ, ◌+◌, ◌-◌, ◌*◌, ◌^◌, ◌≤◌, List, [], ◌∷◌, length}
use Rattle.std.specs.List.{flat_map}
use Rattle.des_arena.specs.Arena.{Arena, arena}
use Rattle.des_arena.specs.declared.arena.RecordArena.TheInside.{Inside}

module _ {X : Type 0} where
  -- n records lie in the chunks: those past the first 256 lie in the chunks after the first
  abbrev pub IsPacked : List (List X) → ℕ → Type 0
  IsPacked [] n = n ≡ 0
  IsPacked (c ∷ cs) n = (length c + (n - 256) ≡ n) × IsPacked cs (n - 256)

  -- the records of all chunks
  abbrev pub joined : List (List X) → List X
  joined cs = flat_map (λ c. c) cs

  -- what contracts see of an arena: the records of its chunks, one chunk after the other, and 256 places in each chunk
  abbrev pub arena_of : Inside X → Arena X
  arena_of a = arena (joined a.chunks.items) (256 * length a.chunks.items)

  -- the chunks are filled one after the other, the length that the arena keeps is the number of records, and they fit
  -- in its chunks, which have at most 2 ^ 40 places together
  pub record IsArena (a : Inside X) : Type 0 where
    pub packed : IsPacked a.chunks.items a.len
    pub counted : a.len ≡ length (joined a.chunks.items)
    pub fits : a.len ≤ 256 * length a.chunks.items
    pub small : 256 * length a.chunks.items ≤ 2 ^ 40
