-- An arena's fields, by what a contract sees of it.
use Rattle.std.proofs.Common.{◌≡◌, ◌≢◌, ℕ, zero, suc, ◌-◌, min, max, ◌+◌, ◌*◌, ◌/◌, ◌%◌, ◌^◌, ◌<◌, ◌≤◌, length, ap, ◌∙◌, sym, arith}
use Rattle.std.proofs.Math.Nat.{max-le, min-eq_left}
use Rattle.std.specs.Int.{div_ceil}
use Rattle.des_arena.specs.declared.arena.RecordArena.TheInside.{Inside}
use Rattle.des_arena.specs.Arena.{Arena, room_for}
use Rattle.des_arena.specs.Packed.{IsPacked, IsArena, arena_of}
use Rattle.des_arena.proofs.Packing.{Found, packed_get, Placed, packed_place, packed_fits, length-joined}

module _ {X : Type 0} (a : Inside X) (now : Arena X) (is : IsArena a) (seen : arena_of a ≡ now) where
  pub len_is : a.len ≡ length now.items
  len_is = is.counted ∙ ap (λ (v : Arena X). length v.items) seen

  pub room_is : 256 * length a.chunks.items ≡ now.room
  room_is = ap (λ (v : Arena X). v.room) seen

  -- the record at the index n
  pub found : (n : ℕ) → n < length now.items → Found a.chunks.items (n / 256) (n % 256)
  found n h = packed_get a.chunks.items a.len (n / 256) (n % 256) is.packed (omega arith) (omega (arith, len_is))

  -- one more record, if there is room
  pub placed : (a.len ≢ now.room) → (x : X) → Placed a.chunks.items a.len (a.len / 256) x
  placed room x = packed_place a.chunks.items a.len (a.len / 256) x is.packed (omega arith) (omega arith) (omega (arith, is.fits, room_is, room))

-- the rest of the invariant follows
pub closes : {X : Type 0} (a : Inside X) → IsPacked a.chunks.items a.len → 256 * length a.chunks.items ≤ 2 ^ 40 → IsArena a
closes a packed small = record {
  packed = packed;
  counted = sym (length-joined a.chunks.items a.len packed);
  fits = packed_fits a.chunks.items a.len packed;
  small = small;
}

rounded_at : (q r : ℕ) → r < 256 → 256 * (q + min 1 r) ≡ 256 * q + r + (256 - r) % 256
rounded_at q zero h = omega arith
rounded_at q (suc r) h = let one : min 1 (suc r) ≡ 1 = min-eq_left (omega arith) in omega (arith, one)

-- whole chunks give the room
pub rounded : (n : ℕ) → 256 * div_ceil n 256 ≡ room_for n
rounded n = let e = rounded_at (n / 256) (n % 256) (omega arith) in omega (arith, e)

-- the room after chunks up to the wanted number were added
pub grown : (old wanted count n : ℕ) → old ≤ 256 * count → wanted ≤ count → 256 * count ≤ max old (256 * wanted) → wanted ≡ div_ceil n 256
    → 256 * count ≡ max old (room_for n)
grown old wanted count n low more high e =
    let top : 256 * wanted ≡ room_for n = ap (λ k. 256 * k) e ∙ rounded n in
    let up : max old (256 * wanted) ≤ 256 * count = max-le low (omega (arith, more)) in
    let both : 256 * count ≡ max old (256 * wanted) = omega (arith, up, high) in
    both ∙ ap (λ k. max old k) top
