use Rattle.std.proofs.Common.{◌≡◌, ◌+◌, ◌*◌, ◌/◌, ◌%◌, [], length, slice_get, get_or, sym, ap, ◌∙◌, arith}
use Rattle.des_arena.specs.Arena.{Arena}
use Rattle.des_arena.proofs.Packing.{get_any}
use Rattle.des_arena.proofs.Arenas.{found}
use Rattle.des_arena.proofs.arena.RecordArena.get.Goals as goal

pub get-requires : goal.get-requires
get-requires g c =
    let n = c.ticket.inside.index in
    let at = found c.self.inside c.args.self.now c.self.invariant c.self.view_is n (omega (arith, c.requires, c.ticket.view_is)) in
    let same : get_or c.self.inside.chunks.items (n / 256) [] ≡ c.index.result.now = get_any c.self.inside.chunks.items (n / 256) []
    c.index.result.now at.chunk ∙ sym c.index.ensures in
    let long = ap length same in
    omega (arith, at.place, long)

pub returns : goal.returns
returns g c =
    let n = c.ticket.inside.index in
    let at = found c.self.inside c.args.self.now c.self.invariant c.self.view_is n (omega (arith, c.requires, c.ticket.view_is)) in
    let same : get_or c.self.inside.chunks.items (n / 256) [] ≡ c.index.result.now = get_any c.self.inside.chunks.items (n / 256) []
    c.index.result.now at.chunk ∙ sym c.index.ensures in
    let cut : n ≡ 256 * (n / 256) + n % 256 = omega arith in
    (λ i. slice_get (sym (ap (λ (v : Arena g.row.T.Denot). v.items) c.self.view_is) i) ((sym c.ticket.view_is ∙ cut) i)) ∙ at.item
    ∙ ap (λ l. slice_get l (n % 256)) same ∙ c.get.ensures
