use Rattle.std.proofs.Common.{◌≡◌, ◌++◌, ◌∷◌, drop, length}
use Rattle.des_team.specs.Shares.{scribes_in}
use Rattle.des_team.proofs.team.Team.take_scribes.Given as goal

abbrev pub invariant-loop-part : goal.invariant-loop-part
invariant-loop-part g l = record {
  long : length l.self.parcels.items ≡ length l.fn.self.parcels.items;
  rest : drop l.part l.self.parcels.items ≡ drop l.part l.fn.self.parcels.items;
  taken : l.scribes.items ++ scribes_in (drop l.part l.fn.self.parcels.items) ≡ l.fn.self.journal.scribe ∷ scribes_in l.fn.self.parcels.items;
}
