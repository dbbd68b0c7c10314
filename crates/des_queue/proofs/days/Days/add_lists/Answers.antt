use Rattle.std.proofs.Common.{◌∙◌, refl, sym, ap, vec_capacity}
use Rattle.des_queue.specs.Shelf.{get}
use Rattle.des_queue.specs.Days.{IsListed}
use Rattle.des_queue.proofs.Placed.{fit_empty, joined, joined_empty, placed_empty}
use Rattle.des_queue.proofs.days.Days.add_lists.Goals as goal

pub returns-clause-days : goal.returns-clause-days
returns-clause-days g c =
    let d = c.args.self.now in record {
      placed = placed_empty (IsListed (get d.events) d.today d.latest) 0 c.empty_lists.result.items c.empty_lists.ensures;
      fit = fit_empty (vec_capacity c.reserve.new.self) c.empty_lists.result.items c.empty_lists.ensures;
    }

pub returns-clause-same : goal.returns-clause-same
returns-clause-same g c = record {
  today = refl;
  events = refl;
  places = joined_empty c.empty_lists.result.items c.empty_lists.ensures ∙ sym (ap joined c.requires.none);
}
