use Rattle.std.proofs.Common.{◌∙◌}
use Rattle.dz_run.proofs.OpeningLemmas.{grouped_put}
use Rattle.dz_run.proofs.opening.Opening.add_group.Goals as goal

pub returns-in_ok-add_at-in-Some : goal.returns-in_ok-add_at-in-Some
returns-in_ok-add_at-in-Some c =
    grouped_put c.args.self.now c.into_vec-catalogs.result.items c.add_at.new.catalogs.items c.args.name.now
    c.args.group c.in-Some.place c.put.result c.put.new.self
    (c.into_vec-catalogs.ensures ∙ c.take.ensures.config) (rw c.as_slice.ensures.value at c.in-Some.ensures)
    c.in_ok-add_at-in-Some.ensures (rw c.from_vec.ensures at c.put.ensures)
