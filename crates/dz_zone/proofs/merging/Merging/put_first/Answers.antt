use Rattle.dz_zone.proofs.merging.Merging.put_first.Goals as goal

pub put-requires-clause-after : goal.put-requires-clause-after
put-requires-clause-after c = c.requires.after c.in-Some.first c.pop_first.new.self.keys c.in-Some.ensures.removal
