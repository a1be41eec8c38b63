use Rattle.dz_produce.proofs.EndLemmas.{done_leaves}
use Rattle.dz_produce.proofs.script.run_producing.Goals as goal

pub returns-clause-ends : goal.returns-clause-ends
returns-clause-ends g c octets told =
    (c.run_from.new.producing, rw c.new-producing.ensures at c.run_from.ensures.ends octets told)

pub returns-clause-done : goal.returns-clause-done
returns-clause-done g c octets told is = done_leaves octets c.run_from.result c.run_from.new.producing _ _ _
    (rw c.new-producing.ensures at c.run_from.ensures.ends octets told) is
