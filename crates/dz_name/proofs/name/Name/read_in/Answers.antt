use Rattle.std.proofs.Common.{◌∙◌, sym}
use Rattle.dz_name.proofs.ReadingLemmas.{name_at_is, reads_once, reads_within}
use Rattle.dz_name.proofs.CanonicalLemmas.{name_at_between}
use Rattle.dz_name.proofs.name.Name.read_in.Goals as goal

pub returns-clause-value : goal.returns-clause-value
returns-clause-value g c = rw (← c.octets.ensures) (sym (name_at_is _ _ _ c.read_name.ensures.reads))

pub returns-clause-place : goal.returns-clause-place
returns-clause-place g c = rw (← c.octets.ensures) (reads_within _ c.read_name.ensures.reads)

pub returns-clause-once : goal.returns-clause-once
returns-clause-once g c = rw (← c.octets.ensures) (λ other reads. reads_once _ _ _ _ reads c.read_name.ensures.reads)

pub returns-clause-written : goal.returns-clause-written
returns-clause-written g c = rw (← c.octets.ensures)
    (λ end labels is. sym (name_at_is _ _ _ c.read_name.ensures.reads) ∙ name_at_between _ _ _ _ is)

pub returns-clause-most : goal.returns-clause-most
returns-clause-most g c = c.read_name.ensures.most (rw c.octets.ensures c.landings.ensures.ends)
