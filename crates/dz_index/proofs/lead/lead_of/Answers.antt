use Rattle.dz_index.proofs.LeadLemmas.{lead_is}
use Rattle.dz_index.proofs.lead.lead_of.Goals as goal

pub returns : goal.returns
returns c = lead_is c.args.octets.now c.copy_from_slice.new.self c.min-count.result c.min-count.ensures
    c.copy_from_slice.ensures.after
