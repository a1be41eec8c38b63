use Rattle.std.proofs.Common.{◌∙◌, ap}
use Rattle.dz_lookup.specs.Found.{meaning}
use Rattle.dz_reply.specs.Secure.{gain, gain_all, wildcard_proofs, last_sets}
use Rattle.dz_reply.proofs.EvidenceLemmas.{all_three}
use Rattle.dz_reply.proofs.evidence.authority_of.Goals as goal

pub returns : goal.returns
returns c =
    let zone = c.args.version.now.records in
    all_three c.put_wildcards.new.authority c.put-2.new.self c.put-3.new.self c.put-4.new.self _ _ _
    (c.put-2.ensures.gain ∙ ap (gain c.put_wildcards.new.authority) c.last_wildcard.ensures)
    (c.put-3.ensures.gain ∙ ap (gain c.put-2.new.self) c.proof-evidence.ensures.first)
    (c.put-4.ensures.gain ∙ ap (gain c.put-3.new.self) c.proof-evidence.ensures.second)
    ∙ ap (λ s. gain_all s (last_sets zone (meaning c.args.last.now) c.args.name.now))
    (c.put_wildcards.ensures.gain ∙ ap (λ s. gain_all s (wildcard_proofs zone c.args.chain.now))
    (c.put.ensures.gain ∙ (λ i. gain (c.empty-authority.ensures i) (c.servers_in.ensures i))))
