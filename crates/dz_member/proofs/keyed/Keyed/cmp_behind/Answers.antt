use Rattle.std.proofs.Common.{ap}
use Rattle.dz_member.proofs.LeadLemmas.{second_decides}
use Rattle.dz_member.proofs.keyed.Keyed.cmp_behind.Goals as goal

pub returns-in_default : goal.returns-in_default
returns-in_default c =
    second_decides c.args.self.now.zone c.args.other.now.zone c.self.inside.node.now.zone c.other.inside.node.now.zone
    c.self.inside.second c.other.inside.second c.compare_leads.result
    (ap (λ n. n.zone) c.self.view_is) (ap (λ n. n.zone) c.other.view_is) c.self.invariant.1 c.other.invariant.1
    c.requires c.compare_leads.ensures c.in_default.not-Equal
