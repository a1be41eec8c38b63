use Rattle.std.proofs.Common.{ap}
use Rattle.dz_member.proofs.LeadLemmas.{first_decides, first_tied}
use Rattle.dz_member.proofs.keyed.Keyed.zone_cmp.Goals as goal

pub cmp_behind-requires : goal.cmp_behind-requires
cmp_behind-requires c =
    first_tied c.args.self.now.zone c.args.other.now.zone c.self.inside.node.now.zone c.other.inside.node.now.zone
    c.self.inside.first c.other.inside.first c.compare_leads.result
    (ap (λ n. n.zone) c.self.view_is) (ap (λ n. n.zone) c.other.view_is) c.self.invariant.0 c.other.invariant.0
    c.compare_leads.ensures c.in-Equal.is

pub returns-in_default : goal.returns-in_default
returns-in_default c =
    first_decides c.args.self.now.zone c.args.other.now.zone c.self.inside.node.now.zone c.other.inside.node.now.zone
    c.self.inside.first c.other.inside.first c.compare_leads.result
    (ap (λ n. n.zone) c.self.view_is) (ap (λ n. n.zone) c.other.view_is) c.self.invariant.0 c.other.invariant.0
    c.compare_leads.ensures c.in_default.not-Equal
