use Rattle.dz_member.proofs.MemberLemmas.{no_members}
use Rattle.dz_member.proofs.members.Members.empty.Goals as goal

pub invariant_of-result : goal.invariant_of-result
invariant_of-result c = no_members _ c.empty.ensures
