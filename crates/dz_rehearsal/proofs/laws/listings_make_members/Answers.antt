use Rattle.dz_rehearsal.proofs.MembersLemmas.{members}
use Rattle.dz_rehearsal.proofs.laws.listings_make_members.Goals as goal

pub returns : goal.returns
returns c = members c.args.number c.args.position
