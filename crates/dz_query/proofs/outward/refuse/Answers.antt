use Rattle.std.proofs.Common.{refl}
use Rattle.dz_query.proofs.SendingLemmas.{refuses}
use Rattle.dz_query.proofs.outward.refuse.Goals as goal

pub returns : goal.returns
returns c =
    refuses c.args.octets.now c.args.asked.now c.args.code c.reply_bare.new.writer.writing c.written.result.now _
    c.requires c.reply_bare.ensures c.written.ensures.octets refl
