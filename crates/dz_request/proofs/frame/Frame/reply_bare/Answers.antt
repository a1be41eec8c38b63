use Rattle.dz_header.specs.Code.{number_of}
use Rattle.dz_request.specs.Frame.{is_tcp, query_of}
use Rattle.dz_request.proofs.FrameLemmas.{bare_within}
use Rattle.dz_request.proofs.frame.Frame.reply_bare.Goals as goal

pub returns : goal.returns
returns c =
    rw (bare_within (is_tcp c.args.self.now.transport) (query_of c.args.self.now.request.now c.args.self.now.asked.now)
    (number_of c.args.code))
    (c.finish.ensures _ (rw c.bare.ensures at c.begin.ensures))
