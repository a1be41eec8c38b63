use Rattle.std.proofs.Common.{◌∙◌}
use Rattle.dz_header.specs.Code.{number_of}
use Rattle.dz_request.specs.Frame.{curt_octets}
use Rattle.dz_request.proofs.FrameLemmas.{curt_fits}
use Rattle.dz_request.proofs.frame.reply_curt.Goals as goal

pub returns : goal.returns
unfolding curt_octets
returns c =
    rw (c.begin.ensures.writing, c.reply_flags.ensures) at c.put_header.ensures
    ∙ curt_fits c.args.request.now (number_of c.args.code)
