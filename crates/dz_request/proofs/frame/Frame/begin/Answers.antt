use Rattle.std.proofs.Common.{◌∙◌, ap}
use Rattle.dz_header.specs.Header.{header_octets}
use Rattle.dz_header.specs.Writing.{empty}
use Rattle.dz_request.specs.Frame.{is_tcp, query_of}
use Rattle.dz_request.proofs.FrameLemmas.{opening_by}
use Rattle.dz_request.proofs.frame.Frame.begin.Goals as goal

pub returns : goal.returns
returns c =
    opening_by (is_tcp c.args.self.now.transport) (query_of c.args.self.now.request.now c.args.self.now.asked.now)
    c.args.heading.now (header_octets c.reply_header-header.result) _ _ _
    (rw c.opt_count.ensures.value at c.reply_header-header.ensures) (c.begin.ensures.writing
    ∙ ap empty c.limit_of.ensures.value) c.put_header.ensures (rw c.question_in.ensures at c.put.ensures.writing)
