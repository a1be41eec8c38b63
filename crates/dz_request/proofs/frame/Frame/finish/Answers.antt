use Rattle.std.proofs.Common.{sym, ◌∙◌, arith}
use Rattle.std.proofs.lemmas.List.{length-take}
use Rattle.dz_header.specs.Code.{number_of}
use Rattle.dz_header.specs.Edns.{opt_octets}
use Rattle.dz_request.specs.Frame.{is_tcp, query_of}
use Rattle.dz_request.proofs.FrameLemmas.{whole_fits, cut_short}
use Rattle.dz_request.proofs.frame.Frame.finish.Goals as goal

pub returns-then-is_over : goal.returns-then-is_over
returns-then-is_over c = λ front is.
    cut_short (is_tcp c.args.self.now.transport) (query_of c.args.self.now.request.now c.args.self.now.asked.now)
    (number_of c.args.code) c.args.authoritative front _ _ _ _
    is c.put_opt.ensures (sym c.is_over.ensures ∙ c.if-is_over.true) (simp length-take (omega arith))
    (rw c.bare.ensures at c.begin.ensures) c.put_opt-then-is_over.ensures

pub returns-else-is_over : goal.returns-else-is_over
returns-else-is_over c = λ front is.
    whole_fits (is_tcp c.args.self.now.transport) (query_of c.args.self.now.request.now c.args.self.now.asked.now)
    (number_of c.args.code) c.args.authoritative front
    (opt_octets (number_of c.args.code) c.args.self.now.asked.now.edns) _ _ is c.put_opt.ensures
    (sym c.is_over.ensures ∙ c.if-is_over.false)
