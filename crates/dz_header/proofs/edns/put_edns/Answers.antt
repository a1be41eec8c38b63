use Rattle.dz_header.specs.Code.{number_of}
use Rattle.dz_header.proofs.EdnsLemmas.{opt_written}
use Rattle.dz_header.proofs.edns.put_edns.Goals as goal

pub returns : goal.returns
returns c =
    opt_written (number_of c.args.code) c.args.edns _ _ _ _ _ _ _ c.put.ensures.writing
    (rw c.two.ensures at c.put-2.ensures.writing) (rw c.two-2.ensures at c.put-3.ensures.writing)
    (rw c.number.ensures.value at c.put-4.ensures.writing) (rw (c.two-3.ensures, c.dnssec_mark.ensures)
    at c.put-5.ensures.writing) (rw c.two-4.ensures at c.put-6.ensures.writing)
