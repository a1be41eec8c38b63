use Rattle.dz_header.specs.Code.{number_of}
use Rattle.dz_header.proofs.EdnsLemmas.{opt_none}
use Rattle.dz_header.proofs.edns.put_opt.Goals as goal

pub returns-in-None : goal.returns-in-None
returns-in-None c = rw c.in-None.is (opt_none (number_of c.args.code) c.args.writer.now.writing)
