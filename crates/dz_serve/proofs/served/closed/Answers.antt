-- All of the ledger has counted what the book has.
use Rattle.dz_serve.proofs.served.closed.Goals as goal

pub returns-clause-logged : goal.returns-clause-logged
returns-clause-logged g c = rw (c.audit.ensures.whole c.requires.share) c.requires.logged
