use Rattle.dz_gen.proofs.MadeLemmas.{first_valid}
use Rattle.dz_gen.proofs.records.first_digest.Goals as goal

pub digest-requires : goal.digest-requires
digest-requires c =
    rw (c.in_ok-zone.ensures, c.in_ok-first_records.ensures) (first_valid c.args.k c.requires.some c.requires.few)
