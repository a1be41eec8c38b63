use Rattle.dz_gen.proofs.MadeLemmas.{second_valid}
use Rattle.dz_gen.proofs.records.second_digest.Goals as goal

pub digest-requires : goal.digest-requires
digest-requires c =
    rw (c.in_ok-zone.ensures, c.in_ok-second_records.ensures) (second_valid c.args.k c.requires.some c.requires.few)
