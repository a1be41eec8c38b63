use Rattle.std.proofs.Common.{sym, subst}
use Rattle.dz_fleet.specs.Core.{Core}
use Rattle.dz_fleet.specs.Sound.{IsGiven}
use Rattle.dz_tests.proofs.OpenedLemmas.{given_opened}
use Rattle.dz_tests.proofs.provision.refuse_a_job.Goals as goal

pub fail-requires-clause-given : goal.fail-requires-clause-given
fail-requires-clause-given g c = λ ok.
    let two = c.begin-two.ensures in
    subst (λ (x : Core). IsGiven x.list c.args.job) (sym two.1)
    (given_opened two.0 c.args.job c.requires.job.0 c.requires.job.1)
