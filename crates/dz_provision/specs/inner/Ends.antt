-- Inner: the event that ended a job, as it is kept.
use Rattle.dz_provision.specs.declared.ending.End.{End}
use Rattle.dz_provision.specs.declared.ending.End.TheVariants.{Settled, Failed, Starved}
use Rattle.dz_provision.specs.Endings.{EndingOf, settling, failing, starving}

abbrev pub ending_by : End → EndingOf
ending_by (Settled job finished verdict moment) = settling job.value finished.value.octets moment verdict.value
ending_by (Failed job failure moment) = failing job.value moment failure.value
ending_by (Starved job failure moment) = starving job.value moment failure.value
