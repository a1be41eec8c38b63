-- Inner: the events that ended jobs, one after the other.
use Rattle.std.specs.Prelude.{List, [], ◌++◌, option_to_list}
use Rattle.dz_provision.specs.declared.endings.Ends.{Ends}
use Rattle.dz_provision.specs.declared.endings.Ends.TheVariants.{Start, After'}
use Rattle.dz_provision.specs.Endings.{EndingOf}

abbrev pub endings_by : Ends → List EndingOf
endings_by Start = []
endings_by (After' mark before ending) = endings_by before ++ option_to_list ending
