-- How the run of the script ends is how the program ends.
use Rattle.std.proofs.Common.{◌≡◌, Result, Ok, Err, sym, ◌∙◌, refl}
use Rattle.dz_script.specs.declared.run.ScriptError.{ScriptError}
use Rattle.dz_script.specs.declared.run.ScriptError.TheVariants as errors
use Rattle.dz_produce.specs.declared.saying.ProduceEnd.{ProduceEnd}
use Rattle.dz_produce.specs.declared.saying.ProduceEnd.TheVariants as produce_ends
use Rattle.dz_run.specs.Running.{status_of_produce}
use Rattle.dz_run.specs.declared.status.Status.TheVariants.{Done}
use Rattle.dz_run.proofs.commands.produce.Goals as goal

only_done : (result : Result ProduceEnd ScriptError) → status_of_produce result ≡ Done → result ≡ Ok produce_ends.Done
only_done (Ok produce_ends.Done) is = refl
only_done (Ok produce_ends.BadInput) is = cc
only_done (Err errors.Read) is = cc
only_done (Err errors.Write) is = cc
only_done (Err errors.OutOfMemory) is = cc

pub returns-clause-ends : goal.returns-clause-ends
returns-clause-ends g c octets told =
    (c.run_producing.result, c.status_of_produce.ensures, c.run_producing.ensures.ends octets told)

pub returns-clause-done : goal.returns-clause-done
returns-clause-done g c octets told is =
    c.run_producing.ensures.done octets told (only_done c.run_producing.result (sym c.status_of_produce.ensures ∙ is))
