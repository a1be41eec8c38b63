-- Where no script was made, nothing was published; no line of one is bad.
use Rattle.std.proofs.Common.{◌++◌, ap, refl, arith}
use Rattle.dz_gen.specs.Script.{script}
use Rattle.dz_run.specs.Running.{list_of_script}
use Rattle.dz_run.proofs.RehearsalLemmas.{goes_on, no_bad_line}
use Rattle.dz_run.proofs.rehearse.rehearse.Goals as goal

pub returns-in_default-clause-begins : goal.returns-in_default-clause-begins
returns-in_default-clause-begins g c = (
  list_of_script (script c.args.number),
  ap (λ front. front ++ list_of_script (script c.args.number)) c.requires.desk.list,
)

pub returns-in_default-clause-ended : goal.returns-in_default-clause-ended
returns-in_default-clause-ended g c = (goes_on c.args.number).done (omega (arith, c.requires.some)) c.requires.number

pub returns-clause-ended : goal.returns-clause-ended
returns-clause-ended g c = (goes_on c.args.number).done (omega (arith, c.requires.some)) c.requires.number

pub unreachable-requires : goal.unreachable-requires
unreachable-requires g c =
    no_bad_line c.args.number (omega (arith, c.requires.some)) c.requires.number _ _ _ _ _ c.in-BadInput.is
    (c.run_replay-status.ensures.ends (script c.args.number)
    (rw (c.new-source.ensures.tape, c.into_vec.ensures, c.in-Ok.ensures) refl))
