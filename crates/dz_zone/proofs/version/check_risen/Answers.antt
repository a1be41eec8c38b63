use Rattle.std.proofs.Common.{sym, ◌∙◌}
use Rattle.dz_zone.proofs.RecordLemmas.{rising_canonical}
use Rattle.dz_zone.proofs.FaultLemmas.{few_records}
use Rattle.dz_zone.proofs.ApexLemmas.{zone_made, judged, faultless_in, kinds_in}
use Rattle.dz_zone.proofs.version.check_risen.Goals as goal

pub fault_of-requires-clause-kinds : goal.fault_of-requires-clause-kinds
fault_of-requires-clause-kinds c =
    rw (c.as_slice-2.ensures.value, ← c.as_slice.ensures.value) c.kinds_of-kinds.ensures.kinds

pub returns-in-Some : goal.returns-in-Some
returns-in-Some c =
    let records = c.args.records.items in
    judged c.args.apex.now records records c.as_slice-2.result.now _
    (rising_canonical records c.requires.rises) c.as_slice-2.ensures.value c.in-Some.ensures

pub nsecs_if_secure-requires-clause-few : goal.nsecs_if_secure-requires-clause-few
nsecs_if_secure-requires-clause-few c =
    rw c.as_slice-in-None.ensures.value
    (few_records c.args.apex.now c.args.records.items (rw c.as_slice-2.ensures.value at (sym c.in-None.ensures)))

pub version_of-requires-clause-faultless : goal.version_of-requires-clause-faultless
version_of-requires-clause-faultless c =
    faultless_in c.args.apex.now c.args.records.items c.requires.rises
    (rw c.as_slice-2.ensures.value at (sym c.in-None.ensures))

pub version_of-requires-clause-kinds : goal.version_of-requires-clause-kinds
version_of-requires-clause-kinds c =
    kinds_in c.args.apex.now c.args.records.items _ c.requires.rises
    (rw c.as_slice-2.ensures.value at (sym c.in-None.ensures))
    (rw c.as_slice.ensures.value at c.kinds_of-kinds.ensures.kinds)

pub version_of-requires-clause-nsecs : goal.version_of-requires-clause-nsecs
version_of-requires-clause-nsecs c = rw c.as_slice-in-None.ensures.value at c.in_ok-nsecs-in-None.ensures

pub version_of-requires-clause-held : goal.version_of-requires-clause-held
version_of-requires-clause-held c = rw c.as_slice.ensures.value at c.kinds_of-kinds.ensures.held

pub returns-in_ok-nsecs-in-None : goal.returns-in_ok-nsecs-in-None
returns-in_ok-nsecs-in-None c =
    let records = c.args.records.items in
    let none = rw c.as_slice-2.ensures.value at (sym c.in-None.ensures) in (
      judged c.args.apex.now records records c.as_slice-2.result.now _
          (rising_canonical records c.requires.rises) c.as_slice-2.ensures.value c.in-None.ensures,
      c.version_of.ensures
          ∙ zone_made c.args.apex.now records records c.requires.rises none
          (rising_canonical records c.requires.rises),
    )
