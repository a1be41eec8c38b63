use Rattle.std.proofs.Common.{◌∙◌, ap, sym, arith}
use Rattle.std.specs.Option.{option_map}
use Rattle.dz_disk.specs.RecordLog.{records}
use Rattle.dz_store.specs.Kept.{meaning_of}
use Rattle.dz_store.specs.Payload.{reads}
use Rattle.dz_provision.proofs.RestoreLemmas.{kept_small}
use Rattle.dz_provision.proofs.restored.tale_of.Goals as goal

pub returns-else-kept-lt-MOMENTS-clause-told : goal.returns-else-kept-lt-MOMENTS-clause-told
returns-else-kept-lt-MOMENTS-clause-told g c = λ f told.
    let small = kept_small c.args.zone.now (records reads f) (meaning_of c.in-Ok-Some.kept)
    (sym (ap (option_map meaning_of) c.in-Ok-Some.field-0-is) ∙ c.in-Ok-Some.ensures.latest f told) in
    absurd (omega (arith, small))
