use Rattle.std.proofs.Common.{◌≡◌, None, Some, ◌∙◌}
use Rattle.dz_record.specs.Records.{distinct}
use Rattle.dz_zone.specs.Valid.{fault_of}
use Rattle.dz_producer.specs.Records.{plain_records, all_records}
use Rattle.dz_producer.specs.inner.Nodes.{values}
use Rattle.dz_producer.proofs.FaultlessLemmas.{plain_faultless, all_faultless}
use Rattle.dz_producer.proofs.PutLemmas.{all_put}
use Rattle.dz_producer.proofs.produced.version_of.Goals as goal

pub digest-requires : goal.digest-requires
digest-requires c =
    let e : c.in_ok-shared.field-0.items ≡ plain_records c.args.apex.now c.args.serial (values c.args.nodes.now) =
    c.in_ok-shared.ensures ∙ (c.as_slice.ensures.value ∙ c.in_ok-records.ensures.records) in
    rw e (plain_faultless c.args.apex.now c.args.serial c.args.nodes.now c.requires.few)

pub unreachable-requires : goal.unreachable-requires
unreachable-requires c =
    let apex = c.args.apex.now in
    let made : c.push.new.self.items ≡ all_records apex c.args.serial (values c.args.nodes.now) =
    all_put apex c.args.serial c.args.nodes.now c.in_ok-records.records.items c.in_ok-shared.field-0.items
    c.push.new.self.items c.in_ok-digest.digest c.in_ok-records.ensures.records
    (c.in_ok-shared.ensures ∙ c.as_slice.ensures.value) c.in_ok-digest.ensures
    c.in_ok-push.ensures.items in
    let told : fault_of apex (distinct c.push.new.self.items) ≡ Some c.in-Err-Fault.field-0-0 =
    rw c.in-Err-Fault.field-0-is at c.in-Err-Fault.ensures in
    let none : fault_of apex (distinct c.push.new.self.items) ≡ None =
    rw made (all_faultless apex c.args.serial c.args.nodes.now c.requires.few) in
    cc
