use Rattle.std.proofs.Common.{◌∙◌}
use Rattle.std.proofs.lemmas.List.{get_or_default}
use Rattle.dz_record.specs.Record.{Record}
use Rattle.dz_zone.proofs.KindsLemmas.{kinds_more}
use Rattle.dz_zone.proofs.NsecLemmas.{held_more}
use Rattle.dz_zone.proofs.kinds.kinds_of.Goals as goal

pub records-preserved : goal.records-preserved
records-preserved c =
    let records = c.args.records.now in
    let at = c.records.record-index in
    let record_here = c.record-item.result in
    let there = λ (d : Record). c.record-item.is ∙ get_or_default records at record_here d c.records-test.true in
    record {
      kinds = kinds_more c.args.apex.now records at record_here c.records.kinds c.count.new.self c.records-test.true
          c.record-item.is c.records.invariant.kinds c.count.ensures.counted;
      held = held_more at records record_here there c.count.ensures.held c.records.invariant.held;
    }
