use Rattle.std.proofs.Common.{◌++◌, ◌∷◌, [], ◌∙◌, ℕ, List, Vec, Global, ap, subst, arith}
use Rattle.dz_disk.specs.Disk.{Leaves}
use Rattle.dz_disk.specs.RecordLog.{records, IsLeft}
use Rattle.dz_disk.proofs.SeveralLemmas.{going_on, joined_more}
use Rattle.dz_disk.proofs.several.append_each.Goals as goal

abbrev items_of : Vec ℕ Global → List ℕ
items_of v = v.items

pub returns-in_err-append-clause-crash : goal.returns-in_err-append-clause-crash
returns-in_err-append-clause-crash g c = λ able f told.
    let far = c.payloads.invariant.far f told in
    let one = subst (λ p. Leaves g.D.Disk.clock g.D.Disk.left_from c.payloads.log.disk c.append.new.self.disk
    (IsLeft (records g.I.RecordIndex.reads far.0) p)) c.deref.ensures.value
    (c.append.ensures.crash c.payloads.invariant.able far.0 far.1) in
    going_on g.D.Disk.clock g.D.Disk.left_from c.args.log.now.disk c.payloads.log.disk c.append.new.self.disk items_of
    c.args.payloads.now c.payloads.payload-index c.payload-item.result c.payload-item.result
    (records g.I.RecordIndex.reads f) (records g.I.RecordIndex.reads far.0) f (omega arith) c.payload-item.is far.2
    (c.payloads.invariant.leaves f told) one

pub payloads-preserved : goal.payloads-preserved
payloads-preserved g c = record {
  able = c.in_ok-append.ensures.able.1;
  faults = c.in_ok-append.ensures.faults ∙ c.payloads.invariant.faults;
  far = λ f told.
      let far = c.payloads.invariant.far f told in
      let joined = c.in_ok-append.ensures.joined far.0 far.1 in (
        joined.0,
        joined.1,
        joined_more items_of c.args.payloads.now c.payloads.payload-index c.payload-item.result c.payload-item.result
            (records g.I.RecordIndex.reads f) (records g.I.RecordIndex.reads far.0)
            (records g.I.RecordIndex.reads joined.0)
            (omega arith) c.payload-item.is far.2
            (joined.2 ∙ ap (λ p. records g.I.RecordIndex.reads far.0 ++ p ∷ []) c.deref.ensures.value),
      );
  leaves = λ f told.
      let far = c.payloads.invariant.far f told in
      let one = subst (λ p. Leaves g.D.Disk.clock g.D.Disk.left_from c.payloads.log.disk c.append.new.self.disk
      (IsLeft (records g.I.RecordIndex.reads far.0) p)) c.deref.ensures.value
      (c.append.ensures.crash c.payloads.invariant.able far.0 far.1) in
      going_on g.D.Disk.clock g.D.Disk.left_from c.args.log.now.disk c.payloads.log.disk c.append.new.self.disk
      items_of c.args.payloads.now c.payloads.payload-index c.payload-item.result c.payload-item.result
      (records g.I.RecordIndex.reads f) (records g.I.RecordIndex.reads far.0) f (omega arith) c.payload-item.is far.2
      (c.payloads.invariant.leaves f told) one;
}
