use Rattle.std.proofs.Common.{arith, ◌<◌, ◌∙◌, sym, ap, length}
use Rattle.std.proofs.lemmas.List.{get_or_read}
use Rattle.dz_record.specs.Record.{Record}
use Rattle.dz_zone.proofs.NsecLemmas.{upto_push, upto_skip, upto_all, held_more}
use Rattle.dz_zone.proofs.index.nsecs_of.Goals.{then-kind-eq-TYPE_NSEC+in_ok-push, else-kind-eq-TYPE_NSEC}
use Rattle.dz_zone.proofs.index.nsecs_of.Goals as goal

pub records-preserved : goal.records-preserved
records-preserved c =
    let records = c.args.records.now in
    let within : c.records.place < length c.args.records.now = c.records-test.true in
    let there = λ (d : Record).
    get_or_read records c.records.place c.index-records-place.result within c.index-records-place.is d in
    let held = held_more c.records.place c.args.records.now c.index-records-place.result there c.kind.ensures.valid
    c.records.invariant.held in
    elim c.if-kind-eq-TYPE_NSEC.branch [
      | then-kind-eq-TYPE_NSEC+in_ok-push w ↦
          rw w.nsecs-is (record {
            nsecs = rw w.in_ok-push.ensures.items
                (upto_push c.records.place records c.records.nsecs.items within
                (λ d. ap (λ (r : Record). r.kind) (sym (there d))
                ∙ (sym c.kind.ensures.kind ∙ w.if-kind-eq-TYPE_NSEC.true)) c.records.invariant.nsecs);
            held = held;
          })
      | else-kind-eq-TYPE_NSEC w ↦
          rw w.nsecs-is (record {
            nsecs = upto_skip c.records.place records c.records.nsecs.items within (λ d e.
                w.if-kind-eq-TYPE_NSEC.false (c.kind.ensures.kind ∙ (ap (λ (r : Record). r.kind) (there d) ∙ e)))
                c.records.invariant.nsecs;
            held = held;
          })
    ]

pub returns : goal.returns
returns c = record {
  nsecs = upto_all c.records.place c.args.records.now c.records.nsecs.items c.records-test.false
      c.records.auto.place-end c.records.invariant.nsecs;
  held = λ k d lt. c.records.invariant.held k d (omega (arith, c.records-test.false));
}
