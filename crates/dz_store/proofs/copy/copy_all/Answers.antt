use Rattle.std.proofs.Common.{◌≡◌, ℕ, List, take, cond, Some, None, ap, sym, ◌∙◌, arith}
use Rattle.std.specs.List.{list_any}
use Rattle.std.specs.BTreeMap.{get, keys}
use Rattle.std.proofs.lemmas.List.{take_all}
use Rattle.dz_name.specs.Words.{Name}
use Rattle.dz_name.specs.Name.{canonical_order}
use Rattle.dz_disk.specs.RecordLog.{records}
use Rattle.dz_store.specs.Payload.{reads}
use Rattle.dz_store.specs.Store.{counting}
use Rattle.dz_store.specs.inner.Places.{places}
use Rattle.dz_store.specs.declared.places.Places.{Places}
use Rattle.dz_store.proofs.PlaceLemmas.{counts}
use Rattle.dz_store.proofs.CopyLemmas.{same, copied_more, all_copied}
use Rattle.dz_store.proofs.QuietLemmas.{quiet_both}
use Rattle.dz_store.proofs.copy.copy_all.Goals as goal

abbrev IsOf : Places → List (List ℕ) → Type 0
IsOf index list = (zone : Name) → get canonical_order index.entries zone ≡ (places zone list).place

pub zones-preserved : goal.zones-preserved
zones-preserved g c =
    let so_far = c.zones.invariant in
    let one = c.in_ok-copy_one.ensures in
    record {
      quiet = quiet_both g.D.Disk.file g.D.Disk.may_leave g.D.Disk.clock g.D.Disk.left_from c.args.source.now.disk
          c.zones.source.disk c.copy_one.new.source.disk so_far.quiet one.quiet;
      faults = one.faults.0 ∙ so_far.faults;
      counted = one.faults.1 ∙ so_far.counted;
      able = one.able.0 ∙ so_far.able;
      same = one.able.1 ∙ so_far.same;
      far = λ f e told empty none.
          let stored = c.index.ensures.settled (sym c.has_failed.ensures.value ∙ c.if-has_failed.false) f told in
          let far = so_far.far f e told empty none in
          let more = one.copied f far.0 (so_far.quiet.same ∙ told) far.1 in (
            more.0,
            more.1,
            copied_more (records reads f) c.deref-zone-items.result.now c.zones.zone-index c.zone-item.result
                (records reads far.0) (records reads more.0) stored.fits far.2 (omega arith) c.zone-item.is more.2,
          );
    }

pub returns-clause-copied : goal.returns-clause-copied
returns-clause-copied g c = λ f e told empty none.
    let stored = c.index.ensures.settled (sym c.has_failed.ensures.value ∙ c.if-has_failed.false) f told in
    let far = c.zones.invariant.far f e told empty none in
    let all : take c.zones.zone-index c.deref-zone-items.result.now ≡ c.deref-zone-items.result.now =
    take_all c.zones.zone-index c.deref-zone-items.result.now (omega arith) in
    let index = c.args.source.now.index in (
      far.0,
      far.1,
      λ zone.
          far.2 zone ∙ ap (λ l. cond (list_any (same zone) l) (counting zone (records reads f)) None) all
          ∙ all_copied zone f c.args.source.now.end index.entries (records reads f) c.deref-zone-items.result.now
          (counts IsOf (g.D.Disk.may_leave c.args.source.now.disk) zone f index c.args.source.now.end stored)
          (stored.known zone) (c.deref-zone-items.ensures.value ∙ c.in_ok-zones.ensures
          ∙ ap (λ (i : Places). keys i.entries) c.index.ensures.index),
    )
