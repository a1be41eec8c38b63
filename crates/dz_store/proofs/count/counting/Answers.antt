use Rattle.std.proofs.Common.{◌≡◌, ℕ, List, Option, Some, None, ap, sym, subst, ◌∙◌, arith}
use Rattle.std.specs.Option.{option_map}
use Rattle.std.specs.BTreeMap.{get}
use Rattle.std.proofs.lemmas.Result.{IfOk-weaker}
use Rattle.dz_name.specs.Words.{Name}
use Rattle.dz_name.specs.Name.{canonical_order}
use Rattle.dz_disk.specs.RecordLog.{records, IsPart}
use Rattle.dz_store.specs.Payload.{reads}
use Rattle.dz_store.specs.Store.{counting}
use Rattle.dz_store.specs.inner.Places.{places}
use Rattle.dz_store.specs.declared.places.Places.{Places}
use Rattle.dz_store.proofs.PlaceLemmas.{counts, none_counts, one_within, one_counts}
use Rattle.dz_store.proofs.count.counting.Goals as goal
use Rattle.dz_store.proofs.count.counting.Goals.{then-place-gt-FAR-via-then-place-gt-FAR}
use Rattle.dz_store.proofs.count.counting.Goals.{then-place-gt-FAR-via-else-place-gt-FAR+then-place-gt-FAR-2}

abbrev IsOf : Places → List (List ℕ) → Type 0
IsOf index list = (zone : Name) → get canonical_order index.entries zone ≡ (places zone list).place

pub returns-in-None-clause-counting : goal.returns-in-None-clause-counting
returns-in-None-clause-counting g c = λ f told.
    let stored = c.index.ensures.settled (sym c.has_failed.ensures.value ∙ c.if-has_failed.false) f told in
    let agree = counts IsOf (g.D.Disk.may_leave c.args.log.now.disk) c.args.zone.now f c.args.log.now.index
    c.args.log.now.end stored in
    let found = c.find.ensures (records reads f)
    (subst (λ i. IsOf i (records reads f)) (sym c.index.ensures.index) stored.known) in
    none_counts f c.args.log.now.end (places c.args.zone.now (records reads f)).place
    (counting c.args.zone.now (records reads f)) agree (sym c.in-None.is ∙ found)

pub returns-then-place-gt-FAR-clause-counting : goal.returns-then-place-gt-FAR-clause-counting
returns-then-place-gt-FAR-clause-counting g c = λ f told.
    let stored = c.index.ensures.settled (sym c.has_failed.ensures.value ∙ c.if-has_failed.false) f told in
    let agree = counts IsOf (g.D.Disk.may_leave c.args.log.now.disk) c.args.zone.now f c.args.log.now.index
    c.args.log.now.end stored in
    let found = c.find.ensures (records reads f)
    (subst (λ i. IsOf i (records reads f)) (sym c.index.ensures.index) stored.known) in
    let within = one_within f c.args.log.now.end (places c.args.zone.now (records reads f)).place
    (counting c.args.zone.now (records reads f)) c.in-Some.place agree (sym c.in-Some.is ∙ found) in
    let most = c.index.ensures.within in
    absurd (elim c.then-place-gt-FAR.branch [
      | then-place-gt-FAR-via-then-place-gt-FAR w ↦ omega (arith, within, most, w.if-place-gt-FAR.true)
      | then-place-gt-FAR-via-else-place-gt-FAR+then-place-gt-FAR-2 w ↦
          omega (arith, within, most, w.if-place-gt-FAR-2.true)
    ])

pub returns-else-place-gt-FAR-2-clause-counting : goal.returns-else-place-gt-FAR-2-clause-counting
returns-else-place-gt-FAR-2-clause-counting g c = IfOk-weaker c.payload.result _ _ (λ o part f told.
    let stored = c.index.ensures.settled (sym c.has_failed.ensures.value ∙ c.if-has_failed.false) f told in
    let agree = counts IsOf (g.D.Disk.may_leave c.args.log.now.disk) c.args.zone.now f c.args.log.now.index
    c.args.log.now.end stored in
    let found = c.find.ensures (records reads f)
    (subst (λ i. IsOf i (records reads f)) (sym c.index.ensures.index) stored.known) in
    one_counts f c.args.log.now.end (places c.args.zone.now (records reads f)).place
    (counting c.args.zone.now (records reads f)) c.in-Some.place (option_map (λ v. v.items) o) agree
    (sym c.in-Some.is ∙ found) (part f told))
    c.payload.ensures.part
