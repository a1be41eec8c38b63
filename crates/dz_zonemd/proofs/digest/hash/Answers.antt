use Rattle.std.proofs.Common.{◌≡◌, ◌++◌, take, subst, arith, ◌∙◌, ap, sym}
use Rattle.std.specs.Prelude.{not, filter, flat_map}
use Rattle.std.proofs.lemmas.List.{take_all}
use Rattle.std.proofs.lemmas.Option.{get_or_from_slice_get}
use Rattle.dz_record.specs.Record.{record_octets}
use Rattle.dz_zonemd.specs.Digested.{is_left_out}
use Rattle.dz_zonemd.proofs.DigestLemmas.{digested_rising, one_digested, one_left_out}
use Rattle.dz_zonemd.proofs.digest.hash.Goals.{then-not-is_left_out, else-not-is_left_out}
use Rattle.dz_zonemd.proofs.digest.hash.Goals as goal

pub records-preserved : goal.records-preserved
records-preserved g c =
    let invariant = c.records.invariant in
    let r = c.record_at.result.now in
    let is = sym (get_or_from_slice_get c.args.records.now c.records.place r r c.record_at.ensures) in
    elim c.if-not-is_left_out.branch [
      | then-not-is_left_out w ↦
          let next = w.join_record-count.ensures.holds r c.record_at.ensures invariant.1.0 invariant.1.1 in
          let one = one_digested c.args.apex.now c.args.records.now c.records.place r c.records-test.true is
          (sym c.is_left_out.ensures ∙ w.if-not-is_left_out.true) in
          rw (w.count-is, w.hasher-is, w.batch-is) (
            w.join_record-count.ensures.within,
            (next.0, next.1, next.2 ∙ (ap (λ s. s ++ record_octets r) invariant.1.2 ∙ one)),
          )
      | else-not-is_left_out w ↦
          let one = one_left_out c.args.apex.now c.args.records.now c.records.place r c.records-test.true is
          (sym c.is_left_out.ensures ∙ w.if-not-is_left_out.false) in
          rw (w.count-is, w.hasher-is, w.batch-is) (invariant.0, (invariant.1.0, invariant.1.1, invariant.1.2 ∙ one))
    ]

pub returns : goal.returns
returns g c =
    let invariant = c.records.invariant in
    let last = c.update.ensures invariant.1.0 invariant.1.1 in
    let all : take c.records.place c.args.records.now ≡ c.args.records.now =
    take_all c.records.place c.args.records.now (omega arith) in
    let e =
    invariant.1.2 ∙ (ap (λ rs. flat_map record_octets (filter (λ r. not (is_left_out c.args.apex.now r)) rs)) all
    ∙ digested_rising c.args.apex.now c.args.records.now c.requires) in
    c.finalize.ensures _ (subst (λ m. g.D.Digest.holds c.update.new.self m) e last)
