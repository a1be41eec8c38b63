use Rattle.std.proofs.Common.{rules, arith, ◌<◌, ◌∙◌, sym, ap, length}
use Rattle.dz_lookup.specs.inner.Links.{record_in}
use Rattle.dz_lookup.proofs.LinkLemmas.{length_pairs, record_at}
use Rattle.dz_lookup.proofs.chain.Chain.record.Goals as goal

pub offset_bounds-records-number : goal.offset_bounds-records-number
offset_bounds-records-number c = omega (
  arith,
  c.as_slice-records.ensures.fits,
  c.requires,
  ap length c.self.view_is,
  length_pairs c.self.inside.first c.self.inside.records.items,
  ap length c.as_slice-records.ensures.value,
)

pub bounds-records-number : goal.bounds-records-number
bounds-records-number c = omega (
  arith,
  c.requires,
  ap length c.self.view_is,
  length_pairs c.self.inside.first c.self.inside.records.items,
  ap length c.as_slice-records.ensures.value,
)

pub bounds : goal.bounds
bounds c = omega (
  arith,
  c.requires,
  ap length c.self.view_is,
  length_pairs c.self.inside.first c.self.inside.records.items,
  ap length c.as_slice-records.ensures.value,
)

pub bounds-records-number-in-Some-1 : goal.bounds-records-number-in-Some-1
bounds-records-number-in-Some-1 c = omega (
  arith,
  c.requires,
  ap length c.self.view_is,
  length_pairs c.self.inside.first c.self.inside.records.items,
  ap length c.as_slice-records.ensures.value,
)

pub unreachable-requires : goal.unreachable-requires
unreachable-requires c =
    let within : c.args.number < length c.self.inside.records.items = omega
    (arith, c.requires, ap length c.self.view_is, length_pairs c.self.inside.first c.self.inside.records.items) in
    search rules

pub returns : goal.returns
returns c d =
    let within : c.args.number < length c.self.inside.records.items = omega
    (arith, c.requires, ap length c.self.view_is, length_pairs c.self.inside.first c.self.inside.records.items) in
    let there = rw c.as_slice-records.ensures.value at c.in-Some.is in
    rw (← c.self.view_is)
    (ap record_in (sym there) ∙ record_at c.self.inside.first c.self.inside.records.items c.args.number d _ within)
