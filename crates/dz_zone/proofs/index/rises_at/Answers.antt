use Rattle.std.proofs.Common.{[], get_or, arith}
use Rattle.dz_zone.specs.Version.{owners_of}
use Rattle.dz_zone.proofs.RisingLemmas.{first_none, order_there, not_behind, next_rises}
use Rattle.dz_zone.proofs.index.rises_at.Goals as goal

pub returns-then-place-eq0 : goal.returns-then-place-eq0
returns-then-place-eq0 c = record {
  order = λ t. first_none (owners_of c.args.records.now) (get_or (owners_of c.args.records.now) c.args.place [])
      c.args.place c.args.owners c.requires.owners c.if-place-eq0.true;
  rises = λ t some. absurd (omega (arith, c.if-place-eq0.true));
}

pub comes_before-requires : goal.comes_before-requires
comes_before-requires c =
    order_there c.args.records.now c.args.place c.index-records-place.result c.index-records-place-2.result
    c.args.owners c.if-place-eq0.false c.requires.within
    c.index-records-place.is c.index-records-place-2.is c.requires.owners

pub returns : goal.returns
returns c =
    let order = order_there c.args.records.now c.args.place c.index-records-place.result c.index-records-place-2.result
    c.args.owners c.if-place-eq0.false c.requires.within
    c.index-records-place.is c.index-records-place-2.is c.requires.owners in
    record {
      order = not_behind c.index-records-place.result c.index-records-place-2.result c.args.owners _ order
          c.comes_before.ensures;
      rises = next_rises c.args.records.now c.args.place c.index-records-place.result c.index-records-place-2.result _
          c.requires.within c.index-records-place.is c.index-records-place-2.is c.comes_before.ensures;
    }
