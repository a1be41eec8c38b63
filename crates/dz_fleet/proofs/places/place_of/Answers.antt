use Rattle.std.proofs.Common.{sym, refl, arith}
use Rattle.dz_name.specs.Name.{same_name}
use Rattle.dz_history.proofs.FindLemmas.{place_within}
use Rattle.dz_history.proofs.PlaceLemmas.{place_catalog, place_member}
use Rattle.dz_fleet.proofs.places.place_of.Goals as goal

pub overflow_add-result : goal.overflow_add-result
overflow_add-result c =
    let w = place_within (λ m. same_name m.zone c.args.zone.now) c.fold-fold.result.now.members
    c.in-Some-place_of.place c.in-Some-place_of.ensures in
    omega (arith, w, c.catalogs-catalogs.ensures.few, c.catalogs-catalogs.type_inv)

pub returns-in-Some : goal.returns-in-Some
returns-in-Some c = sym (place_catalog c.args.holdings.now c.args.zone.now c.in-Some.number
    (rw c.fold-fold.ensures.fold at c.in-Some.ensures))

pub returns-in-Some-place_of : goal.returns-in-Some-place_of
returns-in-Some-place_of c =
    rw (
      place_member c.args.holdings.now c.args.zone.now (rw c.fold-fold.ensures.fold at c.in-None.ensures),
      ← rw c.fold-fold.ensures.fold at c.in-Some-place_of.ensures,
      c.catalogs-catalogs.ensures.catalogs,
      c.fold-fold.ensures.fold,
    ) refl

pub returns-in-None-place_of : goal.returns-in-None-place_of
returns-in-None-place_of c =
    rw (
      place_member c.args.holdings.now c.args.zone.now (rw c.fold-fold.ensures.fold at c.in-None.ensures),
      ← rw c.fold-fold.ensures.fold at c.in-None-place_of.ensures,
    ) refl
