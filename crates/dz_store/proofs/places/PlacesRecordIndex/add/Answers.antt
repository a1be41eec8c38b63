use Rattle.std.proofs.Common.{◌≡◌, ℕ, List, length, Option, Some, None, cond, ap, sym, ◌∙◌, arith}
use Rattle.std.specs.BTreeMap.{get}
use Rattle.dz_name.specs.Name.{canonical_order}
use Rattle.dz_store.specs.declared.places.Place.{Place}
use Rattle.dz_store.proofs.PayloadLemmas.{read_zone}
use Rattle.dz_store.proofs.PlaceLemmas.{placed}
use Rattle.dz_store.proofs.places.PlacesRecordIndex.add.Goals as goal

pub returns-in_default-clause-ok : goal.returns-in_default-clause-ok
returns-in_default-clause-ok c =
    absurd (read_zone c.args.payload.now c.requires (sym c.zone_of.ensures ∙ c.in_default.is))

pub returns-in_ok-insert-clause-ok : goal.returns-in_ok-insert-clause-ok
returns-in_ok-insert-clause-ok c = λ list known at zone.
    let place : Option Place = Some (record { at = c.args.at; size = length c.args.payload.now }) in
    placed zone c.in-Some.zone list c.args.payload.now c.args.at (get canonical_order c.args.self.now.entries zone)
    (get canonical_order c.insert.new.self zone) place (known zone) at (sym c.zone_of.ensures ∙ c.in-Some.is)
    (ap (λ b. cond b place None) (sym c.if-is_kept.true ∙ c.is_kept.ensures)) (c.in_ok-insert.ensures.updates.0 zone)

pub returns-else-is_kept-clause-ok : goal.returns-else-is_kept-clause-ok
returns-else-is_kept-clause-ok c = λ list known at zone.
    let place : Option Place = Some (record { at = c.args.at; size = length c.args.payload.now }) in
    placed zone c.in-Some.zone list c.args.payload.now c.args.at (get canonical_order c.args.self.now.entries zone)
    (get canonical_order c.remove.new.self zone) None (known zone) at (sym c.zone_of.ensures ∙ c.in-Some.is)
    (ap (λ b. cond b place None) (sym c.if-is_kept.false ∙ c.is_kept.ensures)) (c.remove.ensures.updates.0 zone)
