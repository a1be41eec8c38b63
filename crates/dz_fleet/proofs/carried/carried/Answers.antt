use Rattle.std.proofs.Common.{sym, ◌∙◌, ap, length}
use Rattle.dz_name.specs.Name.{same_name}
use Rattle.dz_member.proofs.SearchLemmas.{place_found, place_missing}
use Rattle.dz_fleet.specs.Values.{value_in, kept}
use Rattle.dz_fleet.proofs.CarryLemmas.{carried_new, carried_same, carried_other, member_place}
use Rattle.dz_fleet.proofs.carried.carried.Goals as goal

pub returns-in-None : goal.returns-in-None
returns-in-None c =
    let zone = c.args.member.now.zone in
    c.fresh.ensures ∙ sym (carried_new c.args.before.now c.args.schedule.now c.args.member.now
    (sym (place_missing (λ m. same_name m.zone zone) c.args.before.now.fold.members
    (sym c.requires.held ∙ c.in-None.is))))

pub returns-then-incarnation : goal.returns-then-incarnation
returns-then-incarnation c =
    let zone = c.args.member.now.zone in
    let at = sym c.requires.held ∙ c.in-Some.is in
    let there = rw c.fold-fold.ensures.fold at c.member-held.ensures in
    let found = sym (place_found (λ m. same_name m.zone zone) c.args.before.now.fold.members c.in-Some.place
    c.member-held.result at there) in
    let same = sym c.incarnation.ensures ∙ (c.if-incarnation.true ∙ c.incarnation-in-Some.ensures) in
    let config = ap length (rw c.fold-fold.ensures.fold at c.catalogs.ensures.catalogs) in
    let seat = member_place c.args.before.now zone c.in-Some.place c.member-held.result c.requires.apart (sym at) there
    in
    rw (c.kept.ensures, c.value_at.ensures, config)
    (sym (carried_same c.args.before.now c.args.schedule.now c.args.member.now c.member-held.result found same
    ∙ ap (λ p. kept (value_in c.args.schedule.now p) c.member-held.result c.args.member.now) seat))

pub returns-else-incarnation : goal.returns-else-incarnation
returns-else-incarnation c =
    let zone = c.args.member.now.zone in
    let at = sym c.requires.held ∙ c.in-Some.is in
    let there = rw c.fold-fold.ensures.fold at c.member-held.ensures in
    let found = sym (place_found (λ m. same_name m.zone zone) c.args.before.now.fold.members c.in-Some.place
    c.member-held.result at there) in
    c.fresh-else-incarnation.ensures
    ∙ sym (carried_other c.args.before.now c.args.schedule.now c.args.member.now c.member-held.result found
    (λ e. c.if-incarnation.false (c.incarnation.ensures ∙ (e ∙ sym c.incarnation-in-Some.ensures))))
