use Rattle.std.proofs.Common.{◌≡◌, map, sym, ◌∙◌, ap, subst}
use Rattle.dz_fleet.specs.Core.{Core}
use Rattle.dz_fleet.specs.Sound.{IsAmong, IsSound}
use Rattle.dz_fleet.specs.inner.Flying.{job_in}
use Rattle.dz_fleet.proofs.AbsentLemmas.{among_decides}
use Rattle.dz_fleet.proofs.GivenLemmas.{given_flies}
use Rattle.dz_fleet.proofs.fleet.Fleet.is_in_flight.Goals as goal

pub returns : goal.returns
returns c =
    let job = c.args.job.now in
    let fs = c.self.inside.flying.items in
    let ok = subst IsSound c.self.view_is c.self.invariant.0.sound in
    let flight : map job_in fs ≡ c.args.self.now.flight = ap (λ (x : Core). x.flight) c.self.view_is in
    let is = rw (c.deref.ensures.value, c.flight.ensures.flight) at c.is_among.ensures in
    let both = among_decides job.flight fs in (
      λ t. given_flies c.args.self.now job ok (c.requires.given ok)
          (subst (IsAmong job.flight) flight (both.0 (sym is ∙ t))),
      λ f. is ∙ both.1 (subst (IsAmong job.flight) (sym flight) f.there),
    )
