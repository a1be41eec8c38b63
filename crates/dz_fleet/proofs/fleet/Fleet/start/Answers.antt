use Rattle.std.proofs.Common.{◌∙◌, ap, sym}
use Rattle.dz_fleet.specs.Last.{last_of}
use Rattle.dz_history.specs.State.{opened}
use Rattle.dz_fleet.proofs.StartLemmas.{opened_kept, same_setup}
use Rattle.dz_fleet.proofs.fleet.Fleet.start.Goals as goal

pub invariant_of-result-2 : goal.invariant_of-result-2
invariant_of-result-2 c =
    let same = same_setup c.config_of.result c.args.config c.config_of.ensures in
    let is = c.in_ok-holdings.ensures.opened ∙ ap opened same in (
      rw (
        c.in_ok-with_capacity.ensures.items,
        c.listed-history.ensures,
        c.schedule.view_is,
        c.in_ok-schedule.ensures,
        c.catalogs.ensures,
      )
          (opened_kept c.args.config c.in_ok-holdings.holdings c.requires is c.in_ok-holdings.ensures.state),
      sym (ap last_of c.listed-history.ensures),
    )
