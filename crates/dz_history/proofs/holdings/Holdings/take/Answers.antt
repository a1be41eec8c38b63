use Rattle.std.proofs.Common.{◌≡◌, sym, ◌∙◌, ap}
use Rattle.std.specs.Arc.{arc_value}
use Rattle.dz_take.specs.Outcome.{outcome}
use Rattle.dz_take.specs.Taken.{meaning_of}
use Rattle.dz_take.specs.Transfer.{new}
use Rattle.dz_history.proofs.StateLemmas.{refused_stays, refused_alone, same_alone, new_fits}
use Rattle.dz_history.proofs.holdings.Holdings.take.Goals as goal

pub take_version-requires-clause-own : goal.take_version-requires-clause-own
take_version-requires-clause-own c =
    let t = c.args.finished.now.transfer in
    let octets = c.args.finished.now.octets in
    let is : outcome t octets ≡ new (arc_value c.in-New.version) = sym c.outcome.ensures ∙ ap meaning_of c.in-New.is in
    rw c.apex-zone.ensures (new_fits t octets (arc_value c.in-New.version) is)

pub returns-in_ok-refreshed-in-UpToDate-clause-aftermath : goal.returns-in_ok-refreshed-in-UpToDate-clause-aftermath
returns-in_ok-refreshed-in-UpToDate-clause-aftermath c =
    rw (← c.outcome.ensures, c.in-UpToDate.is) (sym (same_alone c.args.self.now c.args.finished.now.transfer.apex))

pub returns-in_ok-share-in-Refused-clause-state : goal.returns-in_ok-share-in-Refused-clause-state
returns-in_ok-share-in-Refused-clause-state c =
    c.counted.ensures ∙ rw (c.in_ok-share-in-Refused.ensures, ← c.outcome.ensures, c.in-Refused.is)
    (sym (refused_stays c.args.self.now c.args.finished.now.transfer.apex c.args.moment _))

pub returns-in_ok-share-in-Refused-clause-aftermath : goal.returns-in_ok-share-in-Refused-clause-aftermath
returns-in_ok-share-in-Refused-clause-aftermath c =
    rw (← c.outcome.ensures, c.in-Refused.is) (sym (refused_alone c.args.self.now c.args.finished.now.transfer.apex _))
