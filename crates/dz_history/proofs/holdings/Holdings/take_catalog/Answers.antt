use Rattle.std.proofs.Common.{◌≡◌, sym, ◌∙◌, ap}
use Rattle.dz_history.specs.After.{counted}
use Rattle.dz_history.proofs.StateLemmas.{catalog_named, listed_err}
use Rattle.dz_history.proofs.holdings.Holdings.take_catalog.Goals as goal

pub with_version-requires-clause-own : goal.with_version-requires-clause-own
with_version-requires-clause-own c =
    c.requires.own ∙ sym (catalog_named c.args.self.now c.args.catalog.now c.args.number (sym c.requires.number))

pub returns-in_ok-holding-in-Broken-clause-state : goal.returns-in_ok-holding-in-Broken-clause-state
returns-in_ok-holding-in-Broken-clause-state c =
    let reason = rw (c.in-Broken.is, c.deref.ensures) at c.in_ok-reason.ensures in
    c.counted.ensures ∙ ap counted (c.in_ok-holding-in-Broken.ensures ∙ sym
    (listed_err c.args.self.now c.args.number c.args.catalog.now c.args.version.value c.in-Broken.reason reason))
