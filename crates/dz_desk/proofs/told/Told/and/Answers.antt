use Rattle.std.proofs.Common.{sym, ◌∙◌, ap}
use Rattle.dz_desk.proofs.LedgerLemmas.{enters_moves}
use Rattle.dz_desk.proofs.told.Told.and.Goals as goal

pub compare_exchange-found-requires : goal.compare_exchange-found-requires
compare_exchange-found-requires c =
    let word = c.requires.own in
    let offer = c.plain-offer.ensures in
    let pen = c.no_pen-pen.ensures in
    let reached = c.again-reached.ensures in
    let own = ap (λ r. r.book) reached ∙ (ap (λ p. p.book) c.self.view_is ∙ sym (ap (λ w. w.book) word)) in (
      ap (λ w. w.tracked) word,
      own,
      pen.0 ∙ own,
      offer.0,
      rw (ap (λ w. w.key) word, pen.1, offer.1, offer.3) (enters_moves c.again-reached.result.log c.args.entry.now
          c.self.inside.count (rw reached (sym c.self.invariant.0))),
    )
