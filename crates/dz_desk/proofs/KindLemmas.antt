-- Each kind of step keeps the rule.
use Rattle.std.proofs.Common.{◌≡◌, ℕ, [], ◌∷◌, set, refl, sym, subst, None, Some}
use Rattle.dz_history.specs.After.{after}
use Rattle.dz_history.specs.Legal.{IsLegal, IsLegalFrom}
use Rattle.dz_desk.specs.Seen.{Page}
use Rattle.dz_desk.specs.Rule.{Keeps}
use Rattle.dz_desk.specs.Kinds.{DeskAt, IsRuled, Kind, making, handing_out, publishing, entering, leaving, telling}
use Rattle.dz_desk.specs.Kinds.{learning, ending, IsBefore, IsStep}
use Rattle.dz_desk.proofs.RuleLemmas.{goes_self, keeps_later, seat_sees, seat_more, opens}

no_entry : IsLegal []
unfolding IsLegalFrom
no_entry = tt

made : (d e : DeskAt) → IsStep making d e → IsRuled e
made d e is = record {
  legal = rw is.0 no_entry;
  table = rw is.0 (is.1);
  seen = rw is.2 (opens e.published);
}

-- the same list, while the seats change
seated : (d : DeskAt) → IsRuled d → (seats : _) → Keeps d.published seats → IsRuled (record d { seats = seats })
seated d was seats keeps = record { legal = was.legal; table = was.table; seen = keeps }

pub each_keeps : (kind : Kind) (d e : DeskAt) → IsBefore kind d → IsStep kind d e → IsRuled e
each_keeps making d e was is = made d e is
each_keeps handing_out d e was is = rw is (seated d was _ (seat_more d.published d.seats None was.seen tt))
each_keeps publishing d e was is = record {
  legal = is.legal;
  table = is.table;
  seen = rw is.seats (seat_sees e.published d.seats is.seat (Some e.published)
      (keeps_later d.published e.published d.seats was.seen is.goes) (goes_self e.published));
}
each_keeps entering d e was is =
    rw is.1 (seated d was _ (seat_sees d.published d.seats is.0 (Some d.published) was.seen (goes_self d.published)))
each_keeps leaving d e was is = rw is was
each_keeps telling d e was is =
    rw is.seats (seated d was _ (seat_more d.published d.seats is.seen was.seen (was.seen is.seat is.seen is.there)))
each_keeps learning d e was is = rw is.seats
    (seated d was _ (seat_sees d.published d.seats is.seat is.noted was.seen (was.seen is.other is.noted is.there)))
each_keeps ending d e was is = rw is was
