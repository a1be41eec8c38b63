-- Where nothing is published no zone is served.
use Rattle.std.proofs.Common.{◌≡◌, [], refl, sym, ap, ◌∙◌, arith}
use Rattle.std.proofs.lemmas.List.{nil_from_length}
use Rattle.dz_name.specs.Words.{Name}
use Rattle.dz_io.specs.declared.peer.Peer.{Peer}
use Rattle.dz_notify.specs.declared.notify.Heard.TheVariants as heard
use Rattle.dz_history.specs.State.{primaries_at}
use Rattle.dz_history.specs.Heard.{heard_at}
use Rattle.dz_session_tests.proofs.query.EarlyEar.hear.Goals as goal

nothing_served : (peer : Peer) (zone : Name) → heard_at [] peer zone ≡ heard.NotOurs
unfolding primaries_at
nothing_served peer zone = refl

pub returns-then-count-eq0-clause-heard : goal.returns-then-count-eq0-clause-heard
returns-then-count-eq0-clause-heard g c =
    let list = c.args.reading.now.list in
    let none : list ≡ [] = nil_from_length list (omega (arith, c.count.ensures.count, c.if-count-eq0.true)) in
    sym (ap (λ list. heard_at list c.args._peer.now c.args._zone.now) none
    ∙ nothing_served c.args._peer.now c.args._zone.now)
