use Rattle.std.proofs.Common.{◌≡◌, ◌∙◌, ap, refl, length, map, arith}
use Rattle.std.proofs.lemmas.List.{length-map}
use Rattle.dz_history.specs.State.{State}
use Rattle.dz_history.proofs.ListLemmas.{count_is}
use Rattle.dz_fleet.specs.inner.Flying.{job_in}
use Rattle.dz_fleet.proofs.fleet.Fleet.quiet.Goals as goal

pub returns : goal.returns
returns c =
    let k = c.self.invariant.0 in
    let count =
    c.count.ensures ∙ (ap (λ (s : State). s.count) k.after ∙ count_is c.self.inside.history k.sound.legal) in
    let jobs : c.len.result ≡ length (map job_in c.self.inside.flying.items) =
    omega (arith, c.len.ensures, c.self.inside.flying.ok.0, length-map c.self.inside.flying.items job_in) in
    rw (c.new.ensures, count, jobs, c.earliest-earliest.ensures, ← c.self.view_is) refl
