use Rattle.std.proofs.Common.{◌≡◌, Some, sym, ◌∙◌}
use Rattle.dz_run.proofs.KeptLemmas.{ended_so}
use Rattle.dz_run.proofs.replaying.Replaying.end_at.Goals as goal

pub returns : goal.returns
returns g c =
    let there : c.self.inside.stage ≡ Some c.in-Some.stage = sym c.take.ensures.value ∙ c.in-Some.is in
    let e = c.close-ends.ensures in
    rw (c.put.ensures, ← c.self.view_is, there)
    (ended_so g.K.Sink.held g.K.Sink.faults c.self.inside.opening c.in-Some.stage
    (record c.close-ends.result.0 { output = c.put_bad-ended.new.output }) _ _ c.put_bad-ended.result _ _ e.core
    e.written e.faults c.put_bad-ended.ensures.done c.put_bad-ended.ensures.cause)
