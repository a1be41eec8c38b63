use Rattle.std.proofs.Common.{◌≡◌, false, ap, sym, ◌∙◌, arith}
use Rattle.dz_desk.specs.Seen.{Viewed}
use Rattle.dz_job.specs.declared.verdict.Verdict.TheVariants.{OutOfMemory}
use Rattle.dz_provision.specs.Held.{Held}
use Rattle.dz_provision.specs.inner.Ready.{is_want}
use Rattle.dz_provision.proofs.FaultLemmas.{settled_fault, can_fail}
use Rattle.dz_provision.proofs.SettledLemmas.{settled_ok, settled_err, settled_last}
use Rattle.dz_provision.proofs.AloudLemmas.{aloud, aloud_starved, uncounted, counted}
use Rattle.dz_provision.proofs.provisioner.Provisioner.settle_aloud.Goals as goal

pub returns-in-Err-clause-settled : goal.returns-in-Err-clause-settled
returns-in-Err-clause-settled g c =
    settled_err _ _ c.args.job c.args.now _ c.in-Err.unmade _ c.requires.list c.in-Err.ensures.settled

pub returns-in-Err-clause-cause : goal.returns-in-Err-clause-cause
returns-in-Err-clause-cause g c = λ is.
    can_fail g.K.Sink.faults c.self.inside.output c.self.inside.log_failed (ap (λ (h : Held). h.failed) c.self.view_is
    ∙ settled_fault _ _ c.args.job _ c.args.now c.in-Err.unmade c.in-Err.ensures.settled (cc is)) c.self.invariant.4

pub returns-else-is_want-clause-settled : goal.returns-else-is_want-clause-settled
returns-else-is_want-clause-settled g c =
    let used = c.in-Ok.ensures.used
    (λ none. let e : is_want OutOfMemory ≡ false = rw none at (sym c.is_want.ensures ∙ c.if-is_want.false) in
    cc e) in
    settled_ok _ _ c.args.job c.args.now _ c.in-Ok.verdict c.in-Ok.told _ _ used
    c.requires.list c.in-Ok.ensures.settled c.in-Ok.ensures.note.0 c.show_taken.ensures.taken
    (λ f. ap (λ (r : Viewed). r.list) (c.show_taken.ensures.untaken f))

pub returns-else-is_want-clause-last : goal.returns-else-is_want-clause-last
returns-else-is_want-clause-last g c = λ takes.
    let used = c.in-Ok.ensures.used
    (λ none. let e : is_want OutOfMemory ≡ false = rw none at (sym c.is_want.ensures ∙ c.if-is_want.false) in
    cc e) in
    settled_last _ _ c.args.job c.args.now _ c.in-Ok.verdict c.in-Ok.told used c.in-Ok.ensures.settled takes

pub returns-else-is_want-clause-made : goal.returns-else-is_want-clause-made
returns-else-is_want-clause-made g c = aloud _ c.args.job _ c.args.now c.in-Ok.verdict c.in-Ok.told _
    (sym c.is_want.ensures ∙ c.if-is_want.false) c.in-Ok.ensures.settled

pub returns-then-is_want-clause-made : goal.returns-then-is_want-clause-made
returns-then-is_want-clause-made g c =
    aloud_starved _ c.args.job _ c.args.now c.in-Ok.verdict c.say_starved.result c.in-Ok.told _ _
    (sym c.is_want.ensures ∙ c.if-is_want.true) c.in-Ok.ensures.settled c.say_starved.ensures.answer
    (rw c.zone.ensures at c.say_starved.ensures.said)

pub returns-then-is_want-clause-counted : goal.returns-then-is_want-clause-counted
returns-then-is_want-clause-counted g c =
    counted c.say_starved.result c.args.job _ c.args.now _ _ c.say_starved.ensures.answer c.say_starved.ensures.counted

pub returns-else-is_want-clause-counted : goal.returns-else-is_want-clause-counted
returns-else-is_want-clause-counted g c =
    omega (
      arith,
      uncounted c.args.job c.args.finished.octets c.args.now c.in-Ok.verdict
          (sym c.is_want.ensures ∙ c.if-is_want.false),
    )
