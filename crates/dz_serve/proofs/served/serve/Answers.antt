-- A run that no worker began, and one over a list that begins with the configuration.
use Rattle.std.proofs.Common.{ap, ◌∙◌}
use Rattle.dz_serve.proofs.RunLemmas.{none_used, both_used, begun_of, first_opened}
use Rattle.dz_serve.proofs.served.serve.Goals as goal

pub returns-in_default-clause-unserved : goal.returns-in_default-clause-unserved
returns-in_default-clause-unserved g c empty = (c.unserved.ensures.output, none_used _)

pub returns-in-Err-clause-unserved : goal.returns-in-Err-clause-unserved
returns-in-Err-clause-unserved g c empty =
    let o = c.in-Ok-open_devices.ensures in (
      c.not_started.ensures.output ∙ c.in-Err.ensures.err.1,
      both_used _ _ _ _ _ _ _ _ _ o.datagram_one o.datagram_two o.acceptor_one o.acceptor_two o.dialer_one o.dialer_two
          (rw o.datagrams at c.not_started.ensures.datagrams) (rw o.acceptors at c.not_started.ensures.acceptors)
          (rw o.dialers at c.not_started.ensures.dialers),
    )

pub returns-in-Ok-start-clause-served : goal.returns-in-Ok-start-clause-served
returns-in-Ok-start-clause-served g c some =
    let o = c.in-Ok-open_devices.ensures in
    let first = first_opened _ _ (ap (λ p. p.core.list) c.in-Ok-start.ensures.ok) in (
      c.begin_over.ensures.begun _ first,
      rw c.new-inputs.ensures.downstream
          at (c.begin_over.ensures.served _ _ _ first o.datagrams o.acceptors o.dialers),
    )

pub returns-in-Ok-start-clause-unserved : goal.returns-in-Ok-start-clause-unserved
returns-in-Ok-start-clause-unserved g c empty =
    let first = first_opened _ _ (ap (λ p. p.core.list) c.in-Ok-start.ensures.ok) in
    absurd (begun_of _ _ (c.begin_over.ensures.begun _ first).begins empty)

pub returns-in-Ok-start-clause-done : goal.returns-in-Ok-start-clause-done
returns-in-Ok-start-clause-done g c is =
    let first = first_opened _ _ (ap (λ p. p.core.list) c.in-Ok-start.ensures.ok) in
    (begun_of _ _ (c.begin_over.ensures.begun _ first).begins, c.begin_over.ensures.done is)
