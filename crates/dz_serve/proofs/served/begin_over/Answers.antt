-- A run that no worker began, and one over a list that begins with the configuration.
use Rattle.std.proofs.Common.{refl, ap, ◌∙◌}
use Rattle.dz_serve.specs.Runs as runs
use Rattle.dz_serve.proofs.RunLemmas.{both_used, begins_at, err_not_ok, ok_same, listed_as, ran_as, some_begun}
use Rattle.dz_serve.proofs.RunLemmas.{some_is}
use Rattle.dz_serve.proofs.served.begin_over.Goals as goal

pub returns-in-Err-clause-begun : goal.returns-in-Err-clause-begun
returns-in-Err-clause-begun g c config first =
    listed_as _ _ _ c.halted.ensures.list c.begin.ensures.legal (c.begin.ensures.first _ first)

pub returns-in-Err-clause-served : goal.returns-in-Err-clause-served
returns-in-Err-clause-served g c config listen before first d a l =
    let r = c.requires in
    let x = c.close_devices.ensures in
    let u = c.unused-seats.ensures in
    let h = c.halted.ensures in
    record {
      starved = _;
      run = runs.halted (some_is _ (λ none. err_not_ok _ _ (c.in-Err.ensures.none (rw none refl)).0))
          (rw h.end c.in-Err.ensures.halt) (ap (λ s. s.amount) u.share ∙ r.share.2)
          (both_used _ _ _ _ _ _ _ _ _ r.datagrams_one r.datagrams_two r.acceptors_one r.acceptors_two r.dialers_one
          r.dialers_two (rw (u.devices, d) at x.datagrams) (rw (u.devices, a) at x.acceptors)
          (rw (u.devices, l) at x.dialers));
      logged = rw h.end h.logged;
    }

pub returns-in-Ok-clause-begun : goal.returns-in-Ok-clause-begun
returns-in-Ok-clause-begun g c config first =
    record {
      legal = c.serve_over.ensures.legal;
      begins = begins_at _ _ _ (c.begin.ensures.first _ first) c.serve_over.ensures.begins;
    }

pub returns-in-Ok-clause-served : goal.returns-in-Ok-clause-served
returns-in-Ok-clause-served g c config listen before first d a l =
    let s = c.serve_over.ensures.served (some_begun _ _ (c.begin.ensures.first _ first)) in
    record {
      starved = s.0;
      run = ran_as c.args.disk c.in-Ok.store _ _ _ _ _ _ _ _ _ _ _ _
          (λ none. ok_same _ _ (c.in-Ok.ensures.none (rw none refl)).0) d a l s.1;
      logged = s.2;
    }
