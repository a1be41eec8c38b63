use Rattle.std.proofs.Common.{◌≡◌, ◌≤◌, length, None}
use Rattle.std.specs.List.{All}
use mathlib.Core.List.{IsPrefix}
use Rattle.dz_provision.specs.Endings.{EndsAmong}
use Rattle.dz_transfer.specs.declared.serve.TransferEnd.TheVariants as ends
use Rattle.dz_transfer.proofs.ServeLemmas.{IsGoing}
use Rattle.dz_transfer.proofs.serve.serve_transfers.Given as goal

abbrev pub invariant-jobs : goal.invariant-jobs
invariant-jobs g l = record {
  same : l.reading ≡ record l.initial.reading { list = l.reading.list };
  seen : IsPrefix l.initial.reading.list l.reading.list;
  back : g.D.Dialer.out l.dialer ≡ None;
  parts : l.share.parts ≡ l.initial.share.parts;
  going : IsGoing l.done l.share.amount (length l.initial.reading.list) l.reading.list
      (g.D.Dialer.links l.initial.dialer)
      (g.D.Dialer.links l.dialer) (g.D.Dialer.faults l.initial.dialer) (g.D.Dialer.faults l.dialer);
  later : g.D.Dialer.faults l.initial.dialer ≤ g.D.Dialer.faults l.dialer;
  give : g.C.Clock.may_give l.clock ≡ g.C.Clock.may_give l.initial.clock;
  stop : g.C.Clock.may_stop l.clock ≡ g.C.Clock.may_stop l.initial.clock;
  end : l.done.end ≡ ends.Stopped;
  moments : All (EndsAmong (g.C.Clock.may_give l.initial.clock)) l.done.endings;
}
