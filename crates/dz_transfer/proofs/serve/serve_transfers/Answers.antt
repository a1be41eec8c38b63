use Rattle.std.proofs.Common.{rules, arith, sym, ◌∙◌, refl}
use Rattle.std.proofs.lemmas.List.Elements.{All-nil}
use Rattle.dz_desk.proofs.PrefixLemmas.{prefix_self, prefix_trans}
use Rattle.dz_transfer.proofs.ServeLemmas.{none_yet, goes_on, comes_to_an_end, ends_well, moments_more, not_log_fault}
use Rattle.dz_transfer.proofs.ServeLemmas.{log_fault}
use Rattle.dz_transfer.proofs.serve.serve_transfers.Goals as goal

pub jobs-init : goal.jobs-init
jobs-init g c =
    let e = c.nothing-done.ensures in
    record {
      same = refl;
      seen = prefix_self _;
      back = c.requires.dialer;
      parts = refl;
      going = none_yet _ _ _ _ _ e.dialed e.absent e.starved e.endings c.requires.share.0;
      later = omega arith;
      give = refl;
      stop = refl;
      end = e.end;
      moments = rw e.endings (All-nil _);
    }

pub work_one-worked-requires-clause-part : goal.work_one-worked-requires-clause-part
work_one-worked-requires-clause-part g c = omega (arith, c.jobs.invariant.parts, c.requires.share.1)

pub jobs-preserved : goal.jobs-preserved
jobs-preserved g c =
    let i = c.jobs.invariant in
    let e = c.work_one-worked.ensures in
    let m = c.joined-done.ensures in
    record {
      same = search rules;
      seen = prefix_trans _ _ _ i.seen e.seen;
      back = search rules;
      parts = e.parts ∙ i.parts;
      going = goes_on c.jobs.done c.joined-done.result c.work_one-worked.result m _ _ _ _ _ _ _ _ _ i.later e.later
          e.seen e.link e.worked _ _ e.counted i.going
          (not_log_fault _ (sym c.is_log_fault.ensures ∙ c.if-is_log_fault.false));
      later = omega (arith, i.later, e.later);
      give = search rules;
      stop = search rules;
      end = m.end ∙ i.end;
      moments = rw m.endings
          (moments_more _ c.jobs.done.endings c.work_one-worked.result.ending i.moments (rw i.give at e.ended));
    }

pub returns-then-is_log_fault-clause-served : goal.returns-then-is_log_fault-clause-served
returns-then-is_log_fault-clause-served g c =
    let i = c.jobs.invariant in
    let e = c.work_one-worked.ensures in
    comes_to_an_end c.jobs.done c.joined-done.result c.work_one-worked.result c.joined-done.ensures _ _ _ _ _ _ _ _ _
    i.later e.later e.seen e.link e.worked _ _ e.counted i.going c.at_log_fault.result c.at_log_fault.ensures

pub returns-then-is_log_fault-clause-log : goal.returns-then-is_log_fault-clause-log
returns-then-is_log_fault-clause-log g c =
    λ is. c.work_one-worked.ensures.log (log_fault _ (sym c.is_log_fault.ensures ∙ c.if-is_log_fault.true))

pub returns-then-is_log_fault-clause-moments : goal.returns-then-is_log_fault-clause-moments
returns-then-is_log_fault-clause-moments g c =
    let i = c.jobs.invariant in
    let m = c.joined-done.ensures in
    rw (c.at_log_fault.ensures, m.endings) (moments_more _ c.jobs.done.endings c.work_one-worked.result.ending
    i.moments (rw i.give at c.work_one-worked.ensures.ended))

pub returns-then-eq-clause-served : goal.returns-then-eq-clause-served
returns-then-eq-clause-served g c =
    let i = c.jobs.invariant in
    let e = c.work_one-worked.ensures in
    ends_well c.joined-done.result _ _ _ _ _ _ _
    (goes_on c.jobs.done c.joined-done.result c.work_one-worked.result c.joined-done.ensures
    _ _ _ _ _ _ _ _ _ i.later e.later e.seen e.link e.worked _ _ e.counted i.going
    (not_log_fault _ (sym c.is_log_fault.ensures ∙ c.if-is_log_fault.false)))

pub returns-then-eq-clause-moments : goal.returns-then-eq-clause-moments
returns-then-eq-clause-moments g c =
    let i = c.jobs.invariant in
    rw c.joined-done.ensures.endings (moments_more _ c.jobs.done.endings c.work_one-worked.result.ending i.moments
    (rw i.give at c.work_one-worked.ensures.ended))
