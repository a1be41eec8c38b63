use Rattle.std.proofs.Common.{sym, ◌∙◌, refl}
use Rattle.dz_transfer.specs.declared.report.Report.TheVariants as report
use Rattle.dz_fleet.proofs.GivenLemmas.{given_now}
use Rattle.dz_transfer.proofs.WorkLemmas.{read_transfer, settled_work, fault_work, starved_work, settled_busy}
use Rattle.dz_transfer.proofs.WorkLemmas.{failed_busy, settled_link, starved_link, fault_memory, settled_log}
use Rattle.dz_transfer.proofs.WorkLemmas.{failed_log, settled_among, failed_among, starved_among}
use Rattle.dz_transfer.proofs.work.transfer.Goals as goal

pub settle-ended-requires-clause-transfer : goal.settle-ended-requires-clause-transfer
settle-ended-requires-clause-transfer g c = read_transfer _ _ _ _ _ _ c.in-Finished.ensures.fetched

pub settle-ended-requires-clause-given : goal.settle-ended-requires-clause-given
settle-ended-requires-clause-given g c =
    given_now c.args.reading.now.list c.args.job c.requires.due.entries c.requires.due.held

pub fail-ended-requires-clause-given : goal.fail-ended-requires-clause-given
fail-ended-requires-clause-given g c =
    given_now c.args.reading.now.list c.args.job c.requires.due.entries c.requires.due.held

pub starve-ended-requires-clause-given : goal.starve-ended-requires-clause-given
starve-ended-requires-clause-given g c =
    given_now c.args.reading.now.list c.args.job c.requires.due.entries c.requires.due.held

pub returns-in-Finished-clause-worked : goal.returns-in-Finished-clause-worked
returns-in-Finished-clause-worked g c =
    rw (c.dialled.ensures.report, c.dialled.ensures.ending, c.settled_report.ensures)
    (settled_work c.args.job _ _ c.requires.due c.settle-ended.ensures.seen c.settle-ended.ensures.legal
    c.settle-ended.result.answer c.in-Finished.finished c.settle-ended.result.ending c.now-now.result _ _ _ _
    c.in-Finished.ensures.fetched c.settle-ended.ensures.ending c.settle-ended.ensures.settled)

pub returns-in-Finished-clause-busy : goal.returns-in-Finished-clause-busy
returns-in-Finished-clause-busy g c =
    rw (c.dialled.ensures.report, c.settled_report.ensures) (settled_busy c.settle-ended.result.answer)

pub returns-in-Finished-clause-link : goal.returns-in-Finished-clause-link
returns-in-Finished-clause-link g c = λ is. settled_link c.settle-ended.result.answer
    (sym c.settled_report.ensures ∙ (sym c.dialled.ensures.report ∙ is))

pub returns-in-Finished-clause-log : goal.returns-in-Finished-clause-log
returns-in-Finished-clause-log g c = λ is. c.settle-ended.ensures.cause
    (settled_log c.settle-ended.result.answer (sym c.settled_report.ensures ∙ (sym c.dialled.ensures.report ∙ is)))

pub returns-in-Finished-clause-ended : goal.returns-in-Finished-clause-ended
returns-in-Finished-clause-ended g c = rw c.dialled.ensures.ending (settled_among _ c.args.job _ _
    c.settle-ended.result.answer c.settle-ended.result.ending c.settle-ended.ensures.ending c.now-now.ensures.may)

pub returns-in-LinkFault-clause-worked : goal.returns-in-LinkFault-clause-worked
returns-in-LinkFault-clause-worked g c =
    rw (c.dialled-in-LinkFault.ensures.report, c.dialled-in-LinkFault.ensures.ending, c.failed_report.ensures)
    (fault_work c.args.job _ _ c.requires.due c.fail-ended.ensures.seen c.fail-ended.ensures.legal
    c.fail-ended.result.answer c.fail-ended.result.ending c.now-now-in-LinkFault.result _ _ _ _
    c.in-LinkFault.ensures.fetched c.fail-ended.ensures.ending c.fail-ended.ensures.failed)

pub returns-in-LinkFault-clause-busy : goal.returns-in-LinkFault-clause-busy
returns-in-LinkFault-clause-busy g c = rw (c.dialled-in-LinkFault.ensures.report, c.failed_report.ensures)
    (failed_busy c.fail-ended.result.answer report.LinkFault refl)

pub returns-in-LinkFault-clause-memory : goal.returns-in-LinkFault-clause-memory
returns-in-LinkFault-clause-memory g c = λ is. fault_memory c.fail-ended.result.answer
    (sym c.failed_report.ensures ∙ (sym c.dialled-in-LinkFault.ensures.report ∙ is))

pub returns-in-LinkFault-clause-log : goal.returns-in-LinkFault-clause-log
returns-in-LinkFault-clause-log g c =
    λ is. c.fail-ended.ensures.cause (failed_log c.fail-ended.result.answer report.LinkFault
    (λ bad. cc bad) (sym c.failed_report.ensures ∙ (sym c.dialled-in-LinkFault.ensures.report ∙ is)))

pub returns-in-LinkFault-clause-ended : goal.returns-in-LinkFault-clause-ended
returns-in-LinkFault-clause-ended g c =
    rw c.dialled-in-LinkFault.ensures.ending (failed_among _ c.args.job _ c.fail-ended.result.answer
    c.fail-ended.result.ending c.fail-ended.ensures.ending c.now-now-in-LinkFault.ensures.may)

pub returns-in-OutOfMemory-clause-worked : goal.returns-in-OutOfMemory-clause-worked
returns-in-OutOfMemory-clause-worked g c =
    rw (
      c.dialled-in-OutOfMemory.ensures.report,
      c.dialled-in-OutOfMemory.ensures.ending,
      c.failed_report-in-OutOfMemory.ensures,
    )
    (starved_work c.args.job _ _ c.requires.due c.starve-ended.ensures.seen c.starve-ended.ensures.legal
    c.starve-ended.result.answer c.starve-ended.result.ending c.now-now-in-OutOfMemory.result _ _ _ _
    c.in-OutOfMemory.ensures.fetched c.starve-ended.ensures.ending c.starve-ended.ensures.failed)

pub returns-in-OutOfMemory-clause-busy : goal.returns-in-OutOfMemory-clause-busy
returns-in-OutOfMemory-clause-busy g c =
    rw (c.dialled-in-OutOfMemory.ensures.report, c.failed_report-in-OutOfMemory.ensures)
    (failed_busy c.starve-ended.result.answer report.OutOfMemory refl)

pub returns-in-OutOfMemory-clause-link : goal.returns-in-OutOfMemory-clause-link
returns-in-OutOfMemory-clause-link g c = λ is. starved_link c.starve-ended.result.answer
    (sym c.failed_report-in-OutOfMemory.ensures ∙ (sym c.dialled-in-OutOfMemory.ensures.report ∙ is))

pub returns-in-OutOfMemory-clause-log : goal.returns-in-OutOfMemory-clause-log
returns-in-OutOfMemory-clause-log g c =
    λ is. c.starve-ended.ensures.cause (failed_log c.starve-ended.result.answer report.OutOfMemory (λ bad. cc bad)
    (sym c.failed_report-in-OutOfMemory.ensures ∙ (sym c.dialled-in-OutOfMemory.ensures.report ∙ is)))

pub returns-in-OutOfMemory-clause-ended : goal.returns-in-OutOfMemory-clause-ended
returns-in-OutOfMemory-clause-ended g c =
    rw c.dialled-in-OutOfMemory.ensures.ending (starved_among _ c.args.job _ c.starve-ended.result.answer
    c.starve-ended.result.ending c.starve-ended.ensures.ending c.now-now-in-OutOfMemory.ensures.may)
