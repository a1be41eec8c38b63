use Rattle.std.proofs.Common.{rules, ◌∙◌, ◌++◌, ap, sym, append_assoc}
use Rattle.dz_report.specs.Lines.{aftermath_lines, verdict_lines}
use Rattle.dz_report.proofs.verdict.put_verdict.Goals as goal

pub returns-in_ok-put_aftermath-in-Published : goal.returns-in_ok-put_aftermath-in-Published
unfolding verdict_lines
returns-in_ok-put_aftermath-in-Published c =
    let text = c.args.text.now.items in
    let zone = c.args.zone.now in
    let p = c.in-Published in
    c.in_ok-put_aftermath-in-Published.ensures
    ∙ ap (λ before. before ++ aftermath_lines zone p.aftermath) c.in_ok-put_taken-in-Published.ensures
    ∙ append_assoc text _ (aftermath_lines zone p.aftermath)
    ∙ ap (λ verdict. text ++ verdict_lines zone verdict) (sym p.is)

pub returns-in-Confirmed : goal.returns-in-Confirmed
unfolding verdict_lines
returns-in-Confirmed c = search rules

pub returns-in_ok-reason_of-in-Refused : goal.returns-in_ok-reason_of-in-Refused
unfolding verdict_lines
returns-in_ok-reason_of-in-Refused c = search rules

pub returns-in-PolicyRefused : goal.returns-in-PolicyRefused
unfolding verdict_lines
returns-in-PolicyRefused c = search rules

pub returns-in-Stale : goal.returns-in-Stale
unfolding verdict_lines
returns-in-Stale c = search rules

pub returns-in-OutOfMemory : goal.returns-in-OutOfMemory
unfolding verdict_lines
returns-in-OutOfMemory c = search rules
