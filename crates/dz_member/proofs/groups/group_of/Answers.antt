use Rattle.std.proofs.Common.{arith, sym}
use Rattle.dz_member.proofs.ChoiceLemmas.{choice_found, choice_missed, choice_end}
use Rattle.dz_member.proofs.groups.group_of.Goals as goal

pub returns-in-Some-clause-word : goal.returns-in-Some-clause-word
returns-in-Some-clause-word c =
    let found = choice_found c.args.groups.now c.args.texts.now c.texts.text-index c.text-item.result c.in-Some.number
    c.texts-test.true c.text-item.is c.texts.invariant (sym (rw c.as_slice.ensures.octets at c.in-Some.ensures)) in
    found.word

pub texts-preserved : goal.texts-preserved
texts-preserved c =
    choice_missed c.args.groups.now c.args.texts.now c.texts.text-index c.text-item.result c.texts-test.true
    c.text-item.is c.texts.invariant (sym (rw c.as_slice.ensures.octets at c.in-None.ensures))

pub returns-clause-word : goal.returns-clause-word
returns-clause-word c =
    choice_end c.args.groups.now c.args.texts.now c.texts.text-index
    (omega (arith, c.texts-test.false, c.texts.auto)) c.texts.invariant
