use Rattle.std.proofs.Common.{◌∙◌, sym, []}
use Rattle.dz_producer.proofs.ChangeLemmas.{old_serial}
use Rattle.dz_produce.proofs.MakingLemmas.{not_false}
use Rattle.dz_produce.proofs.making.change_of.Goals as goal

pub returns-then-not-newer : goal.returns-then-not-newer
returns-then-not-newer c =
    old_serial c.args.version c.args.serial [] [] (rw c.requires.serial (sym c.newer.ensures ∙ c.if-not-newer.true))

pub returns-else-branch : goal.returns-else-branch
returns-else-branch c =
    let good = rw c.in_ok-change.ensures at c.in_ok-is_faultless.ensures.good in
    not_false (sym good ∙ c.if-branch.false)
