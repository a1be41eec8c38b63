use Rattle.std.proofs.Common.{rules, ap}
use Rattle.dz_lookup.specs.Found.{meaning}
use Rattle.dz_reply.proofs.KindLemmas.{found_by_kind}
use Rattle.dz_reply.specs.Answer.{at_end}
use Rattle.dz_reply.proofs.answer.reply_end.Goals as goal

pub reply_records-requires-clause-kinds : goal.reply_records-requires-clause-kinds
reply_records-requires-clause-kinds c =
    let zone = c.args.answer.now.version.now in
    found_by_kind zone.apex zone.records c.args.name.now c.args.answer.now.frame.now.asked.now.question.kind
    (meaning c.args.last.now) c.in-Here.records.now c.requires.rises c.requires.found (ap meaning c.in-Here.is)

pub returns-in-Here : goal.returns-in-Here
unfolding at_end
returns-in-Here c = search rules

pub returns-in-NoData : goal.returns-in-NoData
unfolding at_end
returns-in-NoData c = search rules

pub returns-in-NoName : goal.returns-in-NoName
unfolding at_end
returns-in-NoName c = search rules

pub returns-in-Referral : goal.returns-in-Referral
unfolding at_end
returns-in-Referral c = search rules

pub returns-in-Alias : goal.returns-in-Alias
unfolding at_end
returns-in-Alias c = search rules
