use Rattle.std.proofs.Common.{rules}
use Rattle.dz_reply.specs.Reply.{reply_for}
use Rattle.dz_reply.proofs.reply.reply_request.Goals as goal

pub returns-in-Silent-clause-reply : goal.returns-in-Silent-clause-reply
unfolding reply_for
returns-in-Silent-clause-reply c = search rules

pub returns-in-Notify-clause-reply : goal.returns-in-Notify-clause-reply
unfolding reply_for
returns-in-Notify-clause-reply c = search rules

pub returns-in-Curt-clause-reply : goal.returns-in-Curt-clause-reply
unfolding reply_for
returns-in-Curt-clause-reply c = search rules

pub returns-in-NewerEdns-clause-reply : goal.returns-in-NewerEdns-clause-reply
unfolding reply_for
returns-in-NewerEdns-clause-reply c = search rules

pub returns-in-NotImp-clause-reply : goal.returns-in-NotImp-clause-reply
unfolding reply_for
returns-in-NotImp-clause-reply c = search rules

pub returns-in-Asks-clause-reply : goal.returns-in-Asks-clause-reply
unfolding reply_for
returns-in-Asks-clause-reply c = search rules
