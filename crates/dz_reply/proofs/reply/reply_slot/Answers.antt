use Rattle.std.proofs.Common.{ap}
use Rattle.dz_reply.proofs.TurnLemmas.{turned, some_written, name_within}
use Rattle.dz_reply.proofs.reply.reply_slot.Goals as goal

pub reply_zone-requires-clause-within : goal.reply_zone-requires-clause-within
reply_zone-requires-clause-within c = name_within c.args.slot.now c.in-Some.version.now _ c.version.ensures.valid
    c.in-Some.ensures.version c.requires.within

pub as_written-requires : goal.as_written-requires
as_written-requires c = some_written c.reply_zone.new.writer.writing _ (ap (λ w. w.octets) c.reply_zone.ensures)

pub returns-in-Some-clause-reply : goal.returns-in-Some-clause-reply
returns-in-Some-clause-reply c =
    rw (← c.if-not-is_live.ensures, ← c.in-Some.ensures.version)
    (turned _ _ _ (ap (λ w. w.octets) c.reply_zone.ensures) c.as_written.ensures.reply)
