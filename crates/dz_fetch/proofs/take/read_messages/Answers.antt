-- Messages one by one, and how that ends.
use Rattle.std.proofs.Common.{◌≡◌, ◌++◌, refl, ap, ◌∙◌, subst, arith, IsSome}
use Rattle.dz_message.specs.Frame.{messages_in}
use Rattle.dz_take.specs.Outcome.{decided}
use Rattle.dz_take.specs.Transfer.{Transfer}
use Rattle.dz_fetch.proofs.GainLemmas.{gains_none, gains_more}
use Rattle.dz_fetch.proofs.TakingLemmas.{no_frames, ends_decided}
use Rattle.dz_fetch.proofs.take.read_messages.Goals as goal

pub frames-init : goal.frames-init
frames-init g c = record {
  transfer = refl;
  frames = no_frames c.args.taking.now.octets c.requires.nothing;
  fits = rw c.requires.nothing (omega arith);
  undecided = c.requires.undecided;
  gains = rw c.requires.nothing (gains_none (g.S.Source.given c.args.source.now));
  beside = refl;
  count = refl;
}

pub returns-in-Ok-Ended-clause-read : goal.returns-in-Ok-Ended-clause-read
returns-in-Ok-Ended-clause-read g c =
    let octets = c.feed_frame.new.taking.octets in
    let before = g.S.Source.given c.args.source.now in
    let after = g.S.Source.given c.read_frame.new.source in
    let joined : octets ≡ c.frames.taking.octets ++ c.read_frame.new.frame.items =
    c.in-Ok-Ended.ensures.octets ∙ ap (λ o. c.frames.taking.octets ++ o) c.deref.ensures.value in
    let some = rw c.in-Ok-Ended.field-0-is at c.in-Ok-Ended.ensures.progress in
    ends_decided c.args.taking.now.transfer octets before after
    (g.S.Source.left c.read_frame.new.source) c.in-Ok-Ended.ensures.frames
    (rw joined (gains_more c.frames.taking.octets c.read_frame.new.frame.items before _ after c.frames.invariant.gains
    c.in_ok-read_frame.ensures.given))
    (subst (λ (t : Transfer). IsSome (decided t (messages_in octets))) c.frames.invariant.transfer some)
