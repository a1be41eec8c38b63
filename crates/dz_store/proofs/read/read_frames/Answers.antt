use Rattle.std.proofs.Common.{◌≡◌, refl, sym, ◌∙◌, ap, subst, inr, arith, Some, IsSome}
use Rattle.dz_message.specs.Frame.{frame_at, messages_in}
use Rattle.dz_take.specs.Outcome.{decided}
use Rattle.dz_take.specs.Taken.{Taken}
use Rattle.dz_take.specs.Transfer.{Transfer}
use Rattle.dz_store.proofs.StreamLemmas.{octets_fit, frame_is, front_more, nothing_front}
use Rattle.dz_store.proofs.read.read_frames.Goals as goal

pub frames-init : goal.frames-init
frames-init c = record {
  transfer = refl;
  front = nothing_front c.args.octets.now c.args.taking.now.octets c.requires.nothing;
  undecided = c.requires.undecided;
}

pub feed-requires-clause-short : goal.feed-requires-clause-short
feed-requires-clause-short c =
    let place : Some (c.in-Some.begin, c.in-Some.end) ≡ frame_at c.args.octets.now c.frames.at =
    c.in-Some.ensures.place in
    (frame_is c.args.octets.now c.frames.at c.in-Some.begin c.in-Some.end
    (octets_fit c.args.octets.now (λ i. omega (arith, c.type_inv.octets i))) c.frames.invariant.front.within
    (sym place) c.in-Some.ensures.within c.in-Some.ensures.first).short

pub returns-in-Ended-clause-read : goal.returns-in-Ended-clause-read
returns-in-Ended-clause-read c =
    let place : Some (c.in-Some.begin, c.in-Some.end) ≡ frame_at c.args.octets.now c.frames.at =
    c.in-Some.ensures.place in
    let here = frame_is c.args.octets.now c.frames.at c.in-Some.begin c.in-Some.end
    (octets_fit c.args.octets.now (λ i. omega (arith, c.type_inv.octets i))) c.frames.invariant.front.within
    (sym place) c.in-Some.ensures.within c.in-Some.ensures.first in
    record {
      place = c.in-Some.end;
      front = front_more c.args.octets.now c.frames.taking.octets c.feed.new.self.octets c.frames.at c.in-Some.begin
          c.in-Some.end c.frames.invariant.front here c.in-Some.ensures.within c.in-Some.ensures.first
          (ap (λ (t : Taken). t.octets) c.in_ok-feed.ensures.octets) c.in_ok-feed.ensures.messages;
      ended = inr (subst (λ (t : Transfer). IsSome (decided t (messages_in c.feed.new.self.octets)))
          c.frames.invariant.transfer (rw c.in-Ended.is at c.in_ok-feed.ensures.progress));
    }

pub frames-smaller : goal.frames-smaller
frames-smaller c =
    let place : Some (c.in-Some.begin, c.in-Some.end) ≡ frame_at c.args.octets.now c.frames.at =
    c.in-Some.ensures.place in
    let here = frame_is c.args.octets.now c.frames.at c.in-Some.begin c.in-Some.end
    (octets_fit c.args.octets.now (λ i. omega (arith, c.type_inv.octets i))) c.frames.invariant.front.within
    (sym place) c.in-Some.ensures.within c.in-Some.ensures.first in
    omega (arith, here.further, c.in-Some.ensures.within.1)

pub frames-preserved : goal.frames-preserved
frames-preserved c =
    let place : Some (c.in-Some.begin, c.in-Some.end) ≡ frame_at c.args.octets.now c.frames.at =
    c.in-Some.ensures.place in
    let here = frame_is c.args.octets.now c.frames.at c.in-Some.begin c.in-Some.end
    (octets_fit c.args.octets.now (λ i. omega (arith, c.type_inv.octets i))) c.frames.invariant.front.within
    (sym place) c.in-Some.ensures.within c.in-Some.ensures.first in
    let same = ap (λ (t : Taken). t.transfer) c.in_ok-feed.ensures.octets in
    record {
      transfer = same ∙ c.frames.invariant.transfer;
      front = front_more c.args.octets.now c.frames.taking.octets c.feed.new.self.octets c.frames.at c.in-Some.begin
          c.in-Some.end c.frames.invariant.front here c.in-Some.ensures.within c.in-Some.ensures.first
          (ap (λ (t : Taken). t.octets) c.in_ok-feed.ensures.octets) c.in_ok-feed.ensures.messages;
      undecided = ap (λ (t : Transfer). decided t (messages_in c.feed.new.self.octets)) same
          ∙ (rw c.in-More.is at c.in_ok-feed.ensures.progress);
    }
