-- A message more.
use Rattle.std.proofs.Common.{◌++◌, sym, ap, ◌∙◌}
use Rattle.dz_take.specs.Taken.{Taken}
use Rattle.dz_fetch.proofs.TakingLemmas.{frames_more, undecided_fits}
use Rattle.dz_fetch.proofs.take.feed_frame.Goals as goal

pub returns-clause-octets : goal.returns-clause-octets
returns-clause-octets c =
    let fed = rw c.split_at.ensures.back at (ap (λ (t : Taken). t.octets) c.in_ok-progress.ensures.octets) in
    fed ∙ ap (λ o. c.args.taking.now.octets ++ o) (sym c.requires.frame.is)

pub returns-clause-frames : goal.returns-clause-frames
returns-clause-frames c =
    let fed = rw c.split_at.ensures.back at (ap (λ (t : Taken). t.octets) c.in_ok-progress.ensures.octets) in
    let messages = rw c.split_at.ensures.back at c.in_ok-progress.ensures.messages in
    frames_more c.args.taking.now.octets c.feed.new.self.octets c.args.frame.now c.requires.frames c.requires.frame
    fed messages

pub returns-clause-fits : goal.returns-clause-fits
returns-clause-fits c =
    let fed = rw c.split_at.ensures.back at (ap (λ (t : Taken). t.octets) c.in_ok-progress.ensures.octets) in
    let messages = rw c.split_at.ensures.back at c.in_ok-progress.ensures.messages in
    let frames = frames_more c.args.taking.now.octets c.feed.new.self.octets c.args.frame.now c.requires.frames
    c.requires.frame fed messages in
    λ none. undecided_fits c.args.taking.now.transfer c.args.taking.now.octets c.feed.new.self.octets c.args.frame.now
    frames c.requires.undecided messages none
