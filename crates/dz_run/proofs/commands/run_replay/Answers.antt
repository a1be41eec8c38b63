-- The reading that was played with comes back after the others.
use Rattle.std.proofs.Common.{◌≡◌, ◌++◌, List, [], ◌∷◌, All, length, ap, arith, length-append}
use Rattle.std.proofs.lemmas.List.Elements.{All-push, All-take}
use Rattle.dz_desk.specs.Seen.{Viewed}
use Rattle.dz_run.specs.Taken.{IsAtRest}
use Rattle.dz_run.proofs.commands.run_replay.Goals as goal

-- a list that lost its last element and gained another
same_length : (all front : List Viewed) (last next : Viewed) → all ≡ front ++ last ∷ [] → length all ≡ 6
    → length (front ++ next ∷ []) ≡ 6
same_length all front last next is six =
    omega (arith, six, ap length is, length-append front (last ∷ []), length-append front (next ∷ []))

pub returns-clause-back : goal.returns-clause-back
returns-clause-back g c =
    let d = c.requires.desk in
    let b = c.replay-status.ensures.back in
    let book = c.args.desk.publisher.book in
    let all = c.args.desk.readings.items in
    let front = c.pop.new.self.items in
    let next = c.replay-status.result.ends.reading in
    let others : All (IsAtRest book) front = rw c.pop.ensures.rest (All-take (IsAtRest book) _ all d.rest) in
    record {
      own = b.1;
      staged = b.0;
      six = rw c.push_reserved.ensures.items
          (same_length all front c.in-Some.reading next (c.in-Some.ensures.items) d.six);
      rest = rw c.push_reserved.ensures.items (All-push (IsAtRest book) front next others b.2);
    }
