use Rattle.std.proofs.Common.{◌<◌, ◌∙◌, ap, arith, length, ◌^◌}
use Rattle.dz_member.specs.Fold.{FoldOf}
use Rattle.dz_fleet.specs.inner.Relisting.{IsRelisting}
use Rattle.dz_fleet.proofs.ReachLemmas.{none_behind}
use Rattle.dz_fleet.proofs.WriteLemmas.{half_none, half_whole, same_long}
use Rattle.dz_fleet.proofs.waiting.changed_values.Goals as goal

pub changes-init : goal.changes-init
changes-init c =
    let s = c.args.before.now in
    let ns = c.args.after.now.fold.members in
    let long = same_long s.fold.members ns c.requires.zones in
    let count = c.count-most.ensures ∙ ap (λ (f : FoldOf). length f.members) c.fold.ensures.fold in
    let few : length ns < 2 ^ 64 = omega (arith, long, count, c.count-most.type_inv) in
    let is : IsRelisting s c.args.schedule.now ns =
    record { apart = c.requires.apart; sized = c.requires.sized; few = few } in
    record {
      behind = none_behind s.fold.members ns c.args.changes.now c.requires.changes;
      values = rw c.in_ok-pairs.ensures.items (half_none s c.args.schedule.now ns c.fold.ensures.state is);
    }

pub returns : goal.returns
returns c =
    let s = c.args.before.now in
    let ns = c.args.after.now.fold.members in
    let long = same_long s.fold.members ns c.requires.zones in
    let count = c.count-most.ensures ∙ ap (λ (f : FoldOf). length f.members) c.fold.ensures.fold in
    let few : length ns < 2 ^ 64 = omega (arith, long, count, c.count-most.type_inv) in
    let is : IsRelisting s c.args.schedule.now ns =
    record { apart = c.requires.apart; sized = c.requires.sized; few = few } in
    c.changes.invariant.values
    ∙ half_whole s c.args.schedule.now ns c.fold.ensures.state is c.args.changes.now c.changes.place c.changes.known
    c.changes.invariant.behind (omega (arith, c.changes-test.false, c.count_of-place-end.ensures))
