use Rattle.std.proofs.Common.{◌≡◌, false, get_or, sym, ◌∙◌, ap, arith}
use Rattle.std.proofs.lemmas.List.{get_or_default}
use Rattle.dz_record.specs.Record.{record_order}
use Rattle.dz_zone.specs.Revision.{is_there}
use Rattle.dz_zone.proofs.FlagLemmas.{rises_of}
use Rattle.dz_zone.proofs.RevisionLemmas.{left_added, left_missing, left_held, revised_left, now}
use Rattle.dz_zone.proofs.revision.Revision.remove.Goals as goal
use Rattle.dz_zone.proofs.revision.Revision.remove.Goals.{then-stood, else-stood}

pub search-requires : goal.search-requires
search-requires c =
    rw c.records.ensures.records (rises_of record_order c.deref.result.now.records c.records.ensures.valid.rises)

pub invariant_of-self : goal.invariant_of-self
invariant_of-self c = (left_added c.self.inside.base.value c.self.inside.flags.items c.self.inside.added.keys
    c.self.invariant c.args.found.now c.leave.result c.leave.new.added.keys c.leave.ensures.left
    c.leave.ensures.there c.if-leave.true).kept

pub returns-then-leave-clause-there : goal.returns-then-leave-clause-there
returns-then-leave-clause-there c =
    (left_added c.self.inside.base.value c.self.inside.flags.items c.self.inside.added.keys c.self.invariant
    c.args.found.now c.leave.result c.leave.new.added.keys c.leave.ensures.left c.leave.ensures.there
    c.if-leave.true).told
    ∙ ap (λ s. is_there c.args.found.now s.records) c.self.view_is

pub returns-then-leave-clause-left : goal.returns-then-leave-clause-left
returns-then-leave-clause-left c =
    revised_left c.args.self.now c.self.inside.base.value (now c.self.inside.base.value c.self.inside.flags.items
    c.self.inside.added.keys c.self.invariant c.args.found.now) _ c.args.found.now c.self.view_is
    (left_added c.self.inside.base.value c.self.inside.flags.items c.self.inside.added.keys c.self.invariant
    c.args.found.now c.leave.result c.leave.new.added.keys c.leave.ensures.left c.leave.ensures.there
    c.if-leave.true).left

pub invariant_of-self-in-Err : goal.invariant_of-self-in-Err
invariant_of-self-in-Err c =
    (left_missing c.self.inside.base.value c.self.inside.flags.items c.self.inside.added.keys c.self.invariant
    c.args.found.now c.leave.result c.leave.new.added.keys c.leave.ensures.left c.leave.ensures.there
    c.if-leave.false
    (rw (c.records.ensures.records, c.deref.ensures) at c.in-Err.ensures)).kept

pub returns-in-Err-clause-there : goal.returns-in-Err-clause-there
returns-in-Err-clause-there c =
    (left_missing c.self.inside.base.value c.self.inside.flags.items c.self.inside.added.keys c.self.invariant
    c.args.found.now c.leave.result c.leave.new.added.keys c.leave.ensures.left c.leave.ensures.there
    c.if-leave.false
    (rw (c.records.ensures.records, c.deref.ensures) at c.in-Err.ensures)).told
    ∙ ap (λ s. is_there c.args.found.now s.records) c.self.view_is

pub returns-in-Err-clause-left : goal.returns-in-Err-clause-left
returns-in-Err-clause-left c =
    revised_left c.args.self.now c.self.inside.base.value (now c.self.inside.base.value c.self.inside.flags.items
    c.self.inside.added.keys c.self.invariant c.args.found.now) _ c.args.found.now c.self.view_is
    (left_missing c.self.inside.base.value c.self.inside.flags.items c.self.inside.added.keys c.self.invariant
    c.args.found.now c.leave.result c.leave.new.added.keys c.leave.ensures.left c.leave.ensures.there
    c.if-leave.false
    (rw (c.records.ensures.records, c.deref.ensures) at c.in-Err.ensures)).left

pub invariant_of-self-in-Ok : goal.invariant_of-self-in-Ok
invariant_of-self-in-Ok c =
    let at = rw (c.records.ensures.records, c.deref.ensures) at c.in-Ok.ensures in
    (left_held c.self.inside.base.value c.self.inside.flags.items c.self.inside.added.keys c.self.invariant
    c.args.found.now c.leave.result c.leave.new.added.keys c.in-Ok.at c.leave.ensures.left c.leave.ensures.there
    c.if-leave.false at.0 at.1).kept

pub returns-after-stood-clause-there : goal.returns-after-stood-clause-there
returns-after-stood-clause-there c =
    let at = rw (c.records.ensures.records, c.deref.ensures) at c.in-Ok.ensures in
    let flags = c.self.inside.flags.items in
    let long = c.self.invariant.long in
    let stood : c.index-stood.result.now ≡ get_or flags c.in-Ok.at false = c.index-stood.ensures
    ∙ get_or_default flags c.in-Ok.at c.index-stood.result.now false (omega (arith, long, at.0)) in
    let told =
    (left_held c.self.inside.base.value c.self.inside.flags.items c.self.inside.added.keys c.self.invariant
    c.args.found.now c.leave.result c.leave.new.added.keys c.in-Ok.at c.leave.ensures.left c.leave.ensures.there
    c.if-leave.false at.0 at.1).told
    ∙ ap (λ s. is_there c.args.found.now s.records) c.self.view_is in
    elim c.if-stood.branch [
      | then-stood w ↦ rw w.result-is (sym w.if-stood.true ∙ (stood ∙ told))
      | else-stood w ↦ rw w.result-is (sym w.if-stood.false ∙ (stood ∙ told))
    ]

pub returns-after-stood-clause-left : goal.returns-after-stood-clause-left
returns-after-stood-clause-left c =
    let at = rw (c.records.ensures.records, c.deref.ensures) at c.in-Ok.ensures in
    revised_left c.args.self.now c.self.inside.base.value (now c.self.inside.base.value c.self.inside.flags.items
    c.self.inside.added.keys c.self.invariant c.args.found.now) _ c.args.found.now c.self.view_is
    (left_held c.self.inside.base.value c.self.inside.flags.items c.self.inside.added.keys c.self.invariant
    c.args.found.now c.leave.result c.leave.new.added.keys c.in-Ok.at c.leave.ensures.left c.leave.ensures.there
    c.if-leave.false at.0 at.1).left
