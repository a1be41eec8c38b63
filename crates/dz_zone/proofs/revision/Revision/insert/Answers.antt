use Rattle.std.proofs.Common.{◌+◌, ◌<◌, not, length, ◌∙◌, ap, arith}
use Rattle.dz_record.specs.Record.{record_order}
use Rattle.dz_zone.specs.Revision.{is_there}
use Rattle.dz_zone.proofs.FlagLemmas.{rises_of}
use Rattle.dz_zone.proofs.RevisionLemmas.{already, joined_is, revised_joined, added_told, now}
use Rattle.dz_zone.proofs.revision.Revision.insert.Goals as goal

pub stands_in-requires-clause-rises : goal.stands_in-requires-clause-rises
stands_in-requires-clause-rises c =
    rw c.records.ensures.records (rises_of record_order c.deref.result.now.records c.records.ensures.valid.rises)

pub returns-then-stands_in-clause-added : goal.returns-then-stands_in-clause-added
returns-then-stands_in-clause-added c =
    already c.self.inside.base.value c.self.inside.flags.items c.self.inside.added.keys c.self.invariant c.args.found
    c.stands_in.result
    (rw (c.records.ensures.records, c.deref.ensures, c.as_slice.ensures.value) at c.stands_in.ensures)
    c.if-stands_in.true
    ∙ ap (λ s. not (is_there c.args.found s.records)) c.self.view_is

pub invariant_of-self : goal.invariant_of-self
invariant_of-self c =
    let room : 250000 + length c.self.inside.added.keys < 750000 =
    let l = c.len.ensures.len in
    let f = c.if-len-ge-ADDED.false in
    omega (arith, l, f) in
    (joined_is c.self.inside.base.value c.self.inside.flags.items c.self.inside.added.keys c.self.invariant
    c.args.found c.stands_in.result
    (rw (c.records.ensures.records, c.deref.ensures, c.as_slice.ensures.value) at c.stands_in.ensures)
    c.if-stands_in.false room
    c.join.result c.join.new.added.keys c.join.ensures.new c.join.ensures.joined c.join.ensures.rises
    c.join.ensures.kept c.join.ensures.unchanged).kept

pub returns-clause-added : goal.returns-clause-added
returns-clause-added c =
    let room : 250000 + length c.self.inside.added.keys < 750000 =
    let l = c.len.ensures.len in
    let f = c.if-len-ge-ADDED.false in
    omega (arith, l, f) in
    added_told c.args.self.now c.self.inside.base.value (now c.self.inside.base.value c.self.inside.flags.items
    c.self.inside.added.keys c.self.invariant c.args.found) c.args.found c.join.result c.self.view_is
    (joined_is c.self.inside.base.value c.self.inside.flags.items c.self.inside.added.keys c.self.invariant
    c.args.found c.stands_in.result
    (rw (c.records.ensures.records, c.deref.ensures, c.as_slice.ensures.value) at c.stands_in.ensures)
    c.if-stands_in.false room
    c.join.result c.join.new.added.keys c.join.ensures.new c.join.ensures.joined c.join.ensures.rises
    c.join.ensures.kept c.join.ensures.unchanged).added

pub returns-clause-joined : goal.returns-clause-joined
returns-clause-joined c =
    let room : 250000 + length c.self.inside.added.keys < 750000 =
    let l = c.len.ensures.len in
    let f = c.if-len-ge-ADDED.false in
    omega (arith, l, f) in
    revised_joined c.args.self.now c.self.inside.base.value
    (now c.self.inside.base.value c.self.inside.flags.items c.self.inside.added.keys c.self.invariant c.args.found) _
    c.args.found c.join.result c.self.view_is
    (joined_is c.self.inside.base.value c.self.inside.flags.items c.self.inside.added.keys c.self.invariant
    c.args.found c.stands_in.result
    (rw (c.records.ensures.records, c.deref.ensures, c.as_slice.ensures.value) at c.stands_in.ensures)
    c.if-stands_in.false room
    c.join.result c.join.new.added.keys c.join.ensures.new c.join.ensures.joined c.join.ensures.rises
    c.join.ensures.kept c.join.ensures.unchanged).joined
