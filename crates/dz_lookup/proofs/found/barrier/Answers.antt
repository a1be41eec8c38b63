use Rattle.std.proofs.Common.{arith, ◌≡◌, ◌∙◌, sym, ap, length}
use Rattle.std.specs.Prelude.{Some}
use Rattle.dz_zone.proofs.WithinLemmas.{owners_within}
use Rattle.dz_runs.specs.Runs.{of_type, records_of}
use Rattle.dz_lookup.proofs.FoundLemmas.{has_renamer, renaming_is}
use Rattle.dz_lookup.proofs.Barriers.{no_barrier, no_barrier_at_apex, renamed_by_apex}
use Rattle.dz_lookup.proofs.found.barrier.Goals as goal

pub returns-then-not-has_barriers-clause-barrier : goal.returns-then-not-has_barriers-clause-barrier
returns-then-not-has_barriers-clause-barrier g c = no_barrier c.args.version.now c.args.kind c.args.name.now
    (sym c.has_barriers.ensures.barriers ∙ c.if-not-has_barriers.true)

pub returns-then-labels-eq0-clause-barrier : goal.returns-then-labels-eq0-clause-barrier
returns-then-labels-eq0-clause-barrier g c =
    let above : c.label_count-2.result ≡ length c.args.version.now.apex =
    rw c.apex.ensures at c.label_count-2.ensures in
    no_barrier_at_apex c.args.version.now.apex c.args.version.now.records c.args.kind c.args.name.now
    (owners_within c.args.version.now c.has_barriers.ensures.valid)
    (omega (arith, c.label_count.ensures, above, c.if-labels-eq0.true))

pub returns-in-Some-clause-barrier : goal.returns-in-Some-clause-barrier
returns-in-Some-clause-barrier g c =
    let zone = c.args.version.now.records in
    let apex = c.args.version.now.apex in
    let r = c.in-Some.renamer.now in
    let above : c.label_count-2.result ≡ length apex = rw c.apex.ensures at c.label_count-2.ensures in
    ap Some
    (c.beside.ensures ∙ sym (renaming_is (of_type 39 (records_of zone apex)) r (sym c.in-Some.ensures.renamer)))
    ∙ renamed_by_apex apex zone c.args.kind c.args.name.now
    (owners_within c.args.version.now c.has_barriers.ensures.valid) c.requires.within
    (omega (arith, c.label_count.ensures, above, c.if-labels-eq0.false))
    (has_renamer zone apex r c.has_barriers.ensures.valid.rises (sym c.in-Some.ensures.renamer))
