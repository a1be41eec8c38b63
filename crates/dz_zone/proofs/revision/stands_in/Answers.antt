use Rattle.std.proofs.Common.{false, sym, ◌∙◌, arith}
use Rattle.dz_record.specs.Order.{record_total}
use Rattle.dz_record.specs.Record.{record_order}
use Rattle.dz_zone.specs.inner.Overlay.{left_of}
use Rattle.dz_zone.specs.inner.Revising.{flags_of}
use Rattle.dz_zone.proofs.FlagLemmas.{flag_at, items_flags, length_flags, at_flags}
use Rattle.dz_zone.proofs.OverlayLemmas.{kept_has, none_kept}
use Rattle.dz_zone.proofs.Ties.{tie_there}
use Rattle.dz_zone.proofs.revision.stands_in.Goals as goal

pub returns-in-Err : goal.returns-in-Err
returns-in-Err c =
    let base = flags_of c.args.records.now c.args.flags.now in
    sym (tie_there c.args.found.now (left_of base) ∙ none_kept record_order record_total c.args.found.now base
    (rw (items_flags c.args.records.now c.args.flags.now c.requires.long) c.in-Err.ensures))

pub returns-in-Ok : goal.returns-in-Ok
returns-in-Ok c =
    let records = c.args.records.now in
    let flags = c.args.flags.now in
    let base = flags_of records flags in
    let at = c.in-Ok.at in
    let b = flag_at records flags at c.args.found.now false in
    let long = length_flags records flags c.requires.long in
    sym (tie_there c.args.found.now (left_of base)
    ∙ kept_has record_order record_total base
    at b c.args.found.now (rw (items_flags records flags c.requires.long) c.requires.rises)
    (omega (arith, long, c.in-Ok.ensures.0)) (at_flags records flags
    at c.args.found.now false b c.requires.long c.in-Ok.ensures.0) (c.in-Ok.ensures.1 c.args.found.now))
