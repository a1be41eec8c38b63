use Rattle.std.proofs.Common.{sym, arith}
use Rattle.std.proofs.lemmas.List.FromFn.{map-range_with_len_more}
use Rattle.dz_member.specs.inner.Happened.{is_settled_after}
use Rattle.dz_member.proofs.settled.settled_after.Goals as goal

pub catalogs-preserved : goal.catalogs-preserved
catalogs-preserved c =
    rw (c.in_ok-push.ensures.items, c.catalogs.invariant, c.is_settled_after.ensures)
    (sym (map-range_with_len_more (is_settled_after c.args.settled.now c.args.listed c.args.changes.now) 0 c.catalogs.number c.catalogs.number (omega arith)))
