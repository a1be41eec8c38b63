use Rattle.std.proofs.Common.{arith, sym, subst}
use Rattle.dz_lookup.specs.inner.Places.{IsMissing}
use Rattle.dz_lookup.proofs.Within.{missing_first, missing_near, missing_both}
use Rattle.dz_lookup.proofs.beside.missing_beside.Goals.{then-here-le1-via-then-here-le1}
use Rattle.dz_lookup.proofs.beside.missing_beside.Goals.{then-here-le1-via-else-here-le1+then-place-eq0}
use Rattle.dz_lookup.proofs.beside.missing_beside.Goals as goal

pub returns-then-here-le1-clause-missing : goal.returns-then-here-le1-clause-missing
returns-then-here-le1-clause-missing g c = elim c.then-here-le1.branch [
  | then-here-le1-via-then-here-le1 w ↦
      missing_near c.args.records.now c.args.name.now c.args.place c.labels_apart_at-here.result c.requires.sorted
      c.requires.point c.requires.room
      (λ skip le d. c.labels_apart_at-here.ensures.apart d skip le) w.if-here-le1.true
  | then-here-le1-via-else-here-le1+then-place-eq0 w ↦
      missing_first c.args.records.now c.args.name.now c.args.place c.labels_apart_at-here.result c.requires.sorted
      c.requires.point c.requires.room
      (λ skip le d. c.labels_apart_at-here.ensures.apart d skip le) w.if-place-eq0.true
]

pub returns-clause-missing : goal.returns-clause-missing
returns-clause-missing g c =
    subst (IsMissing c.args.records.now c.args.name.now) (sym c.min.ensures)
    (missing_both c.args.records.now c.args.name.now c.args.place c.labels_apart_at-here.result c.requires.sorted
    c.requires.point c.requires.room
    (λ skip le d. c.labels_apart_at-here.ensures.apart d skip le) c.labels_apart_at.result
    (omega (arith, c.if-place-eq0.false))
    (λ skip le d. c.labels_apart_at.ensures.apart d skip le))
