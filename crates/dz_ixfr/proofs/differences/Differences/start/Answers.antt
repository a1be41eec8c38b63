use Rattle.std.proofs.Common.{◌∙◌, ap, [], ◌∷◌, ◌++◌, rules}
use Rattle.dz_zone.specs.Version.{Zone}
use Rattle.dz_xfr.specs.Apex.{held_serial}
use Rattle.dz_ixfr.proofs.FedLemmas.{started_kept, started_open}
use Rattle.dz_ixfr.proofs.KeptLemmas.{kept_as}
use Rattle.dz_ixfr.proofs.differences.Differences.start.Goals as goal

pub invariant_of-result : goal.invariant_of-result
invariant_of-result c =
    kept_as c.in_ok-revision.revision c.in_ok-revision.ensures
    (started_kept c.args.held.value c.and-2.result c.to_name-apex.result c.in-Some.serial c.held_serial.result
    c.args.first (c.and-2.ensures ∙ ap (λ l. l ++ c.args.first ∷ []) c.nothing.ensures)
    (c.to_name-apex.ensures ∙ (c.apex.ensures ∙ ap (λ (z : Zone). z.apex) c.deref.ensures)) (search rules)
    (c.held_serial.ensures ∙ ap held_serial c.deref-2.ensures) c.requires.soa)

pub returns-clause-is_open : goal.returns-clause-is_open
returns-clause-is_open c = started_open c.args.held.value c.args.first c.requires.soa
