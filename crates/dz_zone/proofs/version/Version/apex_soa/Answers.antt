use Rattle.std.proofs.Common.{◌≡◌, ℕ, List, None, sym, ap, subst, ◌∙◌}
use Rattle.std.specs.List.{find}
use Rattle.dz_zone.specs.Valid.{at_apex}
use Rattle.dz_zone.specs.Version.{Zone}
use Rattle.dz_zone.proofs.FaultLemmas.{has_soa, found_some, found_held}
use Rattle.dz_zone.proofs.version.Version.apex_soa.Goals as goal

pub unreachable-requires : goal.unreachable-requires
unreachable-requires c =
    let zone = c.args.self.now in
    let valid = rw c.self.view_is at c.self.invariant.version.valid in
    let all = c.as_slice.ensures.value ∙ ap (λ (z : Zone). z.records) c.self.view_is in
    found_some (at_apex 6 zone.apex) zone.records (has_soa zone.apex zone.records valid.faultless)
    (subst (λ (a : List (List ℕ)). find (at_apex 6 a) zone.records ≡ None) c.apex.ensures
    (rw all at (sym c.in-None.ensures)))

pub returns-clause-held : goal.returns-clause-held
returns-clause-held c = found_held (at_apex 6 c.apex.result) c.as_slice.result.now c.in-Some.record.now
    c.in-Some.ensures (rw c.as_slice.ensures.value c.self.invariant.version.held)
