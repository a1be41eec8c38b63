use Rattle.std.proofs.Common.{sym, ◌∙◌}
use Rattle.std.proofs.lemmas.Slice.Eq.{bytes_eq-Decides}
use Rattle.dz_zone.proofs.MissingLemmas.{octets_level}
use Rattle.dz_zone.proofs.apart.compare.Goals as goal

pub returns-then-eq : goal.returns-then-eq
returns-then-eq c =
    octets_level c.args.a.now c.args.b.now c.octets.result.now c.octets-2.result.now c.octets.ensures.valid
    c.octets-2.ensures.valid c.octets.ensures.octets c.octets-2.ensures.octets
    ((bytes_eq-Decides c.octets.result.now c.octets-2.result.now).0 (sym c.eq.ensures ∙ c.if-eq.true))
