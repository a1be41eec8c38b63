use Rattle.std.proofs.Common.{◌∙◌, ap, []}
use Rattle.std.specs.Prelude.{option_map}
use Rattle.std.specs.Option.{option_map_or}
use Rattle.dz_zone.specs.Version.{Zone}
use Rattle.dz_produce.proofs.MakingLemmas.{apex_of}
use Rattle.dz_produce.proofs.making.Making.made.Goals as goal

pub returns-clause-apex : goal.returns-clause-apex
returns-clause-apex c =
    let made = rw (c.in-Some.is, c.as_ref.ensures.value, c.as_slice.ensures.value) at c.in_ok-made.ensures in
    let apex = apex_of c.self.inside.apex c.self.inside.serial (option_map (λ x. x.zone) c.self.inside.change)
    (option_map_or (λ x. x.dropped) c.self.inside.change []) c.self.inside.added.items
    c.self.invariant.sound.before in
    rw (← c.self.view_is) (ap (λ (z : Zone). z.apex) made.version_is ∙ apex)
