-- The line is one that can be said.
use Rattle.std.proofs.Common.{◌∙◌, subst}
use Rattle.dz_provision.specs.Held.{IsSaid}
use Rattle.dz_provision.specs.Log as asides
use Rattle.dz_provision.proofs.provisioner.Provisioner.say_unkept.Goals as goal

pub say-requires : goal.say-requires
say-requires g c =
    (asides.unkept c.args.zone.now c.args.fault, tt, c.as_slice.ensures.value ∙ c.unkept_line-line.ensures)

pub returns : goal.returns
returns g c =
    subst (λ line. IsSaid c.args.self.now line c.say.result c.say.new.self)
    (c.as_slice.ensures.value ∙ c.unkept_line-line.ensures) c.say.ensures
