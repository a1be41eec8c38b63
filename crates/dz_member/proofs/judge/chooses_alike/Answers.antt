use Rattle.std.proofs.Common.{◌∙◌, ap}
use Rattle.std.specs.Option.{option_eq}
use Rattle.std.specs.Str.{bytes_eq}
use Rattle.dz_member.specs.Membership.{shown}
use Rattle.dz_member.proofs.NumberLemmas.{chose_alike}
use Rattle.dz_member.proofs.judge.chooses_alike.Goals as goal

pub returns : goal.returns
returns c =
    c.eq.ensures
    ∙ (chose_alike c.args.fold.now.config c.args.member.now.catalog c.args.number c.args.member.now.group
    c.choice.result c.requires.fold.allowed c.requires.held.catalog c.requires.here c.requires.held.group
    c.choice.ensures.there
    ∙ ap (option_eq bytes_eq (shown c.args.fold.now.config c.args.member.now).choice) c.choice.ensures.word)
