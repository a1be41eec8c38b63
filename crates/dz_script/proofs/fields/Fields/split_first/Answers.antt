use Rattle.std.proofs.Common.{sym}
use Rattle.dz_script.proofs.FieldLemmas.{cut_none, cut_some}
use Rattle.dz_script.proofs.fields.Fields.split_first.Goals as goal

pub returns-in-None : goal.returns-in-None
returns-in-None c = rw (← c.self.view_is, c.in_ok-text.was)
    (cut_none c.self.inside.separator c.in_ok-text.text.now (sym c.in-None.ensures))

pub returns-in-Some : goal.returns-in-Some
returns-in-Some c =
    rw (← c.self.view_is, c.in_ok-text.was, c.of.ensures) (cut_some c.self.inside.separator c.in_ok-text.text.now
    c.in-Some.first.now c.in-Some.rest.now (sym c.in-Some.ensures))
