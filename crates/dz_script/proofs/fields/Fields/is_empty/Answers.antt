use Rattle.dz_script.proofs.FieldLemmas.{left_none}
use Rattle.dz_script.proofs.fields.Fields.is_empty.Goals as goal

pub returns : goal.returns
returns c = rw (← c.self.view_is)
    (left_none c.self.inside.separator (λ text. text.now) c.self.inside.rest c.is_none.result c.is_none.ensures)
