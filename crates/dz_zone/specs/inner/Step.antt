-- Inner: a pass over the records of two versions, both in order.
use Rattle.std.specs.Prelude.{List, [], ◌∷◌, Option, Some, None}
use Rattle.std.specs.Ordering.{match_ordering}
use Rattle.std.specs.Option.{option_map}
use Rattle.dz_record.specs.Record.{Record, full_order}
use Rattle.dz_zone.specs.declared.apart.Step.{Step as Lent}

-- the record that the earlier version alone has, or the later one, and the records of both that follow
pub record Step : Type 0 where
  pub gone : Option Record
  pub come : Option Record
  pub before : List Record
  pub after : List Record

-- the first of the earlier version is gone
abbrev pub step_gone : Record → List Record → List Record → Step
step_gone r before after = record { gone = Some r; come = None; before = before; after = after }

-- the first of the later version has come
abbrev pub step_come : Record → List Record → List Record → Step
step_come r before after = record { gone = None; come = Some r; before = before; after = after }

-- both begin with the same record
abbrev pub step_same : List Record → List Record → Step
step_same before after = record { gone = None; come = None; before = before; after = after }

-- the first step, by the first records of both
abbrev pub first_step : List Record → List Record → Option Step
first_step [] [] = None
first_step (r ∷ rs) [] = Some (step_gone r rs [])
first_step [] (s ∷ ss) = Some (step_come s [] ss)
first_step (r ∷ rs) (s ∷ ss) = Some (match_ordering (full_order r s)
    (step_gone r rs (s ∷ ss)) (step_same rs ss) (step_come s (r ∷ rs) ss))

-- a step with the records that it refers to
abbrev pub step_of : Lent → Step
step_of s = record {
  gone = option_map (λ r. r.now) s.gone;
  come = option_map (λ r. r.now) s.come;
  before = s.before.now;
  after = s.after.now;
}
