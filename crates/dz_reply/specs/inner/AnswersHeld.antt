-- Inner: the records of the version that answers.
use Rattle.std.specs.Prelude.{◌≡◌, ℕ, true, List, Option, Some, None}
use Rattle.std.specs.Option.{ForSome}
use Rattle.std.specs.List.{All}
use Rattle.dz_record.specs.Record.{IsRecord}
use Rattle.dz_table.specs.Slot.{SlotOf, is_live}
use Rattle.dz_table.specs.Table.{closest_for}
use Rattle.dz_request.specs.declared.request.Request.{Request}
use Rattle.dz_request.specs.declared.request.Request.TheVariants.{Silent, Curt, NewerEdns, NotImp, Notify, Asks}

-- where a slot's version answers at a moment, its records are such as a version holds (RFC 1035 section 3.2.1, RFC
-- 2181 section 8)
abbrev pub AnswersHeld : Option SlotOf → ℕ → Type 0
AnswersHeld None moment = Unit {0}
AnswersHeld (Some slot) moment = is_live slot moment ≡ true → ForSome slot.version (λ v. All IsRecord v.records)

-- the same of the slot that answers a request, if one does
abbrev pub AnswersHeldFor : List SlotOf → ℕ → Request → Type 0
AnswersHeldFor slots moment Silent = Unit {0}
AnswersHeldFor slots moment (Curt header code) = Unit {0}
AnswersHeldFor slots moment (NewerEdns asked) = Unit {0}
AnswersHeldFor slots moment (NotImp asked) = Unit {0}
AnswersHeldFor slots moment (Notify asked) = Unit {0}
AnswersHeldFor slots moment (Asks asked) =
    AnswersHeld (closest_for slots asked.question.name asked.question.kind) moment
