-- Inner: what is kept of a whole form while it is fed: the first SOA and the body in one list.
use Rattle.std.specs.Prelude.{◌≡◌, true, List, [], ◌∷◌, ◌++◌}
use Rattle.dz_name.specs.Words.{Name}
use Rattle.dz_record.specs.Record.{Record}
use Rattle.dz_record.specs.Records.{distinct}
use Rattle.dz_xfr.specs.declared.fault.Progress.{Progress}
use Rattle.dz_xfr.specs.declared.fault.Progress.TheVariants.{More, Ended}
use Rattle.dz_xfr.specs.declared.fault.ShapeFault.{ShapeFault}
use Rattle.dz_xfr.specs.Apex.{is_apex_soa}
use Rattle.dz_xfr.specs.Place.{Place, amid, ended, failed, read}
use Rattle.dz_axfr.specs.Reading.{Amid, nothing, opened, one, place_of}

-- the place of what is kept
abbrev pub kept_place : Progress → List Record → Place Amid
kept_place More [] = amid nothing
kept_place More (first ∷ body) = amid (opened first body)
kept_place Ended records = ended (distinct records)

-- the first record is an SOA of the apex
abbrev pub OpensAt : Name → List Record → Type 0
OpensAt apex [] = ⊥
OpensAt apex (first ∷ body) = is_apex_soa apex first ≡ true

-- the records that were fed are those that are kept, and at the end one more, which closes the form
abbrev pub AreKept : Progress → List Record → List Record → Type 0
AreKept More kept fed = fed ≡ kept
AreKept Ended kept fed = (last : Record) × (fed ≡ kept ++ last ∷ [])

-- what is kept of the records that were fed
pub record IsKept (apex : Name) (kept : List Record) (progress : Progress) (fed : List Record) : Type 0 where
  pub opens : OpensAt apex kept
  pub place : place_of apex fed ≡ kept_place progress kept
  pub are : AreKept progress kept fed

-- what is kept of the records that were fed, of which those that are the same may be kept once
pub record IsHeld (apex : Name) (kept : List Record) (progress : Progress) (fed : List Record) : Type 0 where
  pub all : List Record
  pub same : distinct kept ≡ distinct all
  pub keeps : IsKept apex all progress fed

-- what of these records belongs to the body of a form that this SOA began, whatever of the body was there before
abbrev pub Cuts : Name → Record → List Record → Progress → List Record → Type 0
Cuts apex first records progress cut = (body : List Record)
    → (read (one apex) (amid (opened first body)) records ≡ kept_place progress (first ∷ (body ++ cut)))
    × AreKept progress (first ∷ (body ++ cut)) (first ∷ (body ++ records))

-- the fault of these records after the first SOA, whatever of the body was there before
abbrev pub Misfits : Name → Record → List Record → ShapeFault → Type 0
Misfits apex first records fault =
    (body : List Record) → read (one apex) (amid (opened first body)) records ≡ failed fault
