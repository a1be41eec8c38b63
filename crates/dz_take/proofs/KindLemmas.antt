-- What the answer records of a transfer come to, by the form of their kind.
use Rattle.std.proofs.Common.{◌≡◌, ℕ, ◌<◌, true, false, List, [], ◌∷◌, ◌++◌, length, get_or, refl, sym, ◌∙◌, ap, subst}
use Rattle.std.proofs.Common.{Option, Some, None, Err, inl, inr, arith}
use Rattle.std.specs.Prelude.{◌==◌, slice_get}
use Rattle.std.specs.List.{remove}
use Rattle.std.proofs.lemmas.Bool.{and_parts, cases_Bool}
use Rattle.dz_name.specs.Name.{same_name}
use Rattle.dz_name.specs.Order.{same_decides}
use Rattle.dz_xfr.specs.declared.fault.ShapeFault.TheVariants.{NotSoaFirst, SerialGap}
use Rattle.dz_xfr.specs.Apex.{is_apex_soa, apex_serial, serial_of, held_serial}
use Rattle.dz_xfr.specs.Place.{amid, failed, read, said}
use Rattle.dz_xfr.proofs.ReadingLemmas.{stays_failed}
use Rattle.dz_take.specs.declared.outcome.TakeFault.TheVariants as faults
use Rattle.dz_name.specs.Words.{Name}
use Rattle.dz_record.specs.Record.{Record}
use Rattle.dz_record.specs.Records.{distinct}
use Rattle.dz_zone.specs.Revision.{Revised}
use Rattle.dz_zone.specs.Valid.{fault_of}
use Rattle.dz_zone.specs.Version.{Zone}
use Rattle.dz_zone.specs.declared.fault.ZoneFault.{ZoneFault}
use Rattle.dz_xfr.specs.declared.fault.FeedError.{FeedError}
use Rattle.dz_xfr.specs.declared.fault.FeedError.TheVariants.{Shape, OutOfMemory}
use Rattle.dz_xfr.specs.Answers.{Says}
use Rattle.dz_xfr.specs.Stands.{Forms, Blaming, IsComplete, Reading, more, complete, misfit, Stands, is_complete}
use Rattle.dz_axfr.specs.Whole.{IsWhole}
use Rattle.dz_axfr.specs.Whole as whole
use Rattle.dz_axfr.specs.Reading as whole_reading
use Rattle.dz_axfr.specs.Assembly as whole_assembly
use Rattle.dz_axfr.proofs.WholeLemmas.{whole_stands_once}
use Rattle.dz_ixfr.specs.Incremental.{IsIncremental, others}
use Rattle.dz_ixfr.specs.Incremental as incremental
use Rattle.dz_ixfr.specs.Reading as incremental_reading
use Rattle.dz_ixfr.specs.Assembly as incremental_assembly
use Rattle.dz_ixfr.proofs.Amids.{form_stands_once}
use Rattle.dz_take.specs.declared.outcome.Outcome.{Outcome}
use Rattle.dz_take.specs.Form.{settled, base_of, is_old_soa, reading_of, checked, decision_of, form}
use Rattle.dz_take.specs.Taken.{meaning_of}
use Rattle.dz_take.specs.Transfer.{Transfer, Decision, refused}
use Rattle.dz_take.specs.inner.Following.{begins_differences, Opens, IsWholeKind, IsIncrementalKind, AtWhole}
use Rattle.dz_take.specs.inner.Following.{AtDifferences, Refuses, serial_settles}
use Rattle.dz_take.proofs.DistinctLemmas.{distinct_twice}

-- after a first record that leaves it open
pub form_behind : (transfer : Transfer) (first : Record) (rest : List Record) → Opens transfer first
    → form transfer (first ∷ rest)
    ≡ decision_of transfer.apex (reading_of transfer.apex (base_of transfer.ask transfer.held) (first ∷ rest))
unfolding form
form_behind transfer first rest opens = rw (opens.soa, opens.unsettled) refl

whole_by : (apex : Name) (base : Option Zone) (first second : Record) (rest : List Record)
    → begins_differences apex base first second ≡ false
    → reading_of apex base (first ∷ second ∷ rest) ≡ whole_reading.reading_of apex (first ∷ second ∷ rest)
whole_by apex None first second rest kind = refl
whole_by apex (Some zone) first second rest kind = rw kind refl

pub form_whole : (transfer : Transfer) (records : List Record) → IsWholeKind transfer records
    → form transfer records ≡ decision_of transfer.apex (whole_reading.reading_of transfer.apex records)
form_whole transfer records k =
    rw k.are (form_behind transfer k.first (k.second ∷ k.rest) k.opens
    ∙ ap (decision_of transfer.apex)
    (whole_by transfer.apex (base_of transfer.ask transfer.held) k.first k.second k.rest k.kind))

pub form_incremental : (transfer : Transfer) (zone : Zone) (records : List Record)
    → IsIncrementalKind transfer zone records
    → form transfer records ≡ decision_of transfer.apex (incremental_reading.reading_of zone records)
form_incremental transfer zone records k =
    rw k.are (form_behind transfer k.first (k.second ∷ k.rest) k.opens
    ∙ ap (decision_of transfer.apex) (rw (k.base, k.kind) refl))

pub form_first : (transfer : Transfer) (first : Record) → Opens transfer first → form transfer (first ∷ []) ≡ None
form_first transfer first opens =
    form_behind transfer first [] opens ∙ one_is_more (base_of transfer.ask transfer.held)
  where
    one_is_more : (base : Option Zone) → decision_of transfer.apex (reading_of transfer.apex base (first ∷ [])) ≡ None
    one_is_more None = rw opens.soa refl
    one_is_more (Some zone) = rw opens.soa refl

-- records that are distinct make the same zone
checked_distinct : (apex : Name) (records : List Record) (fault : Option ZoneFault)
    → checked apex (distinct records) fault ≡ checked apex records fault
checked_distinct apex records None = rw (distinct_twice records) refl
checked_distinct apex records (Some fault) = refl

-- what an assembler of the whole form tells of all records that it was fed
module _ (transfer : Transfer) (records : List Record) (kind : IsWholeKind transfer records) where
  whole_is : (reading : Reading) → Stands (IsWhole transfer.apex) whole.Blames records reading
      → form transfer records ≡ decision_of transfer.apex reading
  whole_is reading stands = form_whole transfer records kind
      ∙ ap (decision_of transfer.apex) (sym (whole_stands_once transfer.apex records reading stands))

  pub whole_more : Stands (IsWhole transfer.apex) whole.Blames records more → form transfer records ≡ None
  whole_more stands = whole_is more stands

  pub whole_ended : (items : List Record) (decision : Decision) → IsWhole transfer.apex records (distinct items)
      → decision ≡ checked transfer.apex items (fault_of transfer.apex (distinct items))
      → form transfer records ≡ Some decision
  whole_ended items decision form_is is =
      whole_is (complete (distinct items)) (is_complete form_is)
      ∙ ap Some (ap (λ rs. checked transfer.apex (distinct items) (fault_of transfer.apex rs)) (distinct_twice items)
      ∙ checked_distinct transfer.apex items (fault_of transfer.apex (distinct items)) ∙ sym is)

  pub whole_failed : (error : FeedError) (outcome : Outcome)
      → Says (Err error) (Stands (IsWhole transfer.apex) whole.Blames records) → Refuses error outcome
      → form transfer records ≡ Some (meaning_of outcome)
  whole_failed (Shape fault) outcome stands is = whole_is (misfit fault) stands ∙ ap Some (sym is)
  whole_failed OutOfMemory outcome stands is = absurd is

-- and one of the incremental form
module _ (transfer : Transfer) (zone : Zone) (records : List Record)
    (kind : IsIncrementalKind transfer zone records) where
  incremental_is : (reading : Reading) → Stands (IsIncremental zone) (incremental.Blames zone.apex) records reading
      → form transfer records ≡ decision_of transfer.apex reading
  incremental_is reading stands = form_incremental transfer zone records kind
      ∙ ap (decision_of transfer.apex) (sym (form_stands_once zone records reading stands))

  pub incremental_more : Stands (IsIncremental zone) (incremental.Blames zone.apex) records more
      → form transfer records ≡ None
  incremental_more stands = incremental_is more stands

  pub incremental_ended : (items : List Record) (decision : Decision) → IsIncremental zone records items
      → decision ≡ checked transfer.apex items (fault_of transfer.apex (distinct items))
      → form transfer records ≡ Some decision
  incremental_ended items decision form_is is =
      incremental_is (complete items) (is_complete form_is) ∙ ap Some (sym is)

  pub incremental_failed : (error : FeedError) (outcome : Outcome)
      → Says (Err error) (Stands (IsIncremental zone) (incremental.Blames zone.apex) records) → Refuses error outcome
      → form transfer records ≡ Some (meaning_of outcome)
  incremental_failed (Shape fault) outcome stands is = incremental_is (misfit fault) stands ∙ ap Some (sym is)
  incremental_failed OutOfMemory outcome stands is = absurd is

form_is : (Form : Forms) (Blames : Blaming) (records zone : List Record) → Stands Form Blames records (complete zone)
    → Form records zone
form_is Form Blames records zone (is_complete is) = is

-- the owner of an SOA of the apex
pub owner_is : (apex : Name) (r : Record) → is_apex_soa apex r ≡ true → r.owner ≡ apex
owner_is apex r soa = (same_decides r.owner apex).0 (and_parts (r.kind == 6) (same_name r.owner apex) soa).1

-- the version that differences lead on from is of the zone
incremental_apex : (transfer : Transfer) (zone : Zone) (records items : List Record)
    → IsIncrementalKind transfer zone records → IsIncremental zone records items → zone.apex ≡ transfer.apex
incremental_apex transfer zone records items kind form_of =
    let all = sym form_of.are ∙ kind.are in
    let same : form_of.first ≡ kind.first = cc in
    sym (owner_is zone.apex form_of.first form_of.opens)
    ∙ (ap (λ (r : Record). r.owner) same ∙ owner_is transfer.apex kind.first kind.opens.soa)

-- an assembler of the whole form that was fed once more
module _ (transfer : Transfer) (w v : whole_assembly.Assembly) (records : List Record) (apex : w.apex ≡ transfer.apex)
    (kind : IsWholeKind transfer (w.fed ++ records)) (same : v.apex ≡ w.apex) where
  pub fed_whole_more : v.fed ≡ w.fed ++ records → Stands (IsWhole w.apex) whole.Blames (w.fed ++ records) more
      → (form transfer (w.fed ++ records) ≡ None) × AtWhole transfer (w.fed ++ records) v
  fed_whole_more fed stands = (
    whole_more transfer (w.fed ++ records) kind
        (subst (λ a. Stands (IsWhole a) whole.Blames (w.fed ++ records) more) apex stands),
    record { is = rw (← same ∙ apex, ← fed) refl; is_open = rw (same, fed) stands; kind = kind },
  )

  pub whole_complete : v.fed ≡ w.fed ++ records → (zone : List Record)
      → Stands (IsWhole w.apex) whole.Blames (w.fed ++ records) (complete zone) → IsComplete (IsWhole v.apex) v.fed
  whole_complete fed zone stands =
      (zone, rw (same, fed) (form_is (IsWhole w.apex) whole.Blames (w.fed ++ records) zone stands))

  pub fed_whole_ended : v.fed ≡ w.fed ++ records → (items : List Record) (name : Name) (decision : Decision)
      → IsWhole v.apex v.fed (distinct items) → name ≡ transfer.apex
      → decision ≡ checked name items (fault_of name (distinct items))
      → form transfer (w.fed ++ records) ≡ Some decision
  fed_whole_ended fed items name decision form_of e is =
      let form_here : IsWhole transfer.apex (w.fed ++ records) (distinct items) =
      subst (λ a. IsWhole a (w.fed ++ records) (distinct items)) (same ∙ apex)
      (subst (λ rs. IsWhole v.apex rs (distinct items)) fed form_of) in
      whole_ended transfer (w.fed ++ records) kind items decision form_here
      (subst (λ a. decision ≡ checked a items (fault_of a (distinct items))) e is)

  pub fed_whole_failed : (error : FeedError) (outcome : Outcome)
      → Says (Err error) (Stands (IsWhole w.apex) whole.Blames (w.fed ++ records)) → Refuses error outcome
      → form transfer (w.fed ++ records) ≡ Some (meaning_of outcome)
  fed_whole_failed error outcome says is = whole_failed transfer (w.fed ++ records) kind error outcome
      (subst (λ a. Says (Err error) (Stands (IsWhole a) whole.Blames (w.fed ++ records))) apex says) is

-- and one of the incremental form
module _ (transfer : Transfer) (d e : incremental_assembly.Assembly) (records : List Record)
    (kind : IsIncrementalKind transfer d.held (d.fed ++ records)) (same : e.held ≡ d.held) where
  pub fed_incremental_more : e.fed ≡ d.fed ++ records
      → Stands (IsIncremental d.held) (incremental.Blames d.held.apex) (d.fed ++ records) more
      → (form transfer (d.fed ++ records) ≡ None) × AtDifferences transfer (d.fed ++ records) e
  fed_incremental_more fed stands = (
    incremental_more transfer d.held (d.fed ++ records) kind stands,
    record { fed = fed; is_open = rw (same, fed) stands; kind = rw same kind },
  )

  pub incremental_complete : e.fed ≡ d.fed ++ records → (zone : List Record)
      → Stands (IsIncremental d.held) (incremental.Blames d.held.apex) (d.fed ++ records) (complete zone)
      → IsComplete (IsIncremental e.held) e.fed
  incremental_complete fed zone stands = (
    zone,
    rw (same, fed)
        (form_is (IsIncremental d.held) (incremental.Blames d.held.apex) (d.fed ++ records) zone stands),
  )

  pub fed_incremental_ended : e.fed ≡ d.fed ++ records → (revision : Revised) (decision : Decision)
      → revision.base ≡ e.held → IsIncremental e.held e.fed revision.records
      → decision ≡ checked revision.base.apex revision.records
      (fault_of revision.base.apex (distinct revision.records)) → form transfer (d.fed ++ records) ≡ Some decision
  fed_incremental_ended fed revision decision base form_of is =
      let items = revision.records in
      let form_here : IsIncremental d.held (d.fed ++ records) items =
      subst (λ h. IsIncremental h (d.fed ++ records) items) same
      (subst (λ rs. IsIncremental e.held rs items) fed form_of) in
      let apex : revision.base.apex ≡ transfer.apex = ap (λ (z : Zone). z.apex) (base ∙ same)
      ∙ incremental_apex transfer d.held (d.fed ++ records) items kind form_here in
      incremental_ended transfer d.held (d.fed ++ records) kind items decision form_here
      (subst (λ a. decision ≡ checked a items (fault_of a (distinct items))) apex is)

-- more records after those of a kind are of the kind
pub whole_kind_more : (transfer : Transfer) (records others : List Record) → IsWholeKind transfer records
    → IsWholeKind transfer (records ++ others)
whole_kind_more transfer records others k = record {
  first = k.first;
  second = k.second;
  rest = k.rest ++ others;
  are = ap (λ rs. rs ++ others) k.are;
  opens = k.opens;
  kind = k.kind;
}

pub incremental_kind_more : (transfer : Transfer) (zone : Zone) (records others : List Record)
    → IsIncrementalKind transfer zone records → IsIncrementalKind transfer zone (records ++ others)
incremental_kind_more transfer zone records others k = record {
  first = k.first;
  second = k.second;
  rest = k.rest ++ others;
  are = ap (λ rs. rs ++ others) k.are;
  opens = k.opens;
  base = k.base;
  kind = k.kind;
}

-- the first record
pub form_none : (transfer : Transfer) (records : List Record) → length records ≡ 0
    → form transfer records ≡ Some (refused (faults.Shape NotSoaFirst))
unfolding form
form_none transfer [] none = refl
form_none transfer (r ∷ records) none = absurd (omega arith)

form_other : (transfer : Transfer) (first : Record) (rest : List Record) → is_apex_soa transfer.apex first ≡ false
    → form transfer (first ∷ rest) ≡ Some (refused (faults.Shape NotSoaFirst))
unfolding form
form_other transfer first rest other = rw other refl

form_settled : (transfer : Transfer) (first : Record) (rest : List Record) (decision : Decision)
    → is_apex_soa transfer.apex first ≡ true → settled transfer.held first ≡ Some decision
    → form transfer (first ∷ rest) ≡ Some decision
unfolding form
form_settled transfer first rest decision soa is = rw (soa, is) refl

pub settled_by : (held : Option Zone) (first : Record) (serial : ℕ) → serial ≡ serial_of first
    → settled held first ≡ serial_settles held serial
settled_by None first serial e = refl
settled_by (Some zone) first serial e = rw e refl

no_serial : (apex : Name) (first : Record) → None ≡ apex_serial apex first → is_apex_soa apex first ≡ false
no_serial apex first e = elim (cases_Bool (is_apex_soa apex first)) [
  | inl t ↦ let k = rw t at e in absurd (cc)
  | inr f ↦ f
]

pub a_serial : (apex : Name) (first : Record) (serial : ℕ) → Some serial ≡ apex_serial apex first
    → (is_apex_soa apex first ≡ true) × (serial ≡ serial_of first)
a_serial apex first serial e = elim (cases_Bool (is_apex_soa apex first)) [
  | inl t ↦ let k = rw t at e in (t, cc)
  | inr f ↦ let k = rw f at e in absurd (cc)
]

head_is : (all rest : List Record) (first : Record) → 0 < length all → first ≡ get_or all 0 first → rest ≡ remove all 0
    → all ≡ first ∷ rest
head_is [] rest first some is others = absurd (omega arith)
head_is (r ∷ all) rest first some is others = rw (others, is) refl

-- all records, of which the first was taken off
module _ (transfer : Transfer) (all rest : List Record) (first : Record) (some : 0 < length all)
    (is : first ≡ get_or all 0 first) (others : rest ≡ remove all 0) where
  pub begin_other : None ≡ apex_serial transfer.apex first
      → form transfer all ≡ Some (refused (faults.Shape NotSoaFirst))
  begin_other none =
      rw (head_is all rest first some is others) (form_other transfer first rest (no_serial transfer.apex first none))

  pub begin_settled : (serial : ℕ) (decision : Decision) → Some serial ≡ apex_serial transfer.apex first
      → serial_settles transfer.held serial ≡ Some decision → form transfer all ≡ Some decision
  begin_settled serial decision soa settles =
      let a = a_serial transfer.apex first serial soa in
      rw (head_is all rest first some is others)
      (form_settled transfer first rest decision a.0 (settled_by transfer.held first serial a.1 ∙ settles))

  pub begin_opens : (serial : ℕ) → Some serial ≡ apex_serial transfer.apex first
      → serial_settles transfer.held serial ≡ None → Opens transfer first
  begin_opens serial soa settles =
      let a = a_serial transfer.apex first serial soa in
      record { soa = a.0; unsettled = settled_by transfer.held first serial a.1 ∙ settles }

  pub begin_all : all ≡ first ∷ rest
  begin_all = head_is all rest first some is others

pub second_is : (records : List Record) (second : Record) → Some second ≡ slice_get records 0
    → (rest : List Record) × (records ≡ second ∷ rest)
second_is [] second e = absurd (cc)
second_is (r ∷ records) second e = (records, let k : second ≡ r = cc in rw k refl)

pub none_first : (records : List Record) → None ≡ slice_get records 0 → records ≡ []
none_first [] e = refl
none_first (r ∷ records) e = absurd (cc)

-- differences that begin with another serial than the held one
gap_reads : (zone : Zone) (first second : Record) (rest : List Record) → is_apex_soa zone.apex first ≡ true
    → is_apex_soa zone.apex second ≡ true → (serial_of second == held_serial zone) ≡ false
    → incremental_reading.reading_of zone (first ∷ second ∷ rest) ≡ misfit SerialGap
gap_reads zone first second rest f s g =
    let one = incremental_reading.one zone.apex in
    let begun : one (incremental_reading.start zone) first
    ≡ amid (incremental_reading.begun first (held_serial zone) (others zone)) = rw f refl in
    let gap : one (incremental_reading.begun first (held_serial zone) (others zone)) second ≡ failed SerialGap =
    rw (s, g) refl in
    ap said
    (ap (λ p. read one p (second ∷ rest)) begun ∙ (ap (λ p. read one p rest) gap ∙ stays_failed one SerialGap rest))

pub form_gap : (transfer : Transfer) (zone : Zone) (first second : Record) (records : List Record)
    → Opens transfer first → base_of transfer.ask transfer.held ≡ Some zone
    → is_old_soa transfer.apex first second ≡ true
    → zone.apex ≡ transfer.apex → Some second ≡ slice_get records 0 → (serial_of second == held_serial zone) ≡ false
    → form transfer (first ∷ records) ≡ Some (refused (faults.Shape SerialGap))
form_gap transfer zone first second records opens base kind same there gap =
    let w = second_is records second there in
    let k : IsIncrementalKind transfer zone (first ∷ second ∷ w.0) =
    record { first = first; second = second; rest = w.0; are = refl; opens = opens; base = base; kind = kind } in
    let soa = (and_parts (is_apex_soa transfer.apex second) _ kind).0 in
    rw w.1 (form_incremental transfer zone (first ∷ second ∷ w.0) k
    ∙ ap (decision_of transfer.apex) (gap_reads zone first second w.0 (rw same opens.soa) (rw same soa) gap))
