-- What one record makes of an assembler.
use Rattle.std.proofs.Common.{◌≡◌, ◌≢◌, ℕ, Bool, true, false, not, List, [], ◌∷◌, ◌++◌, refl, sym, ◌∙◌, ap, subst}
use Rattle.std.proofs.Common.{eq-eqb}
use Rattle.std.proofs.lemmas.Bool.{not-true, not-false}
use Rattle.std.specs.Bool.{OnTrue}
use Rattle.std.specs.Str.{bytes_eq}
use Rattle.dz_name.specs.Words.{Name}
use Rattle.dz_record.specs.Record.{Record}
use Rattle.dz_record.specs.Records.{insertion}
use Rattle.dz_zone.specs.Revision.{Revised}
use Rattle.dz_zone.specs.Version.{Zone}
use Rattle.dz_xfr.specs.declared.fault.ShapeFault.TheVariants.{SerialGap, AfterEnd, DeleteMissing, AddPresent}
use Rattle.dz_xfr.specs.Apex.{is_apex_soa, serial_of}
use Rattle.dz_xfr.specs.Place.{Place, amid, ended, failed, behind, said}
use Rattle.dz_xfr.specs.Stands.{Reading, more, complete, misfit}
use Rattle.dz_xfr.proofs.ReadingLemmas.{read_pieces}
use Rattle.dz_ixfr.specs.declared.differences.Stage.{Stage}
use Rattle.dz_ixfr.specs.declared.differences.Stage.TheVariants.{Begun, Deleting, Adding, Ended}
use Rattle.dz_ixfr.specs.Assembly.{Assembly}
use Rattle.dz_ixfr.specs.Incremental.{is_there, without}
use Rattle.dz_ixfr.specs.Reading.{Amid, deleting, adding, one, start, place_of, reading_of}
use Rattle.dz_ixfr.specs.inner.Kept.{place_in, HasNoneAmid, IsKept, IsAtEnd}
use Rattle.dz_ixfr.proofs.Soas.{no_soa_without, no_soa_insertion, soa_absent, without_absent}
use Rattle.dz_ixfr.proofs.ToEnd.{differ}

module _ {held : Zone} {fed : List Record} {apex : Name} {goal : ℕ} {first : Record} {stage : Stage}
    {records : List Record} (k : IsKept held fed apex goal first stage records) (seen : Assembly)
    (v : record { held = held; fed = fed } ≡ seen) (r : Record) where
  abbrev Says : Reading → Type 0
  Says reading = reading ≡ reading_of seen.held (seen.fed ++ r ∷ [])

  -- the place after the record
  next_place : (s : Stage) → stage ≡ s
      → place_of held (fed ++ r ∷ []) ≡ behind (one held.apex) (place_in s first records) r
  next_place s e =
      read_pieces (one held.apex) (amid (start held)) fed (r ∷ [])
      ∙ ap (λ p. behind (one held.apex) p r) (k.place ∙ ap (λ t. place_in t first records) e)

  told : (p : Place Amid) → place_of held (fed ++ r ∷ []) ≡ p → Says (said p)
  told p e = sym (ap (λ (s : Assembly). reading_of s.held (s.fed ++ r ∷ [])) (sym v) ∙ ap said e)

  soa_here : (b : Bool) → is_apex_soa seen.held.apex r ≡ b → is_apex_soa held.apex r ≡ b
  soa_here b t = ap (λ (s : Assembly). is_apex_soa s.held.apex r) v ∙ t

  module _ (t : is_apex_soa seen.held.apex r ≡ true) where
    pub begun_gap : (n m : ℕ) → stage ≡ Begun m → n ≡ serial_of r → n ≢ m → Says (misfit SerialGap)
    begun_gap n m e s d =
        told (failed SerialGap) (next_place (Begun m) e ∙ rw (soa_here true t, ← s, differ n m d) refl)

    begun_place : (n m : ℕ) → stage ≡ Begun m → n ≡ serial_of r → n ≡ m
        → place_of held (fed ++ r ∷ []) ≡ amid (deleting first records)
    begun_place n m e s d = next_place (Begun m) e ∙ rw (soa_here true t, ← s, eq-eqb n m d) refl

    pub begun_more : (n m : ℕ) → stage ≡ Begun m → n ≡ serial_of r → n ≡ m → Says more
    begun_more n m e s d = told (amid (deleting first records)) (begun_place n m e s d)

    deleting_place : (n : ℕ) → stage ≡ Deleting → n ≡ serial_of r
        → place_of held (fed ++ r ∷ []) ≡ amid (adding first n records)
    deleting_place n e s = next_place Deleting e ∙ rw (soa_here true t, s) refl

    pub deleting_more : (n : ℕ) → stage ≡ Deleting → n ≡ serial_of r → Says more
    deleting_more n e s = told (amid (adding first n records)) (deleting_place n e s)

    pub adding_gap : (n last : ℕ) → stage ≡ Adding last → last ≢ goal → n ≡ serial_of r → n ≢ last
        → Says (misfit SerialGap)
    adding_gap n last e g s d =
        told (failed SerialGap) (next_place (Adding last) e ∙ rw
        (soa_here true t, differ last (serial_of first) (λ q. g (q ∙ sym k.goal_is)), ← s, differ n last d) refl)

    adding_place : (n last : ℕ) → stage ≡ Adding last → last ≢ goal → n ≡ serial_of r → n ≡ last
        → place_of held (fed ++ r ∷ []) ≡ amid (deleting first records)
    adding_place n last e g s d = next_place (Adding last) e
        ∙ rw (soa_here true t, differ last (serial_of first) (λ q. g (q ∙ sym k.goal_is)), ← s, eq-eqb n last d) refl

    pub adding_more : (n last : ℕ) → stage ≡ Adding last → last ≢ goal → n ≡ serial_of r → n ≡ last → Says more
    adding_more n last e g s d = told (amid (deleting first records)) (adding_place n last e g s d)

  pub at_end : (last : ℕ) → stage ≡ Adding last → last ≡ goal → IsAtEnd seen.held seen.fed
  at_end last e g =
      subst (λ (s : Assembly). IsAtEnd s.held s.fed) v (
        first,
        records,
        k.place ∙ (ap (λ s. place_in s first records) e ∙ ap (λ n. amid (adding first n records)) (g ∙ k.goal_is)),
      )

  pub past_end : stage ≡ Ended → Says (misfit AfterEnd)
  past_end e = told (failed AfterEnd) (next_place Ended e)

  kept_on : (new left : List Record) → new ≡ fed ++ r ∷ [] → HasNoneAmid held.apex stage left
      → place_of held (fed ++ r ∷ []) ≡ place_in stage first left → IsKept held new apex goal first stage left
  kept_on new left n h e =
      rw n record { apex_is = k.apex_is; goal_is = k.goal_is; opens = k.opens; no_soa = h; place = e }

  module _ (f : is_apex_soa seen.held.apex r ≡ false) where
    pub begun_other : (m : ℕ) → stage ≡ Begun m → Says (misfit SerialGap)
    begun_other m e = told (failed SerialGap) (next_place (Begun m) e ∙ rw (soa_here false f) refl)

    pub missing_says : stage ≡ Deleting → false ≡ is_there r records → Says (misfit DeleteMissing)
    missing_says e t = told (failed DeleteMissing) (next_place Deleting e ∙ rw (soa_here false f, ← t) refl)

    pub missing_kept : false ≡ is_there r records → IsKept held fed apex goal first stage (without r records)
    missing_kept t = rw (without_absent r records (sym t)) k

    removed_place : stage ≡ Deleting → true ≡ is_there r records
        → place_of held (fed ++ r ∷ []) ≡ amid (deleting first (without r records))
    removed_place e t = next_place Deleting e ∙ rw (soa_here false f, ← t) refl

    pub removed_says : stage ≡ Deleting → true ≡ is_there r records → Says more
    removed_says e t = told (amid (deleting first (without r records))) (removed_place e t)

    pub removed_kept : (new : List Record) → new ≡ fed ++ r ∷ [] → stage ≡ Deleting → true ≡ is_there r records
        → IsKept held new apex goal first stage (without r records)
    removed_kept new n e t =
        kept_on new (without r records) n
        (subst (λ s. HasNoneAmid held.apex s (without r records)) (sym e)
        (no_soa_without held.apex r records (subst (λ s. HasNoneAmid held.apex s records) e k.no_soa)))
        (removed_place e t ∙ ap (λ s. place_in s first (without r records)) (sym e))

    pub present_says : (last : ℕ) → stage ≡ Adding last → false ≡ not (is_there r records) → Says (misfit AddPresent)
    present_says last e t = told (failed AddPresent)
        (next_place (Adding last) e ∙ rw (soa_here false f, not-false (is_there r records) (sym t)) refl)

    inserted_place : (last : ℕ) → stage ≡ Adding last → true ≡ not (is_there r records)
        → place_of held (fed ++ r ∷ []) ≡ amid (adding first last (insertion r records))
    inserted_place last e t =
        next_place (Adding last) e ∙ rw (soa_here false f, not-true (is_there r records) (sym t)) refl

    pub inserted_says : (last : ℕ) → stage ≡ Adding last → true ≡ not (is_there r records) → Says more
    inserted_says last e t = told (amid (adding first last (insertion r records))) (inserted_place last e t)

    pub inserted_kept : (last : ℕ) (new : List Record) → new ≡ fed ++ r ∷ [] → stage ≡ Adding last
        → true ≡ not (is_there r records) → IsKept held new apex goal first stage (insertion r records)
    inserted_kept last new n e t =
        kept_on new (insertion r records) n
        (subst (λ s. HasNoneAmid held.apex s (insertion r records)) (sym e) (no_soa_insertion held.apex r records
        (soa_here false f) (subst (λ s. HasNoneAmid held.apex s records) e k.no_soa)))
        (inserted_place last e t ∙ ap (λ s. place_in s first (insertion r records)) (sym e))

  adding_only : (s : Stage) (other : Record) (stands : List Record)
      → place_in s first records ≡ amid (adding other (serial_of other) stands) → s ≡ Adding (serial_of first)
  adding_only (Begun n) other stands e = absurd (cc)
  adding_only Deleting other stands e = absurd (cc)
  adding_only (Adding n) other stands e =
      let a : first ≡ other = cc in
      let b : n ≡ serial_of other = cc in
      ap Adding (b ∙ ap serial_of (sym a))
  adding_only Ended other stands e = absurd (cc)

  module _ (t : is_apex_soa seen.held.apex r ≡ true) (here : IsAtEnd seen.held seen.fed) where
    stage_is : stage ≡ Adding (serial_of first)
    stage_is =
        let w : IsAtEnd held fed = subst (λ (s : Assembly). IsAtEnd s.held s.fed) (sym v) here in
        adding_only stage w.0 w.1 (sym k.place ∙ w.2)

    pub rdata_gap : bytes_eq r.rdata first.rdata ≡ false → Says (misfit SerialGap)
    rdata_gap b = told (failed SerialGap) (next_place (Adding (serial_of first)) stage_is
        ∙ rw (soa_here true t, eq-eqb (serial_of first) (serial_of first) refl, b) refl)

    closed_place : bytes_eq r.rdata first.rdata ≡ true
        → place_of held (fed ++ r ∷ []) ≡ ended (insertion first records)
    closed_place b = next_place (Adding (serial_of first)) stage_is
        ∙ rw (soa_here true t, eq-eqb (serial_of first) (serial_of first) refl, b) refl

    pub closed_says : bytes_eq r.rdata first.rdata ≡ true → Says (complete (insertion first records))
    closed_says b = told (ended (insertion first records)) (closed_place b)

    pub closed_kept : (new : List Record) → new ≡ fed ++ r ∷ [] → bytes_eq r.rdata first.rdata ≡ true
        → IsKept held new apex goal first Ended (insertion first records)
    closed_kept new n b =
        rw n record { apex_is = k.apex_is; goal_is = k.goal_is; opens = k.opens; no_soa = tt; place = closed_place b }

    first_absent : is_there first records ≡ false
    first_absent =
        soa_absent held.apex first records k.opens (subst (λ s. HasNoneAmid held.apex s records) stage_is k.no_soa)

    -- the first SOA, as it was shared, has joined
    pub first_joined : (b : Bool) (shared : Record) (now : Revised) → shared ≡ first → b
        ≡ not (is_there shared records) → OnTrue b (now ≡ record { base = held; records = insertion shared records })
        → now ≡ record { base = held; records = insertion first records }
    first_joined b shared now s e j =
        subst (λ b. OnTrue b (now ≡ record { base = held; records = insertion shared records }))
        (e ∙ ap not (ap (λ f. is_there f records) s ∙ first_absent)) j
        ∙ ap (λ f. record { base = held; records = insertion f records }) s

-- the version under changes, as it is now
pub kept_as : {held : Zone} {fed : List Record} {apex : Name} {goal : ℕ} {first : Record} {stage : Stage}
    {records : List Record} (now : Revised) → now ≡ record { base = held; records = records }
    → IsKept held fed apex goal first stage records
    → IsKept now.base fed apex goal first stage now.records
kept_as {fed = fed} {apex = apex} {goal = goal} {first = first} {stage = stage} now e k =
    subst (λ (v : Revised). IsKept v.base fed apex goal first stage v.records) (sym e) k
