-- What an assembler says of all records that it was fed.
use Rattle.std.proofs.Common.{◌≡◌, ℕ, true, List, [], ◌∷◌, ◌++◌, append_assoc, refl, sym, ◌∙◌, ap, subst, Result, Ok}
use Rattle.std.proofs.Common.{Err}
use Rattle.std.proofs.lemmas.List.{append-nil}
use Rattle.dz_name.specs.Words.{Name}
use Rattle.dz_record.specs.Record.{Record}
use Rattle.dz_zone.specs.Version.{Zone}
use Rattle.dz_xfr.specs.declared.fault.ShapeFault.{ShapeFault}
use Rattle.dz_xfr.specs.declared.fault.Progress.{Progress}
use Rattle.dz_xfr.specs.declared.fault.Progress.TheVariants.{More, Ended as IsEnded}
use Rattle.dz_xfr.specs.declared.fault.FeedError.{FeedError}
use Rattle.dz_xfr.specs.declared.fault.FeedError.TheVariants.{Shape, OutOfMemory}
use Rattle.dz_xfr.specs.Apex.{is_apex_soa, serial_of, held_serial}
use Rattle.dz_xfr.specs.Feeding.{IsOpen}
use Rattle.dz_xfr.specs.Answers.{Says}
use Rattle.dz_xfr.specs.Place.{Place, amid, ended, failed, read, said}
use Rattle.dz_xfr.specs.Stands.{Stands, IsComplete, more, complete, misfit, is_complete}
use Rattle.dz_xfr.proofs.ReadingLemmas.{read_pieces, stays_failed}
use Rattle.dz_ixfr.specs.declared.differences.Stage.{Stage}
use Rattle.dz_ixfr.specs.declared.differences.Stage.TheVariants.{Begun, Deleting, Adding, Ended}
use Rattle.dz_ixfr.specs.Assembly.{Assembly}
use Rattle.dz_ixfr.specs.Incremental.{IsIncremental, Blames, others}
use Rattle.dz_ixfr.specs.Reading.{Amid, begun, one, start, place_of, reading_of}
use Rattle.dz_ixfr.specs.inner.Kept.{place_in, IsKept}
use Rattle.dz_ixfr.proofs.Amids.{form_stands, form_stands_once}
use Rattle.dz_ixfr.proofs.FromEnd.{from_end}
use Rattle.dz_ixfr.proofs.Soas.{no_soa_others}
use Rattle.dz_ixfr.proofs.ToEnd.{to_end, step_first}

-- the answer is what the reading says
abbrev pub Reads : Zone → Result Progress FeedError → List Record → Type 0
Reads held result fed = Says result (λ reading. reading ≡ reading_of held fed)

said_failed : (p : Place Amid) (fault : ShapeFault) → misfit fault ≡ said p → p ≡ failed fault
said_failed (amid x) fault e = absurd (cc)
said_failed (ended zone) fault e = absurd (cc)
said_failed (failed other) fault e = cc

-- a record that doesn't fit, and whatever follows it
pub fails : (held : Zone) (error : FeedError) (fed rest all : List Record) (r : Record)
    → Reads held (Err error) (fed ++ r ∷ []) → fed ++ r ∷ rest ≡ all → Reads held (Err error) all
fails held OutOfMemory fed rest all r s e = tt
fails held (Shape fault) fed rest all r s e =
    let p = said_failed (place_of held (fed ++ r ∷ [])) fault s in
    sym (ap (reading_of held) (sym e ∙ sym (append_assoc fed (r ∷ []) rest))
    ∙ ap said (read_pieces (one held.apex) (amid (start held)) (fed ++ r ∷ []) rest
    ∙ (ap (λ q. read (one held.apex) q rest) p ∙ stays_failed (one held.apex) fault rest)))

-- what the reading says holds
pub says_stands : (held : Zone) (result : Result Progress FeedError) (all : List Record) → Reads held result all
    → Says result (Stands (IsIncremental held) (Blames held.apex) all)
says_stands held (Ok More) all e =
    subst (Stands (IsIncremental held) (Blames held.apex) all) (sym e) (form_stands held all)
says_stands held (Ok IsEnded) all e =
    (e.0, subst (Stands (IsIncremental held) (Blames held.apex) all) (sym e.1) (form_stands held all))
says_stands held (Err (Shape fault)) all e =
    subst (Stands (IsIncremental held) (Blames held.apex) all) (sym e) (form_stands held all)
says_stands held (Err OutOfMemory) all e = tt

pub open_reads : (held : Zone) (fed : List Record) → IsOpen (IsIncremental held) (Blames held.apex) fed
    → more ≡ reading_of held fed
open_reads held fed o = form_stands_once held fed more o

pub reads_at : (now held : Zone) (result : Result Progress FeedError) (fed : List Record) → now ≡ held
    → Reads now result fed → Reads held result fed
reads_at now held result fed e h = subst (λ z. Reads z result fed) e h

-- a record is taken from those that are left
pub one_on : (fed rest left all : List Record) (r : Record) → left ≡ r ∷ rest → fed ++ left ≡ all
    → fed ++ r ∷ rest ≡ all
one_on fed rest left all r i e = ap (λ l. fed ++ l) (sym i) ∙ e

-- where no record is left
pub none_left : (fed rest all : List Record) → rest ≡ [] → fed ++ rest ≡ all → fed ≡ all
none_left fed rest all n e = sym (append-nil fed) ∙ (ap (λ l. fed ++ l) (sym n) ∙ e)

-- the records at the end
zone_is : (s : Stage) (first : Record) (records end : List Record) → place_in s first records ≡ ended end
    → place_in s first records ≡ ended records
zone_is (Begun n) first records end e = absurd (cc)
zone_is Deleting first records end e = absurd (cc)
zone_is (Adding n) first records end e = absurd (cc)
zone_is Ended first records end e = refl

pub finished : {held : Zone} {fed : List Record} {apex : Name} {goal : ℕ} {first : Record} {stage : Stage}
    {records : List Record} → IsKept held fed apex goal first stage records
    → (seen : Assembly) → record { held = held; fed = fed } ≡ seen → IsComplete (IsIncremental seen.held) seen.fed
    → IsIncremental seen.held seen.fed records
finished {held = held} {fed = fed} {first = first} {stage = stage} {records = records} k seen v =
    subst (λ (s : Assembly). IsComplete (IsIncremental s.held) s.fed → IsIncremental s.held s.fed records) v
    (λ w. from_end held fed records
    (k.place ∙ zone_is stage first records w.0 (sym k.place ∙ to_end held fed w.0 w.1)))

-- after the first SOA
pub started_place : (held : Zone) (first : Record) → is_apex_soa held.apex first ≡ true
    → place_of held (first ∷ []) ≡ amid (begun first (held_serial held) (others held))
started_place held first t = step_first held.apex first (held_serial held) (others held) t

pub started_kept : (held : Zone) (fed : List Record) (apex : Name) (goal serial : ℕ) (first : Record)
    → fed ≡ first ∷ [] → apex ≡ held.apex → goal ≡ serial_of first → serial ≡ held_serial held
    → is_apex_soa held.apex first ≡ true → IsKept held fed apex goal first (Begun serial) (others held)
started_kept held fed apex goal serial first f a g n t = rw (f, n) record {
  apex_is = a;
  goal_is = g;
  opens = t;
  no_soa = no_soa_others held;
  place = started_place held first t;
}

pub started_open : (held : Zone) (first : Record) → is_apex_soa held.apex first ≡ true
    → IsOpen (IsIncremental held) (Blames held.apex) (first ∷ [])
started_open held first t = subst (Stands (IsIncremental held) (Blames held.apex) (first ∷ []))
    (ap said (started_place held first t)) (form_stands held (first ∷ []))

whole_of : (held : Zone) (all zone : List Record) → Stands (IsIncremental held) (Blames held.apex) all (complete zone)
    → IsIncremental held all zone
whole_of held all zone (is_complete f) = f

-- at the end the records that were fed are a whole form, so there is a zone
pub ended_whole : (now held : Zone) (progress : Progress) (fed all : List Record) → now ≡ held → fed ≡ all
    → progress ≡ IsEnded → Says (Ok progress) (Stands (IsIncremental held) (Blames held.apex) all)
    → IsComplete (IsIncremental now) fed
ended_whole now held progress fed all h f e s =
    let w : Says (Ok IsEnded) (Stands (IsIncremental held) (Blames held.apex) all) =
    subst (λ p. Says (Ok p) (Stands (IsIncremental held) (Blames held.apex) all)) e s in
    rw (h, f) (w.0, whole_of held all w.0 w.1)
