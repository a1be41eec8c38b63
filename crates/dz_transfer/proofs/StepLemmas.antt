-- One more dial.
use Rattle.std.proofs.Common.{◌≡◌, ℕ, ◌+◌, ◌<◌, ◌≤◌, Bool, true, false, ◌||◌, List, [], ◌∷◌, ◌++◌, length}
use Rattle.std.proofs.Common.{take, Option, None, Some, refl, sym, ap, ◌∙◌, subst, arith, inl, inr, append-nil}
use Rattle.std.proofs.Common.{append_assoc, length-append}
use Rattle.std.specs.Prelude.{option_to_list}
use Rattle.std.proofs.Math.Seq.{take-length}
use Rattle.std.proofs.lemmas.List.{take-append-le}
use mathlib.Core.List.{IsPrefix}
use Rattle.dz_io.specs.Counts.{HasRisen, HasRisenBy}
use Rattle.dz_io.specs.Device.{Gains}
use Rattle.dz_io.specs.Links.{Dialled}
use Rattle.dz_history.specs.declared.entry.Entry.{Entry}
use Rattle.dz_desk.proofs.PrefixLemmas.{prefix_length}
use Rattle.dz_job.specs.Job.{JobOf}
use Rattle.dz_provision.specs.Endings.{EndingOf}
use Rattle.dz_provision.specs.Receipts.{WasDue}
use Rattle.dz_fetch.specs.Fetching.{ShowsDial, links_of}
use Rattle.dz_fetch.proofs.GainLemmas.{gains_none}
use Rattle.dz_transfer.specs.declared.report.Report.{Report}
use Rattle.dz_transfer.specs.declared.report.Report.TheVariants as report
use Rattle.dz_transfer.specs.Receipts.{IsTaken, Must, IsWorked, IsDialFor, IsWork, HasDialled}
use Rattle.dz_transfer.specs.Serving.{Dial, links_in, endings_in, IsServed, link_fault, sum_of, link_faults, Counts}
use Rattle.dz_transfer.specs.Serving.{DialsShow, HaveNoLogFault, LogFaultIsLast}
use Rattle.dz_transfer.specs.inner.Marks.{number_if}

-- ---- counts of faults
risen_before : (a b c : ℕ) → a ≤ b → HasRisen b c → HasRisen a c
risen_before a b c le (inl h) = inl (omega (arith, le, h))
risen_before a b c le (inr h) = inr h

risen_later : (a b c : ℕ) → b ≤ c → HasRisen a b → HasRisen a c
risen_later a b c le (inl h) = inl (omega (arith, le, h))
risen_later a b c le (inr h) = inr (omega (arith, le, h))

pub by_later : (n a b c : ℕ) → b ≤ c → HasRisenBy n a b → HasRisenBy n a c
by_later n a b c le (inl h) = inl (omega (arith, h, le))
by_later n a b c le (inr h) = inr (omega (arith, h, le))

pub by_more : (n more a b c : ℕ) → b ≤ c → HasRisenBy n a b → HasRisenBy more b c → HasRisenBy (n + more) a c
by_more n more a b c le (inl h) (inl i) = inl (omega (arith, h, i))
by_more n more a b c le (inl h) (inr i) = inr i
by_more n more a b c le (inr h) i = inr (omega (arith, h, le))

by_one : (a b : ℕ) → HasRisen a b → HasRisenBy 1 a b
by_one a b (inl h) = inl (omega (arith, h))
by_one a b (inr h) = inr h

by_none : (a b : ℕ) → a ≤ b → HasRisenBy 0 a b
by_none a b le = inl (omega (arith, le))

by_fault : (r : Report) (a b : ℕ) → a ≤ b → (r ≡ report.LinkFault → HasRisen a b) → HasRisenBy (link_fault r) a b
by_fault report.LinkFault a b le risen = by_one a b (risen refl)
by_fault (report.Idle q) a b le risen = by_none a b le
by_fault (report.Full q) a b le risen = by_none a b le
by_fault (report.Published n) a b le risen = by_none a b le
by_fault (report.Confirmed n) a b le risen = by_none a b le
by_fault (report.Refused fault) a b le risen = by_none a b le
by_fault (report.PolicyRefused standing) a b le risen = by_none a b le
by_fault (report.Stale n) a b le risen = by_none a b le
by_fault (report.NotInFlight absent) a b le risen = by_none a b le
by_fault report.LogFault a b le risen = by_none a b le
by_fault report.OutOfMemory a b le risen = by_none a b le

-- ---- lists of dials that follow one another
pub links_join : (ds es : List Dial) → links_in (ds ++ es) ≡ links_in ds ++ links_in es
links_join [] es = refl
links_join (d ∷ ds) es = ap (λ l. links_of d.link ++ l) (links_join ds es)
    ∙ sym (append_assoc (links_of d.link) (links_in ds) (links_in es))

pub endings_join : (ds es : List Dial) → endings_in (ds ++ es) ≡ endings_in ds ++ endings_in es
endings_join [] es = refl
endings_join (d ∷ ds) es = ap (λ l. option_to_list d.ending ++ l) (endings_join ds es)
    ∙ sym (append_assoc (option_to_list d.ending) (endings_in ds) (endings_in es))

pub sum_join : (number : Report → ℕ) (ds es : List Dial)
    → sum_of number (ds ++ es) ≡ sum_of number ds + sum_of number es
sum_join number [] es = omega arith
sum_join number (d ∷ ds) es = let r = sum_join number ds es in omega (arith, r)

pub counts_more : (sum more before now : ℕ) → Counts sum before → Counts (before + more) now → Counts (sum + more) now
counts_more sum more before now (inl c) (inl d) = inl (omega (arith, c.0, d.0), omega (arith, c.0, d.1))
counts_more sum more before now (inl c) (inr d) = inr (d.0, omega (arith, c.0, d.1))
counts_more sum more before now (inr c) (inl d) = inr (omega (arith, c.0, d.0, d.1), omega (arith, c.1))
counts_more sum more before now (inr c) (inr d) = inr (d.0, omega (arith, c.1))

-- ---- what was served
must_weaker : {P Q : Dialled → Type 0} (link : Option Dialled) → ((l : Dialled) → P l → Q l) → Must link P
    → Must link Q
must_weaker None f m = m
must_weaker (Some l) f m = f l m

module _ (less from : ℕ) (list : List Entry) (le : less ≤ from) (job : JobOf) (ending : Option EndingOf) where
  due_sooner : WasDue job from list → WasDue job less list
  unfolding WasDue
  due_sooner d = (d.0, omega (arith, le, d.1), d.2, d.3)

  taken_sooner : (r : Report) (n : ℕ) (l : Dialled) → IsTaken r n job l ending from list
      → IsTaken r n job l ending less list
  taken_sooner r n l t = record { settled = t.settled; late = omega (arith, le, t.late); entry = t.entry }

  worked_sooner : (r : Report) (link : Option Dialled) → IsWorked r job link ending from list
      → IsWorked r job link ending less list
  worked_sooner (report.Published n) link w = must_weaker link (taken_sooner (report.Published n) n) w
  worked_sooner (report.Confirmed n) link w = must_weaker link (taken_sooner (report.Confirmed n) n) w
  worked_sooner (report.Refused fault) link w = w
  worked_sooner (report.PolicyRefused standing) link w = w
  worked_sooner (report.Stale n) link w = record { late = omega (arith, le, w.late); end = w.end; told = w.told }
  worked_sooner (report.NotInFlight absent) link w = ((omega (arith, le, w.0.0), w.0.1), w.1)
  worked_sooner report.LinkFault link w = w
  worked_sooner report.LogFault link w = w
  worked_sooner report.OutOfMemory link w = w
  worked_sooner (report.Idle q) link w = w
  worked_sooner (report.Full q) link w = w

  pub dial_sooner : (r : Report) (link : Option Dialled) → IsDialFor r job link ending from list
      → IsDialFor r job link ending less list
  dial_sooner r link d = record { due = due_sooner d.due; made = d.made; worked = worked_sooner r link d.worked }

pub work_sooner : (r : Report) (ending : Option EndingOf) (before list later : List Entry)
    (links now : Option (List Dialled)) (faults count : ℕ) → IsPrefix before list
    → HasDialled r ending (length list) later links now faults count
    → HasDialled r ending (length before) later links now faults count
work_sooner r ending before list later links now faults count p w = record {
  job = w.job;
  link = w.link;
  dial = dial_sooner (length before) (length list) later (prefix_length before list p) w.job ending r w.link w.dial;
  gains = w.gains;
  shown = w.shown;
}

served_below : (from : ℕ) (list : List Entry) (ds : List Dial) → IsServed from list ds → from ≤ length list
served_below from list [] s = s
served_below from list (d ∷ ds) s = let rest = served_below d.upto list ds s.1.1 in omega (arith, s.0, rest)

take_prefix : (n : ℕ) (list later : List Entry) → IsPrefix list later → n ≤ length list → take n later ≡ take n list
take_prefix n list later p le = ap (λ l. take n l) (sym p.1) ∙ take-append-le n list p.0 le

pub served_later : (from : ℕ) (list later : List Entry) (ds : List Dial) → IsPrefix list later → IsServed from list ds
    → IsServed from later ds
served_later from list later [] p s = let l = prefix_length list later p in omega (arith, s, l)
served_later from list later (d ∷ ds) p s =
    let le = served_below d.upto list ds s.1.1 in
    (s.0, (rw (take_prefix d.upto list later p le) s.1.0, served_later d.upto list later ds p s.1.1))

pub served_sooner : (less from : ℕ) (list : List Entry) (ds : List Dial) → less ≤ from → IsServed from list ds
    → IsServed less list ds
served_sooner less from list [] le s = omega (arith, le, s)
served_sooner less from list (d ∷ ds) le s =
    (omega (arith, le, s.0), (dial_sooner less from (take d.upto list) le d.job d.ending d.answer d.link s.1.0, s.1.1))

module _ (r : Report) (job : JobOf) (link : Option Dialled) (ending : Option EndingOf) (list later : List Entry)
    (p : IsPrefix list later) (dial : IsDialFor r job link ending (length list) later) where
  served_more : (from : ℕ) (ds : List Dial) → IsServed from list ds → IsServed from later
      (ds ++ record { job = job; link = link; ending = ending; upto = length later; answer = r } ∷ [])
  served_more from [] s =
      let l = prefix_length list later p in (
        omega (arith, s, l),
        (rw (take-length later) (dial_sooner from (length list) later s job ending r link dial), omega arith),
      )
  served_more from (d ∷ ds) s =
      let le = served_below d.upto list ds s.1.1 in
      (s.0, (rw (take_prefix d.upto list later p le) s.1.0, served_more d.upto ds s.1.1))

-- ---- whether the log has failed
pub last_all : (ds : List Dial) → HaveNoLogFault ds → LogFaultIsLast ds
last_all [] none = tt
last_all (d ∷ []) none = tt
last_all (d ∷ e ∷ ds) none = (none.0, last_all (e ∷ ds) none.1)

-- ---- a call: one more dial, or none
module _ (r : Report) (ending : Option EndingOf) (list later : List Entry) (before after : Option (List Dialled))
    (faults now : ℕ) where
  abbrev pub dials_of : (dialed : Bool)
      → IsWork dialed r ending (length list) later before after faults now → List Dial
  dials_of true w = record { job = w.job; link = w.link; ending = ending; upto = length later; answer = r } ∷ []
  dials_of false w = []

  pub gains_of : (dialed : Bool) (w : IsWork dialed r ending (length list) later before after faults now)
      → Gains (links_in (dials_of dialed w)) before after
  gains_of true w = subst (λ links. Gains links before after) (sym (append-nil (links_of w.link))) w.gains
  gains_of false w = subst (λ told. Gains [] before told) (sym w.1.1.0) (gains_none before)

  pub endings_of : (dialed : Bool) (w : IsWork dialed r ending (length list) later before after faults now)
      → option_to_list ending ≡ endings_in (dials_of dialed w)
  endings_of true w = sym (append-nil (option_to_list ending))
  endings_of false w = ap (λ o. option_to_list o) w.1.0

  pub number_of : (number : Report → ℕ) (dialed : Bool) (w : IsWork dialed r ending
      (length list) later before after faults now) → number_if dialed (number r) ≡ sum_of number (dials_of dialed w)
  number_of number true w = omega arith
  number_of number false w = refl

  pub faults_of : faults ≤ now → (r ≡ report.LinkFault → HasRisen faults now)
      → (dialed : Bool) (w : IsWork dialed r ending (length list) later before after faults now)
      → HasRisenBy (link_faults (dials_of dialed w)) faults now
  faults_of le risen true w = subst (λ n. HasRisenBy n faults now)
      (let e : link_fault r ≡ link_fault r + 0 = omega arith in e) (by_fault r faults now le risen)
  faults_of le risen false w = by_none faults now le

  pub served_of : (from : ℕ) (ds : List Dial) → IsPrefix list later → IsServed from list ds
      → (dialed : Bool) (w : IsWork dialed r ending (length list) later before after faults now)
      → IsServed from later (ds ++ dials_of dialed w)
  served_of from ds p s true w = served_more r w.job w.link ending list later p w.dial from ds s
  served_of from ds p s false w =
      subst (λ es. IsServed from later es) (sym (append-nil ds)) (served_later from list later ds p s)

  -- whether the log has failed
  last_more : (ds : List Dial) (d : Dial) → HaveNoLogFault ds → LogFaultIsLast (ds ++ d ∷ [])
  last_more [] d none = tt
  last_more (e ∷ []) d none = (none.0, tt)
  last_more (e ∷ f ∷ ds) d none = (none.0, last_more (f ∷ ds) d none.1)

  pub last_of : (ds : List Dial) → HaveNoLogFault ds
      → (dialed : Bool) (w : IsWork dialed r ending (length list) later before after faults now)
      → LogFaultIsLast (ds ++ dials_of dialed w)
  last_of ds none true w =
      last_more ds (record { job = w.job; link = w.link; ending = ending; upto = length later; answer = r }) none
  last_of ds none false w = subst (λ es. LogFaultIsLast es) (sym (append-nil ds)) (last_all ds none)

  none_more : (ds : List Dial) (d : Dial) → (d.answer ≡ report.LogFault → ⊥) → HaveNoLogFault ds
      → HaveNoLogFault (ds ++ d ∷ [])
  none_more [] d other none = (other, tt)
  none_more (e ∷ ds) d other none = (none.0, none_more ds d other none.1)

  pub none_of : (ds : List Dial) → (r ≡ report.LogFault → ⊥) → HaveNoLogFault ds
      → (dialed : Bool) (w : IsWork dialed r ending (length list) later before after faults now)
      → HaveNoLogFault (ds ++ dials_of dialed w)
  none_of ds other none true w =
      none_more ds (record { job = w.job; link = w.link; ending = ending; upto = length later; answer = r }) other none
  none_of ds other none false w = subst (λ es. HaveNoLogFault es) (sym (append-nil ds)) none

  -- whether a dial shows
  one_more : (ds : List Dial) (d : Dial) (l : Dialled) → d.link ≡ Some l → 0 < length (links_in (ds ++ d ∷ []))
  one_more ds d l is =
      let links : links_in (ds ++ d ∷ []) ≡ links_in ds ++ l ∷ [] =
      links_join ds (d ∷ []) ∙ ap (λ o. links_in ds ++ (links_of o ++ [])) is in
      let some : 0 < length (links_in ds ++ l ∷ []) = omega (arith, length-append (links_in ds) (l ∷ [])) in
      subst (λ ls. 0 < length ls) (sym links) some

  shows_link : (dialed : Bool) (ds : List Dial) (d : Dial) (a : ℕ) (l : Dialled) → d.link ≡ Some l
      → DialsShow (dialed || true) (ds ++ d ∷ []) a now
  shows_link true ds d a l is = inl (one_more ds d l is)
  shows_link false ds d a l is = inl (one_more ds d l is)

  shows_risen : (dialed : Bool) (ds : List Dial) (a : ℕ) → HasRisen a now → DialsShow (dialed || true) ds a now
  shows_risen true ds a h = inr h
  shows_risen false ds a h = inr h

  shows_none : (dialed : Bool) (ds : List Dial) (a : ℕ) → faults ≤ now → now ≡ faults → DialsShow dialed ds a faults
      → DialsShow (dialed || false) ds a now
  shows_none true ds a le is (inl h) = inl h
  shows_none true ds a le is (inr h) = inr (risen_later a faults now le h)
  shows_none false ds a le is s = (s.0, is ∙ s.1)

  shows_dial : (dialed : Bool) (ds : List Dial) (d : Dial) (a : ℕ) (link : Option Dialled) → d.link ≡ link → a ≤ faults
      → ShowsDial link faults now → DialsShow (dialed || true) (ds ++ d ∷ []) a now
  shows_dial dialed ds d a (Some l) is lo s = shows_link dialed ds d a l is
  shows_dial dialed ds d a None is lo s = shows_risen dialed (ds ++ d ∷ []) a (risen_before a faults now lo s)

  pub shows_of : (was : Bool) (ds : List Dial) (a : ℕ) → a ≤ faults → faults ≤ now → DialsShow was ds a faults
      → (dialed : Bool) (w : IsWork dialed r ending (length list) later before after faults now)
      → DialsShow (was || dialed) (ds ++ dials_of dialed w) a now
  shows_of was ds a lo le s true w =
      shows_dial was ds (record { job = w.job; link = w.link; ending = ending; upto = length later; answer = r }) a
      w.link refl lo w.shown
  shows_of was ds a lo le s false w =
      subst (λ es. DialsShow (was || false) es a now) (sym (append-nil ds)) (shows_none was ds a le w.1.1.1 s)
