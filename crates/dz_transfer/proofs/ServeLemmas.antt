-- The loop of a transfer worker.
use Rattle.std.proofs.Common.{◌≡◌, ℕ, ◌+◌, ◌≤◌, Bool, true, false, List, [], ◌++◌, length, Option, Some}
use Rattle.std.proofs.Common.{None, refl, sym, ap, ◌∙◌, subst, arith, inl}
use Rattle.std.specs.Prelude.{option_to_list, IfSome}
use Rattle.std.specs.List.{All}
use Rattle.std.proofs.lemmas.List.Elements.{All-append, All-nil, All-push}
use mathlib.Core.List.{IsPrefix}
use Rattle.dz_io.specs.Counts.{HasRisen, HasRisenBy}
use Rattle.dz_io.specs.Device.{Gains}
use Rattle.dz_io.specs.Links.{Dialled}
use Rattle.dz_history.specs.declared.entry.Entry.{Entry}
use Rattle.dz_fetch.proofs.GainLemmas.{gains_none, gains_more}
use Rattle.dz_provision.specs.Endings.{EndingOf, EndsAmong, starved_in}
use Rattle.dz_transfer.specs.declared.report.Report.{Report}
use Rattle.dz_transfer.specs.declared.report.Report.TheVariants as report
use Rattle.dz_transfer.specs.declared.serve.Transfers.{Transfers}
use Rattle.dz_transfer.specs.declared.serve.TransferEnd.TheVariants as ends
use Rattle.dz_transfer.specs.declared.work.Worked.{Worked}
use Rattle.dz_transfer.specs.Receipts.{IsWork}
use Rattle.dz_transfer.specs.Serving.{Dial, links_in, endings_in, IsServed, absent_of, starved_of, link_fault, sum_of}
use Rattle.dz_transfer.specs.Serving.{link_faults, Counts, DialsShow, HaveNoLogFault, IsTransfers}
use Rattle.dz_transfer.specs.inner.Marks.{is_log_fault, number_if, IsMore}
use Rattle.dz_transfer.proofs.NotedLemmas.{work_noted}
use Rattle.dz_transfer.proofs.StepLemmas.{by_more, links_join, endings_join, sum_join, counts_more, dials_of, gains_of}
use Rattle.dz_transfer.proofs.StepLemmas.{endings_of, number_of, faults_of, served_of, last_all, last_of, none_of}
use Rattle.dz_transfer.proofs.StepLemmas.{shows_of}

-- what these dials show, whatever the log
pub record HasDone (dials : List Dial) (done : Transfers) (lines : ℕ) (from : ℕ) (list : List Entry)
    (before after : Option (List Dialled)) (faults now : ℕ) : Type 0 where
  pub gains : Gains (links_in dials) before after
  pub served : IsServed from list dials
  pub endings : done.endings ≡ endings_in dials
  pub counted : HasRisenBy (link_faults dials) faults now
  pub absent : Counts (sum_of absent_of dials) done.absent
  pub starved : Counts (sum_of starved_of dials) done.starved
  pub noted : lines ≡ sum_of starved_of dials
  pub shown : DialsShow done.dialed dials faults now

-- what was done while the log has not failed
pub record IsGoing (done : Transfers) (lines : ℕ) (from : ℕ) (list : List Entry)
    (before after : Option (List Dialled)) (faults now : ℕ) : Type 0 where
  pub dials : List Dial
  pub so_far : HasDone dials done lines from list before after faults now
  pub none : HaveNoLogFault dials

pub none_yet : (done : Transfers) (lines : ℕ) (list : List Entry) (links : Option (List Dialled)) (count : ℕ)
    → done.dialed ≡ false → done.absent ≡ 0 → done.starved ≡ 0 → done.endings ≡ [] → lines ≡ 0
    → IsGoing done lines (length list) list links links count count
none_yet done lines list links count dialed absent starved endings noted = record {
  dials = [];
  so_far = record {
    gains = gains_none links;
    served = omega arith;
    endings = endings;
    counted = inl (omega arith);
    absent = inl (absent, omega arith);
    starved = inl (starved, omega arith);
    noted = noted;
    shown = subst (λ d. DialsShow d [] count count) (sym dialed) (refl, refl);
  };
  none = tt;
}

-- a worker that ends without a fault of the log
pub ends_well : (done : Transfers) (lines : ℕ) (from : ℕ) (list : List Entry) (before after : Option (List Dialled))
    (faults now : ℕ) → IsGoing done lines from list before after faults now
    → IsTransfers done lines from list before after faults now
ends_well done lines from list before after faults now g = record {
  dials = g.dials;
  gains = g.so_far.gains;
  served = g.so_far.served;
  endings = g.so_far.endings;
  counted = g.so_far.counted;
  absent = g.so_far.absent;
  starved = g.so_far.starved;
  noted = g.so_far.noted;
  shown = g.so_far.shown;
  last = last_all g.dials g.none;
  stopped = λ is. g.none;
}

module _ (done next : Transfers) (worked : Worked) (more : IsMore done worked next) (from : ℕ)
    (list later : List Entry) (l0 l1 l2 : Option (List Dialled)) (a b c : ℕ) (lo : a ≤ b) (le : b ≤ c)
    (p : IsPrefix list later)
    (risen : worked.report ≡ report.LinkFault → HasRisen b c) (w : IsWork worked.dialed worked.report worked.ending
    (length list) later l1 l2 b c) (lines total : ℕ) (counted : total ≡ lines + starved_in worked.ending)
    (g : IsGoing done lines from list l0 l1 a b) where
  abbrev one : List Dial
  one = dials_of worked.report worked.ending list later l1 l2 b c worked.dialed w

  counts_then : (number : Report → ℕ) (before now : ℕ) → Counts (sum_of number g.dials) before
      → Counts (before + number_if worked.dialed (number worked.report)) now
      → Counts (sum_of number (g.dials ++ one)) now
  counts_then number before now was is =
      let add = number_of worked.report worked.ending list later l1 l2 b c number worked.dialed w in
      subst (λ n. Counts n now) (sym (sum_join number g.dials one)) (counts_more (sum_of number g.dials)
      (sum_of number one) before now was (subst (λ n. Counts (before + n) now) add is))

  noted_then : total ≡ sum_of starved_of (g.dials ++ one)
  noted_then = omega (
    arith,
    counted,
    g.so_far.noted,
    work_noted worked.report worked.ending list later l1 l2 b c worked.dialed w,
    sum_join starved_of g.dials one,
  )

  then_done : HasDone (g.dials ++ one) next total from later l0 l2 a c
  then_done = record {
    gains =
        subst (λ links. Gains links l0 l2) (sym (links_join g.dials one)) (gains_more (links_in g.dials) (links_in one)
        l0 l1 l2 g.so_far.gains (gains_of worked.report worked.ending list later l1 l2 b c worked.dialed w));
    served = served_of worked.report worked.ending list later l1 l2 b c from g.dials p g.so_far.served worked.dialed w;
    endings = more.endings
        ∙ (ap (λ l. l ++ option_to_list worked.ending) g.so_far.endings
        ∙ (ap (λ l. endings_in g.dials ++ l) (endings_of
        worked.report worked.ending list later l1 l2 b c worked.dialed w) ∙ sym (endings_join g.dials one)));
    counted = subst (λ n. HasRisenBy n a c) (sym (sum_join link_fault g.dials one))
        (by_more (link_faults g.dials) (link_faults one) a b c le g.so_far.counted
        (faults_of worked.report worked.ending list later l1 l2 b c le risen worked.dialed w));
    absent = counts_then absent_of done.absent next.absent g.so_far.absent more.absent;
    starved = counts_then starved_of done.starved next.starved g.so_far.starved more.starved;
    noted = noted_then;
    shown = subst (λ d. DialsShow d (g.dials ++ one) a c) (sym more.dialed) (shows_of worked.report worked.ending list
        later l1 l2 b c done.dialed g.dials a lo le g.so_far.shown worked.dialed w);
  }

  pub goes_on : (worked.report ≡ report.LogFault → ⊥) → IsGoing next total from later l0 l2 a c
  goes_on other = record {
    dials = g.dials ++ one;
    so_far = then_done;
    none = none_of worked.report worked.ending list later l1 l2 b c g.dials other g.none worked.dialed w;
  }

  pub comes_to_an_end : (end : Transfers) → end ≡ record next { end = ends.LogFault }
      → IsTransfers end total from later l0 l2 a c
  comes_to_an_end end is = rw is (record {
    dials = g.dials ++ one;
    gains = then_done.gains;
    served = then_done.served;
    endings = then_done.endings;
    counted = then_done.counted;
    absent = then_done.absent;
    starved = then_done.starved;
    noted = then_done.noted;
    shown = then_done.shown;
    last = last_of worked.report worked.ending list later l1 l2 b c g.dials g.none worked.dialed w;
    stopped = λ wrong. absurd (cc wrong);
  })

-- the moments of the ends
pub moments_more : (may : ℕ → Bool) (endings : List EndingOf) (ending : Option EndingOf) → All (EndsAmong may) endings
    → IfSome ending (EndsAmong may) → All (EndsAmong may) (endings ++ option_to_list ending)
moments_more may endings None all at = All-append (EndsAmong may) endings [] all (All-nil (EndsAmong may))
moments_more may endings (Some e) all at = All-push (EndsAmong may) endings e all at

-- a report that is no fault of the log, and one that is
pub not_log_fault : (r : Report) → is_log_fault r ≡ false → r ≡ report.LogFault → ⊥
not_log_fault r is fault = let wrong : true ≡ false = sym (ap is_log_fault fault) ∙ is in cc wrong

pub log_fault : (r : Report) → is_log_fault r ≡ true → r ≡ report.LogFault
log_fault report.LogFault is = refl
log_fault (report.Idle q) is = absurd (cc is)
log_fault (report.Full q) is = absurd (cc is)
log_fault (report.Published n) is = absurd (cc is)
log_fault (report.Confirmed n) is = absurd (cc is)
log_fault (report.Refused fault) is = absurd (cc is)
log_fault (report.PolicyRefused standing) is = absurd (cc is)
log_fault (report.Stale n) is = absurd (cc is)
log_fault (report.NotInFlight absent) is = absurd (cc is)
log_fault report.LinkFault is = absurd (cc is)
log_fault report.OutOfMemory is = absurd (cc is)
