-- A transfer that is taken: its entry makes the list legal, its table is the list's, and its lines are the entry's.
use Rattle.std.proofs.Common.{◌≡◌, ℕ, Bool, true, false, List, [], ◌∷◌, ◌++◌, length, Option, None, Some, refl, sym}
use Rattle.std.proofs.Common.{ap, ◌∙◌, subst, append_assoc}
use Rattle.std.specs.Prelude.{fold, if◌then◌else◌}
use Rattle.std.specs.Option.{option_map}
use Rattle.std.proofs.lemmas.List.{append-nil}
use Rattle.dz_name.specs.Words.{Name, Octets}
use Rattle.dz_zone.specs.Version.{Zone}
use Rattle.dz_take.specs.Outcome.{outcome, octets_used}
use Rattle.dz_take.specs.Transfer.{Decision, up_to_date, new, refused}
use Rattle.dz_table.specs.Slot.{SlotOf}
use Rattle.dz_history.specs.declared.entry.Entry.{Entry}
use Rattle.dz_history.specs.State.{State, nothing, held_at, policy_at}
use Rattle.dz_history.specs.After.{step, after}
use Rattle.dz_history.specs.Legal.{CanFollow, IsLegal}
use Rattle.dz_history.proofs.ListLemmas.{after_more, legal_more, count_is}
use Rattle.dz_job.specs.declared.verdict.Verdict.{Verdict}
use Rattle.dz_job.specs.declared.verdict.Verdict.TheVariants.{Published, Confirmed, Refused, PolicyRefused, Stale}
use Rattle.dz_job.specs.declared.verdict.Verdict.TheVariants.{OutOfMemory}
use Rattle.dz_job.specs.Job.{JobOf, IsJob, transfer_for}
use Rattle.dz_report.specs.Lines.{verdict_lines}
use Rattle.dz_notify.specs.declared.notify.Heard.{Heard}
use Rattle.dz_notify.specs.declared.notify.Heard.TheVariants as heard
use Rattle.dz_fleet.specs.declared.due.Due.{Due}
use Rattle.dz_fleet.specs.declared.due.Due.TheVariants as due
use Rattle.dz_fleet.specs.Core.{Core, state_of, ended_of, entry_for, verdict_of, verdict_from, is_accepted}
use Rattle.dz_fleet.specs.Core.{is_old_serial, screened, tsig_of, settled, after_success, after_verdict, after_end}
use Rattle.dz_fleet.specs.Core.{after_failure, after_refusal, failed_core, after_notify}
use Rattle.dz_fleet.specs.Answers.{IsDue, IsOffered}
use Rattle.dz_fleet.specs.Sound.{IsSound, IsFlying}
use Rattle.dz_fleet.specs.Weighing.{Weighing, Renewed, Fits, octets_in, is_taken, renewed_for}
use Rattle.dz_fleet.proofs.TakeLemmas.{tells, follows, decision_is}
use Rattle.dz_fleet.proofs.SoundLemmas.{among_stands}
use Rattle.dz_fleet.proofs.SettleLemmas.{settled_by}
use Rattle.dz_provision.specs.Log.{settled_lines}
use Rattle.dz_provision.specs.Log as asides
use Rattle.dz_provision.proofs.LogLemmas.{Joins, joins_aside}
use Rattle.dz_provision.specs.Journal.{verdict_at, entry_lines, journal_from, journal}

-- ---- one more entry
journal_onward : (s : State) (es : List Entry) (e : Entry)
    → journal_from s (es ++ e ∷ []) ≡ journal_from s es ++ entry_lines (fold step s es) e
unfolding journal_from
journal_onward s [] e = append-nil (entry_lines s e)
journal_onward s (x ∷ es) e = rw (journal_onward (step s x) es e)
    (sym (append_assoc (entry_lines s x) (journal_from (step s x) es) (entry_lines (fold step (step s x) es) e)))

journal_more : (es : List Entry) (e : Entry) → journal (es ++ e ∷ []) ≡ journal es ++ entry_lines (after es) e
journal_more es e = journal_onward nothing es e

-- ---- what there is after a transfer that is taken
renewed_table : (c : Core) (job : JobOf) (octets : Octets) (v : Verdict) → is_taken v ≡ true
    → option_map (λ (r : Renewed). r.state.table) (renewed_for c job octets v)
    ≡ Some (step (state_of c) (entry_for job octets)).table
renewed_table c job octets (Published position serial aftermath) takes = refl
renewed_table c job octets (Confirmed position serial) takes = refl
renewed_table c job octets (Refused fault) takes = absurd (cc takes)
renewed_table c job octets (PolicyRefused digest) takes = absurd (cc takes)
renewed_table c job octets (Stale position) takes = absurd (cc takes)
renewed_table c job octets OutOfMemory takes = absurd (cc takes)

-- the list afterwards
pub list_after : (c : Core) (job : JobOf) (octets : Octets) (now : ℕ) (v : Verdict) → is_taken v ≡ true
    → (after_verdict c job octets now v).list ≡ c.list ++ entry_for job octets ∷ []
unfolding after_success
list_after c job octets now (Published position serial aftermath) takes = refl
list_after c job octets now (Confirmed position serial) takes = refl
list_after c job octets now (Refused fault) takes = absurd (cc takes)
list_after c job octets now (PolicyRefused digest) takes = absurd (cc takes)
list_after c job octets now (Stale position) takes = absurd (cc takes)
list_after c job octets now OutOfMemory takes = absurd (cc takes)

list_failure : (c : Core) (job : JobOf) (now : ℕ) (o : Option ℕ) → (after_end c job now o).list ≡ c.list
list_failure c job now None = refl
list_failure c job now (Some n) = refl

list_refused : (c : Core) (job : JobOf) (now : ℕ) (b : Bool)
    → (if b then after_failure c job now else after_refusal c job now).list ≡ c.list
list_refused c job now true = refl
list_refused c job now false = refl

list_same : (c : Core) (job : JobOf) (octets : Octets) (now : ℕ) (v : Verdict) → is_taken v ≡ false
    → (after_verdict c job octets now v).list ≡ c.list
list_same c job octets now (Published position serial aftermath) none = absurd (cc none)
list_same c job octets now (Confirmed position serial) none = absurd (cc none)
list_same c job octets now (Refused fault) none = list_refused c job now (is_old_serial fault)
list_same c job octets now (PolicyRefused digest) none = refl
list_same c job octets now (Stale position) none = refl
list_same c job octets now OutOfMemory none = list_failure c job now (ended_of c job)

-- ---- the entry of a transfer that is taken
accepted_lines : (c : Core) (job : JobOf) (zone : Zone) (b : Bool)
    → is_accepted (policy_at (state_of c) job.flight.zone) zone ≡ b → (state_of c).count ≡ length c.list
    → is_taken (verdict_from c job (new zone) None) ≡ true
    → verdict_from c job (new zone) None ≡ verdict_at (state_of c) job.flight.zone (new zone)
accepted_lines c job zone true e count takes = rw (e, count) refl
accepted_lines c job zone false e count takes =
    let h : is_taken (verdict_from c job (new zone) None) ≡ false = rw e refl in
    absurd (cc (takes, h))

verdict_from_is : (c : Core) (job : JobOf) (d : Decision) → (state_of c).count ≡ length c.list
    → job.held ≡ held_at (state_of c) job.flight.zone → is_taken (verdict_from c job d None) ≡ true
    → verdict_from c job d None ≡ verdict_at (state_of c) job.flight.zone d
verdict_from_is c job up_to_date count held takes = rw (count, held) refl
verdict_from_is c job (refused fault) count held takes = absurd (cc takes)
verdict_from_is c job (new zone) count held takes =
    accepted_lines c job zone (is_accepted (policy_at (state_of c) job.flight.zone) zone) refl count takes

module _ (c : Core) (job : JobOf) (ok : IsSound c) (fly : IsFlying c job) (octets : Octets)
    (takes : is_taken (verdict_of c job octets) ≡ true) where
  standing : ended_of c job ≡ None
  standing = (tells c job octets).standing (λ n is. absurd (cc (takes, is)))

  same_version : job.held ≡ held_at (state_of c) job.flight.zone
  same_version = fly.held (among_stands c job ok fly.there standing)

  signed : tsig_of c job octets ≡ None
  signed = ((tells c job octets).approved takes).signed

  lines_are : entry_lines (state_of c) (entry_for job octets)
      ≡ verdict_lines job.flight.zone (verdict_of c job octets) ∷ []
  unfolding entry_lines verdict_of
  lines_are =
      let s = state_of c in
      let d = outcome (transfer_for job) octets in
      let v : verdict_of c job octets ≡ verdict_from c job d None =
      ap (λ o. verdict_from c job (screened (tsig_of c job octets) d) o) standing
      ∙ ap (λ t. verdict_from c job (screened t d) None) signed in
      let made : verdict_from c job d None ≡ verdict_at s job.flight.zone d =
      verdict_from_is c job d (count_is c.list ok.legal) same_version (rw v at takes) in
      ap (λ v. verdict_lines job.flight.zone v ∷ [])
      (ap (verdict_at s job.flight.zone) (decision_is s job octets same_version) ∙ sym (v ∙ made))

  entry_follows : IsJob job → octets_used (transfer_for job) octets ≡ length octets
      → CanFollow (state_of c) (entry_for job octets)
  entry_follows valid used = follows c job octets ok fly valid standing used ((tells c job octets).approved takes)

-- ---- what was weighed and is taken
module _ (c : Core) (job : JobOf) (w : Weighing) (ok : IsSound c) (fly : IsFlying c job) (fits : Fits c job w)
    (takes : is_taken w.verdict ≡ true) where
  takes_so : is_taken (verdict_of c job (octets_in w.entry)) ≡ true
  takes_so = rw fits.verdict at takes

  pub weighed_legal : IsJob job → IsLegal (c.list ++ w.entry ∷ [])
  weighed_legal valid = legal_more c.list w.entry ok.legal (subst (CanFollow (state_of c)) (sym fits.entry)
      (entry_follows c job ok fly (octets_in w.entry) takes_so valid fits.used))

  pub weighed_table : (table : List SlotOf) → option_map (λ (r : Renewed). r.state.table) w.renewed ≡ Some table
      → table ≡ (after (c.list ++ w.entry ∷ [])).table
  weighed_table table is =
      let made : w.renewed ≡ renewed_for c job (octets_in w.entry) w.verdict = fits.renewed in
      let here : option_map (λ (r : Renewed). r.state.table) (renewed_for c job (octets_in w.entry) w.verdict)
      ≡ Some (step (state_of c) (entry_for job (octets_in w.entry))).table =
      renewed_table c job (octets_in w.entry) w.verdict takes in
      let both : Some table ≡ Some (step (state_of c) (entry_for job (octets_in w.entry))).table =
      sym is ∙ (ap (option_map (λ (r : Renewed). r.state.table)) made ∙ here) in
      let one : table ≡ (step (state_of c) (entry_for job (octets_in w.entry))).table = cc both in
      one ∙ (ap (λ e. (step (state_of c) e).table) (sym fits.entry)
      ∙ ap (λ (s : State). s.table) (sym (after_more c.list w.entry)))

  pub weighed_lines : journal (c.list ++ w.entry ∷ []) ≡ journal c.list ++ verdict_lines job.flight.zone w.verdict ∷ []
  weighed_lines =
      journal_more c.list w.entry
      ∙ ap (λ l. journal c.list ++ l) (ap (entry_lines (state_of c)) fits.entry ∙ (lines_are c job ok fly
      (octets_in w.entry) takes_so ∙ ap (λ v. verdict_lines job.flight.zone v ∷ []) (sym fits.verdict)))

  pub settled_list : (now : ℕ) → (settled c job (octets_in w.entry) now).list ≡ c.list ++ w.entry ∷ []
  settled_list now =
      ap (λ (d : Core). d.list)
      (settled_by c job (octets_in w.entry) fits.used now (verdict_of c job (octets_in w.entry)) refl)
      ∙ (list_after c job (octets_in w.entry) now (verdict_of c job (octets_in w.entry)) takes_so
      ∙ ap (λ e. c.list ++ e ∷ []) (sym fits.entry))

-- ---- what isn't taken
pub untaken_list : (c : Core) (job : JobOf) (w : Weighing) (now : ℕ) → Fits c job w → is_taken w.verdict ≡ false
    → (settled c job (octets_in w.entry) now).list ≡ c.list
untaken_list c job w now fits none =
    ap (λ (d : Core). d.list)
    (settled_by c job (octets_in w.entry) fits.used now (verdict_of c job (octets_in w.entry)) refl)
    ∙ list_same c job (octets_in w.entry) now (verdict_of c job (octets_in w.entry)) (rw fits.verdict at none)

pub failed_list : (c : Core) (job : JobOf) (now : ℕ) → (failed_core c job now).list ≡ c.list
failed_list c job now = list_failure c job now (ended_of c job)

pub due_list : (c : Core) (now : ℕ) (answer : Due) (d : Core) → IsDue c now answer d → d.list ≡ c.list
due_list c now (due.Job job) d is = ap (λ (x : Core). x.list) is.1
due_list c now (due.Idle quiet) d is = ap (λ (x : Core). x.list) is.1
due_list c now (due.Full quiet) d is = ap (λ (x : Core). x.list) is.1
due_list c now due.OutOfMemory d is = ap (λ (x : Core). x.list) is

pub notified_list : (c : Core) (zone : Name) (how : Heard) → (after_notify c zone how).list ≡ c.list
notified_list c zone heard.Taken = refl
notified_list c zone heard.Stranger = refl
notified_list c zone heard.NotOurs = refl

-- ---- the lines of what isn't taken
pub untaken_joins : (c : Core) (job : JobOf) (octets : Octets) (v : Verdict) → v ≡ verdict_of c job octets
    → is_taken v ≡ false → Joins c.list (verdict_lines job.flight.zone v) c.list
untaken_joins c job octets (Published position serial aftermath) is none = absurd (cc none)
untaken_joins c job octets (Confirmed position serial) is none = absurd (cc none)
untaken_joins c job octets (Refused fault) is none = joins_aside c.list (asides.refused job.flight.zone fault) refl
untaken_joins c job octets (PolicyRefused digest) is none =
    joins_aside c.list (asides.unapproved job.flight.zone digest) refl
untaken_joins c job octets (Stale position) is none = joins_aside c.list (asides.stale job.flight.zone position) refl
untaken_joins c job octets OutOfMemory is none = absurd ((tells c job octets).memory (sym is))

-- a verdict of a core is none of want of memory, and has its lines
pub settled_lines_of : (c : Core) (job : JobOf) (octets : Octets) (v : Verdict) → v ≡ verdict_of c job octets
    → settled_lines job.flight.zone v ≡ verdict_lines job.flight.zone v
settled_lines_of c job octets (Published position serial aftermath) is = refl
settled_lines_of c job octets (Confirmed position serial) is = refl
settled_lines_of c job octets (Refused fault) is = refl
settled_lines_of c job octets (PolicyRefused digest) is = refl
settled_lines_of c job octets (Stale position) is = refl
settled_lines_of c job octets OutOfMemory is = absurd ((tells c job octets).memory (sym is))

pub offered_of : (c : Core) (job : JobOf) (octets : Octets) (now : ℕ) (v : Verdict) → v ≡ verdict_of c job octets
    → IsOffered c job octets now v (settled c job octets now)
offered_of c job octets now (Published position serial aftermath) is = (is, refl)
offered_of c job octets now (Confirmed position serial) is = (is, refl)
offered_of c job octets now (Refused fault) is = (is, refl)
offered_of c job octets now (PolicyRefused digest) is = (is, refl)
offered_of c job octets now (Stale position) is = (is, refl)
offered_of c job octets now OutOfMemory is = absurd ((tells c job octets).memory (sym is))
