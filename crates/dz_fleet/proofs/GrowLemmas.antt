-- The list of taken transfers only grows, whatever happens.
use Rattle.std.proofs.Common.{◌≡◌, ℕ, Bool, true, false, List, [], ◌∷◌, ◌++◌, refl, sym, ◌∙◌, ap, append_assoc, Some}
use Rattle.std.proofs.Common.{None}
use Rattle.std.specs.Prelude.{Option, if◌then◌else◌}
use Rattle.std.proofs.lemmas.List.{append-nil}
use Rattle.dz_name.specs.Words.{Name, Octets}
use Rattle.dz_notify.specs.declared.notify.Heard.{Heard}
use Rattle.dz_notify.specs.declared.notify.Heard.TheVariants as heard
use Rattle.dz_history.specs.declared.aftermath.Aftermath.{Aftermath}
use Rattle.dz_history.specs.declared.entry.Entry.{Entry}
use Rattle.dz_job.specs.Job.{JobOf}
use Rattle.dz_job.specs.declared.verdict.Verdict.{Verdict}
use Rattle.dz_job.specs.declared.verdict.Verdict.TheVariants.{Published, Confirmed, Refused, PolicyRefused, Stale}
use Rattle.dz_job.specs.declared.verdict.Verdict.TheVariants.{OutOfMemory}
use Rattle.dz_history.specs.declared.aftermath.Aftermath.TheVariants.{Member}
use Rattle.dz_fleet.specs.declared.due.Due.{Due}
use Rattle.dz_fleet.specs.declared.due.Due.TheVariants as due
use Rattle.dz_fleet.specs.Core.{Core, due_of, after_due, ended_of, is_old_serial, entry_for, after_failure}
use Rattle.dz_fleet.specs.Core.{after_refusal, after_success, after_end, used_of, verdict_of, after_verdict, heard_of}
use Rattle.dz_fleet.specs.Core.{after_notify}
use Rattle.dz_fleet.specs.Events.{Event, asked, ended, starved, failed, notified, next, after_events, IsFrontOf}
use Rattle.dz_fleet.specs.Events.{ListOnlyGrows}

-- ---- lists
front_same : (xs ys : List Entry) → ys ≡ xs → IsFrontOf xs ys
front_same xs ys e = ([], e ∙ sym (append-nil xs))

front_more : (xs ys zs : List Entry) → IsFrontOf xs ys → IsFrontOf ys zs → IsFrontOf xs zs
front_more xs ys zs p q = (p.0 ++ q.0, q.1 ∙ (ap (λ (l : List Entry). l ++ q.0) p.1 ∙ append_assoc xs p.0 q.0))

-- ---- one event
due_list : (c : Core) (answer : Due) → (after_due c answer).list ≡ c.list
due_list c (due.Job job) = refl
due_list c (due.Idle quiet) = refl
due_list c (due.Full quiet) = refl
due_list c due.OutOfMemory = refl

end_list : (c : Core) (job : JobOf) (now : ℕ) (o : Option ℕ) → (after_end c job now o).list ≡ c.list
end_list c job now None = refl
end_list c job now (Some position) = refl

refused_list : (c : Core) (job : JobOf) (now : ℕ) (b : Bool)
    → (if b then after_failure c job now else after_refusal c job now).list ≡ c.list
refused_list c job now true = refl
refused_list c job now false = refl

success_list : (c : Core) (job : JobOf) (octets : Octets) (aftermath : Aftermath)
    → IsFrontOf c.list (after_success c job octets aftermath).list
unfolding after_success
success_list c job octets aftermath = (entry_for job octets ∷ [], refl)

verdict_list : (c : Core) (job : JobOf) (octets : Octets) (now : ℕ) (v : Verdict)
    → IsFrontOf c.list (after_verdict c job octets now v).list
verdict_list c job octets now (Published position serial aftermath) = success_list c job octets aftermath
verdict_list c job octets now (Confirmed position serial) = success_list c job octets Member
verdict_list c job octets now (Refused fault) = front_same _ _ (refused_list c job now (is_old_serial fault))
verdict_list c job octets now (PolicyRefused standing) = front_same _ _ refl
verdict_list c job octets now (Stale position) = front_same _ _ refl
verdict_list c job octets now OutOfMemory = front_same _ _ (end_list c job now (ended_of c job))

pub notify_list : (c : Core) (zone : Name) (h : Heard) → (after_notify c zone h).list ≡ c.list
notify_list c zone heard.Taken = refl
notify_list c zone heard.Stranger = refl
notify_list c zone heard.NotOurs = refl

grows_one : (c : Core) (event : Event) → IsFrontOf c.list (next c event).list
grows_one c (asked now true) = front_same _ _ (due_list c (due_of c now))
grows_one c (asked now false) = front_same _ _ refl
grows_one c (ended job octets now) = verdict_list c job (used_of job octets) now (verdict_of c job octets)
grows_one c (starved job now) = front_same _ _ (end_list c job now (ended_of c job))
grows_one c (failed job now) = front_same _ _ (end_list c job now (ended_of c job))
grows_one c (notified peer zone) = front_same _ _ (notify_list c zone (heard_of c peer zone))

-- ---- all events
grows : (c : Core) (events : List Event) → IsFrontOf c.list (after_events c events).list
grows c [] = front_same _ _ refl
grows c (event ∷ events) = front_more c.list (next c event).list _ (grows_one c event) (grows (next c event) events)

pub only_grows : ListOnlyGrows
only_grows c [] more = grows c more
only_grows c (event ∷ events) more = only_grows (next c event) events more
