-- Meaning: what can happen to a core, one event after the other.
use Rattle.std.specs.Prelude.{⊤, ◌≡◌, ◌⊎◌, ℕ, ◌<◌, ◌^◌, Bool, true, false, List, [], ◌∷◌, ◌++◌, length, fold}
use Rattle.dz_name.specs.Words.{Name, Octets}
use Rattle.dz_io.specs.declared.peer.Peer.{Peer}
use Rattle.dz_settings.specs.declared.config.CatalogSettings.{CatalogSettings}
use Rattle.dz_settings.specs.Config.{IsAllowed}
use Rattle.dz_notify.specs.declared.notify.Heard.{Heard}
use Rattle.dz_history.specs.declared.entry.Entry.{Entry}
use Rattle.dz_history.specs.Legal.{IsLegal}
use Rattle.dz_take.specs.Outcome.{octets_used}
use Rattle.dz_job.specs.Job.{JobOf, transfer_for}
use Rattle.dz_job.specs.declared.verdict.Verdict.{Verdict}
use Rattle.dz_fleet.specs.declared.due.Due.{Due}
use Rattle.dz_fleet.specs.Core.{Core, opened_core, due_of, after_due, settled, failed_core, heard_of, after_notify}
use Rattle.dz_fleet.specs.Answers.{IsDue, IsOffered}
use Rattle.dz_fleet.specs.Sound.{IsSound, IsFlying}

-- an event, some at a moment in seconds: a job is asked for, with memory for it or without; it ends with these octets;
-- memory runs out for what it brought; it fails; or a NOTIFY of a zone comes
pub data Event : Type 0 where
  asked : ℕ → Bool → Event
  ended : JobOf → Octets → ℕ → Event
  starved : JobOf → ℕ → Event
  failed : JobOf → ℕ → Event
  notified : Peer → Name → Event

-- the core after an event
abbrev pub next : Core → Event → Core
next c (asked now true) = after_due c (due_of c now)
next c (asked now false) = c
next c (ended job octets now) = settled c job octets now
next c (starved job now) = failed_core c job now
next c (failed job now) = failed_core c job now
next c (notified peer zone) = after_notify c zone (heard_of c peer zone)

-- a job that ends is this core's, all octets of its transfer are used, and moments are below 2^40
abbrev pub CanHappen : Core → Event → Type 0
CanHappen c (asked now memory) = now < 2 ^ 40
CanHappen c (ended job octets now) =
    IsFlying c job × ((octets_used (transfer_for job) octets ≡ length octets) × (now < 2 ^ 40))
CanHappen c (starved job now) = IsFlying c job × (now < 2 ^ 40)
CanHappen c (failed job now) = IsFlying c job × (now < 2 ^ 40)
CanHappen c (notified peer zone) = ⊤

-- the core after events, one after the other
abbrev pub after_events : Core → List Event → Core
after_events c events = fold next c events

-- each of the events can happen after those before it
unfoldable pub CanHappenInTurn : Core → List Event → Type 0
CanHappenInTurn c [] = ⊤
CanHappenInTurn c (event ∷ events) = CanHappen c event × CanHappenInTurn (next c event) events

-- a list that begins another one
abbrev pub IsFrontOf : List Entry → List Entry → Type 0
IsFrontOf front list = (more : List Entry) × (list ≡ front ++ more)

-- whatever happens, the list of taken transfers only grows
abbrev pub ListOnlyGrows : Type 0
ListOnlyGrows = (c : Core) (events more : List Event)
    → IsFrontOf (after_events c events).list (after_events c (events ++ more)).list

-- a property holds of the core of every allowed configuration, and stays so whatever can happen
abbrev pub Stays : (Core → Type 0) → Type 0
Stays holds = (config : List CatalogSettings) (events : List Event) → IsAllowed config
    → CanHappenInTurn (opened_core config) events
    → holds (after_events (opened_core config) events)

-- the list stays legal
abbrev pub ListStaysLegal : Type 0
ListStaysLegal = Stays (λ c. IsLegal c.list)

-- the core stays sound
abbrev pub CoreStaysSound : Type 0
CoreStaysSound = Stays IsSound

-- each call leaves the core after an event: what `due`, `offer` and `notify` ensure says so, and what `settle` and
-- `fail` ensure is that event
pub record CallsAreEvents : Type 0 where
  pub due : (c : Core) (now : ℕ) (answer : Due) (d : Core) → IsDue c now answer d
      → (memory : Bool) × (d ≡ next c (asked now memory))
  pub offer : (c : Core) (job : JobOf) (octets : Octets) (now : ℕ) (verdict : Verdict) (d : Core)
      → IsOffered c job octets now verdict d
      → (d ≡ next c (ended job octets now)) ⊎ (d ≡ next c (starved job now))
  pub notify : (c : Core) (peer : Peer) (zone : Name) (h : Heard) (d : Core) → h ≡ heard_of c peer zone
      → d ≡ after_notify c zone h
      → d ≡ next c (notified peer zone)
