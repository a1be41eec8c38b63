-- Answer: what a worker owes for the links that an acceptor gave it, one after the other.
use Rattle.std.specs.Prelude.{◌≡◌, ℕ, Bool, true, false, List, length, map, Option, IfSome, IsSome}
use Rattle.std.specs.List.{flat_map, list_any, AllByRecursion}
use mathlib.Core.List.{IsPrefix}
use Rattle.dz_name.specs.Words.{Octets}
use Rattle.dz_io.specs.Counts.{HasRisen, HasRisenBy}
use Rattle.dz_io.specs.Device.{Gains, Tells}
use Rattle.dz_io.specs.Links.{Dialled}
use Rattle.dz_history.specs.declared.entry.Entry.{Entry}
use Rattle.dz_query.specs.Served.{Served, requests, moments, framed, AreInTurn}
use Rattle.dz_query.specs.Stream.{requests_in, EndsBy}
use Rattle.dz_query.specs.declared.links.LinksEnd.{LinksEnd}
use Rattle.dz_query.specs.declared.links.LinksEnd.TheVariants as links_end
use Rattle.dz_query.specs.declared.stream.StreamEnd.{StreamEnd}
use Rattle.dz_query.specs.declared.stream.StreamEnd.TheVariants.{Ended, Failed, OutOfMemory}

-- a link that came back, how its session ended, and its requests
pub record Visit : Type 0 where
  pub link : Dialled
  pub ending : StreamEnd
  pub served : List Served

-- the links that came back, in their order
abbrev pub links_of : List Visit → List Dialled
links_of visits = map (λ (v : Visit). v.link) visits

-- the requests of all links, in their order
abbrev pub all_served : List Visit → List Served
all_served visits = flat_map (λ (v : Visit). v.served) visits

-- where it is told, it is this; after a fault, or where memory ran out, a prefix of it
abbrev pub IsWritten : StreamEnd → Octets → Option Octets → Type 0
IsWritten Ended octets told = Tells octets told
IsWritten Failed octets told = IfSome told (λ written. IsPrefix written octets)
IsWritten OutOfMemory octets told = IfSome told (λ written. IsPrefix written octets)

-- the requests are the whole messages that were read, and their replies were written; and nothing was left, or the
-- link's count rose, or it ran out of memory
pub record IsVisit (downstream : List Octets) (list : List Entry) (visit : Visit) : Type 0 where
  pub read : IfSome visit.link.read (λ octets. requests visit.served ≡ requests_in visit.link.peer octets)
  pub written : IsWritten visit.ending (framed downstream list visit.served) visit.link.written
  pub ends : EndsBy visit.ending visit.link.left 0 visit.link.faults

-- a session ran out of memory
abbrev pub has_starved : StreamEnd → Bool
has_starved Ended = false
has_starved Failed = false
has_starved OutOfMemory = true

-- one of these sessions ran out of memory
abbrev pub some_starved : List Visit → Bool
some_starved visits = list_any (λ (v : Visit). has_starved v.ending) visits

-- what the acceptor, the reading and the clock tell: the links that came back, the sights, and the moments
pub record LinksTold : Type 0 where
  pub links : Option (List Dialled)
  pub sights : ℕ
  pub moments : Option (List ℕ)

-- these three as one record
abbrev pub links_told : Option (List Dialled) → ℕ → Option (List ℕ) → LinksTold
links_told links sights moments = record { links = links; sights = sights; moments = moments }

-- these links came back. The requests of all of them are one list, over which the beginnings never shrink. It is known
-- whether one of them ran out of memory
pub record AreVisits (starved : Bool) (downstream : List Octets) (may_fail : Type 0) (may_give : ℕ → Bool) (from : ℕ)
    (list : List Entry) (before now : LinksTold) : Type 0 where
  pub visits : List Visit
  pub links : Gains (links_of visits) before.links now.links
  pub each : AllByRecursion (IsVisit downstream list) visits
  pub turns : AreInTurn may_fail may_give true from list (all_served visits)
  pub given : IsSome now.moments → Gains (moments (all_served visits)) before.moments now.moments
  pub sights : HasRisenBy (length (all_served visits)) before.sights now.sights
  pub starving : starved ≡ some_starved visits

-- whether a session ran out of memory, as the end tells it
abbrev pub starved_at : LinksEnd → Bool
starved_at (links_end.Closed starved unheard) = starved
starved_at (links_end.Failed starved unheard) = starved

-- whether a NOTIFY was not heard, as the end tells it
abbrev pub unheard_at : LinksEnd → Bool
unheard_at (links_end.Closed starved unheard) = unheard
unheard_at (links_end.Failed starved unheard) = unheard

-- closed only where the acceptor said so, and failed only where its count rose
abbrev pub AcceptsUntil : LinksEnd → Bool → ℕ → ℕ → Type 0
AcceptsUntil (links_end.Closed starved unheard) mark before now = mark ≡ true
AcceptsUntil (links_end.Failed starved unheard) mark before now = HasRisen before now
