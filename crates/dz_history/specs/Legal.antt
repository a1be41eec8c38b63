-- Meaning: which lists of entries can come about.
use Rattle.std.specs.Prelude.{⊤, ◌≡◌, ◌<◌, ◌^◌, true, List, [], ◌∷◌, length, Option, Some, None}
use Rattle.dz_zonemd.specs.Standing.{standing}
use Rattle.dz_zonemd.specs.Acceptance.{accepts}
use Rattle.dz_settings.specs.declared.config.Policy.{Policy}
use Rattle.dz_settings.specs.Config.{IsAllowed}
use Rattle.dz_take.specs.Transfer.{Decision, up_to_date, new, refused}
use Rattle.dz_take.specs.Outcome.{octets_used}
use Rattle.dz_take.specs.Taken.{CanAsk}
use Rattle.dz_history.specs.declared.entry.Taken.{Taken}
use Rattle.dz_history.specs.declared.entry.Entry.{Entry}
use Rattle.dz_history.specs.declared.entry.Entry.TheVariants.{Setup, Transfer}
use Rattle.dz_history.specs.Signed.{tsig_in}
use Rattle.dz_history.specs.State.{State, nothing, held_at, key_at, policy_at, stands}
use Rattle.dz_history.specs.After.{transfer_of, decision_of, step}

-- a policy accepts what came of a transfer: the version as before, or a new one whose digest it approves (RFC 8976
-- section 4)
abbrev pub IsApproved : Option Policy → Decision → Type 0
IsApproved policy up_to_date = ⊤
IsApproved (Some policy) (new zone) = accepts policy (standing zone.apex zone.records) ≡ true
IsApproved None (new zone) = ⊥
IsApproved policy (refused fault) = ⊥

-- a transfer can be taken: its incarnation is current, differences are from a version that is held, all octets are
-- used, what comes of them is approved, and they are signed where the zone's catalog has a key
pub record IsTakeable (s : State) (t : Taken) : Type 0 where
  pub stands : stands s t.zone t.incarnation ≡ true
  pub asks : CanAsk t.ask (held_at s t.zone)
  pub used : octets_used (transfer_of s t) t.octets ≡ length t.octets
  pub moment : t.moment < 2 ^ 40
  pub approved : IsApproved (policy_at s t.zone) (decision_of s t)
  pub signed : tsig_in (key_at s t.zone) (transfer_of s t) t.octets t.moment ≡ None

-- the first entry is a configuration, and no other is
abbrev pub CanFollow : State → Entry → Type 0
CanFollow s (Setup config) = (s.count ≡ 0) × IsAllowed config
CanFollow s (Transfer t) = (0 < s.count) × IsTakeable s t

-- each of these entries can follow, after this state
unfoldable pub IsLegalFrom : State → List Entry → Type 0
IsLegalFrom s [] = ⊤
IsLegalFrom s (e ∷ es) = CanFollow s e × IsLegalFrom (step s e) es

-- a list of entries that can come about
abbrev pub IsLegal : List Entry → Type 0
IsLegal entries = IsLegalFrom nothing entries
