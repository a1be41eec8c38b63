-- Meaning: what an ear answers to a NOTIFY (RFC 1996 section 3.10).
use Rattle.std.specs.Prelude.{⊤, ◌≡◌, List}
use Rattle.dz_name.specs.Words.{Name}
use Rattle.dz_io.specs.declared.peer.Peer.{Peer}
use Rattle.dz_notify.specs.declared.notify.Heard as notify
use Rattle.dz_history.specs.declared.entry.Entry.{Entry}
use Rattle.dz_history.specs.Heard.{heard_at}
use Rattle.dz_desk.specs.declared.ear.Hearing.{Hearing}
use Rattle.dz_desk.specs.declared.ear.Hearing.TheVariants.{Heard, LogFault}

-- a NOTIFY is answered by the primaries after a list; or the log failed, where it may
abbrev pub IsHeard : {W : Type 0} → Type 0 → List Entry → Peer → Name → Hearing W → Type 0
IsHeard may_fail list peer zone (Heard heard witness) = heard ≡ heard_at list peer zone
IsHeard may_fail list peer zone LogFault = may_fail

-- the witness of one that was heard says so
abbrev pub IsWitnessed : {W : Type 0} → (W → List Entry → Peer → Name → notify.Heard → Type 0) → List Entry → Peer
    → Name → Hearing W → Type 0
IsWitnessed witnesses list peer zone (Heard heard witness) = witnesses witness list peer zone heard
IsWitnessed witnesses list peer zone LogFault = ⊤
