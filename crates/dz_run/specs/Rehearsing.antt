-- Meaning: what `rehearse` writes: a summary of what `replay` writes of the generated script.
use Rattle.std.specs.Prelude.{◌≡◌, ◌<◌, ◌≤◌, ℕ, [], Option}
use Rattle.dz_io.specs.Device.{Gains, GainsPrefix}
use Rattle.dz_script.specs.Run.{said_of, GoesToTheEnd}
use Rattle.dz_gen.specs.Script.{script}
use Rattle.dz_gen.specs.Summary.{summary}
use Rattle.dz_name.specs.Words.{Octets}
use Rattle.dz_run.specs.Replaying.{opening, replay_rules}
use Rattle.dz_run.specs.declared.answering.End.TheVariants as ended
use Rattle.dz_run.specs.declared.status.Status.{Status}
use Rattle.dz_run.specs.declared.status.Status.TheVariants.{Done, WriteFault, NoMemory}

-- what `replay` writes of the script with this many zones
abbrev pub text_of : ℕ → Octets
text_of number = (said_of replay_rules (opening []) (script number)).text

-- the summary of a text was written, or a write failed after a prefix of it, or memory ran out and nothing was written
abbrev pub SumsUp : Octets → Status → Option Octets → Option Octets → Type 0
SumsUp text Done before after = Gains (summary text) before after
SumsUp text WriteFault before after = GainsPrefix (summary text) before after
SumsUp text status before after = (status ≡ NoMemory) × (after ≡ before)

-- `rehearse` summed up the text of the script with this many zones
abbrev pub Rehearses : ℕ → Status → Option Octets → Option Octets → Type 0
Rehearses number status before after = SumsUp (text_of number) status before after

-- no line of the script ends it, and so it is done at its end
pub record GoesOn (n : ℕ) : Type 0 where
  pub whole : 0 < n → n ≤ 1000 → GoesToTheEnd replay_rules (opening []) (script n)
  pub done : 0 < n → n ≤ 1000 → (said_of replay_rules (opening []) (script n)).ending ≡ ended.Done
