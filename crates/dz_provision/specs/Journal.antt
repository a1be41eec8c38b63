-- Meaning: what the log says of the list of taken transfers.
use Rattle.std.specs.Prelude.{List, [], ◌∷◌, ◌++◌, Some}
use Rattle.dz_name.specs.Words.{Name, Octets}
use Rattle.dz_take.specs.Transfer.{Decision, up_to_date, new, refused}
use Rattle.dz_history.specs.declared.entry.Entry.{Entry}
use Rattle.dz_history.specs.declared.entry.Entry.TheVariants.{Setup, Transfer}
use Rattle.dz_history.specs.State.{State, nothing, held_at}
use Rattle.dz_history.specs.After.{step, decision_of, aftermath_of}
use Rattle.dz_job.specs.declared.verdict.Verdict.{Verdict}
use Rattle.dz_job.specs.declared.verdict.Verdict.TheVariants.{Published, Confirmed, Refused}
use Rattle.dz_job.specs.Job.{serial_in}
use Rattle.dz_report.specs.Lines.{verdict_lines}

-- the verdict by which a transfer joined the list, by what came of it; a refused one joins no list
abbrev pub verdict_at : State → Name → Decision → Verdict
verdict_at s zone up_to_date = Confirmed s.count (serial_in (held_at s zone))
verdict_at s zone (new version) = Published s.count (serial_in (Some version)) (aftermath_of s zone (new version))
verdict_at s zone (refused fault) = Refused fault

-- the lines of an entry, as one text; there are none of the configuration
unfoldable pub entry_lines : State → Entry → List Octets
entry_lines s (Setup config) = []
entry_lines s (Transfer t) = verdict_lines t.zone (verdict_at s t.zone (decision_of s t)) ∷ []

-- the texts of entries, from a state on
unfoldable pub journal_from : State → List Entry → List Octets
journal_from s [] = []
journal_from s (e ∷ es) = entry_lines s e ++ journal_from (step s e) es

-- the texts of all entries, in their order
abbrev pub journal : List Entry → List Octets
journal list = journal_from nothing list
