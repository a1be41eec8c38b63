-- Meaning: what `replay` writes: a configuration is read, and then each event at its moment makes a step of the core.
use Rattle.std.specs.Prelude.{ℕ, zero, suc, Bool, true, false, List, [], ◌∷◌, ◌++◌, codes, Option, Some, None}
use Rattle.std.specs.Prelude.{option_map, if◌then◌else◌}
use Rattle.std.specs.List.{position}
use mathlib.Core.List.{IsPrefix}
use Rattle.hex.specs.Hex.{encode_lower}
use Rattle.dz_script.specs.Script.{Turn, goes_on, ends, Said, Rules}
use Rattle.dz_io.specs.declared.peer.Peer.{Peer}
use Rattle.dz_name.specs.Name.{same_name}
use Rattle.dz_name.specs.Words.{Name, Octets}
use Rattle.dz_settings.specs.Config.{is_allowed}
use Rattle.dz_settings.specs.declared.config.CatalogSettings.{CatalogSettings}
use Rattle.dz_settings.specs.declared.config.GroupSettings.{GroupSettings}
use Rattle.dz_header.specs.declared.transport.Transport.{Transport}
use Rattle.dz_request.specs.Frame.{is_tcp}
use Rattle.dz_reply.specs.Reply.{Reply, nothing, written, notify, reply_of}
use Rattle.dz_notify.specs.Notify.{notify_zone_in}
use Rattle.dz_notify.specs.Reply.{notify_reply_of}
use Rattle.dz_script.specs.Line.{line_of}
use Rattle.dz_script.specs.declared.line.Event.{Event}
use Rattle.dz_script.specs.declared.line.Event.TheVariants.{Job, Take, Fail, Ask}
use Rattle.dz_script.specs.declared.line.Line.{Line}
use Rattle.dz_script.specs.declared.line.Line.TheVariants as lines
use Rattle.dz_history.specs.declared.entry.Entry.{Entry}
use Rattle.dz_job.specs.Job.{JobOf}
use Rattle.dz_fleet.specs.Core.{Core, state_of, opened_core, due_of, after_due, verdict_of, settled, ended_of}
use Rattle.dz_fleet.specs.Core.{failure_of, failed_core, heard_of, after_notify}
use Rattle.dz_fleet.specs.declared.due.Due.{Due}
use Rattle.dz_fleet.specs.declared.due.Due.TheVariants as due
use Rattle.dz_report.specs.Lines.{job_line, verdict_lines, failure_line, notify_line}
use Rattle.dz_run.specs.Answering.{bad}
use Rattle.dz_run.specs.Flight.{job_in}
use Rattle.dz_run.specs.declared.answering.End.{End}
use Rattle.dz_run.specs.declared.answering.End.TheVariants.{Done, BadInput}

-- the configuration that was read so far, or the core
pub data State : Type 0 where
  opening : List CatalogSettings → State
  running : Core → State

-- the list of taken transfers of a state
abbrev pub list_in : State → List Entry
list_in (opening config) = []
list_in (running c) = c.list

-- the list of one state begins that of another
abbrev pub IsListBefore : State → State → Type 0
IsListBefore a b = IsPrefix (list_in a) (list_in b)

-- no event came yet
abbrev pub is_opening : State → Bool
is_opening (opening config) = true
is_opening (running c) = false

-- the state after a bad line, which ends the script: no configuration is left
abbrev pub left : State → State
left (opening config) = opening []
left (running c) = running c

-- a bad line ends the script
abbrev pub bad_line : State → ℕ → Turn State End
bad_line state number = ends (bad number) (left state) BadInput

-- ---- the configuration
-- with a line more the configuration must be within its limits and name nothing twice; otherwise the line is bad
abbrev pub opened_with : List CatalogSettings → ℕ → Turn State End
opened_with config number = if is_allowed config then goes_on [] (opening config) else bad_line (opening config) number

-- a catalog with one group more
abbrev pub with_group : GroupSettings → CatalogSettings → CatalogSettings
with_group group catalog = record catalog { groups = catalog.groups ++ group ∷ [] }

-- what is at a place is changed
unfoldable pub at_place : (CatalogSettings → CatalogSettings) → ℕ → List CatalogSettings → List CatalogSettings
at_place change place [] = []
at_place change zero (settings ∷ config) = change settings ∷ config
at_place change (suc place) (settings ∷ config) = settings ∷ at_place change place config

-- a group joins its catalog, whose line came before its own
abbrev pub grouped : List CatalogSettings → Name → GroupSettings → Option (List CatalogSettings)
grouped config name group =
    option_map (λ place. at_place (with_group group) place config) (position (λ c. same_name c.name name) config)

-- a catalog joins the others
abbrev pub add_catalog : List CatalogSettings → ℕ → CatalogSettings → Turn State End
add_catalog config number settings = opened_with (config ++ settings ∷ []) number

-- a configuration with a group more; without the group's catalog the line is bad
abbrev pub grouped_with : Option (List CatalogSettings) → ℕ → Turn State End
grouped_with None number = bad_line (opening []) number
grouped_with (Some config) number = opened_with config number

-- a group joins its catalog, or the line is bad
abbrev pub add_group : List CatalogSettings → ℕ → Name → GroupSettings → Turn State End
add_group config number name group = grouped_with (grouped config name group) number

-- ---- events
-- what a job line says
abbrev pub due_text : Due → Octets
due_text (due.Job job) = job_line job
due_text (due.Idle quiet) = codes "job idle\n"
due_text (due.Full quiet) = codes "job full\n"
due_text due.OutOfMemory = []

-- a job is asked for
abbrev pub job_turn : Core → ℕ → Turn State End
job_turn c moment = goes_on (due_text (due_of c moment)) (running (after_due c (due_of c moment)))

-- a job ends with these octets; a ticket that was never handed out, or is spent, makes the line bad
abbrev pub take_turn : Core → ℕ → ℕ → Octets → Option JobOf → Turn State End
take_turn c number moment octets None = bad_line (running c) number
take_turn c number moment octets (Some job) =
    goes_on (verdict_lines job.flight.zone (verdict_of c job octets)) (running (settled c job octets moment))

-- a job fails; such a ticket makes the line bad
abbrev pub fail_turn : Core → ℕ → ℕ → Option JobOf → Turn State End
fail_turn c number moment None = bad_line (running c) number
fail_turn c number moment (Some job) =
    goes_on (failure_line job.flight.zone (failure_of (ended_of c job))) (running (failed_core c job moment))

-- a reply in hex
abbrev pub reply_line : Octets → Octets
reply_line octets = codes "reply " ++ (encode_lower octets ++ (10 ∷ []))

-- a reply, or none
abbrev pub reply_text : Option Octets → Octets
reply_text None = codes "none\n"
reply_text (Some octets) = reply_line octets

-- the reply to a request; a NOTIFY has none here
abbrev pub answer_text : Reply → Octets
answer_text nothing = codes "none\n"
answer_text (written octets) = reply_line octets
answer_text (notify name) = []

-- a request is answered at the whole list so far
abbrev pub query_turn : Core → ℕ → Transport → Octets → Turn State End
query_turn c moment transport request =
    goes_on (answer_text (reply_of (state_of c).table request moment (is_tcp transport))) (running c)

-- a NOTIFY is heard, and has its reply by how it is heard
abbrev pub notify_turn : Core → Peer → Octets → Name → Turn State End
notify_turn c peer request zone =
    let heard = heard_of c peer zone in
    goes_on (notify_line zone heard ++ reply_text (notify_reply_of request heard))
    (running (after_notify c zone heard))

-- a request, as a NOTIFY where it is one (RFC 1996)
abbrev pub ask_turn : Core → ℕ → Transport → Peer → Octets → Option Name → Turn State End
ask_turn c moment transport peer request None = query_turn c moment transport request
ask_turn c moment transport peer request (Some zone) = notify_turn c peer request zone

-- an event, by its kind
abbrev pub event_turn : Core → ℕ → ℕ → Event → Turn State End
event_turn c number moment Job = job_turn c moment
event_turn c number moment (Take ticket octets) = take_turn c number moment octets (job_in c.flight ticket)
event_turn c number moment (Fail ticket) = fail_turn c number moment (job_in c.flight ticket)
event_turn c number moment (Ask transport peer request) =
    ask_turn c moment transport peer request (notify_zone_in request)

-- ---- lines
-- the first event begins with the configuration, which has a catalog
unfoldable pub event_line : State → ℕ → ℕ → Event → Turn State End
event_line (opening []) number moment event = bad_line (opening []) number
event_line (opening (settings ∷ config)) number moment event =
    event_turn (opened_core (settings ∷ config)) number moment event
event_line (running c) number moment event = event_turn c number moment event

-- a `catalog` line adds a catalog; no line of the configuration comes after an event
abbrev pub catalog_line : State → ℕ → CatalogSettings → Turn State End
catalog_line (opening config) number settings = add_catalog config number settings
catalog_line (running c) number settings = bad_line (running c) number

-- a `group` line, likewise
abbrev pub group_line : State → ℕ → Name → GroupSettings → Turn State End
group_line (opening config) number name group = add_group config number name group
group_line (running c) number name group = bad_line (running c) number

-- a line, by its kind; one without a form is bad
abbrev pub line_turn : State → ℕ → Option Line → Turn State End
line_turn state number None = bad_line state number
line_turn state number (Some lines.Skip) = goes_on [] state
line_turn state number (Some (lines.Catalog settings)) = catalog_line state number settings
line_turn state number (Some (lines.Group name group)) = group_line state number name group
line_turn state number (Some (lines.Event moment event)) = event_line state number moment event

-- a line by its octets
abbrev pub replay_turn : State → ℕ → Octets → Turn State End
replay_turn state number line = line_turn state number (line_of line)

-- a line past the limit is bad
abbrev pub replay_too_long : State → ℕ → Said State End
replay_too_long state number = record { text = bad number; state = state; ending = BadInput }

-- a catalog was read
abbrev pub has_catalog : State → Bool
has_catalog (opening []) = false
has_catalog (opening (settings ∷ config)) = true
has_catalog (running c) = true

-- at the end of the input there must be a catalog
unfoldable pub replay_finish : State → ℕ → Said State End
replay_finish (opening []) number = record { text = bad number; state = opening []; ending = BadInput }
replay_finish (opening (settings ∷ config)) number =
    record { text = []; state = opening (settings ∷ config); ending = Done }
replay_finish (running c) number = record { text = []; state = running c; ending = Done }

-- the rules of the script; before the first line nothing was read
abbrev pub replay_rules : Rules State End
replay_rules = record { turn = replay_turn; too_long = replay_too_long; finish = replay_finish }
