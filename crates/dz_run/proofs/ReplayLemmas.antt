-- No line of `replay` ends it with Done.
use Rattle.std.proofs.Common.{ℕ, List, [], ◌∷◌, ◌++◌, Option, Some, None}
use Rattle.dz_io.specs.declared.peer.Peer.{Peer}
use Rattle.dz_name.specs.Words.{Name, Octets}
use Rattle.dz_settings.specs.Config.{is_allowed}
use Rattle.dz_settings.specs.declared.config.CatalogSettings.{CatalogSettings}
use Rattle.dz_settings.specs.declared.config.GroupSettings.{GroupSettings}
use Rattle.dz_header.specs.declared.transport.Transport.{Transport}
use Rattle.dz_notify.specs.Notify.{notify_zone_in}
use Rattle.dz_script.specs.Line.{line_of}
use Rattle.dz_script.specs.declared.line.Event.{Event}
use Rattle.dz_script.specs.declared.line.Event.TheVariants.{Job, Take, Fail, Ask}
use Rattle.dz_script.specs.declared.line.Line.{Line}
use Rattle.dz_script.specs.declared.line.Line.TheVariants as lines
use Rattle.dz_job.specs.Job.{JobOf}
use Rattle.dz_fleet.specs.Core.{Core, opened_core}
use Rattle.dz_run.specs.Flight.{job_in}
use Rattle.dz_run.specs.Replaying.{State, opening, running, opened_with, grouped, grouped_with, take_turn, fail_turn}
use Rattle.dz_run.specs.Replaying.{ask_turn, event_turn, event_line, catalog_line, group_line, line_turn, replay_turn}
use Rattle.dz_run.specs.Replaying.{replay_rules}
use Rattle.dz_run.proofs.EndLemmas.{IsTurnBefore, EndBefore, either}

opened_before : (config : List CatalogSettings) (number : ℕ) → IsTurnBefore (opened_with config number)
opened_before config number = either IsTurnBefore (is_allowed config) _ _ tt (λ is. cc)

grouped_before : (config : Option (List CatalogSettings)) (number : ℕ) → IsTurnBefore (grouped_with config number)
grouped_before None number = λ is. cc
grouped_before (Some config) number = opened_before config number

take_before : (c : Core) (number moment : ℕ) (octets : Octets) (job : Option JobOf)
    → IsTurnBefore (take_turn c number moment octets job)
take_before c number moment octets None = λ is. cc
take_before c number moment octets (Some job) = tt

fail_before : (c : Core) (number moment : ℕ) (job : Option JobOf) → IsTurnBefore (fail_turn c number moment job)
fail_before c number moment None = λ is. cc
fail_before c number moment (Some job) = tt

ask_before : (c : Core) (moment : ℕ) (transport : Transport) (peer : Peer) (request : Octets) (zone : Option Name)
    → IsTurnBefore (ask_turn c moment transport peer request zone)
ask_before c moment transport peer request None = tt
ask_before c moment transport peer request (Some zone) = tt

event_before : (c : Core) (number moment : ℕ) (event : Event) → IsTurnBefore (event_turn c number moment event)
unfolding event_turn
event_before c number moment Job = tt
event_before c number moment (Take ticket octets) = take_before c number moment octets (job_in c.flight ticket)
event_before c number moment (Fail ticket) = fail_before c number moment (job_in c.flight ticket)
event_before c number moment (Ask transport peer request) =
    ask_before c moment transport peer request (notify_zone_in request)

event_line_before : (state : State) (number moment : ℕ) (event : Event)
    → IsTurnBefore (event_line state number moment event)
unfolding event_line
event_line_before (opening []) number moment event = λ is. cc
event_line_before (opening (settings ∷ config)) number moment event =
    event_before (opened_core (settings ∷ config)) number moment event
event_line_before (running c) number moment event = event_before c number moment event

catalog_before : (state : State) (number : ℕ) (settings : CatalogSettings)
    → IsTurnBefore (catalog_line state number settings)
catalog_before (opening config) number settings = opened_before (config ++ settings ∷ []) number
catalog_before (running c) number settings = λ is. cc

group_before : (state : State) (number : ℕ) (name : Name) (group : GroupSettings)
    → IsTurnBefore (group_line state number name group)
group_before (opening config) number name group = grouped_before (grouped config name group) number
group_before (running c) number name group = λ is. cc

line_before : (state : State) (number : ℕ) (line : Option Line) → IsTurnBefore (line_turn state number line)
unfolding line_turn
line_before state number None = λ is. cc
line_before state number (Some lines.Skip) = tt
line_before state number (Some (lines.Catalog settings)) = catalog_before state number settings
line_before state number (Some (lines.Group name group)) = group_before state number name group
line_before state number (Some (lines.Event moment event)) = event_line_before state number moment event

turn_before : (state : State) (number : ℕ) (line : Octets) → IsTurnBefore (replay_turn state number line)
unfolding replay_turn
turn_before state number line = line_before state number (line_of line)

pub replay_ends : EndBefore replay_rules
replay_ends = record { turn = turn_before; long = λ state number is. cc }
