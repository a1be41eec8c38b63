-- What `replay` shows before and after each step of a line.
use Rattle.std.proofs.Common.{◌≡◌, ℕ, Bool, true, false, List, [], ◌∷◌, ◌++◌, length, refl, sym, ◌∙◌, ap, arith, inl}
use Rattle.std.proofs.Common.{inr, Option, None, Some, Result, Ok, Err}
use Rattle.std.specs.Prelude.{not, ◌==◌, MatchResult, OnErr, option_map}
use Rattle.std.proofs.lemmas.Bool.{eqb-true, cases_Bool}
use Rattle.dz_io.specs.Device.{Gains, GainsPrefix, HasCauseOf}
use Rattle.dz_script.specs.Script.{Turn, goes_on, turn_text, turn_state, DoesTurn, Said, Says}
use Rattle.dz_script.specs.declared.script.TurnError.{TurnError}
use Rattle.dz_script.specs.declared.script.TurnError.TheVariants as stops
use Rattle.dz_name.specs.Words.{Name, Octets}
use Rattle.dz_settings.specs.Config.{is_allowed}
use Rattle.dz_settings.specs.declared.config.CatalogSettings.{CatalogSettings}
use Rattle.dz_settings.specs.declared.config.GroupSettings.{GroupSettings}
use Rattle.dz_script.specs.declared.line.Event.{Event}
use Rattle.dz_script.specs.declared.line.Line.TheVariants as lines
use Rattle.dz_fleet.specs.Core.{Core, opened_core}
use Rattle.dz_desk.specs.Seen.{Book, Published, Viewed}
use Rattle.dz_provision.specs.Held.{Held}
use Rattle.dz_run.specs.Answering.{bad}
use Rattle.dz_run.specs.Phase.{IsPut, IsGrouped, state_in}
use Rattle.dz_run.specs.Replaying.{State, opening, running, IsListBefore, left, bad_line, catalog_line}
use Rattle.dz_run.specs.Replaying.{group_line, grouped, grouped_with, opened_with, event_line, event_turn, line_turn}
use Rattle.dz_run.specs.Replaying.{replay_finish, is_opening}
use Rattle.dz_run.specs.Taken.{IsTaken, CanStart}
use Rattle.dz_run.specs.Kept.{Shown, shown, core_in, written_in, faults_in, IsResting, HasTurned, HasEnded, HasConfig}
use Rattle.dz_run.specs.Kept.{HasRun, IsRunning}
use Rattle.dz_run.specs.declared.ends.Ends.{Ends}
use Rattle.std.specs.declared.snapshot.Snapshot.{Snapshot}
use Rattle.dz_run.specs.declared.stage.Stage.{Stage}
use Rattle.dz_run.specs.declared.stage.Stage.TheVariants as stage
use Rattle.dz_run.specs.declared.answering.End.{End}
use Rattle.dz_run.specs.declared.answering.End.TheVariants.{Done, BadInput}
use Rattle.dz_run.specs.declared.events.Took.{Took}
use Rattle.dz_run.specs.declared.events.Took.TheVariants as took
use Rattle.dz_run.proofs.StepLemmas.{gains_none, prefix_none}
use Rattle.dz_run.proofs.LeadLemmas.{state_same}

-- ---- turns
pub turned_silently : (a b : Shown) (turn : Turn State End) → turn ≡ goes_on [] b.state → b.written ≡ a.written
    → b.faults ≡ a.faults → b.is_over ≡ false → HasTurned turn a (Ok None) b
unfolding HasTurned
turned_silently a b turn is text faults over = (([], is, rw text (gains_none a.written)), (faults, λ none. over))

pub turned_wanting : (a b : Shown) (turn : Turn State End) → b.written ≡ a.written → b.faults ≡ a.faults
    → IsListBefore b.state (turn_state turn) → HasTurned turn a (Err stops.OutOfMemory) b
unfolding HasTurned
turned_wanting a b turn text faults before =
    (rw text (prefix_none (turn_text turn) a.written), (omega (arith, faults), (λ is. absurd (cc is), before)))

-- it is the same turn from what shows the same
pub turned_from : (a m b : Shown) (turn other : Turn State End) (r : Result (Option End) TurnError) → other ≡ turn
    → m.written ≡ a.written → m.faults ≡ a.faults → HasTurned turn m r b → HasTurned other a r b
unfolding HasTurned
turned_from a m b turn other (Ok ended) same text faults t = rw (same, ← text, ← faults) t
turned_from a m b turn other (Err error) same text faults t = rw (same, ← text, ← faults) t

pub turned_done : (a b : Shown) (turn : Turn State End) (r : Result (Option End) TurnError)
    → HasTurned turn a r b → MatchResult r (λ ended. DoesTurn turn ended b.state a.written b.written)
    (λ e. GainsPrefix (turn_text turn) a.written b.written)
unfolding HasTurned
turned_done a b turn (Ok ended) t = t.0
turned_done a b turn (Err error) t = t.0

pub turned_cause : (a b : Shown) (turn : Turn State End) (r : Result (Option End) TurnError) → HasTurned turn a r b
    → HasCauseOf a.faults b.faults r stops.Write
unfolding HasTurned
turned_cause a b turn (Ok ended) t = record { later = omega (arith, t.1.0); kept = t.1.0; failed = λ e. absurd (cc e) }
turned_cause a b turn (Err error) t = record { later = t.1.0; kept = tt; failed = λ e. t.1.1.0 (cc e) }

pub turned_leads : (a b : Shown) (turn : Turn State End) (r : Result (Option End) TurnError) → HasTurned turn a r b
    → OnErr r (IsListBefore b.state (turn_state turn))
unfolding HasTurned
turned_leads a b turn (Ok ended) t = tt
turned_leads a b turn (Err error) t = t.1.1.1

-- ---- ends
pub ended_turned : (a m b : Shown) (number : ℕ) (ending : End) → m.state ≡ left a.state
    → m.written ≡ a.written → m.faults ≡ a.faults → HasEnded (bad number) m (Ok ending) b
    → HasTurned (bad_line a.state number) a (Ok (Some ending)) b
unfolding HasTurned HasEnded
ended_turned a m b number ending state text faults e =
    ((bad number, rw (e.0, e.1.0, state) refl, rw (← text) e.1.1.0), (e.1.1.1 ∙ faults, λ none. absurd (cc none)))

pub stopped_turned : (a m b : Shown) (number : ℕ) (error : TurnError) → m.state ≡ left a.state → m.written ≡ a.written
    → m.faults ≡ a.faults → HasEnded (bad number) m (Err error) b → HasTurned (bad_line a.state number) a (Err error) b
unfolding HasTurned HasEnded
stopped_turned a m b number error state text faults e =
    rw (← text, ← faults) (e.0, (e.1.0, (e.1.1.0, state_same b.state (left a.state) (e.1.1.1 ∙ state))))

pub ended_done : (a b : Shown) (said : Said State End) (r : Result End TurnError) → said.ending ≡ BadInput
    → said.state ≡ a.state → HasEnded said.text a r b
    → MatchResult r (λ ending. Says said ending b.state a.written b.written)
    (λ e. GainsPrefix said.text a.written b.written)
unfolding HasEnded
ended_done a b said (Ok ending) is state e = (is ∙ sym e.0, state ∙ sym e.1.0, e.1.1.0)
ended_done a b said (Err error) is state e = e.0

pub ended_cause : (a b : Shown) (text : Octets) (r : Result End TurnError) → HasEnded text a r b
    → HasCauseOf a.faults b.faults r stops.Write
unfolding HasEnded
ended_cause a b text (Ok ending) e =
    record { later = omega (arith, e.1.1.1); kept = e.1.1.1; failed = λ w. absurd (cc w) }
ended_cause a b text (Err error) e = record { later = e.1.0; kept = tt; failed = λ w. e.1.1.0 (cc w) }

pub ended_leads : (a b : Shown) (said : Said State End) (text : Octets) (r : Result End TurnError)
    → said.state ≡ a.state → HasEnded text a r b → OnErr r (IsListBefore b.state said.state)
unfolding HasEnded
ended_leads a b said text (Ok ending) state e = tt
ended_leads a b said text (Err error) state e = state_same b.state said.state (e.1.1.1 ∙ sym state)

-- ---- before the first event and after it
pub opening_by : (config rest : List CatalogSettings) (core : Option Core) → is_opening (state_in config core) ≡ true
    → state_in rest core ≡ opening rest
opening_by config rest None opens = refl
opening_by config rest (Some c) opens = absurd (let e : false ≡ true = opens in cc e)

pub running_by : (state : State) → is_opening state ≡ false → (c : Core) × (state ≡ running c)
running_by (opening config) not_it = absurd (let e : true ≡ false = not_it in cc e)
running_by (running c) not_it = (c, refl)

pub was_opening : (b x : Bool) → b ≡ not x → b ≡ false → x ≡ true
was_opening true x is none = absurd (cc none)
was_opening false true is none = refl
was_opening false false is none = absurd (let e : false ≡ true = is in cc e)

pub was_running : (b x : Bool) → b ≡ not x → b ≡ true → x ≡ false
was_running b true is some = absurd (let e : false ≡ true = sym is ∙ some in cc e)
was_running b false is some = refl

-- without a provisioner no configuration is left
pub left_by : (config : List CatalogSettings) (core : Option Core) → is_opening (state_in config core) ≡ true
    → state_in [] core ≡ left (state_in config core)
left_by config None opens = refl
left_by config (Some c) opens = refl

pub left_running : (state : State) → is_opening state ≡ false → state ≡ left state
left_running (opening config) not_it = absurd (let e : true ≡ false = not_it in cc e)
left_running (running c) not_it = refl

-- ---- lines of the configuration
pub catalog_behind : (state : State) (c : Core) (number : ℕ) (settings : CatalogSettings) → state ≡ running c
    → catalog_line state number settings ≡ bad_line state number
catalog_behind state c number settings is = rw is refl

pub group_behind : (state : State) (c : Core) (number : ℕ) (name : Name) (group : GroupSettings) → state ≡ running c
    → group_line state number name group ≡ bad_line state number
group_behind state c number name group is = rw is refl

put_so : (allowed : Bool) (config rest : List CatalogSettings) (number : ℕ) → is_allowed config ≡ allowed
    → allowed ≡ true → rest ≡ config → opened_with config number ≡ goes_on [] (opening rest)
put_so true config rest number is yes_it same = rw (is, same) refl
put_so false config rest number is yes_it same = absurd (cc yes_it)

put_by : (allowed : Bool) (config rest : List CatalogSettings) (number : ℕ) → is_allowed config ≡ allowed
    → allowed ≡ false → rest ≡ [] → opened_with config number ≡ bad_line (opening rest) number
put_by true config rest number is not_it same = absurd (cc not_it)
put_by false config rest number is not_it same = rw is refl

put_read : (config rest : List CatalogSettings) (number : ℕ) → IsPut config true rest
    → opened_with config number ≡ goes_on [] (opening rest)
put_read config rest number put = put_so (is_allowed config) config rest number refl (sym put.0) put.1

put_bad : (config rest : List CatalogSettings) (number : ℕ) → IsPut config false rest
    → opened_with config number ≡ bad_line (opening rest) number
put_bad config rest number put = put_by (is_allowed config) config rest number refl (sym put.0) put.1

pub catalog_read : (state : State) (config rest : List CatalogSettings) (number : ℕ) (settings : CatalogSettings)
    → state ≡ opening config → IsPut (config ++ settings ∷ []) true rest
    → catalog_line state number settings ≡ goes_on [] (opening rest)
catalog_read state config rest number settings is put = rw is (put_read (config ++ settings ∷ []) rest number put)

pub catalog_bad : (state : State) (config rest : List CatalogSettings) (number : ℕ) (settings : CatalogSettings)
    → state ≡ opening config → IsPut (config ++ settings ∷ []) false rest
    → catalog_line state number settings ≡ bad_line (opening rest) number
catalog_bad state config rest number settings is put = rw is (put_bad (config ++ settings ∷ []) rest number put)

grouped_read : (o : Option (List CatalogSettings)) (rest : List CatalogSettings) (number : ℕ) → IsGrouped o true rest
    → grouped_with o number ≡ goes_on [] (opening rest)
grouped_read None rest number put = absurd (cc (put.0))
grouped_read (Some config) rest number put = put_read config rest number put

grouped_bad : (o : Option (List CatalogSettings)) (rest : List CatalogSettings) (number : ℕ) → IsGrouped o false rest
    → grouped_with o number ≡ bad_line (opening rest) number
grouped_bad None rest number put = ap (λ (c : List CatalogSettings). bad_line (opening c) number) (sym put.1)
grouped_bad (Some config) rest number put = put_bad config rest number put

pub group_read : (state : State) (config rest : List CatalogSettings) (number : ℕ) (name : Name)
    (group : GroupSettings) → state ≡ opening config → IsGrouped (grouped config name group) true rest
    → group_line state number name group ≡ goes_on [] (opening rest)
group_read state config rest number name group is put =
    rw is (grouped_read (grouped config name group) rest number put)

pub group_bad : (state : State) (config rest : List CatalogSettings) (number : ℕ) (name : Name) (group : GroupSettings)
    → state ≡ opening config → IsGrouped (grouped config name group) false rest
    → group_line state number name group ≡ bad_line (opening rest) number
group_bad state config rest number name group is put = rw is (grouped_bad (grouped config name group) rest number put)

pub skip_turn : (state : State) (number : ℕ) → line_turn state number (Some lines.Skip) ≡ goes_on [] state
unfolding line_turn
skip_turn state number = refl

-- ---- events
pub event_none : (state : State) (config : List CatalogSettings) (number moment : ℕ) (event : Event) → state
    ≡ opening config → (length config == 0) ≡ true → event_line state number moment event ≡ bad_line state number
unfolding event_line
event_none state [] number moment event is none = rw is refl
event_none state (settings ∷ config) number moment event is none =
    let e = eqb-true (length (settings ∷ config)) 0 none in
    absurd (omega (arith, e))

pub has_config : (state : State) (config : List CatalogSettings) → state ≡ opening config
    → (length config == 0) ≡ false → HasConfig state
has_config state [] is some = let e : true ≡ false = some in absurd (cc e)
has_config state (settings ∷ config) is some = rw is tt

pub event_first : (state : State) (config : List CatalogSettings) (number moment : ℕ) (event : Event)
    → state ≡ opening config → HasConfig state
    → event_line state number moment event ≡ event_turn (opened_core config) number moment event
unfolding event_line
event_first state [] number moment event is some = absurd (rw is at some)
event_first state (settings ∷ config) number moment event is some = rw is refl

pub event_further : (state : State) (c : Core) (number moment : ℕ) (event : Event) → state ≡ running c
    → event_line state number moment event ≡ event_turn c number moment event
unfolding event_line
event_further state c number moment event is = rw is refl

pub runs : (state : State) (c : Core) → state ≡ running c → IsRunning state
runs state c is = rw is tt

-- ---- an event is run
pub run_of : {K : Type 0} (J : Type 0) (held : K → Option Octets) (faults : K → ℕ) (config : List CatalogSettings)
    (h k : Held) (turn : Turn State End) (number : ℕ) (r : Result Took TurnError) → IsTaken turn number h r k
    → HasRun turn number (shown {K = K} {J = J} held faults config (Some (stage.Running h))) r
    (shown {K = K} {J = J} held faults config (Some (stage.Running k)))
unfolding IsTaken HasRun HasTurned
run_of J held faults config h k turn number (Ok took.Done) t = (t.does, (t.faults, λ none. refl))
run_of {K = K} J held faults config h k turn number (Ok took.Bad) t =
    (t.0, ap (λ (x : Held). shown {K = K} {J = J} held faults config (Some (stage.Running x))) t.1)
run_of J held faults config h k turn number (Err error) t = (t.part, (t.later, (t.cause, t.list)))

pub run_done : (a b : Shown) (turn : Turn State End) (number : ℕ) → HasRun turn number a (Ok took.Done) b
    → HasTurned turn a (Ok None) b
unfolding HasRun
run_done a b turn number r = r

pub run_stopped : (a b : Shown) (turn : Turn State End) (number : ℕ) (error : TurnError)
    → HasRun turn number a (Err error) b → HasTurned turn a (Err error) b
unfolding HasRun
run_stopped a b turn number error r = r

pub run_same : (a b : Shown) (turn : Turn State End) (number : ℕ) → HasRun turn number a (Ok took.Bad) b
    → (turn ≡ bad_line a.state number) × (b ≡ a)
unfolding HasRun
run_same a b turn number r = r

pub run_still : (a b : Shown) (turn : Turn State End) (number : ℕ) → b.written ≡ a.written → b.faults ≡ a.faults
    → b.state ≡ a.state → IsListBefore a.state (turn_state turn) → HasRun turn number a (Err stops.OutOfMemory) b
unfolding HasRun
run_still a b turn number text faults state before = turned_wanting a b turn text faults (rw state before)

pub runs_core : (state : State) → IsRunning state → (c : Core) × (state ≡ running c)
runs_core (opening config) runs = absurd runs
runs_core (running c) runs = (c, refl)

pub config_some : (config : List CatalogSettings) (core : Option Core) → HasConfig (state_in config core)
    → (length config == 0) ≡ false
config_some config (Some c) some = absurd some
config_some [] None some = absurd some
config_some (settings ∷ config) None some = elim (cases_Bool (length (settings ∷ config) == 0))
    [ inl t ↦ (let e = eqb-true (length (settings ∷ config)) 0 t in absurd (omega (arith, e))) | inr f ↦ f ]

pub finish_running : (state : State) (c : Core) (number : ℕ) → state ≡ running c
    → replay_finish state number ≡ record { text = []; state = state; ending = Done }
unfolding replay_finish
finish_running state c number is = rw is refl

pub finish_config : (state : State) (config : List CatalogSettings) (number : ℕ) → state ≡ opening config
    → (length config == 0) ≡ false → replay_finish state number ≡ record { text = []; state = state; ending = Done }
unfolding replay_finish
finish_config state [] number is some = let e : true ≡ false = some in absurd (cc e)
finish_config state (settings ∷ config) number is some = rw is refl

pub finish_none : (state : State) (config : List CatalogSettings) (number : ℕ)
    → state ≡ opening config → (length config == 0) ≡ true
    → replay_finish state number ≡ record { text = bad number; state = state; ending = BadInput }
unfolding replay_finish
finish_none state [] number is none = rw is refl
finish_none state (settings ∷ config) number is none =
    let e = eqb-true (length (settings ∷ config)) 0 none in
    absurd (omega (arith, e))

pub said_done : (a : Shown) (said : Said State End) → said ≡ record { text = []; state = a.state; ending = Done }
    → Says said Done a.state a.written a.written
said_done a said is = rw is (refl, refl, gains_none a.written)

-- ---- the end
pub ended_so : {K J : Type 0} (held : K → Option Octets) (faults : K → ℕ) (config : List CatalogSettings)
    (s : Stage K J) (ends : Ends K) (last : Option (Snapshot Core)) (text : Octets) (r : Result End TurnError)
    (before : Option Octets) (n : ℕ) → option_map (λ s. s.value) last ≡ core_in (Some s)
    → before ≡ written_in held (Some s) → n ≡ faults_in faults (Some s)
    → MatchResult r (λ ending. (ending ≡ BadInput) × Gains text before (held ends.output))
    (λ e. GainsPrefix text before (held ends.output)) → HasCauseOf n (faults ends.output) r stops.Write
    → HasEnded text (shown held faults config (Some s)) r (shown {J = J} held faults config (Some (stage.Over ends last)))
unfolding HasEnded
ended_so held faults config s ends last text (Ok ending) before n core written count d cause =
    (d.0, (ap (λ (c : Option Core). state_in config c) core, (rw (← written) d.1, rw (← count) cause.kept)))
ended_so held faults config s ends last text (Err error) before n core written count d cause = (
  rw (← written) d,
  (
    rw (← count) cause.later,
    (
      λ is. rw (← count) (cause.failed (cc is)),
      ap (λ (c : Option Core). state_in config c) core,
    ),
  ),
)

-- before the first event the list is empty
pub start_rests : (publisher : Book) (text : Option Octets) (count : ℕ) (end : Published) (view : Viewed)
    → CanStart publisher text count end view → IsResting publisher (opening []) end view
start_rests publisher text count end view start =
    record { list = start.list; staged = start.staged; own = start.own; rest = start.reading }

-- the list is that of the core, whatever configuration was read
pub rests_in : (publisher : Book) (config rest : List CatalogSettings) (core : Option Core) (end : Published)
    (view : Viewed) → IsResting publisher (state_in rest core) end view
    → IsResting publisher (state_in config core) end view
rests_in publisher config rest None end view r = record { list = r.list; staged = r.staged; own = r.own; rest = r.rest }
rests_in publisher config rest (Some c) end view r = r
