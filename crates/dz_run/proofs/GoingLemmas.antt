-- Lines of a script of `replay` that go on.
use Rattle.std.proofs.Common.{◌≡◌, ℕ, ◌+◌, ◌≤◌, false, List, [], ◌∷◌, ◌++◌, map, length, refl, sym, ◌∙◌, ap, subst}
use Rattle.std.proofs.Common.{arith, Option, Some, None}
use Rattle.std.specs.Prelude.{nat_lt, if◌then◌else◌}
use Rattle.std.proofs.lemmas.Bool.{le-ltb, eq-eqb}
use Rattle.dz_name.specs.Words.{Octets}
use Rattle.dz_header.specs.declared.transport.Transport.{Transport}
use Rattle.dz_io.specs.declared.peer.Peer.{Peer}
use Rattle.dz_notify.specs.Notify.{notify_zone_in}
use Rattle.dz_script.specs.Script.{goes_on}
use Rattle.dz_script.specs.Lines.{content}
use Rattle.dz_script.specs.Line.{line_of}
use Rattle.dz_script.specs.Run.{Place, further, over, step_at, after_turn, place_after}
use Rattle.dz_script.specs.declared.lines.TheConstants.{LIMIT}
use Rattle.dz_script.specs.declared.line.Line.{Line}
use Rattle.dz_script.specs.declared.line.Line.TheVariants.{Event}
use Rattle.dz_script.specs.declared.line.Event.TheVariants.{Ask, Job, Take}
use Rattle.dz_job.specs.Job.{JobOf}
use Rattle.dz_report.specs.Lines.{verdict_lines}
use Rattle.dz_fleet.specs.Core.{Core, after_due, due_of, verdict_of, settled, after_notify, heard_of, opened_core}
use Rattle.dz_fleet.specs.declared.due.Due.{Due}
use Rattle.dz_fleet.specs.declared.due.Due.TheVariants as due
use Rattle.dz_gen.specs.Reading.{job_lines, setting_lines}
use Rattle.dz_run.specs.Flight.{job_in}
use Rattle.dz_run.specs.Replaying.{State, running, line_turn, event_line, due_text, ask_turn, take_turn, replay_rules}
use Rattle.dz_run.specs.Replaying.{opening, at_place}
use Rattle.dz_rehearsal.specs.Life.{config, Makes}
use Rattle.dz_rehearsal.proofs.SizeLemmas.{total}
use Rattle.dz_script.specs.declared.line.Event.{Event as What}

-- each of these lines goes on, from a state to a state
unfoldable pub Goes : State → List Line → State → Type 0
Goes s [] t = s ≡ t
Goes s (line ∷ lines) t = (text : Octets) × (next : State)
    × ((number : ℕ) → line_turn s number (Some line) ≡ goes_on text next) × Goes next lines t

-- no lines lead nowhere
pub goes_none : (s : State) → Goes s [] s
unfolding Goes
goes_none s = refl

-- two lists of lines, one after the other
pub goes_both : (s t u : State) (xs ys : List Line) → Goes s xs t → Goes t ys u → Goes s (xs ++ ys) u
unfolding Goes
goes_both s t u [] ys p q = subst (λ x. Goes x ys u) (sym p) q
goes_both s t u (x ∷ xs) ys p q = (p.0, p.1, p.2, goes_both p.1 t u xs ys p.3 q)

-- ---- a job and its octets
-- the job that alone is in flight is found by its ticket
found_alone : (flight : List JobOf) (job : JobOf) (ticket : ℕ) → flight ≡ [] → job.flight.ticket ≡ ticket
    → job_in (flight ++ job ∷ []) ticket ≡ Some job
found_alone flight job ticket idle is =
    ap (λ jobs. job_in (jobs ++ job ∷ []) ticket) idle
    ∙ ap (λ b. if b then Some job else None) (eq-eqb job.flight.ticket ticket is)

-- a `job` line hands out what is due
job_goes : (c : Core) (moment : ℕ) (answer : Due) → due_of c moment ≡ answer → (number : ℕ)
    → event_line (running c) number moment Job ≡ goes_on (due_text answer) (running (after_due c answer))
unfolding event_line
job_goes c moment answer is number = ap (λ a. goes_on (due_text a) (running (after_due c a))) is

-- a `take` line gives octets to the job of its ticket, if that is in flight
take_goes : (c : Core) (moment ticket : ℕ) (octets : Octets) (job : JobOf) → job_in c.flight ticket ≡ Some job
    → (number : ℕ)
    → event_line (running c) number moment (Take ticket octets) ≡
    goes_on (verdict_lines job.flight.zone (verdict_of c job octets)) (running (settled c job octets moment))
unfolding event_line
take_goes c moment ticket octets job found number = ap (take_turn c number moment octets) found

-- so the two lines of a job go on where `Makes` holds
pub makes_go : (c d : Core) (moment ticket : ℕ) (octets : Octets) → Makes c moment ticket octets d
    → Goes (running c) (job_lines moment ticket octets) (running d)
unfolding Goes
makes_go c d moment ticket octets made =
    let busy = after_due c (due.Job made.job) in (
      due_text (due.Job made.job),
      running busy,
      job_goes c moment (due.Job made.job) made.is_due,
      (
        verdict_lines made.job.flight.zone (verdict_of busy made.job octets),
        running (settled busy made.job octets moment),
        take_goes busy moment ticket octets made.job (found_alone c.flight made.job ticket made.idle made.numbered),
        ap running made.settles,
      ),
    )

-- ---- a request
-- a request goes on, whether it is a NOTIFY or not
answered : (c : Core) (moment : ℕ) (transport : Transport) (peer : Peer) (request : Octets) (o : Option (List Octets))
    → (text : Octets) × (d : Core) × (ask_turn c moment transport peer request o ≡ goes_on text (running d))
answered c moment transport peer request None = (_, c, refl)
answered c moment transport peer request (Some zone) = (_, after_notify c zone (heard_of c peer zone), refl)

ask_goes : (c : Core) (moment : ℕ) (transport : Transport) (peer : Peer) (request : Octets)
    → (d : Core) × Goes (running c) (Event moment (Ask transport peer request) ∷ []) (running d)
unfolding Goes event_line
ask_goes c moment transport peer request =
    let a = answered c moment transport peer request (notify_zone_in request) in
    (a.1, (a.0, running a.1, λ number. a.2, refl))

-- lines that are all requests go on
pub asks_go : (f : ℕ → Line) (ks : List ℕ) (c : Core)
    → ((k : ℕ) → (moment : ℕ) × (transport : Transport) × (peer : Peer) × (request : Octets)
    × (f k ≡ Event moment (Ask transport peer request)))
    → (d : Core) × Goes (running c) (map f ks) (running d)
asks_go f [] c is = (c, goes_none (running c))
asks_go f (k ∷ ks) c is =
    let e = is k in
    let one = ask_goes c e.0 e.1 e.2 e.3 in
    let rest = asks_go f ks one.0 is in (
      rest.0,
      goes_both (running c) (running one.0) (running rest.0) (f k ∷ []) (map f ks)
          (subst (λ l. Goes (running c) (l ∷ []) (running one.0)) (sym e.4) one.1) rest.1,
    )

-- ---- the octets
-- lines that are read as these, and are within the limit together
-- a line of those that fit is within the limit
limits : (place : Place State) (line : Octets) (rest : ℕ) → place.used + (length line + rest) ≤ LIMIT
    → nat_lt LIMIT (place.used + length line) ≡ false
limits place line rest fits = le-ltb LIMIT (place.used + length line) (omega (arith, fits))

-- one line further
stepped : (place : Place State) (line : Octets) (text : Octets) (next : State)
    → nat_lt LIMIT (place.used + length line) ≡ false
    → replay_rules.turn place.state place.number (content line) ≡ goes_on text next
    → step_at replay_rules place line ≡ further (record
    { state = next; number = place.number + 1; used = place.used + length line; written = place.written ++ text })
unfolding step_at after_turn
stepped place line text next short turn = rw (short, turn) refl

further_at : (place next : Place State) (line : Octets) (lines : List Octets)
    → step_at replay_rules place line ≡ further next
    → place_after replay_rules place (line ∷ lines) ≡ place_after replay_rules next lines
unfolding place_after
further_at place next line lines is =
    ap (λ step. elim step as (λ _. Option (Place State))
    [ further q ↦ place_after replay_rules q lines | over ended ↦ None ]) is

-- where a script is after its lines, in this state
abbrev pub IsAfter : Place State → List Octets → State → Type 0
IsAfter place texts state = (end : Place State) × (place_after replay_rules place texts ≡ Some end)
    × (end.state ≡ state)

nothing_left : (place : Place State) (state : State) → place.state ≡ state → IsAfter place [] state
unfolding place_after
nothing_left place state is = (place, refl, is)

-- texts that are read as lines that go on don't end the script
pub lines_go : (place : Place State) (texts : List Octets) (lines : List Line) (t : State)
    → map (λ text. line_of (content text)) texts ≡ map Some lines → Goes place.state lines t
    → place.used + total texts ≤ LIMIT → IsAfter place texts t
unfolding Goes total
lines_go place [] [] t read goes fits = nothing_left place t goes
lines_go place [] (l ∷ ls) t read goes fits = absurd (cc)
lines_go place (x ∷ xs) [] t read goes fits = absurd (cc)
lines_go place (x ∷ xs) (l ∷ ls) t read goes fits =
    let one : line_of (content x) ≡ Some l = cc in
    let more : map (λ text. line_of (content text)) xs ≡ map Some ls = cc in
    let turn : replay_rules.turn place.state place.number (content x) ≡ goes_on goes.0 goes.1 =
    ap (line_turn place.state place.number) one ∙ goes.2 place.number in
    let next : Place State =
    record {
      state = goes.1;
      number = place.number + 1;
      used = place.used + length x;
      written = place.written ++ goes.0;
    } in
    let step = stepped place x goes.0 goes.1 (limits place x (total xs) fits) turn in
    let rest = lines_go next xs ls t more goes.3 (omega (arith, fits)) in
    (rest.0, further_at place next x xs step ∙ rest.1, rest.2)

-- ---- the generated script begins
-- the settings go on to the configuration
pub settings_go : Goes (opening []) setting_lines (opening config)
unfolding Goes at_place
settings_go = ([], opening _, λ number. refl, ([], opening config, λ number. refl, refl))

-- what goes on from the core of the configuration goes on from the configuration
pub opens : (moment : ℕ) (what : What) (lines : List Line) (t : State)
    → Goes (running (opened_core config)) (Event moment what ∷ lines) t
    → Goes (opening config) (Event moment what ∷ lines) t
unfolding Goes event_line
opens moment what lines t goes = goes
