-- The generated script goes on to its end.
use Rattle.std.proofs.Common.{◌≡◌, ℕ, ◌<◌, ◌≤◌, List, [], ◌∷◌, ◌++◌, refl, sym, ◌∙◌, ap, subst, arith, Option, Some}
use Rattle.std.proofs.Common.{Result, Ok, Err, append-nil}
use Rattle.std.specs.Prelude.{codes, IsSome}
use Rattle.dz_name.specs.Words.{Octets}
use Rattle.dz_history.specs.declared.entry.Entry.{Entry}
use Rattle.dz_header.specs.declared.transport.Transport.TheVariants.{Udp}
use Rattle.dz_script.specs.Run.{Place, beginning, place_after, said_from, said_of}
use Rattle.dz_script.specs.Script.{behind}
use Rattle.dz_script.specs.Answers.{IsRun}
use Rattle.dz_script.specs.declared.run.ScriptError.{ScriptError}
use Rattle.dz_script.specs.declared.run.ScriptError.TheVariants as errors
use Rattle.dz_script.specs.Lines.{lines_of}
use Rattle.dz_script.specs.declared.line.Line.{Line}
use Rattle.dz_script.specs.declared.line.Event.TheVariants.{Job}
use Rattle.dz_script.proofs.ScriptLemmas.{said_from-after}
use Rattle.dz_fleet.specs.Core.{Core, opened_core}
use Rattle.dz_gen.specs.Texts.{named}
use Rattle.dz_gen.specs.Records.{www}
use Rattle.dz_gen.specs.Messages.{query}
use Rattle.dz_gen.specs.Reading.{setting_lines, asked_lines, ask_of, host, job_lines, question_lines, script_lines}
use Rattle.dz_gen.specs.Script.{numbers, script}
use Rattle.dz_gen.proofs.ReadingLemmas.{script_read}
use Rattle.dz_rehearsal.specs.Life.{config, Asked, AreMade, lines_of_jobs, job_lines_of}
use Rattle.dz_rehearsal.proofs.ScriptLemmas.{transfers_happen}
use Rattle.dz_rehearsal.proofs.SizeLemmas.{text_total, script_size}
use Rattle.dz_run.specs.Replaying.{State, opening, running, replay_rules, replay_finish}
use Rattle.dz_run.specs.Rehearsing.{GoesOn}
use Rattle.dz_run.specs.Running.{Replays, status_of}
use Rattle.dz_run.specs.declared.answering.End.{End}
use Rattle.dz_run.specs.declared.answering.End.TheVariants as ended
use Rattle.dz_run.specs.declared.status.Status.{Status}
use Rattle.dz_run.specs.declared.status.Status.TheVariants.{BadInput}
use Rattle.dz_run.proofs.GoingLemmas.{Goes, IsAfter, goes_none, goes_both, makes_go, asks_go, lines_go, settings_go}
use Rattle.dz_run.proofs.GoingLemmas.{opens}

-- jobs that are made go on
jobs_go : (jobs : List Asked) (c d : Core) → AreMade c jobs d → Goes (running c) (lines_of_jobs jobs) (running d)
unfolding AreMade
jobs_go [] c d made = subst (λ x. Goes (running c) [] (running x)) made (goes_none (running c))
jobs_go (job ∷ jobs) c d made =
    goes_both (running c) (running made.0) (running d) (job_lines job.moment job.ticket job.octets)
    (lines_of_jobs jobs)
    (makes_go c made.0 job.moment job.ticket job.octets made.1) (jobs_go jobs made.0 d made.2)

-- ---- the requests
-- these lines go on from a core to a core
abbrev Leads : List Line → Core → Type 0
Leads lines c = (d : Core) × Goes (running c) lines (running d)

and_then : (xs ys : List Line) (c : Core) → Leads xs c → ((d : Core) → Leads ys d) → Leads (xs ++ ys) c
and_then xs ys c one more =
    let two = more one.0 in
    (two.0, goes_both (running c) (running one.0) (running two.0) xs ys one.1 two.1)

-- all zones are queried
asked_go : (moment : ℕ) (ks : List ℕ) (c : Core) → Leads (asked_lines moment ks) c
asked_go moment ks c =
    asks_go (λ k. ask_of moment (query k (www k))) ks c
    (λ k. (moment, Udp, host (198 ∷ 51 ∷ 100 ∷ 1 ∷ []), query k (www k), refl))

-- a name of no zone is queried
other_goes : (c : Core) → Leads (ask_of 1150 (query 0 (named (codes "other."))) ∷ []) c
other_goes c =
    asks_go (λ k. ask_of 1150 (query 0 (named (codes "other.")))) (0 ∷ []) c
    (λ k. (1150, Udp, host (198 ∷ 51 ∷ 100 ∷ 1 ∷ []), query 0 (named (codes "other.")), refl))

requests_go : (n : ℕ) (c : Core) → Leads (question_lines n) c
requests_go n c =
    and_then (asked_lines 1150 (numbers n) ++ ask_of 1150 (query 0 (named (codes "other."))) ∷ [])
    (asked_lines 1700 (numbers n)) c
    (and_then (asked_lines 1150 (numbers n)) (ask_of 1150 (query 0 (named (codes "other."))) ∷ []) c
    (asked_go 1150 (numbers n) c) (λ d. other_goes d))
    (λ d. asked_go 1700 (numbers n) d)

-- ---- the script
-- all lines from the first event on go on
events_go : (n : ℕ) → 0 < n → n ≤ 1000 → Leads (job_lines_of n ++ question_lines n) (opened_core config)
events_go n some limit =
    let made = transfers_happen n some limit in
    and_then (job_lines_of n) (question_lines n) (opened_core config) (
      made.1,
      subst (λ lines. Goes (running (opened_core config)) lines (running made.1)) (sym made.2)
          (jobs_go made.0 (opened_core config) made.1 made.3),
    ) (λ d. requests_go n d)

lines_all_go : (n : ℕ) → 0 < n → n ≤ 1000 → (d : Core) × Goes (opening []) (script_lines n) (running d)
lines_all_go n some limit =
    let made = events_go n some limit in (
      made.0,
      goes_both (opening []) (opening config) (running made.0) setting_lines _ settings_go
          (opens 1000 Job _ (running made.0) made.1),
    )

script_goes : (n : ℕ) → 0 < n → n ≤ 1000
    → (d : Core) × IsAfter (beginning (opening [])) (lines_of (script n)) (running d)
unfolding beginning
script_goes n some limit =
    let all = lines_all_go n some limit in (
      all.0,
      lines_go (beginning (opening [])) (lines_of (script n)) (script_lines n) (running all.0)
          (script_read n limit).read
          all.1 (omega (arith, text_total (script n), script_size n limit)),
    )

-- a script whose lines all go on ends as its state says
finished : (place end : Place State) (texts : List (List ℕ)) → place_after replay_rules place texts ≡ Some end
    → said_from replay_rules place texts ≡ behind end.written (replay_finish end.state end.number)
unfolding said_from
finished place end texts is =
    ap (λ ls. said_from replay_rules place ls) (sym (append-nil texts))
    ∙ said_from-after replay_rules texts [] end place is

done_there : (written : List ℕ) (state : State) (d : Core) (number : ℕ) → state ≡ running d
    → (behind written (replay_finish state number)).ending ≡ ended.Done
unfolding behind replay_finish
done_there written state d number is = rw is refl

pub goes_on : (n : ℕ) → GoesOn n
unfolding said_of
goes_on n = record {
  whole = λ some limit.
      let made = script_goes n some limit in
      subst IsSome (sym made.1.1) refl;
  done = λ some limit.
      let made = script_goes n some limit in
      ap (λ said. said.ending) (finished (beginning (opening [])) made.1.0 (lines_of (script n)) made.1.1)
      ∙ done_there made.1.0.written made.1.0.state made.0 made.1.0.number made.1.2;
}

-- so `replay` of it never says that a line was bad
never_bad : (n : ℕ) → 0 < n → n ≤ 1000 → (result : Result End ScriptError) (state : State)
    (left before after : Option Octets) → BadInput ≡ status_of result
    → IsRun replay_rules (opening []) (script n) result state left before after → ⊥
never_bad n some limit (Ok ended.Done) state left before after status run = cc
never_bad n some limit (Ok ended.BadInput) state left before after status run =
    let two : ended.BadInput ≡ ended.Done = sym run.0.0 ∙ (goes_on n).done some limit in cc
never_bad n some limit (Err errors.Read) state left before after status run = cc
never_bad n some limit (Err errors.Write) state left before after status run = cc
never_bad n some limit (Err errors.OutOfMemory) state left before after status run = cc

pub no_bad_line : (n : ℕ) → 0 < n → n ≤ 1000
    → (status : Status) (left before after : Option Octets) (list : List Entry) → status ≡ BadInput
    → Replays (script n) status left before after list → ⊥
no_bad_line n some limit status left before after list is run =
    never_bad n some limit run.0 run.1 left before after (sym is ∙ run.2) run.4
