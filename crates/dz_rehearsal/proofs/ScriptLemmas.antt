-- All transfers of the script, one phase after the other.
use Rattle.std.proofs.Common.{◌≡◌, ℕ, ◌+◌, ◌/◌, ◌<◌, ◌≤◌, ◌==◌, false, List, [], ◌∷◌, ◌++◌, filter, length, refl, sym}
use Rattle.std.proofs.Common.{◌∙◌, ap, subst, arith, inl, inr, Some, None}
use Rattle.std.specs.Prelude.{flat_map}
use Rattle.std.proofs.lemmas.Bool.{cases_Bool, eqb-true}
use Rattle.dz_settings.specs.declared.config.Policy.TheVariants.{Present}
use Rattle.std.proofs.lemmas.List.{append-nil}
use Rattle.std.proofs.lemmas.Grind.{flat_map-append}
use Rattle.dz_name.specs.Words.{Octets}
use Rattle.dz_zone.specs.Version.{Zone}
use Rattle.dz_script.specs.declared.line.Line.{Line}
use Rattle.dz_timer.specs.Values.{ValuesOf, fresh, departed, succeeded}
use Rattle.dz_fleet.specs.Core.{Core, opened_core}
use Rattle.dz_gen.specs.Messages.{whole_of, catalog_changes}
use Rattle.dz_gen.specs.Outcomes.{catalog_version, changed_version, first_version}
use Rattle.dz_gen.specs.Reading.{catalog_lines, first_lines, next_lines, reset_lines, change_lines, job_lines}
use Rattle.dz_gen.specs.Script.{numbers, is_tenth, is_changed, catalog_ticket, reset_ticket}
use Rattle.dz_rehearsal.specs.Life.{config, first_nodes, changed_nodes, member_of, member_after, Makes, Asked, AreMade}
use Rattle.dz_rehearsal.specs.Life.{lines_of_jobs, TransfersHappen}
use Rattle.dz_rehearsal.proofs.LifeLemmas.{either, Life, with, life_same, HoldsOfJobs}
use Rattle.dz_rehearsal.proofs.SeatLemmas.{after_named}
use Rattle.dz_rehearsal.proofs.StepLemmas.{IsNext}
use Rattle.dz_rehearsal.proofs.ZoneStepLemmas.{first_present, policy_reset, step_whole}
use Rattle.dz_rehearsal.proofs.CatalogJobLemmas.{first_job, change_job}
use Rattle.dz_rehearsal.proofs.UsedLemmas.{catalog_octets}
use Rattle.dz_rehearsal.proofs.PhaseLemmas.{each_goes, some_go}
use Rattle.dz_rehearsal.proofs.UptoLemmas.{upto, upto_done, upto_todo}
use Rattle.dz_rehearsal.proofs.ZonePhaseLemmas.{after_first, first_hold, first_wait, again_hold, again_wait}
use Rattle.dz_rehearsal.proofs.ZonePhaseLemmas.{again_tickets, again_waits, change_hold, change_wait, reset_wait}
use Rattle.dz_rehearsal.proofs.ZonePhaseLemmas.{change_tickets, Firsts, Agains, Changed, first_step, again_step}
use Rattle.dz_rehearsal.proofs.ZonePhaseLemmas.{again_pass, change_step, change_pass}

module _ (Goes : Core → List Line → Core → Type 0) (holds : HoldsOfJobs Goes)
    (n : ℕ) (some : 0 < n) (limit : n ≤ 1000) where
  -- these lines go on from a core to one of which P holds
  abbrev Gets : (Core → Type 0) → List Line → Core → Type 0
  Gets P lines c = (d : Core) × Goes c lines d × P d

  -- one list of lines after another
  and_then : (P Q : Core → Type 0) (xs ys : List Line) (c : Core) → Gets P xs c → ((d : Core) → P d → Gets Q ys d)
      → Gets Q (xs ++ ys) c
  and_then P Q xs ys c one more =
      let two = more one.0 one.2 in
      (two.0, holds.both c one.0 two.0 xs ys one.1 two.1, two.2)

  abbrev own : Zone
  own = catalog_version n

  -- ---- the first transfers
  -- the catalog is transferred, and all its zones are new members
  catalog_begun : Gets (Firsts Goes holds n limit (first_nodes n) own 1) (catalog_lines (numbers n))
      (opened_core config)
  catalog_begun =
      let made = first_job n some limit in (
        made.0,
        holds.job (opened_core config) made.0 1000 1 (catalog_octets n) made.1,
        life_same n member_of (first_nodes n) own after_first (λ k. None) (upto 1 first_hold (λ i. None)) (λ k. fresh)
            (upto 1 first_wait (λ i. fresh)) 1 1 made.0 made.2
            (λ k s f. sym (upto_todo 1 first_hold (λ i. None) k (omega arith)))
            (λ k s f. sym (upto_todo 1 first_wait (λ i. fresh) k (omega arith))) refl,
      )

  -- each zone is transferred, or its transfer breaks off
  all_first : (c : Core) → Firsts Goes holds n limit (first_nodes n) own 1 c
      → Gets (Agains Goes holds n limit (first_nodes n) own 1) (flat_map first_lines (numbers n)) c
  all_first c life =
      let made =
      each_goes Goes holds n (Firsts Goes holds n limit (first_nodes n) own) first_lines
      (first_step Goes holds n limit (first_nodes n) own) c life
      in (
        made.0,
        made.1,
        life_same n member_of (first_nodes n) own after_first _ (upto 1 again_hold first_hold) _
            (upto 1 again_wait first_wait) (n + 1) (again_tickets n 1) made.0 made.2
            (λ k s f. upto_done (n + 1) first_hold (λ i. None) k (omega arith)
            ∙ sym (upto_todo 1 again_hold first_hold k (omega arith)))
            (λ k s f. upto_done (n + 1) first_wait (λ i. fresh) k (omega arith)
            ∙ sym (upto_todo 1 again_wait first_wait k (omega arith))) (omega arith),
      )

  -- ---- all zones hold serial 1
  abbrev tickets : ℕ
  tickets = n + 1 + n / 10

  abbrev AllHeld : Core → Type 0
  AllHeld c = Life n member_of (first_nodes n) own after_first again_hold again_wait tickets c

  -- each tenth zone is transferred once more
  all_again : (c : Core) → Agains Goes holds n limit (first_nodes n) own 1 c
      → Gets AllHeld (flat_map (next_lines n) (filter is_tenth (numbers n))) c
  all_again c life =
      let made = some_go Goes holds n (Agains Goes holds n limit (first_nodes n) own) (next_lines n) is_tenth
      (again_step Goes holds n limit (first_nodes n) own)
      (again_pass Goes holds n limit (first_nodes n) own) c life in (
        made.0,
        made.1,
        life_same n member_of (first_nodes n) own after_first _ again_hold _ again_wait (again_tickets n (n + 1))
            tickets made.0 made.2
            (λ k s f. upto_done (n + 1) again_hold first_hold k (omega arith))
            (λ k s f. upto_done (n + 1) again_wait first_wait k (omega arith)) (omega arith),
      )

  -- ---- the catalog's change, and the first zone
  abbrev own_later : ValuesOf
  own_later = succeeded (departed after_first) 1100 100

  abbrev Began : Core → Type 0
  Began c =
      (position : ℕ)
      × Changed Goes holds n position limit (changed_nodes n) (changed_version n) own_later refl (omega arith) 1 c

  abbrev waits : ℕ → ValuesOf
  waits = with again_wait 1 fresh

  one_next : IsNext n own_later waits 1
  one_next = record {
    catalog_idle = refl;
    idle = λ i s f. either (λ v. v.timing.busy ≡ false) (i == 1) fresh (again_wait i) refl (again_waits i).idle;
    catalog_later = omega arith;
    least = λ i s f. omega arith;
    before = λ i s lt. absurd (omega (arith, s, lt));
  }

  -- the catalog changes, and the first zone, which is reset, is transferred anew
  reset_goes : (c : Core) → AllHeld c → Gets Began (reset_lines n) c
  reset_goes c life =
      let made = change_job n some limit after_first again_hold again_wait tickets c life refl
      (λ i s f. (again_waits i).idle) refl (omega arith) (λ i s f. (again_waits i).late) (omega (arith, limit)) in
      let position = length c.list in
      let hold = with again_hold 1 None in
      let first = step_whole n (member_after position) (changed_nodes n) (changed_version n) own_later hold waits
      (tickets + 1) made.0 made.2 (after_named position) 1 (omega arith) some limit (omega (arith, limit)) 1100
      (omega arith) one_next (omega arith) Present refl
      (policy_reset n (member_after position) (changed_nodes n) (changed_version n) own_later hold waits (tickets + 1)
      made.0 made.2 (after_named position) 1 (omega arith) some position refl)
      (first_present 1 (omega arith) (omega arith)) in
      let one : tickets + 1 ≡ catalog_ticket n = omega arith in
      let two : tickets + 1 + 1 ≡ reset_ticket n = omega arith in
      let held : (k : ℕ) → with hold 1 (Some (first_version 1)) k ≡ again_hold k = λ k. same_hold k in (
        first.0,
        holds.both c made.0 first.0
            (job_lines 1100 (catalog_ticket n) (catalog_changes (catalog_ticket n)))
            (job_lines 1100 (reset_ticket n) (whole_of (reset_ticket n) 1))
            (subst (λ t. Goes c (job_lines 1100 t (catalog_changes t)) made.0) one
            (holds.job c made.0 1100 (tickets + 1) (catalog_changes (tickets + 1)) made.1))
            (subst (λ t. Goes made.0 (job_lines 1100 t (whole_of t 1)) first.0) two
            (holds.job made.0 first.0 1100 (tickets + 1 + 1) (whole_of (tickets + 1 + 1) 1) first.1.0)),
        (
          position,
          life_same n (member_after position) (changed_nodes n) (changed_version n) own_later _
              (upto 1 change_hold again_hold) _ (upto 1 change_wait reset_wait) (tickets + 1 + 1) (change_tickets n 1)
              first.0 first.1.1
              (λ k s f. held k ∙ sym (upto_todo 1 change_hold again_hold k (omega arith)))
              (λ k s f. same_wait k ∙ sym (upto_todo 1 change_wait reset_wait k (omega arith))) (omega arith),
        ),
      )
    where
      same_hold : (k : ℕ) → with (with again_hold 1 None) 1 (Some (first_version 1)) k ≡ again_hold k
      same_hold k = elim (cases_Bool (k == 1)) [
        | inl t ↦ let is = eqb-true k 1 t in rw t (ap (λ i. Some (first_version i)) (sym is))
        | inr f ↦ rw f refl
      ]

      same_wait : (k : ℕ) → with waits 1 (succeeded (departed (waits 1)) 1100 100) k ≡ reset_wait k
      same_wait k = elim (cases_Bool (k == 1)) [ inl t ↦ rw t refl | inr f ↦ rw f refl ]

  -- ---- the changes
  -- nothing more has to be known of the core
  abbrev AnyCore : Core → Type 0
  AnyCore c = Unit {0}

  -- each other zone changes
  all_changed : (c : Core) → Began c → Gets AnyCore (flat_map (change_lines n) (filter is_changed (numbers n))) c
  all_changed c began =
      let made = some_go Goes holds n
      (Changed Goes holds n began.0 limit (changed_nodes n) (changed_version n) own_later refl (omega arith))
      (change_lines n) is_changed
      (change_step Goes holds n began.0 limit (changed_nodes n) (changed_version n) own_later refl (omega arith))
      (change_pass Goes holds n began.0 limit (changed_nodes n) (changed_version n) own_later refl (omega arith))
      c began.1 in
      (made.0, made.1, tt)

  -- all transfers of the script go on, from the core of the configuration on
  pub transfers_go : (d : Core)
      × Goes (opened_core config) ((((catalog_lines (numbers n) ++ flat_map first_lines (numbers n)) ++
      flat_map (next_lines n) (filter is_tenth (numbers n))) ++ reset_lines n) ++ flat_map (change_lines n)
      (filter is_changed (numbers n))) d
  transfers_go =
      let made =
      and_then Began AnyCore _ (flat_map (change_lines n) (filter is_changed (numbers n))) (opened_core config)
      (and_then AllHeld Began _ (reset_lines n) (opened_core config)
      (and_then (Agains Goes holds n limit (first_nodes n) own 1) AllHeld _
      (flat_map (next_lines n) (filter is_tenth (numbers n))) (opened_core config)
      (and_then (Firsts Goes holds n limit (first_nodes n) own 1) (Agains Goes holds n limit (first_nodes n) own 1)
      (catalog_lines (numbers n)) (flat_map first_lines (numbers n)) (opened_core config)
      catalog_begun all_first) all_again) reset_goes) all_changed in
      (made.0, made.1)

-- ---- jobs that are made one after the other
-- lines that are those of such jobs
abbrev Jobs : Core → List Line → Core → Type 0
Jobs c lines d = (jobs : List Asked) × (lines ≡ lines_of_jobs jobs) × AreMade c jobs d

both_made : (xs ys : List Asked) (c d e : Core) → AreMade c xs d → AreMade d ys e → AreMade c (xs ++ ys) e
unfolding AreMade
both_made [] ys c d e p q = subst (λ x. AreMade x ys e) (sym p) q
both_made (x ∷ xs) ys c d e p q = (p.0, p.1, both_made xs ys p.0 d e p.2 q)

one_made : (c d : Core) (moment ticket : ℕ) (octets : Octets) → Makes c moment ticket octets d
    → AreMade c (record { moment = moment; ticket = ticket; octets = octets } ∷ []) d
unfolding AreMade
one_made c d moment ticket octets made = (d, made, refl)

none_made : (c : Core) → AreMade c [] c
unfolding AreMade
none_made c = refl

holds_of_jobs : HoldsOfJobs Jobs
holds_of_jobs = record {
  none = λ c. ([], refl, none_made c);
  both = λ c d e xs ys p q. (
    p.0 ++ q.0,
    ap (λ l. l ++ ys) p.1 ∙ (ap (λ l. lines_of_jobs p.0 ++ l) q.1
        ∙ sym (flat_map-append (λ (job : Asked). job_lines job.moment job.ticket job.octets) p.0 q.0)),
    both_made p.0 q.0 c d e p.2 q.2,
  );
  job = λ c d moment ticket octets made. (
    record { moment = moment; ticket = ticket; octets = octets } ∷ [],
    sym (append-nil (job_lines moment ticket octets)),
    one_made c d moment ticket octets made,
  );
}

pub transfers_happen : (n : ℕ) → TransfersHappen n
transfers_happen n some limit =
    let made = transfers_go Jobs holds_of_jobs n some limit in
    (made.1.0, made.0, made.1.1, made.1.2)
