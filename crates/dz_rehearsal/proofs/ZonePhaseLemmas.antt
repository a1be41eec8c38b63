-- The phases of the zones' transfers: the first ones, those of tenth zones once more, and the changes.
use Rattle.std.proofs.Common.{◌≡◌, ℕ, ◌+◌, ◌-◌, ◌/◌, ◌<◌, ◌≤◌, ◌==◌, true, false, List, refl, sym, ◌∙◌, ap, subst}
use Rattle.std.proofs.Common.{arith, inl, inr, Option, Some, None}
use Rattle.std.specs.Prelude.{nat_lt, not, ◌&&◌, if◌then◌else◌}
use Rattle.std.proofs.lemmas.Bool.{cases_Bool, eqb-true}
use Rattle.std.proofs.lemmas.Bool.Decides.{nat_tests}
use Rattle.dz_zone.specs.Version.{Zone}
use Rattle.dz_name.specs.Words.{Octets}
use Rattle.dz_timer.specs.Values.{ValuesOf, fresh, departed, succeeded, refused}
use Rattle.dz_member.specs.declared.listing.Node.{Node}
use Rattle.dz_script.specs.declared.line.Line.{Line}
use Rattle.dz_fleet.specs.Core.{Core}
use Rattle.dz_gen.specs.Messages.{part_of, whole_of, changes_of}
use Rattle.dz_gen.specs.Outcomes.{first_version, second_version, policy_of}
use Rattle.dz_gen.specs.Reading.{job_lines, first_lines, next_lines, change_lines}
use Rattle.dz_gen.specs.Script.{is_tenth, is_changed, first_ticket, again_ticket, change_ticket}
use Rattle.dz_rehearsal.specs.Life.{member_of, member_after, Makes}
use Rattle.dz_rehearsal.proofs.LifeLemmas.{Life, life_same, either, HoldsOfJobs}
use Rattle.dz_rehearsal.proofs.SeatLemmas.{first_named, after_named}
use Rattle.dz_rehearsal.proofs.StepLemmas.{IsNext}
use Rattle.dz_rehearsal.proofs.UptoLemmas.{upto, upto_done, upto_todo, upto_each, upto_with, upto_same, tenth_next}
use Rattle.dz_rehearsal.proofs.UptoLemmas.{other_next, Changes, changes_what, changed_ticket}
use Rattle.dz_rehearsal.proofs.ZoneStepLemmas.{first_accepted, policy_first, step_part, step_whole, step_changes}

-- ---- a zone's timer: after its first transfer, after one that broke off, after the whole one that followed it, after
-- that after its reset, and after its change
abbrev pub after_first : ValuesOf
after_first = succeeded (departed fresh) 1000 100

abbrev after_part : ValuesOf
after_part = refused (departed fresh) 1000 None 1

abbrev after_again : ValuesOf
after_again = succeeded (departed after_part) 1060 100

abbrev after_reset : ValuesOf
after_reset = succeeded (departed fresh) 1100 100

abbrev after_change : ValuesOf
after_change = succeeded (departed after_first) 1100 100

-- a zone waits for this moment or a later one, without a job
pub record Waits (moment : ℕ) (v : ValuesOf) : Type 0 where
  pub idle : v.timing.busy ≡ false
  pub late : moment ≤ v.timing.next

-- the same job, by another ticket
retold : (Goes : Core → List Line → Core → Type 0) (holds : HoldsOfJobs Goes)
    (moment ticket number : ℕ) (octets : ℕ → Octets) (c d : Core) → ticket ≡ number
    → Makes c moment ticket (octets ticket) d → Goes c (job_lines moment number (octets number)) d
retold Goes holds moment ticket number octets c d same made =
    subst (λ t. Goes c (job_lines moment t (octets t)) d) same
    (holds.job c d moment ticket (octets ticket) made)

-- ---- the first transfers
-- what zones hold after the first transfers: a tenth zone holds nothing
abbrev pub first_hold : ℕ → Option Zone
first_hold i = if is_tenth i then None else Some (first_version i)

abbrev pub first_wait : ℕ → ValuesOf
first_wait i = if is_tenth i then after_part else after_first

-- the timers after the first transfers
first_waits : (i : ℕ) → Waits 1060 (first_wait i)
first_waits i =
    either (Waits 1060) (is_tenth i) after_part after_first (record { idle = refl; late = omega arith })
    (record { idle = refl; late = omega arith })

module _ (Goes : Core → List Line → Core → Type 0) (holds : HoldsOfJobs Goes)
    (n : ℕ) (limit : n ≤ 1000) (nodes : List Node) (own : Zone) where
  -- the core before zone k's first transfer
  abbrev pub Firsts : ℕ → Core → Type 0
  Firsts k c =
      Life n member_of nodes own after_first (upto k first_hold (λ i. None)) (upto k first_wait (λ i. fresh)) k c

  -- zone k is first: the zones before it wait until 1060 at least
  first_next : (k : ℕ) → IsNext n after_first (upto k first_wait (λ i. fresh)) k
  first_next k =
      let own_wait = upto_todo k first_wait (λ i. fresh) k (omega arith) in
      record {
        catalog_idle = refl;
        idle =
            λ i some few. upto_each k first_wait (λ i. fresh) (λ v. v.timing.busy ≡ false) i (first_waits i).idle refl;
        catalog_later = rw own_wait (omega arith);
        least = λ i some few. rw own_wait (omega arith);
        before =
            λ i some lt. rw (own_wait, upto_done k first_wait (λ i. fresh) i lt) (omega (arith, (first_waits i).late));
      }

  -- a tenth zone's transfer breaks off; the others are published
  pub first_step : (k : ℕ) (c : Core) → 0 < k → k ≤ n → Firsts k c
      → (d : Core) × Goes c (first_lines k) d × Firsts (k + 1) d
  first_step k c some few life =
      let hold = upto k first_hold (λ i. None) in
      let value = upto k first_wait (λ i. fresh) in
      let waits = upto_todo k first_wait (λ i. fresh) k (omega arith) in
      let none = upto_todo k first_hold (λ i. None) k (omega arith) in
      elim (cases_Bool (is_tenth k)) [
        | inl t ↦
            let made = step_part n member_of nodes own after_first hold value k c life first_named k some few limit
            (omega (arith, few, limit)) 1000 (omega arith) (first_next k) (rw waits (omega arith)) none in (
              made.0,
              subst (λ b. Goes c (job_lines 1000 (first_ticket k)
                  (if b then part_of (first_ticket k) k else whole_of (first_ticket k) k)) made.0) (sym t)
                  (holds.job c made.0 1000 (k + 1) (part_of (k + 1) k) made.1.0),
              life_same n member_of nodes own after_first hold (upto (k + 1) first_hold (λ i. None)) _
                  (upto (k + 1) first_wait (λ i. fresh)) (k + 1) (k + 1) made.0 made.1.1
                  (λ i s f. upto_same k first_hold (λ i. None) (rw t refl) i)
                  (λ i s f. upto_with k first_wait (λ i. fresh) _
                  (ap (λ v. refused (departed v) 1000 None 1) waits ∙ (rw t refl)) i) refl,
            )
        | inr e ↦
            let made = step_whole n member_of nodes own after_first hold value k c life first_named k some few limit
            (omega (arith, few, limit)) 1000 (omega arith) (first_next k) (rw waits (omega arith)) (policy_of k)
            none (policy_first n member_of nodes own after_first hold value k c life first_named k some few refl)
            (first_accepted k some (omega (arith, few, limit))) in (
              made.0,
              subst (λ b. Goes c (job_lines 1000 (first_ticket k)
                  (if b then part_of (first_ticket k) k else whole_of (first_ticket k) k)) made.0) (sym e)
                  (holds.job c made.0 1000 (k + 1) (whole_of (k + 1) k) made.1.0),
              life_same n member_of nodes own after_first _ (upto (k + 1) first_hold (λ i. None)) _
                  (upto (k + 1) first_wait (λ i. fresh)) (k + 1) (k + 1) made.0 made.1.1
                  (λ i s f. upto_with k first_hold (λ i. None) _ (rw e refl) i)
                  (λ i s f. upto_with k first_wait (λ i. fresh) _
                  (ap (λ v. succeeded (departed v) 1000 100) waits ∙ (rw e refl)) i) refl,
            )
      ]

-- ---- the transfers of every tenth zone once more
-- after it all zones hold serial 1
abbrev pub again_hold : ℕ → Option Zone
again_hold i = Some (first_version i)

abbrev pub again_wait : ℕ → ValuesOf
again_wait i = if is_tenth i then after_again else after_first

pub again_waits : (i : ℕ) → Waits 1100 (again_wait i)
again_waits i =
    either (Waits 1100) (is_tenth i) after_again after_first (record { idle = refl; late = omega arith })
    (record { idle = refl; late = omega arith })

-- the tickets before zone k
abbrev pub again_tickets : ℕ → ℕ → ℕ
again_tickets n k = n + 1 + (k - 1) / 10

module _ (Goes : Core → List Line → Core → Type 0) (holds : HoldsOfJobs Goes)
    (n : ℕ) (limit : n ≤ 1000) (nodes : List Node) (own : Zone) where
  -- the core before the second transfer of tenth zone k
  abbrev pub Agains : ℕ → Core → Type 0
  Agains k c =
      Life n member_of nodes own after_first (upto k again_hold first_hold) (upto k again_wait first_wait)
      (again_tickets n k) c

  -- a tenth zone is first: those before it wait until 1100 at least
  again_next : (k : ℕ) → is_tenth k ≡ true → IsNext n after_first (upto k again_wait first_wait) k
  again_next k t =
      let own_wait : upto k again_wait first_wait k ≡ after_part = upto_todo k again_wait first_wait k (omega arith)
      ∙ ap (λ b. if b then after_part else after_first) t in
      record {
        catalog_idle = refl;
        idle =
            λ i some few. upto_each k again_wait first_wait (λ v. v.timing.busy ≡ false) i (again_waits i).idle
            (first_waits i).idle;
        catalog_later = rw own_wait (omega arith);
        least =
            λ i some few. rw own_wait (upto_each k again_wait first_wait (λ v. 1060 ≤ v.timing.next) i
            (omega (arith, (again_waits i).late)) (first_waits i).late);
        before =
            λ i some lt. rw (own_wait, upto_done k again_wait first_wait i lt) (omega (arith, (again_waits i).late));
      }

  -- a tenth zone is transferred whole
  pub again_step : (k : ℕ) (c : Core) → 0 < k → k ≤ n → is_tenth k ≡ true → Agains k c
      → (d : Core) × Goes c (next_lines n k) d × Agains (k + 1) d
  again_step k c some few t life =
      let hold = upto k again_hold first_hold in
      let value = upto k again_wait first_wait in
      let waits : value k ≡ after_part = upto_todo k again_wait first_wait k (omega arith)
      ∙ ap (λ b. if b then after_part else after_first) t in
      let none : hold k ≡ None = upto_todo k again_hold first_hold k (omega arith)
      ∙ ap (λ b. if b then None else Some (first_version k)) t in
      let tickets = again_tickets n k in
      let number : tickets + 1 ≡ again_ticket n k = omega (arith, tenth_next k some t) in
      let made = step_whole n member_of nodes own after_first hold value tickets c life first_named k some few limit
      (omega (arith, few, limit)) 1060 (omega arith) (again_next k t) (rw waits (omega arith)) (policy_of k) none
      (policy_first n member_of nodes own after_first hold value tickets c life first_named k some few refl)
      (first_accepted k some (omega (arith, few, limit))) in (
        made.0,
        retold Goes holds 1060 (tickets + 1) (again_ticket n k) (λ t. whole_of t k) c made.0 number made.1.0,
        life_same n member_of nodes own after_first _ (upto (k + 1) again_hold first_hold) _
            (upto (k + 1) again_wait first_wait) (tickets + 1) (again_tickets n (k + 1)) made.0 made.1.1
            (λ i s f. upto_with k again_hold first_hold _ refl i)
            (λ i s f. upto_with k again_wait first_wait _
            (ap (λ v. succeeded (departed v) 1060 100) waits ∙ (rw t refl))
            i) (omega (arith, number)),
      )

  -- other zones have no turn
  pub again_pass : (k : ℕ) (c : Core) → 0 < k → k ≤ n → is_tenth k ≡ false → Agains k c → Agains (k + 1) c
  again_pass k c some few e life =
      life_same n member_of nodes own after_first _ (upto (k + 1) again_hold first_hold) _
      (upto (k + 1) again_wait first_wait) (again_tickets n k) (again_tickets n (k + 1)) c life
      (λ i s f. upto_same k again_hold first_hold (rw e refl) i)
      (λ i s f. upto_same k again_wait first_wait (rw e refl) i) (omega (arith, other_next k some e))

-- ---- the changes
-- the timers after the first zone was reset
abbrev pub reset_wait : ℕ → ValuesOf
reset_wait i = if i == 1 then after_reset else again_wait i

-- what zones hold after the changes: the first and each tenth zone still serial 1
abbrev pub change_hold : ℕ → Option Zone
change_hold i = if is_changed i then Some (second_version i) else Some (first_version i)

abbrev pub change_wait : ℕ → ValuesOf
change_wait i = if is_changed i then after_change else reset_wait i

reset_waits : (i : ℕ) → Waits 1100 (reset_wait i)
reset_waits i =
    either (Waits 1100) (i == 1) after_reset (again_wait i) (record { idle = refl; late = omega arith })
    (again_waits i)

-- a zone that is done with waits longer than any that is to come
unchanged : (i : ℕ) → 0 < i → is_changed i ≡ false → (i == 1) ≡ false → is_tenth i ≡ true
unchanged i some c one = elim (cases_Bool (is_tenth i)) [
  | inl t ↦ t
  | inr f ↦
      let e : (nat_lt 1 i && not false) ≡ false = rw f at c in
      let two : 1 < i = grind (arith, nat_tests) in
      let more : nat_lt 1 i ≡ true = grind (arith, nat_tests) in
      absurd (let g : true ≡ false = rw more at e in cc)
]

change_waits : (i : ℕ) → 0 < i → Waits 1160 (change_wait i)
change_waits i some = elim (cases_Bool (is_changed i)) [
  | inl t ↦ rw t (record { idle = refl; late = omega arith })
  | inr c ↦ elim (cases_Bool (i == 1)) [
    | inl one ↦ rw (c, one) (record { idle = refl; late = omega arith })
    | inr other ↦ rw (c, other, unchanged i some c other) (record { idle = refl; late = omega arith })
  ]
]

-- the tickets before zone k
abbrev pub change_tickets : ℕ → ℕ → ℕ
change_tickets n k = n + n / 10 + 3 + ((k - 2) - (k - 1) / 10)

-- a zone without a turn takes no ticket
passed_tickets : (n k : ℕ) → 0 < k → is_changed k ≡ false → change_tickets n k ≡ change_tickets n (k + 1)
passed_tickets n k some c = elim (cases_Bool (k == 1)) [
  | inl one ↦ let is = eqb-true k 1 one in omega (arith, is)
  | inr other ↦ omega (arith, tenth_next k some (unchanged k some c other))
]

module _ (Goes : Core → List Line → Core → Type 0) (holds : HoldsOfJobs Goes)
    (n position : ℕ) (limit : n ≤ 1000) (nodes : List Node) (own : Zone) (first : ValuesOf)
    (idle : first.timing.busy ≡ false) (later : 1100 < first.timing.next) where
  -- the core before the change of zone k
  abbrev pub Changed : ℕ → Core → Type 0
  Changed k c =
      Life n (member_after position) nodes own first (upto k change_hold again_hold) (upto k change_wait reset_wait)
      (change_tickets n k) c

  -- a zone that changes is first: those before it wait until 1160 at least
  change_next : (k : ℕ) → Changes k → IsNext n first (upto k change_wait reset_wait) k
  change_next k ch =
      let own_wait : upto k change_wait reset_wait k ≡ after_first =
      upto_todo k change_wait reset_wait k (omega arith) ∙ (rw (ch.other, ch.tenth) refl) in
      record {
        catalog_idle = idle;
        idle =
            λ i some few. upto_each k change_wait reset_wait (λ v. v.timing.busy ≡ false) i (change_waits i some).idle
            (reset_waits i).idle;
        catalog_later = rw own_wait (omega (arith, later));
        least =
            λ i some few. rw own_wait (upto_each k change_wait reset_wait (λ v. 1100 ≤ v.timing.next) i
            (omega (arith, (change_waits i some).late)) (reset_waits i).late);
        before =
            λ i some lt. rw (own_wait, upto_done k change_wait reset_wait i lt)
            (omega (arith, (change_waits i some).late));
      }

  -- a zone changes to serial 2
  pub change_step : (k : ℕ) (c : Core) → 0 < k → k ≤ n → is_changed k ≡ true → Changed k c
      → (d : Core) × Goes c (change_lines n k) d × Changed (k + 1) d
  change_step k c some few t life =
      let hold = upto k change_hold again_hold in
      let value = upto k change_wait reset_wait in
      let ch = changes_what k t in
      let waits : value k ≡ after_first = upto_todo k change_wait reset_wait k (omega arith)
      ∙ (rw (ch.other, ch.tenth) refl) in
      let held : hold k ≡ Some (first_version k) = upto_todo k change_hold again_hold k (omega arith) in
      let tickets = change_tickets n k in
      let number : tickets + 1 ≡ change_ticket n k = changed_ticket n k some t in
      let member : member_after position k ≡ member_of k = rw ch.other refl in
      let made =
      step_changes n (member_after position) nodes own first hold value tickets c life (after_named position) k
      some few limit (omega (arith, few, limit)) 1100 (omega arith) (change_next k ch) (rw waits (omega arith)) held
      (rw waits refl) (policy_first n (member_after position) nodes own first hold value tickets c life
      (after_named position) k some few member) in (
        made.0,
        retold Goes holds 1100 (tickets + 1) (change_ticket n k) (λ t. changes_of t k) c made.0 number made.1.0,
        life_same n (member_after position) nodes own first _ (upto (k + 1) change_hold again_hold) _
            (upto (k + 1) change_wait reset_wait) (tickets + 1) (change_tickets n (k + 1)) made.0 made.1.1
            (λ i s f. upto_with k change_hold again_hold _ (rw t refl) i)
            (λ i s f. upto_with k change_wait reset_wait _
            (ap (λ v. succeeded (departed v) 1100 100) waits ∙ (rw t refl))
            i) (omega (arith, other_next k some ch.tenth, ch.two)),
      )

  -- the first zone and each tenth one have no turn
  pub change_pass : (k : ℕ) (c : Core) → 0 < k → k ≤ n → is_changed k ≡ false → Changed k c → Changed (k + 1) c
  change_pass k c some few e life =
      life_same n (member_after position) nodes own first _ (upto (k + 1) change_hold again_hold) _
      (upto (k + 1) change_wait reset_wait) (change_tickets n k) (change_tickets n (k + 1)) c life
      (λ i s f. upto_same k change_hold again_hold (rw e refl) i)
      (λ i s f. upto_same k change_wait reset_wait (rw e refl) i) (passed_tickets n k some e)
