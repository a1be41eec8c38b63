-- The three kinds of a zone's job: a transfer that breaks off, a whole one, and one of differences.
use Rattle.std.proofs.Common.{◌≡◌, ℕ, ◌+◌, ◌^◌, ◌<◌, ◌≤◌, Bool, true, false, List, Option, Some, None, refl, sym, ap}
use Rattle.std.proofs.Common.{◌∙◌, arith, inl, inr}
use Rattle.std.specs.Prelude.{codes, if◌then◌else◌}
use Rattle.std.proofs.lemmas.Bool.{cases_Bool}
use Rattle.dz_zone.specs.Version.{Zone}
use Rattle.dz_zonemd.specs.Acceptance.{accepts}
use Rattle.dz_zonemd.specs.Standing.{standing}
use Rattle.dz_zonemd.specs.declared.acceptance.Standing.{Standing}
use Rattle.dz_zonemd.specs.declared.acceptance.Standing.TheVariants.{Absent, Unsupported, Good, Bad}
use Rattle.dz_settings.specs.declared.config.Policy.{Policy}
use Rattle.dz_settings.specs.declared.config.Policy.TheVariants.{Present, Require}
use Rattle.dz_take.specs.Outcome.{outcome}
use Rattle.dz_member.specs.declared.listing.Node.{Node}
use Rattle.dz_member.specs.Membership.{MemberOf}
use Rattle.dz_timer.specs.Values.{ValuesOf, departed, succeeded, refused}
use Rattle.dz_history.specs.State.{policy_at}
use Rattle.dz_fleet.specs.Core.{Core, state_of}
use Rattle.dz_gen.specs.Records.{zone, is_strict}
use Rattle.dz_gen.specs.Messages.{part_of, whole_of, changes_of}
use Rattle.dz_gen.specs.Outcomes.{first_version, second_version, policy_of}
use Rattle.dz_gen.proofs.ComesLemmas.{zones_come}
use Rattle.dz_rehearsal.specs.Life.{member_of, reset_member, Makes}
use Rattle.dz_rehearsal.proofs.LifeLemmas.{Life, with}
use Rattle.dz_rehearsal.proofs.StepLemmas.{IsNext, transfer_at, step_refused, step_new}
use Rattle.dz_rehearsal.proofs.ZoneRefreshLemmas.{first_refresh, second_refresh}
use Rattle.dz_rehearsal.proofs.SeatLemmas.{HasSeats, seats_of, policy_for, policy_none, policy_strict}
use Rattle.dz_rehearsal.proofs.ZoneUsedLemmas.{part_is, whole_is, changes_is}

-- ---- policies
-- what `require` accepts, `present` does
present_too : (s : Standing) → accepts Require s ≡ true → accepts Present s ≡ true
present_too Absent h = absurd (cc)
present_too Unsupported h = absurd (cc)
present_too Good h = refl
present_too Bad h = absurd (cc)

-- so does what the policy of a zone of either kind accepts
by_strict : (b : Bool) (s : Standing) → accepts (if b then Require else Present) s ≡ true → accepts Present s ≡ true
by_strict true s h = present_too s h
by_strict false s h = h

-- serial 1 is accepted by the zone's policy
pub first_accepted : (k : ℕ) → 0 < k → k ≤ 1000
    → accepts (policy_of k) (standing (first_version k).apex (first_version k).records) ≡ true
first_accepted k some few = (zones_come k 0 some few (omega arith)).whole.accepted

-- and by `present`
pub first_present : (k : ℕ) → 0 < k → k ≤ 1000
    → accepts Present (standing (first_version k).apex (first_version k).records) ≡ true
first_present k some few = by_strict (is_strict k) (standing (first_version k).apex (first_version k).records)
    (first_accepted k some few)

module _ (n : ℕ) (member : ℕ → MemberOf) (nodes : List Node) (own : Zone) (first : ValuesOf) (hold : ℕ → Option Zone)
    (value : ℕ → ValuesOf) (tickets : ℕ) (c : Core)
    (life : Life n member nodes own first hold value tickets c) (named : (i : ℕ) → (member i).zone ≡ zone i) (k : ℕ)
    (some : 0 < k) (few : k ≤ n) where
  has : HasSeats n member (state_of c)
  has = seats_of n member nodes own first hold value tickets c life named

  -- a zone that has its first membership
  pub policy_first : member k ≡ member_of k → policy_at (state_of c) (zone k) ≡ Some (policy_of k)
  policy_first is = elim (cases_Bool (is_strict k)) [
    | inl t ↦
        let choice : (member k).choice ≡ Some (codes "strict") =
        ap (λ (m : MemberOf). m.choice) is ∙ ap (λ b. if b then Some (codes "strict") else None) t in
        policy_for n member (state_of c) has k some few
        ∙ policy_strict (member k) (ap (λ (m : MemberOf). m.catalog) is) choice
        ∙ sym (ap (λ b. Some (if b then Require else Present)) t)
    | inr f ↦
        let choice : (member k).choice ≡ None = ap (λ (m : MemberOf). m.choice) is
        ∙ ap (λ b. if b then Some (codes "strict") else None) f in
        policy_for n member (state_of c) has k some few
        ∙ policy_none (member k) (ap (λ (m : MemberOf). m.catalog) is) choice
        ∙ sym (ap (λ b. Some (if b then Require else Present)) f)
  ]

  -- a zone that was reset
  pub policy_reset : (position : ℕ) → member k ≡ reset_member position → policy_at (state_of c) (zone k) ≡ Some Present
  policy_reset position is =
      policy_for n member (state_of c) has k some few
      ∙ policy_none (member k) (ap (λ (m : MemberOf). m.catalog) is) (ap (λ (m : MemberOf). m.choice) is)

  -- ---- its turn
  module _ (limit : n ≤ 1000) (room : tickets + 1 < 2 ^ 16) (moment : ℕ) (soon : moment < 2 ^ 40)
      (next : IsNext n first value k) (late : (value k).timing.next ≤ moment) where
    abbrev id : ℕ
    id = tickets + 1

    -- its first transfer breaks off
    pub step_part : hold k ≡ None
        → (d : Core) × (Makes c moment (tickets + 1) (part_of (tickets + 1) k) d
        × Life n member nodes own first hold (with value k (refused (departed (value k)) moment None 1))
        (tickets + 1) d)
    step_part none =
        let comes = zones_come k id some (omega (arith, few, limit)) room in
        step_refused n member nodes own first hold value tickets c life named k some few room moment soon next late
        (part_of id k)
        (ap (λ h. outcome (transfer_at k h (value k).whole id) (part_of id k)) none ∙ comes.part) none
        ((part_is k id some (omega (arith, few, limit)) room).used (transfer_at k (hold k) (value k).whole id))

    -- it is transferred whole, under a policy that accepts it
    pub step_whole : (policy : Policy) → hold k ≡ None → policy_at (state_of c) (zone k) ≡ Some policy
        → accepts policy (standing (first_version k).apex (first_version k).records) ≡ true
        → (d : Core) × (Makes c moment (tickets + 1) (whole_of (tickets + 1) k) d
        × Life n member nodes own first (with hold k (Some (first_version k)))
        (with value k (succeeded (departed (value k)) moment 100)) (tickets + 1) d)
    step_whole policy none approving accepted =
        let comes = zones_come k id some (omega (arith, few, limit)) room in
        step_new n member nodes own first hold value tickets c life named k some few room moment soon next late
        (whole_of id k) (first_version k) policy
        (ap (λ h. outcome (transfer_at k h (value k).whole id) (whole_of id k)) none
        ∙ comes.whole.comes) approving accepted
        ((whole_is k id some (omega (arith, few, limit)) room).used (transfer_at k (hold k) (value k).whole id))
        (first_refresh k some (omega (arith, few, limit)))

    -- it changes
    pub step_changes : hold k ≡ Some (first_version k) → (value k).whole ≡ false
        → policy_at (state_of c) (zone k) ≡ Some (policy_of k)
        → (d : Core) × (Makes c moment (tickets + 1) (changes_of (tickets + 1) k) d
        × Life n member nodes own first (with hold k (Some (second_version k)))
        (with value k (succeeded (departed (value k)) moment 100)) (tickets + 1) d)
    step_changes held differences approving =
        let comes = zones_come k id some (omega (arith, few, limit)) room in
        step_new n member nodes own first hold value tickets c life named k some few room moment soon next late
        (changes_of id k) (second_version k) (policy_of k)
        (ap (λ h. outcome (transfer_at k h (value k).whole id) (changes_of id k)) held
        ∙ ap (λ b. outcome (transfer_at k (Some (first_version k)) b id) (changes_of id k)) differences
        ∙ comes.changes.comes) approving comes.changes.accepted
        ((changes_is k id some (omega (arith, few, limit)) room).used (transfer_at k (hold k) (value k).whole id))
        (second_refresh k some (omega (arith, few, limit)))
