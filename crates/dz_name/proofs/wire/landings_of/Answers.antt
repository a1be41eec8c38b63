use Rattle.std.proofs.Common.{refl, length, ◌≤◌, ◌⊎◌, inl, inr, arith, ◌++◌, ◌∷◌, [], length-append}
use Rattle.dz_name.specs.inner.Landings.{AreLandings}
use Rattle.std.proofs.lemmas.Bool.{cases_lt}
use Rattle.dz_name.proofs.LandingLemmas.{more_stays, more_goes_on, all_end}
use Rattle.dz_name.proofs.wire.landings_of.Goals as goal
use Rattle.dz_name.proofs.wire.landings_of.Goals.{in-Some, in-None}

pub offsets-preserved : goal.offsets-preserved
offsets-preserved g c = record {
  steps = omega (arith, c.offsets.invariant.steps, c.tick.ensures);
  long = rw c.in_ok-push.ensures.items
      (omega
      (arith, c.offsets.invariant.long, length-append c.offsets.landings.items (c.match-leads_to.landing ∷ [])));
  are = rw c.in_ok-push.ensures.items (elim c.match-leads_to.branch as (λ _.
      AreLandings c.args.message.now (c.offsets.landings.items ++ c.match-leads_to.landing ∷ [])) [
        | in-Some w ↦
            more_goes_on c.args.message.now c.offsets.landings.items c.offsets.at w.in-Some.target
            c.match-leads_to.landing
            c.offsets.invariant.are c.offsets.invariant.long w.in-Some.ensures.some
            (rw (← w.landing-is) at w.index.ensures)
        | in-None w ↦ rw w.landing-is (more_stays c.args.message.now c.offsets.landings.items c.offsets.at
            c.offsets.invariant.are c.offsets.invariant.long (w.in-None.ensures.none refl))
      ]);
}

pub returns-clause-ends : goal.returns-clause-ends
returns-clause-ends g c =
    let long : (length c.args.message.now ≤ length c.offsets.landings.items)
    ⊎ (16384 ≤ length c.offsets.landings.items) =
    elim (cases_lt (length c.args.message.now) 16384) [
      | inl short ↦ inl (omega (arith, c.offsets.invariant.long, c.min-reach.ensures))
      | inr far ↦ inr (omega (arith, c.offsets.invariant.long, c.min-reach.ensures))
    ] in
    all_end c.args.message.now c.offsets.landings.items c.offsets.invariant.are
    (λ i. omega (arith, c.type_inv.message i)) long
