use Rattle.std.proofs.Common.{◌≡◌, ◌∙◌, ◌-◌, ◌+◌, sym, ap, arith, length, length-append, inl, inr}
use Rattle.std.specs.Prelude.{Some}
use Rattle.dz_lookup.specs.Found.{meaning}
use Rattle.dz_lookup.specs.Chain.{next_name}
use Rattle.dz_lookup.proofs.LinkLemmas.{leads_next, led_behind}
use Rattle.dz_lookup.proofs.Follow.{chain_begins, chain_ends, chain_full, chain_too_long, step_stops, step_goes_on}
use Rattle.dz_lookup.proofs.Follow.{next_within}
use Rattle.dz_lookup.proofs.chain.follow.Goals.{then-is_answered_by-via-then-is_answered_by}
use Rattle.dz_lookup.proofs.chain.follow.Goals.{then-is_answered_by-via-else-is_answered_by+then-not-is_next}
use Rattle.dz_lookup.proofs.chain.follow.Goals as goal

pub trail-init : goal.trail-init
trail-init g c = record {
  few = rw c.requires.empty (omega arith);
  within = c.requires.within;
  next = rw c.requires.empty tt;
  rest = chain_begins c.args.version.now.apex c.args.version.now.records c.args.name.now c.args.kind c.args.chain.now
      c.requires.empty;
}

pub returns-in-None-clause-trail : goal.returns-in-None-clause-trail
returns-in-None-clause-trail g c =
    let e = chain_ends (16 - length c.trail.chain) c.args.version.now.apex c.args.version.now.records c.args.kind
    _ c.trail.asked (meaning c.find_near-finding.result.found) (omega arith) c.find_near-finding.ensures.found
    (sym (rw c.in-None.is at c.leading.ensures)) in
    c.end_at.ensures ∙ ap (λ x. x.trail) (sym e ∙ c.trail.invariant.rest)

pub returns-in-None-clause-ending : goal.returns-in-None-clause-ending
returns-in-None-clause-ending g c =
    let e = chain_ends (16 - length c.trail.chain) c.args.version.now.apex c.args.version.now.records c.args.kind
    _ c.trail.asked (meaning c.find_near-finding.result.found) (omega arith) c.find_near-finding.ensures.found
    (sym (rw c.in-None.is at c.leading.ensures)) in
    ap (λ x. x.ending) (sym e ∙ c.trail.invariant.rest)

pub returns-in-None-led_to-clause-trail : goal.returns-in-None-led_to-clause-trail
returns-in-None-led_to-clause-trail g c =
    let e = chain_too_long (16 - length c.trail.chain) c.args.version.now.apex c.args.version.now.records c.args.kind
    c.trail.chain c.trail.asked (meaning c.find_near-finding.result.found) c.in-Some.record.now (omega arith)
    c.find_near-finding.ensures.found (rw c.in-Some.is at c.leading.ensures)
    (sym (rw c.in-None-led_to.is at c.led_to.ensures)) in
    ap (λ x. x.trail) (sym e ∙ c.trail.invariant.rest)

pub returns-in-None-led_to-clause-ending : goal.returns-in-None-led_to-clause-ending
returns-in-None-led_to-clause-ending g c =
    let e = chain_too_long (16 - length c.trail.chain) c.args.version.now.apex c.args.version.now.records c.args.kind
    c.trail.chain c.trail.asked (meaning c.find_near-finding.result.found) c.in-Some.record.now (omega arith)
    c.find_near-finding.ensures.found (rw c.in-Some.is at c.leading.ensures)
    (sym (rw c.in-None-led_to.is at c.led_to.ensures)) in
    ap (λ x. x.ending) (sym e ∙ c.trail.invariant.rest)

pub returns-then-is_answered_by-clause-trail : goal.returns-then-is_answered_by-clause-trail
returns-then-is_answered_by-clause-trail g c =
    let stops = step_stops c.args.version.now.apex c.args.version.now.records c.args.kind c.trail.asked c.trail.chain
    c.push.new.self (meaning c.find_near-finding.result.found) c.in-Some.record.now c.in-Some-led_to.target _
    (omega arith)
    c.trail.invariant.rest c.find_near-finding.ensures.found (rw c.in-Some.is at c.leading.ensures)
    (rw c.in-Some-led_to.is at c.led_to.ensures) c.push.ensures in
    ap (λ x. x.trail) (sym (stops (elim c.then-is_answered_by.branch [
      | then-is_answered_by-via-then-is_answered_by w ↦ inl (sym c.is_answered_by.ensures ∙ w.if-is_answered_by.true)
      | then-is_answered_by-via-else-is_answered_by+then-not-is_next w ↦
          inr (sym (rw (w.if-not-is_next.true, w.apex.ensures) at w.is_next.ensures))
    ])))

pub returns-then-is_answered_by-clause-ending : goal.returns-then-is_answered_by-clause-ending
returns-then-is_answered_by-clause-ending g c =
    let stops = step_stops c.args.version.now.apex c.args.version.now.records c.args.kind c.trail.asked c.trail.chain
    c.push.new.self (meaning c.find_near-finding.result.found) c.in-Some.record.now c.in-Some-led_to.target _
    (omega arith)
    c.trail.invariant.rest c.find_near-finding.ensures.found (rw c.in-Some.is at c.leading.ensures)
    (rw c.in-Some-led_to.is at c.led_to.ensures) c.push.ensures in
    ap (λ x. x.ending) (sym (stops (elim c.then-is_answered_by.branch [
      | then-is_answered_by-via-then-is_answered_by w ↦ inl (sym c.is_answered_by.ensures ∙ w.if-is_answered_by.true)
      | then-is_answered_by-via-else-is_answered_by+then-not-is_next w ↦
          inr (sym (rw (w.if-not-is_next.true, w.apex.ensures) at w.is_next.ensures))
    ])))

pub trail-preserved : goal.trail-preserved
trail-preserved g c =
    let on : Some c.in-Some-led_to.target ≡ next_name c.args.version.now.apex c.push.new.self
    (Some c.in-Some-led_to.target) = rw (c.if-not-is_next.false, c.apex.ensures) at c.is_next.ensures in
    let more : length c.push.new.self ≡ length c.trail.chain + 1 =
    ap length c.push.ensures ∙ length-append c.trail.chain _ in
    let left : 16 - length c.push.new.self ≡ 16 - length c.trail.chain - 1 = omega arith in
    let led = rw c.in-Some-led_to.is at c.led_to.ensures in
    record {
      few = omega arith;
      within = next_within c.args.version.now.apex c.push.new.self c.in-Some-led_to.target (sym on);
      next = rw c.push.ensures (leads_next c.trail.chain c.trail.asked c.in-Some-led_to.target c.in-Some.record.now
          (led_behind c.trail.asked c.in-Some-led_to.target c.in-Some.record.now led));
      rest = rw left (step_goes_on c.args.version.now.apex c.args.version.now.records
          c.args.kind c.trail.asked c.trail.chain c.push.new.self
          (meaning c.find_near-finding.result.found) c.in-Some.record.now c.in-Some-led_to.target _ (omega arith)
          c.trail.invariant.rest c.find_near-finding.ensures.found (rw c.in-Some.is at c.leading.ensures) led
          c.push.ensures (sym c.is_answered_by.ensures ∙ c.if-is_answered_by.false) (sym on));
    }

pub returns-clause-trail : goal.returns-clause-trail
returns-clause-trail g c =
    let e = chain_full (16 - length c.trail.chain) c.args.version.now.apex c.args.version.now.records c.args.kind _
    c.trail.asked (omega arith) in
    ap (λ x. x.trail) (sym e ∙ c.trail.invariant.rest)

pub returns-clause-ending : goal.returns-clause-ending
returns-clause-ending g c =
    let e = chain_full (16 - length c.trail.chain) c.args.version.now.apex c.args.version.now.records c.args.kind _
    c.trail.asked (omega arith) in
    ap (λ x. x.ending) (sym e ∙ c.trail.invariant.rest)
