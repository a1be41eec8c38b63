use Rattle.std.proofs.Common.{sym, ◌∙◌, ap, refl}
use Rattle.dz_fleet.specs.Weighing.{octets_in, written}
use Rattle.dz_fleet.proofs.SoundLemmas.{among_stands}
use Rattle.dz_fleet.proofs.TakeLemmas.{follows, tells}
use Rattle.dz_fleet.proofs.SettleLemmas.{standing_by, published_aftermath, confirmed_aftermath, settled_published}
use Rattle.dz_fleet.proofs.SettleLemmas.{settled_confirmed, settled_refused, settled_policy, settled_stale, stale_some}
use Rattle.dz_fleet.proofs.SettleLemmas.{never_memory}
use Rattle.dz_fleet.proofs.fleet.Fleet.settle.Goals.{in-Published, in-Confirmed, in-Refused, in-PolicyRefused}
use Rattle.dz_fleet.proofs.fleet.Fleet.settle.Goals.{in-Stale}
use Rattle.dz_fleet.proofs.fleet.Fleet.settle.Goals as goal

pub end_taken-requires-clause-standing : goal.end_taken-requires-clause-standing
end_taken-requires-clause-standing c =
    let v = sym c.requires.fits.verdict ∙ (sym c.into_parts-entry.ensures.verdict ∙ c.in-Published.is) in
    standing_by c.args.self.now c.args.job (octets_in c.args.weighed.entry) c.requires.fits.used _ v
    (λ n h. absurd (cc))

pub end_taken-requires-clause-follows : goal.end_taken-requires-clause-follows
end_taken-requires-clause-follows c =
    let o = octets_in c.args.weighed.entry in
    let fits = c.requires.fits in
    let v = sym fits.verdict ∙ (sym c.into_parts-entry.ensures.verdict ∙ c.in-Published.is) in
    let none = standing_by c.args.self.now c.args.job o fits.used _ v (λ n h. absurd (cc)) in
    λ valid. rw (c.into_parts-entry.ensures.entry, fits.entry)
    (follows c.args.self.now c.args.job o (rw c.self.view_is at c.self.invariant.0.sound) c.requires.flying valid none
    fits.used ((tells c.args.self.now c.args.job o).approved (rw v refl)))

pub end_taken-requires-clause-made : goal.end_taken-requires-clause-made
end_taken-requires-clause-made c =
    let o = octets_in c.args.weighed.entry in
    let fits = c.requires.fits in
    let v = sym fits.verdict ∙ (sym c.into_parts-entry.ensures.verdict ∙ c.in-Published.is) in
    let none = standing_by c.args.self.now c.args.job o fits.used _ v (λ n h. absurd (cc)) in
    let held = c.requires.flying.held (among_stands c.args.self.now c.args.job
    (rw c.self.view_is at c.self.invariant.0.sound) c.requires.flying.there none) in
    let a = published_aftermath c.args.self.now c.args.job o fits.used _ _ _ v held in
    let w = sym c.into_parts-entry.ensures.verdict ∙ c.in-Published.is in
    let r = rw w at fits.renewed in
    let values = rw (w, a) at fits.values in
    rw c.into_parts-entry.ensures.entry record {
      renewed = c.into_parts-entry.ensures.renewed ∙ r;
      values = ap (written c.args.self.now.values) c.into_parts-entry.ensures.values ∙ values;
    }

pub end_taken-requires-in-Confirmed-clause-standing : goal.end_taken-requires-in-Confirmed-clause-standing
end_taken-requires-in-Confirmed-clause-standing c =
    let v = sym c.requires.fits.verdict ∙ (sym c.into_parts-entry.ensures.verdict ∙ c.in-Confirmed.is) in
    standing_by c.args.self.now c.args.job (octets_in c.args.weighed.entry) c.requires.fits.used _ v
    (λ n h. absurd (cc))

pub end_taken-requires-in-Confirmed-clause-follows : goal.end_taken-requires-in-Confirmed-clause-follows
end_taken-requires-in-Confirmed-clause-follows c =
    let o = octets_in c.args.weighed.entry in
    let fits = c.requires.fits in
    let v = sym fits.verdict ∙ (sym c.into_parts-entry.ensures.verdict ∙ c.in-Confirmed.is) in
    let none = standing_by c.args.self.now c.args.job o fits.used _ v (λ n h. absurd (cc)) in
    λ valid. rw (c.into_parts-entry.ensures.entry, fits.entry)
    (follows c.args.self.now c.args.job o (rw c.self.view_is at c.self.invariant.0.sound) c.requires.flying valid none
    fits.used ((tells c.args.self.now c.args.job o).approved (rw v refl)))

pub end_taken-requires-in-Confirmed-clause-made : goal.end_taken-requires-in-Confirmed-clause-made
end_taken-requires-in-Confirmed-clause-made c =
    let o = octets_in c.args.weighed.entry in
    let fits = c.requires.fits in
    let v = sym fits.verdict ∙ (sym c.into_parts-entry.ensures.verdict ∙ c.in-Confirmed.is) in
    let none = standing_by c.args.self.now c.args.job o fits.used _ v (λ n h. absurd (cc)) in
    let held = c.requires.flying.held (among_stands c.args.self.now c.args.job
    (rw c.self.view_is at c.self.invariant.0.sound) c.requires.flying.there none) in
    let a = confirmed_aftermath c.args.self.now c.args.job o fits.used _ _ v held in
    let w = sym c.into_parts-entry.ensures.verdict ∙ c.in-Confirmed.is in
    let r = rw w at fits.renewed in
    let values = rw w at fits.values in
    rw (c.into_parts-entry.ensures.entry, ← a) record {
      renewed = c.into_parts-entry.ensures.renewed ∙ r;
      values = ap (written c.args.self.now.values) c.into_parts-entry.ensures.values ∙ values;
    }

pub end_unchanged-requires-clause-standing : goal.end_unchanged-requires-clause-standing
end_unchanged-requires-clause-standing c =
    let v = sym c.requires.fits.verdict ∙ (sym c.into_parts-entry.ensures.verdict ∙ c.in-Refused.is) in
    standing_by c.args.self.now c.args.job (octets_in c.args.weighed.entry) c.requires.fits.used _ v
    (λ n h. absurd (cc))

pub end_unchanged-requires-in-PolicyRefused-clause-standing :
    goal.end_unchanged-requires-in-PolicyRefused-clause-standing
end_unchanged-requires-in-PolicyRefused-clause-standing c =
    let v = sym c.requires.fits.verdict ∙ (sym c.into_parts-entry.ensures.verdict ∙ c.in-PolicyRefused.is) in
    standing_by c.args.self.now c.args.job (octets_in c.args.weighed.entry) c.requires.fits.used _ v
    (λ n h. absurd (cc))

pub end_stale-requires-clause-ended : goal.end_stale-requires-clause-ended
end_stale-requires-clause-ended c =
    let v = sym c.requires.fits.verdict ∙ (sym c.into_parts-entry.ensures.verdict ∙ c.in-Stale.is) in
    stale_some c.args.self.now c.args.job (octets_in c.args.weighed.entry) c.requires.fits.used _ v

pub unreachable-requires : goal.unreachable-requires
unreachable-requires c =
    let v = sym c.requires.fits.verdict ∙ (sym c.into_parts-entry.ensures.verdict ∙ c.in-OutOfMemory.is) in
    never_memory c.args.self.now c.args.job (octets_in c.args.weighed.entry) c.requires.fits.used v

pub returns-clause-core : goal.returns-clause-core
returns-clause-core c =
    let o = octets_in c.args.weighed.entry in
    let fits = c.requires.fits in
    let s = c.args.self.now in
    let j = c.args.job in
    let parts = c.into_parts-entry.ensures in
    elim c.match-verdict.branch [
      | in-Published w ↦
          let v = sym fits.verdict ∙ (sym parts.verdict ∙ w.in-Published.is) in
          let none = standing_by s j o fits.used _ v (λ n h. absurd (cc)) in
          let held = c.requires.flying.held
          (among_stands s j (rw c.self.view_is at c.self.invariant.0.sound) c.requires.flying.there none) in
          w.self-is ∙ ((rw parts.entry at w.end_taken.ensures)
          ∙ settled_published s j o fits.used c.args.weighed.moment _ _ _ v held)
      | in-Confirmed w ↦
          let v = sym fits.verdict ∙ (sym parts.verdict ∙ w.in-Confirmed.is) in
          let none = standing_by s j o fits.used _ v (λ n h. absurd (cc)) in
          let held = c.requires.flying.held
          (among_stands s j (rw c.self.view_is at c.self.invariant.0.sound) c.requires.flying.there none) in
          w.self-is ∙ ((rw parts.entry at w.end_taken-in-Confirmed.ensures)
          ∙ settled_confirmed s j o fits.used c.args.weighed.moment _ _ v held)
      | in-Refused w ↦
          let v = sym fits.verdict ∙ (sym parts.verdict ∙ w.in-Refused.is) in
          w.self-is ∙ ((rw (parts.moment, w.is_old_serial.ensures) at w.end_unchanged.ensures)
          ∙ settled_refused s j o fits.used c.args.weighed.moment _ v)
      | in-PolicyRefused w ↦
          let v = sym fits.verdict ∙ (sym parts.verdict ∙ w.in-PolicyRefused.is) in
          w.self-is ∙ ((rw parts.moment at w.end_unchanged-in-PolicyRefused.ensures)
          ∙ settled_policy s j o fits.used c.args.weighed.moment _ v)
      | in-Stale w ↦
          let v = sym fits.verdict ∙ (sym parts.verdict ∙ w.in-Stale.is) in
          w.self-is ∙ (w.end_stale.ensures ∙ settled_stale s j o fits.used c.args.weighed.moment _ v)
    ]
