use Rattle.std.proofs.Common.{sym, ◌∙◌, refl}
use Rattle.dz_fleet.proofs.fleet.Fleet.hear.Goals as goal

pub returns-then-has_address : goal.returns-then-has_address
returns-then-has_address c =
    let e = rw c.in-Some.is at c.primaries.ensures in
    let t = sym (rw c.as_slice.ensures at c.has_address.ensures) ∙ c.if-has_address.true in
    rw (← c.self.view_is, ← c.self.invariant.0.after, ← e, t) refl

pub returns-else-has_address : goal.returns-else-has_address
returns-else-has_address c =
    let e = rw c.in-Some.is at c.primaries.ensures in
    let f = sym (rw c.as_slice.ensures at c.has_address.ensures) ∙ c.if-has_address.false in
    rw (← c.self.view_is, ← c.self.invariant.0.after, ← e, f) refl
