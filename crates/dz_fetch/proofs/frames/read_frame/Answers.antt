-- What was read is a frame, or a part of one.
use Rattle.std.proofs.Common.{◌≡◌, ◌∙◌, length, refl, ap, arith}
use Rattle.dz_name.specs.Numbers.{number_of_two}
use Rattle.dz_fetch.proofs.FrameLemmas.{short_part, next_is, octets_below}
use Rattle.dz_fetch.proofs.frames.read_frame.Goals as goal

pub returns-then-len-lt-LENGTH_OCTETS-clause-next : goal.returns-then-len-lt-LENGTH_OCTETS-clause-next
returns-then-len-lt-LENGTH_OCTETS-clause-next g c =
    short_part c.clear.new.self.items c.read_to.new.octets.items _ _ _ c.in_ok-read_to.ensures.read (omega arith)

pub returns-clause-next : goal.returns-clause-next
returns-clause-next g c =
    let front = c.read_to.new.octets.items in
    let octets = c.read_to-2.new.octets.items in
    let two : length front ≡ 2 = omega (arith, c.in_ok-read_to.ensures.read.fits) in
    let size : c.number_of_two.result ≡ number_of_two front =
    c.number_of_two.ensures ∙ ap number_of_two c.deref.ensures.value in
    next_is front octets c.number_of_two.result c.len-2.result _ _ _ _
    (octets_below octets (λ i inside. omega (arith, inside, c.type_inv.frame))) two size
    (omega arith) c.in_ok-read_to-2.ensures.read refl
