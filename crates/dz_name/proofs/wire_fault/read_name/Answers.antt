use Rattle.std.proofs.Common.{◌+◌, refl, arith, length-append, [], ◌∷◌}
use Rattle.dz_name.specs.Name.{wire_of}
use Rattle.dz_name.specs.Reading.{at_root, at_label, at_pointer, no_octet, cut_pointer, bad_kind, forward, label_at}
use Rattle.dz_name.specs.Reading.{target_at}
use Rattle.dz_name.proofs.ReadingLemmas.{in_front-root, in_front-label, in_front-pointer, in_front-nothing}
use Rattle.dz_name.proofs.ReadingLemmas.{length_label}
use Rattle.dz_name.proofs.LandingLemmas.{lands_before, lands_like, landing_lands, in_piece, takes_few, takes_label}
use Rattle.dz_name.proofs.LandingLemmas.{takes_pointer}
use Rattle.dz_name.proofs.wire_fault.read_name.Goals as goal

pub octets-init : goal.octets-init
unfolding wire_of
octets-init g c = record {
  wire = rw c.root-name.ensures refl;
  short = omega arith;
  before = omega arith;
  read = λ rest reads. rw (c.root-name.ensures, in_front-nothing rest) reads;
  least = rw c.root-name.ensures (omega arith);
  most = λ ends. in_piece (omega arith);
}

pub returns-then-first-eq0-clause-reads : goal.returns-then-first-eq0-clause-reads
returns-then-first-eq0-clause-reads g c =
    rw (c.unwrap_or.ensures, ← in_front-root c.octets.name c.octets.behind (c.octets.offset + 1))
    (c.octets.invariant.read _ (at_root (omega arith) (omega arith)))

pub returns-then-first-eq0-clause-most : goal.returns-then-first-eq0-clause-most
returns-then-first-eq0-clause-most g c = λ ends.
    omega
    (arith, takes_few c.args.message.now (c.octets.invariant.most ends), c.octets.invariant.short, c.tick.ensures)

pub octets-preserved-then-first-lt64 : goal.octets-preserved-then-first-lt64
octets-preserved-then-first-lt64 g c =
    let whole = c.in_ok-check_label.ensures.whole in
    let room = c.in_ok-check_label.ensures.room in
    record {
      wire = omega (
        arith,
        whole,
        c.octets.invariant.wire,
        c.push_label.ensures.wire,
        length_label c.args.message.now c.octets.offset (omega (arith, whole)),
      );
      short = omega (arith, room);
      before = omega (arith, c.octets.invariant.before);
      read = λ rest reads.
          rw (
            c.push_label.ensures.labels,
            ← in_front-label c.octets.name c.octets.behind (label_at c.args.message.now c.octets.offset) rest,
          )
          (c.octets.invariant.read _ (at_label (omega arith) (omega arith) (omega arith) whole room reads));
      least = rw c.push_label.ensures.labels (omega (
        arith,
        c.octets.invariant.least,
        c.tick.ensures,
        length-append c.octets.name (label_at c.args.message.now c.octets.offset ∷ []),
      ));
      most = λ ends. takes_label c.args.message.now _ _ _ (c.octets.invariant.most ends) (omega arith)
          (omega (arith, c.tick.ensures, c.octets.invariant.least));
    }

pub returns-then-first-lt192-clause-reads : goal.returns-then-first-lt192-clause-reads
returns-then-first-lt192-clause-reads g c =
    c.octets.invariant.read _ (bad_kind (omega arith) (omega arith) (omega arith))

pub returns-then-first-lt192-clause-most : goal.returns-then-first-lt192-clause-most
returns-then-first-lt192-clause-most g c = λ ends.
    omega
    (arith, takes_few c.args.message.now (c.octets.invariant.most ends), c.octets.invariant.short, c.tick.ensures)

pub returns-then-message-offset-le1-clause-reads : goal.returns-then-message-offset-le1-clause-reads
returns-then-message-offset-le1-clause-reads g c =
    c.octets.invariant.read _ (cut_pointer (omega arith) (omega arith) (omega arith))

pub returns-then-message-offset-le1-clause-most : goal.returns-then-message-offset-le1-clause-most
returns-then-message-offset-le1-clause-most g c = λ ends.
    omega
    (arith, takes_few c.args.message.now (c.octets.invariant.most ends), c.octets.invariant.short, c.tick.ensures)

pub returns-then-piece-target-clause-reads : goal.returns-then-piece-target-clause-reads
returns-then-piece-target-clause-reads g c =
    c.octets.invariant.read _ (forward (omega arith) (omega arith) (omega arith))

pub returns-then-piece-target-clause-most : goal.returns-then-piece-target-clause-most
returns-then-piece-target-clause-most g c = λ ends.
    omega
    (arith, takes_few c.args.message.now (c.octets.invariant.most ends), c.octets.invariant.short, c.tick.ensures)

pub octets-smaller : goal.octets-smaller
octets-smaller g c =
    let lands = landing_lands c.args.message.now c.args.landings.now
    (target_at c.args.message.now c.octets.offset) c.requires in
    omega (arith, c.landing-piece.ensures, lands_before c.args.message.now lands)

pub octets-preserved : goal.octets-preserved
octets-preserved g c = record {
  wire = c.octets.invariant.wire;
  short = c.octets.invariant.short;
  before = omega arith;
  read = λ rest reads.
      let lands = landing_lands c.args.message.now c.args.landings.now
      (target_at c.args.message.now c.octets.offset) c.requires in
      let like = lands_like c.args.message.now c.octets.used rest lands (rw c.landing-piece.ensures at reads) in
      rw (
        c.unwrap_or-else-first-lt192.ensures,
        ← in_front-pointer c.octets.name c.octets.behind
            (c.octets.offset + 2) rest,
        ← like.like (c.octets.offset + 2),
      )
      (c.octets.invariant.read _ (at_pointer (omega arith) (omega arith) (omega arith) like.reads));
  least = omega (arith, c.octets.invariant.least, c.tick.ensures);
  most = λ ends. takes_pointer c.args.message.now c.args.landings.now
      (target_at c.args.message.now c.octets.offset) c.landing-piece.result _ ends (c.octets.invariant.most ends)
      c.octets.invariant.before (omega arith) (omega arith) (omega arith) refl c.landing-piece.ensures
      (omega (arith, c.tick.ensures, c.octets.invariant.least));
}

pub returns-clause-reads : goal.returns-clause-reads
returns-clause-reads g c = c.octets.invariant.read _ (no_octet (omega arith))

pub returns-clause-most : goal.returns-clause-most
returns-clause-most g c =
    λ ends. omega (arith, takes_few c.args.message.now (c.octets.invariant.most ends), c.octets.invariant.short)
