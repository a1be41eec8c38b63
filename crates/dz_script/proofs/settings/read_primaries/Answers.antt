use Rattle.std.proofs.Common.{◌≡◌, ◌∙◌, sym, ap, length, arith, length-append}
use Rattle.dz_script.proofs.PrimaryLemmas.{one_more, bad_part, all_read, too_many, few_enough, not_all}
use Rattle.dz_script.proofs.settings.read_primaries.Goals as goal

pub returns-then-len-eq-PRIMARIES : goal.returns-then-len-eq-PRIMARIES
returns-then-len-eq-PRIMARIES c = sym (too_many c.args.text.now (omega (arith, ap length c.in-Some.ensures)))

pub returns-in-None : goal.returns-in-None
returns-in-None c =
    sym (not_all c.args.text.now (c.parts.invariant.all ∙ bad_part c.parts.peers.items c.in-Some.part.now c.parts.parts
    c.in-Some.rest c.in-Some.ensures (sym c.in-None.ensures)))

pub parts-preserved : goal.parts-preserved
parts-preserved c =
    let items = c.in_ok-push-in-Some-read_peer.ensures.items in
    let more = simp length-append at (ap length items) in
    record {
      all = c.parts.invariant.all ∙ rw items (one_more c.parts.peers.items c.in-Some-read_peer.peer c.in-Some.part.now
          c.parts.parts c.in-Some.rest c.in-Some.ensures (sym c.in-Some-read_peer.ensures));
      count = omega (arith, more, ap length c.in-Some.ensures);
      few = omega (arith, more);
    }

pub returns : goal.returns
returns c =
    let none : length c.parts.parts ≡ 0 = ap length c.in_default.ensures in
    rw c.from_vec.ensures (sym (few_enough c.args.text.now (omega arith)
    ∙ (c.parts.invariant.all ∙ all_read c.parts.peers.items c.parts.parts c.in_default.ensures)))
